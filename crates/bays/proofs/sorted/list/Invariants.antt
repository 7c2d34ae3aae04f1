-- At most one key for each slot passed.
use Rattle.std.proofs.Common.{◌≤◌}
use Rattle.bays.proofs.sorted.list.Given as goal

abbrev pub invariant-loop-j : goal.invariant-loop-j
invariant-loop-j l = l.n ≤ l.j
