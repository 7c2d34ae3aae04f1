-- Every node passed keeps the rule.
use Rattle.std.proofs.Common.{◌≡◌, ℕ, ◌<◌, true}
use Rattle.floor.specs.View.{view_of}
use Rattle.rules.specs.Verdicts.{rule_ok}
use Rattle.rules.proofs.tried.Given as goal

abbrev pub invariant-loop-n : goal.invariant-loop-n
invariant-loop-n g l = (k : ℕ) → k < l.n → rule_ok l.rule (view_of l.map.bytes.now) k ≡ true
