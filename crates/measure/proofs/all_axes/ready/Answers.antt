-- Its tests are the definition's own, in the same order. Assumes nothing.
use Rattle.std.proofs.Common.{rules, sym}
use Rattle.measure.specs.Axis.{point_in, box_in}
use Rattle.measure.proofs.Answers.{measured_1, measured_2, every_ready, every_passes, every_fails}
use Rattle.measure.proofs.all_axes.ready.Goals as goal

pub returns-then-not-all-clause-err : goal.returns-then-not-all-clause-err
returns-then-not-all-clause-err c = λ f.
    rw (sym c.axes_of-axes.ensures) (measured_1 f _ (every_fails point_in _ (search rules)))

pub returns-then-not-all-2-clause-err : goal.returns-then-not-all-2-clause-err
returns-then-not-all-2-clause-err c = λ f.
    rw (sym c.axes_of-axes.ensures) (measured_2 f _ (every_passes point_in _ (search rules)) (every_fails box_in _ (search rules)))

pub ready_axes-requires : goal.ready_axes-requires
ready_axes-requires c =
    every_ready _ (every_passes point_in _ (search rules)) (every_passes box_in _ (search rules))
