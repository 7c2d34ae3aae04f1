-- What a question wants: bays that its badge is shown, strictly after its mark.
use Rattle.std.specs.Prelude.{Bool, ◌&&◌, ℕ}
use Rattle.floor.specs.View.{View}
use Rattle.question.specs.declared.Question.{Question}
use Rattle.nearest.specs.Shown.{shown_at, after_mark}

abbrev pub wanted_by : View → (ℕ → ℕ) → Question → ℕ → Bool
wanted_by v distance q j = shown_at v q.badge.0 j && after_mark v distance q.mark j
