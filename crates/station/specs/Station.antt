-- What the exports of the station's library give: pairs of numbers in one, and the same definitions as the libraries.
use Rattle.std.specs.Prelude.{List, ℕ, ◌+◌, ◌*◌, ℤ}
use Rattle.measure.specs.declared.Axis.{Axis}
use Rattle.measure.specs.Answer.{axes_of}
use Rattle.question.specs.declared.Question.{Question}

-- two numbers in one: the first in the upper 32 bits
abbrev pub paired : ℕ → ℕ → ℕ
paired high low = 4294967296 * high + low

-- a question from its numbers
abbrev pub asked : ℤ → ℤ → ℕ → ℕ → ℕ → ℕ → Question
asked x y k badge dsq bay =
    record { from = record { x = x; y = y }; k = k; badge = record { 0 = badge }; mark = record { far = record { 0 = dsq }; bay = bay } }

-- the axes of a point and a box from their numbers
abbrev pub axes : ℤ → ℤ → ℤ → ℤ → ℤ → ℤ → List Axis
axes x y xlow xhigh ylow yhigh =
    axes_of (record { x = x; y = y }) (record { x = record { low = xlow; high = xhigh }; y = record { low = ylow; high = yhigh } })
