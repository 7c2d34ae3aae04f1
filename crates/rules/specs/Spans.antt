-- Whether two spans are the same, end by end.
use Rattle.std.specs.Prelude.{Bool, ◌&&◌, ℤ}
use Rattle.std.specs.Int.Signed.{le_z}
use Rattle.measure.specs.declared.Span.{Span}

abbrev pub same_z : ℤ → ℤ → Bool
same_z a b = le_z a b && le_z b a

unfoldable pub same_span : Span → Span → Bool
same_span s t = same_z s.low t.low && same_z s.high t.high
