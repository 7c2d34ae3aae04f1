-- Plain distance: of a squared distance d, the whole number r with r² ≤ d < (r+1)².
use Rattle.std.specs.Prelude.{ℕ, ◌+◌, ◌*◌, ◌<◌, ◌≤◌}

pub record RootOf (d r : ℕ) : Type 0 where
  pub low : r * r ≤ d
  pub high : d < (r + 1) * (r + 1)
