-- What of the rules makes a map a tree. The laws of the tree rest on this alone, so that a rule can rest on them.
use Rattle.std.specs.Prelude.{ℕ, ◌<◌}
use Rattle.floor.specs.View.{View}
use Rattle.rules.specs.declared.Rule.TheVariants.{Form, Links, Boxes}
use Rattle.rules.specs.Verdicts.{KeptAll}

pub record Treelike (v : View) : Type 0 where
  pub rooted : v.root < v.count
  pub form : KeptAll Form v
  pub links : KeptAll Links v
  pub boxes : KeptAll Boxes v

-- every occupancy is a byte, as it is in a list of bytes
abbrev pub Narrow : View → Type 0
Narrow v = (n : ℕ) → n < v.count → v.occupied n < 256
