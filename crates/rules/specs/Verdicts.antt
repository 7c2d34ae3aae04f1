-- The map check's answer: the first broken rule, each tried over the whole map before the next, and the lowest node at fault.
use Rattle.std.specs.Prelude.{◌≡◌, Bool, cond, ℕ, ◌<◌, ltb, Result, Ok, Err}
use mathlib.Core.List.{List, [], ◌∷◌, ◌++◌, Memᴰ}
use Rattle.numbers.specs.Below.{first_fail}
use Rattle.floor.specs.View.{View, view_of}
use Rattle.bays.specs.Bays.{bays_ok, BaysApart}
use Rattle.rules.specs.declared.Rule.{Rule}
use Rattle.rules.specs.declared.Rule.TheVariants.{Form, Fill, Links, Boxes, Bays}
use Rattle.rules.specs.declared.Fault.{Fault}
use Rattle.rules.specs.declared.Fault.TheVariants.{BadHeader, Broken}
use Rattle.rules.specs.Header.{header_ok, HeaderRight}
use Rattle.rules.specs.Form.{form_ok, InForm}
use Rattle.rules.specs.Fill.{fill_ok, WellFilled}
use Rattle.rules.specs.Links.{links_ok, WellLinked}
use Rattle.rules.specs.Boxes.{boxes_ok, WellBoxed}

-- document 01's number of a rule
abbrev pub rule_number : Rule → ℕ
rule_number Form = 12
rule_number Fill = 13
rule_number Links = 14
rule_number Boxes = 15
rule_number Bays = 16

-- document 01's rule number and node number of a fault
abbrev pub fault_number : Fault → ℕ
fault_number BadHeader = 11
fault_number (Broken r n) = rule_number r

abbrev pub fault_node : Fault → ℕ
fault_node BadHeader = 0
fault_node (Broken r n) = n

-- the check's answer: the map is accepted, or it has a fault
abbrev pub Verdict : Type 0
Verdict = Result (Unit {0}) Fault

-- the same of a verdict: 0 and 0 where the map is accepted
abbrev pub number_of : Verdict → ℕ
number_of (Ok u) = 0
number_of (Err e) = fault_number e

abbrev pub node_of : Verdict → ℕ
node_of (Ok u) = 0
node_of (Err e) = fault_node e

-- a rule, of node n
abbrev pub rule_ok : Rule → View → ℕ → Bool
rule_ok Form v n = form_ok v n
rule_ok Fill v n = fill_ok v n
rule_ok Links v n = links_ok v n
rule_ok Boxes v n = boxes_ok v n
rule_ok Bays v n = bays_ok v n

-- the property that it tests
abbrev pub RuleKept : Rule → View → ℕ → Type 0
RuleKept Form v n = InForm v n
RuleKept Fill v n = WellFilled v n
RuleKept Links v n = WellLinked v n
RuleKept Boxes v n = WellBoxed v n
RuleKept Bays v n = BaysApart v n

-- the lowest node that breaks a rule, or N
abbrev pub lowest_fault : Rule → View → ℕ
lowest_fault r v = first_fail (rule_ok r v) v.count

-- the order in which the rules are tried after the header's
abbrev pub order : List Rule
order = Form ∷ Fill ∷ Links ∷ Boxes ∷ Bays ∷ []

-- one rule, tried over the whole map
unfoldable pub tried_of : View → Rule → Verdict
tried_of v r = cond (ltb (lowest_fault r v) v.count) (Err (Broken r (lowest_fault r v))) (Ok tt)

-- the first of several that is broken
unfoldable pub first_broken : View → List Rule → Verdict
first_broken v [] = Ok tt
first_broken v (r ∷ rs) =
    cond (ltb (lowest_fault r v) v.count) (Err (Broken r (lowest_fault r v))) (first_broken v rs)

unfoldable pub verdict_of : List ℕ → Verdict
verdict_of m = cond (header_ok (view_of m)) (first_broken (view_of m) order) (Err BadHeader)

-- every node keeps a rule
abbrev pub KeptAll : Rule → View → Type 0
KeptAll r v = (n : ℕ) → n < v.count → RuleKept r v n

-- the property: a map that keeps every rule
pub record Keeps (v : View) : Type 0 where
  pub header : HeaderRight v
  pub rules : (r : Rule) → KeptAll r v

-- r is the first rule of rs that a node breaks, and n the lowest node that breaks it
pub record Breaks (v : View) (rs : List Rule) (r : Rule) (n : ℕ) : Type 0 where
  pub earlier : List Rule
  pub later : List Rule
  pub split : rs ≡ earlier ++ (r ∷ later)
  pub held : (q : Rule) → Memᴰ q earlier → KeptAll q v
  pub within : n < v.count
  pub fails : RuleKept r v n → ⊥
  pub below : (k : ℕ) → k < n → RuleKept r v k

-- what a verdict says of a map
abbrev pub Means : View → Verdict → Type 0
Means v (Ok u) = Keeps v
Means v (Err BadHeader) = HeaderRight v → ⊥
Means v (Err (Broken r n)) = HeaderRight v × Breaks v order r n
