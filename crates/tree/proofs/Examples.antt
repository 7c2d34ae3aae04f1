-- Both of document 01's example maps are accepted, by computing the verdict.
-- Assumes nothing.
use mathlib.Core.Path.{◌≡◌, refl}
use Rattle.std.specs.Prelude.{Ok}
use Rattle.measure.specs.Axis.{in_range, span_in}
use Rattle.words.specs.Words.{le_at, le_bytes}
use Rattle.floor.specs.Written.{slot_bytes, slots_bytes}
use Rattle.floor.specs.View.{view_of, filled}
use Rattle.bays.specs.Bays.{twin, lone, bays_ok}
use Rattle.rules.specs.Header.{fields_ok, header_ok}
use Rattle.rules.specs.Form.{refer_ok, entry_ok, blank_ok, slot_ok, form_ok}
use Rattle.rules.specs.Fill.{fill_ok}
use Rattle.rules.specs.Links.{named, named_ok, step_ok, links_ok}
use Rattle.rules.specs.Spans.{same_span}
use Rattle.rules.specs.Boxes.{boxes_ok}
use Rattle.rules.specs.Verdicts.{first_broken, verdict_of}
use Rattle.tree.specs.Examples.{empty_map, example_map}

-- the verdicts, with all that they are computed by unfolded
computed : (verdict_of empty_map ≡ Ok tt) × (verdict_of example_map ≡ Ok tt)
unfolding verdict_of first_broken header_ok fields_ok form_ok slot_ok entry_ok refer_ok blank_ok fill_ok links_ok named_ok named step_ok same_span boxes_ok bays_ok lone twin view_of filled le_at le_bytes slot_bytes slots_bytes in_range span_in lib.Count.ones lib.Count.ones_in
computed = (refl, refl)

pub empty_accepted : verdict_of empty_map ≡ Ok tt
empty_accepted = computed.0

pub example_accepted : verdict_of example_map ≡ Ok tt
example_accepted = computed.1
