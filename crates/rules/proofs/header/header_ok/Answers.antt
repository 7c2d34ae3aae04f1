-- The tests are the definition's own.
use borrow.Author.Tests.{lt-leb, le-leb}
use Rattle.floor.specs.View.{view_of}
use Rattle.rules.specs.Header.{fields_ok, header_ok}
use Rattle.rules.proofs.header.header_ok.Goals as goal

pub returns-in_default : goal.returns-in_default
unfolding header_ok view_of
returns-in_default c = simp (lt-leb _ _ c.in_default.ensures)

pub returns : goal.returns
unfolding header_ok fields_ok view_of
returns c =
    let h = c.in-Some.ensures.1 in
    simp (le-leb _ _ c.in-Some.ensures.0, h.count, h.root, h.height, h.clear, c.size_for.ensures)
