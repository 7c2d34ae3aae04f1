-- From text to text: a good question's own text is answered with the page, printed; and the contract leaves no choice.
-- Assumes nothing.
use mathlib.Core.Path.{◌≡◌, sym, ap, ◌∙◌}
use mathlib.Core.Bool.{true, false}
use mathlib.Core.List.{List, []}
use Prim.Native.Nat.{ℕ, ◌<◌}
use native.Mathlib.Omega.{arith}
use lib.Dec.{leb}
use lib.ListN.{length, take}
use lib.Seq.{length-take-le, take_all}
use borrow.Author.Tests.{leb-true, leb-false}
use Rattle.order.proofs.Place.{by_test}
use Rattle.question.specs.declared.Question.{Question}
use Rattle.reader.specs.QuestionText.{question_text, Fitting}
use Rattle.reader.proofs.Theorems.{read_back, long_bad}
use Rattle.printer.specs.Printed.{printed}
use Rattle.printer.specs.Wrote.{Wrote}
use Rattle.printer.proofs.Writing.{wrote_unique}
use Rattle.words.specs.Words.{Bytes}
use Rattle.ask.specs.Told.{page_of}
use Rattle.ask.specs.Reply.{refusal}
use Rattle.record.specs.Record.{records_in}
use Rattle.record.proofs.Reading.{room_read}
use Rattle.ask.proofs.Answers.{granted, reply_page, reply_refused}
use Rattle.ask.proofs.Fitting.{granted_ground, page_small}
use Rattle.text.specs.Text.{empty_room, reply_text, answer_text}
use Rattle.text.proofs.Laws.{text_read, text_bad}

module _ (map : List ℕ) (q : Question) (f : Fitting q) where
  pub says_page : Bytes map → refusal map q (length empty_room) ≡ 0 → answer_text map (question_text q) ≡ printed 0 (page_of map q)
  says_page bytes z =
      text_read map (question_text q) q (read_back q f)
      ∙ ap reply_text (reply_page map q empty_room z)
      ∙ ap (printed 0) (room_read q.k (page_of map q) empty_room (page_small map q bytes (granted_ground map q (length empty_room) (granted map q (length empty_room) z))))

  pub says_refusal : (refusal map q (length empty_room) ≡ 0 → ⊥) → answer_text map (question_text q) ≡ printed (refusal map q (length empty_room)) []
  unfolding records_in
  says_refusal ne = text_read map (question_text q) q (read_back q f) ∙ ap reply_text (reply_refused map q empty_room ne)

-- any two outcomes that meet the contract of `answer_text` coincide
pub text_unique : (map input before a b : List ℕ) (r s : ℕ)
    → Wrote before a (answer_text map input) 0 r → Wrote before b (answer_text map input) 0 s → (r ≡ s) × (a ≡ b)
text_unique map input before a b r s = wrote_unique

-- a program that reads more than 108 bytes of its input has read enough: what comes after them does not show
pub rest_unread : (map input : List ℕ) (n : ℕ) → 108 < n → answer_text map (take n input) ≡ answer_text map input
rest_unread map input n h = by_test (leb (length input) n) all_read too_long
  where
    all_read : leb (length input) n ≡ true → answer_text map (take n input) ≡ answer_text map input
    all_read e = ap (answer_text map) (take_all n input (leb-true (length input) n e))

    too_long : leb (length input) n ≡ false → answer_text map (take n input) ≡ answer_text map input
    too_long e =
        let more : n < length input = leb-false (length input) n e in
        let full : length (take n input) ≡ n = length-take-le n input (omega arith) in
        text_bad map (take n input) (long_bad (take n input) (omega arith)) ∙ sym (text_bad map input (long_bad input (omega arith)))
