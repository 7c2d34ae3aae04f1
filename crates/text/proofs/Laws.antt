-- The answer's text, for a question that is read and for one that is not. Assumes nothing.
use mathlib.Core.Path.{◌≡◌, ap}
use mathlib.Core.List.{List, []}
use Prim.Native.Nat.{ℕ}
use Rattle.question.specs.declared.Question.{Question}
use Rattle.std.proofs.Common.{Some, None}
use Rattle.reader.specs.QuestionText.{question_in}
use Rattle.printer.specs.Printed.{printed}
use Rattle.ask.specs.Reply.{reply_of}
use Rattle.text.specs.Text.{empty_room, reply_text, text_for, answer_text}

pub text_read : (map input : List ℕ) (q : Question) → question_in input ≡ Some q → answer_text map input ≡ reply_text (reply_of map q empty_room)
unfolding answer_text
text_read map input q e = ap (text_for map) e

pub text_bad : (map input : List ℕ) → question_in input ≡ None → answer_text map input ≡ printed 6 []
unfolding answer_text
text_bad map input e = ap (text_for map) e
