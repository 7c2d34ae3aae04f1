-- One question as text, one answer as text: what the program `nearby` says. Document 01, '`nearby`'.
use Rattle.std.specs.Prelude.{List, [], ℕ, replicate, Option, Some, None}
use Rattle.question.specs.declared.Question.{Question}
use Rattle.reader.specs.QuestionText.{question_in}
use Rattle.printer.specs.Printed.{printed}
use Rattle.record.specs.Record.{records_in}
use Rattle.ask.specs.Reply.{Reply, reply_of}

-- a room for a hundred records, and more than they take
abbrev pub room_size : ℕ
room_size = 2800

abbrev pub empty_room : List ℕ
empty_room = replicate room_size 0

-- a reply as text: its number, and the records in its room
abbrev pub reply_text : Reply → List ℕ
reply_text r = printed r.number (records_in r.found r.room)

-- answer 6 before all others; else the reply
abbrev pub text_for : List ℕ → Option Question → List ℕ
text_for map (Some q) = reply_text (reply_of map q empty_room)
text_for map None = printed 6 []

unfoldable pub answer_text : List ℕ → List ℕ → List ℕ
answer_text map input = text_for map (question_in input)
