-- The lower half of a reply's pair is what was found: no more than 100 bays.
use Rattle.std.proofs.Common.{◌≡◌, ℕ, List, ◌%◌, ◌≤◌, arith}
use Rattle.question.specs.declared.Question.{Question}
use Rattle.ask.specs.Reply.{reply_of}
use Rattle.ask.proofs.Answers.{found_few}
use Rattle.station.specs.Station.{paired}
use Rattle.trial.proofs.kept.reply_to.Goals as goal

few : (map room : List ℕ) (q : Question) (r : ℕ) → r ≡ paired (reply_of map q room).number (reply_of map q room).found → r % 4294967296 ≤ 100
few map room q r e = omega (arith, found_few map q room)

pub returns : goal.returns
returns c = few _ _ _ _ c.krylozhma_ask.ensures.0
