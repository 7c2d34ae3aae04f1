-- Wrong ways of replying, which document 01's last section names. Each fails a demand: proofs/Refuted.antt.
use Rattle.std.specs.Prelude.{cond, [], eqb}
use Rattle.rules.specs.Verdicts.{number_of, verdict_of}
use Rattle.ask.specs.Reply.{refused, answered, reply_of}
use Rattle.demands.specs.Runs.{Replying}

-- refuses everything
abbrev pub refuses_all : Replying
refuses_all m q room = refused 1 room

-- a fixed reply: answered, nothing found
abbrev pub fixed_reply : Replying
fixed_reply m q room = record { number = 0; found = 0; room = room }

-- never writes the room
abbrev pub never_writes : Replying
never_writes m q room = record { number = (reply_of m q room).number; found = (reply_of m q room).found; room = room }

-- a made-up found: as many as were asked for
abbrev pub made_up_found : Replying
made_up_found m q room =
    record { number = (reply_of m q room).number; found = cond (eqb (reply_of m q room).number 0) q.k 0; room = (reply_of m q room).room }

-- page one right, later pages empty
abbrev pub later_empty : Replying
later_empty m q room =
    cond (eqb q.mark.bay 0) (reply_of m q room)
    (cond (eqb (reply_of m q room).number 0) (answered [] q.k room) (reply_of m q room))

-- a refused map's rule shows in the number
abbrev pub tells_rule : Replying
tells_rule m q room =
    record {
      number = cond (eqb (reply_of m q room).number 5) (number_of (verdict_of m)) (reply_of m q room).number;
      found = (reply_of m q room).found;
      room = (reply_of m q room).room;
    }
