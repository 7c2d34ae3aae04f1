-- A law for each way out.
use Rattle.std.proofs.Common.{sym, ◌∙◌, length}
use Rattle.std.proofs.lemmas.Result.{err_from_is_err_and}
use Rattle.ask.proofs.Answers.{own_good}
use Rattle.ask.proofs.Replies.{accepted_keeps, refusal_some, refused_own, answered_page}
use Rattle.ask.proofs.ask.Goals as goal

pub returns-in_err-own_answer : goal.returns-in_err-own_answer
returns-in_err-own_answer c =
    let own = c.in_err-own_answer.ensures in
    let back = err_from_is_err_and c.from_residual.result c.from_residual.ensures.1 in
    rw (back.1, back.2)
    ((λ i. record { number = own i; found = 0; room = c.args.room.now })
    ∙ refused_own c.args.map.now c.args.q c.args.room.now (λ z. refusal_some c.in_err-own_answer.field-0.0 (own ∙ z)))

pub fill_page-requires : goal.fill_page-requires
fill_page-requires c =
    let good = own_good c.args.q (length c.args.room.now) (sym c.in_ok-own_answer.ensures) in
    record {
      search =
          record {
            ground = record { keeps = accepted_keeps c.args.map.now (sym c.if-not-is_accepted.ensures); point = good.point };
            k_low = good.k_low;
            k_high = good.k_high;
          };
      fits = good.fits;
    }

pub returns : goal.returns
returns c =
    (λ i. record { number = 0; found = c.fill_page.ensures.count i; room = c.fill_page.ensures.bytes i })
    ∙ answered_page c.args.map.now c.args.q c.args.room.now (sym c.in_ok-own_answer.ensures) (sym c.if-not-is_accepted.ensures)
