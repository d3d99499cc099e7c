use Rattle.dns_message.proofs.Prelude.{Option, option_map, ◌+◌, ◌-◌, arith, ◌∙◌, sym, ap, Addr, plain_record}
use Rattle.dns_message.proofs.RecordLaws.{none_left, not_address, other_first}
use Rattle.dns_message.proofs.record.answer_of_records.Goals as goal

pub returns-in_err-found : goal.returns-in_err-found
returns-in_err-found c =
    let i = c.loop-number._number in
    c.from_residual.ensures
    ∙ sym (c.loop-number.invariant ∙ none_left (c.args.count - i) (c.args.count - (i + 1)) c.loop-number.rest.now
    (omega (arith, c.loop-number-test.true)) (sym c.in_err-found.ensures))

pub loop-number-preserved : goal.loop-number-preserved
loop-number-preserved c =
    let i = c.loop-number._number in
    c.loop-number.invariant
    ∙ other_first (c.args.count - i) (c.args.count - (i + 1)) c.loop-number.rest.now c.in_ok-found.trailing.now (plain_record c.in_ok-found.found)
    (omega (arith, c.loop-number-test.true)) (sym c.in_ok-found.ensures) (not_address (plain_record c.in_ok-found.found)
    (sym c.address_in.ensures ∙ ap (λ (o : Option Addr). option_map (λ a. a.0) o) c.in_default.is))
