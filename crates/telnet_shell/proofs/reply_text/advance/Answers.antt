use Rattle.telnet_shell.proofs.Prelude.{sym, ap, ◌∙◌, arith, List, Command, is_past}
use Rattle.telnet_shell.proofs.Advancing.{passed_on, enough_left, nearer}
use Rattle.telnet_shell.proofs.reply_text.advance.Goals as goal

pub passing-preserved : goal.passing-preserved
passing-preserved c =
    let history = ap (λ (q : List Command). is_past q c.passing.capture c.passing.place) (sym c.as_slice-in-passing.ensures.value)
    ∙ sym c.is_past.ensures ∙ c.passing-test.true in (
      (λ p b. passed_on c.passing.queue.items c.pass_prefix-place.new.queue.items c.passing.capture c.pass_prefix-place.new.capture
          c.passing.place c.pass_prefix-place.result p history c.pass_prefix-place.ensures (c.passing.invariant.0 p b)),
      enough_left c.passing.queue.items c.pass_prefix-place.new.queue.items c.passing.capture c.pass_prefix-place.new.capture
          c.passing.place c.pass_prefix-place.result history c.pass_prefix-place.ensures c.passing.invariant.1,
      omega (
        arith,
        c.passing.invariant.2,
        nearer c.passing.queue.items c.pass_prefix-place.new.queue.items c.passing.capture
            c.pass_prefix-place.new.capture c.passing.place c.pass_prefix-place.result c.pass_prefix-place.ensures,
      ),
    )
