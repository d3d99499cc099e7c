-- The outstanding text can still be generated.
use Rattle.tcp_machine.proofs.Prelude.{rules, ap, ◌∙◌, is_open}
use Rattle.tcp_machine.proofs.segment_arrives.in_close_wait.Goals as goal

pub returns-then-acked : goal.returns-then-acked
returns-then-acked g c = λ s. record {
  same = search rules;
  sound = record {
    numbers = search rules;
    says = λ _. rw (c.set_window.ensures.kept.app, c.set_window.ensures.kept.len)
        (c.ack_received.ensures.sound.says (ap is_open (c.ack_received.ensures.state ∙ c.requires.state)));
  };
  place = search rules;
  fits = search rules;
  meets = search rules;
}

pub returns : goal.returns
returns g c = λ s. record {
  same = search rules;
  sound = record {
    numbers = search rules;
    says = λ _. rw (c.set_window-2.ensures.kept.app, c.set_window-2.ensures.kept.len) (c.requires.sound.says (ap is_open c.requires.state));
  };
  place = search rules;
  fits = search rules;
  meets = search rules;
}
