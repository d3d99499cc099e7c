-- After a delivery the outstanding text can still be generated.
use Rattle.tcp_machine.proofs.Prelude.{rules, ap, ◌∙◌, peer_closes, is_open}
use Rattle.tcp_machine.proofs.segment_arrives.peer_closes.Goals as goal

pub returns : goal.returns
unfolding peer_closes
returns g c = record {
  same = search rules;
  sound = record {
    numbers = search rules;
    says = λ _. rw (c.enter.ensures.kept.app, c.enter.ensures.kept.len)
        (c.receive_text.ensures.sound.says (ap is_open (c.receive_text.ensures.state ∙ c.requires.state)));
  };
  place = search rules;
  fits = search rules;
  meets = search rules;
}
