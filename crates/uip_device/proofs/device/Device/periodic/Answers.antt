use Rattle.uip_device.proofs.Prelude.{◌≡◌, ◌++◌, ◌∙◌, ◌∷◌, [], ap, false≢true, is_some, lt-ltb, refl, sym, take, datagram_in, Calls, Due}
use Rattle.uip_device.proofs.Prelude.{left_text_of, text_sent, text_to_come}
use Rattle.uip_device.proofs.AnswerLaws.{answers_silent, answers_slot, none_left, over_part}
use Rattle.uip_device.proofs.SendLaws.{on_line, sends_taken, silent_text}
use Rattle.uip_device.proofs.device.Device.periodic.Goals as goal

pub returns-in-None-clause-answers : goal.returns-in-None-clause-answers
returns-in-None-clause-answers g c =
    let old = c.args.self.now in
    let taken = c.guarded_periodic-sent in
    let new = taken.new.node in
    let key = old.guard.rules.key in
    let left = left_text_of (record old { node = new }) in
    let none = none_left (record old { node = new }) c.requires.none in
    record {
      answers = λ _. answers_silent g.A.App (Calls c.args.slot) old new refl (taken.ensures.quiet c.in-None.is) (λ before.
          on_line g.A.App (Due c.args.slot ∷ []) old.guard old.guard old.node new (left_text_of old) [] left (none_left old c.requires.none)
          (sends_taken g.A.App (Due c.args.slot) old.guard old.guard old.node new taken.result (λ own replies. text_sent key own replies ≡ [] ++ left)
          taken.ensures.takes refl (λ n h. refl) (λ own replies is. silent_text key own replies taken.result new.packet c.in-None.is is ∙ sym none)));
      spoils = λ _ x. absurd (false≢true x);
    }

pub returns-in-Some-clause-answers : goal.returns-in-Some-clause-answers
returns-in-Some-clause-answers g c =
    let old = c.args.self.now in
    let slot = c.args.slot in
    let taken = c.guarded_periodic-sent in
    let new = taken.new.node in
    let key = old.guard.rules.key in
    let part = c.give_up.new.self in
    let wrote = c.write_text-written.result.wrote in
    let handed = take wrote c.write_text-written.new.out in
    let next = c.write_text-written.result.left in
    let left = text_to_come (datagram_in new.packet) next in
    let sends = sends_taken g.A.App (Due slot) old.guard old.guard old.node new taken.result (λ own replies. text_sent key own replies ≡ handed ++ left)
    taken.ensures.takes refl (λ n h. refl) (λ own replies is. sym (c.write_text-written.ensures.text key own replies is)) in
    over_part g.A.App (Calls slot) old part (record old { part = part; node = new; left = next }) handed _
    (lt-ltb 0 wrote (c.write_text-written.ensures.some (ap (λ o. is_some o) c.in-Some.is))) c.give_up.ensures.kept c.give_up.ensures.spoils
    (answers_slot g.A.App slot (record old { part = part }) new next handed c.give_up.ensures.free c.requires.none sends)
