use Rattle.link_replay.proofs.Prelude.{◌≡◌, ℕ, ◌<◌, ◌≤◌, length, List, Option, sym, ap, ◌∙◌, arith, subst, rules, tests, event_of, Reply}
use Rattle.link_replay.proofs.Prelude.{step, does, hands_over, Act, damaged, sent_bytes, changed, World, Sent, Who, SentRepresents}
use Rattle.link_replay.proofs.Prelude.{WorldRepresents, CodeSent, link_of, AnswersTo, LARGEST_DATAGRAM}
use Rattle.link_replay.proofs.Damaging.{damage_answers}
use Rattle.link_replay.proofs.Readable.{sent_fits}
use Rattle.link_replay.proofs.Pairs.{none_numbered, numbered_partner}
use Rattle.link_replay.proofs.Sending.{area_is}
use Rattle.link_replay.proofs.world.WorldOf.damage.Goals as goal

pub hand-requires : goal.hand-requires
hand-requires g c = record {
  most =
      let fits = sent_fits _ (link_of c.self.inside.sides.items c.self.inside.sent.items) c.args.number c.in-Some.sent.now
      (cc c.in-Some.ensures) c.self.invariant.link.1 in
      let items : c.in_ok-bytes.bytes.items ≡ c.as_slice-2.result.now = search (rules, tests) in
      let old : c.as_mut_slice.result.now ≡ c.in-Some.sent.now.bytes = c.as_mut_slice.ensures.value ∙ items ∙ c.as_slice-2.ensures.value
      ∙ ap (λ (x : CodeSent). x.bytes) c.sent.view_is in
      let whole = area_is c.change.new.bytes c.in_ok-bytes.bytes.items c.in_ok-bytes.bytes.len (c.change.auto.bytes
      ∙ ap length c.as_mut_slice.ensures.value) (sym c.as_mut_slice.ensures.len ∙ ap length c.as_mut_slice.ensures.value) in
      let size : length c.as_slice-3.result.now ≡ length c.in-Some.sent.now.bytes = ap length (c.as_slice-3.ensures.value ∙ whole)
      ∙ c.change.auto.bytes ∙ ap length old in
      subst (λ (k : ℕ). k ≤ LARGEST_DATAGRAM) (sym size) fits;
}

pub returns-in_default-clause-damaged : goal.returns-in_default-clause-damaged
returns-in_default-clause-damaged g c = λ w h f s.
    let a = g.A.App in
    let t = subst (λ x. WorldRepresents a x w) (sym c.self.view_is) s in
    subst (λ (x : Option Sent). WorldRepresents a c.args.self.now (damaged (a.app_spec (a.config c.args.self.now.node.shared)) a.served w
    c.args.at c.args.mask x)) (sym (none_numbered (SentRepresents w) c.self.inside.sent.items w.sent c.args.number t.link.sent (cc c.in_default.ensures))) s

pub returns-clause-damaged : goal.returns-clause-damaged
returns-clause-damaged g c = λ w h f s.
    let a = g.A.App in
    let t = subst (λ x. WorldRepresents a x w) (sym c.self.view_is) s in
    let m = a.app_spec (a.config c.args.self.now.node.shared) in
    let p = numbered_partner (SentRepresents w) c.self.inside.sent.items w.sent c.args.number c.in-Some.sent.now t.link.sent (cc c.in-Some.ensures) in
    let e : Sent = p.other in
    let shown : SentRepresents w (record {
      who = c.sent.inside.who;
      tick = c.sent.inside.tick;
      epoch = c.sent.inside.epoch;
      again = c.sent.inside.again;
      bytes = c.sent.inside.bytes.items;
    }) e
    = subst (λ (x : CodeSent). SentRepresents w x e) (sym c.sent.view_is) p.pair in
    let items : c.in_ok-bytes.bytes.items ≡ c.as_slice-2.result.now = search (rules, tests) in
    let old : c.as_mut_slice.result.now ≡ sent_bytes w e = c.as_mut_slice.ensures.value ∙ items ∙ c.as_slice-2.ensures.value ∙ shown.bytes in
    let whole = area_is c.change.new.bytes c.in_ok-bytes.bytes.items c.in_ok-bytes.bytes.len (c.change.auto.bytes
    ∙ ap length c.as_mut_slice.ensures.value) (sym c.as_mut_slice.ensures.len ∙ ap length c.as_mut_slice.ensures.value) in
    let bytes : c.as_slice-3.result.now ≡ changed (sent_bytes w e) c.args.at c.args.mask
    = c.as_slice-3.ensures.value ∙ whole ∙ c.change.ensures ∙ ap (λ (xs : List ℕ). changed xs c.from.result c.args.mask) old
    ∙ ap (λ i. changed (sent_bytes w e) i c.args.mask) c.from.ensures in
    let low : 1 ≤ c.args.mask = c.requires.mask in
    let high : c.args.mask < 256 = omega arith in
    let answer : Option Reply = (step m a.served w.node (event_of w.node.addr c.as_slice-3.result.now)).sent in
    let answers : AnswersTo w c.sent.inside.who answer
    = subst (λ (who : Who). AnswersTo w who answer) (sym shown.who)
    (subst (λ (b : List ℕ). AnswersTo w e.who (step m a.served w.node (event_of w.node.addr b)).sent) (sym bytes)
    (damage_answers m a.served w c.args.number c.args.at c.args.mask e h low high f p.there)) in
    let same : hands_over m a.served w c.as_slice-3.result.now c.sent.inside.who ≡ does m a.served w (Act.Damage c.args.number c.args.at c.args.mask)
    = ap (λ (b : List ℕ). hands_over m a.served w b c.sent.inside.who) bytes
    ∙ ap (λ (who : Who). hands_over m a.served w (changed (sent_bytes w e) c.args.at c.args.mask) who) shown.who
    ∙ sym (ap (λ (x : Option Sent). damaged m a.served w c.args.at c.args.mask x) p.there) in
    subst (λ (u : World). WorldRepresents a c.hand.new.self u) same (c.in_ok-hand.ensures.handed w s answers)
