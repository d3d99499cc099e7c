use Rattle.link_replay.proofs.Prelude.{◌≡◌, ℕ, ◌≤◌, List, Option, length, sym, ap, ◌∙◌, subst, rules, tests, LARGEST_DATAGRAM, event_of}
use Rattle.link_replay.proofs.Prelude.{Reply, step, option_map_or, does, hands_over, Act, sent_bytes, World, Sent, delivers, numbered, Who}
use Rattle.link_replay.proofs.Prelude.{LinkRepresents, SentRepresents, WorldRepresents, Link, link_of, AnswersTo, client_reported, sees}
use Rattle.link_replay.proofs.Prelude.{CodeSent}
use Rattle.link_replay.proofs.Delivered.{answers_seen, hands, seen, speaks_to}
use Rattle.link_replay.proofs.Readable.{read_at, sent_at, sent_fits}
use Rattle.link_replay.proofs.Handling.{still_linked}
use Rattle.link_replay.proofs.Pairs.{none_numbered, numbered_partner}
use Rattle.link_replay.proofs.world.WorldOf.give.Goals as goal

pub invariant_of-self : goal.invariant_of-self
invariant_of-self g c = record {
  link = still_linked _ _ c.self.invariant.link (λ addr. c.see.ensures.kept addr c.self.inside.sent.items);
  room = c.self.invariant.room;
}

pub hand-requires : goal.hand-requires
hand-requires g c = record {
  most =
      let fits = sent_fits _ (link_of c.self.inside.sides.items c.self.inside.sent.items) c.args.number c.in-Some.sent.now
      (cc c.in-Some.ensures) c.self.invariant.link.1 in
      let items : c.in_ok-bytes.bytes.items ≡ c.as_slice-2.result.now = search (rules, tests) in
      let all : c.as_slice-3.result.now ≡ c.in-Some.sent.now.bytes = c.as_slice-3.ensures.value ∙ items ∙ c.as_slice-2.ensures.value
      ∙ ap (λ (x : CodeSent). x.bytes) c.sent.view_is in
      subst (λ (xs : List ℕ). length xs ≤ LARGEST_DATAGRAM) (sym all) fits;
}

pub returns-in_default-clause-given : goal.returns-in_default-clause-given
returns-in_default-clause-given g c = λ w h s.
    let a = g.A.App in
    let m = a.app_spec (a.config c.args.self.now.node.shared) in
    let t = subst (λ x. WorldRepresents a x w) (sym c.self.view_is) s in
    subst (λ (x : Option Sent). WorldRepresents a c.args.self.now
    (option_map_or (λ d. delivers m a.served w c.args.number d d.who d.content) x w))
    (sym (none_numbered (SentRepresents w) c.self.inside.sent.items w.sent c.args.number t.link.sent (cc c.in_default.ensures))) s

pub returns-clause-given : goal.returns-clause-given
returns-clause-given g c = rw (← c.self.view_is) (λ w h s.
    let a = g.A.App in
    let m = a.app_spec (a.config c.self.inside.node.shared) in
    let p = numbered_partner (SentRepresents w) c.self.inside.sent.items w.sent c.args.number c.in-Some.sent.now s.link.sent (cc c.in-Some.ensures) in
    let e : Sent = p.other in
    let shown : SentRepresents w (record {
      who = c.sent.inside.who;
      tick = c.sent.inside.tick;
      epoch = c.sent.inside.epoch;
      again = c.sent.inside.again;
      bytes = c.sent.inside.bytes.items;
    }) e
    = subst (λ (x : CodeSent). SentRepresents w x e) (sym c.sent.view_is) p.pair in
    let items : c.in_ok-bytes.bytes.items ≡ c.as_slice-2.result.now = search (rules, tests) in
    let bytes : c.as_slice-3.result.now ≡ sent_bytes w e = c.as_slice-3.ensures.value ∙ items ∙ c.as_slice-2.ensures.value ∙ shown.bytes in
    let client : c.client_of.result ≡ client_reported e.who = c.client_of.ensures ∙ ap client_reported shown.who in
    let v : World = sees w (client_reported e.who) c.args.number e (numbered w.sides (client_reported e.who)) in
    let facts = hands m a.served w c.args.number e (speaks_to (link_of c.self.inside.sides.items c.self.inside.sent.items) w s.link s.home)
    e.who e.content (sent_bytes w e) (read_at m a.served w h p.index e p.get) (sent_at m a.served w h p.index e p.get) in
    let sent : List CodeSent = c.self.inside.sent.items in
    let link : Link = link_of c.see.new.sides.items sent in
    let represented : WorldRepresents a (record {
      node = c.self.inside.node;
      link = link;
      mark = c.self.inside.mark;
      spent = c.self.inside.spent;
      area = c.self.inside.area.items;
    }) v
    = seen a _ link w (client_reported e.who) c.args.number e (numbered w.sides (client_reported e.who)) s
    (subst (λ k. LinkRepresents link (sees w k c.args.number e (numbered w.sides k))) client
    (c.see.ensures.represented w e sent s.link shown.epoch)) (c.see.ensures.kept w.node.addr sent s.home) in
    let answer : Option Reply = (step m a.served v.node (event_of v.node.addr c.as_slice-3.result.now)).sent in
    let answers : AnswersTo v c.sent.inside.who answer
    = subst (λ (who : Who). AnswersTo v who answer) (sym shown.who)
    (subst (λ (b : List ℕ). AnswersTo v e.who (step m a.served v.node (event_of v.node.addr b)).sent) (sym bytes)
    (answers_seen m a.served w (client_reported e.who) c.args.number e (numbered w.sides (client_reported e.who)) e.who (sent_bytes w e) facts.answers)) in
    let same : hands_over m a.served v c.as_slice-3.result.now c.sent.inside.who ≡ does m a.served w (Act.Give c.args.number)
    = ap (λ (b : List ℕ). hands_over m a.served v b c.sent.inside.who) bytes
    ∙ ap (λ (who : Who). hands_over m a.served v (sent_bytes w e) who) shown.who
    ∙ facts.same
    ∙ sym (ap (λ (x : Option Sent). option_map_or (λ d. delivers m a.served w c.args.number d d.who d.content) x w) p.there) in
    subst (λ (u : World). WorldRepresents a c.hand.new.self u) same (c.in_ok-hand.ensures.handed v represented answers))
