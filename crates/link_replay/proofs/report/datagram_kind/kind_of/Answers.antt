use Rattle.link_replay.proofs.Prelude.{◌≡◌, ℕ, List, sym, ap, ◌∙◌, subst, Addr, event_of, Arrived, sent_bytes, Who, FromClient, FromNode}
use Rattle.link_replay.proofs.Prelude.{IsRead, IsSentBy, CodeSent, link_of}
use Rattle.link_replay.proofs.Delivered.{speaks_to}
use Rattle.link_replay.proofs.Reception.{client_kind, node_kind, no_client_kind}
use Rattle.link_replay.proofs.report.datagram_kind.kind_of.Goals as goal

pub returns-in-FromClient : goal.returns-in-FromClient
returns-in-FromClient c = λ w e all same represented home sent read by.
    let number = c.in-FromClient.field-0 in
    let who : e.who ≡ FromClient number = sym sent.who ∙ ap (λ (x : CodeSent). x.who) (sym c.sent.view_is) ∙ c.in-FromClient.is in
    client_kind w number e.content (sent_bytes w e) c.read_at.result
    (λ sockets s at. c.read_at.ensures sockets s
    (subst (λ (b : List ℕ). event_of c.args.addr b ≡ Arrived sockets s)
    (sym (c.deref.ensures.value ∙ ap (λ (x : CodeSent). x.bytes) c.sent.view_is ∙ sent.bytes))
    (subst (λ (a : Addr). event_of a (sent_bytes w e) ≡ Arrived sockets s) (sym same) at)))
    (speaks_to (link_of c.args.sides.now all) w represented home number)
    (subst (λ (x : Who). IsRead w x e.content (sent_bytes w e)) who read) (subst (λ (x : Who). IsSentBy w.sides x e.content) who by)

pub returns-in-Some : goal.returns-in-Some
returns-in-Some c = λ w e all same represented home sent read by.
    let number = c.in-FromNode.number in
    let own = c.in-Some.own in
    let who : e.who ≡ FromNode number = sym sent.who ∙ ap (λ (x : CodeSent). x.who) (sym c.sent.view_is) ∙ c.in-FromNode.is in
    node_kind w number e.content (sent_bytes w e) own c.read_at-in-Some.result (sym c.in-Some.is ∙ c.address_of.ensures w.sides represented.sides)
    (λ sockets s at. c.read_at-in-Some.ensures sockets s
    (subst (λ (b : List ℕ). event_of own b ≡ Arrived sockets s)
    (sym (c.deref-in-Some.ensures.value ∙ ap (λ (x : CodeSent). x.bytes) c.sent.view_is ∙ sent.bytes)) at))
    (speaks_to (link_of c.args.sides.now all) w represented home number)
    (subst (λ (x : Who). IsRead w x e.content (sent_bytes w e)) who read) (subst (λ (x : Who). IsSentBy w.sides x e.content) who by)

pub returns-in-None : goal.returns-in-None
returns-in-None c = λ w e all same represented home sent read by.
    let number = c.in-FromNode.number in
    let who : e.who ≡ FromNode number = sym sent.who ∙ ap (λ (x : CodeSent). x.who) (sym c.sent.view_is) ∙ c.in-FromNode.is in
    no_client_kind w number e.content (sym c.in-None.is ∙ c.address_of.ensures w.sides represented.sides)
    (subst (λ (x : Who). IsSentBy w.sides x e.content) who by)
