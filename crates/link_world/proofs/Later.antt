-- What was sent stays true as captures are taken and the client continues.
use Rattle.link_world.proofs.Prelude.{◌≡◌, ℕ, ◌+◌, ◌≤◌, true, ◌⊎◌, inl, inr, List, [], ◌++◌, length, sym, ap, ◌∙◌, subst, Option, Some}
use Rattle.link_world.proofs.Prelude.{wrap, PlainSegment, Snapshot, AppSpec, IsPrefixOf, AbstractClient, own_first, IsPart, prefix_part}
use Rattle.link_world.proofs.Prelude.{append_nothing}
use Rattle.link_world.proofs.Speaking.{Speaker, HasOutputModel}
use Rattle.link_world.proofs.CleanClientInvariant.{is_some, IsAll, NodeSent, ClientSent}
use Rattle.link_world.proofs.CleanClientInvariant.ClientSent.{sent_reset, sent_syn, sent_data}
use Rattle.link_world.proofs.CleanClientInvariant.NodeSent.{node_reset, node_syn, node_ack, node_text, node_fin}

module _ (m : AppSpec) (speaker : Speaker) (laws : HasOutputModel m speaker) where
  pub page_more : (r : List ℕ) (k more : List Snapshot) → IsPrefixOf (speaker.text r k) (speaker.text r (k ++ more))
  page_more r k more = subst (λ q. IsPrefixOf (speaker.text r k) (speaker.text q (k ++ more))) (append_nothing r) (laws.grows r [] k more)

  pub page_received : (q more : List ℕ) (k : List Snapshot) → IsPrefixOf (speaker.text q k) (speaker.text (q ++ more) k)
  page_received q more k = subst (λ l. IsPrefixOf (speaker.text q k) (speaker.text (q ++ more) l)) (append_nothing k) (laws.grows q more k [])

  whole_more : (r : List ℕ) (k more : List Snapshot) → speaker.whole r k ≡ true → speaker.whole r (k ++ more) ≡ true
  whole_more r k more w = subst (λ q. speaker.whole q (k ++ more) ≡ true) (append_nothing r) (laws.stays_complete r [] k more w)

  page_whole : (r : List ℕ) (k more : List Snapshot) → speaker.whole r k ≡ true → speaker.text r (k ++ more) ≡ speaker.text r k
  page_whole r k more w = subst (λ q. speaker.text q (k ++ more) ≡ speaker.text r k) (append_nothing r) (laws.stays r [] k more w)

  -- the page of a prefix of the request is a prefix of the page of the whole request
  pub prefix_grows : (delivered r : List ℕ) (k : List Snapshot) → IsPrefixOf delivered r → IsPrefixOf (speaker.text delivered k) (speaker.text r k)
  prefix_grows delivered r k h = subst (λ q. IsPrefixOf (speaker.text delivered k) (speaker.text q k)) h.joined (page_received delivered h.rest k)

  -- if the page of what was received is whole, it is the page of the whole request
  pub prefix_all : (c : AbstractClient) (delivered : List ℕ) (k : List Snapshot) (at : ℕ) → IsPrefixOf delivered c.request
      → speaker.whole delivered k ≡ true → at ≡ length (speaker.text delivered k) → IsAll speaker c k at
  prefix_all c delivered k at h w e =
      let a : speaker.whole c.request k ≡ true = subst (λ q. speaker.whole q k ≡ true) h.joined
      (subst (λ l. speaker.whole (delivered ++ h.rest) l ≡ true) (append_nothing k) (laws.stays_complete delivered h.rest k [] w)) in
      let b : speaker.text c.request k ≡ speaker.text delivered k = subst (λ q. speaker.text q k ≡ speaker.text delivered k) h.joined
      (subst (λ l. speaker.text (delivered ++ h.rest) l ≡ speaker.text delivered k) (append_nothing k) (laws.stays delivered h.rest k [] w)) in
      record { whole = a; end = e ∙ ap length (sym b) }

  pub part_later : (r r' : List ℕ) (k k' more : List Snapshot) (text : List ℕ) (at : ℕ) → r' ≡ r → k' ≡ k ++ more
      → IsPart (speaker.text r k) text at → IsPart (speaker.text r' k') text at
  part_later r r' k k' more text at er ek h =
      subst (λ x. IsPart (speaker.text x k') text at) (sym er) (subst (λ x. IsPart (speaker.text r x) text at) (sym ek)
      (prefix_part (speaker.text r k) (speaker.text r (k ++ more)) text at (page_more r k more) h))

  pub all_later : (c d : AbstractClient) (k k' more : List Snapshot) (at : ℕ) → d.request ≡ c.request → k' ≡ k ++ more
      → IsAll speaker c k at → IsAll speaker d k' at
  all_later c d k k' more at er ek h =
      let w : speaker.whole d.request k' ≡ true = subst (λ x. speaker.whole x k' ≡ true) (sym er)
      (subst (λ x. speaker.whole c.request x ≡ true) (sym ek) (whole_more c.request k more h.whole)) in
      let p : speaker.text d.request k' ≡ speaker.text c.request k = ap (λ x. speaker.text x k') er ∙ ap (λ x. speaker.text c.request x) ek
      ∙ page_whole c.request k more h.whole in
      record { whole = w; end = h.end ∙ ap length (sym p) }

  pub node_later : (c d : AbstractClient) (P Q : Type 0) (f f' : ℕ) (k k' more : List Snapshot) (s : PlainSegment) → d.request ≡ c.request →
      (P → Q) → f' ≡ f → k' ≡ k ++ more → NodeSent speaker c P f k s → NodeSent speaker d Q f' k' s
  node_later c d P Q f f' k k' more s er pq ef ek (node_reset r) = node_reset r
  node_later c d P Q f f' k k' more s er pq ef ek (node_syn r n) = node_syn r record { syn = n.syn; seq = n.seq ∙ ap wrap (sym ef) }
  node_later c d P Q f f' k k' more s er pq ef ek (node_ack r n) = node_ack r n
  node_later c d P Q f f' k k' more s er pq ef ek (node_text r p n) = node_text r (pq p) record {
    no_syn = n.no_syn;
    no_fin = n.no_fin;
    at = n.at;
    part = part_later c.request d.request k k' more s.text n.at er ek n.part;
    seq = n.seq ∙ ap (λ x. wrap (x + 1 + n.at)) (sym ef);
  }
  node_later c d P Q f f' k k' more s er pq ef ek (node_fin r p n) = node_fin r (pq p) record {
    no_syn = n.no_syn;
    is_fin = n.is_fin;
    no_text = n.no_text;
    at = n.at;
    ends = all_later c d k k' more n.at er ek n.ends;
    seq = n.seq ∙ ap (λ x. wrap (x + 1 + n.at)) (sym ef);
  }

pub client_later : (c d : AbstractClient) (opened next : Option ℕ) (at_epoch : ℕ) (s : PlainSegment) → d.request ≡ c.request → own_first d ≡ own_first c →
    (is_some opened ≡ true → is_some next ≡ true) → ((o : ℕ) → next ≡ Some o → (opened ≡ Some o) ⊎ (at_epoch ≤ o)) →
    ClientSent c opened at_epoch s → ClientSent d next at_epoch s
client_later c d opened next at_epoch s er ef eo en (sent_reset r) = sent_reset r
client_later c d opened next at_epoch s er ef eo en (sent_syn y) = sent_syn record {
  syn = y.syn;
  no_ack = y.no_ack;
  no_text = y.no_text;
  seq = y.seq ∙ sym ef;
  before = λ o n. elim (en o n) [ inl x ↦ y.before o x | inr x ↦ x ];
}
client_later c d opened next at_epoch s er ef eo en (sent_data x) = sent_data record {
  no_syn = x.no_syn;
  opened_is = eo x.opened_is;
  at = x.at;
  part = subst (λ r. IsPart r s.text x.at) (sym er) x.part;
  seq = λ l. x.seq l ∙ ap (λ n. wrap (n + 1 + x.at)) (sym ef);
}
