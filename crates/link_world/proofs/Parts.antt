-- The parts that hold together of a clean client, from what is known of it.
use Rattle.link_world.proofs.Prelude.{◌≡◌, ℕ, ◌+◌, ◌-◌, ◌<◌, ◌≤◌, ◌⊎◌, inl, inr, Bool, true, false, List, [], ◌++◌, length, take, refl, sym}
use Rattle.link_world.proofs.Prelude.{ap, ◌∙◌, subst, arith, Option, Some, None, is_some, take-append-add, cases_lt, wrap, PlainSegment}
use Rattle.link_world.proofs.Prelude.{has_syn, has_fin, has_rst, has_ack, IsPrefixOf, Pages, State, Closed, SynRcvd, Established}
use Rattle.link_world.proofs.Prelude.{Connection, is_live, AbstractClient, fin_sent, one_if, Side, PastConnection, Sent, era, server_side}
use Rattle.link_world.proofs.Prelude.{IsSlice, SendsPage, AsksRequest, HasTaken, HasOneEpoch, CleanParts, IsPart, HasTextNumbers}
use Rattle.link_client.specs.declared.client_state.ClientState.TheVariants as Is
use Rattle.link_world.proofs.Speaking.{paged}
use Rattle.link_world.proofs.CleanClientInvariant.{is_unasked, seg, segment_in, StateGood, NodeSent, ClientSent, OpenedGood, Good, unopened}
use Rattle.link_world.proofs.CleanClientInvariant.NodeSent.{node_reset, node_syn, node_ack, node_text, node_fin}
use Rattle.link_world.proofs.CleanClientInvariant.ClientSent.{sent_reset, sent_syn, sent_data}
use Rattle.link_world.proofs.PrefixAndWhole.{all_good}
use Rattle.link_world.proofs.Eras.{all_numbered}
use Rattle.link_world.proofs.Requests.{RequestedBy, all_requested}
use Rattle.link_world.proofs.TextNumbers.{text_numbers}

slice_of : (whole text : List ℕ) (at : ℕ) → IsPart whole text at → IsSlice whole text at
slice_of whole text at p = record { fits = p.fits; same = p.same }

no_text : (s : PlainSegment) → s.text ≡ [] → 0 < length s.text → ⊥
no_text s e l = let z : length s.text ≡ 0 = ap (λ (x : List ℕ). length x) e in omega (arith, z, l)

outputs_page : (pages : Pages) (side : Side) (epoch : ℕ) (era : PastConnection) (s : PlainSegment) → has_rst s.flags ≡ false
    → NodeSent (paged pages) side.client (side.opened ≡ Some epoch) era.iss era.snapshots s → SendsPage pages side epoch era s
outputs_page pages side epoch era s nr (node_reset r) = absurd (cc)
outputs_page pages side epoch era s nr (node_syn r n) =
    record {
      syn = λ y. n.seq;
      text = λ y l. absurd (let z : has_syn s.flags ≡ true = n.syn in cc);
      fin = λ y f. absurd (let z : has_syn s.flags ≡ true = n.syn in cc);
    }
outputs_page pages side epoch era s nr (node_ack r n) = record {
  syn = λ y. absurd (let z : has_syn s.flags ≡ false = n.no_syn in cc);
  text = λ y l. absurd (no_text s n.no_text l);
  fin = λ y f. absurd (let z : has_fin s.flags ≡ false = n.no_fin in cc);
}
outputs_page pages side epoch era s nr (node_text r p n) = record {
  syn = λ y. absurd (let z : has_syn s.flags ≡ false = n.no_syn in cc);
  text = λ y l. record { opened = p; at = n.at; slice = slice_of (pages.page side.client.request era.snapshots) s.text n.at n.part; seq = n.seq };
  fin = λ y f. absurd (let z : has_fin s.flags ≡ false = n.no_fin in cc);
}
outputs_page pages side epoch era s nr (node_fin r p n) = record {
  syn = λ y. absurd (let z : has_syn s.flags ≡ false = n.no_syn in cc);
  text = λ y l. absurd (no_text s n.no_text l);
  fin = λ y f. record { opened = p; alone = n.no_text; whole = n.ends.whole; seq = n.seq ∙ ap (λ x. wrap (era.iss + 1 + x)) n.ends.end };
}

asks_request : (side : Side) (epoch : ℕ) (s : PlainSegment) → has_rst s.flags ≡ false → 0 < length s.text
    → ClientSent side.client side.opened epoch s → AsksRequest side s
asks_request side epoch s nr l (sent_reset r) = absurd (cc)
asks_request side epoch s nr l (sent_syn y) = absurd (no_text s y.no_text l)
asks_request side epoch s nr l (sent_data d) = record { at = d.at; slice = slice_of side.client.request s.text d.at d.part; seq = d.seq l }

has_opened : (side : Side) (epoch : ℕ) (s : PlainSegment) → has_rst s.flags ≡ false → has_ack s.flags ≡ true
    → ClientSent side.client side.opened epoch s → is_some side.opened ≡ true
has_opened side epoch s nr a (sent_reset r) = absurd (cc)
has_opened side epoch s nr a (sent_syn y) = absurd (let z : has_ack s.flags ≡ false = y.no_ack in cc)
has_opened side epoch s nr a (sent_data d) = d.opened_is

one_epoch : (pages : Pages) (side : Side) (c : Connection) (o : Option ℕ) → side.opened ≡ o → OpenedGood (paged pages) side.client
    side.history c o → (is_live c.state ≡ true → StateGood (paged pages) o side.client c c.state) → HasOneEpoch side c
one_epoch pages side c None q h s = record {
  unopened = λ early. q;
  nothing = λ e. h.nothing;
  waits = λ e l. (unopened (paged pages) side.client c c.state l (s l)).0;
  opened_in = λ n e l. absurd (let z : None ≡ Some n = sym q ∙ e in cc);
}
one_epoch pages side c (Some o) q h s = record {
  unopened = λ early. absurd (let asked = h.asked in elim early [
    | inl e ↦ (let z : is_unasked Is.Idle ≡ false = subst (λ st. is_unasked st ≡ false) e asked in cc)
    | inr e ↦ (let z : is_unasked Is.Opening ≡ false = subst (λ st. is_unasked st ≡ false) e asked in cc)
  ]);
  nothing = λ e. absurd (let z : Some o ≡ None = sym q ∙ e in cc);
  waits = λ e l. absurd (let z : Some o ≡ None = sym q ∙ e in cc);
  opened_in = λ n e l. (let z : Some o ≡ Some n = sym q ∙ e in let y : n ≡ o = cc in y ∙ h.live_then l);
}

-- the numbers that were accepted are request bytes, and possibly the FIN after them
split_taken : (client : AbstractClient) (taken delivered : ℕ) (b : Bool) → fin_sent client.fin ≡ b → client.acked ≤ taken
    → taken ≤ client.acked + client.out + one_if b → delivered ≤ taken → delivered ≤ client.acked + client.out →
    (n : ℕ) × (client.acked ≤ n) × (n ≤ client.acked + client.out) × ((taken ≡ n) ⊎ ((fin_sent client.fin ≡ true) × (taken ≡ n + 1))) × (delivered ≤ n)
split_taken client taken delivered false e l h t a = (taken, l, omega (arith, h), inl refl, t)
split_taken client taken delivered true e l h t a =
    elim (cases_lt (client.acked + client.out) taken) [
      | inl i ↦ (client.acked + client.out, omega arith, omega arith, inr (e, omega (arith, i, h)), a)
      | inr i ↦ (taken, l, i, inl refl, t)
    ]

-- what begins a list and is no longer than this ends inside its prefix
prefix_within : (xs ys : List ℕ) (n : ℕ) → length xs ≤ n → IsPrefixOf xs ys → IsPrefixOf xs (take n ys)
prefix_within xs ys n l p =
    let room : length xs + (n - length xs) ≡ n = omega (arith, l) in
    record {
      rest = take (n - length xs) p.rest;
      joined = sym (take-append-add xs p.rest (n - length xs)) ∙ ap (λ k. take k (xs ++ p.rest))
          room ∙ ap (λ (zs : List ℕ). take n zs) p.joined;
    }

-- what was received is a prefix of the request
received_prefix : (pages : Pages) (opened : Option ℕ) (client : AbstractClient) (c : Connection) (st : State) → is_live st ≡ true
    → StateGood (paged pages) opened client c st → IsPrefixOf c.part.input client.request
received_prefix pages opened client c Closed l g = absurd (cc)
received_prefix pages opened client c SynRcvd l g = subst (λ (xs : List ℕ). IsPrefixOf xs client.request) (sym g.input)
    record { rest = client.request; joined = refl }
received_prefix pages opened client c Established l g = g.text.input
received_prefix pages opened client c _ l g = g.input

has_taken : (pages : Pages) (k : ℕ) (client : AbstractClient) (c : Connection) (sent : List Sent) (opened : Option ℕ)
    → RequestedBy k client c sent opened → is_some opened ≡ true → is_live c.state ≡ true → StateGood (paged pages) opened client c c.state
    → HasTextNumbers c → HasTaken client c
has_taken pages k client c sent None r s l g n = absurd (cc)
has_taken pages k client c sent (Some o) r s l g n =
    let q = r l in
    let v = q.within in
    let p = split_taken client c.taken (length c.part.input) (fin_sent client.fin) refl q.low v.high v.input v.asked in
    record {
      bytes = p.0;
      least = p.1;
      most = p.2;
      taken = p.3;
      input = prefix_within c.part.input client.request p.0 p.4
          (received_prefix pages (Some o) client c c.state l g);
      numbers = n;
    }

pub clean_parts : CleanParts
clean_parts m pages lawful w r k side x clean =
    let c : Connection = server_side w side in
    let g : Good (paged pages) k side.client side.opened side.history c w.sent = (all_good m pages lawful w r).each k side x clean in
    record {
      of_node = λ i e id s y who is nr. (let q : seg e ≡ s = ap segment_in is in
          subst (λ z. SendsPage pages side e.epoch (era side.history c e.epoch) z) q
          (outputs_page pages side e.epoch (era side.history c e.epoch) (seg e) (ap (λ (z : PlainSegment). has_rst z.flags) q ∙ nr)
          (g.of_node i e y who).output));
      of_client = λ i e id s y who is nr l. (let q : seg e ≡ s = ap segment_in is in
          subst (λ z. AsksRequest side z) q (asks_request side e.epoch (seg e) (ap (λ (z : PlainSegment). has_rst z.flags) q ∙ nr)
          (subst (λ (z : PlainSegment). 0 < length z.text) (sym q) l) (g.of_client i e y who).output));
      acknowledges = λ i e id s y who is nr a. (let q : seg e ≡ s = ap segment_in is in
          has_opened side e.epoch (seg e) (ap (λ (z : PlainSegment). has_rst z.flags) q ∙ nr) (ap (λ (z : PlainSegment). has_ack z.flags) q
          ∙ a) (g.of_client i e y who).output);
      requested = λ l o. has_taken pages k side.client c w.sent side.opened (((all_requested m pages lawful w r).each k side x).asked_by
          clean) o l (g.connection l).state (text_numbers c (all_numbered m pages lawful w r k side x));
      epochs = one_epoch pages side c side.opened refl g.opened_good (λ l. (g.connection l).state);
    }
