-- An incarnation of a connection, one exchange longer.
use Rattle.node_laws.proofs.Prelude.{All, option_map_or, ◌≡◌, ℕ, zero, suc, ◌+◌, ◌<◌, ◌≤◌, min, Bool, true, false, not, ◌&&◌, ◌||◌, ◌⊎◌}
use Rattle.node_laws.proofs.Prelude.{inl, inr, List, [], ◌∷◌, ◌++◌, length, take, drop, refl, sym, ap, ◌∙◌, subst, arith, Option, Some}
use Rattle.node_laws.proofs.Prelude.{None, slice_get, eqb, ltb, if◌then◌else◌, common_steps, wrap, OWN_MSS, PlainSegment, has_syn, has_fin}
use Rattle.node_laws.proofs.Prelude.{has_rst, has_ack, SYN, AppState, Snapshot, AppSpec, IsPrefixOf, IsSnapshot, State, Closed, SynRcvd}
use Rattle.node_laws.proofs.Prelude.{Established, CloseWait, FinWait1, FinWait2, Closing, TimeWait, LastAck, Sockets, Connection, closed}
use Rattle.node_laws.proofs.Prelude.{is_live, snd_una, rcv_nxt, occupies_sequence_space, is_plain_syn, segment_of, is_again, syn_ack}
use Rattle.node_laws.proofs.Prelude.{text_segment, fin_of, reset_for_no_connection, Outcome, asked, first_mss, accepted, is_acked}
use Rattle.node_laws.proofs.Prelude.{on_segment, on_tick, Alike, IsSlice, choose, both_ways, only_some, same_place, append_nothing, IsPart}
use Rattle.node_laws.proofs.Prelude.{part_grows, prefix_refl, prefix_length, and_true, eqb-eq, FitConn, FitOut, all_nil, on_segment_fits}
use Rattle.node_laws.proofs.Prelude.{on_tick_fits, Moves, asked_moves, segment_moves, tick_moves, IsSteady, stepped_fits, stepped_reports}
use Rattle.node_laws.proofs.Prelude.{Safe, SafeState, IsDue, StepReports, due, alike_trans, alike_sym, alike_refl, segment_reports}
use Rattle.node_laws.proofs.Prelude.{tick_reports, Exchange, is_opening, Account, Begins, IsSelection, SendsSlice, Acknowledges}
use Rattle.node_laws.proofs.Prelude.{sequence_length, IsAcknowledged, IsExtendedBy, IsReceived, OutputModel, FollowsModelAt, Now}
use Rattle.node_laws.proofs.Prelude.{LensWithin, asked_within, on_segment_within, on_tick_within}
use Rattle.node_laws.proofs.Speaking.{IsEnd, IsReported, prefix_size, prefix_trans, slice_prefix, reported_end, reported_on}
use Rattle.node_laws.proofs.Speaking.{reported_starts, reported_where}
use Rattle.node_laws.proofs.Texts.{get_append}
use Rattle.node_laws.proofs.Texts.InBoth.{in_first, in_second}
use Rattle.node_laws.proofs.FromInvariant.{HasEnded, Kept, Unended, grows_refl, received_on}
use Rattle.node_laws.proofs.StepTable.{IsBare, bare, Reading, AtPage, AtOpen, AtEnd, Page, Moved, Spoke, segment_moved, tick_moved}
use Rattle.node_laws.proofs.StepTable.{accepted_page}
use Rattle.node_laws.proofs.Beating.{due_size}
use Rattle.node_laws.proofs.Replying.{answer_no_syn, sent_ack, step_short}
use Rattle.node_laws.proofs.Lines.{OfMedium, met, left_of}
use Rattle.node_laws.proofs.Lines.OfMedium.{passes_by, evicted, unanswered, refused, born, delivers_text, ticks}

begins_on : (x : Exchange) (incarnation : List Exchange) (a : Account) (text : List ℕ) (captures : List Snapshot) (sent : List ℕ)
    → Begins incarnation a → Begins (x ∷ incarnation) (record a { input = text; snapshots = captures; stream = sent })
begins_on x [] a text captures sent h = absurd h
begins_on x (y ∷ []) a text captures sent h = record {
  syn = h.syn;
  received = h.received;
  is_syn = h.is_syn;
  number = h.number;
  mss = h.mss;
  answer = h.answer;
  output = h.output;
  seq = h.seq;
  acks = h.acks;
}
begins_on x (y ∷ z ∷ older) a text captures sent h = begins_on y (z ∷ older) a text captures sent h

-- an acknowledgement, with one exchange more
ack_later : (x : Exchange) (incarnation : List Exchange) (i j : ℕ) (s : PlainSegment) → IsAcknowledged incarnation i j s
    → IsAcknowledged (x ∷ incarnation) (suc i) (suc j) s
ack_later x incarnation i j s h = record {
  place = suc h.place;
  from = omega (arith, h.from);
  to = omega (arith, h.to);
  segment = h.segment;
  received = h.received;
  acks = h.acks;
  exact = h.exact;
}

ack_from : (x : Exchange) (incarnation : List Exchange) (j : ℕ) (s : PlainSegment) → IsAcknowledged incarnation 0 j s
    → IsAcknowledged (x ∷ incarnation) 0 (suc j) s
ack_from x incarnation j s h = record {
  place = suc h.place;
  from = omega arith;
  to = omega (arith, h.to);
  segment = h.segment;
  received = h.received;
  acks = h.acks;
  exact = h.exact;
}

-- a bare segment carries nothing
bare_sends : (iss : ℕ) (text : List ℕ) (s : PlainSegment) → IsBare s → SendsSlice iss text s
bare_sends iss text s b = record {
  syn = λ e. absurd (let z : has_syn s.flags ≡ false = b.syn in cc);
  bytes = λ l. absurd (let z : length s.text ≡ 0 = ap length b.text in omega (arith, l, z));
  fin = λ e. absurd (let z : has_fin s.flags ≡ false = b.fin in cc);
}

or_right : (a b : Bool) → b ≡ true → a || b ≡ true
or_right true b h = refl
or_right false b h = h

-- a FIN takes a number
fin_placed : (s : PlainSegment) → has_fin s.flags ≡ true → occupies_sequence_space s ≡ true
fin_placed s h = or_right (ltb 0 (length s.text)) (has_syn s.flags || has_fin s.flags) (or_right (has_syn s.flags) (has_fin s.flags) h)

-- more text after exchanges without a FIN
sends_more : (iss : ℕ) (sent more : List ℕ) (s : PlainSegment) → (has_fin s.flags ≡ true → ⊥) → SendsSlice iss sent s → SendsSlice iss (sent ++ more) s
sends_more iss sent more s none h = record {
  syn = h.syn;
  bytes = λ l. (let x = h.bytes l in
      let p : IsPart (sent ++ more) s.text x.at = part_grows sent more s.text x.at record { fits = x.slice.fits; same = x.slice.same } in
      record { at = x.at; slice = record { fits = p.fits; same = p.same }; seq = x.seq });
  fin = λ e. absurd (none e);
}

bare_short : (most : ℕ) (s : PlainSegment) → IsBare s → length s.text ≤ most
bare_short most s b = let z : length s.text ≡ 0 = ap length b.text in omega (arith, z)

-- a state in which no FIN was sent
abbrev speaks : State → Bool
speaks SynRcvd = true
speaks Established = true
speaks CloseWait = true
speaks _ = false

module _ (m : AppSpec) (steady : IsSteady m) (port : ℕ) (model : OutputModel) (laws : FollowsModelAt m port model) where
  abbrev AnyLength : ℕ → Type 0
  AnyLength n = Unit {0}

  abbrev any_length : (p : AppState) → All IsSnapshot p.snapshots → AnyLength (length (m.output p))
  any_length p h = tt

  abbrev SafeIn : Connection → Type 0
  SafeIn c = Safe m steady AnyLength any_length c

  abbrev DueIn : Connection → PlainSegment → Type 0
  DueIn c s = IsDue m steady AnyLength any_length c s

  abbrev PageIn : List Exchange → Connection → List ℕ → Bool → List ℕ → Type 0
  PageIn incarnation c text e sent = Page m port model laws (Unended incarnation) c text e sent

  abbrev At : List Exchange → State → Connection → List ℕ → Bool → List ℕ → Type 0
  At incarnation st c text e sent = AtPage m port model laws (Unended incarnation) st c text e sent

  -- the connection of a life
  pub record Live (incarnation : List Exchange) (a : Account) (ended : Bool) (c : Connection) : Type 0 where
    pub first_is : c.iss ≡ a.iss
    pub peer_is : c.irs ≡ a.irs
    pub captures_are : c.part.snapshots ≡ a.snapshots
    pub page : PageIn incarnation c a.input ended a.stream
    pub safe : SafeIn c
    pub fit : FitConn c
    pub within : LensWithin (first_mss a.peer_mss) c

  -- it is acknowledged
  pub record Passed (incarnation : List Exchange) (k : ℕ) (c : Connection) (s : PlainSegment) : Type 0 where
    pub at : ℕ
    pub seq : s.seq ≡ wrap (c.iss + at)
    pub history : at < c.acked
    pub acked : IsAcknowledged incarnation 0 k s

  pub record Good (c : Connection) (incarnation : List Exchange) : Type 0 where
    pub kept : Kept model incarnation
    pub live : is_live c.state ≡ true → Live incarnation kept.account kept.ended c
    pub placed : is_live c.state ≡ true → (k : ℕ) (x : Exchange) (s : PlainSegment) → slice_get incarnation k ≡ Some x → x.output ≡ Some s
        → occupies_sequence_space s ≡ true → Passed incarnation k c s ⊎ DueIn c s

  -- one exchange longer it is good too, and its account grew
  pub record Onward (c : Connection) (incarnation : List Exchange) (g : Good c incarnation) (d : Connection) (x : Exchange) : Type 0 where
    pub good : Good d (x ∷ incarnation)
    pub grew : IsExtendedBy g.kept.account good.kept.account

  -- the last exchange had no FIN, or it had one
  last_or_before : (x : Exchange) (incarnation : List Exchange) → HasEnded (x ∷ incarnation)
      → ((s : PlainSegment) × (x.output ≡ Some s) × (has_fin s.flags ≡ true)) ⊎ HasEnded incarnation
  last_or_before x incarnation h = by_place h.place h.exchange h.segment h.there h.output h.fin
    where
      by_place : (k : ℕ) (y : Exchange) (s : PlainSegment) → slice_get (x ∷ incarnation) k ≡ Some y → y.output ≡ Some s
          → has_fin s.flags ≡ true → ((s : PlainSegment) × (x.output ≡ Some s) × (has_fin s.flags ≡ true)) ⊎ HasEnded incarnation
      by_place zero y s g e f = inl (s, only_some (λ z. z.output ≡ Some s → x.output ≡ Some s) x y g (λ q. q) e, f)
      by_place (suc k) y s g e f = inr record { place = k; exchange = y; segment = s; there = g; output = e; fin = f }

  -- if still no FIN is sent, all else is unchanged
  unended_page : (incarnation incarnation' : List Exchange) (d : Connection) (st : State) (now : List ℕ) (over : Bool) (sent : List ℕ)
      → (speaks st ≡ true → Unended incarnation → Unended incarnation') → At incarnation st d now over sent → At incarnation' st d now over sent
  unended_page incarnation incarnation' d Closed now over sent u h = tt
  unended_page incarnation incarnation' d SynRcvd now over sent u h = record {
    acked = h.acked;
    len = h.len;
    none = h.none;
    snapshots = h.snapshots;
    is = h.is;
    unsent = h.unsent;
    unended = u refl h.unended;
    here = h.here;
  }
  unended_page incarnation incarnation' d Established now over sent u h = record {
    count = h.count;
    opens = h.opens;
    is = h.is;
    fits = h.fits;
    sent_is = h.sent_is;
    unended = u refl h.unended;
  }
  unended_page incarnation incarnation' d CloseWait now over sent u h = record {
    count = h.count;
    opens = h.opens;
    is = h.is;
    fits = h.fits;
    sent_is = h.sent_is;
    unended = u refl h.unended;
  }
  unended_page incarnation incarnation' d FinWait1 now over sent u h = record { end = h.end; count = h.count; len = h.len; is = h.is }
  unended_page incarnation incarnation' d FinWait2 now over sent u h = record { end = h.end; count = h.count; len = h.len; is = h.is }
  unended_page incarnation incarnation' d Closing now over sent u h = record { end = h.end; count = h.count; len = h.len; is = h.is }
  unended_page incarnation incarnation' d TimeWait now over sent u h = record { end = h.end; count = h.count; len = h.len; is = h.is }
  unended_page incarnation incarnation' d LastAck now over sent u h = record { end = h.end; count = h.count; len = h.len; is = h.is }

  live_longer : (incarnation incarnation' : List Exchange) (a : Account) (ended : Bool) (c : Connection)
      → (Unended incarnation → Unended incarnation') → Live incarnation a ended c → Live incarnation' a ended c
  live_longer incarnation incarnation' a ended c u l = record {
    first_is = l.first_is;
    peer_is = l.peer_is;
    captures_are = l.captures_are;
    page = record { at = unended_page incarnation incarnation' c c.state a.input ended a.stream (λ z. u) l.page.at; taken = l.page.taken };
    safe = l.safe;
    fit = l.fit;
    within = l.within;
  }

  -- ---- one exchange longer

  module _ (x : Exchange) (incarnation : List Exchange) (k : Kept model incarnation) (now : List ℕ) (over : Bool) (captures : List Snapshot) (sent : List ℕ)
      (taken : IsSelection k.account.irs (x ∷ incarnation) now over)
      (snapshots : All IsSnapshot captures)
      (prefix : IsPrefixOf k.account.input now)
      (longer_sent : IsPrefixOf k.account.stream sent)
      (is_received : IsReceived k.account.iss (x ∷ incarnation) sent)
      (grows : (i : ℕ) (y : Exchange) (s : PlainSegment) → slice_get incarnation i ≡ Some y → y.output ≡ Some s → SendsSlice k.account.iss sent s)
      (says : (s : PlainSegment) → x.output ≡ Some s → SendsSlice k.account.iss sent s)
      (short : (s : PlainSegment) → x.output ≡ Some s → length s.text ≤ first_mss k.account.peer_mss)
      (acks : (s : PlainSegment) → x.output ≡ Some s → has_rst s.flags ≡ false → Acknowledges k.account.irs (x ∷ incarnation) now s)
      (same : length sent < 1073741824 → (s : PlainSegment) (j : ℕ) (y : Exchange) (t : PlainSegment) → x.output ≡ Some s
      → slice_get incarnation j ≡ Some y → y.output ≡ Some t → occupies_sequence_space s ≡ true → occupies_sequence_space t ≡ true → s.seq ≡ t.seq → Alike t s)
      (one : (s : PlainSegment) (j : ℕ) (y : Exchange) (t : PlainSegment) → x.output ≡ Some s → slice_get incarnation j ≡ Some y
      → y.output ≡ Some t → occupies_sequence_space s ≡ true → occupies_sequence_space t ≡ true → (s.seq ≡ t.seq → ⊥)
      → IsAcknowledged (x ∷ incarnation) 0 (suc j) t)
      (of_page : IsReported model (HasEnded (x ∷ incarnation)) now captures sent) where
    sent_text_is : (y : Exchange) (s : PlainSegment) → Some x ≡ Some y → y.output ≡ Some s → x.output ≡ Some s
    sent_text_is y s g h = only_some (λ z. z.output ≡ Some s → x.output ≡ Some s) x y g (λ e. e) h

    sends_on : (i : ℕ) (y : Exchange) (s : PlainSegment) → slice_get (x ∷ incarnation) i ≡ Some y → y.output ≡ Some s → SendsSlice k.account.iss sent s
    sends_on zero y s g h = says s (sent_text_is y s g h)
    sends_on (suc i) y s g h = grows i y s g h

    short_on : (i : ℕ) (y : Exchange) (s : PlainSegment) → slice_get (x ∷ incarnation) i ≡ Some y → y.output ≡ Some s
        → length s.text ≤ first_mss k.account.peer_mss
    short_on zero y s g h = short s (sent_text_is y s g h)
    short_on (suc i) y s g h = k.short i y s g h

    acks_on : (i : ℕ) (y : Exchange) (s : PlainSegment) → slice_get (x ∷ incarnation) i ≡ Some y → y.output ≡ Some s
        → has_rst s.flags ≡ false → Acknowledges k.account.irs (drop i (x ∷ incarnation)) now s
    acks_on zero y s g h r = acks s (sent_text_is y s g h) r
    acks_on (suc i) y s g h r = (let a = k.acknowledges i y s g h r in
        record {
          selected = a.selected;
          counts_fin = a.counts_fin;
          is = a.is;
          prefix = prefix_trans a.selected k.account.input now a.prefix
              prefix;
          ack = a.ack;
        })

    short_before : length sent < 1073741824 → length k.account.stream < 1073741824
    short_before l = omega (arith, l, prefix_length k.account.stream sent longer_sent)

    same_on : length sent < 1073741824 → (i j : ℕ) (y z : Exchange) (s t : PlainSegment) → i < j → slice_get (x ∷ incarnation) i ≡ Some y
        → slice_get (x ∷ incarnation) j ≡ Some z → y.output ≡ Some s → z.output ≡ Some t → occupies_sequence_space s ≡ true
        → occupies_sequence_space t ≡ true → s.seq ≡ t.seq → Alike t s
    same_on few i zero y z s t l g h p q a b e = absurd (omega (arith, l))
    same_on few zero (suc j) y z s t l g h p q a b e = same few s j z t (sent_text_is y s g p) h q a b e
    same_on few (suc i) (suc j) y z s t l g h p q a b e = k.same (short_before few) i j y z s t (omega (arith, l)) g h p q a b e

    one_on : (i j : ℕ) (y z : Exchange) (s t : PlainSegment) → i < j → slice_get (x ∷ incarnation) i ≡ Some y
        → slice_get (x ∷ incarnation) j ≡ Some z → y.output ≡ Some s → z.output ≡ Some t → occupies_sequence_space s ≡ true
        → occupies_sequence_space t ≡ true → (s.seq ≡ t.seq → ⊥) → IsAcknowledged (x ∷ incarnation) i j t
    one_on i zero y z s t l g h p q a b e = absurd (omega (arith, l))
    one_on zero (suc j) y z s t l g h p q a b e = one s j z t (sent_text_is y s g p) h q a b e
    one_on (suc i) (suc j) y z s t l g h p q a b e = ack_later x incarnation i j t (k.one i j y z s t (omega (arith, l)) g h p q a b e)

    abbrev longer : Kept model (x ∷ incarnation)
    longer = record {
      account = record k.account { input = now; snapshots = captures; stream = sent };
      ended = over;
      begins = begins_on x incarnation k.account now captures sent k.begins;
      taken = taken;
      in_range = snapshots;
      sent = is_received;
      says = sends_on;
      short = short_on;
      acknowledges = acks_on;
      same = same_on;
      one = one_on;
      of_page = of_page;
    }

  -- ---- nothing is sent, or only a reset, and the connection stays or is gone

  module _ (c c' : Connection) (x : Exchange) (incarnation : List Exchange) (g : Good c incarnation)
      (resets : (s : PlainSegment) → x.output ≡ Some s → (is_live c'.state ≡ false) × (occupies_sequence_space s ≡ false) × (has_rst s.flags ≡ true))
      (stays : is_live c'.state ≡ true → c' ≡ c) where
    unplaced : (s : PlainSegment) → x.output ≡ Some s → occupies_sequence_space s ≡ true → ⊥
    unplaced s e p = let z : occupies_sequence_space s ≡ false = (resets s e).1 in cc

    no_acks : (s : PlainSegment) → x.output ≡ Some s → has_rst s.flags ≡ false → Acknowledges g.kept.account.irs (x ∷ incarnation) g.kept.account.input s
    no_acks s e r = absurd (let z : has_rst s.flags ≡ true = (resets s e).2 in cc)

    no_fin : (s : PlainSegment) → x.output ≡ Some s → has_fin s.flags ≡ true → ⊥
    no_fin s e f = unplaced s e (fin_placed s f)

    ended_before : HasEnded (x ∷ incarnation) → HasEnded incarnation
    ended_before h = elim (last_or_before x incarnation h) [ inl q ↦ absurd (no_fin q.0 q.1 q.2) | inr q ↦ q ]

    abbrev still_kept : Kept model (x ∷ incarnation)
    still_kept =
        let k : Kept model incarnation = g.kept in
        longer x incarnation k k.account.input k.ended k.account.snapshots k.account.stream (inl k.taken) k.in_range
        (prefix_refl k.account.input) (prefix_refl k.account.stream)
        (received_on k.account.iss x incarnation k.account.stream k.sent) k.says
        (λ s e. bare_sends k.account.iss _ s (bare s (resets s e).1))
        (λ s e. bare_short (first_mss k.account.peer_mss) s (bare s (resets s e).1))
        no_acks
        (λ few s j y t e h q a b u. absurd (unplaced s e a))
        (λ s j y t e h q a b u. absurd (unplaced s e a))
        (reported_where model (HasEnded incarnation) (HasEnded (x ∷ incarnation)) ended_before k.account.input k.account.snapshots k.account.stream k.of_page)

    still_placed : is_live c'.state ≡ true → (i : ℕ) (y : Exchange) (s : PlainSegment) → slice_get (x ∷ incarnation) i ≡ Some y
        → y.output ≡ Some s → occupies_sequence_space s ≡ true → Passed (x ∷ incarnation) i c' s ⊎ DueIn c' s
    still_placed l zero y s h e p = absurd (let w : x.output ≡ Some s = only_some (λ z. z.output ≡ Some s → x.output ≡ Some s) x y h
        (λ q. q) e in let z : occupies_sequence_space s ≡ false = (resets s w).1 in cc)
    still_placed l (suc i) y s h e p =
        subst (λ z. Passed (x ∷ incarnation) (suc i) z s ⊎ DueIn z s) (sym (stays l))
        (elim (g.placed (subst (λ z. is_live z.state ≡ true) (stays l) l) i y s h e p) [
          | inl q ↦ inl record { at = q.at; seq = q.seq; history = q.history; acked = ack_from x incarnation i s q.acked }
          | inr q ↦ inr q
        ])

    pub on_still : Onward c incarnation g c' x
    on_still = record {
      good = record {
        kept = still_kept;
        live = λ l. subst (λ z. Live (x ∷ incarnation) g.kept.account g.kept.ended z) (sym (stays l))
            (live_longer incarnation (x ∷ incarnation) g.kept.account g.kept.ended c (λ u h. u (ended_before h))
            (g.live (subst (λ z. is_live z.state ≡ true) (stays l) l)));
        placed = still_placed;
      };
      grew = grows_refl g.kept.account;
    }

  -- ---- what is outstanding

  -- what it states of the text
  sends_text : (incarnation : List Exchange) (d : Connection) (now : List ℕ) (over fin : Bool) (sent : List ℕ) (s : PlainSegment)
      → AtOpen m port model laws (Unended incarnation) fin d now over sent → s.seq ≡ wrap (d.iss + d.acked) → Alike s (text_segment m d)
      → SendsSlice d.iss sent s
  sends_text incarnation d now over fin sent s h q a =
      let p : IsSlice (take (d.part.acked + d.len) (m.output d.part)) (take d.len (drop d.part.acked (m.output d.part))) d.part.acked =
      slice_prefix d.part.acked d.len (m.output d.part) h.fits in
      let r : IsSlice sent s.text d.part.acked = subst (λ z. IsSlice z s.text d.part.acked) (sym h.sent_is)
      (subst (λ z. IsSlice (take (d.part.acked + d.len) (m.output d.part)) z d.part.acked) (sym a.text) p) in
      record {
        syn = λ e. absurd (let z : has_syn s.flags ≡ false = ap has_syn a.flags in cc);
        bytes = λ l. record { at = d.part.acked; slice = r; seq = q ∙ ap wrap (omega (arith, h.count)) };
        fin = λ e. absurd (let z : has_fin s.flags ≡ false = ap has_fin a.flags in cc);
      }

  sends_fin : (incarnation : List Exchange) (d : Connection) (now : List ℕ) (over fin : Bool) (sent : List ℕ) (s : PlainSegment)
      → AtEnd m port model laws (Unended incarnation) 1 fin d now over sent → s.seq ≡ wrap (d.iss + d.acked) → Alike s (fin_of d) → SendsSlice d.iss sent s
  sends_fin incarnation d now over fin sent s h q a = record {
    syn = λ e. absurd (let z : has_syn s.flags ≡ false = ap has_syn a.flags in cc);
    bytes = λ l. absurd (let z : length s.text ≡ 0 = ap length a.text in omega (arith, l, z));
    fin = λ e. (a.text, q ∙ ap wrap (omega (arith, h.count)));
  }

  sends_due : (incarnation : List Exchange) (d : Connection) (st : State) (now : List ℕ) (over : Bool) (sent : List ℕ) (s : PlainSegment)
      → SafeState m steady AnyLength any_length d st → At incarnation st d now over sent → 0 < d.len → s.seq ≡ wrap (d.iss + d.acked) → Alike s (due m st d)
      → SendsSlice d.iss sent s
  sends_due incarnation d Closed now over sent s h g l q a = absurd h
  sends_due incarnation d SynRcvd now over sent s h g l q a = record {
    syn = λ e. (q ∙ ap wrap (omega (arith, h.acked)), a.text);
    bytes = λ z. absurd (let y : length s.text ≡ 0 = ap length a.text in omega (arith, z, y));
    fin = λ e. absurd (let z : has_fin s.flags ≡ false = ap has_fin a.flags in cc);
  }
  sends_due incarnation d Established now over sent s h g l q a = sends_text incarnation d now over false sent s g q a
  sends_due incarnation d CloseWait now over sent s h g l q a = sends_text incarnation d now over true sent s g q a
  sends_due incarnation d FinWait1 now over sent s h g l q a = sends_fin incarnation d now over false sent s g q a
  sends_due incarnation d FinWait2 now over sent s h g l q a = absurd (let z = h.len in omega (arith, l, z))
  sends_due incarnation d Closing now over sent s h g l q a = sends_fin incarnation d now over true sent s g q a
  sends_due incarnation d TimeWait now over sent s h g l q a = absurd (let z = h.len in omega (arith, l, z))
  sends_due incarnation d LastAck now over sent s h g l q a = sends_fin incarnation d now over true sent s g q a

  -- before the own FIN none is due, and with it the text is that of the end
  no_fin_due : (d : Connection) (st : State) (s : PlainSegment) → speaks st ≡ true → Alike s (due m st d) → has_fin s.flags ≡ true → ⊥
  no_fin_due d SynRcvd s e a f = let z : has_fin s.flags ≡ false = ap has_fin a.flags in cc
  no_fin_due d Established s e a f = let z : has_fin s.flags ≡ false = ap has_fin a.flags in cc
  no_fin_due d CloseWait s e a f = let z : has_fin s.flags ≡ false = ap has_fin a.flags in cc
  no_fin_due d Closed s e a f = absurd (cc)
  no_fin_due d FinWait1 s e a f = absurd (cc)
  no_fin_due d FinWait2 s e a f = absurd (cc)
  no_fin_due d Closing s e a f = absurd (cc)
  no_fin_due d TimeWait s e a f = absurd (cc)
  no_fin_due d LastAck s e a f = absurd (cc)

  end_due : (incarnation : List Exchange) (d : Connection) (st : State) (now : List ℕ) (over : Bool) (sent : List ℕ) (s : PlainSegment)
      → At incarnation st d now over sent → Alike s (due m st d) → has_fin s.flags ≡ true → IsEnd model now d.part.snapshots sent
  end_due incarnation d Closed now over sent s g a f = absurd (let z : has_fin s.flags ≡ false = ap has_fin a.flags in cc)
  end_due incarnation d SynRcvd now over sent s g a f = absurd (no_fin_due d SynRcvd s refl a f)
  end_due incarnation d Established now over sent s g a f = absurd (no_fin_due d Established s refl a f)
  end_due incarnation d CloseWait now over sent s g a f = absurd (no_fin_due d CloseWait s refl a f)
  end_due incarnation d FinWait1 now over sent s g a f = g.end
  end_due incarnation d FinWait2 now over sent s g a f = g.end
  end_due incarnation d Closing now over sent s g a f = g.end
  end_due incarnation d TimeWait now over sent s g a f = g.end
  end_due incarnation d LastAck now over sent s g a f = g.end

  -- its numbers are low
  open_low : (incarnation : List Exchange) (d : Connection) (now : List ℕ) (over fin : Bool) (sent : List ℕ)
      → AtOpen m port model laws (Unended incarnation) fin d now over sent → length sent < 1073741824 → d.acked < 4294967296
  open_low incarnation d now over fin sent g l =
      let size : length sent ≡ d.part.acked + d.len = ap length g.sent_is ∙ prefix_size (d.part.acked + d.len) (m.output d.part) g.fits in
      omega (arith, g.count, size, l)

  page_low : (incarnation : List Exchange) (d : Connection) (st : State) (now : List ℕ) (over : Bool) (sent : List ℕ) → is_live st ≡ true
      → At incarnation st d now over sent → length sent < 1073741824 → d.acked < 4294967296
  page_low incarnation d Closed now over sent e g l = absurd (cc)
  page_low incarnation d SynRcvd now over sent e g l = omega (arith, g.acked)
  page_low incarnation d Established now over sent e g l = open_low incarnation d now over false sent g l
  page_low incarnation d CloseWait now over sent e g l = open_low incarnation d now over true sent g l
  page_low incarnation d FinWait1 now over sent e g l = omega (arith, g.count, l)
  page_low incarnation d FinWait2 now over sent e g l = omega (arith, g.count, l)
  page_low incarnation d Closing now over sent e g l = omega (arith, g.count, l)
  page_low incarnation d TimeWait now over sent e g l = omega (arith, g.count, l)
  page_low incarnation d LastAck now over sent e g l = omega (arith, g.count, l)

  -- ---- the connection takes a step

  -- what came acknowledges all that is outstanding
  pub record Acks (received : Option PlainSegment) (c : Connection) : Type 0 where
    pub segment : PlainSegment
    pub is : received ≡ Some segment
    pub acks : has_ack segment.flags ≡ true
    pub exact : segment.ack ≡ wrap (snd_una c + c.len)

  module _ (c c' : Connection) (o : Outcome) (received : Option PlainSegment) (acked : Bool) (incarnation : List Exchange)
      (g : Good c incarnation) (alive : is_live c.state ≡ true) (fit : FitConn o.connection)
      (sp : Spoke m port model laws (Unended incarnation) received c g.kept.account.input g.kept.ended g.kept.account.stream o)
      (tells : StepReports m steady AnyLength any_length c o.connection (segment_of m o.connection o.step) (is_again o.step))
      (moves : Moves acked c o.connection)
      (receives_ack : acked ≡ true → Acks received c)
      (number : (s : PlainSegment) → segment_of m o.connection o.step ≡ Some s → s.ack ≡ rcv_nxt o.connection)
      (within : LensWithin (first_mss g.kept.account.peer_mss) o.connection)
      (short : (s : PlainSegment) → segment_of m o.connection o.step ≡ Some s → length s.text ≤ first_mss g.kept.account.peer_mss)
      (left : is_live c'.state ≡ true → (is_live o.connection.state ≡ true) × (c' ≡ o.connection)) where
    abbrev d : Connection
    d = o.connection

    abbrev sent : Option PlainSegment
    sent = segment_of m o.connection o.step

    abbrev x : Exchange
    x = met received sent

    abbrev a : Account
    a = g.kept.account

    abbrev w : Moved m port model laws (Unended incarnation) received c a.input g.kept.ended sp.sent_now d
    w = sp.moved

    lv : Live incarnation a g.kept.ended c
    lv = g.live alive

    read : Reading received a.irs a.input g.kept.ended w.now w.over
    read = subst (λ n. Reading received n a.input g.kept.ended w.now w.over) lv.peer_is w.read

    step_taken : IsSelection a.irs (x ∷ incarnation) w.now w.over
    step_taken = elim read [
      | inl q ↦ inl (subst (λ z. IsSelection a.irs incarnation z w.over) (sym q.0) (subst (λ z. IsSelection a.irs incarnation a.input z)
          (sym q.1) g.kept.taken))
      | inr r ↦ inr record {
        segment = r.segment;
        received = r.is;
        earlier = a.input;
        before = subst (λ z. IsSelection a.irs incarnation a.input z) r.unended g.kept.taken;
        seq = r.seq;
        joined = r.joined;
        fin = r.fin;
      }
    ]

    step_prefix : IsPrefixOf a.input w.now
    step_prefix = elim read [
      | inl q ↦ record { rest = []; joined = append_nothing a.input ∙ sym q.0 }
      | inr r ↦ record { rest = r.segment.text; joined = sym r.joined }
    ]

    captures_on : a.snapshots ++ w.more ≡ d.part.snapshots
    captures_on = ap (λ l. l ++ w.more) (sym lv.captures_are) ∙ sym w.snapshots

    first_on : is_live d.state ≡ true → d.iss ≡ a.iss
    first_on l = (tells.onto l).iss ∙ lv.first_is

    -- ---- the text that was sent

    more_sent : IsPrefixOf a.stream sp.sent_now
    more_sent = elim sp.adds [
      | inl q ↦ record { rest = []; joined = append_nothing a.stream ∙ sym q }
      | inr n ↦ record { rest = (text_segment m d).text; joined = sym n.joined }
    ]

    step_received : IsReceived a.iss (x ∷ incarnation) sp.sent_now
    step_received =
        let old : IsReceived a.iss (x ∷ incarnation) a.stream = received_on a.iss x incarnation a.stream g.kept.sent in
        elim sp.adds [
          | inl q ↦ subst (λ z. IsReceived a.iss (x ∷ incarnation) z) (sym q) old
          | inr n ↦ subst (λ z. IsReceived a.iss (x ∷ incarnation) z) (sym n.joined)
              (λ at byte e. elim (get_append a.stream (text_segment m d).text at byte e) [
                | in_first y ↦ old at byte y
                | in_second j i y ↦ record {
                  place = 0;
                  segment = text_segment m d;
                  output = n.is;
                  from = length a.stream;
                  seq = ap (λ k. wrap (k + d.acked)) (first_on n.live) ∙ ap wrap (let z = n.acked in omega (arith, z));
                  within = j;
                  sum = i;
                  is = y;
                }
              ])
        ]

    older_sends : (i : ℕ) (y : Exchange) (s : PlainSegment) → slice_get incarnation i ≡ Some y → y.output ≡ Some s → SendsSlice a.iss sp.sent_now s
    older_sends i y s h e = elim sp.adds [
      | inl q ↦ subst (λ z. SendsSlice a.iss z s) (sym q) (g.kept.says i y s h e)
      | inr n ↦ subst (λ z. SendsSlice a.iss z s) (sym n.joined)
          (sends_more a.iss a.stream (text_segment m d).text s
          (λ f. n.unended record { place = i; exchange = y; segment = s; there = h; output = e; fin = f }) (g.kept.says i y s h e))
    ]

    step_sends : (s : PlainSegment) → sent ≡ Some s → SendsSlice a.iss sp.sent_now s
    step_sends s e = both_ways (occupies_sequence_space s)
        (λ p. let t = tells.output s e p in
        subst (λ n. SendsSlice n sp.sent_now s) (first_on t.live)
        (sends_due incarnation d d.state w.now w.over sp.sent_now s (tells.safe t.live).state w.page.at t.due_now.len t.due_now.seq t.due_now.alike))
        (λ p. bare_sends a.iss _ s (bare s p))

    step_acks : (s : PlainSegment) → sent ≡ Some s → has_rst s.flags ≡ false → Acknowledges a.irs (x ∷ incarnation) w.now s
    step_acks s e r = record {
      selected = w.now;
      counts_fin = w.over;
      is = step_taken;
      prefix = prefix_refl w.now;
      ack = number s e ∙ ap wrap (let a = w.irs ∙ lv.peer_is in let b = w.page.taken in omega (arith, a, b));
    }

    -- ---- of its page

    -- as before, if this exchange has no FIN
    reported_before : ((s : PlainSegment) → sent ≡ Some s → has_fin s.flags ≡ true → ⊥) → IsReported model (HasEnded (x ∷ incarnation))
        w.now d.part.snapshots sp.sent_now
    reported_before none =
        let before : HasEnded (x ∷ incarnation) → HasEnded incarnation = λ h. elim (last_or_before x incarnation h) [
          | inl q ↦ absurd (none q.0 q.1 q.2)
          | inr old ↦ old
        ] in
        elim sp.adds [
          | inl q ↦ subst (λ z. IsReported model (HasEnded (x ∷ incarnation)) w.now d.part.snapshots z) (sym q)
              (subst (λ z. IsReported model (HasEnded (x ∷ incarnation)) w.now z a.stream) captures_on
              (subst (λ z. IsReported model (HasEnded (x ∷ incarnation)) z (a.snapshots ++ w.more) a.stream) step_prefix.joined
              (reported_where model (HasEnded incarnation) (HasEnded (x ∷ incarnation)) before (a.input ++ step_prefix.rest) (a.snapshots ++ w.more) a.stream
              (reported_on m port model laws (HasEnded incarnation) a.input step_prefix.rest a.snapshots w.more a.stream g.kept.of_page))))
          | inr n ↦ reported_where model ⊥ (HasEnded (x ∷ incarnation)) (λ h. n.unended (before h)) w.now d.part.snapshots sp.sent_now n.of_page
        ]

    -- and with a FIN the text is that of the end
    reported_with : (s : PlainSegment) → sent ≡ Some s → has_fin s.flags ≡ true → IsReported model (HasEnded (x ∷ incarnation)) w.now
        d.part.snapshots sp.sent_now
    reported_with s e f =
        let t = tells.output s e (fin_placed s f) in
        reported_end model (HasEnded (x ∷ incarnation)) w.now d.part.snapshots sp.sent_now
        (end_due incarnation d d.state w.now w.over sp.sent_now s w.page.at t.due_now.alike f)

    reported_by : (output : Option PlainSegment) → sent ≡ output → IsReported model (HasEnded (x ∷ incarnation)) w.now d.part.snapshots sp.sent_now
    reported_by None e = reported_before (λ s q f. absurd (let z : None ≡ Some s = sym e ∙ q in cc))
    reported_by (Some s) e =
        both_ways (has_fin s.flags) (λ f. reported_with s e f)
        (λ f. reported_before (λ t q h. absurd (let z : has_fin t.flags ≡ false = only_some (λ y. has_fin y.flags ≡ false) s t (sym e ∙ q) f in cc)))

    step_of_page : IsReported model (HasEnded (x ∷ incarnation)) w.now d.part.snapshots sp.sent_now
    step_of_page = reported_by sent refl

    still_unended : speaks d.state ≡ true → Unended incarnation → Unended (x ∷ incarnation)
    still_unended st u h = elim (last_or_before x incarnation h) [
      | inl q ↦ (let t = tells.output q.0 q.1 (fin_placed q.0 q.2) in no_fin_due d d.state q.0 st t.due_now.alike q.2)
      | inr old ↦ u old
    ]

    -- what was sent before, now
    older_placed : is_live d.state ≡ true → (k : ℕ) (y : Exchange) (t : PlainSegment) → slice_get incarnation k ≡ Some y → y.output ≡ Some t
        → occupies_sequence_space t ≡ true → Passed (x ∷ incarnation) (suc k) d t ⊎ DueIn d t
    older_placed l k y t h e p =
        let o = tells.onto l in
        elim (g.placed alive k y t h e p) [
          | inl q ↦ inl record {
            at = q.at;
            seq = q.seq ∙ ap (λ n. wrap (n + q.at)) (sym o.iss);
            history = (let a = q.history in omega (arith, a, o.grows));
            acked = ack_from x incarnation k t q.acked;
          }
          | inr q ↦ elim moves.place [
            | inl same ↦ (let z = o.kept q.len same in inr record {
              len = z.0;
              seq = q.seq ∙ ap (λ n. wrap (n + c.acked)) (sym o.iss) ∙ ap (λ n. wrap (d.iss + n)) (sym same);
              alike = alike_trans t (due m c.state c) (due m d.state d) q.alike (alike_sym (due m d.state d) (due m c.state c) z.1);
            })
            | inr more ↦ (let a = receives_ack more.0 in
                let size : sequence_length t ≡ c.len = due_size m steady AnyLength any_length c c.state t lv.safe.state q.len q.alike in
                inl record {
                  at = c.acked;
                  seq = q.seq ∙ ap (λ n. wrap (n + c.acked)) (sym o.iss);
                  history = (let b = more.1 in let u = q.len in omega (arith, b, u));
                  acked = record {
                    place = 0;
                    from = omega arith;
                    to = omega arith;
                    segment = a.segment;
                    received = a.is;
                    acks = a.acks;
                    exact = a.exact ∙ ap (λ n. wrap (n + c.len)) (sym q.seq) ∙ ap (λ n. wrap (t.seq + n)) (sym size);
                  };
                })
          ]
        ]

    step_same : length sp.sent_now < 1073741824 → (s : PlainSegment) (j : ℕ) (y : Exchange) (t : PlainSegment) → sent ≡ Some s
        → slice_get incarnation j ≡ Some y → y.output ≡ Some t → occupies_sequence_space s ≡ true → occupies_sequence_space t ≡ true → s.seq ≡ t.seq → Alike t s
    step_same few s j y t e h q a b u =
        let v = tells.output s e a in
        let low : d.acked < 4294967296 = page_low incarnation d d.state w.now w.over sp.sent_now v.live w.page.at few in
        elim (older_placed v.live j y t h q b) [
          | inl z ↦ absurd (let f : z.at ≡ d.acked = same_place d.iss z.at d.acked (let r = z.history in omega (arith, low, r)) low
              (sym z.seq ∙ sym u ∙ v.due_now.seq) in let r = z.history in omega (arith, f, r))
          | inr z ↦ alike_trans t (due m d.state d) s z.alike (alike_sym s (due m d.state d) v.due_now.alike)
        ]

    step_one : (s : PlainSegment) (j : ℕ) (y : Exchange) (t : PlainSegment) → sent ≡ Some s → slice_get incarnation j ≡ Some y
        → y.output ≡ Some t → occupies_sequence_space s ≡ true → occupies_sequence_space t ≡ true → (s.seq ≡ t.seq → ⊥)
        → IsAcknowledged (x ∷ incarnation) 0 (suc j) t
    step_one s j y t e h q a b u =
        let v = tells.output s e a in
        elim (older_placed v.live j y t h q b) [ inl z ↦ z.acked | inr z ↦ absurd (u (v.due_now.seq ∙ sym z.seq)) ]

    step_placed : is_live d.state ≡ true → (i : ℕ) (y : Exchange) (s : PlainSegment) → slice_get (x ∷ incarnation) i ≡ Some y
        → y.output ≡ Some s → occupies_sequence_space s ≡ true → Passed (x ∷ incarnation) i d s ⊎ DueIn d s
    step_placed l zero y s h e p = (let q : sent ≡ Some s = only_some (λ z. z.output ≡ Some s → x.output ≡ Some s) x y h (λ q. q) e in
        inr (tells.output s q p).due_now)
    step_placed l (suc i) y s h e p = older_placed l i y s h e p

    abbrev step_good : Good c' (x ∷ incarnation)
    step_good = record {
      kept = longer x incarnation g.kept w.now w.over d.part.snapshots sp.sent_now step_taken fit.snapshots step_prefix more_sent
          step_received older_sends step_sends short step_acks step_same step_one step_of_page;
      live = λ l. subst (λ z. Live (x ∷ incarnation) (record a { input = w.now; snapshots = d.part.snapshots; stream = sp.sent_now }) w.over z) (sym (left l).1)
          (let e : is_live d.state ≡ true = (left l).0 in
          record {
            first_is = first_on e;
            peer_is = w.irs ∙ lv.peer_is;
            captures_are = refl;
            page = record { at = unended_page incarnation (x ∷ incarnation) d d.state w.now w.over sp.sent_now still_unended w.page.at; taken = w.page.taken };
            safe = tells.safe e;
            fit = fit;
            within = within;
          });
      placed = λ l. subst (λ z. (i : ℕ) (y : Exchange) (s : PlainSegment) → slice_get (x ∷ incarnation) i ≡ Some y → y.output ≡ Some s
          → occupies_sequence_space s ≡ true → Passed (x ∷ incarnation) i z s ⊎ DueIn z s) (sym (left l).1) (step_placed (left l).0);
    }

    pub on_step : Onward c incarnation g c' x
    on_step = record {
      good = step_good;
      grew = record {
        irs = refl;
        iss = refl;
        peer_mss = refl;
        input = step_prefix;
        snapshots = (w.more, captures_on);
        stream = more_sent;
      };
    }

  -- ---- it begins

  not_zero : (n : ℕ) → eqb n 0 ≡ false → 0 < n
  not_zero n h = grind (arith, common_steps)

  some_mss : (n : ℕ) → 0 < (if eqb n 0 then 536 else min OWN_MSS n)
  some_mss n = choose (λ z. 0 < z) (eqb n 0) _ _ (λ e. omega arith) (λ e. (let z : 0 < n = not_zero n e in omega (arith, z)))

  mss_some : (n : Option ℕ) → 0 < first_mss n
  mss_some None = omega arith
  mss_some (Some n) = some_mss n

  only_one : (k : ℕ) (x y : Exchange) (s t : PlainSegment) → slice_get (x ∷ []) k ≡ Some y → x.output ≡ Some s → y.output ≡ Some t → s ≡ t
  only_one zero x y s t h e f = (let q : x.output ≡ Some t = only_some (λ z. z.output ≡ Some t → x.output ≡ Some t) x y h (λ q. q) f in
      let r : Some s ≡ Some t = sym e ∙ q in cc)
  only_one (suc k) x y s t h e f = absurd (cc)

  first_taken : (n : ℕ) (x : Exchange) (k : ℕ) → IsSelection n (drop k (x ∷ [])) [] false
  first_taken n x zero = inl (refl, refl)
  first_taken n x (suc zero) = (refl, refl)
  first_taken n x (suc (suc k)) = (refl, refl)

  no_two : (x : Exchange) (i j : ℕ) (y z : Exchange) → i < j → slice_get (x ∷ []) i ≡ Some y → slice_get (x ∷ []) j ≡ Some z → ⊥
  no_two x i zero y z l h g = absurd (omega (arith, l))
  no_two x i (suc j) y z l h g = absurd (cc)

  none_ended : HasEnded [] → ⊥
  none_ended h = let z : None ≡ Some h.exchange = h.there in cc

  pub on_birth : (iss : ℕ) (p : Sockets) (s : PlainSegment) → is_plain_syn s ≡ true → p.own_port.0 ≡ port → FitConn (accepted iss p s)
      → Good (accepted iss p s) (met (Some s) (Some (syn_ack (accepted iss p s))) ∷ [])
  on_birth iss p s plain here fit =
      let c : Connection = accepted iss p s in
      let x : Exchange = met (Some s) (Some (syn_ack c)) in
      let due_now : DueIn c (syn_ack c) = record { len = omega arith; seq = refl; alike = alike_refl (syn_ack c) } in
      let unended : Unended (x ∷ []) = λ h. elim (last_or_before x [] h) [
        | inl q ↦ (let z : has_fin (q.0).flags ≡ false = only_some (λ y. has_fin y.flags ≡ false) (syn_ack c) q.0 q.1 refl in let y = q.2 in cc)
        | inr old ↦ none_ended old
      ] in
      let page : PageIn (x ∷ []) c [] false [] = accepted_page m port model laws (Unended (x ∷ [])) iss p s here unended in
      let safe : SafeIn c = record { mss = mss_some s.mss; initial = mss_some s.mss; state = record { len = refl; acked = refl } } in
      let only : (k : ℕ) (y : Exchange) (t : PlainSegment) → slice_get (x ∷ []) k ≡ Some y → y.output ≡ Some t
      → syn_ack c ≡ t = λ k y t h e. only_one k x y (syn_ack c) t h refl e in
      record {
        kept = record {
          account = record { irs = s.seq; iss = iss; peer_mss = s.mss; input = []; snapshots = []; stream = [] };
          ended = false;
          begins = record {
            syn = s;
            received = refl;
            is_syn = ap has_syn (let q : s.flags ≡ SYN = eqb-eq s.flags SYN plain in q);
            number = refl;
            mss = refl;
            answer = syn_ack c;
            output = refl;
            seq = ap wrap (omega arith);
            acks = ap wrap (omega arith);
          };
          taken = inl (refl, refl);
          in_range = all_nil IsSnapshot;
          sent = λ at byte e. absurd (cc);
          says = λ k y t h e. subst (λ z. SendsSlice iss [] z) (only k y t h e) (sends_due (x ∷ []) c SynRcvd [] false [] (syn_ack c)
              safe.state page.at due_now.len due_now.seq due_now.alike);
          short = λ k y t h e. subst (λ z. length z.text ≤ first_mss s.mss) (only k y t h e) (omega arith);
          acknowledges = λ k y t h e r. subst (λ z. Acknowledges s.seq (drop k (x ∷ [])) [] z) (only k y t h e)
              (record { selected = []; counts_fin = false; is = first_taken s.seq x k; prefix = prefix_refl []; ack = ap wrap (omega arith) });
          same = λ few i j y z t u l h g. absurd (no_two x i j y z l h g);
          one = λ i j y z t u l h g. absurd (no_two x i j y z l h g);
          of_page = reported_starts model (HasEnded (x ∷ [])) unended;
        };
        live = λ l. record {
          first_is = refl;
          peer_is = refl;
          captures_are = refl;
          page = page;
          safe = safe;
          fit = fit;
          within = record { len = mss_some s.mss; mss = omega arith; initial = omega arith };
        };
        placed = λ l k y t h e q. inr (subst (λ z. DueIn c z) (only k y t h e) due_now);
      }

  -- ---- what an event does

  -- a segment that acknowledges what is outstanding
  acks_of : (c : Connection) (s : PlainSegment) → not (has_rst s.flags) && is_acked c s ≡ true → Acks (Some s) c
  acks_of c s h =
      let a = and_true (not (has_rst s.flags)) (is_acked c s) h in
      let b = and_true _ _ a.1 in
      let d = and_true _ _ b.1 in
      record { segment = s; is = refl; acks = b.0; exact = eqb-eq s.ack (wrap (snd_una c + c.len)) d.1 }

  left_is : (d : Connection) → is_live (left_of d).state ≡ true → (is_live d.state ≡ true) × (left_of d ≡ d)
  left_is d = both_ways (is_live d.state)
      (λ e h. (e, ap (λ b. if b then d else closed) e))
      (λ e h. absurd (let z : is_live (left_of d).state ≡ false = ap (λ b. is_live (if b then d else closed).state) e in cc))

  -- what it sends stays as short as the peer's SYN requires
  received_within : {c : Connection} {incarnation : List Exchange} (g : Good c incarnation) → is_live c.state ≡ true
      → (at : Connection → Now) (numbers : List ℕ) (s : PlainSegment)
      → LensWithin (first_mss g.kept.account.peer_mss) (asked m at (on_segment m c numbers s)).connection
  received_within {c} g alive at numbers s =
      let most : ℕ = first_mss g.kept.account.peer_mss in
      let some : 1 ≤ most = mss_some g.kept.account.peer_mss in
      asked_within m most some at (on_segment m c numbers s) (on_segment_within m most some c numbers s (g.live alive).within)

  ticked_within : {c : Connection} {incarnation : List Exchange} (g : Good c incarnation) → is_live c.state ≡ true → (at : Connection → Now) (numbers : List ℕ)
      → LensWithin (first_mss g.kept.account.peer_mss) (asked m at (on_tick m c numbers)).connection
  ticked_within {c} g alive at numbers =
      let most : ℕ = first_mss g.kept.account.peer_mss in
      let some : 1 ≤ most = mss_some g.kept.account.peer_mss in
      asked_within m most some at (on_tick m c numbers) (on_tick_within m most some c numbers (g.live alive).within)

  module _ (served : ℕ → Bool) (p : Sockets) (here : p.own_port.0 ≡ port) where
    pub goes_on : (c d : Connection) (x : Exchange) (incarnation : List Exchange) → OfMedium m served p c d x → is_opening x ≡ false
        → (g : Good c incarnation) → Onward c incarnation g d x
    goes_on c d x incarnation does shut g = elim does [
      | passes_by e f ↦ on_still c d x incarnation g (λ s q. absurd (let z : None ≡ Some s = sym (ap (λ y. y.output) e) ∙ q in cc)) (λ l. f)
      | evicted e f ↦ on_still c d x incarnation g (λ s q. absurd (let z : None ≡ Some s = sym (ap (λ y. y.output) e) ∙ q in cc))
          (λ l. absurd (let z : is_live d.state ≡ false = ap (λ y. is_live y.state) f in cc))
      | unanswered s l e f ↦ on_still c d x incarnation g (λ t q. absurd (let z : None ≡ Some t = sym (ap (λ y. y.output) e) ∙ q in cc)) (λ z. f)
      | refused s r l e f ↦ on_still c d x incarnation g
          (λ t q. (let z : Some (reset_for_no_connection s) ≡ Some t = sym (ap (λ y. y.output) e) ∙ q in (
            ap (λ y. is_live y.state) f ∙ l,
            only_some (λ y. occupies_sequence_space y ≡ false) (reset_for_no_connection s) t z refl,
            only_some (λ y. has_rst y.flags ≡ true) (reset_for_no_connection s) t z refl,
          )))
          (λ z. f)
      | born iss s plain port fit e f ↦ absurd (let z : is_opening x ≡ true = ap (λ y. is_opening y) e in cc)
      | delivers_text s numbers at alive fit words is h ↦
          (let o : Outcome = on_segment m c numbers s in
          let oo : Outcome = asked m at o in
          let fo : FitOut o = on_segment_fits m steady c numbers s fit words in
          let safe : SafeIn c = (g.live alive).safe in
          subst (λ z. Onward c incarnation g d z) (sym h.0)
          (on_step c d oo (Some s) (not (has_rst s.flags) && is_acked c s) incarnation g alive
          (stepped_fits m steady AnyLength any_length at o is fo)
          (segment_moved m port model laws (Unended incarnation) steady at c g.kept.account.input g.kept.ended g.kept.account.stream numbers
          s (g.live alive).page)
          (stepped_reports m steady AnyLength any_length at c o is fo (segment_reports m steady AnyLength any_length c numbers s safe))
          (asked_moves m (not (has_rst s.flags) && is_acked c s) c at o (segment_moves m c numbers s))
          (acks_of c s)
          (λ t q. sent_ack m oo.connection oo.step t q)
          (received_within g alive at numbers s)
          (λ t q. step_short m (first_mss g.kept.account.peer_mss) oo.connection oo.step t (received_within g alive at numbers s) q)
          (subst (λ z. is_live z.state ≡ true → (is_live oo.connection.state ≡ true) × (z ≡ oo.connection)) (sym h.1) (left_is oo.connection))))
      | ticks numbers at alive fit words is h ↦
          (let o : Outcome = on_tick m c numbers in
          let oo : Outcome = asked m at o in
          let fo : FitOut o = on_tick_fits m steady c numbers fit words in
          let safe : SafeIn c = (g.live alive).safe in
          subst (λ z. Onward c incarnation g d z) (sym h.0)
          (on_step c d oo None false incarnation g alive
          (stepped_fits m steady AnyLength any_length at o is fo)
          (tick_moved m port model laws (Unended incarnation) steady at c g.kept.account.input g.kept.ended g.kept.account.stream numbers (g.live alive).page)
          (stepped_reports m steady AnyLength any_length at c o is fo (tick_reports m steady AnyLength any_length c numbers safe))
          (asked_moves m false c at o (tick_moves m c numbers))
          (λ z. absurd (cc))
          (λ t q. sent_ack m oo.connection oo.step t q)
          (ticked_within g alive at numbers)
          (λ t q. step_short m (first_mss g.kept.account.peer_mss) oo.connection oo.step t (ticked_within g alive at numbers) q)
          (subst (λ z. is_live z.state ≡ true → (is_live oo.connection.state ≡ true) × (z ≡ oo.connection)) (sym h.1) (left_is oo.connection))))
    ]

    no_opening : (output : Option PlainSegment) → ((t : PlainSegment) → output ≡ Some t → has_syn t.flags ≡ false)
        → option_map_or (λ s. has_syn s.flags) output false ≡ false
    no_opening None h = refl
    no_opening (Some t) h = h t refl

    pub begins_by : (c d : Connection) (x : Exchange) → OfMedium m served p c d x → is_opening x ≡ true → Good d (x ∷ [])
    begins_by c d x does opened = elim does [
      | passes_by e f ↦ absurd (let z : is_opening x ≡ false = ap (λ y. is_opening y) e in cc)
      | evicted e f ↦ absurd (let z : is_opening x ≡ false = ap (λ y. is_opening y) e in cc)
      | unanswered s l e f ↦ absurd (let z : is_opening x ≡ false = ap (λ y. is_opening y) e in cc)
      | refused s r l e f ↦ absurd (let z : is_opening x ≡ false = ap (λ y. is_opening y) e in cc)
      | born iss s plain port fit e f ↦ subst (λ z. Good d (z ∷ [])) (sym e)
          (subst (λ z. Good z (met (Some s) (Some (syn_ack (accepted iss p s))) ∷ [])) (sym f) (on_birth iss p s plain here fit))
      | delivers_text s numbers at alive fit words is h ↦
          (let o : Outcome = asked m at (on_segment m c numbers s) in
          absurd (let z : is_opening x ≡ false = ap (λ y. is_opening y) h.0 ∙ no_opening (segment_of m o.connection o.step)
          (λ t q. answer_no_syn m at c numbers s t q) in cc))
      | ticks numbers at alive fit words is h ↦ absurd (let z : is_opening x ≡ false = ap (λ y. is_opening y) h.0 in cc)
    ]
