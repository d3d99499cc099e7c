-- What a step of a connection accepts from its peer, and what its page is then.
use Rattle.node_laws.proofs.Prelude.{◌≡◌, ℕ, ◌+◌, Bool, true, false, not, ◌&&◌, ◌||◌, ◌⊎◌, inl, inr, List, [], ◌∷◌, ◌++◌, length, refl, sym}
use Rattle.node_laws.proofs.Prelude.{ap, ◌∙◌, subst, arith, Option, Some, None, length-append, eqb, ltb, append_assoc, take, drop}
use Rattle.node_laws.proofs.Prelude.{length-drop, ◌≤◌, if◌then◌else◌, wrap, PlainSegment, has_fin, has_rst, has_syn, Beat, AppState}
use Rattle.node_laws.proofs.Prelude.{Snapshot, AppSpec, IsPrefixOf, CanSend, Now, State, Closed, SynRcvd, Established, CloseWait, FinWait1}
use Rattle.node_laws.proofs.Prelude.{FinWait2, Closing, TimeWait, LastAck, Want, Nothing, Send, Close, Abort, take-add, Connection, Sockets}
use Rattle.node_laws.proofs.Prelude.{is_live, rcv_nxt, occupies_sequence_space, segment_of, text_segment, Outcome, after_own_fin, closes}
use Rattle.node_laws.proofs.Prelude.{peer_has_closed, idles, does_as_wanted, prepared, asked, accepted, delivers_text, is_out_of_order}
use Rattle.node_laws.proofs.Prelude.{is_acked, rests, has_text, in_state, takes, with_part, with_window, in_established, peer_closes}
use Rattle.node_laws.proofs.Prelude.{stays_established, fin_acked, fin_waits, by_state, on_segment, grows_older, by_beat, on_tick, Step}
use Rattle.node_laws.proofs.Prelude.{choose, both_ways, append_nothing, ltb-zero, and_false, eqb-eq, not-false, prefix_length, prefix_refl}
use Rattle.node_laws.proofs.Prelude.{is_open, asked_by, by_open, is_ask, no_ask_again, on_tick_by, open_live, segment_moves, tick_moves}
use Rattle.node_laws.proofs.Prelude.{IsSteady, OutputModel, FollowsModelAt}
use Rattle.node_laws.proofs.Speaking.{IsEnd, IsReported, IsOpen, end_more, end_sent, prefix_size, received_is, open_acked, open_received}
use Rattle.node_laws.proofs.Speaking.{open_new, open_polled, open_prepared, prepared_is, equal_prefix, reported_sent}

-- the numbers that a FIN or a SYN takes up
abbrev pub numbers_for : Bool → ℕ
numbers_for b = if b then 1 else 0

or_no : (a b : Bool) → a || b ≡ false → (a ≡ false) × (b ≡ false)
or_no true b h = absurd (cc)
or_no false b h = (refl, h)

pub nil_of : (xs : List ℕ) → length xs ≡ 0 → xs ≡ []
nil_of [] h = refl
nil_of (x ∷ xs) h = absurd (omega (arith, h))

-- a segment without a place has no SYN, no text and no FIN
pub record IsBare (s : PlainSegment) : Type 0 where
  pub text : s.text ≡ []
  pub syn : has_syn s.flags ≡ false
  pub fin : has_fin s.flags ≡ false

pub bare : (s : PlainSegment) → occupies_sequence_space s ≡ false → IsBare s
bare s h =
    let a = or_no (ltb 0 (length s.text)) (has_syn s.flags || has_fin s.flags) h in
    let b = or_no (has_syn s.flags) (has_fin s.flags) a.1 in
    record { text = nil_of s.text (ltb-zero (length s.text) a.0); syn = b.0; fin = b.1 }

-- what is not out of order, and occupies sequence space, is at the expected number
in_order : (c : Connection) (s : PlainSegment) → is_out_of_order c s ≡ false → occupies_sequence_space s ≡ true → s.seq ≡ rcv_nxt c
in_order c s h p =
    elim (and_false (occupies_sequence_space s) (not (eqb s.seq (rcv_nxt c))) h) [
      | inl x ↦ absurd (cc)
      | inr y ↦ eqb-eq s.seq (rcv_nxt c) (not-false (eqb s.seq (rcv_nxt c)) y)
    ]

-- one more segment that is taken
pub record Reads (received : Option PlainSegment) (irs : ℕ) (text : List ℕ) (e : Bool) (now : List ℕ) (over : Bool) : Type 0 where
  pub segment : PlainSegment
  pub is : received ≡ Some segment
  pub unended : e ≡ false
  pub seq : segment.seq ≡ wrap (irs + 1 + length text)
  pub joined : now ≡ text ++ segment.text
  pub fin : over ≡ true → has_fin segment.flags ≡ true

abbrev pub Reading : Option PlainSegment → ℕ → List ℕ → Bool → List ℕ → Bool → Type 0
Reading received irs text e now over = ((now ≡ text) × (over ≡ e)) ⊎ Reads received irs text e now over

-- text and FIN in their turn
in_turn : (irs taken : ℕ) (text : List ℕ) (e : Bool) (s : PlainSegment) (fin : Bool)
    → (occupies_sequence_space s ≡ true → s.seq ≡ wrap (irs + 1 + taken)) → e ≡ false → taken ≡ length text + numbers_for e
    → (fin ≡ true → has_fin s.flags ≡ true)
    → Reading (Some s) irs text e (text ++ s.text) fin
in_turn irs taken text e s fin order q t f =
    both_ways (occupies_sequence_space s)
    (λ p. inr record {
      segment = s;
      is = refl;
      unended = q;
      seq = order p ∙ ap (λ n. wrap (irs + 1 + n)) (let z : numbers_for e ≡ 0 = ap numbers_for q in omega (arith, t, z));
      joined = refl;
      fin = f;
    })
    (λ p. (let b : IsBare s = bare s p in
    inl (
      ap (λ l. text ++ l) b.text ∙ append_nothing text,
      both_ways fin (λ g. absurd (let z : has_fin s.flags ≡ true = f g in let y : has_fin s.flags ≡ false = b.fin in cc)) (λ g. g ∙ sym q),
    )))

-- What is known of a connection, and of the text that was sent; `F` states that no FIN was.
module _ (m : AppSpec) (port : ℕ) (model : OutputModel) (laws : FollowsModelAt m port model) (F : Type 0) where
  pub record AtSyn (c : Connection) (text : List ℕ) (e : Bool) (sent : List ℕ) : Type 0 where
    pub acked : c.acked ≡ 0
    pub len : c.len ≡ 1
    pub none : text ≡ []
    pub snapshots : c.part.snapshots ≡ []
    pub is : e ≡ false
    pub unsent : sent ≡ []
    pub unended : F
    pub here : c.sockets.own_port.0 ≡ port

  -- the application may speak; the peer has sent its FIN or not
  pub record AtOpen (fin : Bool) (c : Connection) (text : List ℕ) (e : Bool) (sent : List ℕ) : Type 0 where
    pub count : c.acked ≡ 1 + c.part.acked
    pub opens : IsOpen m port model laws c.part text
    pub is : e ≡ fin
    pub fits : c.part.acked + c.len ≤ length (m.output c.part)
    pub sent_is : sent ≡ take (c.part.acked + c.len) (m.output c.part)
    pub unended : F

  -- after the own FIN, which is outstanding (1) or acknowledged (2)
  pub record AtEnd (far : ℕ) (fin : Bool) (c : Connection) (text : List ℕ) (e : Bool) (sent : List ℕ) : Type 0 where
    pub end : IsEnd model text c.part.snapshots sent
    pub count : c.acked ≡ far + length sent
    pub len : c.len + far ≡ 2
    pub is : e ≡ fin

  abbrev pub AtPage : State → Connection → List ℕ → Bool → List ℕ → Type 0
  AtPage Closed c text e sent = Unit {0}
  AtPage SynRcvd c text e sent = AtSyn c text e sent
  AtPage Established c text e sent = AtOpen false c text e sent
  AtPage CloseWait c text e sent = AtOpen true c text e sent
  AtPage FinWait1 c text e sent = AtEnd 1 false c text e sent
  AtPage FinWait2 c text e sent = AtEnd 2 false c text e sent
  AtPage Closing c text e sent = AtEnd 1 true c text e sent
  AtPage TimeWait c text e sent = AtEnd 2 true c text e sent
  AtPage LastAck c text e sent = AtEnd 1 true c text e sent

  pub record Page (c : Connection) (text : List ℕ) (e : Bool) (sent : List ℕ) : Type 0 where
    pub at : AtPage c.state c text e sent
    pub taken : c.taken ≡ length text + numbers_for e

  -- c becomes d, with what it accepted meanwhile; what was sent is then this
  pub record Moved (received : Option PlainSegment) (c : Connection) (text : List ℕ) (e : Bool) (sent : List ℕ) (d : Connection) : Type 0 where
    pub now : List ℕ
    pub over : Bool
    pub read : Reading received c.irs text e now over
    pub more : List Snapshot
    pub snapshots : d.part.snapshots ≡ c.part.snapshots ++ more
    pub irs : d.irs ≡ c.irs
    pub page : Page d now over sent

  pub record OutMoved (received : Option PlainSegment) (c : Connection) (text : List ℕ) (e : Bool) (sent : List ℕ) (o : Outcome) : Type 0 where
    pub moved : Moved received c text e sent o.connection
    pub open_there : is_ask o.step ≡ true → is_open o.connection.state ≡ true

  -- text is sent that was not sent before
  pub record Adds (sent now sent' : List ℕ) (d : Connection) (output : Option PlainSegment) : Type 0 where
    pub is : output ≡ Some (text_segment m d)
    pub live : is_live d.state ≡ true
    pub joined : sent' ≡ sent ++ (text_segment m d).text
    pub acked : d.acked ≡ 1 + length sent
    pub unended : F
    pub of_page : IsReported model ⊥ now d.part.snapshots sent'

  -- what c becomes if its application was asked
  pub record Spoke (received : Option PlainSegment) (c : Connection) (text : List ℕ) (e : Bool) (sent : List ℕ) (o : Outcome) : Type 0 where
    pub sent_now : List ℕ
    pub moved : Moved received c text e sent_now o.connection
    pub adds : (sent_now ≡ sent) ⊎ Adds sent moved.now sent_now o.connection (segment_of m o.connection o.step)

  page_at : (d : Connection) (st : State) (text : List ℕ) (e : Bool) (sent : List ℕ) → d.state ≡ st → AtPage st d text e sent → AtPage d.state d text e sent
  page_at d st text e sent q h = subst (λ x. AtPage x d text e sent) (sym q) h

  -- a connection that grows older
  older_page : (c : Connection) (st : State) (text : List ℕ) (e : Bool) (sent : List ℕ) → AtPage st c text e sent → AtPage st (grows_older c) text e sent
  older_page c Closed text e sent h = tt
  older_page c SynRcvd text e sent h = record {
    acked = h.acked;
    len = h.len;
    none = h.none;
    snapshots = h.snapshots;
    is = h.is;
    unsent = h.unsent;
    unended = h.unended;
    here = h.here;
  }
  older_page c Established text e sent h = record { count = h.count; opens = h.opens; is = h.is; fits = h.fits; sent_is = h.sent_is; unended = h.unended }
  older_page c CloseWait text e sent h = record { count = h.count; opens = h.opens; is = h.is; fits = h.fits; sent_is = h.sent_is; unended = h.unended }
  older_page c FinWait1 text e sent h = record { end = h.end; count = h.count; len = h.len; is = h.is }
  older_page c FinWait2 text e sent h = record { end = h.end; count = h.count; len = h.len; is = h.is }
  older_page c Closing text e sent h = record { end = h.end; count = h.count; len = h.len; is = h.is }
  older_page c TimeWait text e sent h = record { end = h.end; count = h.count; len = h.len; is = h.is }
  older_page c LastAck text e sent h = record { end = h.end; count = h.count; len = h.len; is = h.is }

  -- something was delivered to its state, and as much is acknowledged or outstanding
  open_on : (fin fin' : Bool) (c d : Connection) (text text' : List ℕ) (e : Bool) (sent : List ℕ) → (c.acked ≡ 1 + c.part.acked → d.acked ≡ 1 + d.part.acked)
      → d.part.acked + d.len ≡ c.part.acked + c.len → IsPrefixOf (m.output c.part) (m.output d.part)
      → (IsOpen m port model laws c.part text → IsOpen m port model laws d.part text') → AtOpen fin c text e sent → AtOpen fin' d text' fin' sent
  open_on fin fin' c d text text' e sent count sum grows delivered h = record {
    count = count h.count;
    opens = delivered h.opens;
    is = refl;
    fits = omega (arith, h.fits, sum, prefix_length (m.output c.part) (m.output d.part) grows);
    sent_is = h.sent_is ∙ sym (equal_prefix (m.output c.part) (m.output d.part) (c.part.acked + c.len) grows h.fits)
        ∙ ap (λ n. take n (m.output d.part)) (sym sum);
    unended = h.unended;
  }

  -- the peer's FIN is as it was
  open_like : (fin : Bool) (c : Connection) (text : List ℕ) (e e' : Bool) (sent : List ℕ) → e ≡ e' → AtOpen fin c text e sent → AtOpen fin c text e' sent
  open_like fin c text e e' sent q h = subst (λ z. AtOpen fin c text z sent) q h

  -- in ESTABLISHED and CLOSE-WAIT
  open_page : (c d : Connection) (st : State) (text : List ℕ) (e : Bool) (sent : List ℕ) → is_open st ≡ true
      → (c.acked ≡ 1 + c.part.acked → d.acked ≡ 1 + d.part.acked)
      → d.part.acked + d.len ≡ c.part.acked + c.len → IsPrefixOf (m.output c.part) (m.output d.part)
      → (IsOpen m port model laws c.part text → IsOpen m port model laws d.part text) → AtPage st c text e sent → AtPage st d text e sent
  open_page c d st text e sent o count sum grows delivered h =
      by_open (λ x. AtPage x c text e sent → AtPage x d text e sent)
      (λ g. open_like false d text false e sent (sym g.is) (open_on false false c d text text e sent count sum grows delivered g))
      (λ g. open_like true d text true e sent (sym g.is) (open_on true true c d text text e sent count sum grows delivered g)) st o h

  -- more is accepted after the end
  ends_on : (far far' : ℕ) (fin fin' : Bool) (c d : Connection) (text more : List ℕ) (e : Bool) (sent : List ℕ)
      → d.part.snapshots ≡ c.part.snapshots → d.acked + far ≡ c.acked + far' → d.len + far' ≡ 2 → AtEnd far fin c text e sent
      → AtEnd far' fin' d (text ++ more) fin' sent
  ends_on far far' fin fin' c d text more e sent k a l h = record {
    end = subst (λ z. IsEnd model (text ++ more) z sent) (sym k) (end_more m port model laws text more c.part.snapshots sent h.end);
    count = omega (arith, a, h.count);
    len = l;
    is = refl;
  }

  -- ---- asking

  -- b, which c became, becomes d
  moved_to : (received : Option PlainSegment) (c : Connection) (text : List ℕ) (e : Bool) (sent sent' : List ℕ) (b d : Connection)
      (w : Moved received c text e sent b) → d.part.snapshots ≡ b.part.snapshots → d.irs ≡ b.irs → d.taken ≡ b.taken
      → AtPage d.state d w.now w.over sent' → Moved received c text e sent' d
  moved_to received c text e sent sent' b d w k p t a = record {
    now = w.now;
    over = w.over;
    read = w.read;
    more = w.more;
    snapshots = k ∙ w.snapshots;
    irs = p ∙ w.irs;
    page = record { at = a; taken = t ∙ w.page.taken };
  }

  -- the FIN is sent after what was sent
  ends_page : (b d : Connection) (numbers text : List ℕ) (e fin : Bool) (sent : List ℕ) → d.acked ≡ b.acked → d.len ≡ 1 → d.part ≡ b.part
      → b.len ≡ 0 → m.want numbers b.part ≡ Close → AtOpen fin b text e sent → AtEnd 1 fin d text e sent
  ends_page b d numbers text e fin sent a l p z w g =
      let f : b.part.acked ≤ length (m.output b.part) = omega (arith, g.fits) in
      let all : sent ≡ take b.part.acked (m.output b.part) = g.sent_is ∙ ap (λ n. take n (m.output b.part)) (omega (arith, z)) in
      let size : length sent ≡ b.part.acked = ap length all ∙ prefix_size b.part.acked (m.output b.part) f in
      record {
        end = subst (λ q. IsEnd model text q.snapshots sent) (sym p) (subst (λ q. IsEnd model text b.part.snapshots q) (sym all)
            (end_sent m port model laws numbers b.part text g.opens f w));
        count = omega (arith, a, g.count, size);
        len = omega (arith, l);
        is = g.is;
      }

  closing_page : (b d : Connection) (st : State) (numbers text : List ℕ) (e : Bool) (sent : List ℕ) → is_open st ≡ true → d.acked ≡ b.acked
      → d.len ≡ 1 → d.part ≡ b.part → b.len ≡ 0 → m.want numbers b.part ≡ Close → AtPage st b text e sent → AtPage (after_own_fin st) d text e sent
  closing_page b d st numbers text e sent o a l p z w h =
      by_open (λ x. AtPage x b text e sent → AtPage (after_own_fin x) d text e sent) (λ g. ends_page b d numbers text e false sent a l p z w
      g) (λ g. ends_page b d numbers text e true sent a l p z w g) st o h

  -- where the application may speak
  opened : (c : Connection) (st : State) (text : List ℕ) (e : Bool) (sent : List ℕ) → is_open st ≡ true → AtPage st c text e sent
      → (fin : Bool) × AtOpen fin c text e sent
  opened c st text e sent o h = by_open (λ x. AtPage x c text e sent → (fin : Bool) × AtOpen fin c text e sent) (λ g. (false, g)) (λ g. (true, g)) st o h

  -- new text goes out
  module _ (b d : Connection) (n : ℕ) (text : List ℕ) (e : Bool) (sent : List ℕ) (part : d.part ≡ b.part) (acked : d.acked ≡ b.acked)
      (idle : b.len ≡ 0) (len : d.len ≤ n) (there : n ≤ length (drop b.part.acked (m.output b.part))) where
    abbrev text_sent : List ℕ
    text_sent = sent ++ (text_segment m d).text

    sends_open : (fin : Bool) → AtOpen fin b text e sent → AtOpen fin d text e text_sent
    sends_open fin g =
        let size : length (m.output d.part) ≡ length (m.output b.part) = ap (λ q. length (m.output q)) part in
        let at : d.part.acked ≡ b.part.acked = ap (λ q. q.acked) part in
        let prefix : sent ≡ take d.part.acked (m.output d.part) = g.sent_is ∙ ap (λ k. take k (m.output b.part)) (omega (arith, idle, at))
        ∙ ap (λ q. take d.part.acked (m.output q)) (sym part) in
        record {
          count = omega (arith, g.count, acked, at);
          opens = subst (λ q. IsOpen m port model laws q text) (sym part) g.opens;
          is = g.is;
          fits = omega (arith, g.fits, at, size, len, there, idle, length-drop b.part.acked (m.output b.part));
          sent_is = ap (λ q. q ++ (text_segment m d).text) prefix ∙ sym (take-add d.part.acked d.len (m.output d.part));
          unended = g.unended;
        }

    sends_adds : (fin : Bool) → is_live d.state ≡ true → AtOpen fin b text e sent → Adds sent text text_sent d (Some (text_segment m d))
    sends_adds fin l g =
        let q : AtOpen fin d text e text_sent = sends_open fin g in
        let f : b.part.acked ≤ length (m.output b.part) = omega (arith, g.fits) in
        let all : sent ≡ take b.part.acked (m.output b.part) = g.sent_is ∙ ap (λ k. take k (m.output b.part)) (omega (arith, idle)) in
        let size : length sent ≡ b.part.acked = ap length all ∙ prefix_size b.part.acked (m.output b.part) f in
        record {
          is = refl;
          live = l;
          joined = refl;
          acked = omega (arith, acked, g.count, size);
          unended = g.unended;
          of_page = subst (λ z. IsReported model ⊥ text d.part.snapshots z) (sym q.sent_is)
              (reported_sent m port model laws ⊥ (λ none. none) d.part text (d.part.acked + d.len) q.opens);
        }

    sends_page : (st : State) → is_open st ≡ true → AtPage st b text e sent → AtPage st d text e text_sent
    sends_page st o h = by_open (λ x. AtPage x b text e sent → AtPage x d text e text_sent) (λ g. sends_open false g) (λ g. sends_open true g) st o h

  -- nothing new is sent
  keeps_sent : (received : Option PlainSegment) (c : Connection) (text : List ℕ) (e : Bool) (sent : List ℕ) (o : Outcome)
      → Moved received c text e sent o.connection → Spoke received c text e sent o
  keeps_sent received c text e sent o g = record { sent_now = sent; moved = g; adds = inl refl }

  pub accepted_page : (iss : ℕ) (sockets : Sockets) (s : PlainSegment) → sockets.own_port.0 ≡ port → F → Page (accepted iss sockets s) [] false []
  accepted_page iss sockets s here unended =
      record { at = record { acked = refl; len = refl; none = refl; snapshots = refl; is = refl; unsent = refl; unended = unended; here = here }; taken = refl }

  module _ (steady : IsSteady m) where
    wanted_spoke : (received : Option PlainSegment) (c : Connection) (text : List ℕ) (e : Bool) (sent : List ℕ) (w : Want) (fresh : Bool)
        (b : Connection) (numbers : List ℕ) → m.want numbers b.part ≡ w → is_open b.state ≡ true → b.len ≡ 0
        → CanSend w (length (drop b.part.acked (m.output b.part))) → Moved received c text e sent b
        → Spoke received c text e sent (does_as_wanted w fresh b numbers)
    unfolding idles moved_to
    wanted_spoke received c text e sent Abort fresh b numbers q o z can g = keeps_sent received c text e sent _
        (moved_to received c text e sent sent b (closes b) g refl refl refl tt)
    wanted_spoke received c text e sent Close fresh b numbers q o z can g =
        let d : Connection = record b { state = after_own_fin b.state; len = 1; age = 0 } in
        keeps_sent received c text e sent _ (moved_to received c text e sent sent b d g refl refl refl
        (closing_page b d b.state numbers g.now g.over sent o refl refl refl z q g.page.at))
    wanted_spoke received c text e sent (Send n) fresh b numbers q o z can g =
        let d : Connection = (does_as_wanted (Send n) fresh b numbers).connection in
        let len : d.len ≤ n = omega arith in
        let x = opened b b.state g.now g.over sent o g.page.at in
        record {
          sent_now = sent ++ (text_segment m d).text;
          moved = moved_to received c text e sent (sent ++ (text_segment m d).text) b d g refl refl refl
              (sends_page b d n g.now g.over sent refl refl z len can.1 b.state o g.page.at);
          adds = inr (sends_adds b d n g.now g.over sent refl refl z len can.1 x.0 (open_live b.state o) x.1);
        }
    wanted_spoke received c text e sent Nothing fresh b numbers q o z can g =
        choose (λ (x : Outcome). Spoke received c text e sent x) (peer_has_closed b.state) _ _
        (λ p. keeps_sent received c text e sent _ (moved_to received c text e sent sent b (closes b) g refl refl refl tt))
        (λ p. choose (λ (x : Outcome). Spoke received c text e sent x) fresh _ _ (λ f. keeps_sent received c text e sent _ g)
        (λ f. keeps_sent received c text e sent _ g))

    asked_spoke : (received : Option PlainSegment) (c : Connection) (text : List ℕ) (e : Bool) (sent : List ℕ) (at : Connection → Now)
        (o : Outcome) → (is_ask o.step ≡ true → o.connection.len ≡ 0) → OutMoved received c text e sent o → Spoke received c text e sent (asked m at o)
    asked_spoke received c text e sent at o idle h =
        asked_by m (λ x. Spoke received c text e sent x) at o
        (λ a fresh. (let now : Now = at o.connection in
        let b : Connection = prepared m now o.connection o.numbers in
        let q = prepared_is m port steady o.numbers o.connection.part now in
        let w : Moved received c text e sent o.connection = h.moved in
        let sum : b.part.acked + b.len ≡ o.connection.part.acked + o.connection.len = omega (arith, q.acked) in
        let y : Moved received c text e sent b = record {
          now = w.now;
          over = w.over;
          read = w.read;
          more = w.more ++ q.more;
          snapshots = q.snapshots ∙ ap (λ l. l ++ q.more) w.snapshots ∙ append_assoc c.part.snapshots w.more q.more;
          irs = w.irs;
          page = record {
            at = open_page o.connection b o.connection.state w.now w.over sent (h.open_there a) (λ g. omega (arith, g, q.acked)) sum q.grows
                (λ g. open_prepared m port model laws o.numbers o.connection.part now w.now g) w.page.at;
            taken = w.page.taken;
          };
        } in
        wanted_spoke received c text e sent (m.want o.numbers b.part) fresh b o.numbers refl (h.open_there a) (idle a)
        (steady.lawful.sends o.numbers b.part tt) y))
        (keeps_sent received c text e sent o h.moved)

    -- ---- a segment

    -- nothing is taken
    stays : (received : Option PlainSegment) (c : Connection) (text : List ℕ) (e : Bool) (sent : List ℕ) (d : Connection)
        → Page c text e sent → d.part.snapshots ≡ c.part.snapshots → d.irs ≡ c.irs → d.taken ≡ c.taken → AtPage d.state d text e sent
        → Moved received c text e sent d
    stays received c text e sent d g k p t a = record {
      now = text;
      over = e;
      read = inl (refl, refl);
      more = [];
      snapshots = k ∙ sym (append_nothing c.part.snapshots);
      irs = p;
      page = record { at = a; taken = t ∙ g.taken };
    }

    -- text is accepted, and a FIN after it
    receives_on : (c : Connection) (text : List ℕ) (e : Bool) (sent : List ℕ) (s : PlainSegment) (fin : Bool) (d : Connection)
        → (occupies_sequence_space s ≡ true → s.seq ≡ rcv_nxt c) → e ≡ false → c.taken ≡ length text + numbers_for e → (fin ≡ true → has_fin s.flags ≡ true) →
        d.part.snapshots ≡ c.part.snapshots → d.irs ≡ c.irs → d.taken ≡ c.taken + length s.text + numbers_for fin
        → AtPage d.state d (text ++ s.text) fin sent → Moved (Some s) c text e sent d
    receives_on c text e sent s fin d order q t f k p n a = record {
      now = text ++ s.text;
      over = fin;
      read = in_turn c.irs c.taken text e s fin order q t f;
      more = [];
      snapshots = k ∙ sym (append_nothing c.part.snapshots);
      irs = p;
      page = record { at = a; taken = (let z : numbers_for e ≡ 0 = ap numbers_for q in omega (arith, n, t, z, length-append text s.text)) };
    }

    shut : (received : Option PlainSegment) (c b : Connection) (text : List ℕ) (e : Bool) (sent : List ℕ) → Page c text e sent
        → b.part.snapshots ≡ c.part.snapshots → b.irs ≡ c.irs → b.taken ≡ c.taken → Moved received c text e sent (closes b)
    shut received c b text e sent g k p t = stays received c text e sent (closes b) g k p t tt

    -- a piece is delivered to it
    receives_open : (fin fin' : Bool) (c d : Connection) (numbers piece text : List ℕ) (e : Bool) (sent : List ℕ)
        → d.part ≡ (delivers_text m numbers c.part piece).part → d.acked ≡ c.acked → d.len ≡ c.len → AtOpen fin c text e sent
        → AtOpen fin' d (text ++ piece) fin' sent
    receives_open fin fin' c d numbers piece text e sent part acked len h =
        let x = received_is m port steady numbers c.part piece in
        let at : d.part.acked ≡ c.part.acked = ap (λ q. q.acked) part ∙ x.acked in
        open_on fin fin' c d text (text ++ piece) e sent (λ g. omega (arith, g, acked, at)) (omega (arith, at, len))
        (subst (λ q. IsPrefixOf (m.output c.part) (m.output q)) (sym part) x.grows)
        (λ g. subst (λ q. IsOpen m port model laws q (text ++ piece)) (sym part) (open_received m port model laws numbers c.part piece text g)) h

    -- all that was outstanding is acknowledged
    acked_open : (fin : Bool) (c d : Connection) (numbers text : List ℕ) (e : Bool) (sent : List ℕ)
        → d.part ≡ (m.acked numbers c.part c.len).part → d.acked ≡ c.acked + c.len → d.len ≡ 0 → AtOpen fin c text e sent → AtOpen fin d text e sent
    acked_open fin c d numbers text e sent part acked len h =
        let left : c.len ≤ length (drop c.part.acked (m.output c.part)) = omega (arith, h.fits, length-drop c.part.acked (m.output c.part)) in
        let x = steady.lawful.acked_moves numbers c.part c.len tt left in
        let at : d.part.acked ≡ c.part.acked + c.len = ap (λ q. q.acked) part ∙ x.1 in
        let output : m.output d.part ≡ m.output c.part = ap (λ q. m.output q) part ∙ x.0 in
        open_like fin d text fin e sent (sym h.is)
        (open_on fin fin c d text text e sent (λ g. omega (arith, g, acked, at)) (omega (arith, at, len))
        (subst (λ z. IsPrefixOf (m.output c.part) z) (sym output) (prefix_refl (m.output c.part)))
        (λ g. subst (λ q. IsOpen m port model laws q text) (sym part) (open_acked m port model laws numbers c.part c.len text g)) h)

    closing_in : (c : Connection) (text : List ℕ) (e : Bool) (sent : List ℕ) (numbers : List ℕ) (s : PlainSegment)
        → (occupies_sequence_space s ≡ true → s.seq ≡ rcv_nxt c) → has_fin s.flags ≡ true → AtOpen false c text e sent
        → c.taken ≡ length text + numbers_for e → OutMoved (Some s) c text e sent (peer_closes m c numbers s)
    unfolding peer_closes
    closing_in c text e sent numbers s order f h t =
        let x = received_is m port steady numbers c.part s.text in
        let d : Connection = in_state CloseWait (with_window s.window (with_part (delivers_text m numbers c.part s.text).part (takes (length s.text + 1) c))) in
        let a : AtOpen true d (text ++ s.text) true sent = receives_open false true c d numbers s.text text e sent refl refl refl h in
        let g : Moved (Some s) c text e sent d = receives_on c text e sent s true d order h.is t (λ z. f) x.snapshots refl (omega arith) a in
        choose (λ (o : Outcome). OutMoved (Some s) c text e sent o) (ltb 0 c.len) _ _ (λ z. record { moved = g; open_there = λ y. refl })
        (λ z. record { moved = g; open_there = λ y. refl })

    going_in : (acked : Bool) (c : Connection) (text : List ℕ) (e : Bool) (sent : List ℕ) (numbers : List ℕ) (s : PlainSegment)
        → (occupies_sequence_space s ≡ true → s.seq ≡ rcv_nxt c) → c.state ≡ Established → AtOpen false c text e sent
        → c.taken ≡ length text + numbers_for e → OutMoved (Some s) c text e sent (stays_established m acked c numbers s)
    unfolding stays_established
    going_in acked c text e sent numbers s order st h t =
        let x = received_is m port steady numbers c.part s.text in
        let d : Connection = with_window s.window (with_part (delivers_text m numbers c.part s.text).part (takes (length s.text) c)) in
        let a : AtOpen false d (text ++ s.text) false sent = receives_open false false c d numbers s.text text e sent refl refl refl h in
        let g : Moved (Some s) c text e sent d = receives_on c text e sent s false d order h.is t (λ z. absurd (cc)) x.snapshots refl
        (omega arith) (page_at d Established (text ++ s.text) false sent st a) in
        let o : is_open d.state ≡ true = ap is_open st in
        choose (λ (o : Outcome). OutMoved (Some s) c text e sent o) (not acked && not (has_text s)) _ _ (λ z. record { moved = g; open_there = λ y. o })
        (λ z. choose (λ (o : Outcome). OutMoved (Some s) c text e sent o) (ltb 0 c.len) _ _ (λ f. record { moved = g; open_there = λ y. o })
        (λ f. record { moved = g; open_there = λ y. o }))

    established_in : (acked : Bool) (c : Connection) (text : List ℕ) (e : Bool) (sent : List ℕ) (numbers : List ℕ) (s : PlainSegment)
        → (occupies_sequence_space s ≡ true → s.seq ≡ rcv_nxt c) → c.state ≡ Established → AtOpen false c text e sent
        → c.taken ≡ length text + numbers_for e → OutMoved (Some s) c text e sent (in_established m acked c numbers s)
    unfolding in_established
    established_in acked c text e sent numbers s order st h t =
        choose (λ (o : Outcome). OutMoved (Some s) c text e sent o) (has_fin s.flags) _ _ (λ f. closing_in c text e sent numbers s order f h
        t) (λ f. going_in acked c text e sent numbers s order st h t)

    -- what b, which differs from c in what was acknowledged, becomes
    out_of : (received : Option PlainSegment) (c b : Connection) (text : List ℕ) (e : Bool) (sent : List ℕ) (o : Outcome)
        → b.part.snapshots ≡ c.part.snapshots → b.irs ≡ c.irs → OutMoved received b text e sent o → OutMoved received c text e sent o
    out_of received c b text e sent o k p h =
        let w : Moved received b text e sent o.connection = h.moved in
        record {
          moved = record {
            now = w.now;
            over = w.over;
            read = subst (λ n. Reading received n text e w.now w.over) p w.read;
            more = w.more;
            snapshots = w.snapshots ∙ ap (λ l. l ++ w.more) k;
            irs = w.irs ∙ p;
            page = w.page;
          };
          open_there = h.open_there;
        }

    -- a step that asks nothing
    reported : (received : Option PlainSegment) (c : Connection) (text : List ℕ) (e : Bool) (sent : List ℕ) (d : Connection) (s : Step)
        (numbers : List ℕ) → is_ask s ≡ false → Moved received c text e sent d
        → OutMoved received c text e sent (record { connection = d; numbers = numbers; step = s })
    reported received c text e sent d s numbers q g = record { moved = g; open_there = λ z. absurd (let y : true ≡ false = sym z ∙ q in cc) }

    same : (received : Option PlainSegment) (c : Connection) (text : List ℕ) (e : Bool) (sent : List ℕ) → Page c text e sent → Moved received c text e sent c
    same received c text e sent g = stays received c text e sent c g refl refl refl g.at

    -- text and FIN after the own FIN; f counts the FIN
    waits_in : (far : ℕ) (st st' : State) (c closed_by_peer : Connection) (text : List ℕ) (e : Bool) (sent : List ℕ) (numbers : List ℕ)
        (s : PlainSegment) → (occupies_sequence_space s ≡ true → s.seq ≡ rcv_nxt c) → c.state ≡ st →
        ((d : Connection) (x : List ℕ) → AtEnd far false d x false sent → AtPage st d x false sent) → Page c text e sent → AtEnd far false c text e sent →
        (has_fin s.flags ≡ true → Moved (Some s) c text e sent closed_by_peer) → OutMoved (Some s) c text e sent (fin_waits closed_by_peer c numbers s)
    unfolding fin_waits
    waits_in far st st' c closed_by_peer text e sent numbers s order q to g h by =
        choose (λ (o : Outcome). OutMoved (Some s) c text e sent o) (has_fin s.flags) _ _
        (λ f. reported (Some s) c text e sent closed_by_peer Step.Ack numbers refl (by f))
        (λ f. choose (λ (o : Outcome). OutMoved (Some s) c text e sent o) (has_text s) _ _
        (λ i. let d : Connection = takes (length s.text) c in
        reported (Some s) c text e sent d Step.Ack numbers refl
        (receives_on c text e sent s false d order h.is g.taken (λ z. absurd (cc)) refl refl (omega arith)
        (page_at d st (text ++ s.text) false sent q (to d (text ++ s.text) (ends_on far far false false c d text s.text e sent refl refl h.len h)))))
        (λ i. reported (Some s) c text e sent c Step.Drop numbers refl (same (Some s) c text e sent g)))

    by_state_in : (st : State) (acked : Bool) (c : Connection) (text : List ℕ) (e : Bool) (sent : List ℕ) (numbers : List ℕ)
        (s : PlainSegment) → (occupies_sequence_space s ≡ true → s.seq ≡ rcv_nxt c) → c.state ≡ st → Page c text e sent
        → AtPage st c text e sent → OutMoved (Some s) c text e sent (by_state m st acked c numbers s)
    unfolding fin_acked
    by_state_in Closed acked c text e sent numbers s order q g h = reported (Some s) c text e sent c Step.Drop numbers refl (same (Some s) c text e sent g)
    by_state_in SynRcvd true c text e sent numbers s order q g h =
        let own : ℕ = c.sockets.own_port.0 in
        let start = m.connected numbers own in
        let x = received_is m port steady start.numbers start.part s.text in
        let d : Connection = with_part (delivers_text m start.numbers start.part s.text).part (takes (length s.text) (in_state Established (rests c))) in
        let zero : d.part.acked ≡ 0 = x.acked ∙ steady.connected_acked numbers own in
        let new : IsOpen m port model laws start.part [] = subst (λ n. IsOpen m port model laws (m.connected numbers n).part [])
        (sym h.here) (open_new m port model laws numbers) in
        let delivered : IsOpen m port model laws d.part s.text = open_received m port model laws start.numbers start.part s.text [] new in
        record {
          moved = receives_on c text e sent s false d order h.is g.taken (λ z. absurd (cc))
              (x.snapshots ∙ steady.connected_snapshots numbers own ∙ sym h.snapshots) refl (omega arith)
              record {
                count = omega (arith, h.acked, h.len, zero);
                opens = subst (λ l. IsOpen m port model laws d.part (l ++ s.text)) (sym h.none) delivered;
                is = refl;
                fits = omega (arith, zero);
                sent_is = h.unsent ∙ ap (λ n. take n (m.output d.part)) (let z : 0 ≡ d.part.acked + 0 = omega (arith, zero) in z);
                unended = h.unended;
              };
          open_there = λ z. refl;
        }
    by_state_in SynRcvd false c text e sent numbers s order q g h = reported (Some s) c text e sent c Step.Drop numbers refl (same (Some s) c text e sent g)
    by_state_in Established true c text e sent numbers s order q g h =
        let part : AppState = (m.acked numbers c.part c.len).part in
        let b : Connection = with_part part (rests c) in
        out_of (Some s) c b text e sent (in_established m true b (m.acked numbers c.part c.len).numbers s) (steady.acked_snapshots numbers c.part c.len) refl
        (established_in true b text e sent (m.acked numbers c.part c.len).numbers s order q (acked_open false c b numbers text e sent refl refl refl h) g.taken)
    by_state_in Established false c text e sent numbers s order q g h = established_in false c text e sent numbers s order q h g.taken
    by_state_in CloseWait true c text e sent numbers s order q g h =
        let part : AppState = (m.acked numbers c.part c.len).part in
        let d : Connection = with_window s.window (with_part part (rests c)) in
        record {
          moved = stays (Some s) c text e sent d g (steady.acked_snapshots numbers c.part c.len) refl refl
              (page_at d CloseWait text e sent q (acked_open true c d numbers text e sent refl refl refl h));
          open_there = λ z. ap is_open q;
        }
    by_state_in CloseWait false c text e sent numbers s order q g h =
        let d : Connection = with_window s.window c in
        reported (Some s) c text e sent d Step.Drop numbers refl (stays (Some s) c text e sent d g refl refl refl
        (page_at d CloseWait text e sent q record { count = h.count; opens = h.opens; is = h.is; fits = h.fits; sent_is = h.sent_is; unended = h.unended }))
    by_state_in FinWait1 true c text e sent numbers s order q g h =
        choose (λ (o : Outcome). OutMoved (Some s) c text e sent o) (has_fin s.flags) _ _
        (λ f. let d : Connection = in_state TimeWait (takes (length s.text + 1) (rests c)) in
        reported (Some s) c text e sent d Step.Ack numbers refl
        (receives_on c text e sent s true d order h.is g.taken (λ z. f) refl refl (omega arith)
        (ends_on 1 2 false true c d text s.text e sent refl (omega (arith, h.len)) (omega arith) h)))
        (λ f. let d : Connection = in_state FinWait2 (takes (length s.text) (rests c)) in
        reported (Some s) c text e sent d Step.Drop numbers refl
        (receives_on c text e sent s false d order h.is g.taken (λ z. absurd (cc)) refl refl (omega arith)
        (ends_on 1 2 false false c d text s.text e sent refl (omega (arith, h.len)) (omega arith) h)))
    by_state_in FinWait1 false c text e sent numbers s order q g h =
        let d : Connection = in_state Closing (takes (length s.text + 1) c) in
        waits_in 1 FinWait1 Closing c d text e sent numbers s order q (λ x y z. z) g h
        (λ f. receives_on c text e sent s true d order h.is g.taken (λ z. f) refl refl (omega arith)
        (ends_on 1 1 false true c d text s.text e sent refl refl h.len h))
    by_state_in FinWait2 acked c text e sent numbers s order q g h =
        let d : Connection = record (in_state TimeWait (takes (length s.text + 1) c)) { age = 0 } in
        waits_in 2 FinWait2 TimeWait c d text e sent numbers s order q (λ x y z. z) g h
        (λ f. receives_on c text e sent s true d order h.is g.taken (λ z. f) refl refl (omega arith)
        (ends_on 2 2 false true c d text s.text e sent refl refl h.len h))
    by_state_in Closing true c text e sent numbers s order q g h =
        let d : Connection = in_state TimeWait (rests c) in
        reported (Some s) c text e sent d Step.Drop numbers refl
        (stays (Some s) c text e sent d g refl refl refl record { end = h.end; count = omega (arith, h.count, h.len); len = omega arith; is = h.is })
    by_state_in Closing false c text e sent numbers s order q g h = reported (Some s) c text e sent c Step.Drop numbers refl (same (Some s) c text e sent g)
    by_state_in LastAck true c text e sent numbers s order q g h = reported (Some s) c text e sent (closes (rests c)) Step.Drop numbers refl
        (shut (Some s) c (rests c) text e sent g refl refl refl)
    by_state_in LastAck false c text e sent numbers s order q g h = reported (Some s) c text e sent c Step.Drop numbers refl (same (Some s) c text e sent g)
    by_state_in TimeWait acked c text e sent numbers s order q g h = reported (Some s) c text e sent c Step.Ack numbers refl (same (Some s) c text e sent g)

    segment_in : (c : Connection) (text : List ℕ) (e : Bool) (sent : List ℕ) (numbers : List ℕ) (s : PlainSegment) → Page c text e sent
        → OutMoved (Some s) c text e sent (on_segment m c numbers s)
    unfolding on_segment
    segment_in c text e sent numbers s g =
        choose (λ (o : Outcome). OutMoved (Some s) c text e sent o) (has_rst s.flags) _ _ (λ r. reported (Some s) c text e sent (closes c)
        Step.Drop _ refl (shut (Some s) c c text e sent g refl refl refl))
        (λ r. choose (λ (o : Outcome). OutMoved (Some s) c text e sent o) (is_out_of_order c s) _ _
        (λ f. reported (Some s) c text e sent c Step.Ack numbers refl (same (Some s) c text e sent g))
        (λ f. by_state_in c.state (is_acked c s) c text e sent numbers s (in_order c s f) refl g g.at))

    pub segment_moved : (at : Connection → Now) (c : Connection) (text : List ℕ) (e : Bool) (sent : List ℕ) (numbers : List ℕ)
        (s : PlainSegment) → Page c text e sent → Spoke (Some s) c text e sent (asked m at (on_segment m c numbers s))
    segment_moved at c text e sent numbers s g = asked_spoke (Some s) c text e sent at (on_segment m c numbers s)
        (segment_moves m c numbers s).idle (segment_in c text e sent numbers s g)

    -- ---- a tick

    older_moved : (c : Connection) (text : List ℕ) (e : Bool) (sent : List ℕ) → Page c text e sent → Moved None c text e sent (grows_older c)
    older_moved c text e sent g = stays None c text e sent (grows_older c) g refl refl refl (older_page c c.state text e sent g.at)

    by_beat_moved : (b : Beat) (c : Connection) (text : List ℕ) (e : Bool) (sent : List ℕ) (numbers : List ℕ) → Page c text e sent
        → OutMoved None c text e sent (by_beat m b c numbers)
    by_beat_moved Beat.Wait c text e sent numbers g = reported None c text e sent (grows_older c) Step.Drop numbers refl (older_moved c text e sent g)
    by_beat_moved Beat.Again c text e sent numbers g = record {
      moved = older_moved c text e sent g;
      open_there = λ z. absurd (let y = no_ask_again m c.state in cc);
    }
    by_beat_moved Beat.GiveUp c text e sent numbers g = reported None c text e sent (closes c) Step.Reset _ refl (shut None c c text e sent g refl refl refl)

    tick_in : (c : Connection) (text : List ℕ) (e : Bool) (sent : List ℕ) (numbers : List ℕ) → Page c text e sent
        → OutMoved None c text e sent (on_tick m c numbers)
    tick_in c text e sent numbers g = on_tick_by m (λ o. OutMoved None c text e sent o) c numbers record {
      none = reported None c text e sent c Step.Drop numbers refl (same None c text e sent g);
      beats = λ r b. by_beat_moved b c text e sent numbers g;
      rested = λ q. reported None c text e sent (grows_older c) Step.Drop numbers refl (older_moved c text e sent g);
      ends = reported None c text e sent (closes c) Step.Drop numbers refl (shut None c c text e sent g refl refl refl);
      polled = λ q l.
          (let x = steady.lawful.polled_keeps numbers c.part tt in
          let d : Connection = with_part (m.polled numbers c.part).part c in
          let sum : d.part.acked + d.len ≡ c.part.acked + c.len = omega (arith, x.1) in
          record {
            moved = stays None c text e sent d g (steady.polled_snapshots numbers c.part) refl refl
                (open_page c d c.state text e sent (ap is_open q) (λ y. omega (arith, y, x.1)) sum
                (subst (λ z. IsPrefixOf (m.output c.part) z) (sym x.0) (prefix_refl (m.output c.part)))
                (λ y. open_polled m port model laws numbers c.part text y) g.at);
            open_there = λ z. ap is_open q;
          });
    }

    pub tick_moved : (at : Connection → Now) (c : Connection) (text : List ℕ) (e : Bool) (sent : List ℕ) (numbers : List ℕ)
        → Page c text e sent → Spoke None c text e sent (asked m at (on_tick m c numbers))
    tick_moved at c text e sent numbers g = asked_spoke None c text e sent at (on_tick m c numbers) (tick_moves m c numbers).idle
        (tick_in c text e sent numbers g)
