-- The connection with an honest peer: at each segment of its peer it sends what the application has next.
use Rattle.node_laws.proofs.Prelude.{All, option_map_or, ◌≡◌, ℕ, suc, ◌+◌, ◌<◌, ◌≤◌, ◌==◌, min, Bool, true, false, if◌then◌else◌, not, ◌&&◌}
use Rattle.node_laws.proofs.Prelude.{◌||◌, ◌⊎◌, inl, inr, List, [], ◌∷◌, ◌++◌, length, take, drop, refl, sym, ap, ◌∙◌, subst, arith, Option}
use Rattle.node_laws.proofs.Prelude.{Some, None, is_some, eqb, ltb, length-append, eq-eqb, take-append-le, take_all, length-take-le}
use Rattle.node_laws.proofs.Prelude.{common_steps, take-add, wrap, PlainSegment, has_syn, has_fin, has_rst, has_ack, beat_at, Beat}
use Rattle.node_laws.proofs.Prelude.{AppState, After, AppSpec, IsPrefixOf, Pages, IsU32, IsNow, IsSnapshot, MayWant, Now, Reset, State}
use Rattle.node_laws.proofs.Prelude.{SynRcvd, Established, FinWait1, Want, Nothing, Send, Close, Abort, Sockets, Connection, is_live}
use Rattle.node_laws.proofs.Prelude.{serves, snd_una, rcv_nxt, occupies_sequence_space, segment_of, bare_ack, fin_of, reset_of, syn_ack}
use Rattle.node_laws.proofs.Prelude.{text_segment, Outcome, leaves, closes, idles, does_as_wanted, ask, asked, reported_end, peer_closes}
use Rattle.node_laws.proofs.Prelude.{is_out_of_order, is_acked, has_text, delivers_text, with_window, stays_established, in_established}
use Rattle.node_laws.proofs.Prelude.{by_state, on_segment, Step, choose, both_ways, only_some, ltb-yes, cut_length, wrap_wrap}
use Rattle.node_laws.proofs.Prelude.{prefix_length, append_nothing, zero_or_more, same_place, is_time_wait, same_self, FitOut}
use Rattle.node_laws.proofs.Prelude.{prepared_snapshots, Exchange, GoesOnBy, Asker, text_received, awaits_ack, is_bare_ack, bare_acks}
use Rattle.node_laws.proofs.Prelude.{SendsNext, HasItsPage, acknowledges_new, expected_next, is_stale, ltb-zero, not-true, retransmissions}
use Rattle.node_laws.proofs.Prelude.{retransmission_limit, sent_next}
use Rattle.tcp_machine.specs.OnTick.{by_beat, limit_of, on_tick, polls as polled_by, ticks_established}
use Rattle.node_laws.proofs.HonestSessions.{has_of, has_on, lets_go, nothing_more, takes_at}
use Rattle.node_laws.proofs.Lines.{quiet, met}
use Rattle.node_laws.proofs.Paging.{Answering, Paging, receives_is}
use Rattle.node_laws.proofs.StepTable.{nil_of}
use Rattle.node_laws.proofs.Waiting.{Timed, timed_again, timed_first, timed_quiet, timed_waits, goes_on_in_time, limit_low}

and_no : (b : Bool) → b && false ≡ false
and_no true = refl
and_no false = refl

pub both_no : (b c : Bool) → b || c ≡ false → (b ≡ false) × (c ≡ false)
both_no true c h = absurd (cc)
both_no false c h = (refl, h)

ack_test : (b c d : Bool) → b && d ≡ false → b && (c && d) ≡ false
ack_test true true d h = h
ack_test true false d h = refl
ack_test false c d h = refl

not_zero : (n : ℕ) → 0 < n → eqb n 0 ≡ false
not_zero n h = grind (arith, common_steps)

three : (a b c : Bool) → a ≡ true → b ≡ true → c ≡ true → a && (b && c) ≡ true
three true true c e f g = g
three true false c e f g = absurd (cc)
three false b c e f g = absurd (cc)

-- a prefix of a text is a prefix of a longer one
prefix_stays : (xs ys : List ℕ) (n : ℕ) → IsPrefixOf xs ys → n ≤ length xs → take n xs ≡ take n ys
prefix_stays xs ys n h l = sym (take-append-le n xs h.rest l) ∙ ap (take n) h.joined

-- a FIN was sent in the newest of these exchanges
abbrev pub ends_now : List Exchange → Bool
ends_now [] = false
ends_now (x ∷ older) = option_map_or (λ s. has_fin s.flags) x.output false

module _ (m : AppSpec) where
  -- a segment at its number, and no RST, takes the row of the state
  pub taken_in : (c : Connection) (numbers : List ℕ) (s : PlainSegment) → has_rst s.flags ≡ false → s.seq ≡ rcv_nxt c →
      on_segment m c numbers s ≡ by_state m c.state (is_acked c s) c numbers s
  unfolding on_segment
  taken_in c numbers s r h =
      let in_order : is_out_of_order c s ≡ false = ap (λ b. occupies_sequence_space s && not b) (eq-eqb s.seq (rcv_nxt c) h)
      ∙ and_no (occupies_sequence_space s) in
      ap (λ b. if b then leaves (closes c) (reported_end m Reset c.state c.part numbers) Step.Drop else
      (if is_out_of_order c s then leaves c numbers Step.Ack else by_state m c.state (is_acked c s) c numbers s)) r
      ∙ ap (λ b. if b then leaves c numbers Step.Ack else by_state m c.state (is_acked c s) c numbers s) in_order

module _ (m : AppSpec) (pages : Pages) (here : AppState → Bool) (p : Sockets) (lawful : Paging m pages p.own_port.0 here) (a : Asker)
    (room : 0 < a.mss) (fine : ℕ → AppState → Bool) (left : AppState → ℕ) (texts patience : ℕ)
    (answering : Answering m p.own_port.0 here a.request a.mss fine left texts patience) where
  -- the connection at some point of its life
  abbrev pub conn_at : State → ℕ → ℕ → ℕ → ℕ → ℕ → AppState → Connection
  conn_at state taken iss acked len age part = record {
    state = state;
    sockets = p;
    irs = a.irs;
    taken = taken;
    iss = iss;
    acked = acked;
    len = len;
    initial_mss = a.mss;
    mss = a.mss;
    age = age;
    part = part;
  }

  abbrev page : AppState → List ℕ
  page q = pages.page q.input q.snapshots

  -- the connection's first number is the talk's
  abbrev pub Counts : ℕ → Type 0
  Counts iss = (n : ℕ) → wrap (iss + n) ≡ wrap (a.iss + n)

  pub record AtSyn (incarnation : List Exchange) : Type 0 where
    pub received : text_received incarnation ≡ []
    pub none : bare_acks incarnation ≡ 0
    pub has : has_of a.iss incarnation ≡ []
    pub limit : retransmission_limit incarnation ≤ 5

  -- this much was accepted, acknowledged and sent
  pub record Interactive (incarnation : List Exchange) (part : AppState) (taken acked len : ℕ) : Type 0 where
    pub at_port : here part ≡ true
    pub input : part.input ≡ text_received incarnation
    pub is_taken : taken ≡ length (text_received incarnation)
    pub asked : IsPrefixOf (text_received incarnation) a.request
    pub is_acked : acked ≡ 1 + part.acked
    pub fits : part.acked + len ≤ length (page part)
    pub has : has_of a.iss incarnation ≡ take (part.acked + len) (page part)

  -- text is outstanding, whose acknowledgement leaves one text less
  pub record Awaits (polls : ℕ) (part : AppState) (len most : ℕ) : Type 0 where
    pub some : 0 < len
    pub short : len ≤ a.mss
    pub next : (numbers : List ℕ) → (fine polls (m.acked numbers part len).part ≡ true) × (left (m.acked numbers part len).part < most)

  -- the request is not whole
  pub record Rests (polls : ℕ) (part : AppState) (most : ℕ) : Type 0 where
    pub good : fine polls part ≡ true
    pub few : left part ≤ most
    pub more : part.input ≡ a.request → ⊥

  pub data Stage (polls : ℕ) (incarnation : List Exchange) (c : Connection) : Type 0 where
    at_syn : (iss age : ℕ) (part : AppState) → Counts iss → c ≡ conn_at SynRcvd 0 iss 0 1 age part → AtSyn incarnation
        → Timed 5 incarnation age → Stage polls incarnation c
    reported : (taken iss acked len age most : ℕ) (part : AppState) → Counts iss → c ≡ conn_at Established taken iss acked len age part →
        Interactive incarnation part taken acked len → Awaits polls part len most → bare_acks incarnation + most ≤ texts + 1
        → Timed 8 incarnation age → Stage polls incarnation c
    waits : (taken iss acked age most : ℕ) (part : AppState) → Counts iss → c ≡ conn_at Established taken iss acked 0 age part →
        Interactive incarnation part taken acked 0 → awaits_ack incarnation ≡ false → Rests polls part most
        → bare_acks incarnation + most ≤ texts + 1 → Stage polls incarnation c

  -- what the next exchange leaves
  pub data Next (polls : ℕ) (incarnation : List Exchange) (c : Connection) : Type 0 where
    goes_on_so : ends_now incarnation ≡ false → Stage polls incarnation c → Next polls incarnation c
    ends_so : (h : HasItsPage pages a incarnation) → h.ends.place ≡ 0 → is_live c.state ≡ true → 0 < c.acked → Next polls incarnation c

  -- ---- nothing passes

  syn_quiet : (incarnation : List Exchange) → AtSyn incarnation → AtSyn (quiet ∷ incarnation)
  syn_quiet [] h = record { received = append_nothing (text_received []) ∙ h.received; none = h.none; has = has_on a.iss quiet [] ∙ h.has; limit = h.limit }
  syn_quiet (x ∷ older) h = record {
    received = append_nothing (text_received (x ∷ older)) ∙ h.received;
    none = h.none;
    has = has_on a.iss quiet (x ∷ older) ∙ h.has;
    limit = h.limit;
  }

  -- what is sent adds nothing for the receiver
  session_kept_still : (incarnation : List Exchange) (output : Option PlainSegment) (part : AppState) (taken acked len : ℕ)
      → has_of a.iss (met None output ∷ incarnation) ≡ has_of a.iss incarnation → Interactive incarnation part taken acked len →
      Interactive (met None output ∷ incarnation) part taken acked len
  session_kept_still incarnation output part taken acked len same h =
      let e : text_received (met None output ∷ incarnation) ≡ text_received incarnation = append_nothing (text_received incarnation) in
      record {
        at_port = h.at_port;
        input = h.input ∙ sym e;
        is_taken = h.is_taken ∙ ap length (sym e);
        asked = subst (λ t. IsPrefixOf t a.request) (sym e) h.asked;
        is_acked = h.is_acked;
        fits = h.fits;
        has = same ∙ h.has;
      }

  session_kept_quiet : (incarnation : List Exchange) (part : AppState) (taken acked len : ℕ) → Interactive incarnation part taken acked len
      → Interactive (quiet ∷ incarnation) part taken acked len
  session_kept_quiet incarnation part taken acked len h = session_kept_still incarnation None part taken acked len (has_on a.iss quiet incarnation) h

  pub stage_quiet : (polls : ℕ) (incarnation : List Exchange) (c : Connection) → Stage polls incarnation c → Stage polls (quiet ∷ incarnation) c
  stage_quiet polls incarnation c h = elim h [
    | at_syn iss age part k e t y ↦ at_syn iss age part k e (syn_quiet incarnation t) (timed_quiet 5 incarnation age y)
    | reported taken iss acked len age most part k e t w b y ↦ reported taken iss acked len age most part k e
        (session_kept_quiet incarnation part taken acked len t) w b (timed_quiet 8 incarnation age y)
    | waits taken iss acked age most part k e t n r b ↦ waits taken iss acked age most part k e (session_kept_quiet incarnation part taken acked 0 t) n r b
  ]

  -- ---- the application is asked

  -- what came brings
  abbrev brought : Option PlainSegment → List ℕ
  brought received = option_map_or (λ s. s.text) received []

  -- before it is asked, with what came
  pub record Ready (received : Option PlainSegment) (older : List Exchange) (part : AppState) (taken acked most : ℕ) : Type 0 where
    pub at_port : here part ≡ true
    pub input : part.input ≡ text_received older ++ brought received
    pub is_taken : taken ≡ length (text_received older ++ brought received)
    pub asked : IsPrefixOf (text_received older ++ brought received) a.request
    pub is_acked : acked ≡ 1 + part.acked
    pub fits : part.acked ≤ length (page part)
    pub has : has_of a.iss older ≡ take part.acked (page part)
    pub bound : bare_acks (met received None ∷ older) + most ≤ texts + 1

  prepared_ready : (received : Option PlainSegment) (older : List Exchange) (part : AppState) (taken acked most : ℕ) (numbers : List ℕ)
      (now : Now) → Ready received older part taken acked most → Ready received older (m.prepare numbers part now) taken acked most
  prepared_ready received older part taken acked most numbers now h =
      let q : AppState = m.prepare numbers part now in
      let is = lawful.prepare numbers part now h.at_port in
      let grows : IsPrefixOf (page part) (page q) =
      subst (λ k. IsPrefixOf (page part) (pages.page q.input k)) (sym is.snapshots)
      (subst (λ t. IsPrefixOf (page part) (pages.page t (part.snapshots ++ is.more))) (append_nothing part.input ∙ sym is.input)
      (lawful.grows part.input [] part.snapshots is.more)) in
      record {
        at_port = is.at_port;
        input = is.input ∙ h.input;
        is_taken = h.is_taken;
        asked = h.asked;
        is_acked = h.is_acked ∙ ap (λ n. 1 + n) (sym is.acked);
        fits = (let l = prefix_length (page part) (page q) grows in let f = h.fits in let e = is.acked in omega (arith, l, f, e));
        has = h.has ∙ prefix_stays (page part) (page q) part.acked grows h.fits ∙ ap (λ n. take n (page q)) (sym is.acked);
        bound = h.bound;
      }

  -- the page was sent whole, and the FIN follows it
  closes_whole : (received : Option PlainSegment) (older : List Exchange) (q : AppState) (taken iss acked most : ℕ) → Counts iss
      → Ready received older q taken acked most → All IsSnapshot q.snapshots → MayWant pages q Close →
      HasItsPage pages a (met received (Some (fin_of (conn_at FinWait1 taken iss acked 1 0 q))) ∷ older)
  closes_whole received older q taken iss acked most k h snapshots may =
      let fin : PlainSegment = fin_of (conn_at FinWait1 taken iss acked 1 0 q) in
      let joined : q.input ++ h.asked.rest ≡ a.request = ap (λ t. t ++ h.asked.rest) h.input ∙ h.asked.joined in
      let same : pages.page a.request q.snapshots ≡ page q =
      ap (λ t. pages.page t q.snapshots) (sym joined) ∙ ap (λ c. pages.page (q.input ++ h.asked.rest) c) (sym (append_nothing q.snapshots))
      ∙ lawful.stays q.input h.asked.rest q.snapshots [] may.0 in
      let all : pages.complete a.request q.snapshots ≡ true =
      ap (λ t. pages.complete t q.snapshots) (sym joined) ∙ ap (λ c. pages.complete (q.input ++ h.asked.rest) c)
      (sym (append_nothing q.snapshots)) ∙ lawful.stays_complete q.input h.asked.rest q.snapshots [] may.0 in
      let size : q.acked ≡ length (page q) = may.1 in
      record {
        snapshots = q.snapshots;
        in_range = snapshots;
        whole = all;
        ends = record {
          place = 0;
          segment = fin;
          output = refl;
          fin = refl;
          seq = (let z : wrap (wrap (iss + acked) + 0) ≡ wrap (iss + acked + 0) = wrap_wrap (iss + acked) 0 in
              let y : wrap (iss + acked) ≡ wrap (a.iss + acked) = k acked in
              let e : iss + acked + 0 ≡ iss + acked = omega arith in
              let n : a.iss + acked ≡ a.iss + 1 + length (pages.page a.request q.snapshots) = (let i = h.is_acked in
              let l = ap length same in omega (arith, i, size, l)) in
              z ∙ ap wrap e ∙ y ∙ ap wrap n);
        };
        complete = has_on a.iss (met received (Some fin)) older ∙ nothing_more a.iss (has_of a.iss older) fin refl ∙ h.has
            ∙ take_all q.acked (page q) (omega (arith, size)) ∙ sym same;
      }

  -- the next text was sent
  sends_text : (received : Option PlainSegment) (older : List Exchange) (q : AppState) (taken iss acked most len : ℕ) → Counts iss
      → Ready received older q taken acked most → q.acked + len ≤ length (page q) →
      Interactive (met received (Some (text_segment m (conn_at Established taken iss acked len 0 q))) ∷ older) q taken acked len
  sends_text received older q taken iss acked most len k h within =
      let t : PlainSegment = text_segment m (conn_at Established taken iss acked len 0 q) in
      let output : t.text ≡ take len (drop q.acked (page q)) = ap (λ l. take len (drop q.acked l)) (lawful.output q h.at_port) in
      let size : length t.text ≡ len = ap length output ∙ cut_length (page q) q.acked len within in
      let own : length (has_of a.iss older) ≡ q.acked = ap length h.has ∙ length-take-le q.acked (page q) h.fits in
      let at : t.seq ≡ wrap (a.iss + 1 + length (has_of a.iss older)) = k acked ∙ ap wrap (let i = h.is_acked in omega (arith, i, own)) in
      record {
        at_port = h.at_port;
        input = h.input;
        is_taken = h.is_taken;
        asked = h.asked;
        is_acked = h.is_acked;
        fits = within;
        has = has_on a.iss (met received (Some t)) older ∙ takes_at a.iss (has_of a.iss older) t at
            ∙ ap (λ l. l ++ t.text) h.has ∙ ap (λ l. take q.acked (page q) ++ l) output ∙ sym (take-add q.acked len (page q));
      }

  -- text that is outstanding occupies sequence space
  text_placed : (taken iss acked len age : ℕ) (q : AppState) → here q ≡ true → 0 < len → q.acked + len ≤ length (page q)
      → occupies_sequence_space (text_segment m (conn_at Established taken iss acked len age q)) ≡ true
  text_placed taken iss acked len age q h some within =
      let t : PlainSegment = text_segment m (conn_at Established taken iss acked len age q) in
      let output : t.text ≡ take len (drop q.acked (page q)) = ap (λ l. take len (drop q.acked l)) (lawful.output q h) in
      let size : length t.text ≡ len = ap length output ∙ cut_length (page q) q.acked len within in
      ap (λ b. b || (has_syn t.flags || has_fin t.flags)) (ltb-yes (length t.text) (omega (arith, size, some)))

  -- nothing was sent
  outputs_none : (received : Option PlainSegment) (output : Option PlainSegment) (older : List Exchange) (q : AppState)
      (taken acked most : ℕ) → Ready received older q taken acked most →
      has_of a.iss (met received output ∷ older) ≡ has_of a.iss older → Interactive (met received output ∷ older) q taken acked 0
  outputs_none received output older q taken acked most h e = record {
    at_port = h.at_port;
    input = h.input;
    is_taken = h.is_taken;
    asked = h.asked;
    is_acked = h.is_acked;
    fits = (let f = h.fits in omega (arith, f));
    has = e ∙ h.has ∙ ap (λ n. take n (page q)) (let y : q.acked ≡ q.acked + 0 = omega arith in y);
  }

  by_want : (polls : ℕ) (received : Option PlainSegment) (older : List Exchange) (fresh : Bool) (numbers : List ℕ)
      (taken iss acked age most : ℕ) (q : AppState) (w : Want) → Counts iss → Ready received older q taken acked most →
      All IsSnapshot q.snapshots → MayWant pages q w → GoesOnBy m a.request a.mss (fine polls) left q most w → not (is_some received)
      && awaits_ack older ≡ false →
      (let o : Outcome = does_as_wanted w fresh (conn_at Established taken iss acked 0 age q) numbers in
      Next polls (met received (segment_of m o.connection o.step) ∷ older) o.connection)
  unfolding idles closes_whole
  by_want polls received older fresh numbers taken iss acked age most q Abort k h snapshots may g rested = absurd g
  by_want polls received older fresh numbers taken iss acked age most q Close k h snapshots may g rested = ends_so
      (closes_whole received older q taken iss acked most k h snapshots may) refl refl (let some : 0 < acked = (let z = h.is_acked in omega (arith, z)) in some)
  by_want polls received older fresh numbers taken iss acked age most q (Send j) k h snapshots may g rested =
      let len : ℕ = min j a.mss in
      let some : 0 < len = (let l = may.0 in omega (arith, l, room)) in
      let within : q.acked + len ≤ length (page q) = (let l = may.1 in omega (arith, l)) in
      let t : PlainSegment = text_segment m (conn_at Established taken iss acked len 0 q) in
      goes_on_so refl (reported taken iss acked len 0 most q k refl (sends_text received older q taken iss acked most len k h within)
      record { some = some; short = omega arith; next = g } h.bound
      (timed_first received t older (text_placed taken iss acked len 0 q h.at_port some within)))
  by_want polls received older fresh numbers taken iss acked age most q Nothing k h snapshots may g rested =
      let d : Connection = conn_at Established taken iss acked 0 age q in
      let P : Outcome → Type 0 = λ o. Next polls (met received (segment_of m o.connection o.step) ∷ older) o.connection in
      let r : Rests polls q most = record { good = g.0; few = g.1; more = g.2 } in
      choose P fresh (leaves d numbers Step.Ack) (leaves d numbers Step.Drop)
      (λ f. goes_on_so refl (waits taken iss acked age most q k refl
      (outputs_none received (segment_of m d Step.Ack) older q taken acked most h (has_on a.iss (met received (segment_of m d Step.Ack))
      older ∙ nothing_more a.iss (has_of a.iss older) (bare_ack d) refl)) refl r h.bound))
      (λ f. goes_on_so refl (waits taken iss acked age most q k refl (outputs_none received None older q taken acked most h
      (has_on a.iss (met received None) older)) rested r h.bound))

  -- as many texts are left, or more
  at_most_more : (polls : ℕ) (q : AppState) (few most : ℕ) (w : Want) → few ≤ most → GoesOnBy m a.request a.mss (fine polls) left q few w
      → GoesOnBy m a.request a.mss (fine polls) left q most w
  at_most_more polls q few most Abort h g = g
  at_most_more polls q few most Close h g = g
  at_most_more polls q few most (Send j) h g = λ ns. ((g ns).0, omega (arith, h, (g ns).1))
  at_most_more polls q few most Nothing h g = (g.0, omega (arith, h, g.1), g.2)

  -- what an application requests whose state is as it should be
  wants_so : (polls : ℕ) → polls ≤ patience → (numbers : List ℕ) (now : Now) (part : AppState) (rest : List ℕ) (most : ℕ)
      → All IsU32 numbers → IsNow now → 0 < length now.rows → here part ≡ true → fine polls part ≡ true → left part ≤ most → part.input ++ rest ≡ a.request →
      GoesOnBy m a.request a.mss (fine polls) left (m.prepare numbers part now) most (m.want numbers (m.prepare numbers part now))
  wants_so polls l numbers now part rest most words is rows at good few joined =
      at_most_more polls (m.prepare numbers part now) (left part) most (m.want numbers (m.prepare numbers part now)) few
      (answering.goes_on polls l numbers part now rest at good joined words is rows)

  asks : (polls : ℕ) → polls ≤ patience → (received : Option PlainSegment) (older : List Exchange) (fresh : Bool) (numbers : List ℕ)
      (now : Now) (taken iss acked age most : ℕ) (part : AppState) → All IsU32 numbers → IsNow now → 0 < length now.rows →
      Counts iss → Ready received older part taken acked most → fine polls part ≡ true → left part ≤ most → All IsSnapshot part.snapshots
      → not (is_some received) && awaits_ack older ≡ false →
      (let o : Outcome = ask m now fresh (conn_at Established taken iss acked 0 age part) numbers in
      Next polls (met received (segment_of m o.connection o.step) ∷ older) o.connection)
  asks polls l received older fresh numbers now taken iss acked age most part words is rows k h good few snapshots rested =
      let q : AppState = m.prepare numbers part now in
      let ready : Ready received older q taken acked most = prepared_ready received older part taken acked most numbers now h in
      by_want polls received older fresh numbers taken iss acked age most q (m.want numbers q) k ready
      (prepared_snapshots m lawful.steady numbers part now words is snapshots) (lawful.wants numbers q ready.at_port)
      (wants_so polls l numbers now part h.asked.rest most words is rows h.at_port good few (ap (λ t. t ++ h.asked.rest) h.input ∙ h.asked.joined)) rested

  -- ---- a segment of the peer is received

  -- the state before the delivery, with what was acknowledged
  pub record Acked (older : List Exchange) (part : AppState) (taken acked : ℕ) : Type 0 where
    pub at_port : here part ≡ true
    pub input : part.input ≡ text_received older
    pub is_taken : taken ≡ length (text_received older)
    pub is_acked : acked ≡ 1 + part.acked
    pub fits : part.acked ≤ length (page part)
    pub has : has_of a.iss older ≡ take part.acked (page part)

  received_ready : (s : PlainSegment) (older : List Exchange) (numbers : List ℕ) (part : AppState) (taken acked most : ℕ)
      → IsPrefixOf (text_received older ++ s.text) a.request → Acked older part taken acked → bare_acks (met (Some s) None ∷ older) + most ≤ texts + 1 →
      Ready (Some s) older (delivers_text m numbers part s.text).part (taken + length s.text) acked most
  received_ready s older numbers part taken acked most prefix h bound =
      let q : AppState = (delivers_text m numbers part s.text).part in
      let is = receives_is m pages p.own_port.0 here lawful numbers part s.text h.at_port in
      let grows : IsPrefixOf (page part) (page q) =
      subst (λ k. IsPrefixOf (page part) (pages.page q.input k)) (append_nothing part.snapshots ∙ sym is.snapshots)
      (subst (λ t. IsPrefixOf (page part) (pages.page t (part.snapshots ++ []))) (sym is.input) (lawful.grows part.input s.text part.snapshots [])) in
      record {
        at_port = is.at_port;
        input = is.input ∙ ap (λ t. t ++ s.text) h.input;
        is_taken = ap (λ n. n + length s.text) h.is_taken ∙ sym (length-append (text_received older) s.text);
        asked = prefix;
        is_acked = h.is_acked ∙ ap (λ n. 1 + n) (sym is.acked);
        fits = (let l = prefix_length (page part) (page q) grows in let f = h.fits in let e = is.acked in omega (arith, l, f, e));
        has = h.has ∙ prefix_stays (page part) (page q) part.acked grows h.fits ∙ ap (λ n. take n (page q)) (sym is.acked);
        bound = bound;
      }

  received_fine : (polls : ℕ) → polls ≤ patience → (numbers : List ℕ) (part : AppState) (text rest : List ℕ) (most : ℕ) → here part ≡ true
      → fine polls part ≡ true → left part ≤ most → (part.input ++ text) ++ rest ≡ a.request →
      (fine polls (delivers_text m numbers part text).part ≡ true) × (left (delivers_text m numbers part text).part ≤ most)
  received_fine polls l numbers part [] rest most at good few joined = (good, few)
  received_fine polls l numbers part (y ∷ ys) rest most at good few joined =
      let more = answering.delivers_text polls l numbers part (y ∷ ys) rest at good joined in (more.0, omega (arith, more.1, few))

  -- what the environment of a step gives
  pub record Snapshots (at : Connection → Now) (o : Outcome) : Type 0 where
    pub is : IsNow (at o.connection)
    pub rows : (z : Connection) → is_live z.state ≡ true → 0 < length (at z).rows
    pub fit : FitOut o

  window_same : (w : ℕ) → a.mss ≤ w → (if eqb w 0 then a.mss else min a.mss w) ≡ a.mss
  window_same w l = choose (λ k. k ≡ a.mss) (eqb w 0) a.mss (min a.mss w) (λ e. refl) (λ e. omega (arith, l))

  bare_more : (s : PlainSegment) (older : List Exchange) (most : ℕ) → bare_acks older + 1 + most ≤ texts + 1
      → bare_acks (met (Some s) None ∷ older) + most ≤ texts + 1
  bare_more s older most h = choose (λ n. n + most ≤ texts + 1) (is_bare_ack s) (bare_acks older + 1) (bare_acks older) (λ e. h) (λ e. omega (arith, h))

  -- what a segment brings is delivered, and then the application is asked
  asked_after : (polls : ℕ) → polls ≤ patience → (at : Connection → Now) (s : PlainSegment) (older : List Exchange) (o : Outcome)
      (next : List ℕ) (taken iss acked age most : ℕ) (part : AppState) → Counts iss → IsPrefixOf (text_received older ++ s.text) a.request
      → Acked older part taken acked → bare_acks (met (Some s) None ∷ older) + most ≤ texts + 1 → fine polls part ≡ true → left part ≤ most →
      (let delivered : After = delivers_text m next part s.text in
      o ≡ leaves (conn_at Established (taken + length s.text) iss acked 0 age delivered.part) delivered.numbers (Step.Ask (has_text s))) → Snapshots at o →
      (let r : Outcome = asked m at o in Next polls (met (Some s) (segment_of m r.connection r.step) ∷ older) r.connection)
  asked_after polls l at s older o next taken iss acked age most part k prefix b bound good few e snapshots =
      let delivered : After = delivers_text m next part s.text in
      let d : Connection = conn_at Established (taken + length s.text) iss acked 0 age delivered.part in
      let f = received_fine polls l next part s.text prefix.rest most b.at_port good few (ap (λ t. (t ++ s.text) ++ prefix.rest) b.input ∙ prefix.joined) in
      let z : Outcome = leaves d delivered.numbers (Step.Ask (has_text s)) in
      let given : Snapshots at z = subst (λ (y : Outcome). Snapshots at y) e snapshots in
      subst (λ (y : Outcome). (let r : Outcome = asked m at y in Next polls (met (Some s) (segment_of m r.connection r.step) ∷ older) r.connection)) (sym e)
      (asks polls l (Some s) older (has_text s) delivered.numbers (at d) (taken + length s.text) iss acked age most delivered.part
      given.fit.numbers given.is (given.rows d refl) k
      (received_ready s older next part taken acked most prefix b bound) f.0 f.1 given.fit.conn.snapshots refl)

  -- ---- its next segment

  -- all that is outstanding is acknowledged
  all_acked : (iss acked len output : ℕ) (c : Connection) (s : PlainSegment) → Counts iss → c.iss ≡ iss → c.acked ≡ acked → c.len ≡ len
      → 0 < len → output ≡ acked + len → has_ack s.flags ≡ true → s.ack ≡ wrap (a.iss + output) → is_acked c s ≡ true
  all_acked iss acked len output c s k e f g l n i h =
      three (has_ack s.flags) (ltb 0 c.len) (eqb s.ack (wrap (snd_una c + c.len))) i (ltb-yes c.len (omega (arith, g, l)))
      (eq-eqb s.ack (wrap (snd_una c + c.len))
      (h ∙ sym (k output) ∙ ap wrap (let z : iss + output ≡ c.iss + c.acked + c.len = omega (arith, e, f, g, n) in z)
      ∙ sym (wrap_wrap (c.iss + c.acked) c.len)))

  acks_all : (s : PlainSegment) (older : List Exchange) (h : SendsNext a (met (Some s) None) older) → h.segment ≡ s
      → s.ack ≡ wrap (a.iss + (1 + length (has_of a.iss older)))
  acks_all s older h same = ap (λ t. t.ack) (sym same) ∙ h.ack ∙ ap wrap (let z : a.iss + 1 + length (has_of a.iss older)
      ≡ a.iss + (1 + length (has_of a.iss older)) = omega arith in z)

  -- how much the receiver has
  has_length : (older : List Exchange) (part : AppState) (taken acked len : ℕ) → Interactive older part taken acked len
      → length (has_of a.iss older) ≡ part.acked + len
  has_length older part taken acked len t = ap length t.has ∙ length-take-le (part.acked + len) (page part) t.fits

  -- the first one acknowledges the SYN
  first_row : (numbers : List ℕ) (iss age : ℕ) (part : AppState) (s : PlainSegment) (older : List Exchange) → Counts iss → AtSyn older
      → (h : SendsNext a (met (Some s) None) older) → h.segment ≡ s →
      let start : After = m.connected numbers p.own_port.0 in
      let delivered : After = delivers_text m start.numbers start.part s.text in
      on_segment m (conn_at SynRcvd 0 iss 0 1 age part) numbers s ≡ leaves (conn_at Established (0 + length s.text) iss (0 + 1) 0 0
      delivered.part) delivered.numbers (Step.Ask (has_text s))
  first_row numbers iss age part s older k syn h same =
      let c : Connection = conn_at SynRcvd 0 iss 0 1 age part in
      let placed : s.seq ≡ rcv_nxt c = ap (λ t. t.seq) (sym same) ∙ h.seq ∙ ap (λ t. wrap (a.irs + 1 + length t)) syn.received in
      let acked : is_acked c s ≡ true = all_acked iss 0 1 (1 + length (has_of a.iss older)) c s k refl refl refl (omega arith)
      (let z = ap length syn.has in omega (arith, z)) (ap (λ t. has_ack t.flags) (sym same) ∙ h.acks) (acks_all s older h same) in
      taken_in m c numbers s (ap (λ t. has_rst t.flags) (sym same) ∙ h.rst) placed ∙ ap (λ y. by_state m SynRcvd y c numbers s) acked

  -- in ESTABLISHED what a segment brings is delivered, and the application is asked
  row_of : (acked : Bool) (numbers : List ℕ) (taken iss at age : ℕ) (part : AppState) (s : PlainSegment) → has_fin s.flags ≡ false
      → a.mss ≤ s.window → not acked && not (has_text s) ≡ false →
      let delivered : After = delivers_text m numbers part s.text in
      in_established m acked (conn_at Established taken iss at 0 age part) numbers s
      ≡ leaves (conn_at Established (taken + length s.text) iss at 0 age delivered.part) delivered.numbers (Step.Ask (has_text s))
  unfolding in_established stays_established
  row_of acked numbers taken iss at age part s f w h =
      let c : Connection = conn_at Established taken iss at 0 age part in
      let delivered : After = delivers_text m numbers part s.text in
      let d : Connection = conn_at Established (taken + length s.text) iss at 0 age delivered.part in
      ap (λ b. if b then peer_closes m c numbers s else stays_established m acked c numbers s) f
      ∙ ap (λ b. if b then leaves (with_window s.window d) delivered.numbers Step.Drop else leaves (with_window s.window d)
      delivered.numbers (Step.Ask (has_text s))) h
      ∙ ap (λ n. leaves (record d { mss = n }) delivered.numbers (Step.Ask (has_text s))) (window_same s.window w)

  reported_row : (numbers : List ℕ) (taken iss acked len age : ℕ) (part : AppState) (s : PlainSegment) (older : List Exchange) → Counts iss
      → Interactive older part taken acked len → 0 < len → (h : SendsNext a (met (Some s) None) older) → h.segment ≡ s →
      let reported : After = m.acked numbers part len in
      let delivered : After = delivers_text m reported.numbers reported.part s.text in
      on_segment m (conn_at Established taken iss acked len age part) numbers s ≡ leaves (conn_at Established (taken + length s.text) iss
      (acked + len) 0 0 delivered.part) delivered.numbers (Step.Ask (has_text s))
  reported_row numbers taken iss acked len age part s older k t l h same =
      let c : Connection = conn_at Established taken iss acked len age part in
      let reported : After = m.acked numbers part len in
      let placed : s.seq ≡ rcv_nxt c = ap (λ t. t.seq) (sym same) ∙ h.seq ∙ ap (λ n. wrap (a.irs + 1 + n)) (sym t.is_taken) in
      let is : is_acked c s ≡ true = all_acked iss acked len (1 + length (has_of a.iss older)) c s k refl refl refl l
      (let z = has_length older part taken acked len t in let y = t.is_acked in omega (arith, z, y)) (ap (λ t. has_ack t.flags) (sym same)
      ∙ h.acks) (acks_all s older h same) in
      taken_in m c numbers s (ap (λ t. has_rst t.flags) (sym same) ∙ h.rst) placed ∙ ap (λ y. by_state m Established y c numbers s) is
      ∙ row_of true reported.numbers taken iss (acked + len) 0 reported.part s (ap (λ t. has_fin t.flags) (sym same) ∙ h.fin)
      (subst (λ t. a.mss ≤ t.window) same h.window) refl

  waiting_row : (numbers : List ℕ) (taken iss acked age : ℕ) (part : AppState) (s : PlainSegment) (older : List Exchange)
      → Interactive older part taken acked 0 → 0 < length s.text → (h : SendsNext a (met (Some s) None) older) → h.segment ≡ s →
      let delivered : After = delivers_text m numbers part s.text in
      on_segment m (conn_at Established taken iss acked 0 age part) numbers s ≡ leaves (conn_at Established (taken + length s.text) iss
      acked 0 age delivered.part) delivered.numbers (Step.Ask (has_text s))
  waiting_row numbers taken iss acked age part s older t l h same =
      let c : Connection = conn_at Established taken iss acked 0 age part in
      let placed : s.seq ≡ rcv_nxt c = ap (λ t. t.seq) (sym same) ∙ h.seq ∙ ap (λ n. wrap (a.irs + 1 + n)) (sym t.is_taken) in
      taken_in m c numbers s (ap (λ t. has_rst t.flags) (sym same) ∙ h.rst) placed ∙ ap (λ y. by_state m Established y c numbers s) (and_no (has_ack s.flags))
      ∙ row_of false numbers taken iss acked age part s (ap (λ t. has_fin t.flags) (sym same) ∙ h.fin)
      (subst (λ t. a.mss ≤ t.window) same h.window) (ap (λ y. not y) (ltb-yes (length s.text) l))

  abbrev Answered : ℕ → (Connection → Now) → Connection → List ℕ → PlainSegment → List Exchange → Type 0
  Answered polls at c numbers s older = (let r : Outcome = asked m at (on_segment m c numbers s) in
      Next polls (met (Some s) (segment_of m r.connection r.step) ∷ older) r.connection)

  some_text : (s : PlainSegment) (older : List Exchange) → (h : SendsNext a (met (Some s) None) older) → h.segment ≡ s
      → awaits_ack older ≡ false → 0 < length s.text
  some_text s older h same none = elim (zero_or_more (length s.text)) [
    | inl z ↦ absurd (let e : awaits_ack older ≡ true = h.some (ap (λ t. t.text) same ∙ nil_of s.text z) in cc)
    | inr l ↦ l
  ]

  text_not_bare : (s : PlainSegment) (older : List Exchange) → 0 < length s.text → bare_acks (met (Some s) None ∷ older) ≡ bare_acks older
  text_not_bare s older l = ap (λ b. if b then bare_acks older + 1 else bare_acks older) (let z : (length s.text == 0) ≡ false = not_zero
      (length s.text) l in ap (λ b. has_ack s.flags && b) z ∙ and_no (has_ack s.flags))

  pub answered : (polls : ℕ) → polls ≤ patience → (at : Connection → Now) (numbers : List ℕ) (s : PlainSegment) (older : List Exchange)
      (c : Connection) → (h : SendsNext a (met (Some s) None) older) → h.segment ≡ s → Snapshots at (on_segment m c numbers s) → Stage polls older c →
      Answered polls at c numbers s older
  answered polls l at numbers s older c h same snapshots stage = elim stage [
    | at_syn iss age part k e syn y ↦
        (let d : Connection = conn_at SynRcvd 0 iss 0 1 age part in
        let start : After = m.connected numbers p.own_port.0 in
        let begins = answering.starts polls l numbers in
        let opens = lawful.connected numbers in
        subst (λ (z : Connection). Answered polls at z numbers s older) (sym e)
        (asked_after polls l at s older (on_segment m d numbers s) start.numbers 0 iss (0 + 1) 0 texts start.part k prefix
        record {
          at_port = opens.at_port;
          input = opens.input ∙ sym syn.received;
          is_taken = ap length (sym syn.received);
          is_acked = ap (λ n. 1 + n) (sym opens.acked);
          fits = (let z = opens.acked in omega (arith, z));
          has = syn.has ∙ ap (λ n. take n (page start.part)) (sym opens.acked);
        }
        (bare_more s older texts (let z = syn.none in omega (arith, z))) begins.0 begins.1 (first_row numbers iss age part s older k syn h
        same) (subst (λ (z : Connection). Snapshots at (on_segment m z numbers s)) e snapshots)))
    | reported taken iss acked len age most part k e t w b early ↦
        (let d : Connection = conn_at Established taken iss acked len age part in
        let reported_it : After = m.acked numbers part len in
        let moves = lawful.acked numbers part len t.at_port in
        let fewer : ℕ = left reported_it.part in
        let page_same : page reported_it.part ≡ page part = ap (λ z. pages.page z reported_it.part.snapshots) moves.input
        ∙ ap (λ z. pages.page part.input z) moves.snapshots in
        let moved : reported_it.part.acked ≡ part.acked + len = moves.acked in
        subst (λ (z : Connection). Answered polls at z numbers s older) (sym e)
        (asked_after polls l at s older (on_segment m d numbers s) reported_it.numbers taken iss (acked + len) 0 fewer reported_it.part k prefix
        record {
          at_port = moves.at_port;
          input = moves.input ∙ t.input;
          is_taken = t.is_taken;
          is_acked = (let z = t.is_acked in omega (arith, z, moved));
          fits = (let z = t.fits in let y = ap length page_same in omega (arith, z, moved, y));
          has = t.has ∙ ap (λ n. take n (page part)) (sym moved) ∙ ap (λ z. take reported_it.part.acked z) (sym page_same);
        }
        (bare_more s older fewer (let z = (w.next numbers).1 in omega (arith, z, b))) (w.next numbers).0 (omega arith)
        (reported_row numbers taken iss acked len age part s older k t w.some h same)
        (subst (λ (z : Connection). Snapshots at (on_segment m z numbers s)) e snapshots)))
    | waits taken iss acked age most part k e t n r b ↦
        (let d : Connection = conn_at Established taken iss acked 0 age part in
        let some : 0 < length s.text = some_text s older h same n in
        subst (λ (z : Connection). Answered polls at z numbers s older) (sym e)
        (asked_after polls l at s older (on_segment m d numbers s) numbers taken iss acked age most part k prefix
        record {
          at_port = t.at_port;
          input = t.input;
          is_taken = t.is_taken;
          is_acked = t.is_acked;
          fits = (let z = t.fits in omega (arith, z));
          has = t.has ∙ ap (λ n. take n (page part)) (let z : part.acked + 0 ≡ part.acked = omega arith in z);
        }
        (let z = text_not_bare s older some in omega (arith, z, b)) r.good r.few (waiting_row numbers taken iss acked age part s older t
        some h same) (subst (λ (z : Connection). Snapshots at (on_segment m z numbers s)) e snapshots)))
  ]
    where
      prefix : IsPrefixOf (text_received older ++ s.text) a.request
      prefix = subst (λ t. IsPrefixOf (text_received older ++ t.text) a.request) same h.part

  -- ---- a call of the slot

  -- the connection is not given up
  abbrev Keeps : (Connection → Now) → Connection → List ℕ → Type 0
  Keeps at c numbers = (let r : Outcome = asked m at (on_tick m c numbers) in (u : PlainSegment) → segment_of m r.connection r.step ≡ Some u
      → has_rst u.flags ≡ false)

  -- the SYN is sent again
  limit_stays : (incarnation : List Exchange) (output : Option PlainSegment) → retransmission_limit incarnation ≤ 5
      → retransmission_limit (met None output ∷ incarnation) ≤ 5
  limit_stays [] output h = h
  limit_stays (x ∷ older) output h = h

  syn_again : (incarnation : List Exchange) (d : Connection) → AtSyn incarnation → AtSyn (met None (Some (syn_ack d)) ∷ incarnation)
  syn_again incarnation d h = record {
    limit = limit_stays incarnation (Some (syn_ack d)) h.limit;
    received = append_nothing (text_received incarnation) ∙ h.received;
    none = h.none;
    has = has_on a.iss (met None (Some (syn_ack d))) incarnation ∙ nothing_more a.iss (has_of a.iss incarnation) (syn_ack d) refl ∙ h.has;
  }

  -- text is sent again, and the receiver lets it go
  text_again : (incarnation : List Exchange) (taken iss acked len age : ℕ) (part : AppState) → Counts iss → All IsSnapshot part.snapshots
      → 0 < len → Interactive incarnation part taken acked len →
      Interactive (met None (Some (text_segment m (conn_at Established taken iss acked len age part))) ∷ incarnation) part taken acked len
  text_again incarnation taken iss acked len age part k snapshots some h =
      let t : PlainSegment = text_segment m (conn_at Established taken iss acked len age part) in
      let got : List ℕ = has_of a.iss incarnation in
      let own : length got ≡ part.acked + len = has_length incarnation part taken acked len h in
      let few : length (page part) < 1073741824 = lawful.short part.input part.snapshots snapshots in
      let passed : t.seq ≡ wrap (a.iss + 1 + length got) → ⊥ =
      λ e. (let f = h.fits in let i = h.is_acked in
      let same : acked ≡ 1 + length got = same_place a.iss acked (1 + length got) (omega (arith, f, i, few)) (omega (arith, f, own, few))
      (sym (k acked) ∙ e ∙ ap wrap (let z : a.iss + 1 + length got ≡ a.iss + (1 + length got) = omega arith in z)) in
      omega (arith, same, own, i, some)) in
      session_kept_still incarnation (Some t) part taken acked len (has_on a.iss (met None (Some t)) incarnation ∙ lets_go a.iss got t passed) h

  syn_beat : (polls : ℕ) (at : Connection → Now) (b : Beat) (iss age : ℕ) (part : AppState) (numbers : List ℕ) (older : List Exchange)
      → Counts iss → AtSyn older → Timed 5 older age → beat_at 5 (age + 1) ≡ b →
      let c : Connection = conn_at SynRcvd 0 iss 0 1 age part in let r : Outcome = asked m at (by_beat m b c numbers) in
      ((u : PlainSegment) → segment_of m r.connection r.step ≡ Some u → has_rst u.flags ≡ false)
      → Next polls (met None (segment_of m r.connection r.step) ∷ older) r.connection
  syn_beat polls at Beat.Wait iss age part numbers older k syn y q h = goes_on_so refl (at_syn iss (age + 1) part k refl (syn_quiet older syn)
      (timed_waits 5 older age (inl refl) y q))
  syn_beat polls at Beat.Again iss age part numbers older k syn y q h = goes_on_so refl (at_syn iss (age + 1) part k refl
      (syn_again older (conn_at SynRcvd 0 iss 0 1 (age + 1) part) syn) (timed_again 5 (syn_ack (conn_at SynRcvd 0 iss 0 1 (age + 1) part))
      older age (inl refl) refl y))
  syn_beat polls at Beat.GiveUp iss age part numbers older k syn y q h = absurd (let c : Connection = conn_at SynRcvd 0 iss 0 1 age part in
      let z = h (reset_of (closes c)) refl in cc)

  text_beat : (polls : ℕ) (at : Connection → Now) (b : Beat) (taken iss acked len age most : ℕ) (part : AppState) (numbers : List ℕ)
      (older : List Exchange) → Counts iss → All IsSnapshot part.snapshots → Interactive older part taken acked len
      → Awaits polls part len most → bare_acks older + most ≤ texts + 1 → Timed 8 older age → beat_at 8 (age + 1) ≡ b →
      let c : Connection = conn_at Established taken iss acked len age part in let r : Outcome = asked m at (by_beat m b c numbers) in
      ((u : PlainSegment) → segment_of m r.connection r.step ≡ Some u → has_rst u.flags ≡ false)
      → Next polls (met None (segment_of m r.connection r.step) ∷ older) r.connection
  text_beat polls at Beat.Wait taken iss acked len age most part numbers older k snapshots t w bound y q h = goes_on_so refl (reported taken
      iss acked len (age + 1) most part k refl (session_kept_quiet older part taken acked len t) w bound (timed_waits 8 older age (inr refl)
      y q))
  text_beat polls at Beat.Again taken iss acked len age most part numbers older k snapshots t w bound y q h = goes_on_so refl (reported taken
      iss acked len (age + 1) most part k refl (text_again older taken iss acked len (age + 1) part k snapshots w.some t) w bound
      (timed_again 8 (text_segment m (conn_at Established taken iss acked len (age + 1) part)) older age (inr refl)
      (text_placed taken iss acked len (age + 1) part t.at_port w.some t.fits) y))
  text_beat polls at Beat.GiveUp taken iss acked len age most part numbers older k snapshots t w bound y q h = absurd
      (let c : Connection = conn_at Established taken iss acked len age part in let z = h (reset_of (closes c)) refl in cc)

  -- what a call leaves: the polls so far
  pub record Polled (polls : ℕ) (incarnation : List Exchange) (c : Connection) : Type 0 where
    pub now : ℕ
    pub least : now ≤ polls + 1
    pub most : now ≤ patience
    pub next : Next now incarnation c

  -- the application is polled, and asked
  polled_waits : (polls : ℕ) (at : Connection → Now) (older : List Exchange) (numbers : List ℕ) (taken iss acked age most : ℕ)
      (part : AppState) → suc polls ≤ patience → Counts iss → Interactive older part taken acked 0 → awaits_ack older ≡ false
      → Rests polls part most → bare_acks older + most ≤ texts + 1 →
      (let c : Connection = conn_at Established taken iss acked 0 age part in Snapshots at (on_tick m c numbers) →
      (let r : Outcome = asked m at (on_tick m c numbers) in Polled polls (met None (segment_of m r.connection r.step) ∷ older) r.connection))
  unfolding ticks_established
  polled_waits polls at older numbers taken iss acked age most part l k t n r b snapshots =
      let delivered : After = m.polled numbers part in
      let d : Connection = conn_at Established taken iss acked 0 age delivered.part in
      let alike = lawful.polled numbers part t.at_port in
      let still : delivered.part.acked ≡ part.acked = alike.acked ∙ (let z : part.acked + 0 ≡ part.acked = omega arith in z) in
      let f = answering.waits polls numbers part l t.at_port r.good in
      let same : page delivered.part ≡ page part = ap (λ z. pages.page z delivered.part.snapshots) alike.input
      ∙ ap (λ z. pages.page part.input z) alike.snapshots in
      let none : text_received older ++ [] ≡ text_received older = append_nothing (text_received older) in
      let ready : Ready None older delivered.part taken acked most = record {
        at_port = alike.at_port;
        input = alike.input ∙ t.input ∙ sym none;
        is_taken = t.is_taken ∙ ap length (sym none);
        asked = subst (λ z. IsPrefixOf z a.request) (sym none) t.asked;
        is_acked = t.is_acked ∙ ap (λ j. 1 + j) (sym still);
        fits = (let z = t.fits in let y = ap length same in omega (arith, z, y, still));
        has = t.has ∙ ap (λ j. take j (page part)) (let z : part.acked + 0 ≡ delivered.part.acked = omega (arith, still) in z)
            ∙ ap (λ z. take delivered.part.acked z) (sym same);
        bound = b;
      } in
      record {
        now = suc polls;
        least = omega arith;
        most = l;
        next = asks (suc polls) l None older false delivered.numbers (at d) taken iss acked age most delivered.part snapshots.fit.numbers
            snapshots.is (snapshots.rows d refl) k ready f.0 (let z = r.few in let y = f.1 in omega (arith, z, y)) snapshots.fit.conn.snapshots n;
      }

  pub called : (polls : ℕ) → polls ≤ patience → (at : Connection → Now) (numbers : List ℕ) (older : List Exchange) (c : Connection)
      → ((c.state ≡ SynRcvd → ⊥) → (text_received older ≡ a.request → ⊥) → polls < patience) → All IsSnapshot c.part.snapshots
      → Snapshots at (on_tick m c numbers) → (0 < c.len → Keeps at c numbers) → Stage polls older c →
      (let r : Outcome = asked m at (on_tick m c numbers) in Polled polls (met None (segment_of m r.connection r.step) ∷ older) r.connection)
  unfolding ticks_established
  called polls l at numbers older c room_left captures snapshots keeps stage = elim stage [
    | at_syn iss age part k e syn y ↦
        (let d : Connection = conn_at SynRcvd 0 iss 0 1 age part in
        let now : Keeps at d numbers = subst (λ (z : Connection). Keeps at z numbers) e
        (keeps (let z = ap (λ (v : Connection). v.len) e in omega (arith, z))) in
        subst (λ (z : Connection). (let r : Outcome = asked m at (on_tick m z numbers) in
        Polled polls (met None (segment_of m r.connection r.step) ∷ older) r.connection)) (sym e)
        record {
          now = polls;
          least = omega arith;
          most = l;
          next = syn_beat polls at (beat_at (limit_of SynRcvd) (age + 1)) iss age part numbers older k syn y refl now;
        })
    | reported taken iss acked len age most part k e t w b y ↦
        (let d : Connection = conn_at Established taken iss acked len age part in
        let now : Keeps at d numbers = subst (λ (z : Connection). Keeps at z numbers) e
        (keeps (let z = ap (λ (v : Connection). v.len) e in let s = w.some in omega (arith, z, s))) in
        let beat : Beat = beat_at (limit_of Established) (age + 1) in
        let ticks : on_tick m d numbers ≡ by_beat m beat d numbers = ap (λ (y : Bool). if y then by_beat m beat d numbers else polled_by m d
        numbers) (ltb-yes len w.some) in
        let still = subst (λ (y : Outcome). (let r : Outcome = asked m at y in (u : PlainSegment) → segment_of m r.connection r.step
        ≡ Some u → has_rst u.flags ≡ false)) ticks now in
        subst (λ (z : Connection). (let r : Outcome = asked m at (on_tick m z numbers) in
        Polled polls (met None (segment_of m r.connection r.step) ∷ older) r.connection)) (sym e)
        (subst (λ (y : Outcome). (let r : Outcome = asked m at y in Polled polls (met None (segment_of m r.connection r.step) ∷ older)
        r.connection)) (sym ticks)
        record {
          now = polls;
          least = omega arith;
          most = l;
          next = text_beat polls at beat taken iss acked len age most part numbers older k
              (subst (λ (z : Connection). All IsSnapshot z.part.snapshots) e captures) t w b y refl still;
        }))
    | waits taken iss acked age most part k e t n r b ↦
        (let left_some : polls < patience = room_left (λ s. (let z : Established ≡ SynRcvd = sym (ap (λ (v : Connection). v.state) e) ∙ s in
        cc)) (λ z. r.more (t.input ∙ z)) in
        subst (λ (z : Connection). (let r : Outcome = asked m at (on_tick m z numbers) in
        Polled polls (met None (segment_of m r.connection r.step) ∷ older) r.connection)) (sym e)
        (polled_waits polls at older numbers taken iss acked age most part (omega (arith, left_some)) k t n r b
        (subst (λ (z : Connection). Snapshots at (on_tick m z numbers)) e snapshots)))
  ]

  -- ---- before the last retransmission the connection is not given up

  beat_keeps : (at : Connection → Now) (b : Beat) (state : State) (taken iss acked len age : ℕ) (part : AppState) (numbers : List ℕ)
      → (state ≡ SynRcvd) ⊎ (state ≡ Established) → (b ≡ Beat.GiveUp → ⊥) →
      (let r : Outcome = asked m at (by_beat m b (conn_at state taken iss acked len age part) numbers) in (u : PlainSegment)
      → segment_of m r.connection r.step ≡ Some u → has_rst u.flags ≡ false)
  beat_keeps at Beat.Wait state taken iss acked len age part numbers is goes u e = absurd (cc)
  beat_keeps at Beat.Again SynRcvd taken iss acked len age part numbers is goes u e = only_some (λ x. has_rst x.flags ≡ false)
      (syn_ack (conn_at SynRcvd taken iss acked len (age + 1) part)) u e refl
  beat_keeps at Beat.Again Established taken iss acked len age part numbers is goes u e = only_some (λ x. has_rst x.flags ≡ false)
      (text_segment m (conn_at Established taken iss acked len (age + 1) part)) u e refl
  beat_keeps at Beat.Again state taken iss acked len age part numbers is goes u e = absurd (elim is [ inl q ↦ cc | inr q ↦ cc ])
  beat_keeps at Beat.GiveUp state taken iss acked len age part numbers is goes u e = absurd (goes refl)

  pub keeps_in_time : (polls : ℕ) (at : Connection → Now) (numbers : List ℕ) (older : List Exchange) (c : Connection)
      → retransmissions older < retransmission_limit older → 0 < c.len → Stage polls older c → Keeps at c numbers
  unfolding ticks_established
  keeps_in_time polls at numbers older c few some stage = elim stage [
    | at_syn iss age part k e syn y ↦
        subst (λ (z : Connection). Keeps at z numbers) (sym e)
        (beat_keeps at (beat_at 5 (age + 1)) SynRcvd 0 iss 0 1 age part numbers (inl refl)
        (goes_on_in_time 5 older age (inl refl) (let l = syn.limit in omega (arith, few, l)) y))
    | reported taken iss acked len age most part k e t w b y ↦
        (let d : Connection = conn_at Established taken iss acked len age part in
        let beat : Beat = beat_at (limit_of Established) (age + 1) in
        let ticks : on_tick m d numbers ≡ by_beat m beat d numbers = ap (λ (y : Bool). if y then by_beat m beat d numbers else polled_by m d
        numbers) (ltb-yes len w.some) in
        subst (λ (z : Connection). Keeps at z numbers) (sym e)
        (subst (λ (y : Outcome). (let r : Outcome = asked m at y in (u : PlainSegment) → segment_of m r.connection r.step ≡ Some u
        → has_rst u.flags ≡ false)) (sym ticks)
        (beat_keeps at beat Established taken iss acked len age part numbers (inr refl)
        (goes_on_in_time 8 older age (inr refl) (let l = limit_low older in omega (arith, few, l)) y))))
    | waits taken iss acked age most part k e t n r b ↦ absurd (let z = ap (λ (v : Connection). v.len) e in omega (arith, z, some))
  ]

  -- ---- while the SYN-ACK awaits its acknowledgement

  no_syn : {P : Type 0} (c d : Connection) → c ≡ d → d.state ≡ Established → c.state ≡ SynRcvd → P
  no_syn c d e f s = absurd (let z : Established ≡ SynRcvd = sym f ∙ sym (ap (λ (v : Connection). v.state) e) ∙ s in cc)

  beat_state : (at : Connection → Now) (b : Beat) (iss age : ℕ) (part : AppState) (numbers : List ℕ) →
      (let r : Outcome = asked m at (by_beat m b (conn_at SynRcvd 0 iss 0 1 age part) numbers) in (u : PlainSegment)
      → segment_of m r.connection r.step ≡ Some u → has_rst u.flags ≡ false) →
      (asked m at (by_beat m b (conn_at SynRcvd 0 iss 0 1 age part) numbers)).connection.state ≡ SynRcvd
  beat_state at Beat.Wait iss age part numbers h = refl
  beat_state at Beat.Again iss age part numbers h = refl
  beat_state at Beat.GiveUp iss age part numbers h = absurd (let c : Connection = conn_at SynRcvd 0 iss 0 1 age part in
      let z = h (reset_of (closes c)) refl in cc)

  pub syn_stays : (polls : ℕ) (at : Connection → Now) (numbers : List ℕ) (older : List Exchange) (c : Connection) → c.state ≡ SynRcvd
      → Keeps at c numbers → Stage polls older c → (asked m at (on_tick m c numbers)).connection.state ≡ SynRcvd
  syn_stays polls at numbers older c s keeps stage = elim stage [
    | at_syn iss age part k e syn y ↦ subst (λ (z : Connection). (asked m at (on_tick m z numbers)).connection.state ≡ SynRcvd) (sym e)
        (beat_state at (beat_at 5 (age + 1)) iss age part numbers (subst (λ (z : Connection). Keeps at z numbers) e keeps))
    | reported taken iss acked len age most part k e t w b y ↦ no_syn c _ e refl s
    | waits taken iss acked age most part k e t n r b ↦ no_syn c _ e refl s
  ]

  -- there the number of polls is of no account, the SYN-ACK is outstanding, and so it shows in the exchanges
  pub stage_at : (polls other : ℕ) (incarnation : List Exchange) (c : Connection) → c.state ≡ SynRcvd → Stage polls incarnation c → Stage other incarnation c
  stage_at polls other incarnation c s stage = elim stage [
    | at_syn iss age part k e syn y ↦ at_syn iss age part k e syn y
    | reported taken iss acked len age most part k e t w b y ↦ no_syn c _ e refl s
    | waits taken iss acked age most part k e t n r b ↦ no_syn c _ e refl s
  ]

  pub syn_out : (polls : ℕ) (incarnation : List Exchange) (c : Connection) → c.state ≡ SynRcvd → Stage polls incarnation c → (0 < c.len)
      × (awaits_ack incarnation ≡ true)
  syn_out polls incarnation c s stage = elim stage [
    | at_syn iss age part k e syn y ↦ (let z = ap (λ (v : Connection). v.len) e in omega (arith, z), y.awaits)
    | reported taken iss acked len age most part k e t w b y ↦ no_syn c _ e refl s
    | waits taken iss acked age most part k e t n r b ↦ no_syn c _ e refl s
  ]

  -- ---- a stale segment changes nothing

  -- what the node does with it: a bare ACK, or nothing
  pub data Discards (c : Connection) (numbers : List ℕ) (o : Outcome) : Type 0 where
    with_ack : o ≡ leaves c numbers Step.Ack → Discards c numbers o
    silently : o ≡ leaves c numbers Step.Drop → Discards c numbers o

  still_row : (numbers : List ℕ) (taken iss acked len age : ℕ) (part : AppState) (s : PlainSegment) → has_fin s.flags ≡ false → s.text ≡ [] → a.mss ≤ s.window →
      in_established m false (conn_at Established taken iss acked len age part) numbers s
      ≡ leaves (conn_at Established taken iss acked len age part) numbers Step.Drop
  unfolding in_established stays_established
  still_row numbers taken iss acked len age part s f none w =
      let c : Connection = conn_at Established taken iss acked len age part in
      let delivered : After = delivers_text m numbers part s.text in
      let d : Connection = conn_at Established (taken + length s.text) iss acked len age delivered.part in
      let silent : not (has_text s) ≡ true = ap (λ (t : List ℕ). not (ltb 0 (length t))) none in
      ap (λ b. if b then peer_closes m c numbers s else stays_established m false c numbers s) f
      ∙ ap (λ b. if b then leaves (with_window s.window d) delivered.numbers Step.Drop else
      (if ltb 0 len then leaves (with_window s.window d) delivered.numbers Step.Ack else leaves (with_window s.window d) delivered.numbers
      (Step.Ask (has_text s)))) silent
      ∙ ap (λ n. leaves (record d { mss = n }) delivered.numbers Step.Drop) (window_same s.window w)
      ∙ ap (λ (t : List ℕ). leaves (conn_at Established (taken + length t) iss acked len age (delivers_text m numbers part t).part)
      (delivers_text m numbers part t).numbers Step.Drop) none
      ∙ ap (λ n. leaves (conn_at Established n iss acked len age part) numbers Step.Drop) (let z : taken + 0 ≡ taken = omega arith in z)

  out_of_order_row : (c : Connection) (numbers : List ℕ) (s : PlainSegment) → has_rst s.flags ≡ false → is_out_of_order c s ≡ true
      → on_segment m c numbers s ≡ leaves c numbers Step.Ack
  unfolding on_segment
  out_of_order_row c numbers s r h =
      ap (λ b. if b then leaves (closes c) (reported_end m Reset c.state c.part numbers) Step.Drop else
      (if is_out_of_order c s then leaves c numbers Step.Ack else by_state m c.state (is_acked c s) c numbers s)) r
      ∙ ap (λ b. if b then leaves c numbers Step.Ack else by_state m c.state (is_acked c s) c numbers s) h

  unplaced_row : (c : Connection) (numbers : List ℕ) (s : PlainSegment) → has_rst s.flags ≡ false → occupies_sequence_space s ≡ false
      → on_segment m c numbers s ≡ by_state m c.state (is_acked c s) c numbers s
  unfolding on_segment
  unplaced_row c numbers s r h =
      ap (λ b. if b then leaves (closes c) (reported_end m Reset c.state c.part numbers) Step.Drop else
      (if is_out_of_order c s then leaves c numbers Step.Ack else by_state m c.state (is_acked c s) c numbers s)) r
      ∙ ap (λ b. if b && not (s.seq == rcv_nxt c) then leaves c numbers Step.Ack else by_state m c.state (is_acked c s) c numbers s) h

  -- a segment that acknowledges nothing new, at the number that the node awaits
  not_new : (c : Connection) (s : PlainSegment) (older : List Exchange) → awaits_ack older ≡ true → wrap (snd_una c + c.len) ≡ sent_next a
      older → not (acknowledges_new a older s) ≡ true → is_acked c s ≡ false
  not_new c s older w e h =
      let old : acknowledges_new a older s ≡ false = not-true (acknowledges_new a older s) h in
      let same : has_ack s.flags && (s.ack == sent_next a older) ≡ false = ap (λ b. has_ack s.flags && (b && (s.ack == sent_next a older))) (sym w) ∙ old in
      ack_test (has_ack s.flags) (ltb 0 c.len) (s.ack == wrap (snd_una c + c.len)) (ap (λ n. has_ack s.flags && (s.ack == n)) e ∙ same)

  -- what the connection has received and sent is what these exchanges show
  pub expects : (polls : ℕ) (older : List Exchange) (c : Connection) → Stage polls older c → rcv_nxt c ≡ expected_next a older
  expects polls older c stage = elim stage [
    | at_syn iss age part k e syn y ↦ ap rcv_nxt e ∙ ap (λ (t : List ℕ). wrap (a.irs + 1 + length t)) (sym syn.received)
    | reported taken iss acked len age most part k e t w b y ↦ ap rcv_nxt e ∙ ap (λ n. wrap (a.irs + 1 + n)) t.is_taken
    | waits taken iss acked age most part k e t n r b ↦ ap rcv_nxt e ∙ ap (λ n. wrap (a.irs + 1 + n)) t.is_taken
  ]

  sent_is : (taken iss acked len age : ℕ) (part : AppState) (older : List Exchange) → Counts iss → Interactive older part taken acked len
      → wrap (iss + acked + len) ≡ sent_next a older
  sent_is taken iss acked len age part older k t =
      ap wrap (let z : iss + acked + len ≡ iss + (acked + len) = omega arith in z) ∙ k (acked + len)
      ∙ ap wrap (let z = has_length older part taken acked len t in let i = t.is_acked in let q : a.iss + (acked + len)
      ≡ a.iss + 1 + length (has_of a.iss older) = omega (arith, z, i) in q)

  pub has_sent : (polls : ℕ) (older : List Exchange) (c : Connection) → Stage polls older c → wrap (snd_una c + c.len) ≡ sent_next a older
  has_sent polls older c stage = elim stage [
    | at_syn iss age part k e syn y ↦ ap (λ (z : Connection). wrap (snd_una z + z.len)) e
        ∙ wrap_wrap (iss + 0) 1 ∙ ap wrap (let z : iss + 0 + 1 ≡ iss + 1 = omega arith in z) ∙ k 1
        ∙ ap wrap (let z = ap length syn.has in let q : a.iss + 1 ≡ a.iss + 1 + length (has_of a.iss older) = omega (arith, z) in q)
    | reported taken iss acked len age most part k e t w b y ↦ ap (λ (z : Connection). wrap (snd_una z + z.len)) e
        ∙ wrap_wrap (iss + acked) len ∙ sent_is taken iss acked len age part older k t
    | waits taken iss acked age most part k e t n r b ↦ ap (λ (z : Connection). wrap (snd_una z + z.len)) e
        ∙ wrap_wrap (iss + acked) 0 ∙ sent_is taken iss acked 0 age part older k t
  ]

  -- no more is outstanding than a segment
  pub few_out : (polls : ℕ) (older : List Exchange) (c : Connection) → Stage polls older c → c.len ≤ a.mss
  few_out polls older c stage = elim stage [
    | at_syn iss age part k e syn y ↦ (let z = ap (λ (v : Connection). v.len) e in omega (arith, z, room))
    | reported taken iss acked len age most part k e t w b y ↦ (let z = ap (λ (v : Connection). v.len) e in let l = w.short in omega (arith, z, l))
    | waits taken iss acked age most part k e t n r b ↦ (let z = ap (λ (v : Connection). v.len) e in omega (arith, z))
  ]

  pub discards : (polls : ℕ) (numbers : List ℕ) (s : PlainSegment) (older : List Exchange) (c : Connection) → has_rst s.flags ≡ false
      → is_stale a older s ≡ true → (occupies_sequence_space s ≡ false → a.mss ≤ s.window) → Stage polls older c → Discards c numbers (on_segment m c numbers s)
  discards polls numbers s older c r stale window stage = both_ways (occupies_sequence_space s)
      (λ occ. with_ack (out_of_order_row c numbers s r
      (let n : not (s.seq == expected_next a older) ≡ true = ap (λ b. if b then not (s.seq == expected_next a older) else not
      (acknowledges_new a older s)) (sym occ) ∙ stale in
      ap (λ b. b && not (s.seq == rcv_nxt c)) occ ∙ ap (λ k. not (s.seq == k)) (expects polls older c stage) ∙ n)))
      (λ occ. silently (let n : not (acknowledges_new a older s) ≡ true = ap (λ b. if b then not (s.seq == expected_next a older) else not
      (acknowledges_new a older s)) (sym occ) ∙ stale in
      unplaced_row c numbers s r occ ∙ old_row polls numbers s older c n occ (window occ) stage))
    where
      old_row : (polls : ℕ) (numbers : List ℕ) (s : PlainSegment) (older : List Exchange) (c : Connection)
          → not (acknowledges_new a older s) ≡ true → occupies_sequence_space s ≡ false → a.mss ≤ s.window → Stage polls older c →
          by_state m c.state (is_acked c s) c numbers s ≡ leaves c numbers Step.Drop
      old_row polls numbers s older c n occ w stage =
          let parts = both_no (ltb 0 (length s.text)) (has_syn s.flags || has_fin s.flags) occ in
          let none : s.text ≡ [] = nil_of s.text (ltb-zero (length s.text) parts.0) in
          let fin : has_fin s.flags ≡ false = (both_no (has_syn s.flags) (has_fin s.flags) parts.1).1 in
          let sent = has_sent polls older c stage in
          elim stage [
            | at_syn iss age part k e syn y ↦
                (let d : Connection = conn_at SynRcvd 0 iss 0 1 age part in
                let at : wrap (snd_una d + 1) ≡ sent_next a older = subst (λ (z : Connection). wrap (snd_una z + z.len) ≡ sent_next a older) e sent in
                subst (λ (z : Connection). by_state m z.state (is_acked z s) z numbers s ≡ leaves z numbers Step.Drop) (sym e)
                (ap (λ b. by_state m SynRcvd b d numbers s) (not_new d s older y.awaits at n)))
            | reported taken iss acked len age most part k e t w' b y ↦
                (let d : Connection = conn_at Established taken iss acked len age part in
                let at : wrap (snd_una d + len) ≡ sent_next a older = subst (λ (z : Connection). wrap (snd_una z + z.len) ≡ sent_next a older) e sent in
                subst (λ (z : Connection). by_state m z.state (is_acked z s) z numbers s ≡ leaves z numbers Step.Drop) (sym e)
                (ap (λ b. by_state m Established b d numbers s) (not_new d s older y.awaits at n) ∙ still_row numbers taken iss acked len
                age part s fin none w))
            | waits taken iss acked age most part k e t n r b ↦
                (let d : Connection = conn_at Established taken iss acked 0 age part in
                subst (λ (z : Connection). by_state m z.state (is_acked z s) z numbers s ≡ leaves z numbers Step.Drop) (sym e)
                (ap (λ b. by_state m Established b d numbers s) (and_no (has_ack s.flags)) ∙ still_row numbers taken iss acked 0 age part s fin none w))
          ]

  -- ---- what holds at each stage

  pub stage_serves : (polls : ℕ) (incarnation : List Exchange) (c : Connection) → Stage polls incarnation c → serves p c ≡ true
  stage_serves polls incarnation c h = elim h [
    | at_syn iss age part k e t y ↦ ap (serves p) e ∙ same_self p
    | reported taken iss acked len age most part k e t w b y ↦ ap (serves p) e ∙ same_self p
    | waits taken iss acked age most part k e t n r b ↦ ap (serves p) e ∙ same_self p
  ]

  pub stage_stays : (polls : ℕ) (incarnation : List Exchange) (c : Connection) → Stage polls incarnation c → is_time_wait c.state ≡ false
  stage_stays polls incarnation c h = elim h [
    | at_syn iss age part k e t y ↦ ap (λ z. is_time_wait z.state) e
    | reported taken iss acked len age most part k e t w b y ↦ ap (λ z. is_time_wait z.state) e
    | waits taken iss acked age most part k e t n r b ↦ ap (λ z. is_time_wait z.state) e
  ]

  -- ---- where it continues

  -- after the whole request the SYN or text awaits an acknowledgement, and no more than this number were received
  pub awaits_more : (polls : ℕ) (incarnation : List Exchange) (c : Connection) → text_received incarnation ≡ a.request
      → Stage polls incarnation c → (awaits_ack incarnation ≡ true) × (bare_acks incarnation ≤ texts)
  awaits_more polls incarnation c whole h = elim h [
    | at_syn iss age part k e t y ↦ (y.awaits, let z = t.none in omega (arith, z))
    | reported taken iss acked len age most part k e t w b y ↦ (y.awaits, let z = (w.next []).1 in omega (arith, z, b))
    | waits taken iss acked age most part k e t n r b ↦ absurd (r.more (t.input ∙ whole))
  ]
