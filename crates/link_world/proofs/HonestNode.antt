-- The node at the other end of a link that loses nothing: one connection, which sends at each segment of its client what the
-- application has to send next.
use Rattle.link_world.proofs.Prelude.{All, position_from, option_map, option_map_or, ◌≡◌, ℕ, zero, suc, ◌+◌, ◌<◌, ◌≤◌, min, Bool, true}
use Rattle.link_world.proofs.Prelude.{false, if◌then◌else◌, cond, not, ◌&&◌, ◌⊎◌, inl, inr, List, [], ◌∷◌, ◌++◌, length, take, drop}
use Rattle.link_world.proofs.Prelude.{replicate, refl, sym, ap, ◌∙◌, subst, arith, Option, Some, None, eqb, ltb, position, slice_get}
use Rattle.link_world.proofs.Prelude.{eq-eqb, cases_lt, take-append-drop, take_all, take-add, position_from-zero, wrap, Addr, FIN, PSH, ACK}
use Rattle.link_world.proofs.Prelude.{PlainSegment, has_fin, has_rst, has_ack, AppState, After, AppSpec, text_left, Pages, IsPaged, IsU32}
use Rattle.link_world.proofs.Prelude.{IsNow, MayWant, Now, Reset, State, SynRcvd, Established, FinWait1, FinWait2, TimeWait, Want, Nothing}
use Rattle.link_world.proofs.Prelude.{Send, Close, Abort, Sockets, Connection, closed, is_live, serves, same_sockets, snd_una, rcv_nxt}
use Rattle.link_world.proofs.Prelude.{occupies_sequence_space, segment_of, is_again, Outcome, leaves, closes, idles, does_as_wanted, ask}
use Rattle.link_world.proofs.Prelude.{asked, first_mss, reported_end, peer_closes, is_out_of_order, is_acked, has_text, delivers_text}
use Rattle.link_world.proofs.Prelude.{with_window, stays_established, in_established, fin_acked, by_state, on_segment, Step, Event}
use Rattle.link_world.proofs.Prelude.{HistoryEntry, Arrived, Silent, Spoke, TcpReply, ident_of, initial_number, AbstractNode, NodeStep}
use Rattle.link_world.proofs.Prelude.{initial_node, snapshot, slot_for_syn, opens, passes, refuses, gone_by, happened, opens_in}
use Rattle.link_world.proofs.Prelude.{for_no_connection, arrives_at, arrives, offered, syn_of, FinAt, Setup, GoesOnBy, AnswersIn, steady_of}
use Rattle.link_world.proofs.Prelude.{choose, both_ways, zero_or_more, ltb-yes, cut_length, wrap_wrap, same_self, FitConn, FitOut}
use Rattle.link_world.proofs.Prelude.{snapshot_fits, asked_fits, on_segment_fits, closed_fits, all_closed}
use Rattle.link_client.specs.declared.client_state.ClientState.TheVariants as Is
use Rattle.link_world.proofs.HonestClient.{client_at, node_sends, node_syn_ack, Brings, next_out}

pub mss_low : (o : Option ℕ) → 1 ≤ first_mss o
mss_low None = omega arith
mss_low (Some n) = choose (λ k. 1 ≤ k) (eqb n 0) _ _ (λ e. omega arith) (λ e. elim (zero_or_more n) [
  | inl z ↦ absurd (let t : eqb n 0 ≡ true = eq-eqb n 0 z in cc)
  | inr p ↦ omega arith
])

mss_high : (o : Option ℕ) → first_mss o ≤ 65535
mss_high None = omega arith
mss_high (Some n) = choose (λ k. k ≤ 65535) (eqb n 0) _ _ (λ e. omega arith) (λ e. omega arith)

least : (n : ℕ) → n ≤ 65535 → min n 65535 ≡ n
least n h = omega arith

pub and_no : (b : Bool) → b && false ≡ false
and_no true = refl
and_no false = refl

pub three : (a b c : Bool) → a ≡ true → b ≡ true → c ≡ true → a && (b && c) ≡ true
three true true c e f g = g
three true false c e f g = absurd (cc)
three false b c e f g = absurd (cc)

pub found_first : (p : Connection → Bool) (k : Connection) (rest : List Connection) → p k ≡ true → position p (k ∷ rest) ≡ Some 0
found_first p k rest e = position_from-zero p (k ∷ rest) ∙ ap (λ b. cond b (Some 0) (position_from p 1 rest)) e

module _ (m : AppSpec) (pages : Pages) (lawful : IsPaged m pages) (served : ℕ → Bool) (addr : Addr) (setup : Setup) (request : List ℕ) where
  abbrev pub mss : ℕ
  mss = first_mss (offered setup.mss)

  abbrev pub sockets : Sockets
  sockets = record { peer = setup.addr; peer_port = setup.port; own_port = setup.server_port }

  -- the client's connection, at some point of its life
  abbrev pub conn_at : State → ℕ → ℕ → ℕ → ℕ → AppState → Connection
  conn_at state taken iss acked len part = record {
    state = state;
    sockets = sockets;
    irs = setup.iss.0;
    taken = taken;
    iss = iss;
    acked = acked;
    len = len;
    initial_mss = mss;
    mss = mss;
    age = 0;
    part = part;
  }

  abbrev pub node_at : List ℕ → List HistoryEntry → Connection → AbstractNode
  node_at numbers history k = record { addr = addr; numbers = numbers; connections = k ∷ replicate 9 closed; history = history }

  -- an answer of a connection that lives on
  abbrev pub answers_with : List ℕ → List HistoryEntry → Connection → ℕ → Bool → PlainSegment → NodeStep
  answers_with numbers history k id again t = record { node = node_at numbers history k; sent = Some (TcpReply sockets id again t); gone = None }

  abbrev pub remembered : Event → Step → List HistoryEntry → List HistoryEntry
  remembered event step history = record { event = event; answer = Spoke (is_again step) } ∷ history

  pub answered : (old k : Connection) (before numbers : List ℕ) (history : List HistoryEntry) (event : Event) (step : Step) (t : PlainSegment) →
      k.sockets ≡ sockets → segment_of m k step ≡ Some t → is_live k.state ≡ true →
      happened m (node_at before history old) event 0 old (leaves k numbers step)
      ≡ answers_with numbers (remembered event step history) k (ident_of (remembered event step history)) (is_again step) t
  unfolding happened
  answered old k before numbers history event step t own e l =
      let step_with : Option PlainSegment → Sockets → Option Connection → NodeStep = λ output sk gone.
      (let now : List HistoryEntry = record { event = event; answer = option_map_or (λ s. Spoke (is_again step)) output Silent } ∷ history in
      record { node = node_at numbers now k; sent = option_map (λ s. TcpReply sk (ident_of now) (is_again step) s) output; gone = gone }) in
      ap (λ output. step_with output k.sockets (gone_by old k)) e
      ∙ ap (λ sk. step_with (Some t) sk (gone_by old k)) own
      ∙ ap (λ b. step_with (Some t) sockets (if is_live old.state && not b then Some k else None)) l
      ∙ ap (λ b. step_with (Some t) sockets (if b then Some k else None)) (and_no (is_live old.state))

  -- the client's SYN opens the connection
  pub record Opens (numbers : List ℕ) (r : NodeStep) : Type 0 where
    pub history : List HistoryEntry
    pub id : ℕ
    pub part : AppState
    pub none : part.snapshots ≡ []
    pub iss : ℕ
    pub is : r ≡ answers_with numbers history (conn_at SynRcvd 0 iss 0 1 part) id false (node_syn_ack setup request (wrap (iss + 0))
        (wrap (setup.iss.0 + 1 + 0)))

  abbrev syn : PlainSegment
  syn = syn_of (client_at setup request Is.Opening [] 0 0 FinAt.NotSent 0)

  pub opens_first : (numbers : List ℕ) → served setup.server_port.0 ≡ true → Opens numbers (arrives m served (initial_node addr numbers) sockets syn)
  unfolding for_no_connection opens_in happened
  opens_first numbers e =
      let n : AbstractNode = initial_node addr numbers in
      let now : List HistoryEntry = remembered (Arrived sockets syn) (Step.SynAck false) [] in
      record {
        history = now;
        id = ident_of now;
        part = record { port = setup.server_port.0; input = []; snapshots = []; acked = 0; polls = 0; own = 0 };
        none = refl;
        iss = initial_number [];
        is = ap (λ b. if b then opens m n sockets syn (slot_for_syn n.connections) else
            (if has_rst syn.flags then passes n (Arrived sockets syn) Silent else refuses n sockets syn)) e;
      }

  -- a segment at its number, and no RST, is handled by the row of the state
  pub taken_in : (c : Connection) (numbers : List ℕ) (s : PlainSegment) → has_rst s.flags ≡ false → (occupies_sequence_space s ≡ true → s.seq ≡ rcv_nxt c) →
      on_segment m c numbers s ≡ by_state m c.state (is_acked c s) c numbers s
  unfolding on_segment
  taken_in c numbers s r h =
      let in_order : is_out_of_order c s ≡ false = both_ways (occupies_sequence_space s)
      (λ e. ap (λ b. occupies_sequence_space s && not b) (eq-eqb s.seq (rcv_nxt c) (h e)) ∙ and_no (occupies_sequence_space s))
      (λ e. ap (λ b. b && not (eqb s.seq (rcv_nxt c))) e) in
      ap (λ b. if b then leaves (closes c) (reported_end m Reset c.state c.part numbers) Step.Drop else
      (if is_out_of_order c s then leaves c numbers Step.Ack else by_state m c.state (is_acked c s) c numbers s)) r
      ∙ ap (λ b. if b then leaves c numbers Step.Ack else by_state m c.state (is_acked c s) c numbers s) in_order

  -- a segment of the client is delivered to its connection
  comes_to : (state : State) (numbers : List ℕ) (history : List HistoryEntry) (taken iss acked len : ℕ) (p : AppState) (s : PlainSegment)
      → is_live state ≡ true →
      let k : Connection = conn_at state taken iss acked len p in
      let n : AbstractNode = node_at numbers history k in
      arrives m served n sockets s ≡ happened m n (Arrived sockets s) 0 k (asked m (snapshot n (Arrived sockets s) 0) (on_segment m k numbers s))
  comes_to state numbers history taken iss acked len p s l =
      let k : Connection = conn_at state taken iss acked len p in
      let n : AbstractNode = node_at numbers history k in
      let own : serves sockets k ≡ true = ap (λ b. b && same_sockets sockets sockets) l ∙ same_self sockets in
      ap (λ o. arrives_at m served n sockets s o) (found_first (serves sockets) k (replicate 9 closed) own)

  -- the part of the request that a segment brings
  abbrev brought : ℕ → List ℕ
  brought a = take (next_out setup request a) (drop a request)

  brought_length : (a : ℕ) → a ≤ length request → length (brought a) ≡ next_out setup request a
  brought_length a h = cut_length request a (next_out setup request a) (omega (arith, h))

  -- the first visit: it is the acknowledgement of the SYN
  first_visit : (numbers : List ℕ) (iss x : ℕ) (p : AppState) (s : PlainSegment) → Brings setup request 0 x s → x ≡ wrap (iss + 1) →
      let start : After = m.connected numbers setup.server_port.0 in
      let delivered : After = delivers_text m start.numbers start.part s.text in
      on_segment m (conn_at SynRcvd 0 iss 0 1 p) numbers s ≡ leaves (conn_at Established (0 + length s.text) iss (0 + 1) 0 delivered.part)
      delivered.numbers (Step.Ask (has_text s))
  first_visit numbers iss x p s b e =
      let c : Connection = conn_at SynRcvd 0 iss 0 1 p in
      let acked : is_acked c s ≡ true = three (has_ack s.flags) true (eqb s.ack (wrap (snd_una c + 1))) b.is_ack refl
      (eq-eqb s.ack (wrap (snd_una c + 1)) (b.ack ∙ e ∙ ap (λ k. wrap (k + 1)) (let z : iss ≡ iss + 0 = omega arith in z) ∙ sym (wrap_wrap (iss + 0) 1))) in
      taken_in c numbers s b.no_rst b.seq ∙ ap (λ y. by_state m SynRcvd y c numbers s) acked

  -- in ESTABLISHED what a segment brings is delivered, and the application is asked
  received_in_turn : (acked : Bool) (numbers : List ℕ) (taken iss at : ℕ) (p : AppState) (s : PlainSegment) → has_fin s.flags ≡ false
      → s.window ≡ 65535 → not acked && not (has_text s) ≡ false →
      let delivered : After = delivers_text m numbers p s.text in
      in_established m acked (conn_at Established taken iss at 0 p) numbers s ≡ leaves (conn_at Established (taken + length s.text) iss at 0
      delivered.part) delivered.numbers (Step.Ask (has_text s))
  unfolding in_established stays_established
  received_in_turn acked numbers taken iss at p s f w h =
      let c : Connection = conn_at Established taken iss at 0 p in
      let delivered : After = delivers_text m numbers p s.text in
      let d : Connection = conn_at Established (taken + length s.text) iss at 0 delivered.part in
      ap (λ b. if b then peer_closes m c numbers s else stays_established m acked c numbers s) f
      ∙ ap (λ b. if b then leaves (with_window s.window d) delivered.numbers Step.Drop else leaves (with_window s.window d)
      delivered.numbers (Step.Ask (has_text s))) h
      ∙ ap (λ n. leaves (with_window n d) delivered.numbers (Step.Ask (has_text s))) w
      ∙ ap (λ n. leaves (record d { mss = n }) delivered.numbers (Step.Ask (has_text s))) (least mss (mss_high (offered setup.mss)))

  -- a later visit, with something outstanding, and with nothing
  reported_visit : (numbers : List ℕ) (taken iss acked len x : ℕ) (p : AppState) (s : PlainSegment) → Brings setup request taken x s
      → 0 < len → x ≡ wrap (iss + (acked + len)) →
      let reported : After = m.acked numbers p len in
      let delivered : After = delivers_text m reported.numbers reported.part s.text in
      on_segment m (conn_at Established taken iss acked len p) numbers s ≡ leaves (conn_at Established (taken + length s.text) iss
      (acked + len) 0 delivered.part) delivered.numbers (Step.Ask (has_text s))
  reported_visit numbers taken iss acked len x p s b l e =
      let c : Connection = conn_at Established taken iss acked len p in
      let reported : After = m.acked numbers p len in
      let is : is_acked c s ≡ true = three (has_ack s.flags) (ltb 0 len) (eqb s.ack (wrap (snd_una c + len))) b.is_ack (ltb-yes len l)
      (eq-eqb s.ack (wrap (snd_una c + len)) (b.ack ∙ e ∙ ap wrap (let z : iss + (acked + len) ≡ iss + acked + len = omega arith in z)
      ∙ sym (wrap_wrap (iss + acked) len))) in
      taken_in c numbers s b.no_rst b.seq ∙ ap (λ y. by_state m Established y c numbers s) is ∙ received_in_turn true reported.numbers taken
      iss (acked + len) reported.part s b.no_fin b.window refl

  quiet_visit : (numbers : List ℕ) (taken iss acked x : ℕ) (p : AppState) (s : PlainSegment) → Brings setup request taken x s → 0 < length s.text →
      let delivered : After = delivers_text m numbers p s.text in
      on_segment m (conn_at Established taken iss acked 0 p) numbers s ≡ leaves (conn_at Established (taken + length s.text) iss acked 0
      delivered.part) delivered.numbers (Step.Ask (has_text s))
  quiet_visit numbers taken iss acked x p s b l =
      let c : Connection = conn_at Established taken iss acked 0 p in
      taken_in c numbers s b.no_rst b.seq ∙ ap (λ y. by_state m Established y c numbers s) (and_no (has_ack s.flags))
      ∙ received_in_turn false numbers taken iss acked p s b.no_fin b.window (ap (λ y. not y) (ltb-yes (length s.text) l))

  -- the client's FIN, after the own one
  pub record Finishes (r : NodeStep) : Type 0 where
    pub node : AbstractNode
    pub id : ℕ
    pub seq : ℕ
    pub ack : ℕ
    pub is : r ≡ record { node = node; sent = Some (TcpReply sockets id false (node_sends setup request ACK seq ack [])); gone = None }

  pub takes_fin : (numbers : List ℕ) (history : List HistoryEntry) (taken iss acked : ℕ) (p : AppState) (s : PlainSegment)
      → s.flags ≡ FIN + ACK → s.text ≡ [] → s.seq ≡ wrap (setup.iss.0 + 1 + taken) → s.ack ≡ wrap (iss + (acked + 1)) →
      Finishes (arrives m served (node_at numbers history (conn_at FinWait1 taken iss acked 1 p)) sockets s)
  unfolding fin_acked
  takes_fin numbers history taken iss acked p s f t q a =
      let c : Connection = conn_at FinWait1 taken iss acked 1 p in
      let k : Connection = conn_at TimeWait (taken + (length s.text + 1)) iss (acked + 1) 0 p in
      let n : AbstractNode = node_at numbers history c in
      let event : Event = Arrived sockets s in
      let is : is_acked c s ≡ true = three (has_ack s.flags) true (eqb s.ack (wrap (snd_una c + 1))) (ap has_ack f) refl
      (eq-eqb s.ack (wrap (snd_una c + 1)) (a ∙ ap wrap (let z : iss + (acked + 1) ≡ iss + acked + 1 = omega arith in z) ∙ sym (wrap_wrap (iss + acked) 1))) in
      let row : on_segment m c numbers s ≡ leaves k numbers Step.Ack =
      taken_in c numbers s (ap has_rst f) (λ e. q) ∙ ap (λ y. by_state m FinWait1 y c numbers s) is
      ∙ ap (λ y. if y then leaves k numbers Step.Ack else leaves (conn_at FinWait2 (taken + length s.text) iss (acked + 1) 0 p) numbers
      Step.Drop) (ap has_fin f) in
      record {
        node = node_at numbers (remembered event Step.Ack history) k;
        id = ident_of (remembered event Step.Ack history);
        seq = snd_una k;
        ack = rcv_nxt k;
        is = comes_to FinWait1 numbers history taken iss acked 1 p s refl
            ∙ ap (λ o. happened m n event 0 c (asked m (snapshot n event 0) o)) row
            ∙ answered c k numbers numbers history event Step.Ack (node_sends setup request ACK (snd_una k) (rcv_nxt k) []) refl refl refl;
      }

  -- what there is to send after a visit
  module _ (fine : AppState → Bool) (left : AppState → ℕ) (texts : ℕ) (answers : AnswersIn m request mss fine left texts) where
    -- the application has received this much of the request, and this number of texts is left
    pub record IsReady (p : AppState) (taken most : ℕ) : Type 0 where
      pub good : fine p ≡ true
      pub input : p.input ≡ take taken request
      pub few : left p ≤ most

    -- what is outstanding: a text, whose acknowledgement leaves one text less, or nothing
    pub data Awaits (p : AppState) (taken most : ℕ) : ℕ → Type 0 where
      awaits_text : (len : ℕ) → 0 < len → p.input ≡ take taken request →
          ((numbers : List ℕ) → (fine (m.acked numbers p len).part ≡ true) × (left (m.acked numbers p len).part < most)) → Awaits p taken most len
      awaits_none : 0 < next_out setup request taken → IsReady p taken most → Awaits p taken most 0

    -- What the node sends after a visit: a FIN, a text, or a bare ACK while parts of the request are left.
    pub data Says (r : NodeStep) (taken iss acked most : ℕ) : Type 0 where
      sends_fin : (numbers : List ℕ) (history : List HistoryEntry) (id : ℕ) (p : AppState) →
          r ≡ answers_with numbers history (conn_at FinWait1 taken iss acked 1 p) id false
          (node_sends setup request (FIN + ACK) (wrap (iss + acked)) (wrap (setup.iss.0 + 1 + taken)) []) →
          Says r taken iss acked most
      sends_text : (numbers : List ℕ) (history : List HistoryEntry) (id : ℕ) (p : AppState) (text : List ℕ) (len : ℕ) → length text ≡ len
          → 0 < len → Awaits p taken most len →
          All IsU32 numbers → FitConn (conn_at Established taken iss acked len p) →
          segment_of m (conn_at Established taken iss acked len p) (Step.Text true)
          ≡ Some (node_sends setup request (ACK + PSH) (wrap (iss + acked)) (wrap (setup.iss.0 + 1 + taken)) text) →
          r ≡ answers_with numbers history (conn_at Established taken iss acked len p) id false
          (node_sends setup request (ACK + PSH) (wrap (iss + acked)) (wrap (setup.iss.0 + 1 + taken)) text) →
          Says r taken iss acked most
      outputs_ack : (numbers : List ℕ) (history : List HistoryEntry) (id : ℕ) (p : AppState) → taken < length request → IsReady p taken most →
          All IsU32 numbers → FitConn (conn_at Established taken iss acked 0 p) →
          r ≡ answers_with numbers history (conn_at Established taken iss acked 0 p) id false
          (node_sends setup request ACK (wrap (iss + acked)) (wrap (setup.iss.0 + 1 + taken)) []) →
          Says r taken iss acked most

    receives_more : (numbers : List ℕ) (p : AppState) (taken most : ℕ) (text : List ℕ) → taken ≤ length request → text ≡ brought taken → IsReady p taken most →
        IsReady (delivers_text m numbers p text).part (taken + length text) most
    receives_more numbers p taken most [] h e r =
        record { good = r.good; input = r.input ∙ ap (λ n. take n request) (let z : taken ≡ taken + 0 = omega arith in z); few = r.few }
    receives_more numbers p taken most (y ∷ ys) h e r =
        let text : List ℕ = y ∷ ys in
        let own : text ≡ take (length text) (drop taken request) = e ∙ ap (λ n. take n (drop taken request)) (sym (ap length e ∙ brought_length taken h)) in
        let now : p.input ++ text ≡ take (taken + length text) request =
        ap (λ l. l ++ text) r.input ∙ ap (λ l. take taken request ++ l) own ∙ sym (take-add taken (length text) request) in
        let more = answers.delivers_text numbers p text (drop (taken + length text) request) r.good
        (ap (λ l. l ++ drop (taken + length text) request) now ∙ take-append-drop (taken + length text) request) in
        record { good = more.0; input = lawful.newdata_input numbers p text ∙ now; few = omega (arith, more.1, r.few) }

    all_of : (p : AppState) (taken : ℕ) → p.input ≡ take taken request → length request ≤ taken → p.input ≡ request
    all_of p taken e h = e ∙ take_all taken request h

    -- what is requested
    by_want : (old : Connection) (before numbers : List ℕ) (history : List HistoryEntry) (event : Event) (fresh : Bool)
        (taken iss acked most : ℕ) (q : AppState) (w : Want) →
        (fresh ≡ true) ⊎ (length request ≤ taken) → q.input ≡ take taken request → All IsU32 numbers → MayWant pages q w
        → GoesOnBy m request mss fine left q most w →
        FitOut (does_as_wanted w fresh (conn_at Established taken iss acked 0 q) numbers) →
        Says (happened m (node_at before history old) event 0 old (does_as_wanted w fresh (conn_at Established taken iss acked 0 q)
        numbers)) taken iss acked most
    unfolding idles
    by_want old before numbers history event fresh taken iss acked most q Abort f e n may g fit = absurd g
    by_want old before numbers history event fresh taken iss acked most q Close f e n may g fit =
        let k : Connection = conn_at FinWait1 taken iss acked 1 q in
        sends_fin numbers (remembered event (Step.Fin false) history) (ident_of (remembered event (Step.Fin false) history)) q
        (answered old k before numbers history event (Step.Fin false) (node_sends setup request (FIN + ACK) (snd_una k) (rcv_nxt k) []) refl refl refl)
    by_want old before numbers history event fresh taken iss acked most q (Send j) f e n may g fit =
        let len : ℕ = min j mss in
        let k : Connection = conn_at Established taken iss acked len q in
        let text : List ℕ = take len (text_left m q) in
        let size : length text ≡ len =
        ap (λ t. length (take len (drop q.acked t))) (lawful.output q) ∙ cut_length (pages.page q.input q.snapshots) q.acked len (omega (arith, may.1)) in
        let some : 0 < len = omega (arith, may.0, mss_low (offered setup.mss)) in
        sends_text numbers (remembered event (Step.Text false) history) (ident_of (remembered event (Step.Text false) history)) q text len
        size some (awaits_text len some e g) n fit.conn refl
        (answered old k before numbers history event (Step.Text false) (node_sends setup request (ACK + PSH) (snd_una k) (rcv_nxt k) text) refl refl refl)
    by_want old before numbers history event fresh taken iss acked most q Nothing f e n may g fit =
        let k : Connection = conn_at Established taken iss acked 0 q in
        elim (cases_lt taken (length request)) [
          | inl l ↦
              let is : fresh ≡ true = elim f [ inl y ↦ y | inr y ↦ absurd (let z : ⊥ = omega (arith, l, y) in z) ] in
              let output : idles fresh k numbers ≡ leaves k numbers Step.Ack = ap (λ b. if b then leaves k numbers Step.Ack else leaves k
              numbers Step.Drop) is in
              outputs_ack numbers (remembered event Step.Ack history) (ident_of (remembered event Step.Ack history)) q l
              record { good = g.0; input = e; few = g.1 } n (subst (λ (o : Outcome). FitOut o) output fit).conn
              (ap (λ o. happened m (node_at before history old) event 0 old o) output
              ∙ answered old k before numbers history event Step.Ack (node_sends setup request ACK (snd_una k) (rcv_nxt k) []) refl refl refl)
          | inr l ↦ absurd (g.2 (all_of q taken e l))
        ]

    -- as many texts are left, or more
    at_most_more : (q : AppState) (few most : ℕ) (w : Want) → few ≤ most → GoesOnBy m request mss fine left q few w → GoesOnBy m request mss fine left q most w
    at_most_more q few most Abort h g = g
    at_most_more q few most Close h g = g
    at_most_more q few most (Send j) h g = λ ns. ((g ns).0, omega (arith, h, (g ns).1))
    at_most_more q few most Nothing h g = (g.0, omega (arith, h, g.1), g.2)

    fits_all : (old : Connection) → FitConn old → (j : ℕ) (x : Connection) → slice_get (old ∷ replicate 9 closed) j ≡ Some x → FitConn x
    fits_all old f zero x e = subst (λ z. FitConn z) (let y : old ≡ x = cc in y) f
    fits_all old f (suc j) x e = subst (λ z. FitConn z) (all_closed 9 j x e) closed_fits

    -- the application is asked
    asks : (old : Connection) (before numbers : List ℕ) (history : List HistoryEntry) (event : Event) (fresh : Bool) (taken iss acked most : ℕ) (p : AppState) →
        (fresh ≡ true) ⊎ (length request ≤ taken) → IsReady p taken most → FitConn old → All IsU32 numbers → FitConn (conn_at Established taken iss acked 0 p) →
        Says (happened m (node_at before history old) event 0 old
        (ask m (snapshot (node_at before history old) event 0 (conn_at Established taken iss acked 0 p)) fresh
        (conn_at Established taken iss acked 0 p) numbers)) taken iss acked most
    asks old before numbers history event fresh taken iss acked most p f r o n k =
        let node : AbstractNode = node_at before history old in
        let d : Connection = conn_at Established taken iss acked 0 p in
        let now : Now = snapshot node event 0 d in
        let is : (c : Connection) → FitConn c → IsNow (snapshot node event 0 c) = λ c g. snapshot_fits node event 0 c (omega arith) (fits_all old o) g in
        let q : AppState = m.prepare numbers p now in
        let delivered : q.input ≡ take taken request = lawful.prepare_input numbers p now ∙ r.input in
        let goes = answers.goes_on numbers p now (drop taken request) r.good (ap (λ l. l ++ drop taken request) r.input
        ∙ take-append-drop taken request) n (is d k) (omega arith) in
        by_want old before numbers history event fresh taken iss acked most q (m.want numbers q) f delivered n (lawful.wants numbers q)
        (at_most_more q (left p) most (m.want numbers q) r.few goes)
        (asked_fits m (steady_of m pages lawful) (snapshot node event 0) is (leaves d numbers (Step.Ask fresh)) record { conn = k; numbers = n })

    -- What a segment brings is delivered, and then the application is asked.
    asked_after : (state : State) (numbers next : List ℕ) (history : List HistoryEntry) (taken iss acked len at most : ℕ) (p q : AppState)
        (s : PlainSegment) → 1 ≤ setup.seg → taken ≤ length request → s.text ≡ brought taken → is_live state ≡ true →
        let delivered : After = delivers_text m next q s.text in
        on_segment m (conn_at state taken iss acked len p) numbers s ≡ leaves (conn_at Established (taken + length s.text) iss at 0
        delivered.part) delivered.numbers (Step.Ask (has_text s)) →
        IsReady q taken most → All IsU32 numbers → FitConn (conn_at state taken iss acked len p) →
        Says (arrives m served (node_at numbers history (conn_at state taken iss acked len p)) sockets s) (taken + next_out setup request taken) iss at most
    asked_after state numbers next history taken iss acked len at most p q s seg h text live row r n f =
        let c : Connection = conn_at state taken iss acked len p in
        let node : AbstractNode = node_at numbers history c in
        let event : Event = Arrived sockets s in
        let delivered : After = delivers_text m next q s.text in
        let d : Connection = conn_at Established (taken + length s.text) iss at 0 delivered.part in
        let size : length s.text ≡ next_out setup request taken = ap length text ∙ brought_length taken h in
        let fit : FitOut (leaves d delivered.numbers (Step.Ask (has_text s))) = subst (λ (o : Outcome). FitOut o) row
        (on_segment_fits m (steady_of m pages lawful) c numbers s f n) in
        let any : (has_text s ≡ true) ⊎ (length request ≤ taken + length s.text) =
        elim (zero_or_more (length s.text)) [ inl z ↦ inr (omega (arith, z, size, seg)) | inr l ↦ inl (ltb-yes (length s.text) l) ] in
        let comes = comes_to state numbers history taken iss acked len p s live ∙ ap (λ o. happened m node event 0 c (asked m (snapshot node event 0) o)) row in
        subst (λ k. Says (arrives m served node sockets s) (taken + k) iss at most) size
        (subst (λ (r : NodeStep). Says r (taken + length s.text) iss at most) (sym comes)
        (asks c numbers delivered.numbers history event (has_text s) (taken + length s.text) iss at most delivered.part any
        (receives_more next q taken most s.text h text r) f fit.numbers fit.conn))

    -- What a visit leaves: after it the segment's part of the request is taken, and what was outstanding is acknowledged.
    pub visits_first : (numbers : List ℕ) (history : List HistoryEntry) (iss x : ℕ) (p : AppState) (s : PlainSegment) → 1 ≤ setup.seg
        → Brings setup request 0 x s → x ≡ wrap (iss + 1) →
        All IsU32 numbers → FitConn (conn_at SynRcvd 0 iss 0 1 p) →
        Says (arrives m served (node_at numbers history (conn_at SynRcvd 0 iss 0 1 p)) sockets s) (0 + next_out setup request 0) iss (0 + 1) texts
    visits_first numbers history iss x p s seg b e n f =
        let start : After = m.connected numbers setup.server_port.0 in
        let begins = answers.starts numbers setup.server_port.0 in
        asked_after SynRcvd numbers start.numbers history 0 iss 0 1 (0 + 1) texts p start.part s seg (omega arith) b.text refl
        (first_visit numbers iss x p s b e)
        record { good = begins.0; input = lawful.connected_input numbers setup.server_port.0; few = begins.1 } n f

    -- and less is left
    pub record Visited (r : NodeStep) (taken iss acked most : ℕ) : Type 0 where
      pub fewer : ℕ
      pub less : (0 < next_out setup request taken) ⊎ (fewer < most)
      pub at_most : fewer ≤ most
      pub says : Says r (taken + next_out setup request taken) iss acked fewer

    pub visits : (numbers : List ℕ) (history : List HistoryEntry) (taken iss acked len x most : ℕ) (p : AppState) (s : PlainSegment)
        → 1 ≤ setup.seg → Brings setup request taken x s → x ≡ wrap (iss + (acked + len)) → taken ≤ length request →
        Awaits p taken most len → All IsU32 numbers → FitConn (conn_at Established taken iss acked len p) →
        Visited (arrives m served (node_at numbers history (conn_at Established taken iss acked len p)) sockets s) taken iss (acked + len) most
    visits numbers history taken iss acked _ x most p s seg b e h (awaits_text len l delivered rest) n f =
        let reported : After = m.acked numbers p len in
        record {
          fewer = left reported.part;
          less = inr (rest numbers).1;
          at_most = omega (arith, (rest numbers).1);
          says = asked_after Established numbers reported.numbers history taken iss acked len (acked + len) (left reported.part) p
              reported.part s seg h b.text refl (reported_visit numbers taken iss acked len x p s b l e)
              record { good = (rest numbers).0; input = lawful.acked_input numbers p len ∙ delivered; few = omega arith } n f;
        }
    visits numbers history taken iss acked _ x most p s seg b e h (awaits_none l r) n f =
        let some : 0 < length s.text = omega (arith, l, ap length b.text, brought_length taken h) in
        record {
          fewer = most;
          less = inl l;
          at_most = omega arith;
          says = subst (λ k. Says (arrives m served (node_at numbers history (conn_at Established taken iss acked 0 p)) sockets s)
              (taken + next_out setup request taken) iss k most) (let z : acked ≡ acked + 0 = omega arith in z)
              (asked_after Established numbers numbers history taken iss acked 0 acked most p p s seg h b.text refl
              (quiet_visit numbers taken iss acked x p s b some) r n f);
        }
