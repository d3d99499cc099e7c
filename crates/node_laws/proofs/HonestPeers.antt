-- A cooperating peer of a node has its page, whatever other peers do: with no loss, and with loss.
use Rattle.node_laws.proofs.Prelude.{All, map, Bool, true, ◌≡◌, ℕ, ◌<◌, ◌≤◌, ◌⊎◌, inl, inr, List, [], ◌∷◌, ◌++◌, refl, sym, ap, ◌∙◌, subst}
use Rattle.node_laws.proofs.Prelude.{arith, Option, first_mss, AnswersPolled, AppSpec, AppState, Event, IsOfLine, trace_of}
use Rattle.node_laws.proofs.Prelude.{Arrives, AsksOverLoss, Progresses, IsSteady, steady_of, IsPaged, IsU32, Pages, Addr, Sockets}
use Rattle.node_laws.proofs.Prelude.{AbstractNode}
use Rattle.node_laws.proofs.Prelude.{initial_node, Asker, ArrivesIn, ArrivesUnderLoss, IsLossy, IsOverLoss, fresh, in_handshake, with_fresh}
use Rattle.node_laws.proofs.Prelude.{calls_of, first_low}
use Rattle.node_laws.proofs.Prelude.{text_received, bare_acks, IsHonest, HonestPeer, Exchange}
use Rattle.node_laws.proofs.Prelude.{TraceEntry, exchange, exchanges_onto, exchanges_with}
use Rattle.node_laws.proofs.Arriving.{AreGuarded, Goes, GoesOn, HasConnection, from_before, from_whole, goes_before, keeps_fresh}
use Rattle.node_laws.proofs.Arriving.{keeps_quiet, none_dropped, stands}
use Rattle.node_laws.proofs.Arriving.Goes.{brings_next, brings_stale, waits_for}
use Rattle.node_laws.proofs.Arriving.InTime.{kept_on, tries_left}
use Rattle.node_laws.specs.LossyPeers.IsOverLoss.{receives_next, receives_nothing, receives_stale}
use Rattle.node_laws.proofs.Beating.{mss_some}
use Rattle.node_laws.proofs.GoodNodes.{good_start}
use Rattle.node_laws.proofs.HonestSessions.{honest_before}
use Rattle.node_laws.proofs.Paging.{ActsAs, Paging, acts_as_itself, answering_as, anywhere, paging_as}
use Rattle.node_laws.proofs.Steps.{IsStep, LineStep, OfNode, WireStep, all_happen, node_on_wire, same_turns, trace_on_wire, trace_over}
use Rattle.node_laws.proofs.Steps.{turns_happen, unguarded}

-- the longest text is that of the peer's SYN
pub record OfSyn (a : Asker) : Type 0 where
  pub option : Option ℕ
  pub is : first_mss option ≡ a.mss

pub of_syn : (a : Asker) (p : Sockets) (turns : List TraceEntry) → IsHonest a (exchanges_with p turns) → OfSyn a
of_syn a p [] h = absurd h
of_syn a p (t ∷ turns) h = let o = honest_before a p turns (exchange p t.event t.sent) [] h in record { option = o.syn.mss; is = o.mss }

some_mss : (a : Asker) → OfSyn a → 0 < a.mss
some_mss a o = (let l = mss_some o.option in let e = o.is in omega (arith, l, e))

low_mss : (a : Asker) → OfSyn a → a.mss < 65536
low_mss a o = (let l = first_low o.option in let e = o.is in omega (arith, l, e))

-- ---- with no loss every exchange is fresh

all_fresh : (a : Asker) (xs : List Exchange) → IsHonest a xs → fresh a xs ≡ xs
all_fresh a [] h = refl
all_fresh a (x ∷ []) h = refl
all_fresh a (x ∷ y ∷ older) h =
    let same : fresh a (y ∷ older) ≡ y ∷ older = all_fresh a (y ∷ older) h.1 in
    ap (λ k. with_fresh a x k) same ∙ elim h.0 [ inl w ↦ keeps_quiet a x (y ∷ older) w.0 | inr s ↦ keeps_fresh a x (y ∷ older) s ]

goes_honest : (a : Asker) (xs : List Exchange) → IsHonest a xs → GoesOn a xs
goes_honest a [] h = h
goes_honest a (x ∷ []) h = h
goes_honest a (x ∷ y ∷ older) h = (
  subst (λ k. Goes a x k) (sym (all_fresh a (y ∷ older) h.1)) (elim h.0 [ inl w ↦ waits_for w.0 (kept_on w.1) | inr s ↦ brings_next s ]),
  goes_honest a (y ∷ older) h.1,
)

-- the exchanges of two parts of a trace
in_two : (p : Sockets) (first second : List TraceEntry) (before : List Exchange) → exchanges_onto p (first ++ second) before
    ≡ exchanges_onto p second (exchanges_onto p first before)
in_two p [] second before = refl
in_two p (t ∷ first) second before = in_two p first second (exchange p t.event t.sent ∷ before)

first_fresh : (a : Asker) (p : Sockets) (later : List TraceEntry) (xs : List Exchange) → IsHonest a (exchanges_onto p later xs) → fresh a xs ≡ xs
first_fresh a p later [] h = refl
first_fresh a p later (y ∷ older) h = all_fresh a (y ∷ older) (honest_before a p later y older h)

paging_of : (m : AppSpec) (pages : Pages) → IsPaged m pages → (port : ℕ) → Paging m pages port anywhere
paging_of m pages lawful port = paging_as m m port anywhere (acts_as_itself m port) pages lawful (steady_of m pages lawful)

-- after more acknowledgements than that it has arrived
past_all : (pages : Pages) (a : Asker) (texts : ℕ) (xs : List Exchange) → Progresses pages a texts xs → texts < bare_acks (fresh a xs) → Arrives pages a xs
past_all pages a texts xs h few = elim h [ inl there ↦ there | inr way ↦ absurd (let l = way.few in omega (arith, l, few)) ]

pub honest_peer : HonestPeer
honest_peer m pages lawful ports own addr numbers words events of a p fine left texts patience answering incarnation asks few =
    let first : fresh a (exchanges_with p asks.asking) ≡ exchanges_with p asks.asking =
    first_fresh a p asks.later (exchanges_with p asks.asking) (subst (λ k. IsHonest a k) (ap (λ t. exchanges_with p t) asks.joined
    ∙ in_two p asks.asking asks.later []) asks.honest) in
    let node : AbstractNode = initial_node own numbers in
    let steps : List LineStep = map OfNode events in
    let syn = of_syn a p incarnation asks.honest in
    (past_all pages a texts (exchanges_with p incarnation)
    (from_whole m pages anywhere ports p (paging_of m pages lawful p.own_port.0) a (some_mss a syn) (low_mss a syn) fine left texts patience
    (answering_as m m p.own_port.0 anywhere (acts_as_itself m p.own_port.0) a.request a.mss fine left texts patience answering) own
    asks.before [] asks.asking asks.later incarnation (map unguarded steps) node (none_dropped m ports own a p steps node (all_happen own events of))
    (good_start own numbers words) (same_turns m ports steps node ∙ turns_happen m ports events node ∙ asks.split) asks.joined
    (goes_honest a (exchanges_with p incarnation) asks.honest) refl (ap (λ k. text_received k) first ∙ asks.whole) asks.prompt)
    (subst (λ k. texts < bare_acks k) (sym (all_fresh a (exchanges_with p incarnation) asks.honest)) few)).page

-- ---- with loss

goes_on_lossy : (a : Asker) (x : Exchange) (before : List Exchange) → IsOverLoss a x before → Goes a x before
goes_on_lossy a x before h = elim h [
  | receives_nothing none few ↦ waits_for none (tries_left few)
  | receives_next s ↦ brings_next s
  | receives_stale s ↦ brings_stale s
]

goes_lossy : (a : Asker) (xs : List Exchange) → IsLossy a xs → GoesOn a xs
goes_lossy a [] h = h
goes_lossy a (x ∷ []) h = h
goes_lossy a (x ∷ y ∷ older) h = (goes_on_lossy a x (fresh a (y ∷ older)) h.0, goes_lossy a (y ∷ older) h.1)

of_lossy_syn : (a : Asker) (p : Sockets) (turns : List TraceEntry) → GoesOn a (exchanges_with p turns) → OfSyn a
of_lossy_syn a p [] h = absurd h
of_lossy_syn a p (t ∷ turns) h = let o = goes_before a p turns (exchange p t.event t.sent) [] h in record { option = o.syn.mss; is = o.mss }

pub lossy_syn : (a : Asker) (p : Sockets) (turns : List TraceEntry) → IsLossy a (exchanges_with p turns) → OfSyn a
lossy_syn a p turns h = of_lossy_syn a p turns (goes_lossy a (exchanges_with p turns) h)

-- Such an incarnation up to any point. If its request is not whole, nothing follows the part in which it asks.
pub record AsksSoFar (a : Asker) (p : Sockets) (patience : ℕ) (trace incarnation : List TraceEntry) : Type 0 where
  pub before : List TraceEntry
  pub opening : List TraceEntry
  pub asking : List TraceEntry
  pub later : List TraceEntry
  pub split : trace ≡ before ++ incarnation
  pub joined : incarnation ≡ opening ++ (asking ++ later)
  pub lossy : IsLossy a (exchanges_with p incarnation)
  pub handshake : in_handshake (fresh a (exchanges_with p opening)) ≡ true
  pub so_far : (later ≡ []) ⊎ (text_received (fresh a (exchanges_with p (opening ++ asking))) ≡ a.request)
  pub prompt : (slot : ℕ) → calls_of slot asking ≤ patience

module _ (m n : AppSpec) (pages : Pages) (here : AppState → Bool) (steady : IsSteady m) (lawful : IsPaged n pages) (served : ℕ → Bool)
    (own : Addr) (numbers : List ℕ) (words : All IsU32 numbers) (steps : List WireStep) (a : Asker) (p : Sockets)
    (guarded : AreGuarded m served own a p steps (initial_node own numbers)) (acts : ActsAs m n p.own_port.0 here) (fine : ℕ → AppState → Bool)
    (left : AppState → ℕ) (texts patience : ℕ) (answering : AnswersPolled n a.request a.mss fine left texts patience) where
  -- With a guard before the node: events, changes of the application's numbers, and events that are dropped. In the states of the port the
  -- application acts as one of pages.
  pub arrives_on_wire : (incarnation : List TraceEntry) → AsksOverLoss a p patience (trace_on_wire m served steps (initial_node own numbers)) incarnation
      → Progresses pages a texts (exchanges_with p incarnation)
  arrives_on_wire incarnation asks =
      let goes : GoesOn a (exchanges_with p incarnation) = goes_lossy a (exchanges_with p incarnation) asks.lossy in
      let syn = of_lossy_syn a p incarnation goes in
      from_whole m pages here served p (paging_as m n p.own_port.0 here acts pages lawful steady) a (some_mss a syn) (low_mss a syn) fine left texts patience
      (answering_as m n p.own_port.0 here acts a.request a.mss fine left texts patience answering)
      own asks.before asks.opening asks.asking asks.later incarnation steps (initial_node own numbers) guarded (good_start own numbers words)
      asks.split asks.joined goes asks.handshake asks.whole asks.prompt

  -- The page has arrived, or the node has the connection of the peer, also while it asks.
  pub connection_stands : (incarnation : List TraceEntry) → AsksSoFar a p patience (trace_on_wire m served steps (initial_node own numbers)) incarnation
      → Arrives pages a (exchanges_with p incarnation)
      ⊎ HasConnection a p (fresh a (exchanges_with p incarnation)) (node_on_wire m served steps (initial_node own numbers))
  connection_stands incarnation asks =
      let goes : GoesOn a (exchanges_with p incarnation) = goes_lossy a (exchanges_with p incarnation) asks.lossy in
      let syn = of_lossy_syn a p incarnation goes in
      let paging = paging_as m n p.own_port.0 here acts pages lawful steady in
      let answers = answering_as m n p.own_port.0 here acts a.request a.mss fine left texts patience answering in
      stands m pages here served p paging a (some_mss a syn) (low_mss a syn) fine left texts patience answers
      (node_on_wire m served steps (initial_node own numbers)) (exchanges_with p incarnation)
      (from_before m pages here served p paging a (some_mss a syn) (low_mss a syn) fine left texts patience answers own asks.before asks.opening
      asks.asking asks.later incarnation steps (initial_node own numbers) guarded (good_start own numbers words) asks.split asks.joined goes
      asks.handshake asks.so_far asks.prompt)

-- over events and changes of the application's numbers, in the states of the port in which it acts as an application of pages
pub arrives_acting : (m n : AppSpec) (pages : Pages) (here : AppState → Bool) → IsSteady m → IsPaged n pages
    → (served : ℕ → Bool) (own : Addr) (numbers : List ℕ) → All IsU32 numbers → (steps : List LineStep) → All (IsStep own) steps
    → (a : Asker) (p : Sockets) → ActsAs m n p.own_port.0 here → (fine : ℕ → AppState → Bool) (left : AppState → ℕ) (texts patience : ℕ)
    → AnswersPolled n a.request a.mss fine left texts patience
    → (incarnation : List TraceEntry) → AsksOverLoss a p patience (trace_over m served steps (initial_node own numbers)) incarnation
    → Progresses pages a texts (exchanges_with p incarnation)
arrives_acting m n pages here steady lawful served own numbers words steps of a p acts fine left texts patience answering incarnation asks =
    arrives_on_wire m n pages here steady lawful served own numbers words (map unguarded steps) a p
    (none_dropped m served own a p steps (initial_node own numbers) of) acts fine left texts patience answering incarnation
    (subst (λ trace. AsksOverLoss a p patience trace incarnation) (sym (same_turns m served steps (initial_node own numbers))) asks)

pub arrives_acting_in : (m n : AppSpec) (pages : Pages) (here : AppState → Bool) → IsSteady m → IsPaged n pages
    → (served : ℕ → Bool) (own : Addr) (numbers : List ℕ) → All IsU32 numbers → (events : List Event) → All (IsOfLine own) events
    → (a : Asker) (p : Sockets) → ActsAs m n p.own_port.0 here → (fine : ℕ → AppState → Bool) (left : AppState → ℕ) (texts patience : ℕ)
    → AnswersPolled n a.request a.mss fine left texts patience
    → (incarnation : List TraceEntry) → AsksOverLoss a p patience (trace_of m served events (initial_node own numbers)) incarnation
    → Progresses pages a texts (exchanges_with p incarnation)
arrives_acting_in m n pages here steady lawful served own numbers words events of a p acts fine left texts patience answering incarnation asks =
    arrives_acting m n pages here steady lawful served own numbers words (map OfNode events) (all_happen own events of) a p acts fine left
    texts patience answering incarnation
    (subst (λ trace. AsksOverLoss a p patience trace incarnation) (sym (turns_happen m served events (initial_node own numbers))) asks)

pub arrives_over_steps : (m : AppSpec) (pages : Pages) → IsPaged m pages → (served : ℕ → Bool) (own : Addr) (numbers : List ℕ)
    → All IsU32 numbers → (steps : List LineStep) → All (IsStep own) steps
    → ArrivesIn m pages (trace_over m served steps (initial_node own numbers))
arrives_over_steps m pages lawful served own numbers words steps of a p fine left texts patience answering incarnation asks =
    arrives_acting m m pages anywhere (steady_of m pages lawful) lawful served own numbers words steps of a p
    (acts_as_itself m p.own_port.0) fine left texts patience answering incarnation asks

pub arrives_under_loss : ArrivesUnderLoss
arrives_under_loss m pages lawful ports own addr numbers words events of =
    subst (λ trace. ArrivesIn m pages trace) (turns_happen m ports events (initial_node own numbers))
    (arrives_over_steps m pages lawful ports own numbers words (map OfNode events) (all_happen own events of))
