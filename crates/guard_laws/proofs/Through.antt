-- Arrival through the guard: what the guard drops is never the next segment of a cooperating peer, so it is as if the link had lost it.
use Rattle.std.proofs.Common.{◌≡◌, ℕ, Bool, false, All, List, [], ◌∷◌, ◌++◌, refl, sym, ap, ◌∙◌, subst}
use Rattle.std.proofs.lemmas.List.Elements.{All-cons, All-head, All-nil, All-tail}
use Rattle.uip_wire.specs.declared.addr.Addr.{Addr}
use Rattle.app_events.specs.Prelude.{AppSpec, IsAddr}
use Rattle.tcp_machine.specs.Prelude.{Sockets}
use Rattle.uip_node.specs.Prelude.{AbstractNode, Event, IsSteady, Overlong, Periodic, connection_in, event_of, initial_node, run, step}
use Rattle.uip_node.proofs.Addresses.{step_addr}
use Rattle.uip_node.proofs.Steadiness.{steady_of}
use Rattle.node_laws.specs.Prelude.{Asker, AsksOverLoss, IsOfLine, TraceEntry, of_call, of_overlong}
use Rattle.node_laws.proofs.Arriving.{AreGuarded, IsLosable}
use Rattle.node_laws.proofs.HonestPeers.{arrives_on_wire}
use Rattle.node_laws.proofs.Paging.{acts_as_itself, anywhere}
use Rattle.node_laws.proofs.Steps.{Drops, OnNode, Sets, WireStep, changed, trace_on_wire}
use Rattle.segment_guard.specs.Verdict.{is_foreign}
use Rattle.guarded_node.specs.Arrivals.{Arrival, BringsBytes, events_at}
use Rattle.guarded_node.specs.Arrivals.Arrival.{Due, Received, TooLong}
use Rattle.guarded_node.specs.Guarded.{by_verdict, gives_up}
use Rattle.guarded_node.specs.Verdicts.{verdict_on}
use Rattle.guarded_node.specs.Wire.{arriving}
use Rattle.guarded_node.specs.declared.guard.Rules.{Rules}
use Rattle.guarded_node.specs.declared.verdict.Verdict.{Verdict}
use Rattle.guarded_node.specs.declared.verdict.Verdict.TheVariants.{Drop, Pass, Displace}
use Rattle.guard_laws.specs.Peers.{IsAfter}
use Rattle.guard_laws.specs.Through.{ArrivesThroughGuard, Coming, Comes, FitsTypes, SetsNumbers, trace_at, trace_by, wire_trace}
use Rattle.guard_laws.proofs.OfLine.{Ported, guarded_of_line, ported_on, ported_start}
use Rattle.guard_laws.proofs.Passing.{next_is_passed}

-- ---- the steps of the wire

-- the steps of an event, by the verdict
abbrev pub steps_by : AbstractNode → Event → Verdict → List WireStep
steps_by n event Drop = Drops event ∷ []
steps_by n event Pass = OnNode event ∷ []
steps_by n event (Displace slot) = OnNode (gives_up (connection_in slot n)) ∷ OnNode event ∷ []

abbrev pub steps_at : Rules → (ℕ → Bool) → AbstractNode → Arrival → List WireStep
steps_at rules served n (Received bytes) =
    steps_by n (event_of n.addr (arriving rules.key bytes)) (verdict_on rules served n (arriving rules.key bytes))
steps_at rules served n TooLong = OnNode Overlong ∷ []
steps_at rules served n (Due slot) = OnNode (Periodic slot) ∷ []

module _ (m : AppSpec) (served : ℕ → Bool) (rules : Rules) where
  abbrev pub after : AbstractNode → Arrival → AbstractNode
  after n arrival = (run m served (events_at rules served n arrival) n).node

  abbrev pub wire_steps : List Coming → AbstractNode → List WireStep
  wire_steps [] n = []
  wire_steps (Comes arrival ∷ more) n = steps_at rules served n arrival ++ wire_steps more (after n arrival)
  wire_steps (SetsNumbers change ∷ more) n = Sets change ∷ wire_steps more (changed change n)

  -- their trace is that of the wire
  trace_then : (n : AbstractNode) (event : Event) (v : Verdict) (rest : List WireStep)
      → trace_on_wire m served (steps_by n event v ++ rest) n
      ≡ trace_by m served n event v ++ trace_on_wire m served rest (run m served (by_verdict n event v) n).node
  trace_then n event Drop rest = refl
  trace_then n event Pass rest = refl
  trace_then n event (Displace slot) rest = refl

  pub trace_at_then : (n : AbstractNode) (arrival : Arrival) (rest : List WireStep)
      → trace_on_wire m served (steps_at rules served n arrival ++ rest) n
      ≡ trace_at rules m served n arrival ++ trace_on_wire m served rest (after n arrival)
  trace_at_then n (Received bytes) rest =
      trace_then n (event_of n.addr (arriving rules.key bytes)) (verdict_on rules served n (arriving rules.key bytes)) rest
  trace_at_then n TooLong rest = refl
  trace_at_then n (Due slot) rest = refl

  trace_is : (comings : List Coming) (n : AbstractNode)
      → trace_on_wire m served (wire_steps comings n) n ≡ wire_trace rules m served comings n
  trace_is [] n = refl
  trace_is (Comes arrival ∷ more) n =
      trace_at_then n arrival (wire_steps more (after n arrival))
      ∙ ap (λ (l : List TraceEntry). trace_at rules m served n arrival ++ l) (trace_is more (after n arrival))
  trace_is (SetsNumbers change ∷ more) n = trace_is more (changed change n)

  -- ---- they are of a line, and what is dropped is not the next segment of the peer

  module _ (steady : IsSteady m) (own : Addr) (is : IsAddr own) where
    -- a node at this address that events of a line reach
    pub record Stands (n : AbstractNode) : Type 0 where
      pub addr : n.addr ≡ own
      pub ported : Ported n

    stands_over : (events : List Event) (n : AbstractNode) → All (IsOfLine own) events → Stands n → Stands (run m served events n).node
    stands_over [] n of h = h
    stands_over (e ∷ events) n of h =
        let here : IsOfLine own e = All-head (IsOfLine own) e events of in
        stands_over events (step m served n e).node (All-tail (IsOfLine own) e events of)
        (record { addr = step_addr m served n e ∙ h.addr; ported = ported_on m steady served own n e here h.ported })

    of_line : (n : AbstractNode) (arrival : Arrival) → BringsBytes arrival → Stands n → All (IsOfLine own) (events_at rules served n arrival)
    of_line n (Received bytes) low h =
        subst (λ (a : Addr). All (IsOfLine a) (events_at rules served n (Received bytes))) h.addr
        (guarded_of_line rules served n bytes (subst IsAddr (sym h.addr) is) h.ported low)
    of_line n TooLong low h = All-cons (IsOfLine own) Overlong [] (of_overlong refl) (All-nil (IsOfLine own))
    of_line n (Due slot) low h = All-cons (IsOfLine own) (Periodic slot) [] (of_call slot refl) (All-nil (IsOfLine own))

    pub stands_after : (n : AbstractNode) (arrival : Arrival) → BringsBytes arrival → Stands n → Stands (after n arrival)
    stands_after n arrival low h = stands_over (events_at rules served n arrival) n (of_line n arrival low h) h

    stands_changed : (n : AbstractNode) (change : List ℕ → List ℕ) → FitsTypes (SetsNumbers change) → Stands n → Stands (changed change n)
    stands_changed n change low h =
        let good = h.ported.good in
        record {
          addr = h.addr;
          ported = record {
            good = record {
              single = good.single;
              fit = record { size = good.fit.size; conns = good.fit.conns; numbers = low n.numbers good.fit.numbers };
            };
            ports = h.ported.ports;
          };
        }

    module _ (a : Asker) (p : Sockets) (home : is_foreign p.peer own ≡ false) where
      abbrev Guards : List WireStep → AbstractNode → Type 0
      Guards steps n = AreGuarded m served own a p steps n

      losable : (n : AbstractNode) (bytes : List ℕ) → Stands n → verdict_on rules served n bytes ≡ Drop
          → IsLosable a p (event_of n.addr bytes) n
      losable n bytes h drops before x has came next =
          let near : is_foreign p.peer n.addr ≡ false = ap (λ (o : Addr). is_foreign p.peer o) h.addr ∙ home in
          let shows : IsAfter a before has.connection =
          record { rcv_nxt = has.rcv_nxt; snd_nxt = has.snd_nxt; len = has.len; early = has.early } in
          let passed : verdict_on rules served n bytes ≡ Pass =
          next_is_passed rules served n a p before x has.slot has.connection h.ported.good.single has.there has.serves shows near next bytes
          (sym came ∙ next.received) in
          cc

      by_fate : (n : AbstractNode) (bytes : List ℕ) (v : Verdict) (rest : List WireStep) → Stands n → verdict_on rules served n bytes ≡ v
          → All (IsOfLine own) (by_verdict n (event_of n.addr bytes) v)
          → Guards rest (run m served (by_verdict n (event_of n.addr bytes) v) n).node
          → Guards (steps_by n (event_of n.addr bytes) v ++ rest) n
      by_fate n bytes Drop rest h e of more = (losable n bytes h e, more)
      by_fate n bytes Pass rest h e of more = (All-head (IsOfLine own) (event_of n.addr bytes) [] of, more)
      by_fate n bytes (Displace slot) rest h e of more =
          let event : Event = event_of n.addr bytes in
          let first : Event = gives_up (connection_in slot n) in (
            All-head (IsOfLine own) first (event ∷ []) of,
            (All-head (IsOfLine own) event [] (All-tail (IsOfLine own) first (event ∷ []) of), more),
          )

      pub guards_at : (n : AbstractNode) (arrival : Arrival) (rest : List WireStep) → BringsBytes arrival → Stands n → Guards rest (after n arrival)
          → Guards (steps_at rules served n arrival ++ rest) n
      guards_at n (Received bytes) rest low h more =
          by_fate n (arriving rules.key bytes) (verdict_on rules served n (arriving rules.key bytes)) rest h refl
          (of_line n (Received bytes) low h) more
      guards_at n TooLong rest low h more = (of_overlong refl, more)
      guards_at n (Due slot) rest low h more = (of_call slot refl, more)

      guards_all : (comings : List Coming) (n : AbstractNode) → All FitsTypes comings → Stands n → Guards (wire_steps comings n) n
      guards_all [] n low h = tt
      guards_all (Comes arrival ∷ more) n low h =
          let here : BringsBytes arrival = All-head FitsTypes (Comes arrival) more low in
          guards_at n arrival (wire_steps more (after n arrival)) here h
          (guards_all more (after n arrival) (All-tail FitsTypes (Comes arrival) more low) (stands_after n arrival here h))
      guards_all (SetsNumbers change ∷ more) n low h =
          let here : FitsTypes (SetsNumbers change) = All-head FitsTypes (SetsNumbers change) more low in
          (here, guards_all more (changed change n) (All-tail FitsTypes (SetsNumbers change) more low) (stands_changed n change here h))

pub arrives_through_guard : ArrivesThroughGuard
arrives_through_guard m pages lawful served own is numbers words rules comings low a p fine left texts patience home answers incarnation asks =
    let node : AbstractNode = initial_node own numbers in
    let steady : IsSteady m = steady_of m pages lawful in
    let start : Stands m served rules steady own is node = record { addr = refl; ported = ported_start own numbers words } in
    arrives_on_wire m m pages anywhere steady lawful served own numbers words (wire_steps m served rules comings node) a p
    (guards_all m served rules steady own is a p home comings node low start) (acts_as_itself m p.own_port.0) fine left texts patience answers
    incarnation
    (subst (λ (t : List TraceEntry). AsksOverLoss a p patience t incarnation) (sym (trace_is m served rules comings node)) asks)
