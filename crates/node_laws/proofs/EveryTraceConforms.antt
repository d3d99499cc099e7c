-- Every trace of a node.
use Rattle.node_laws.proofs.Prelude.{All, option_map, ◌≡◌, ℕ, Bool, ◌&&◌, List, [], ◌∷◌, map, position, true, false, inl, refl, ap, subst}
use Rattle.node_laws.proofs.Prelude.{Option, Some, None, PlainSegment, has_rst, IsAddr, IsPaged, IsU32, MayWant, Pages, AppSpec, AppState}
use Rattle.node_laws.proofs.Prelude.{Close, Addr, Sockets, Connection, serves, is_again, is_plain_syn, segment_of, Outcome, ident_of, Event}
use Rattle.node_laws.proofs.Prelude.{IpRefused, IcmpRefused, TcpRefused, EchoAsked, Arrived, Overlong, Periodic, Echo, TcpReply}
use Rattle.node_laws.proofs.Prelude.{append_nothing, choose, all_nil, all_cons, HasBytes, SendsBytes, IsEchoed, IsSteady, steady_of}
use Rattle.node_laws.proofs.Prelude.{page_bytes, OutputModel, HasOutputModel, at_every_port, EveryTraceConforms, EveryTraceOfPagesConforms}
use Rattle.node_laws.proofs.Prelude.{TraceConforms, TraceEntry, IsDecoded}
use Rattle.uip_node.specs.Node.{AbstractNode, NodeStep, arrives_at, for_no_connection, happened, initial_node, opens as opens_at, opens_in}
use Rattle.uip_node.specs.Node.{slot_for_syn, step}
use Rattle.node_laws.proofs.EveryIncarnation.{session_ends}
use Rattle.node_laws.proofs.PeerReads.{every_peer_reads}
use Rattle.node_laws.proofs.Timers.{retries_over_steps}
use Rattle.node_laws.proofs.Steps.{LineStep, OfNode, Changes, IsStep, all_happen, changed, turns_happen, trace_over}

-- no echo reply
abbrev NoEcho : NodeStep → Type 0
NoEcho r = (request : List ℕ) → r.sent ≡ Some (Echo request) → ⊥

no_echo_sent : (output : Option PlainSegment) (sockets : Sockets) (id : ℕ) (again : Bool) (request : List ℕ)
    → option_map (λ s. TcpReply sockets id again s) output ≡ Some (Echo request) → ⊥
no_echo_sent None sockets id again request e = absurd (cc)
no_echo_sent (Some s) sockets id again request e = absurd (cc)

module _ (m : AppSpec) (served : ℕ → Bool) where
  happened_no : (n : AbstractNode) (event : Event) (slot : ℕ) (old : Connection) (o : Outcome) → NoEcho (happened m n event slot old o)
  unfolding happened
  happened_no n event slot old o request e = no_echo_sent (segment_of m o.connection o.step) o.connection.sockets
      (ident_of (happened m n event slot old o).node.history) (is_again o.step) request e

  opens_no : (n : AbstractNode) (q : Sockets) (s : PlainSegment) (slot : Option ℕ) → NoEcho (opens_at m n q s slot)
  unfolding opens_in
  opens_no n q s None request e = absurd (cc)
  opens_no n q s (Some slot) request e = happened_no n _ slot _ _ request e

  stranger_no : (n : AbstractNode) (q : Sockets) (s : PlainSegment) → NoEcho (for_no_connection m served n q s)
  unfolding for_no_connection
  stranger_no n q s =
      choose (λ r. NoEcho r) (is_plain_syn s && served q.own_port.0) _ _ (λ e. opens_no n q s (slot_for_syn n.connections))
      (λ e. choose (λ r. NoEcho r) (has_rst s.flags) _ _ (λ f request g. absurd (cc)) (λ f request g. absurd (cc)))

  arrives_no : (n : AbstractNode) (q : Sockets) (s : PlainSegment) (found : Option ℕ) → NoEcho (arrives_at m served n q s found)
  arrives_no n q s None request e = stranger_no n q s request e
  arrives_no n q s (Some slot) request e = happened_no n _ slot _ _ request e

  echoed : (n : AbstractNode) (e : Event) → IsEchoed (record { event = e; sent = (step m served n e).sent })
  echoed n (EchoAsked datagram) request e = (let z : Echo datagram ≡ Echo request = cc in let y : datagram ≡ request = cc in ap EchoAsked y)
  echoed n (Arrived q s) request e = absurd (arrives_no n q s (position (serves q) n.connections) request e)
  echoed n (Periodic slot) request e = absurd (happened_no n _ slot _ _ request e)
  echoed n (IpRefused fate) request e = absurd (cc)
  echoed n (IcmpRefused fate) request e = absurd (cc)
  echoed n (TcpRefused fate) request e = absurd (cc)
  echoed n Overlong request e = absurd (cc)

  all_echoed : (steps : List LineStep) (n : AbstractNode) → All IsEchoed (trace_over m served steps n)
  all_echoed [] n = all_nil IsEchoed
  all_echoed (OfNode e ∷ steps) n = all_cons IsEchoed _ _ (echoed n e) (all_echoed steps (step m served n e).node)
  all_echoed (Changes change ∷ steps) n = all_echoed steps (changed change n)

-- over any steps of a line
abbrev pub KeepsAll : (ℕ → OutputModel) → (ℕ → Bool) → Addr → List TraceEntry → Type 0
KeepsAll model served own turns = TraceConforms model served turns × All (IsDecoded own) turns

pub every_step : (m : AppSpec) (model : ℕ → OutputModel) → IsSteady m → SendsBytes m → HasOutputModel m model
    → (served : ℕ → Bool) (own : Addr) → IsAddr own → (numbers : List ℕ) → All IsU32 numbers
    → (steps : List LineStep) → All (IsStep own) steps → KeepsAll model served own (trace_over m served steps (initial_node own numbers))
every_step m model steady bytes speaks served own a numbers w steps are =
    let ends = λ (p : Sockets). session_ends m model steady speaks served own numbers w steps are p in (
      record {
        incarnations = λ p incarnation l. (ends p).incarnations incarnation l;
        asked = λ p. (ends p).asked;
        ports = λ p. (ends p).ports;
        echoes = all_echoed m served steps (initial_node own numbers);
        retries = retries_over_steps m steady served own numbers w steps are;
      },
      every_peer_reads m steady bytes served own a numbers w steps are,
    )

pub every_trace_conforms : EveryTraceConforms
every_trace_conforms m model steady bytes speaks served own a numbers w events of =
    subst (λ (l : List TraceEntry). KeepsAll model served own l) (turns_happen m served events (initial_node own numbers))
    (every_step m model steady bytes speaks served own a numbers w (map OfNode events) (all_happen own events of))

-- ---- of pages at every port

module _ (m : AppSpec) (pages : Pages) (lawful : IsPaged m pages) where
  closes_at_end : (numbers : List ℕ) (p : AppState) → m.want numbers p ≡ Close → MayWant pages p Close
  closes_at_end numbers p e = subst (λ w. MayWant pages p w) e (lawful.wants numbers p)

  pub paged_everywhere : HasOutputModel m (at_every_port pages)
  paged_everywhere port = record {
    follows = record {
      grows = lawful.grows;
      stays = lawful.stays;
      stays_complete = lawful.stays_complete;
      here = λ p. true;
      lost = λ p. false;
      output = λ p h. lawful.output p;
      connected = λ numbers. (refl, lawful.connected_input numbers port);
      newdata = λ numbers p piece h. record {
        prefix = piece;
        rest = [];
        joined = append_nothing piece;
        input = (refl, lawful.newdata_input numbers p piece);
        all = inl refl;
        no_more = λ e. absurd (cc);
      };
      prepare = λ numbers p now h. ((refl, lawful.prepare_input numbers p now), refl);
      acked = λ numbers p n h. ((refl, lawful.acked_input numbers p n), refl);
      polled = λ numbers p h. ((refl, (lawful.polled_same numbers p).input), refl);
      closes = λ numbers p h fits e. closes_at_end numbers p e;
    };
    accepts_all = λ p. refl;
    short = lawful.short;
  }

pub every_step_of_pages : (m : AppSpec) (pages : Pages) → IsPaged m pages → HasBytes pages → (served : ℕ → Bool) (own : Addr) → IsAddr own
    → (numbers : List ℕ) → All IsU32 numbers
    → (steps : List LineStep) → All (IsStep own) steps → KeepsAll (at_every_port pages) served own (trace_over m served steps (initial_node own numbers))
every_step_of_pages m pages lawful bytes = every_step m (at_every_port pages) (steady_of m pages lawful) (page_bytes m pages lawful bytes)
    (paged_everywhere m pages lawful)

pub every_trace_of_pages_conforms : EveryTraceOfPagesConforms
every_trace_of_pages_conforms m pages lawful bytes = every_trace_conforms m (at_every_port pages) (steady_of m pages lawful)
    (page_bytes m pages lawful bytes) (paged_everywhere m pages lawful)
