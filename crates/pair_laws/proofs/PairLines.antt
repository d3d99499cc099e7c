-- What a pair owes the laws of a trace, and its trace.
use Rattle.std.specs.List.{All}
use Rattle.std.proofs.Common.{rules, ◌≡◌, ℕ, ◌==◌, ◌&&◌, ◌≤◌, Bool, true, false, if◌then◌else◌, List, [], ◌∷◌, ◌++◌, length, map, refl, sym}
use Rattle.std.proofs.Common.{ap, ◌∙◌, subst}
use Rattle.std.proofs.lemmas.List.{map-append}
use Rattle.std.proofs.lemmas.Bool.{and_parts, eq-eqb, eqb-true}
use Rattle.std.proofs.lemmas.List.Elements.{All-cons, All-head, All-nil, All-tail}
use Rattle.uip_wire.specs.declared.addr.Addr.{Addr}
use Rattle.app_events.specs.Prelude.{AppSpec, AppState, IsLawful, IsPrefixOf, IsSnapshot, MayWant, Pages, Snapshot}
use Rattle.app_events.specs.declared.want.Want.TheVariants.{Close}
use Rattle.uip_node.specs.Prelude.{AbstractNode, IsSteady, SendsBytes, initial_node, step}
use Rattle.node_laws.specs.Prelude.{AcceptsPrefix, FollowsModelAt, FollowsPagesAt, IsPagedAt, IsDecoded, LeavesDelivered, OutputModel}
use Rattle.node_laws.specs.Prelude.{TraceConforms, TraceEntry, Free, Interactive, Paged}
use Rattle.node_laws.proofs.EveryTraceConforms.{every_step}
use Rattle.node_laws.proofs.Steps.{Changes as ChangesAll, IsStep, LineStep, OfNode, trace_over}
use Rattle.app_pair.specs.PairNumbers.{change_own, own_numbers}
use Rattle.app_pair.specs.PairSpec.{KeepsCaptures, StaysAtPort, by_port, one_of_two, own_part, own_snapshot, pair_spec, spec_at}
use Rattle.pair_laws.specs.PairLines.{Changes, Happens, IsPairStep, PairSpeaksOnLines, PairStep, PairTraceConforms, own_model, own_pages}
use Rattle.pair_laws.specs.PairLines.{pair_model, pair_trace, with_changed}
use Rattle.app_pair.specs.Lemmas.NumberLaws.{own_u32, with_own_u32}
use Rattle.app_pair.specs.Lemmas.PairLaws.{at_each_port, at_each_state, at_state, by_port_keeps, by_port_lawful_at, one_captures}
use Rattle.app_pair.specs.Lemmas.PairLaws.{one_lawful_at, pair_port, sees_acked, sees_connected, sees_newdata, sees_polled, sees_prepare}

captures_of : (m : AppSpec) → IsSteady m → KeepsCaptures m
captures_of m steady = record {
  connected = steady.connected_snapshots;
  newdata = steady.newdata_snapshots;
  prepare = steady.prepare_snapshots;
  acked = steady.acked_snapshots;
  polled = steady.polled_snapshots;
}

-- q is a state of this kind, and its input is this text
abbrev HasText : (AppState → Bool) → AppState → List ℕ → Type 0
HasText here q text = (here q ≡ true) × (q.input ≡ text)

-- ---- one of two

module _ (second : Bool) (m : AppSpec) where
  one_steady : IsSteady m → IsSteady (one_of_two second m)
  one_steady steady =
      let lawful = λ (p : AppState). one_lawful_at second m (captures_of m steady) p (at_state m (λ q. Unit {0}) steady.lawful (own_part second p) tt) in
      let keeps = one_captures second m in
      record {
        lawful = at_each_state (one_of_two second m) (λ p. Unit {0}) (λ p s. lawful p);
        connected_acked = λ numbers port. steady.connected_acked (own_numbers second numbers) port;
        connected_snapshots = keeps.connected;
        newdata_snapshots = keeps.newdata;
        prepare_snapshots = keeps.prepare;
        acked_snapshots = keeps.acked;
        polled_snapshots = keeps.polled;
        connected_numbers = λ numbers port h. with_own_u32 second _ numbers (steady.connected_numbers (own_numbers second numbers) port
            (own_u32 second numbers h)) h;
        newdata_numbers = λ numbers p piece h. with_own_u32 second _ numbers (steady.newdata_numbers (own_numbers second numbers)
            (own_part second p) piece (own_u32 second numbers h)) h;
        acked_numbers = λ numbers p n h. with_own_u32 second _ numbers (steady.acked_numbers (own_numbers second numbers)
            (own_part second p) n (own_u32 second numbers h)) h;
        polled_numbers = λ numbers p h. with_own_u32 second _ numbers (steady.polled_numbers (own_numbers second numbers)
            (own_part second p) (own_u32 second numbers h)) h;
        ended_numbers = λ numbers p how h. with_own_u32 second _ numbers (steady.ended_numbers (own_numbers second numbers)
            (own_part second p) how (own_u32 second numbers h)) h;
      }

  own_snapshots : (ks : List Snapshot) → All IsSnapshot ks → All IsSnapshot (map (own_snapshot second) ks)
  own_snapshots [] h = All-nil IsSnapshot
  own_snapshots (k ∷ ks) h =
      let first = All-head IsSnapshot k ks h in
      All-cons IsSnapshot (own_snapshot second k) (map (own_snapshot second) ks) record { numbers = own_u32 second k.numbers first.numbers; now = first.now }
      (own_snapshots ks (All-tail IsSnapshot k ks h))

  one_bytes : SendsBytes m → SendsBytes (one_of_two second m)
  one_bytes bytes = record {
    output = λ p h k. bytes.output (own_part second p) h (own_snapshots p.snapshots k);
    connected = λ numbers port. bytes.connected (own_numbers second numbers) port;
    newdata = λ numbers p piece h k. bytes.newdata (own_numbers second numbers) (own_part second p) piece h k;
    prepare = λ numbers p now h. bytes.prepare (own_numbers second numbers) (own_part second p) now h;
    acked = λ numbers p n h. bytes.acked (own_numbers second numbers) (own_part second p) n h;
    polled = λ numbers p h. bytes.polled (own_numbers second numbers) (own_part second p) h;
  }

  module _ (captures : KeepsCaptures m) where
    one_follows : (port : ℕ) (pages : Pages) → FollowsPagesAt m port pages → FollowsPagesAt (one_of_two second m) port (own_pages second pages)
    one_follows port pages h =
        let seen : List Snapshot → List Snapshot = λ ks. map (own_snapshot second) ks in
        let joined = λ (ks later : List Snapshot). sym (map-append (own_snapshot second) ks later) in
        record {
          grows = λ q more k later.
              subst (λ (l : List Snapshot). IsPrefixOf (pages.page q (seen k)) (pages.page (q ++ more) l)) (joined k later)
              (h.grows q more (seen k) (seen later));
          stays = λ q more k later e.
              subst (λ (l : List Snapshot). pages.page (q ++ more) l ≡ pages.page q (seen k)) (joined k later) (h.stays q more (seen k) (seen later) e);
          stays_complete = λ q more k later e.
              subst (λ (l : List Snapshot). pages.complete (q ++ more) l ≡ true) (joined k later) (h.stays_complete q more (seen k) (seen later) e);
          here = λ p. h.here (own_part second p);
          lost = λ p. h.lost (own_part second p);
          output = λ p e. h.output (own_part second p) e;
          connected = λ numbers.
              subst (λ (x : AppState). HasText h.here x []) (sym (sees_connected second m captures numbers port)) (h.connected (own_numbers second numbers));
          newdata = λ numbers p piece e.
              let a = subst (λ (x : AppState). AcceptsPrefix h.here h.lost (own_part second p) x piece) (sym (sees_newdata second m captures numbers p piece))
              (h.newdata (own_numbers second numbers) (own_part second p) piece e) in
              record { prefix = a.prefix; rest = a.rest; joined = a.joined; input = a.input; all = a.all; no_more = a.no_more };
          prepare = λ numbers p now e.
              subst (λ (x : AppState). LeavesDelivered h.here h.lost (own_part second p) x) (sym (sees_prepare second m captures numbers p now))
              (h.prepare (own_numbers second numbers) (own_part second p) now e);
          acked = λ numbers p n e.
              subst (λ (x : AppState). LeavesDelivered h.here h.lost (own_part second p) x) (sym (sees_acked second m captures numbers p n))
              (h.acked (own_numbers second numbers) (own_part second p) n e);
          polled = λ numbers p e.
              subst (λ (x : AppState). LeavesDelivered h.here h.lost (own_part second p) x) (sym (sees_polled second m captures numbers p))
              (h.polled (own_numbers second numbers) (own_part second p) e);
          closes = λ numbers p e fits w. h.closes (own_numbers second numbers) (own_part second p) e fits w;
        }

    one_paged : (port : ℕ) (pages : Pages) → IsPagedAt m port pages → IsPagedAt (one_of_two second m) port (own_pages second pages)
    unfolding one_follows
    one_paged port pages h = record {
      follows = one_follows port pages h.follows;
      accepts_all = λ p. h.accepts_all (own_part second p);
      short = λ q k are. h.short q (map (own_snapshot second) k) (own_snapshots k are);
    }

    one_model : (port : ℕ) (model : OutputModel) → FollowsModelAt m port model → FollowsModelAt (one_of_two second m) port (own_model second model)
    one_model port (Paged pages) h = one_paged port pages h
    one_model port (Interactive sessions) h = one_follows port sessions h
    one_model port Free h = tt

-- ---- by port

both : (a b : Bool) → a ≡ true → b ≡ true → (a && b) ≡ true
both true true e f = refl
both true false e f = f
both false b e f = e

module _ (at : ℕ → AppSpec) (keeps : (port : ℕ) → StaysAtPort (at port)) where
  by_port_steady : ((port : ℕ) → IsSteady (at port)) → IsSteady (by_port at)
  by_port_steady steady =
      let lawful : IsLawful (by_port at) (λ p. Unit {0}) =
      at_each_state (by_port at) (λ p. Unit {0}) (λ p s. by_port_lawful_at at keeps p (at_state (at p.port) (λ q. Unit {0}) (steady p.port).lawful p s)) in
      search (rules, lawful, steady)

  by_port_bytes : ((port : ℕ) → SendsBytes (at port)) → SendsBytes (by_port at)
  by_port_bytes bytes = search (rules, bytes)

  module _ (port : ℕ) where
    abbrev here_at : (AppState → Bool) → AppState → Bool
    here_at here p = p.port == port && here p

    port_of : (here : AppState → Bool) (p : AppState) → here_at here p ≡ true → p.port ≡ port
    port_of here p e = eqb-true p.port port (and_parts (p.port == port) (here p) e).0

    here_of : (here : AppState → Bool) (p : AppState) → here_at here p ≡ true → here p ≡ true
    here_of here p e = (and_parts (p.port == port) (here p) e).1

    -- the application there, in the place of that of the state's port
    there : (P : AppSpec → Type 0) (p : AppState) → p.port ≡ port → P (at port) → P (at p.port)
    there P p e x = subst (λ (n : ℕ). P (at n)) (sym e) x

    stays_here : (here : AppState → Bool) (q : AppState) (text : List ℕ) → q.port ≡ port → HasText here q text → HasText (here_at here) q text
    stays_here here q text e h = (both (q.port == port) (here q) (eq-eqb q.port port e) h.0, h.1)

    leaves : (here lost : AppState → Bool) (p q : AppState) → q.port ≡ port → LeavesDelivered here lost p q → LeavesDelivered (here_at here) lost p q
    leaves here lost p q e h = (stays_here here q p.input e h.0, h.1)

    by_port_follows : (pages : Pages) → FollowsPagesAt (at port) port pages → FollowsPagesAt (by_port at) port pages
    by_port_follows pages h = record {
      grows = h.grows;
      stays = h.stays;
      stays_complete = h.stays_complete;
      here = here_at h.here;
      lost = h.lost;
      output = λ p e. there (λ (m : AppSpec). m.output p ≡ pages.page p.input p.snapshots) p (port_of h.here p e) (h.output p (here_of h.here p e));
      connected = λ numbers. stays_here h.here _ [] ((keeps port).connected numbers port) (h.connected numbers);
      newdata = λ numbers p piece e.
          let q : AppState = ((by_port at).newdata numbers p piece).part in
          let a = there (λ (m : AppSpec). AcceptsPrefix h.here h.lost p (m.newdata numbers p piece).part piece) p (port_of h.here p e)
          (h.newdata numbers p piece (here_of h.here p e)) in
          record {
            prefix = a.prefix;
            rest = a.rest;
            joined = a.joined;
            input = stays_here h.here q (p.input ++ a.prefix) ((keeps p.port).newdata numbers p piece ∙ port_of h.here p e) a.input;
            all = a.all;
            no_more = a.no_more;
          };
      prepare = λ numbers p now e.
          leaves h.here h.lost p ((by_port at).prepare numbers p now) ((keeps p.port).prepare numbers p now ∙ port_of h.here p e)
          (there (λ (m : AppSpec). LeavesDelivered h.here h.lost p (m.prepare numbers p now)) p (port_of h.here p e)
          (h.prepare numbers p now (here_of h.here p e)));
      acked = λ numbers p n e.
          leaves h.here h.lost p ((by_port at).acked numbers p n).part ((keeps p.port).acked numbers p n ∙ port_of h.here p e)
          (there (λ (m : AppSpec). LeavesDelivered h.here h.lost p (m.acked numbers p n).part) p (port_of h.here p e)
          (h.acked numbers p n (here_of h.here p e)));
      polled = λ numbers p e.
          leaves h.here h.lost p ((by_port at).polled numbers p).part ((keeps p.port).polled numbers p ∙ port_of h.here p e)
          (there (λ (m : AppSpec). LeavesDelivered h.here h.lost p (m.polled numbers p).part) p (port_of h.here p e) (h.polled numbers p (here_of h.here p e)));
      closes = λ numbers p e.
          there (λ (m : AppSpec). p.acked ≤ length (m.output p) → m.want numbers p ≡ Close → MayWant pages p Close) p (port_of h.here p e)
          (h.closes numbers p (here_of h.here p e));
    }

    by_port_paged : (pages : Pages) → IsPagedAt (at port) port pages → IsPagedAt (by_port at) port pages
    unfolding by_port_follows
    by_port_paged pages h = record { follows = by_port_follows pages h.follows; accepts_all = h.accepts_all; short = h.short }

    by_port_model : (model : OutputModel) → FollowsModelAt (at port) port model → FollowsModelAt (by_port at) port model
    by_port_model (Paged pages) h = by_port_paged pages h
    by_port_model (Interactive sessions) h = by_port_follows sessions h
    by_port_model Free h = tt

-- ---- the pair

pub speaks_on_lines : PairSpeaksOnLines
speaks_on_lines second m n firsts seconds x y =
    let at : ℕ → AppSpec = spec_at second m n in
    let keeps = pair_port second m n x.port y.port in
    record {
      steady = by_port_steady at keeps (at_each_port second m n IsSteady (one_steady false m x.steady) (one_steady true n y.steady));
      bytes = by_port_bytes at keeps (at_each_port second m n SendsBytes (one_bytes false m x.bytes) (one_bytes true n y.bytes));
      speaks = λ port. by_port_model at keeps port (pair_model second firsts seconds port) (model_at port (second port));
      port = by_port_keeps at keeps;
    }
  where
    model_at : (port : ℕ) (b : Bool) → FollowsModelAt (if b then one_of_two true n else one_of_two false m) port
        (if b then own_model true (seconds port) else own_model false (firsts port))
    model_at port true = one_model true n (captures_of n y.steady) port (seconds port) (y.speaks port)
    model_at port false = one_model false m (captures_of m x.steady) port (firsts port) (x.speaks port)

-- ---- a trace

abbrev steps_of : List PairStep → List LineStep
steps_of [] = []
steps_of (Happens event ∷ steps) = OfNode event ∷ steps_of steps
steps_of (Changes second change ∷ steps) = ChangesAll (change_own second change) ∷ steps_of steps

same_trace : (m : AppSpec) (served : ℕ → Bool) (steps : List PairStep) (n : AbstractNode) → trace_over m served (steps_of steps) n ≡ pair_trace m served steps n
same_trace m served [] n = refl
same_trace m served (Happens event ∷ steps) n =
    ap (λ l. record { event = event; sent = (step m served n event).sent } ∷ l) (same_trace m served steps (step m served n event).node)
same_trace m served (Changes second change ∷ steps) n = same_trace m served steps (with_changed second change n)

all_steps : (own : Addr) (steps : List PairStep) → All (IsPairStep own) steps → All (IsStep own) (steps_of steps)
all_steps own [] h = All-nil (IsStep own)
all_steps own (Happens event ∷ steps) h =
    All-cons (IsStep own) (OfNode event) (steps_of steps) (All-head (IsPairStep own) (Happens event) steps h)
    (all_steps own steps (All-tail (IsPairStep own) (Happens event) steps h))
all_steps own (Changes second change ∷ steps) h =
    All-cons (IsStep own) (ChangesAll (change_own second change)) (steps_of steps)
    (λ numbers are. with_own_u32 second (change (own_numbers second numbers)) numbers
    (All-head (IsPairStep own) (Changes second change) steps h (own_numbers second numbers) (own_u32 second numbers are)) are)
    (all_steps own steps (All-tail (IsPairStep own) (Changes second change) steps h))

pub trace_conforms : PairTraceConforms
trace_conforms second m n firsts seconds x y served own is numbers words steps are =
    let all = speaks_on_lines second m n firsts seconds x y in
    let model : ℕ → OutputModel = pair_model second firsts seconds in
    subst (λ (l : List TraceEntry). TraceConforms model served l × All (IsDecoded own) l) (same_trace (pair_spec second m n) served steps
    (initial_node own numbers))
    (every_step (pair_spec second m n) model all.steady all.bytes all.speaks served own is numbers words (steps_of steps) (all_steps own steps are))
