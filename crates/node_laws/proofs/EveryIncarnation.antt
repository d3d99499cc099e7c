-- Every incarnation with every peer.
use Rattle.node_laws.proofs.Prelude.{All, option_map_or, ◌≡◌, ℕ, zero, suc, ◌<◌, length, drop, Bool, true, false, inl, inr, List, [], ◌∷◌}
use Rattle.node_laws.proofs.Prelude.{◌++◌, replicate, refl, sym, ap, ◌∙◌, subst, arith, Option, Some, None, if◌then◌else◌, All-head}
use Rattle.node_laws.proofs.Prelude.{All-tail, Addr, AppSpec, IsU32, PlainSegment, has_rst, has_syn, SYN, Sockets, Connection, closed}
use Rattle.node_laws.proofs.Prelude.{is_live, is_plain_syn, segment_of, syn_ack, Outcome, asked, accepted, on_segment, on_tick, Event}
use Rattle.node_laws.proofs.Prelude.{AbstractNode, initial_node, step, serving, IsEvent, both_ways, eqb-eq, only_some, FitNode, closed_fits}
use Rattle.node_laws.proofs.Prelude.{event_fits, FitConn, all_nil, all_cons, none_serves, all_closed, Single, serving_free, IsSteady}
use Rattle.node_laws.proofs.Prelude.{HasOutputModel, FollowsModelAt, Exchange, exchange, exchanges_onto, exchanges_with, is_opening}
use Rattle.node_laws.proofs.Prelude.{is_empty, is_incarnation, IsIncarnationIn, Account, AccountHolds, TextConforms, IncarnationConforms}
use Rattle.node_laws.proofs.Prelude.{IsExtendedBy, OutputModel, IsWithoutReset, ContinuesUnreset, IsSolicited, NothingUnsolicited}
use Rattle.node_laws.proofs.Prelude.{OpensServed}
use Rattle.node_laws.proofs.Steps.{LineStep, OfNode, Changes, IsStep, changed, trace_over}
use Rattle.node_laws.proofs.Wire.{line_wire, wire_event}
use Rattle.node_laws.proofs.Replying.{answer_no_syn, rst_silent, rst_ends, reset_ends, tick_reset_ends}
use Rattle.node_laws.proofs.Lines.{OfMedium, Comes, comes, left_of}
use Rattle.node_laws.proofs.Lines.OfMedium.{passes_by, evicted, unanswered, refused, born, delivers_text, ticks}
use Rattle.node_laws.proofs.IncarnationStep.{Good, Onward, goes_on, begins_by}
use Rattle.node_laws.proofs.Receiving.{keeps_account, keeps_text}

cons_head : {X : Type 0} (x y : X) (xs ys : List X) → x ∷ xs ≡ y ∷ ys → x ≡ y
cons_head x y xs ys e = cc

cons_tail : {X : Type 0} (x y : X) (xs ys : List X) → x ∷ xs ≡ y ∷ ys → xs ≡ ys
cons_tail x y xs ys e = cc

empty_is : (xs : List Exchange) → is_empty xs ≡ true → xs ≡ []
empty_is [] h = refl
empty_is (x ∷ xs) h = absurd (cc)

-- an incarnation continues at its newest end
life_on : (x : Exchange) (so_far : List Exchange) → is_opening x ≡ false → IsWithoutReset x → ContinuesUnreset so_far → ContinuesUnreset (x ∷ so_far)
life_on x so_far o q h = record {
  incarnation = x ∷ h.incarnation;
  older = h.older;
  split = ap (λ l. x ∷ l) h.split;
  is = ap (λ b. if b then is_empty h.incarnation else is_incarnation h.incarnation) o ∙ h.is;
  unreset = all_cons IsWithoutReset x h.incarnation q h.unreset;
}

life_new : (x : Exchange) (so_far : List Exchange) → is_opening x ≡ true → IsWithoutReset x → ContinuesUnreset (x ∷ so_far)
life_new x so_far o q = record {
  incarnation = x ∷ [];
  older = so_far;
  split = refl;
  is = ap (λ b. if b then is_empty [] else is_incarnation []) o;
  unreset = all_cons IsWithoutReset x [] q (all_nil IsWithoutReset);
}

-- a step: its life, and that it is asked for
module _ (m : AppSpec) (served : ℕ → Bool) (p : Sockets) where
  plain_no_rst : (s : PlainSegment) → is_plain_syn s ≡ true → has_rst s.flags ≡ false
  plain_no_rst s h = ap has_rst (let q : s.flags ≡ SYN = eqb-eq s.flags SYN h in q)

  left_live : (d : Connection) → is_live (left_of d).state ≡ true → is_live d.state ≡ true
  left_live d l = both_ways (is_live d.state) (λ e. e)
      (λ e. absurd (let z : is_live (left_of d).state ≡ false = ap (λ b. is_live (if b then d else closed).state) e in cc))

  -- no RST passes where the connection lives on
  clean : (c d : Connection) (x : Exchange) → OfMedium m served p c d x → is_live d.state ≡ true → IsWithoutReset x
  clean c d x does l = elim does [
    | passes_by e f ↦ record {
      received = λ s q. absurd (let z : None ≡ Some s = sym (ap (λ y. y.received) e) ∙ q in cc);
      output = λ s q. absurd (let z : None ≡ Some s = sym (ap (λ y. y.output) e) ∙ q in cc);
    }
    | evicted e f ↦ absurd (let z : is_live d.state ≡ false = ap (λ y. is_live y.state) f in cc)
    | unanswered s q e f ↦ absurd (let z : is_live d.state ≡ false = ap (λ y. is_live y.state) f ∙ q in cc)
    | refused s r q e f ↦ absurd (let z : is_live d.state ≡ false = ap (λ y. is_live y.state) f ∙ q in cc)
    | born iss s plain port fit e f ↦ record {
      received = λ t q. only_some (λ y. has_rst y.flags ≡ false) s t (sym (ap (λ y. y.received) e) ∙ q) (plain_no_rst s plain);
      output = λ t q. only_some (λ y. has_rst y.flags ≡ false) (syn_ack (accepted iss p s)) t (sym (ap (λ y. y.output) e) ∙ q) refl;
    }
    | delivers_text s numbers at alive fit words is h ↦ (let o : Outcome = asked m at (on_segment m c numbers s) in
        let k : is_live o.connection.state ≡ true = left_live o.connection (sym (ap (λ y. is_live y.state) h.1) ∙ l) in
        record {
          received = λ t q. only_some (λ y. has_rst y.flags ≡ false) s t (sym (ap (λ y. y.received) h.0) ∙ q)
              (both_ways (has_rst s.flags) (λ r. absurd (let z = rst_ends m at c numbers s r in cc)) (λ r. r));
          output = λ t q. both_ways (has_rst t.flags) (λ r. absurd (let z = reset_ends m at c numbers s t (sym (ap (λ y. y.output) h.0) ∙ q) r in cc)) (λ r. r);
        })
    | ticks numbers at alive fit words is h ↦ (let o : Outcome = asked m at (on_tick m c numbers) in
        let k : is_live o.connection.state ≡ true = left_live o.connection (sym (ap (λ y. is_live y.state) h.1) ∙ l) in
        record {
          received = λ t q. absurd (let z : None ≡ Some t = sym (ap (λ y. y.received) h.0) ∙ q in cc);
          output = λ t q. both_ways (has_rst t.flags)
              (λ r. absurd (let z = tick_reset_ends m at c numbers t (sym (ap (λ y. y.output) h.0) ∙ q) r in cc)) (λ r. r);
        })
  ]

  lives_on : (c d : Connection) (x : Exchange) (so_far : List Exchange) → OfMedium m served p c d x
      → (is_live c.state ≡ true → ContinuesUnreset so_far) → is_live d.state ≡ true → ContinuesUnreset (x ∷ so_far)
  lives_on c d x so_far does h l =
      both_ways (is_opening x) (λ o. life_new x so_far o (clean c d x does l))
      (λ o. life_on x so_far o (clean c d x does l) (elim does [
        | passes_by e f ↦ h (sym (ap (λ z. is_live z.state) f) ∙ l)
        | evicted e f ↦ absurd (let z : is_live d.state ≡ false = ap (λ y. is_live y.state) f in cc)
        | unanswered s q e f ↦ absurd (let z : is_live d.state ≡ false = ap (λ y. is_live y.state) f ∙ q in cc)
        | refused s r q e f ↦ absurd (let z : is_live d.state ≡ false = ap (λ y. is_live y.state) f ∙ q in cc)
        | born iss s plain port fit e f ↦ absurd (let z : is_opening x ≡ true = ap (λ y. is_opening y) e in cc)
        | delivers_text s numbers at alive fit words is q ↦ h alive
        | ticks numbers at alive fit words is q ↦ h alive
      ]))

  asked_for : (c d : Connection) (x : Exchange) (so_far : List Exchange) → OfMedium m served p c d x
      → (is_live c.state ≡ true → ContinuesUnreset so_far) → IsSolicited x so_far
  asked_for c d x so_far does h s q = elim does [
    | passes_by e f ↦ absurd (let z : None ≡ Some s = sym (ap (λ y. y.output) e) ∙ q in cc)
    | evicted e f ↦ absurd (let z : None ≡ Some s = sym (ap (λ y. y.output) e) ∙ q in cc)
    | unanswered t l e f ↦ absurd (let z : None ≡ Some s = sym (ap (λ y. y.output) e) ∙ q in cc)
    | refused t r l e f ↦ inl (t, ap (λ y. y.received) e, r)
    | born iss t plain port fit e f ↦ inl (t, ap (λ y. y.received) e, plain_no_rst t plain)
    | delivers_text t numbers at alive fit words is w ↦
        inl (
          t,
          ap (λ y. y.received) w.0,
          both_ways (has_rst t.flags)
              (λ r. absurd (let z : None ≡ Some s = sym (rst_silent m at c numbers t r) ∙ sym (ap (λ y. y.output) w.0) ∙ q in cc))
              (λ r. r),
        )
    | ticks numbers at alive fit words is w ↦ inr (ap (λ y. y.received) w.0, h alive)
  ]

  no_opening : (output : Option PlainSegment) → ((t : PlainSegment) → output ≡ Some t → has_syn t.flags ≡ false)
      → option_map_or (λ s. has_syn s.flags) output false ≡ false
  no_opening None h = refl
  no_opening (Some t) h = h t refl

  opens_served : (c d : Connection) (x : Exchange) → OfMedium m served p c d x → is_opening x ≡ true → served p.own_port.0 ≡ true
  opens_served c d x does o = elim does [
    | passes_by e f ↦ absurd (let z : is_opening x ≡ false = ap (λ y. is_opening y) e in cc)
    | evicted e f ↦ absurd (let z : is_opening x ≡ false = ap (λ y. is_opening y) e in cc)
    | unanswered s l e f ↦ absurd (let z : is_opening x ≡ false = ap (λ y. is_opening y) e in cc)
    | refused s r l e f ↦ absurd (let z : is_opening x ≡ false = ap (λ y. is_opening y) e in cc)
    | born iss s plain port fit e f ↦ port
    | delivers_text s numbers at alive fit words is h ↦
        (let oo : Outcome = asked m at (on_segment m c numbers s) in
        absurd (let z : is_opening x ≡ false = ap (λ y. is_opening y) h.0 ∙ no_opening (segment_of m oo.connection oo.step)
        (λ t q. answer_no_syn m at c numbers s t q) in cc))
    | ticks numbers at alive fit words is h ↦ absurd (let z : is_opening x ≡ false = ap (λ y. is_opening y) h.0 in cc)
  ]

  ports_on : (x : Exchange) (so_far : List Exchange) → (is_opening x ≡ true → served p.own_port.0 ≡ true) → OpensServed served p so_far
      → OpensServed served p (x ∷ so_far)
  ports_on x so_far a h [] y before e o = a (ap (λ z. is_opening z) (cons_head x y so_far before e) ∙ o)
  ports_on x so_far a h (w ∷ later) y before e o = h later y before (cons_tail x w so_far (later ++ (y ∷ before)) e) o

  asked_on : (x : Exchange) (so_far : List Exchange) → IsSolicited x so_far → NothingUnsolicited so_far → NothingUnsolicited (x ∷ so_far)
  asked_on x so_far a h [] y before e =
      subst (λ z. IsSolicited z before) (cons_head x y so_far before e) (subst (λ z. IsSolicited x z) (cons_tail x y so_far before e) a)
  asked_on x so_far a h (w ∷ later) y before e = h later y before (cons_tail x w so_far (later ++ (y ∷ before)) e)

-- the result of the whole run
pub record Ends (model : OutputModel) (served : ℕ → Bool) (p : Sockets) (so_far : List Exchange) : Type 0 where
  pub incarnations : (incarnation : List Exchange) → IsIncarnationIn so_far incarnation → IncarnationConforms model incarnation
  pub asked : NothingUnsolicited so_far
  pub ports : OpensServed served p so_far

module _ (m : AppSpec) (steady : IsSteady m) (port : ℕ) (model : OutputModel) (laws : FollowsModelAt m port model) (served : ℕ → Bool)
    (p : Sockets) (here : p.own_port.0 ≡ port) where
  -- a life at its present moment, and its promise
  record Current (c : Connection) (incarnation : List Exchange) : Type 0 where
    good : Good m steady port model laws c incarnation
    promise : IncarnationConforms model incarnation
    newest : promise.account 0 ≡ good.kept.account

  -- an account before the older ones
  abbrev with_newest : Account → (ℕ → Account) → ℕ → Account
  with_newest a old zero = a
  with_newest a old (suc back) = old back

  born_current : (d : Connection) (x : Exchange) → Good m steady port model laws d (x ∷ []) → Current d (x ∷ [])
  born_current d x g = record {
    good = g;
    promise = record {
      account = λ back. g.kept.account;
      holds = only;
      conforms = only_text;
      grows = λ back l. absurd (omega (arith, l));
    };
    newest = refl;
  }
    where
      only : (back : ℕ) → back < 1 → AccountHolds (drop back (x ∷ [])) g.kept.account
      only zero l = keeps_account model (x ∷ []) g.kept
      only (suc back) l = absurd (omega (arith, l))

      only_text : (back : ℕ) → back < 1 → TextConforms model (drop back (x ∷ [])) g.kept.account
      only_text zero l = keeps_text m port model laws (x ∷ []) g.kept
      only_text (suc back) l = absurd (omega (arith, l))

  current_longer : (c d : Connection) (x : Exchange) (incarnation : List Exchange) (v : Current c incarnation)
      → Onward m steady port model laws c incarnation v.good d x → Current d (x ∷ incarnation)
  current_longer c d x incarnation v o = record {
    good = o.good;
    promise = record { account = with_newest o.good.kept.account v.promise.account; holds = keeps_on; conforms = reports_on; grows = grows_on };
    newest = refl;
  }
    where
      keeps_on : (back : ℕ) → back < length (x ∷ incarnation) → AccountHolds (drop back (x ∷ incarnation))
          (with_newest o.good.kept.account v.promise.account back)
      keeps_on zero l = keeps_account model (x ∷ incarnation) o.good.kept
      keeps_on (suc back) l = v.promise.holds back (omega (arith, l))

      reports_on : (back : ℕ) → back < length (x ∷ incarnation) → TextConforms model (drop back (x ∷ incarnation))
          (with_newest o.good.kept.account v.promise.account back)
      reports_on zero l = keeps_text m port model laws (x ∷ incarnation) o.good.kept
      reports_on (suc back) l = v.promise.conforms back (omega (arith, l))

      grows_on : (back : ℕ) → suc back < length (x ∷ incarnation)
          → IsExtendedBy (with_newest o.good.kept.account v.promise.account (suc back)) (with_newest o.good.kept.account v.promise.account back)
      grows_on zero l = subst (λ a. IsExtendedBy a o.good.kept.account) (sym v.newest) o.grew
      grows_on (suc back) l = v.promise.grows back (omega (arith, l))

  record Inv (n : AbstractNode) (so_far : List Exchange) : Type 0 where
    single : Single n.connections
    fit : FitNode n
    current : (incarnation before : List Exchange) → so_far ≡ incarnation ++ before → is_incarnation incarnation ≡ true
        → Current (serving p n.connections) incarnation
    ever : (later incarnation before : List Exchange) → so_far ≡ later ++ (incarnation ++ before) → is_incarnation incarnation ≡ true
        → IncarnationConforms model incarnation
    incarnations : is_live (serving p n.connections).state ≡ true → ContinuesUnreset so_far
    asked : NothingUnsolicited so_far
    ports : OpensServed served p so_far

  -- the incarnation that continues, one exchange longer
  current_on : (c d : Connection) (x : Exchange) (so_far : List Exchange) → OfMedium m served p c d x
      → ((incarnation before : List Exchange) → so_far ≡ incarnation ++ before → is_incarnation incarnation ≡ true → Current c incarnation) →
      (incarnation before : List Exchange) → x ∷ so_far ≡ incarnation ++ before → is_incarnation incarnation ≡ true → Current d incarnation
  current_on c d x so_far does h [] before e l = absurd (cc)
  current_on c d x so_far does h (y ∷ older) before e l =
      let head : x ≡ y = cons_head x y so_far (older ++ before) e in
      let tail : so_far ≡ older ++ before = cons_tail x y so_far (older ++ before) e in
      subst (λ z. Current d (z ∷ older)) head
      (both_ways (is_opening y)
      (λ o. let none : older ≡ [] = empty_is older (sym (ap (λ b. if b then is_empty older else is_incarnation older) o) ∙ l) in
      subst (λ z. Current d (x ∷ z)) (sym none)
      (born_current d x (begins_by m steady port model laws served p here c d x does (ap (λ z. is_opening z) head ∙ o))))
      (λ o. let incarnations : is_incarnation older ≡ true = sym (ap (λ b. if b then is_empty older else is_incarnation older) o) ∙ l in
      let v : Current c older = h older before tail incarnations in
      current_longer c d x older v (goes_on m steady port model laws served p here c d x older does (ap (λ z. is_opening z) head ∙ o) v.good)))

  ever_on : (d : Connection) (x : Exchange) (so_far : List Exchange)
      → ((incarnation before : List Exchange) → x ∷ so_far ≡ incarnation ++ before → is_incarnation incarnation ≡ true → Current d incarnation) →
      ((later incarnation before : List Exchange) → so_far ≡ later ++ (incarnation ++ before) → is_incarnation incarnation ≡ true
      → IncarnationConforms model incarnation) →
      (later incarnation before : List Exchange) → x ∷ so_far ≡ later ++ (incarnation ++ before) → is_incarnation incarnation ≡ true
      → IncarnationConforms model incarnation
  ever_on d x so_far h g [] incarnation before e l = (h incarnation before e l).promise
  ever_on d x so_far h g (y ∷ later) incarnation before e l = g later incarnation before (cons_tail x y so_far (later ++ (incarnation ++ before)) e) l

  step_inv : (n : AbstractNode) (so_far : List Exchange) (event : Event) → IsEvent event → Inv n so_far → Inv (step m served n event).node
      (exchange p event (step m served n event).sent ∷ so_far)
  step_inv n so_far event is i =
      let c : Comes m served n event (step m served n event) = comes m served steady n event is i.single i.fit in
      let x : Exchange = exchange p event (step m served n event).sent in
      let now = current_on (serving p n.connections) (serving p (step m served n event).node.connections) x so_far (c.each p) i.current in
      record {
        single = c.single;
        fit = event_fits m steady served n event is i.fit;
        current = now;
        ever = ever_on (serving p (step m served n event).node.connections) x so_far now i.ever;
        incarnations = lives_on m served p (serving p n.connections) (serving p (step m served n event).node.connections) x so_far (c.each p) i.incarnations;
        asked = asked_on m served p x so_far (asked_for m served p (serving p n.connections)
            (serving p (step m served n event).node.connections) x so_far (c.each p) i.incarnations) i.asked;
        ports = ports_on m served p x so_far (opens_served m served p (serving p n.connections)
            (serving p (step m served n event).node.connections) x (c.each p)) i.ports;
      }

  -- the numbers of the application were changed
  changed_inv : (n : AbstractNode) (so_far : List Exchange) (change : List ℕ → List ℕ) → ((numbers : List ℕ) → All IsU32 numbers → All IsU32 (change numbers))
      → Inv n so_far → Inv (changed change n) so_far
  changed_inv n so_far change words i = record {
    single = i.single;
    fit = record { size = i.fit.size; conns = i.fit.conns; numbers = words n.numbers i.fit.numbers };
    current = i.current;
    ever = i.ever;
    incarnations = i.incarnations;
    asked = i.asked;
    ports = i.ports;
  }

  run_inv : (own : Addr) (steps : List LineStep) (n : AbstractNode) (so_far : List Exchange) → All (IsStep own) steps → Inv n so_far
      → Ends model served p (exchanges_onto p (trace_over m served steps n) so_far)
  run_inv own [] n so_far a i = record { incarnations = λ incarnation l. i.ever l.later incarnation l.before l.split l.is; asked = i.asked; ports = i.ports }
  run_inv own (OfNode e ∷ steps) n so_far a i =
      run_inv own steps (step m served n e).node (exchange p e (step m served n e).sent ∷ so_far) (All-tail (IsStep own) (OfNode e) steps a)
      (step_inv n so_far e (wire_event e (line_wire own e (All-head (IsStep own) (OfNode e) steps a))) i)
  run_inv own (Changes change ∷ steps) n so_far a i =
      run_inv own steps (changed change n) so_far (All-tail (IsStep own) (Changes change) steps a)
      (changed_inv n so_far change (All-head (IsStep own) (Changes change) steps a) i)

  no_life : (incarnation before : List Exchange) → [] ≡ incarnation ++ before → is_incarnation incarnation ≡ true → ⊥
  no_life [] before e l = absurd (cc)
  no_life (x ∷ incarnation) before e l = absurd (cc)

  no_life_later : (later incarnation before : List Exchange) → [] ≡ later ++ (incarnation ++ before) → is_incarnation incarnation ≡ true → ⊥
  no_life_later [] incarnation before e l = no_life incarnation before e l
  no_life_later (x ∷ later) incarnation before e l = absurd (cc)

  no_exchange : (later : List Exchange) (x : Exchange) (before : List Exchange) → [] ≡ later ++ (x ∷ before) → ⊥
  no_exchange [] x before e = absurd (cc)
  no_exchange (y ∷ later) x before e = absurd (cc)

  opening_inv : (addr : Addr) (numbers : List ℕ) → All IsU32 numbers → Inv (initial_node addr numbers) []
  opening_inv addr numbers w = record {
    single = λ q i j x y a b u v. absurd (let z = none_serves 10 q i x a in cc);
    fit = record { size = omega arith; conns = λ i x y. subst FitConn (all_closed 10 i x y) closed_fits; numbers = w };
    current = λ incarnation before e l. absurd (no_life incarnation before e l);
    ever = λ later incarnation before e l. absurd (no_life_later later incarnation before e l);
    incarnations = λ l. absurd (let z : is_live (serving p (replicate 10 closed)).state ≡ false = ap (λ c. is_live c.state)
        (serving_free (replicate 10 closed) p (none_serves 10 p)) in cc);
    asked = λ later x before e. absurd (no_exchange later x before e);
    ports = λ later x before e o. absurd (no_exchange later x before e);
  }

pub session_ends : (m : AppSpec) (model : ℕ → OutputModel) → IsSteady m → (speaks : HasOutputModel m model) (served : ℕ → Bool) (own : Addr)
    (numbers : List ℕ) → All IsU32 numbers → (steps : List LineStep) → All (IsStep own) steps → (p : Sockets)
    → Ends (model p.own_port.0) served p (exchanges_with p (trace_over m served steps (initial_node own numbers)))
session_ends m model steady speaks served own numbers w steps a p =
    let port : ℕ = p.own_port.0 in
    run_inv m steady port (model port) (speaks port) served p refl own steps (initial_node own numbers) [] a
    (opening_inv m steady port (model port) (speaks port) served p refl own numbers w)
