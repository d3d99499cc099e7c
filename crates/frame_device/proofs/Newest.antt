-- The newest incarnation of a connection conforms, and its newest account has the captures of the connection.
use Rattle.frame_device.proofs.Prelude.{All, ◌≡◌, ◌∙◌, ℕ, zero, suc, ◌<◌, Bool, true, false, List, [], ◌∷◌, ◌++◌, Some, drop, length, refl}
use Rattle.frame_device.proofs.Prelude.{sym, ap, subst, arith, if◌then◌else◌, replicate, slice_get, slice_index_or, All-head, All-tail}
use Rattle.frame_device.proofs.Prelude.{AppSpec, IsU32, Addr, AbstractNode, Event, IsEvent, IsSteady, connection_in, initial_node, serving}
use Rattle.frame_device.proofs.Prelude.{step, both_ways, Account, AccountHolds, Exchange, HasOutputModel, IncarnationConforms, IsExtendedBy}
use Rattle.frame_device.proofs.Prelude.{OutputModel, TextConforms, exchange, exchanges_onto, exchanges_with, is_empty, is_incarnation}
use Rattle.frame_device.proofs.Prelude.{is_opening, HasNewest, NewestConforms, NewestInEachSlot}
use Rattle.tcp_machine.specs.Prelude.{Connection, Sockets, closed, is_live}
use Rattle.uip_node.proofs.Connections.{Single, all_closed, none_serves, serving_free, serving_is}
use Rattle.uip_node.proofs.SocketPairs.{serves_yes}
use Rattle.uip_node.proofs.FitNodes.{FitNode, closed_fits, event_fits}
use Rattle.uip_node.proofs.Fits.{FitConn}
use Rattle.node_laws.proofs.Lines.{Comes, OfMedium, comes}
use Rattle.node_laws.proofs.Lines.OfMedium.{born, evicted, delivers_text, passes_by, refused, ticks, unanswered}
use Rattle.node_laws.proofs.IncarnationStep.{Good, Onward, begins_by, goes_on}
use Rattle.node_laws.proofs.Receiving.{keeps_account, keeps_text}
use Rattle.node_laws.proofs.Steps.{Changes, IsStep, LineStep, OfNode, changed, trace_over}
use Rattle.node_laws.proofs.Wire.{line_wire, wire_event}

-- the node after steps
abbrev pub node_over : AppSpec → (ℕ → Bool) → List LineStep → AbstractNode → AbstractNode
node_over m served [] n = n
node_over m served (OfNode event ∷ steps) n = node_over m served steps (step m served n event).node
node_over m served (Changes change ∷ steps) n = node_over m served steps (changed change n)

cons_head : (x y : Exchange) (xs ys : List Exchange) → x ∷ xs ≡ y ∷ ys → x ≡ y
cons_head x y xs ys e = cc

cons_tail : (x y : Exchange) (xs ys : List Exchange) → x ∷ xs ≡ y ∷ ys → xs ≡ ys
cons_tail x y xs ys e = cc

empty_is : (xs : List Exchange) → is_empty xs ≡ true → xs ≡ []
empty_is [] h = refl
empty_is (x ∷ xs) h = absurd (cc)

none_yet : (incarnation before : List Exchange) → [] ≡ incarnation ++ before → is_incarnation incarnation ≡ true → ⊥
none_yet [] before e l = absurd (cc)
none_yet (x ∷ incarnation) before e l = absurd (cc)

module _ (m : AppSpec) (steady : IsSteady m) (models : ℕ → OutputModel) (speaks : HasOutputModel m models) (served : ℕ → Bool) (p : Sockets) where
  abbrev model : OutputModel
  model = models p.own_port.0

  abbrev GoodAt : Connection → List Exchange → Type 0
  GoodAt c incarnation = Good m steady p.own_port.0 model (speaks p.own_port.0) c incarnation

  abbrev OnwardAt : (c : Connection) (incarnation : List Exchange) → GoodAt c incarnation → Connection → Exchange → Type 0
  OnwardAt c incarnation g d x = Onward m steady p.own_port.0 model (speaks p.own_port.0) c incarnation g d x

  record Current (c : Connection) (incarnation : List Exchange) : Type 0 where
    good : GoodAt c incarnation
    conforms : IncarnationConforms model incarnation
    newest : conforms.account 0 ≡ good.kept.account

  -- an account before the older ones
  abbrev with_newest : Account → (ℕ → Account) → ℕ → Account
  with_newest a old zero = a
  with_newest a old (suc back) = old back

  born_current : (d : Connection) (x : Exchange) → GoodAt d (x ∷ []) → Current d (x ∷ [])
  born_current d x g = record {
    good = g;
    conforms = record {
      account = λ back. g.kept.account;
      holds = only;
      conforms = only_text;
      grows = λ back l. absurd (omega (arith, l));
    };
    newest = refl;
  }
    where
      only : (back : ℕ) → back < 1 → AccountHolds (drop back (x ∷ [])) g.kept.account
      only zero l = keeps_account model (x ∷ []) g.kept
      only (suc back) l = absurd (omega (arith, l))

      only_text : (back : ℕ) → back < 1 → TextConforms model (drop back (x ∷ [])) g.kept.account
      only_text zero l = keeps_text m p.own_port.0 model (speaks p.own_port.0) (x ∷ []) g.kept
      only_text (suc back) l = absurd (omega (arith, l))

  current_longer : (c d : Connection) (x : Exchange) (incarnation : List Exchange) (v : Current c incarnation)
      → OnwardAt c incarnation v.good d x → Current d (x ∷ incarnation)
  current_longer c d x incarnation v o = record {
    good = o.good;
    conforms = record { account = with_newest o.good.kept.account v.conforms.account; holds = holds_on; conforms = conforms_on; grows = grows_on };
    newest = refl;
  }
    where
      holds_on : (back : ℕ) → back < length (x ∷ incarnation) → AccountHolds (drop back (x ∷ incarnation))
          (with_newest o.good.kept.account v.conforms.account back)
      holds_on zero l = keeps_account model (x ∷ incarnation) o.good.kept
      holds_on (suc back) l = v.conforms.holds back (omega (arith, l))

      conforms_on : (back : ℕ) → back < length (x ∷ incarnation) → TextConforms model (drop back (x ∷ incarnation))
          (with_newest o.good.kept.account v.conforms.account back)
      conforms_on zero l = keeps_text m p.own_port.0 model (speaks p.own_port.0) (x ∷ incarnation) o.good.kept
      conforms_on (suc back) l = v.conforms.conforms back (omega (arith, l))

      grows_on : (back : ℕ) → suc back < length (x ∷ incarnation)
          → IsExtendedBy (with_newest o.good.kept.account v.conforms.account (suc back)) (with_newest o.good.kept.account v.conforms.account back)
      grows_on zero l = subst (λ (a : Account). IsExtendedBy a o.good.kept.account) (sym v.newest) o.grew
      grows_on (suc back) l = v.conforms.grows back (omega (arith, l))

  abbrev CurrentIn : Connection → List Exchange → Type 0
  CurrentIn c so_far = (incarnation before : List Exchange) → so_far ≡ incarnation ++ before → is_incarnation incarnation ≡ true → Current c incarnation

  -- one exchange more
  current_on : (c d : Connection) (x : Exchange) (so_far : List Exchange) → OfMedium m served p c d x → CurrentIn c so_far → CurrentIn d (x ∷ so_far)
  current_on c d x so_far does h [] before e l = absurd (cc)
  current_on c d x so_far does h (y ∷ older) before e l =
      let head : x ≡ y = cons_head x y so_far (older ++ before) e in
      let tail : so_far ≡ older ++ before = cons_tail x y so_far (older ++ before) e in
      subst (λ (z : Exchange). Current d (z ∷ older)) head
      (both_ways (is_opening y)
      (λ o. (let none : older ≡ [] = empty_is older (sym (ap (λ (b : Bool). if b then is_empty older else is_incarnation older) o) ∙ l) in
      subst (λ (z : List Exchange). Current d (x ∷ z)) (sym none)
      (born_current d x (begins_by m steady p.own_port.0 model (speaks p.own_port.0) served p refl c d x does (ap (λ (z : Exchange). is_opening z) head ∙ o)))))
      (λ o. (let of_older : is_incarnation older ≡ true = sym (ap (λ (b : Bool). if b then is_empty older else is_incarnation older) o) ∙ l in
      let v : Current c older = h older before tail of_older in
      current_longer c d x older v (goes_on m steady p.own_port.0 model (speaks p.own_port.0) served p refl c d x older does
      (ap (λ (z : Exchange). is_opening z) head ∙ o) v.good))))

  -- ---- a connection that is not CLOSED has an incarnation

  newest_new : (x : Exchange) (so_far : List Exchange) → is_opening x ≡ true → HasNewest (x ∷ so_far)
  newest_new x so_far o = record { incarnation = x ∷ []; before = so_far; split = refl; is = ap (λ (b : Bool). if b then is_empty [] else is_incarnation []) o }

  newest_longer : (x : Exchange) (so_far : List Exchange) → is_opening x ≡ false → HasNewest so_far → HasNewest (x ∷ so_far)
  newest_longer x so_far o h = record {
    incarnation = x ∷ h.incarnation;
    before = h.before;
    split = ap (λ (l : List Exchange). x ∷ l) h.split;
    is = ap (λ (b : Bool). if b then is_empty h.incarnation else is_incarnation h.incarnation) o ∙ h.is;
  }

  -- it opens here, or was not CLOSED before
  live_before : (c d : Connection) (x : Exchange) → OfMedium m served p c d x → is_opening x ≡ false → is_live d.state ≡ true → is_live c.state ≡ true
  live_before c d x does o l = elim does [
    | passes_by e f ↦ ap (λ (z : Connection). is_live z.state) (sym f) ∙ l
    | evicted e f ↦ absurd (let z : is_live d.state ≡ false = ap (λ (y : Connection). is_live y.state) f in cc)
    | unanswered s q e f ↦ absurd (let z : is_live d.state ≡ false = ap (λ (y : Connection). is_live y.state) f ∙ q in cc)
    | refused s r q e f ↦ absurd (let z : is_live d.state ≡ false = ap (λ (y : Connection). is_live y.state) f ∙ q in cc)
    | born iss s plain port fit e f ↦ absurd (let z : is_opening x ≡ true = ap (λ (y : Exchange). is_opening y) e in cc)
    | delivers_text s numbers at alive fit words is h ↦ alive
    | ticks numbers at alive fit words is h ↦ alive
  ]

  newest_on : (c d : Connection) (x : Exchange) (so_far : List Exchange) → OfMedium m served p c d x
      → (is_live c.state ≡ true → HasNewest so_far) → is_live d.state ≡ true → HasNewest (x ∷ so_far)
  newest_on c d x so_far does h l =
      both_ways (is_opening x) (λ o. newest_new x so_far o) (λ o. newest_longer x so_far o (h (live_before c d x does o l)))

  -- ---- along the steps

  record Inv (n : AbstractNode) (so_far : List Exchange) : Type 0 where
    single : Single n.connections
    fit : FitNode n
    current : CurrentIn (serving p n.connections) so_far
    newest : is_live (serving p n.connections).state ≡ true → HasNewest so_far

  step_inv : (n : AbstractNode) (so_far : List Exchange) (event : Event) → IsEvent event → Inv n so_far → Inv (step m served n event).node
      (exchange p event (step m served n event).sent ∷ so_far)
  step_inv n so_far event is i =
      let c : Comes m served n event (step m served n event) = comes m served steady n event is i.single i.fit in
      let x : Exchange = exchange p event (step m served n event).sent in
      let old : Connection = serving p n.connections in
      let new : Connection = serving p (step m served n event).node.connections in
      record {
        single = c.single;
        fit = event_fits m steady served n event is i.fit;
        current = current_on old new x so_far (c.each p) i.current;
        newest = newest_on old new x so_far (c.each p) i.newest;
      }

  run_inv : (own : Addr) (steps : List LineStep) (n : AbstractNode) (so_far : List Exchange) → All (IsStep own) steps → Inv n so_far
      → Inv (node_over m served steps n) (exchanges_onto p (trace_over m served steps n) so_far)
  run_inv own [] n so_far are i = i
  run_inv own (OfNode event ∷ steps) n so_far are i =
      run_inv own steps (step m served n event).node (exchange p event (step m served n event).sent ∷ so_far) (All-tail (IsStep own) (OfNode event) steps are)
      (step_inv n so_far event (wire_event event (line_wire own event (All-head (IsStep own) (OfNode event) steps are))) i)
  run_inv own (Changes change ∷ steps) n so_far are i =
      run_inv own steps (changed change n) so_far (All-tail (IsStep own) (Changes change) steps are) record {
        single = i.single;
        fit = record { size = i.fit.size; conns = i.fit.conns; numbers = All-head (IsStep own) (Changes change) steps are n.numbers i.fit.numbers };
        current = i.current;
        newest = i.newest;
      }

  first_inv : (own : Addr) (numbers : List ℕ) → All IsU32 numbers → Inv (initial_node own numbers) []
  first_inv own numbers words = record {
    single = λ q i j x y a b u v. absurd (let z = none_serves 10 q i x a in cc);
    fit = record { size = omega arith; conns = λ i x y. subst FitConn (all_closed 10 i x y) closed_fits; numbers = words };
    current = λ incarnation before e l. absurd (none_yet incarnation before e l);
    newest = λ l. absurd (let z : is_live (serving p (replicate 10 closed)).state ≡ false = ap (λ (c : Connection). is_live c.state)
        (serving_free (replicate 10 closed) p (none_serves 10 p)) in cc);
  }

-- ---- the connection in a slot

some_back : (incarnation : List Exchange) → is_incarnation incarnation ≡ true → 0 < length incarnation
some_back [] e = absurd (cc)
some_back (x ∷ incarnation) e = omega arith

-- so the newest text conforms
pub newest_text : (model : OutputModel) (c : Connection) (exchanges : List Exchange) (it : NewestConforms model c exchanges)
    → TextConforms model it.newest.incarnation (it.conforms.account 0)
newest_text model c exchanges it = it.conforms.conforms 0 (some_back it.newest.incarnation it.newest.is)

in_slot : (cs : List Connection) (slot : ℕ) → is_live (slice_index_or cs slot closed).state ≡ true → slice_get cs slot ≡ Some (slice_index_or cs slot closed)
in_slot [] slot live = absurd (cc)
in_slot (c ∷ cs) zero live = refl
in_slot (c ∷ cs) (suc slot) live = in_slot cs slot live

module _ (m : AppSpec) (steady : IsSteady m) (models : ℕ → OutputModel) (speaks : HasOutputModel m models) (served : ℕ → Bool) where
  newest_of : (c : Connection) (exchanges : List Exchange) → HasNewest exchanges → CurrentIn m steady models speaks served c.sockets c
      exchanges → is_live c.state ≡ true
      → NewestConforms (models c.sockets.own_port.0) c exchanges
  newest_of c exchanges it current live =
      let v = current it.incarnation it.before it.split it.is in
      record { newest = it; conforms = v.conforms; snapshots = ap (λ (a : Account). a.snapshots) v.newest ∙ sym (v.good.live live).captures_are }

  pub newest_in_each_slot : (own : Addr) (numbers : List ℕ) → All IsU32 numbers → (steps : List LineStep) → All (IsStep own) steps
      → NewestInEachSlot models (node_over m served steps (initial_node own numbers)) (trace_over m served steps (initial_node own numbers))
  newest_in_each_slot own numbers words steps are slot live =
      let n : AbstractNode = node_over m served steps (initial_node own numbers) in
      let c : Connection = connection_in slot n in
      let p : Sockets = c.sockets in
      let exchanges : List Exchange = exchanges_with p (trace_over m served steps (initial_node own numbers)) in
      let i : Inv m steady models speaks served p n exchanges = run_inv m steady models speaks served p own steps (initial_node own numbers)
      [] are (first_inv m steady models speaks served p own numbers words) in
      let here : serving p n.connections ≡ c = serving_is n.connections p slot c i.single (in_slot n.connections slot live) (serves_yes p c live refl) in
      newest_of c exchanges (i.newest (ap (λ (x : Connection). is_live x.state) here ∙ live))
      (subst (λ (x : Connection). CurrentIn m steady models speaks served p x exchanges) here i.current) live
