-- What is read of a connection by its value is what the definitions give for the abstract one.
use Rattle.own_node.proofs.Prelude.{◌≡◌, ℕ, ◌&&◌, ◌==◌, not, true, false, Bool, List, [], Option, Some, None, refl, sym, ap, ◌∙◌, subst}
use Rattle.own_node.proofs.Prelude.{arith, if◌then◌else◌, length, nat_le, MatchOption, slice_get, State, Closed, SynRcvd, Established}
use Rattle.own_node.proofs.Prelude.{CloseWait, FinWait1, FinWait2, Closing, TimeWait, LastAck, and_parts, eqb-true, false≢true, Connection}
use Rattle.own_node.proofs.Prelude.{closed, ConnRepresents, is_live, AbstractNode, SlotsRepresent, connection_in, nothing_left, SeesOwn}
use Rattle.own_node.proofs.Prelude.{can_write_at, can_write_by, is_established, is_open_state, is_ready_at, is_ready_by, message_by}
use Rattle.own_node.proofs.Prelude.{next_message_at, pending_at, pending_by, port_at, port_by}
use Rattle.std.specs.Borrow.{Bor}
use Rattle.std.proofs.lemmas.Option.{slice_get-get_or, slice_get_within}
use Rattle.app_events.specs.declared.app.App.{Ghosts}
use Rattle.tcp_table.specs.declared.conn.Conn.{Conn}
use Rattle.own_app.specs.Prelude.{OwnRepresents, not_true, state_of, has_last, is_overrun, len_left, pending as pending_of}
use Rattle.own_app.specs.declared.app.OwnApp.{OwnApp}

-- what a connection of the code with a value of `OwnApp` has of the abstract one, as `OwnApp` sees it
pub record HasOwnConn (state : State) (len port : ℕ) (app : OwnApp) (a : Connection) : Type 0 where
  pub its_state : state ≡ a.state
  pub its_len : is_live a.state ≡ true → len ≡ a.len
  pub its_port : is_live a.state ≡ true → port ≡ a.sockets.own_port.0
  pub part : is_open_state a.state ≡ true → OwnRepresents app a.part

-- ---- the connection in a slot

module _ {A S : Type 0} (g : Ghosts A S) (seen : Connection → Connection) where
  -- what a value of the application shows of its connection
  abbrev Shows : A → Option (Bor OwnApp) → Type 0
  Shows app own = (k : g.Config) (a : Connection) → (is_open_state a.state ≡ true → g.represents app k a.part)
      → MatchOption own (is_open_state (seen a).state ≡ false) (λ own. SeesOwn own.now (seen a) a)

  module _ (cs : List (Conn A)) (n : AbstractNode) (slot : ℕ) (c : Conn A) (k : g.Config) (own : Option (Bor OwnApp))
      (represents : SlotsRepresent g k cs n.connections)
      (at : slice_get cs slot ≡ Some c) (shows : Shows c.app own) where
    -- the connection of the code in a slot represents the abstract one
    conn_in_slot : ConnRepresents g k c (connection_in slot n)
    conn_in_slot =
        let within = slice_get_within cs slot c at in
        represents.each slot c (connection_in slot n) at (slice_get-get_or n.connections slot closed (omega (arith, within, represents.same_length)))

    pub none_seen : own ≡ None → is_open_state (seen (connection_in slot n)).state ≡ false
    none_seen is =
        subst (λ (o : Option (Bor OwnApp)). MatchOption o (is_open_state (seen (connection_in slot n)).state ≡ false)
        (λ own. SeesOwn own.now (seen (connection_in slot n)) (connection_in slot n)))
        is (shows k (connection_in slot n) conn_in_slot.part)

    pub own_seen : (app : Bor OwnApp) → own ≡ Some app → HasOwnConn c.state c.len c.own_port.0 app.now (seen (connection_in slot n))
    own_seen app is =
        let a : Connection = connection_in slot n in
        let sees : SeesOwn app.now (seen a) a =
        subst (λ (o : Option (Bor OwnApp)). MatchOption o (is_open_state (seen a).state ≡ false) (λ own. SeesOwn own.now (seen a) a)) is
        (shows k a conn_in_slot.part) in
        subst (λ (b : Connection). HasOwnConn c.state c.len c.own_port.0 app.now b) (sym sees.same) record {
          its_state = conn_in_slot.numbers.state;
          its_len = λ live. (conn_in_slot.numbers.like live).len;
          its_port = λ live. ap (λ p. p.0) (conn_in_slot.numbers.like live).own_port;
          part = sees.part;
        }

-- ---- states

-- what holds of each state holds of all
by_state : (P : State → Type 0) → P Closed → P SynRcvd → P Established → P CloseWait → P FinWait1 → P FinWait2 → P Closing → P TimeWait
    → P LastAck → (s : State) → P s
by_state P closed syn_rcvd established close_wait fin_wait_1 fin_wait_2 closing time_wait last_ack s = elim s as P [
  | Closed ↦ closed
  | SynRcvd ↦ syn_rcvd
  | Established ↦ established
  | CloseWait ↦ close_wait
  | FinWait1 ↦ fin_wait_1
  | FinWait2 ↦ fin_wait_2
  | Closing ↦ closing
  | TimeWait ↦ time_wait
  | LastAck ↦ last_ack
]

open_live : (s : State) → is_open_state s ≡ true → is_live s ≡ true
open_live =
    by_state (λ s. is_open_state s ≡ true → is_live s ≡ true) (λ e. absurd (false≢true e)) (λ e. refl) (λ e. refl) (λ e. refl) (λ e. refl)
    (λ e. refl) (λ e. refl) (λ e. refl) (λ e. refl)

pub established_is : (s : State) → is_established s ≡ true → s ≡ Established
established_is =
    by_state (λ s. is_established s ≡ true → s ≡ Established) (λ e. absurd (false≢true e)) (λ e. absurd (false≢true e)) (λ e. refl) (λ e. absurd (false≢true e))
    (λ e. absurd (false≢true e)) (λ e. absurd (false≢true e)) (λ e. absurd (false≢true e)) (λ e. absurd (false≢true e)) (λ e. absurd (false≢true e))

established_open : (s : State) → is_established s ≡ true → is_open_state s ≡ true
established_open s e = ap (λ x. is_open_state x) (established_is s e)

-- ---- a connection that is open

pub pending_is : (state : State) (len port : ℕ) (app : OwnApp) (a : Connection) → HasOwnConn state len port app a → pending_by state app ≡ pending_at a
pending_is state len port app a has =
    ap (λ v. if is_open_state v && not app.overrun then app.received.items else []) has.its_state
    ∙ elim (is_open_state a.state) as (λ b. is_open_state a.state ≡ b → (if b && not app.overrun then app.received.items else [])
    ≡ (if b && not (is_overrun a.part) then pending_of a.part else [])) [
      | true ↦ λ e. (let part : OwnRepresents app a.part = has.part e in
          elim app.overrun as (λ b. app.overrun ≡ b → (if not b then app.received.items else [])
          ≡ (if not (is_overrun a.part) then pending_of a.part else [])) [
            | true ↦ λ f. ap (λ b. if not b then pending_of a.part else []) (sym f ∙ part.overrun)
            | false ↦ λ f. part.received f ∙ ap (λ b. if not b then pending_of a.part else []) (sym f ∙ part.overrun)
          ] refl)
      | false ↦ λ e. refl
    ] refl

pub port_is : (state : State) (len port : ℕ) (app : OwnApp) (a : Connection) → HasOwnConn state len port app a → port_by state port ≡ port_at a
port_is state len port app a has =
    ap (λ v. if is_open_state v then port else 0) has.its_state
    ∙ elim (is_open_state a.state) as (λ b. is_open_state a.state ≡ b → (if b then port else 0) ≡ (if b then a.sockets.own_port.0 else 0)) [
      | true ↦ λ e. has.its_port (open_live a.state e)
      | false ↦ λ e. refl
    ] refl

pub ready_is : (state : State) (len port : ℕ) (app : OwnApp) (a : Connection) → HasOwnConn state len port app a → is_ready_by state len app ≡ is_ready_at a
ready_is state len port app a has =
    ap (λ v. is_established v && len == 0 && not app.overrun && not app.ended && app.at == length app.sending.items) has.its_state
    ∙ elim (is_established a.state) as (λ b. is_established a.state ≡ b
    → (b && len == 0 && not app.overrun && not app.ended && app.at == length app.sending.items)
    ≡ (b && a.len == 0 && not (is_overrun a.part) && not (has_last a.part.snapshots) && len_left a.part == 0)) [
      | true ↦ λ e.
          let part : OwnRepresents app a.part = has.part (established_open a.state e) in
          ap (λ n. true && n == 0 && not app.overrun && not app.ended && app.at == length app.sending.items)
          (has.its_len (open_live a.state (established_open a.state e)))
          ∙ ap (λ b. true && a.len == 0 && not b && not app.ended && app.at == length app.sending.items) part.overrun
          ∙ ap (λ b. true && a.len == 0 && not (is_overrun a.part) && not b && app.at == length app.sending.items) part.ended
          ∙ ap (λ b. true && a.len == 0 && not (is_overrun a.part) && not (has_last a.part.snapshots) && b) (nothing_left (state_of app) a.part part)
      | false ↦ λ e. refl
    ] refl

-- what a connection that is ready has
pub record IsReady (a : Connection) : Type 0 where
  pub state : a.state ≡ Established
  pub opened : is_open_state a.state ≡ true
  pub len : a.len ≡ 0
  pub kept : is_overrun a.part ≡ false
  pub goes_on : has_last a.part.snapshots ≡ false
  pub all : (len_left a.part == 0) ≡ true

pub ready_has : (a : Connection) → is_ready_at a ≡ true → IsReady a
ready_has a e =
    let all = and_parts _ _ e in
    let more = and_parts _ _ all.0 in
    let kept = and_parts _ _ more.0 in
    let len = and_parts _ _ kept.0 in
    record {
      state = established_is a.state len.0;
      opened = established_open a.state len.0;
      len = eqb-true a.len 0 len.1;
      kept = not_true (is_overrun a.part) kept.1;
      goes_on = not_true (has_last a.part.snapshots) more.1;
      all = all.1;
    }

pub can_is : (state : State) (len port : ℕ) (app : OwnApp) (a : Connection) (taken : ℕ) → HasOwnConn state len port app a
    → can_write_by state len app taken ≡ can_write_at taken a
can_is state len port app a taken conn =
    ap (λ b. b && nat_le taken (length app.received.items)) (ready_is state len port app a conn)
    ∙ elim (is_ready_at a) as (λ b. is_ready_at a ≡ b → (b && nat_le taken (length app.received.items)) ≡ (b && nat_le taken (length (pending_of a.part)))) [
      | true ↦ λ e.
          let has = ready_has a e in
          let part : OwnRepresents app a.part = conn.part has.opened in
          ap (λ (l : List ℕ). nat_le taken (length l)) (part.received (part.overrun ∙ has.kept))
      | false ↦ λ e. refl
    ] refl

pub message_is : (state : State) (len port : ℕ) (app : OwnApp) (a : Connection) (taken : ℕ) (text : List ℕ) (last : Bool) → HasOwnConn state len port app a
    → can_write_by state len app taken ≡ true → message_by taken text last app ≡ next_message_at taken text last a
message_is state len port app a taken text last conn can =
    let ready = (and_parts (is_ready_by state len app) (nat_le taken (length app.received.items)) can).0 in
    let part : OwnRepresents app a.part = conn.part (ready_has a (sym (ready_is state len port app a conn) ∙ ready)).opened in
    ap (λ t. record { to = t; number = app.count; taken = taken; last = last; text = text }) part.ticket
    ∙ ap (λ k. record { to = a.part.own; number = k; taken = taken; last = last; text = text }) part.count

-- ---- a connection that is not open

pub nothing_pending : (a : Connection) → is_open_state a.state ≡ false → [] ≡ pending_at a
nothing_pending a e = ap (λ (b : Bool). if b && not (is_overrun a.part) then pending_of a.part else []) (sym e)

pub no_port : (a : Connection) → is_open_state a.state ≡ false → 0 ≡ port_at a
no_port a e = ap (λ (b : Bool). if b then a.sockets.own_port.0 else 0) (sym e)

not_established : (s : State) → is_open_state s ≡ false → false ≡ is_established s
not_established =
    by_state (λ s. is_open_state s ≡ false → false ≡ is_established s) (λ e. refl) (λ e. refl) (λ e. absurd (false≢true (sym e)))
    (λ e. refl) (λ e. refl) (λ e. refl)
    (λ e. refl) (λ e. refl) (λ e. refl)

pub not_ready : (a : Connection) → is_open_state a.state ≡ false → false ≡ is_ready_at a
not_ready a e =
    ap (λ (b : Bool). b && a.len == 0 && not (is_overrun a.part) && not (has_last a.part.snapshots) && len_left a.part == 0) (not_established a.state e)

pub cannot_write : (a : Connection) (taken : ℕ) → is_open_state a.state ≡ false → false ≡ can_write_at taken a
cannot_write a taken e = ap (λ (b : Bool). b && nat_le taken (length (pending_of a.part))) (not_ready a e)
