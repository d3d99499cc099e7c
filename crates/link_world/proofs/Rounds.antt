-- A round with one datagram under way, and what its delivery leaves.
use Rattle.link_world.proofs.Prelude.{◌≡◌, ℕ, suc, ◌+◌, ◌-◌, ◌≤◌, max, Bool, true, false, if◌then◌else◌, List, [], ◌∷◌, ◌++◌, length, map}
use Rattle.link_world.proofs.Prelude.{refl, ap, ◌∙◌, arith, Option, Some, None, Result, Ok, Err, slice_get, length-append, ltb, le-ltb}
use Rattle.link_world.proofs.Prelude.{range_with_len, option_map_or, option_or, ◌>>=◌, AppSpec, PlainSegment, same_sockets, TcpReply}
use Rattle.link_world.proofs.Prelude.{ticks_of, AbstractNode, NodeStep, arrives, AbstractClient, ClientStep, client_takes, World, Side}
use Rattle.link_world.proofs.Prelude.{Sent, numbered, client_sockets, becomes_opened, posts, delivers, client_stepped, node_stepped}
use Rattle.link_world.proofs.Prelude.{OfSegment, does, fault_of, acts, runs, mark_after, plays_line, Act, Round, StepFault, Full}
use Rattle.link_world.proofs.Prelude.{NoDatagram, Who, FromClient, FromNode, same_self}
use Rattle.link_world.proofs.Doing.{with_mark}

-- the side of a client to which nothing stale came, and whose connection never became CLOSED
abbrev pub only_side : AbstractClient → Option ℕ → Side
only_side c opened = record { client = c; history = []; opened = opened; first_stale = None }

-- one client, and one datagram that no round has gone past
abbrev pub under_way : AbstractNode → Side → List Sent → Sent → World
under_way node side before e = record { node = node; sides = side ∷ []; sent = before ++ e ∷ []; mark = length before }

-- one client, and none
abbrev pub at_rest : AbstractNode → Side → List Sent → World
at_rest node side before = record { node = node; sides = side ∷ []; sent = before; mark = length before }

-- a datagram of the first epoch
abbrev pub sent_by : Who → ℕ → Bool → ℕ → PlainSegment → Sent
sent_by who tick again id s = record { who = who; tick = tick; epoch = 0; again = again; content = OfSegment id s }

pub one_longer : {X : Type 0} (xs : List X) (x : X) → length (xs ++ x ∷ []) ≡ suc (length xs)
one_longer xs x = omega (arith, length-append xs (x ∷ []))

pub last_there : {X : Type 0} (xs : List X) (x : X) → slice_get (xs ++ x ∷ []) (length xs) ≡ Some x
last_there [] x = refl
last_there (y ∷ xs) x = last_there xs x

-- there is one number above the mark, or none
one_past : (k n : ℕ) → n ≡ suc k → range_with_len (k + 1) (n - k) ≡ suc k ∷ []
one_past k n e =
    let left : n - k ≡ 1 = omega (arith, e) in
    let next : k + 1 ≡ suc k = omega arith in
    ap (λ x. range_with_len (k + 1) x) left ∙ ap (λ x. x ∷ []) next

none_past : (k : ℕ) → range_with_len (k + 1) (k - k) ≡ []
none_past k = let left : k - k ≡ 0 = omega arith in ap (λ x. range_with_len (k + 1) x) left

highest : (k n : ℕ) → k ≤ n → max k n ≡ n
highest k n h = omega arith

module _ (m : AppSpec) (served : ℕ → Bool) where
  only_act : (r : Result World StepFault) → (r >>= runs m served []) ≡ r
  only_act (Ok w) = refl
  only_act (Err f) = refl

  -- there is room for the answer of one delivery
  has_room : (w : World) (k : ℕ) (e : Sent) → numbered w.sent k ≡ Some e → length w.sent + 1 ≤ 65535 → fault_of w (Act.Give k) ≡ None
  has_room w k e there room =
      ap (λ (o : Option Sent). option_or (option_map_or {T = Sent} (λ d. None) o (Some NoDatagram))
      (if ltb 65535 (length w.sent + 1) then Some Full else None)) there
      ∙ ap (λ b. if b then Some Full else None) (le-ltb 65535 (length w.sent + 1) room)

  delivered : (w : World) (k : ℕ) (e : Sent) → numbered w.sent k ≡ Some e → length w.sent + 1 ≤ 65535 → acts m served w (Act.Give k)
      ≡ Ok (delivers m served w k e e.who e.content)
  delivered w k e there room =
      ap (λ (f : Option StepFault). option_map_or Err f (Ok (does m served w (Act.Give k)))) (has_room w k e there room)
      ∙ ap (λ (o : Option Sent). Ok (option_map_or (λ d. delivers m served w k d d.who d.content) o w)) there

  pub round_of_one : (node : AbstractNode) (side : Side) (before : List Sent) (e : Sent) → suc (length before) + 1 ≤ 65535 →
      plays_line m served (under_way node side before e) Round
      ≡ Ok (record (delivers m served (under_way node side before e) (suc (length before)) e e.who e.content) { mark = length (before ++ e ∷ []) })
  round_of_one node side before e room =
      let w : World = under_way node side before e in
      let k : ℕ = suc (length before) in
      let more : length (before ++ e ∷ []) ≡ k = one_longer before e in
      let mark : max (length before) (length (before ++ e ∷ [])) ≡ length (before ++ e ∷ []) = highest (length before)
      (length (before ++ e ∷ [])) (omega (arith, more)) in
      let there : numbered (before ++ e ∷ []) k ≡ Some e = last_there before e in
      let result : acts m served w (Act.Give k) ≡ Ok (delivers m served w k e e.who e.content) = delivered w k e there (omega (arith, more, room)) in
      ap (λ ks. with_mark (mark_after w Round) (runs m served (map Act.Give ks) w)) (one_past (length before) (length (before ++ e ∷ [])) more)
      ∙ ap (λ r. with_mark (mark_after w Round) r) (only_act (acts m served w (Act.Give k)) ∙ result)
      ∙ ap (λ n. with_mark n (Ok (delivers m served w k e e.who e.content))) mark

  pub round_of_none : (node : AbstractNode) (side : Side) (sent : List Sent) → plays_line m served (at_rest node side sent) Round ≡ Ok (at_rest node side sent)
  round_of_none node side sent =
      let w : World = at_rest node side sent in
      ap (λ ks. with_mark (mark_after w Round) (runs m served (map Act.Give ks) w)) (none_past (length sent))
      ∙ ap (λ n. with_mark n (Ok w)) (highest (length sent) (length sent) (omega arith))

  -- What a delivery to the node leaves, where the connection answers and lives on.
  pub node_answers : (n d : AbstractNode) (c : AbstractClient) (opened : Option ℕ) (before : List Sent) (tick id number : ℕ) (again : Bool)
      (s t : PlainSegment) → suc (length before) + 1 ≤ 65535 →
      arrives m served n (client_sockets (only_side c opened)) s
      ≡ record { node = d; sent = Some (TcpReply (client_sockets (only_side c opened)) number again t); gone = None } →
      plays_line m served (under_way n (only_side c opened) before (sent_by (FromClient 1) tick false id s)) Round
      ≡ Ok (under_way d (only_side c opened) (before ++ sent_by (FromClient 1) tick false id s ∷ []) (sent_by (FromNode 1) (ticks_of d.history) again number t))
  node_answers n d c opened before tick id number again s t room e =
      let side : Side = only_side c opened in
      let datagram : Sent = sent_by (FromClient 1) tick false id s in
      let all : List Sent = before ++ datagram ∷ [] in
      let own : same_sockets (client_sockets side) (client_sockets side) ≡ true = same_self (client_sockets side) in
      round_of_one n side before datagram room
      ∙ ap (λ (r : NodeStep). Ok (record (node_stepped (under_way n side before datagram) r) { mark = length all })) e
      ∙ ap (λ b. Ok (record (posts (record (under_way n side before datagram) { node = d }) (FromNode (if b then 1 else 0)) again
      (OfSegment number t)) { mark = length all })) own

  -- What a delivery to the client leaves, where it answers, and where it is silent.
  pub client_answers : (n : AbstractNode) (c d : AbstractClient) (opened : Option ℕ) (before : List Sent) (tick id : ℕ) (again : Bool)
      (s t : PlainSegment) → suc (length before) + 1 ≤ 65535 →
      client_takes c s ≡ record { client = d; sent = Some t } →
      plays_line m served (under_way n (only_side c opened) before (sent_by (FromNode 1) tick again id s)) Round
      ≡ Ok (under_way n (only_side d (if becomes_opened c.state d.state then Some 0 else opened))
      (before ++ sent_by (FromNode 1) tick again id s ∷ []) (sent_by (FromClient 1) (ticks_of n.history) false 0 t))
  client_answers n c d opened before tick id again s t room e =
      let side : Side = only_side c opened in
      let datagram : Sent = sent_by (FromNode 1) tick again id s in
      round_of_one n side before datagram room
      ∙ ap (λ (r : ClientStep). Ok (record (client_stepped (under_way n side before datagram) 1 side r) { mark = length (before ++ datagram ∷ []) })) e

  pub client_is_silent : (n : AbstractNode) (c d : AbstractClient) (opened : Option ℕ) (before : List Sent) (tick id : ℕ) (again : Bool)
      (s : PlainSegment) → suc (length before) + 1 ≤ 65535 →
      client_takes c s ≡ record { client = d; sent = None } →
      plays_line m served (under_way n (only_side c opened) before (sent_by (FromNode 1) tick again id s)) Round
      ≡ Ok (at_rest n (only_side d (if becomes_opened c.state d.state then Some 0 else opened)) (before ++ sent_by (FromNode 1) tick again id s ∷ []))
  client_is_silent n c d opened before tick id again s room e =
      let side : Side = only_side c opened in
      let datagram : Sent = sent_by (FromNode 1) tick again id s in
      round_of_one n side before datagram room
      ∙ ap (λ (r : ClientStep). Ok (record (client_stepped (under_way n side before datagram) 1 side r) { mark = length (before ++ datagram ∷ []) })) e
