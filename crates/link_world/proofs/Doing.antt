-- Steps that may fail, and what follows an act or a line.
use Rattle.link_world.proofs.Prelude.{◌≡◌, ℕ, zero, suc, Bool, List, Option, Some, None, Result, Ok, slice_get, refl, option_map_or}
use Rattle.link_world.proofs.Prelude.{result_map_both, ◌>>=◌, AppSpec, PlainSegment, Arrived, EchoAsked, client_takes, hands_over, changed}
use Rattle.link_world.proofs.Prelude.{sent_bytes, World, Side, Sent, Content, OfSegment, OfPing, OfEcho, Who, FromClient, FromNode, Pinger}
use Rattle.link_world.proofs.Prelude.{numbered, client_sockets, client_stepped, delivers, marked, node_handles, with_side, BadLine}
use Rattle.link_world.proofs.Prelude.{StepFault}

-- what holds if there is no value, and of the result if there is one
pub where_there : {X Y : Type 0} (P : Y → Type 0) (act : X → Y) (o : Option X) (none : Y) → P none → ((x : X) → o ≡ Some x → P (act x))
    → P (option_map_or act o none)
where_there P act None none p f = p
where_there P act (Some x) none p f = f x refl

-- the same of the thing at a number
pub at_number : {X Y : Type 0} (P : Y → Type 0) (act : ℕ → X → Y) (xs : List X) (number : ℕ) (none : Y) → P none
    → ((n : ℕ) (x : X) → slice_get xs n ≡ Some x → P (act (suc n) x)) → P (option_map_or (act number) (numbered xs number) none)
at_number P act xs zero none p f = p
at_number P act xs (suc n) none p f = where_there P (act (suc n)) (slice_get xs n) none p (λ x at. f n x at)

-- What holds of the world after a delivery, by its receiver: the node, a client, the node for an echo request, or none.
pub delivered_by : (m : AppSpec) (served : ℕ → Bool) (P : World → Type 0) (w : World) (k : ℕ) (e : Sent) (who : Who) (content : Content) → P w
    → ((n : ℕ) (side : Side) → slice_get w.sides n ≡ Some side → (s : PlainSegment)
    → P (node_handles m served (with_side w (suc n) (marked side k e)) (Arrived (client_sockets side) s)))
    → ((n : ℕ) (side : Side) → slice_get w.sides n ≡ Some side → (s : PlainSegment)
    → P (client_stepped w (suc n) (marked side k e) (client_takes side.client s)))
    → ((datagram : List ℕ) → content ≡ OfPing datagram → P (node_handles m served w (EchoAsked datagram)))
    → P (delivers m served w k e who content)
delivered_by m served P w k e (FromClient number) (OfSegment id s) none node client echo =
    at_number P (λ i side. node_handles m served (with_side w i (marked side k e)) (Arrived (client_sockets side) s)) w.sides number w none
    (λ n side at. node n side at s)
delivered_by m served P w k e (FromNode number) (OfSegment id s) none node client echo =
    at_number P (λ i side. client_stepped w i (marked side k e) (client_takes side.client s)) w.sides number w none (λ n side at. client n side at s)
delivered_by m served P w k e Pinger (OfPing datagram) none node client echo = echo datagram refl
delivered_by m served P w k e (FromClient n) (OfPing datagram) none node client echo = none
delivered_by m served P w k e (FromClient n) (OfEcho request) none node client echo = none
delivered_by m served P w k e (FromNode n) (OfPing datagram) none node client echo = none
delivered_by m served P w k e (FromNode n) (OfEcho request) none node client echo = none
delivered_by m served P w k e Pinger (OfSegment id s) none node client echo = none
delivered_by m served P w k e Pinger (OfEcho request) none node client echo = none

-- the world that is reached has this mark
abbrev pub with_mark : ℕ → Result World StepFault → Result World StepFault
with_mark mark r = r >>= λ w. Ok (record w { mark = mark })

-- what the lines after this one reach
abbrev pub goes_on_with : ℕ → (World → Result World BadLine) → Result World StepFault → Result World BadLine
goes_on_with place next r = result_map_both (λ w. w) (λ why. record { place = place; why = why }) r >>= next

-- what damage does to a datagram that may not exist
abbrev pub damaged : AppSpec → (ℕ → Bool) → World → ℕ → ℕ → Option Sent → World
damaged m served w at mask e = option_map_or (λ d. hands_over m served w (changed (sent_bytes w d) at mask) d.who) e w
