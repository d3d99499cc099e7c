-- A link that loses what the node sends: up to seven copies of each segment in a row, and four of the SYN-ACK. The node sends each again.
use Rattle.std.specs.Prelude.{◌≡◌, ◌+◌, ◌*◌, ◌<◌, ◌≤◌, ◌∷◌, ◌++◌, [], All, Bool, length, List, Ok, suc, take, true, ℕ}
use Rattle.uip_wire.specs.declared.addr.Addr.{Addr}
use Rattle.app_events.specs.Prelude.{AppState, AppSpec, Pages, IsPaged, IsU32, IsAddr}
use Rattle.tcp_machine.specs.Prelude.{first_mss}
use Rattle.uip_node.specs.Prelude.{AnswersIn}
use Rattle.link_client.specs.Prelude.{offered}
use Rattle.link_world.specs.History.{Planned, IsPlan, initial_world}
use Rattle.link_world.specs.Honest.{IsServedWhole}
use Rattle.link_world.specs.Schedule.{plays}
use Rattle.link_world.specs.World.{World}
use Rattle.link_schedule.specs.declared.event.Event.{Event}
use Rattle.link_schedule.specs.declared.event.Event.TheVariants.{Opens, Tick, Round, Lose}

-- A copy is lost, and after these ticks the node sends the next one; the last copy is delivered.
abbrev pub lost_copies : List ℕ → List Event
lost_copies [] = Round ∷ []
lost_copies (ticks ∷ more) = Lose ∷ Tick ticks ∷ lost_copies more

-- The node sends a segment again after 4 ticks, and then after 4, 7, 13, 25, 49 and 49 more. This many copies of it are lost, at most
-- seven, and the next one is delivered: two lines for each lost copy, and one more.
abbrev pub losing : ℕ → List Event
losing copies = lost_copies (take copies (4 ∷ 4 ∷ 7 ∷ 13 ∷ 25 ∷ 49 ∷ 49 ∷ []))

-- For each of these numbers a segment of the client is delivered, and this many copies of the answer of the node are lost. The last
-- segment of the client is delivered.
abbrev pub losing_answers : List ℕ → List Event
losing_answers [] = Round ∷ []
losing_answers (copies ∷ more) = Round ∷ losing copies ++ losing_answers more

-- This many copies of the SYN-ACK are lost, and these numbers of copies of the segments of the page and of the FIN.
abbrev pub losing_lines : ℕ → List ℕ → List Event
losing_lines syn copies = Opens 1 ∷ Round ∷ losing syn ++ losing_answers copies

-- A client has received its whole page at the end of such lines, whatever the numbers are. Its page has no more than `texts` segments, and
-- these are at most 16 * texts + 28 lines.
abbrev pub ServesOverLoss : AppSpec → Pages → (ℕ → Bool) → World → ℕ → Type 0
ServesOverLoss m pages served start texts =
    (syn : ℕ) → syn ≤ 4 → (copies : List ℕ) → texts < length copies → All (λ lost. lost ≤ 7) copies →
    (segments : ℕ) × (segments ≤ texts) × (length (losing_lines syn (take (suc segments) copies)) ≤ 16 * texts + 28)
    × ((w : World) × (plays m served (losing_lines syn (take (suc segments) copies)) start ≡ Ok w) × IsServedWhole pages w)

-- One client opens, and sends its request in one segment. Of each segment of the node up to seven copies in a row are lost, of the SYN-ACK
-- up to four. The client receives its whole page.
abbrev pub LosingLink : Type 0
LosingLink =
    (m : AppSpec) (pages : Pages) → IsPaged m pages → (served : ℕ → Bool) (addr : Addr) (numbers : List ℕ) (p : Planned) →
    IsAddr addr → All IsU32 numbers → IsPlan (p ∷ []) → served p.setup.server_port.0 ≡ true →
    (fine : AppState → Bool) (left : AppState → ℕ) (texts : ℕ) → AnswersIn m p.request (first_mss (offered p.setup.mss)) fine left texts →
    0 < length p.request → length p.request ≤ p.setup.seg → 10 * texts + 60 ≤ 65535 →
    ServesOverLoss m pages served (initial_world addr numbers (p ∷ [])) texts
