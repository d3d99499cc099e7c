-- Whole schedules of the desk, worked by hand: what each client has at the end.
use Rattle.std.specs.List.{concat}
use Rattle.std.specs.Prelude.{◌≡◌, ℕ, List, [], ◌∷◌, ◌++◌, codes, filter, map, replicate, Result, Ok, Err}
use Rattle.link_client.specs.declared.client_state.ClientState.TheVariants.{Opened, Closed, Reset}
use Rattle.link_world.specs.Prelude.{World, Planned, initial_world, plays, BadLine, ClientEnd, clean_end, end_of_client, text_of_content}
use Rattle.link_world.specs.Prelude.{worked_client}
use Rattle.link_schedule.specs.declared.event.Event.{Event}
use Rattle.link_schedule.specs.declared.event.Event.TheVariants.{Opens, Damage, Tick, Round, Lose}
use Rattle.web_pages.specs.Prelude.{ok, as_html, get, hello_site}
use Rattle.telnet_shell.specs.DeskSpec.{desk_spec, is_served_at}

abbrev pub clients_of : Result World BadLine → List ClientEnd
clients_of (Ok w) = map end_of_client w.sides
clients_of (Err bad) = []

-- the texts that were retransmitted
abbrev pub texts_again : Result World BadLine → List (List ℕ)
texts_again (Ok w) = map (λ e. text_of_content e.content) (filter (λ e. e.again) w.sent)
texts_again (Err bad) = []

-- the lines of a schedule over a site with one page, with no hits before
abbrev pub played : List Planned → List Event → Result World BadLine
played plan lines =
    plays (desk_spec hello_site) is_served_at lines (initial_world (record { 0 = 10 ∷ 0 ∷ 0 ∷ 1 ∷ [] }) (0 ∷ []) plan)

abbrev pub ends_with : List Planned → List Event → List ClientEnd
ends_with plan lines = clients_of (played plan lines)

-- the ticks of a node, and the end
abbrev pub two_commands : List ℕ
two_commands = codes "ticks\r\nquit\r\n"

abbrev pub whole_session : List ℕ
whole_session = codes "         0\r\n> bye\r\n"

abbrev pub talker : List Planned
talker = worked_client 1000 1025 23 536 two_commands ∷ []

-- the first reply is lost, and four ticks pass
abbrev pub lost_lines : List Event
lost_lines = Opens 1 ∷ replicate 3 Round ++ Lose ∷ Tick 4 ∷ replicate 10 Round

-- the first reply is delivered with one bit of its text changed, and four ticks pass
abbrev pub damaged_lines : List Event
damaged_lines = Opens 1 ∷ replicate 3 Round ++ Damage 4 45 1 ∷ Lose ∷ Tick 4 ∷ replicate 10 Round

pub record AreWorkedWorlds : Type 0 where
  -- a whole session
  pub session : ends_with talker (Opens 1 ∷ replicate 12 Round) ≡ clean_end Closed whole_session ∷ []
  -- the same over losses: the reply shows the tick of its snapshot, not that of its retransmission
  pub lost : ends_with talker lost_lines ≡ clean_end Closed whole_session ∷ []
  pub lost_again : texts_again (played talker lost_lines) ≡ whole_session ∷ []
  -- a changed bit is a loss
  pub damaged : ends_with talker damaged_lines ≡ clean_end Closed whole_session ∷ []
  pub damaged_again : texts_again (played talker damaged_lines) ≡ whole_session ∷ []
  -- a prefix of a session, before `quit` arrives
  pub prefix : ends_with (worked_client 1000 1025 23 7 two_commands ∷ []) (Opens 1 ∷ replicate 5 Round)
      ≡ clean_end Opened (codes "         0\r\n> ") ∷ []
  -- a command too many: the connection is reset, and nothing was received
  pub too_many : ends_with (worked_client 1000 1025 23 536 (concat (replicate 33 (codes "help\n"))) ∷ []) (Opens 1 ∷ replicate 12 Round)
      ≡ clean_end Reset [] ∷ []
  -- a session and a page side by side
  pub both : ends_with (worked_client 1000 1025 23 536 two_commands ∷ worked_client 2000 1026 80 536 (get (codes "/")) ∷ [])
      (Opens 1 ∷ Opens 2 ∷ replicate 12 Round)
      ≡ clean_end Closed whole_session ∷ clean_end Closed (ok ++ as_html ++ codes "hello\n") ∷ []
