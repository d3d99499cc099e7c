-- Schedules worked by hand: what each spells, or its first bad line.
-- [add: schedule-line] A worked schedule with the line.
use Rattle.std.specs.Prelude.{◌≡◌, ℕ, ◌+◌, ◌/◌, ◌%◌, List, [], ◌∷◌, ◌++◌, codes, Result, Ok, Err}
use Rattle.std.specs.List.{flat_map, range_with_len}
use Rattle.link_schedule.specs.declared.event.Event.{Event}
use Rattle.link_schedule.specs.declared.event.Event.TheVariants.{Opens, Round, Tick, Damage}
use Rattle.link_schedule.specs.declared.line.Line.{Line}
use Rattle.link_schedule.specs.declared.why.Why.{Why}
use Rattle.link_schedule.specs.declared.why.Why.TheVariants.{Form, Clients, Ports, NoClient}
use Rattle.link_schedule.specs.Clients.{Plan}
use Rattle.link_schedule.specs.Reading.{SchedulePlan, BadText, read_text}

-- a client at 10.0.0.2 and a port, with segments of 536 bytes and no MSS option
abbrev pub plan : ℕ → List ℕ → Plan
plan port request = record {
  addr = record { 0 = 10 ∷ 0 ∷ 0 ∷ 2 ∷ [] };
  port = record { 0 = port };
  mss = 0;
  seg = 536;
  request = request;
}

abbrev pub schedule_line : ℕ → Event → Line
schedule_line number event = record { at = number; event = event }

abbrev pub schedule : List Plan → List Line → Result SchedulePlan BadText
schedule clients lines = Ok (record { clients = clients; lines = lines })

abbrev pub bad : Why → ℕ → Result SchedulePlan BadText
bad why line = Err (record { line = line; why = why })

abbrev pub prefix_page : Plan
prefix_page = plan 1025 (codes "GET / HTTP/1.0\r\n\r\n")

-- this number of client lines, one for each port of two digits from 10 on
abbrev pub client_lines : ℕ → List ℕ
client_lines count = flat_map (λ p. codes "client 10.0.0.2 " ++ (48 + p / 10) ∷ (48 + p % 10) ∷ [] ++ codes " 0 536 get /\n")
    (range_with_len 10 count)

pub record AreWorkedSchedules : Type 0 where
  -- one client, and what happens
  pub page : read_text (codes "client 10.0.0.2 1025 0 536 get /\nopen 1\nround\n")
      ≡ schedule (prefix_page ∷ []) (schedule_line 2 (Opens 1) ∷ schedule_line 3 Round ∷ [])
  -- the last line may have no end; empty lines and remarks are counted and ignored
  pub no_end : read_text (codes "# one page\n\nclient 10.0.0.2 1025 0 536 get /\nopen 1")
      ≡ schedule (prefix_page ∷ []) (schedule_line 4 (Opens 1) ∷ [])
  pub nothing : read_text [] ≡ schedule [] []
  -- a request as bytes in digits
  pub raw : read_text (codes "client 10.0.0.2 1025 0 536 raw 474554") ≡ schedule (plan 1025 (codes "GET") ∷ []) []
  pub raw_odd : read_text (codes "client 10.0.0.2 1025 0 536 raw 47455") ≡ bad Form 1
  -- numbers
  pub ticks : read_text (codes "tick\ntick 300\ndamage 4 45 1")
      ≡ schedule [] (schedule_line 1 (Tick 1) ∷ schedule_line 2 (Tick 300) ∷ schedule_line 3 (Damage 4 45 1) ∷ [])
  pub no_ticks : read_text (codes "tick 0") ≡ bad Form 1
  pub leading_zero : read_text (codes "give 01") ≡ bad Form 1
  pub space_after : read_text (codes "round ") ≡ bad Form 1
  pub port_of_zero : read_text (codes "client 10.0.0.2 0 0 1 get /") ≡ bad Form 1
  -- clients that cannot exist, and clients that do not
  pub too_many : read_text (client_lines 65) ≡ bad Clients 65
  pub twice : read_text (codes "client 10.0.0.2 1025 0 536 get /\nclient 10.0.0.2 1025 0 536 get /\n") ≡ bad Ports 2
  pub no_client : read_text (codes "client 10.0.0.2 1025 0 536 get /\nopen 2\nround ") ≡ bad NoClient 2
  pub client_below : read_text (codes "open 1\nclient 10.0.0.2 1025 0 536 get /") ≡ bad NoClient 1
  pub great_number : read_text (codes "open 99999999999999999999") ≡ bad NoClient 1
  -- in one line the form comes first
  pub form_first : read_text (codes "window 0 65536") ≡ bad Form 1
