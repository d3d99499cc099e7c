-- The outcome of a schedule with the web server of a site.
use Rattle.std.specs.Prelude.{◌≡◌, ◌++◌, ℕ, List, codes, decimal, map, Result, Ok}
use Rattle.site_image.specs.Prelude.{File}
use Rattle.web_pages.specs.Prelude.{is_served, no_hits, web_spec}
use Rattle.link_world.specs.Prelude.{World, BadLine, plays}
use Rattle.link_schedule.specs.Reading.{SchedulePlan, read_text}
use Rattle.link_schedule.specs.declared.why.Why.{Why}
use Rattle.link_schedule.specs.declared.why.Why.TheVariants as why
use Rattle.link_replay.specs.Opening.{opening_for}
use Rattle.link_replay.specs.Playing.{event_at}

-- the world that the lines reach from the initial world, or the first line that is refused
abbrev pub outcome : List File → SchedulePlan → Result World BadLine
outcome files content = plays (web_spec files) is_served (map event_at content.lines) (opening_for (no_hits files) content.clients)

-- This text is played to its end.
pub record IsPlayed (files : List File) (text : List ℕ) (w : World) : Type 0 where
  pub content : SchedulePlan
  pub reads : read_text text ≡ Ok content
  pub plays : outcome files content ≡ Ok w

-- the word for a reason
abbrev pub reason_word : Why → List ℕ
reason_word why.Long = codes "long"
reason_word why.Form = codes "form"
reason_word why.Clients = codes "clients"
reason_word why.Ports = codes "ports"
reason_word why.NoClient = codes "client"
reason_word why.NoDatagram = codes "datagram"
reason_word why.NoByte = codes "byte"
reason_word why.AlreadyOpen = codes "opened"
reason_word why.NotOpen = codes "idle"
reason_word why.Full = codes "full"

-- the line of a bad schedule
abbrev pub bad_schedule : ℕ → Why → List ℕ
bad_schedule line reason = codes "bad schedule " ++ reason_word reason ++ codes " " ++ decimal line ++ codes "\n"
