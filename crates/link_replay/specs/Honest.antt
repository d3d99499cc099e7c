-- A client over a link that loses nothing: it sends a request, and every datagram is delivered once and in order.
use Rattle.std.specs.Prelude.{◌≡◌, ◌≢◌, ◌<◌, ◌+◌, ◌*◌, ℕ, List, [], ◌∷◌, map, replicate}
use Rattle.site_image.specs.Prelude.{File}
use Rattle.web_pages.specs.Prelude.{wanted, NotYet}
use Rattle.link_schedule.specs.declared.event.Event.TheVariants.{Opens, Round}
use Rattle.link_schedule.specs.Clients.{Plan}
use Rattle.link_schedule.specs.Reading.{SchedulePlan}
use Rattle.link_replay.specs.Opening.{planned}
use Rattle.link_replay.specs.Playing.{event_at}
use Rattle.link_replay.specs.Web.{parts_of, texts_of}

-- two rounds for each segment of the first client's request, two for each segment of its page, and six more
abbrev pub rounds_for : List File → Plan → ℕ
rounds_for files plan = 2 * parts_of (planned 1 plan) + 2 * texts_of files (planned 1 plan) + 6

-- One client, whose request is decided, opens, and exactly `rounds_for` rounds follow.
pub record IsHonest (files : List File) (content : SchedulePlan) (plan : Plan) : Type 0 where
  pub alone : content.clients ≡ plan ∷ []
  pub lines : map event_at content.lines ≡ Opens 1 ∷ replicate (rounds_for files plan) Round
  pub decided : wanted plan.request ≢ NotYet
  pub room : rounds_for files plan < 65535
