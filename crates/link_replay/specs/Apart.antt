-- Aborting and closing at a connection of the web server. It aborts after its last poll, and otherwise closes when a complete page is
-- acknowledged. The two never coincide, because it closes at the first opportunity.
use Rattle.std.specs.Prelude.{◌≡◌, ◌&&◌, Bool, false, List}
use Rattle.site_image.specs.Prelude.{File}
use Rattle.app_events.specs.Prelude.{AppState}
use Rattle.app_events.specs.declared.state.State.TheVariants.{Established}
use Rattle.tcp_machine.specs.Prelude.{Connection}
use Rattle.link_world.specs.Prelude.{IsOfNode}
use Rattle.web_pages.specs.Prelude.{is_page_whole, is_acknowledged, web_spec}
use Rattle.web_pages.specs.declared.TheConstants.{MOST_POLLS}

-- All of a complete page is acknowledged.
abbrev pub is_at_end : List File → AppState → Bool
is_at_end files part = is_page_whole files part.input part.snapshots && is_acknowledged files part

-- A connection is not idle at the end of its page, so it is not there after its last poll. A CLOSED one has the state in which it was last
-- asked.
pub record ClosesInTime (files : List File) (c : Connection) : Type 0 where
  pub idle : c.state ≡ Established → c.len ≡ 0 → is_at_end files c.part ≡ false
  pub apart : c.part.polls ≡ MOST_POLLS → is_at_end files c.part ≡ false

-- This holds at every node of the web server, for any events.
abbrev pub AbortAndCloseApart : Type 0
AbortAndCloseApart = (files : List File) (c : Connection) → IsOfNode (web_spec files) c → ClosesInTime files c
