-- The guarantee for the web server: what its clients receive of the pages of a site.
use Rattle.std.specs.Int.{div_ceil}
use Rattle.std.specs.Prelude.{◌≡◌, ◌≢◌, ◌+◌, ◌*◌, ◌≤◌, ◌∷◌, [], All, Bool, length, List, Ok, replicate, slice_get, Some, sum_by, true, ℕ}
use Rattle.uip_wire.specs.declared.addr.Addr.{Addr}
use Rattle.app_events.specs.Prelude.{IsU32, IsByte, IsAddr}
use Rattle.tcp_machine.specs.Prelude.{first_mss}
use Rattle.script_lang.specs.declared.function.Function.{Function}
use Rattle.script_lang.specs.Prelude.{length_at_most}
use Rattle.site_image.specs.Prelude.{File}
use Rattle.file_tree.specs.Prelude.{SiteContent, IsLoaded, files_of}
use Rattle.link_client.specs.Prelude.{offered}
use Rattle.link_world.specs.Prelude.{World, Side, is_clean, Planned, IsPlan, Start, initial_world}
use Rattle.link_world.specs.Prelude.{started, plays, OfLine, IsAct, IsServed, IsServedWhole, ServesOverLoss}
use Rattle.link_schedule.specs.declared.event.Event.{Event}
use Rattle.link_schedule.specs.declared.event.Event.TheVariants.{Opens, Round}
use Rattle.web_pages.specs.Prelude.{Wanted, wanted, NotYet, Refused, Name, ScriptPiece, reply_pieces, Plain, Made, pages_of, web_spec}

-- The lines of a schedule, each accepted, reach this world from the server of a site and some clients. Damage is a line like any other.
pub record IsReplayed (site : SiteContent) (w : World) : Type 0 where
  pub served : ℕ → Bool
  pub start : Start
  pub lines : List Event
  pub are_acts : All (OfLine IsAct) lines
  pub accepted : plays (web_spec (files_of site)) served lines (started start) ≡ Ok w

-- Every client without a stale delivery has received a prefix of its page, and the whole page if it saw a normal close.
abbrev pub PagesAreReceived : Type 0
PagesAreReceived =
    (site : SiteContent) → IsLoaded site → All IsByte site.image → (w : World) → IsReplayed site w →
    (k : ℕ) (side : Side) → slice_get w.sides k ≡ Some side → is_clean side ≡ true → IsServed (pages_of (files_of site)) w side

-- the greatest length of a piece
abbrev pub most_of : ScriptPiece Function → ℕ
most_of (Plain text) = length text
most_of (Made function argument) = length_at_most function

-- a number of segments of at most mss bytes that suffices for the pieces, if each segment stays in one piece
abbrev pub texts_for : ℕ → List (ScriptPiece Function) → ℕ
texts_for mss pieces = sum_by (λ piece. div_ceil (most_of piece) mss) pieces

-- the pieces of the reply to a request
abbrev pub pieces_for : List File → Wanted → List (ScriptPiece Function)
pieces_for files NotYet = []
pieces_for files Refused = []
pieces_for files (Name name) = reply_pieces files name

-- the number of segments in which a client sends its request
abbrev pub parts_of : Planned → ℕ
parts_of p = div_ceil (length p.request) p.setup.seg

-- a number of segments that suffices for its page
abbrev pub texts_of : List File → Planned → ℕ
texts_of files p = texts_for (first_mss (offered p.setup.mss)) (pieces_for files (wanted p.request))

-- Over a link that loses nothing, a client whose request is decided has its whole page after a number of rounds. These are two for each
-- segment of its request, two for each segment of its page, and six.
abbrev pub HonestPages : Type 0
HonestPages =
    (site : SiteContent) → IsLoaded site → (served : ℕ → Bool) (addr : Addr) (hits : List ℕ) (p : Planned)
    → IsAddr addr → All IsU32 hits → IsPlan (p ∷ []) →
    served p.setup.server_port.0 ≡ true → wanted p.request ≢ NotYet → 2 * parts_of p + 2 * texts_of (files_of site) p + 7 ≤ 65535 →
    (w : World)
    × (plays (web_spec (files_of site)) served (Opens 1 ∷ replicate (2 * parts_of p + 2 * texts_of (files_of site) p + 6) Round)
    (initial_world addr hits (p ∷ [])) ≡ Ok w)
    × IsServedWhole (pages_of (files_of site)) w

-- Over a link that loses up to seven copies in a row of each segment of the node, and up to four of the SYN-ACK, a client that sends a
-- decided request in one segment has its whole page.
abbrev pub LosingPages : Type 0
LosingPages =
    (site : SiteContent) → IsLoaded site → (served : ℕ → Bool) (addr : Addr) (hits : List ℕ) (p : Planned)
    → IsAddr addr → All IsU32 hits → IsPlan (p ∷ []) →
    served p.setup.server_port.0 ≡ true → wanted p.request ≢ NotYet → length p.request ≤ p.setup.seg → 10 * texts_of (files_of site) p + 60 ≤ 65535 →
    ServesOverLoss (web_spec (files_of site)) (pages_of (files_of site)) served (initial_world addr hits (p ∷ [])) (texts_of (files_of site) p)
