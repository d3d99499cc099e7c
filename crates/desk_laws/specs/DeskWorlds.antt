-- The worlds whose node has the web server at port 80 and the shell at port 23.
use Rattle.std.specs.Prelude.{◌≡◌, ◌*◌, ◌≤◌, ◌==◌, ◌⊎◌, if◌then◌else◌, All, Bool, length, List, slice_get, Some, suc, true, ℕ}
use Rattle.app_events.specs.Prelude.{Pages, IsSnapshot, Snapshot}
use Rattle.site_image.specs.Prelude.{File}
use Rattle.file_tree.specs.Prelude.{SiteContent, IsLoaded, files_of}
use Rattle.web_pages.specs.Prelude.{pages_of}
use Rattle.tcp_machine.specs.Prelude.{Connection}
use Rattle.uip_node.specs.Prelude.{Periodic, AbstractNode, step}
use Rattle.link_world.specs.Prelude.{World, Side, is_clean, era, IsReached, IsReachedPlainly, IsServed}
use Rattle.link_world.specs.Prelude.{RepeatsSameBytes, MarksRepeats, IsInStep, server_side, IsExpired, SendsAgain}
use Rattle.telnet_shell.specs.declared.shell.TheConstants.{TELNET_PORT}
use Rattle.telnet_shell.specs.Traces.{sessions}
use Rattle.telnet_shell.specs.DeskSpec.{desk_spec}

-- A world that acts reach: any acts if the pages are bytes, otherwise acts that damage nothing.
abbrev pub IsReachedByDesk : SiteContent → World → Type 0
IsReachedByDesk site w = IsReached (desk_spec (files_of site)) (pages_of (files_of site)) w ⊎ IsReachedPlainly (desk_spec (files_of site)) w

-- The output that is due at a port: the session of the shell at port 23, a page of the files at any other port.
abbrev pub due_at : List File → ℕ → Pages
due_at files port = if port == TELNET_PORT then sessions else pages_of files

-- This holds for any loss, duplication, reordering and damage. A clean client has received a prefix of the output that is due at its port.
-- Its whole request and the snapshots of its connection determine that output. If it saw a normal close, it has all of it, and the output
-- is complete.
abbrev pub DeskServes : Type 0
DeskServes =
    (site : SiteContent) → IsLoaded site → (w : World) → IsReachedByDesk site w →
    (k : ℕ) (side : Side) → slice_get w.sides k ≡ Some side → is_clean side ≡ true →
    IsServed (due_at (files_of site) side.client.setup.server_port.0) w side

-- The output of a session is at most 1,032 bytes for each byte received.
abbrev pub SessionsAreShort : Type 0
SessionsAreShort = (delivered : List ℕ) (captures : List Snapshot) → All IsSnapshot captures
    → length (sessions.page delivered captures) ≤ 1032 * length delivered

-- This holds for any loss, duplication, reordering and damage. If a datagram is marked as a retransmission, it was sent before, with the
-- same number, flags and text. This includes clients of the shell, and clients that are not clean.
abbrev pub DeskRepeatsSameBytes : Type 0
DeskRepeatsSameBytes = (site : SiteContent) → IsLoaded site → (w : World) → IsReachedByDesk site w → RepeatsSameBytes w

-- If two datagrams to a client in one epoch occupy the same sequence number, the later one is marked.
abbrev pub DeskMarksRepeats : Type 0
DeskMarksRepeats = (site : SiteContent) → IsLoaded site → (w : World) → IsReachedByDesk site w → MarksRepeats w

-- A clean client that has opened expects a number within what is outstanding at its live connection, and has acknowledged no more.
abbrev pub DeskOneSegment : Type 0
DeskOneSegment =
    (site : SiteContent) → IsLoaded site → (w : World) → IsReachedByDesk site w →
    (k : ℕ) (side : Side) → slice_get w.sides k ≡ Some side → is_clean side ≡ true → (o : ℕ) → side.opened ≡ Some o →
    IsInStep w (suc k) side.client (server_side w side) (era side.history (server_side w side) o).iss

-- This holds at every node, for any history.
abbrev pub DeskSendsAgain : Type 0
DeskSendsAgain =
    (site : SiteContent) (served : ℕ → Bool) (n : AbstractNode) (slot : ℕ) (c : Connection) → slice_get n.connections slot ≡ Some c
    → IsExpired c →
    SendsAgain (desk_spec (files_of site)) c (step (desk_spec (files_of site)) served n (Periodic slot)).sent
