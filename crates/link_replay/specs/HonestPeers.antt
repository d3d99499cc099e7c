-- A cooperating peer of the web server, whatever other peers do.
use Rattle.std.specs.Prelude.{◌≢◌, ◌<◌, All, Bool, List, ℕ}
use Rattle.uip_wire.specs.declared.addr.Addr.{Addr}
use Rattle.app_events.specs.Prelude.{IsAddr, IsU32}
use Rattle.tcp_machine.specs.Prelude.{Sockets}
use Rattle.uip_node.specs.Prelude.{Event, initial_node}
use Rattle.file_tree.specs.Prelude.{SiteContent, IsLoaded, files_of}
use Rattle.web_pages.specs.Prelude.{wanted, NotYet, pages_of, web_spec}
use Rattle.node_laws.specs.Prelude.{Asker, AsksHonestly, HasItsPage, bare_acks, TraceEntry, exchanges_with, trace_of, IsOfLine}
use Rattle.link_replay.specs.Web.{pieces_for, texts_for}

-- The request of a peer is decided, and is received whole before any slot is called twenty times. The peer has its whole page and a FIN
-- once it sent more segments without text than its page has segments.
abbrev pub HonestWebPeer : Type 0
HonestWebPeer =
    (site : SiteContent) → IsLoaded site → (served : ℕ → Bool) (own : Addr) → IsAddr own → (hits : List ℕ) → All IsU32 hits
    → (events : List Event) → All (IsOfLine own) events → (a : Asker) (p : Sockets)
    → wanted a.request ≢ NotYet → (incarnation : List TraceEntry)
    → AsksHonestly a p 19 (trace_of (web_spec (files_of site)) served events (initial_node own hits)) incarnation
    → texts_for a.mss (pieces_for (files_of site) (wanted a.request)) < bare_acks (exchanges_with p incarnation)
    → HasItsPage (pages_of (files_of site)) a (exchanges_with p incarnation)
