-- A cooperating peer of the web server, over a link that loses, repeats and reorders datagrams, whatever other peers do.
use Rattle.std.specs.Prelude.{◌≡◌, ◌≢◌, All, Bool, List, true, ℕ}
use Rattle.uip_wire.specs.declared.addr.Addr.{Addr}
use Rattle.app_events.specs.Prelude.{IsAddr, IsU32}
use Rattle.tcp_machine.specs.Prelude.{Sockets}
use Rattle.uip_node.specs.Prelude.{Event, initial_node}
use Rattle.site_image.specs.Prelude.{File}
use Rattle.file_tree.specs.Prelude.{SiteContent, IsLoaded, files_of}
use Rattle.web_pages.specs.Prelude.{wanted, NotYet, pages_of, web_spec}
use Rattle.node_laws.specs.Prelude.{Asker, AsksOverLoss, Progresses, TraceEntry, exchanges_with, trace_of, IsOfLine}
use Rattle.link_replay.specs.Web.{pieces_for, texts_for}

-- The page of a peer of the web server arrives, over a lossy link, in this trace: from the whole request on it has arrived or is on its way
-- (`Progresses`), with at most as many acknowledgements without text as the page has segments. The request is decided, and is received
-- whole before any slot is called twenty times.
abbrev pub WebPeerArrives : List File → List TraceEntry → Asker → Sockets → Type 0
WebPeerArrives files trace a p =
    wanted a.request ≢ NotYet → (incarnation : List TraceEntry) → AsksOverLoss a p 19 trace incarnation
    → Progresses (pages_of files) a (texts_for a.mss (pieces_for files (wanted a.request))) (exchanges_with p incarnation)

-- Every peer of the web server that is at such a port arrives.
abbrev pub WebPeersArrive : (ℕ → Bool) → List File → List TraceEntry → Type 0
WebPeersArrive ports files trace = (a : Asker) (p : Sockets) → ports p.own_port.0 ≡ true → WebPeerArrives files trace a p

-- Every peer of a node with the web server arrives, whatever other peers do.
abbrev pub LossyWebPeer : Type 0
LossyWebPeer =
    (site : SiteContent) → IsLoaded site → (served : ℕ → Bool) (own : Addr) → IsAddr own → (hits : List ℕ) → All IsU32 hits
    → (events : List Event) → All (IsOfLine own) events → (a : Asker) (p : Sockets)
    → WebPeerArrives (files_of site) (trace_of (web_spec (files_of site)) served events (initial_node own hits)) a p
