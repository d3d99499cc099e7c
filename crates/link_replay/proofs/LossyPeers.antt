-- A cooperating peer of the web server has its page, over a link that loses, repeats and reorders datagrams.
use Rattle.link_replay.proofs.Prelude.{◌≡◌, ◌<◌, ◌≤◌, ℕ, All, Bool, true, List, arith, Addr, AppSpec, AppState, Event, File, IsLoaded}
use Rattle.link_replay.proofs.Prelude.{IsSteady, IsU32, SiteContent, TraceEntry, files_of, first_low, initial_node, pages_of, steady_of}
use Rattle.link_replay.proofs.Prelude.{trace_of, wanted, web_spec, keeps_page_laws, lossy_syn, mss_low, LossyWebPeer, WebPeersArrive}
use Rattle.link_replay.proofs.Prelude.{pieces_for, texts_for, IsOfLine, ActsAs, Asker, Sockets, acts_as_itself, anywhere, arrives_acting_in}
use Rattle.link_replay.specs.LossyPeers.{WebPeerArrives}
use Rattle.link_replay.proofs.Answering.{fine, left, answers_polled}

module _ (site : SiteContent) (loaded : IsLoaded site) (m : AppSpec) (here : AppState → Bool) (steady : IsSteady m) (served : ℕ → Bool)
    (own : Addr) (hits : List ℕ) (words : All IsU32 hits) (events : List Event) (of : All (IsOfLine own) events) where
  abbrev files : List File
  files = files_of site

  abbrev trace : List TraceEntry
  trace = trace_of m served events (initial_node own hits)

  -- at a port where the application acts as the web server
  peer_arrives : (a : Asker) (p : Sockets) → ActsAs m (web_spec files) p.own_port.0 here → WebPeerArrives files trace a p
  peer_arrives a p acts decided incarnation asks =
      let syn = lossy_syn a p incarnation asks.lossy in
      let some : 0 < a.mss = (let l = mss_low syn.option in let e = syn.is in omega (arith, l, e)) in
      let low : a.mss ≤ 1460 = (let l = first_low syn.option in let e = syn.is in omega (arith, l, e)) in
      arrives_acting_in m (web_spec files) (pages_of files) here steady (keeps_page_laws site loaded) served own hits words events of a p acts
      (fine files a.request decided a.mss some low) (left files a.request decided a.mss some low) (texts_for a.mss (pieces_for files (wanted a.request))) 19
      (answers_polled files a.request decided a.mss some low) incarnation asks

  pub web_peers_arrive : (ports : ℕ → Bool) → ((port : ℕ) → ports port ≡ true → ActsAs m (web_spec files) port here) → WebPeersArrive ports files trace
  web_peers_arrive ports acts a p at = peer_arrives a p (acts p.own_port.0 at)

pub lossy_web_peer : LossyWebPeer
lossy_web_peer site loaded served own addr hits words events of a p =
    let m : AppSpec = web_spec (files_of site) in
    peer_arrives site loaded m anywhere (steady_of m (pages_of (files_of site)) (keeps_page_laws site loaded)) served own hits words events
    of a p (acts_as_itself m p.own_port.0)
