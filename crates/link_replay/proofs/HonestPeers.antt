-- A cooperating peer of the web server has its page.
use Rattle.link_replay.proofs.Prelude.{◌<◌, ◌≤◌, List, arith, File, files_of, first_low, pages_of, wanted, web_spec, keeps_page_laws}
use Rattle.link_replay.proofs.Prelude.{honest_peer, of_syn, mss_low, HonestWebPeer, pieces_for, texts_for}
use Rattle.link_replay.proofs.Answering.{fine, left, answers_polled}

pub honest_web_peer : HonestWebPeer
honest_web_peer site loaded served own addr hits words events of a p decided incarnation asks enough =
    let files : List File = files_of site in
    let syn = of_syn a p incarnation asks.honest in
    let some : 0 < a.mss = (let l = mss_low syn.option in let e = syn.is in omega (arith, l, e)) in
    let low : a.mss ≤ 1460 = (let l = first_low syn.option in let e = syn.is in omega (arith, l, e)) in
    honest_peer (web_spec files) (pages_of files) (keeps_page_laws site loaded) served own addr hits words events of a p
    (fine files a.request decided a.mss some low) (left files a.request decided a.mss some low) (texts_for a.mss (pieces_for files (wanted a.request))) 19
    (answers_polled files a.request decided a.mss some low) incarnation asks enough
