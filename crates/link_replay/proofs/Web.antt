-- The guarantee for the pages of a site.
use Rattle.link_replay.proofs.Prelude.{◌≢◌, ℕ, ◌<◌, ◌≤◌, inl, List, [], ◌∷◌, length, refl, arith, div_ceil_times, AppSpec, Pages, first_mss}
use Rattle.link_replay.proofs.Prelude.{File, files_of, offered, IsPlanned, IsServed, IsSchedulePlayed, prefix_and_whole, lines_are_acts}
use Rattle.link_replay.proofs.Prelude.{honest_link, mss_low, first_low, wanted, NotYet, pages_of, web_spec, keeps_page_laws, made_of_bytes}
use Rattle.link_replay.proofs.Prelude.{PagesAreReceived, HonestPages, LosingPages, losing_link, parts_of, texts_of}
use Rattle.link_replay.proofs.Answering.{fine, left, answers}

pub pages_are_received : PagesAreReceived
pages_are_received site loaded bytes w r k side there clean =
    let m : AppSpec = web_spec (files_of site) in
    let pages : Pages = pages_of (files_of site) in
    let played : IsSchedulePlayed m pages w = record {
      served = r.served;
      start = r.start;
      lines = r.lines;
      are_acts = r.are_acts;
      bytes = inl (λ delivered captures are all. made_of_bytes site bytes delivered captures all);
      accepted = r.accepted;
    } in
    let is : IsServed pages (record w { mark = 0 }) side = prefix_and_whole m pages (keeps_page_laws site loaded) (record w { mark = 0 })
    (lines_are_acts m pages w played) k side there clean in
    record { prefix = is.prefix; all = is.all; whole = is.whole }

-- a request that is decided has come
has_come : (request : List ℕ) → wanted request ≢ NotYet → 0 < length request
has_come [] decided = absurd (decided refl)
has_come (x ∷ xs) decided = omega arith

pub honest_pages : HonestPages
honest_pages site loaded served addr hits p a words plan port decided room =
    let files : List File = files_of site in
    let planned : IsPlanned p = plan.each 0 p refl in
    let mss : ℕ = first_mss (offered p.setup.mss) in
    let some : 0 < mss = mss_low (offered p.setup.mss) in
    let low : mss ≤ 1460 = first_low (offered p.setup.mss) in
    honest_link (web_spec files) (pages_of files) (keeps_page_laws site loaded) served addr hits p a words plan port
    (fine files p.request decided mss some low 0) (left files p.request decided mss some low) (parts_of p) (texts_of files p)
    (answers files p.request decided mss some low 0 (omega arith))
    (has_come p.request decided) (div_ceil_times (length p.request) p.setup.seg planned.seg.0).0 room

pub losing_pages : LosingPages
losing_pages site loaded served addr hits p a words plan port decided one_part room =
    let files : List File = files_of site in
    let mss : ℕ = first_mss (offered p.setup.mss) in
    let some : 0 < mss = mss_low (offered p.setup.mss) in
    let low : mss ≤ 1460 = first_low (offered p.setup.mss) in
    losing_link (web_spec files) (pages_of files) (keeps_page_laws site loaded) served addr hits p a words plan port
    (fine files p.request decided mss some low 0) (left files p.request decided mss some low) (texts_of files p)
    (answers files p.request decided mss some low 0 (omega arith)) (has_come p.request decided) one_part room
