-- The desk sends bytes, if its pages are bytes and it receives bytes.
use Rattle.desk_laws.proofs.Prelude.{List, IsByte, AppSpec, File, SiteContent, IsLoaded, files_of, pages_of, web_spec, keeps_page_laws}
use Rattle.desk_laws.proofs.Prelude.{on_segment, on_tick, HasBytes, all_nil, SendsBytes, page_bytes, DeliveredBytes, asked_bytes}
use Rattle.desk_laws.proofs.Prelude.{on_segment_bytes, on_tick_bytes, SendsBytesWhere, desk_spec, desk_bytes}

module _ (site : SiteContent) (loaded : IsLoaded site) (page : HasBytes (pages_of (files_of site))) where
  abbrev files : List File
  files = files_of site

  abbrev desk : AppSpec
  desk = desk_spec (files_of site)

  outputs_bytes : SendsBytes desk
  outputs_bytes = desk_bytes files (page_bytes (web_spec files) (pages_of files) (keeps_page_laws site loaded) page)

  -- what must be known of a connection is that it has received bytes
  pub desk_sends : SendsBytesWhere desk DeliveredBytes
  desk_sends = record {
    closed_knows = all_nil IsByte;
    accepted_knows = λ first sockets s. all_nil IsByte;
    segment_knows = λ at c numbers s are h. asked_bytes desk outputs_bytes at (on_segment desk c numbers s)
        (on_segment_bytes desk outputs_bytes c numbers s are h);
    tick_knows = λ at c numbers h. asked_bytes desk outputs_bytes at (on_tick desk c numbers) (on_tick_bytes desk outputs_bytes c numbers h);
    says = λ c f h. outputs_bytes.output c.part h f.snapshots;
  }
