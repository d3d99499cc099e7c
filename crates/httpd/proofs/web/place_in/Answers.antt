use Rattle.httpd.proofs.Prelude.{Option, None, Some, ℕ, List, ◌≡◌, option_map, IfSome, slice_get, File, files_of, FileId, IsFound}
use Rattle.httpd.proofs.Finding.{found_place}
use Rattle.httpd.proofs.Sizes.{named_within}
use Rattle.httpd.proofs.web.place_in.Goals as goal

pub returns-clause-place : goal.returns-clause-place
returns-clause-place g c =
    found_place (files_of c.args.site.now) c.see_loaded.ensures.apart c.args.name.now c.find.result c.find.ensures.found c.find.ensures.there

there : (files : List File) (name : List ℕ) (o : Option FileId)
    → IfSome o (λ id. option_map (λ (file : File). file.name) (slice_get files id.0) ≡ Some name) → IsFound files o
there files name None named = tt
there files name (Some id) named = named_within files id.0 name named

pub returns-clause-found : goal.returns-clause-found
returns-clause-found g c = there (files_of c.args.site.now) c.args.name.now c.find.result c.find.ensures.found
