use Rattle.file_tree.proofs.Prelude.{files_of}
use Rattle.file_tree.proofs.LoadLemmas.{loads-by}
use Rattle.file_tree.proofs.site.SiteOf+Vec+u8.load.Goals as goal

pub returns-clause-image : goal.returns-clause-image
returns-clause-image g c = loads-by files_of (g.H.Shelf.held c.args.shelf.now) c.args.name.now c.in_ok-image.image.items c.from_image.result
    c.in_ok-image.ensures.bytes c.from_image.ensures.exact
