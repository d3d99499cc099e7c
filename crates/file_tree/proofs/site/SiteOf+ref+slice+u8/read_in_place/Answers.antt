use Rattle.file_tree.proofs.Prelude.{subst, arith, read_image, IsImage, image-reads, image-again, Gives, files_of}
use Rattle.file_tree.proofs.ReadLemmas.{gives-ok}
use Rattle.file_tree.proofs.site.SiteOf+ref+slice+u8.read_in_place.Goals as goal

pub returns-clause-spelled : goal.returns-clause-spelled
returns-clause-spelled c =
    gives-ok files_of c.of.result (read_image c.args.image.now) (IsImage c.args.image.now) c.of.ensures.exact
    (λ files e. image-reads c.args.image.now files (λ i. omega (arith, c.type_inv.image i)) e)

pub returns-clause-only : goal.returns-clause-only
returns-clause-only c files is =
    subst (Gives files_of c.of.result) (image-again c.args.image.now files is) c.of.ensures.exact
