use Rattle.file_tree.proofs.Prelude.{ap, sym, subst, ◌∙◌, arith, read_image, IsImage, image-reads, image-again, Gives, files_of}
use Rattle.file_tree.proofs.ReadLemmas.{gives-ok}
use Rattle.file_tree.proofs.site.SiteOf+Vec+u8.read.Goals as goal

pub returns-clause-spelled : goal.returns-clause-spelled
returns-clause-spelled c =
    gives-ok files_of c.from_image.result (read_image c.in_ok-from_slice.field-0.items) (IsImage c.args.image.now) c.from_image.ensures.exact
    (λ files e. image-reads c.args.image.now files (λ i. omega (arith, c.type_inv.image i)) (ap read_image (sym c.in_ok-from_slice.ensures.items) ∙ e))

pub returns-clause-only : goal.returns-clause-only
returns-clause-only c files is =
    subst (Gives files_of c.from_image.result) (ap read_image c.in_ok-from_slice.ensures.items ∙ image-again c.args.image.now files is)
    c.from_image.ensures.exact
