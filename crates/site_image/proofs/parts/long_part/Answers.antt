use Rattle.site_image.proofs.Prelude.{drop, arith, long_length}
use Rattle.site_image.proofs.PartPlaces.{part-is}
use Rattle.site_image.proofs.parts.long_part.Goals as goal

pub returns : goal.returns
returns c = part-is c.args.image.now c.args.at 4 c.args.len (long_length (drop c.args.at c.args.image.now)) (omega (arith, c.requires.within)) c.requires.is_len
