use Rattle.site_image.proofs.Prelude.{drop, arith, byte_length}
use Rattle.site_image.proofs.PartPlaces.{part-is}
use Rattle.site_image.proofs.parts.short_part.Goals as goal

pub returns : goal.returns
returns c = part-is c.args.image.now c.args.at 1 c.args.len (byte_length (drop c.args.at c.args.image.now)) (omega (arith, c.requires.within)) c.requires.is_len
