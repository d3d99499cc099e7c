use Rattle.site_image.proofs.ImageLaws.{image-reads, image-again}
use Rattle.site_image.proofs.laws.one_reading.Goals as goal

pub returns-clause-spelled : goal.returns-clause-spelled
returns-clause-spelled c bytes files fits e = image-reads bytes files fits e

pub returns-clause-read : goal.returns-clause-read
returns-clause-read c bytes files is = image-again bytes files is
