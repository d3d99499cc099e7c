use Rattle.web_pages.proofs.ByteLaws.{made_of_bytes}
use Rattle.web_pages.proofs.laws.pages_are_bytes.Goals as goal

pub returns : goal.returns
returns c = made_of_bytes
