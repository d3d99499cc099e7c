use Rattle.web_pages.proofs.Upgrades.{upgrade_keeps_pages}
use Rattle.web_pages.proofs.laws.upgrade_keeps_pages.Goals as goal

pub returns : goal.returns
returns c = upgrade_keeps_pages
