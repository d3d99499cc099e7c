use Rattle.link_replay.proofs.headline.losing_pages.Goals as goal
use Rattle.link_replay.proofs.Web.{losing_pages}

pub returns : goal.returns
returns c = losing_pages
