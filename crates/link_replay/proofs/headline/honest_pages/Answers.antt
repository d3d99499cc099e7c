use Rattle.link_replay.proofs.headline.honest_pages.Goals as goal
use Rattle.link_replay.proofs.Web.{honest_pages}

pub returns : goal.returns
returns c = honest_pages
