-- Each row is computed from the definitions.
use Rattle.web_pages.proofs.Prelude.{rules, AreWorkedRequests}

pub worked : AreWorkedRequests
worked = search rules
