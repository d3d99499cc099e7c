-- Each row is computed from the definitions.
use Rattle.web_pages.proofs.Prelude.{rules, digits, AreWorkedPages}

pub worked : AreWorkedPages
unfolding digits
worked = search rules
