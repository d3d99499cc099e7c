use Rattle.httpd.proofs.Prelude.{◌≤◌, length, sym, subst, takes_prefix}
use Rattle.httpd.proofs.request.feed.Goals as goal

pub returns-clause-within : goal.returns-clause-within
returns-clause-within c = subst (λ n. n ≤ length c.args.piece.now) (sym c.feed.ensures.taken) (takes_prefix c.args.line.now c.args.piece.now)
