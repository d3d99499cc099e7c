use Rattle.httpd.proofs.Prelude.{sym, ◌∙◌}
use Rattle.httpd.proofs.Requesting.{target_goes_on, target_named, target_refused}
use Rattle.httpd.proofs.request.receive_target.Goals as goal

pub returns-then-not-done : goal.returns-then-not-done
returns-then-not-done c = λ request is.
    target_goes_on c.args.line.now c.feed.new.self request c.args.piece.now is c.feed.ensures.after (sym c.done.ensures ∙ c.if-not-done.true)

pub returns-then-is_path : goal.returns-then-is_path
returns-then-is_path c = λ request is.
    target_named c.args.line.now c.feed.new.self request c.args.piece.now is c.feed.ensures.after (sym c.done.ensures ∙ c.if-not-done.false)
    (sym c.is_path.ensures ∙ c.if-is_path.true)

pub returns-else-is_path : goal.returns-else-is_path
returns-else-is_path c = λ request is.
    target_refused c.args.line.now c.feed.new.self request c.args.piece.now is c.feed.ensures.after (sym c.done.ensures ∙ c.if-not-done.false)
    (sym c.is_path.ensures ∙ c.if-is_path.false)
