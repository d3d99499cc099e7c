use Rattle.httpd.proofs.Prelude.{◌++◌, sym, ap, ◌∙◌, subst, take_rest, ReceivesTarget, ReceivesTo}
use Rattle.httpd.proofs.Words.{prefix_of}
use Rattle.httpd.proofs.Requesting.{method_goes_on, method_refused, target_begins}
use Rattle.httpd.proofs.request.receive_method.Goals as goal

pub returns-then-not-done : goal.returns-then-not-done
returns-then-not-done c = λ request is.
    method_goes_on c.args.line.now c.feed-count.new.line request c.args.piece.now is c.feed-count.ensures.after (sym c.done.ensures ∙ c.if-not-done.true)

pub returns-then-not-is_get : goal.returns-then-not-is_get
returns-then-not-is_get c = λ request is.
    method_refused c.args.line.now c.feed-count.new.line request c.args.piece.now is c.feed-count.ensures.after (sym c.done.ensures ∙ c.if-not-done.false)
    (sym c.is_get.ensures ∙ c.if-not-is_get.true)

pub returns : goal.returns
returns c = λ request is.
    let begins = target_begins c.args.line.now c.feed-count.new.line request c.args.piece.now c.feed-count.result is
    c.feed-count.ensures.after c.feed-count.ensures.taken
    (sym c.done.ensures ∙ c.if-not-done.false) (sym c.is_get.ensures ∙ c.if-not-is_get.false) in
    subst (λ bytes. ReceivesTo c.receive_target.result c.receive_target.new.line bytes)
    (ap (λ rest. (request ++ prefix_of c.args.piece.now) ++ rest) (take_rest c.args.piece.now c.feed-count.result) ∙ begins.joined)
    (c.receive_target.ensures (request ++ prefix_of c.args.piece.now) (subst (λ l. ReceivesTarget l (request ++ prefix_of c.args.piece.now))
    (sym c.new.ensures) begins.received))
