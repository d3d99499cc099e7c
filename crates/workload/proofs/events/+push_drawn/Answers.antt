use Rattle.workload.proofs.Prelude.{◌++◌, ◌-◌, ◌%◌, List, append-nil, sym, ap, ◌∙◌, flat_map, first_words, pcg32, Event, event_drawn}
use Rattle.workload.proofs.Prelude.{happens}
use Rattle.workload.proofs.Keeping.{more_from, on_ok_by}
use Rattle.workload.proofs.Working.{drawn_step, none_drawn}
use Rattle.workload.proofs.events.+push_drawn.Goals as goal

pub returns-then-left-eq0 : goal.returns-then-left-eq0
returns-then-left-eq0 t c =
    let old = c.args.events.now.items in
    let f = happens c.args.clients in
    sym (append-nil old)
    ∙ ap (λ (l : List Event). old ++ l) (sym (ap (λ n. flat_map f (first_words pcg32 n c.args.words.now)) c.if-left-eq0.true ∙ none_drawn f c.args.words.now))

pub returns : goal.returns
returns t c =
    on_ok_by c.push_drawn.result
    (λ rest. drawn_step c.args.clients c.args.left (c.args.left - 1) c.args.words.now c.next_word-word.new.self c.next_word-word.result
    c.args.events.now.items c.push.new.events.items c.push-2.new.events.items c.push_drawn.new.events.items c.event_by.result
    (more_from c.args.left c.if-left-eq0.false) c.next_word-word.ensures
    (c.event_by.ensures ∙ ap (λ k. event_drawn (c.next_word-word.result % 8) k) c.client_by.ensures) c.in_ok-push.ensures c.in_ok-push-2.ensures rest)
    c.push_drawn.ensures
