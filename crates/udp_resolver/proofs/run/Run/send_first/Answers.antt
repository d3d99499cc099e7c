use Rattle.udp_resolver.proofs.Prelude.{◌∙◌, ap, sym, length, on_ok_weaker, last_ident, query_texts, questions, unanswered}
use Rattle.udp_resolver.proofs.RunLaws.{first_asked, none_yet, questions-length, writes_some_by}
use Rattle.udp_resolver.proofs.run.Run.send_first.Goals as goal

pub returns-clause-knows : goal.returns-clause-knows
returns-clause-knows g c =
    let asked = questions c.args.asking c.args.names.now in
    let first = unanswered asked c.as_slice.result.now in
    let none = c.requires.answers ∙ none_yet asked (length c.args.names.now) (questions-length c.args.asking c.args.names.now) in
    on_ok_weaker c.send_open.result
    (λ ident. record {
      fed = c.requires.fed;
      at = c.requires.at;
      heard = none;
      sent = ident ∙ ap (λ n. last_ident n first) c.requires.ident ∙ ap (λ l. last_ident 0 l)
          (first_asked asked c.as_slice.result.now (c.as_slice.ensures.value ∙ none));
    })
    c.send_open.ensures.ident

pub returns-clause-writes : goal.returns-clause-writes
returns-clause-writes g c =
    let asked = questions c.args.asking c.args.names.now in
    let first = unanswered asked c.as_slice.result.now in
    let none = c.requires.answers ∙ none_yet asked (length c.args.names.now) (questions-length c.args.asking c.args.names.now) in
    writes_some_by c.send_open.result _ _ _ _
    (sym (ap (λ n. query_texts n first) c.requires.ident ∙ ap (λ l. query_texts 0 l)
    (first_asked asked c.as_slice.result.now (c.as_slice.ensures.value ∙ none))))
    c.send_open.ensures.writes
