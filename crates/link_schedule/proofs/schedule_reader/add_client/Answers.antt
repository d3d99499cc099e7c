use Rattle.link_schedule.proofs.Prelude.{◌≡◌, ◌∷◌, [], ◌++◌, sym, ap, ◌∙◌, arith, length, Ok, rules, tests, list_any, meets, content_of}
use Rattle.link_schedule.proofs.Clients.{added, taken, too_many}
use Rattle.link_schedule.proofs.schedule_reader.add_client.Goals as goal

pub returns-then-earlier-ge-MOST_CLIENTS-clause-meant :
    goal.returns-then-earlier-ge-MOST_CLIENTS-clause-meant
returns-then-earlier-ge-MOST_CLIENTS-clause-meant c lines =
    let same = ap length c.as_slice-earlier.ensures.value in
    too_many c.args.clients.now.items lines c.args.plan (omega (arith, same))

pub returns-then-has_ports_of-clause-meant : goal.returns-then-has_ports_of-clause-meant
returns-then-has_ports_of-clause-meant c lines =
    let same = ap length c.as_slice-earlier.ensures.value in
    taken c.args.clients.now.items lines c.args.plan (omega (arith, same))
    (ap (list_any (λ earlier. meets earlier c.args.plan)) (sym c.as_slice-earlier.ensures.value)
    ∙ sym c.has_ports_of.ensures ∙ c.if-has_ports_of.true)

pub returns-clause-meant : goal.returns-clause-meant
returns-clause-meant c lines =
    let same = ap length c.as_slice-earlier.ensures.value in
    let items : c.push.new.self.items ≡ c.args.clients.now.items ++ c.args.plan ∷ [] = search (rules, tests) in
    added c.args.clients.now.items lines c.args.plan (omega (arith, same))
    (ap (list_any (λ earlier. meets earlier c.args.plan)) (sym c.as_slice-earlier.ensures.value)
    ∙ sym c.has_ports_of.ensures ∙ c.if-has_ports_of.false)
    ∙ ap (λ cs. Ok (content_of cs lines)) (sym items)
