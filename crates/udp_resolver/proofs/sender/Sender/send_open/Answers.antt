use Rattle.udp_resolver.proofs.Prelude.{◌≡◌, ◌+◌, ◌++◌, ◌∙◌, None, refl, sym, ap, drop, get_or, Appends-then, appends_by, on_err, sink_view}
use Rattle.udp_resolver.proofs.Prelude.{writes_broken, last_ident, query_texts, next_asking, questions, unanswered, unless_answered}
use Rattle.udp_resolver.proofs.StepLaws.{last_ident-append, query_texts-append, query_texts-moves, question_moves, some_moves}
use Rattle.udp_resolver.proofs.sender.Sender.send_open.Goals as goal

pub loop-at-preserved : goal.loop-at-preserved
loop-at-preserved g c =
    let inv = c.loop-at.invariant in
    let one = unless_answered (record { asking = c.loop-at.asking; text = c.index-names-at.result }) (get_or c.args.answers.now c.loop-at.at None) in
    let start = c.args.self.now.ident in
    let sent = c.in_ok-send_unless.ensures in
    record {
      prefix = inv.prefix ++ one;
      area = sent.area;
      whole = question_moves _ _ _ _ c.index-names-at.result _ _ inv.prefix c.requires.each c.loop-at-test.true c.index-names-at.is
          c.next_asking-asking.ensures inv.whole;
      ident = sent.ident ∙ ap (λ k. last_ident k one) inv.ident ∙ sym (last_ident-append start inv.prefix one);
      wrote = appends_by _ _ (query_texts start inv.prefix ++ query_texts c.loop-at.self.ident one) _
          (query_texts-moves start c.loop-at.self.ident inv.prefix one inv.ident)
          (Appends-then _ _ _ (query_texts start inv.prefix) (query_texts c.loop-at.self.ident one) inv.wrote sent.writes.writes.whole);
      calm = sent.writes.writes.cause.same ∙ inv.calm;
    }

pub returns-in_err-send_unless-clause-writes : goal.returns-in_err-send_unless-clause-writes
returns-in_err-send_unless-clause-writes g c =
    let inv = c.loop-at.invariant in
    let at = c.loop-at.at in
    let one = unless_answered (record { asking = c.loop-at.asking; text = c.index-names-at.result }) (get_or c.args.answers.now at None) in
    let start = c.args.self.now.ident in
    let later = unanswered (questions (next_asking c.loop-at.asking) (drop (at + 1) c.args.names.now)) (drop (at + 1) c.args.answers.now) in
    let whole = question_moves _ (next_asking c.loop-at.asking) _ _ c.index-names-at.result at _ inv.prefix c.requires.each
    c.loop-at-test.true c.index-names-at.is refl inv.whole in
    let rest = query_texts (last_ident start (inv.prefix ++ one)) later in
    let all = query_texts start (unanswered (questions c.args.asking c.args.names.now) c.args.answers.now) in
    let parts : all ≡ (query_texts start inv.prefix ++ query_texts c.loop-at.self.ident one) ++ rest =
    ap (λ l. query_texts start l) whole ∙ query_texts-append start (inv.prefix ++ one) later
    ∙ ap (λ l. l ++ rest) (query_texts-moves start c.loop-at.self.ident inv.prefix one inv.ident) in
    record {
      writes = writes_broken c.from_residual.result c.from_residual.ensures.0 c.in_err-send_unless.field-0.0
          (sink_view g.K.Sink c.args.out.now) (sink_view g.K.Sink c.loop-at.out) (sink_view g.K.Sink c.send_unless.new.out)
          (query_texts start inv.prefix) (query_texts c.loop-at.self.ident one) rest all (sym parts) inv.wrote inv.calm
          c.in_err-send_unless.ensures.writes.writes;
      some = on_err _ (some_moves (query_texts start inv.prefix) (query_texts c.loop-at.self.ident one) rest all parts
          c.in_err-send_unless.ensures.writes.some);
    }
