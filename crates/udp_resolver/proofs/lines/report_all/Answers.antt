use Rattle.udp_resolver.proofs.Prelude.{◌≡◌, ◌+◌, ◌++◌, ◌∙◌, None, sym, ap, drop, get_or, Appends-then, appends_by, on_err, sink_view}
use Rattle.udp_resolver.proofs.Prelude.{writes_broken, writes_by, fate_by, line_of, lines_by}
use Rattle.udp_resolver.proofs.StepLaws.{line_moves, line_some, some_moves}
use Rattle.udp_resolver.proofs.lines.report_all.Goals as goal

pub loop-at-preserved : goal.loop-at-preserved
loop-at-preserved g c =
    let inv = c.loop-at.invariant in
    let name = c.index-names-at.result in
    let one = line_of name (fate_by (get_or c.args.answers.now c.loop-at.at None) c.args.is_over) in
    let text : c.bytes.result.now ≡ one = c.bytes.ensures ∙ c.line_of.ensures ∙ ap (λ f. line_of name f) c.fate_by.ensures in
    record {
      prefix = inv.prefix ++ one;
      whole = line_moves _ _ name _ _ _ inv.prefix c.requires c.loop-at-test.true c.index-names-at.is inv.whole;
      wrote = Appends-then _ _ _ inv.prefix one inv.wrote (appends_by _ _ c.bytes.result.now one (sym text) c.in_ok-write_whole.ensures.whole);
      calm = c.in_ok-write_whole.ensures.cause.same ∙ inv.calm;
    }

pub returns-in_err-write_whole : goal.returns-in_err-write_whole
returns-in_err-write_whole g c =
    let inv = c.loop-at.invariant in
    let at = c.loop-at.at in
    let name = c.index-names-at.result in
    let fate = fate_by (get_or c.args.answers.now at None) c.args.is_over in
    let one = line_of name fate in
    let text : c.bytes.result.now ≡ one = c.bytes.ensures ∙ c.line_of.ensures ∙ ap (λ f. line_of name f) c.fate_by.ensures in
    let later = lines_by (drop (at + 1) c.args.names.now) (drop (at + 1) c.args.answers.now) c.args.is_over in
    let all = lines_by c.args.names.now c.args.answers.now c.args.is_over in
    let whole = line_moves _ _ name at _ _ inv.prefix c.requires c.loop-at-test.true c.index-names-at.is inv.whole in
    record {
      writes = writes_broken c.from_residual.result c.from_residual.ensures.0 c.in_err-write_whole.field-0.0
          (sink_view g.T.Sink c.args.tell.now) (sink_view g.T.Sink c.loop-at.tell) (sink_view g.T.Sink c.write_whole.new.self)
          inv.prefix one later all (sym whole) inv.wrote inv.calm (writes_by _ _ _ c.bytes.result.now one (sym text) c.in_err-write_whole.ensures);
      some = on_err _ (some_moves inv.prefix one later all whole (line_some name fate));
    }
