use Rattle.httpd.proofs.Prelude.{length, arith, ◌∙◌, sym, take_all, capture_text, span_text, writes_by}
use Rattle.httpd.proofs.zero.write_prefix.Goals as goal

pub returns : goal.returns
returns g c =
    writes_by _ _ _ _ _ (sym (c.write_span.ensures ∙ take_all (length c.args.room.now) (span_text capture_text c.args.span.now)
    (omega arith))) c.write_out.ensures
