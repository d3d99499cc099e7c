use Rattle.std.proofs.Common.{arith}
use Rattle.file_tree.specs.Prelude.{files_of}
use Rattle.site_report.proofs.ReportLaws.{lines_more}
use Rattle.site_report.proofs.report_text.push_files.Goals as goal

pub loop-number-preserved : goal.loop-number-preserved
loop-number-preserved c =
    lines_more (files_of c.args.site.now) c.loop-number.number c.args.text.now.items c.loop-number.text.items c.push_file.new.text.items
    (omega (arith, c.loop-number-test.true, c.count-number-end.ensures.count)) c.loop-number.invariant c.in_ok-push_file.ensures
