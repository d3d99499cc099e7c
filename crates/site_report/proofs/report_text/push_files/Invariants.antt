use Rattle.std.proofs.Common.{◌≡◌, ◌++◌, take}
use Rattle.std.specs.List.{flat_map}
use Rattle.file_tree.specs.Prelude.{files_of}
use Rattle.site_report.specs.Prelude.{file_line}
use Rattle.site_report.proofs.report_text.push_files.Given as goal

abbrev pub invariant-loop-number : goal.invariant-loop-number
invariant-loop-number l = l.text.items ≡ l.initial.text.items ++ flat_map (file_line (files_of l.site)) (take l.number (files_of l.site))
