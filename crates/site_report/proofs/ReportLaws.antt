-- The report grows by one line for each file.
use Rattle.std.proofs.Common.{◌≡◌, ℕ, ◌+◌, ◌<◌, List, [], ◌++◌, length, take, get_or, Some, sym, ap, ◌∙◌}
use Rattle.std.specs.Prelude.{flat_map, slice_get}
use Rattle.std.proofs.lemmas.List.{take_more, flat_map_more}
use Rattle.std.proofs.lemmas.Option.{slice_get-get_or}
use Rattle.site_image.specs.Prelude.{File}
use Rattle.site_report.specs.Prelude.{file_line}

abbrev pub no_file : File
no_file = record { name = []; kind = []; content = [] }

pub lines_more : (files : List File) (i : ℕ) (start now next : List ℕ) → i < length files → now ≡ start ++ flat_map (file_line files) (take i files)
    → ((file : File) → slice_get files i ≡ Some file → next ≡ now ++ file_line files file) → next ≡ start ++ flat_map (file_line files) (take (i + 1) files)
lines_more files i start now next lt so_far line =
    let file = get_or files i no_file in
    line file (slice_get-get_or files i no_file lt)
    ∙ ap (λ x. x ++ file_line files file) so_far
    ∙ flat_map_more (file_line files) start (take i files) file
    ∙ ap (λ fs. start ++ flat_map (file_line files) fs) (sym (take_more files i no_file lt))
