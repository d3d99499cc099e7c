-- The report on an image: its files, or its first fault.
use Rattle.std.specs.Prelude.{◌++◌, codes, decimal, flat_map, length, List, ℕ}
use Rattle.site_image.specs.declared.site_error.SiteError.{SiteError}
use Rattle.site_image.specs.declared.site_error.SiteWhy.{SiteWhy}
use Rattle.site_image.specs.declared.site_error.SiteWhy.TheVariants as why
use Rattle.site_image.specs.Prelude.{File, page_length}

-- a file's name and the greatest length of its page, on a line
abbrev pub file_line : List File → File → List ℕ
file_line files file = file.name ++ codes " " ++ decimal (page_length files file) ++ codes "\n"

-- a line for each file in image order, and one with their count
abbrev pub image_report : List File → List ℕ
image_report files = flat_map (file_line files) files ++ codes "files " ++ decimal (length files) ++ codes "\n"

-- the word of a fault
abbrev pub why_word : SiteWhy → List ℕ
why_word why.TooLong = codes "long"
why_word why.Magic = codes "magic"
why_word why.Cut = codes "cut"
why_word why.TooMany = codes "many"
why_word why.Name = codes "name"
why_word why.Twice = codes "twice"
why_word why.Kind = codes "kind"
why_word why.Rest = codes "rest"
why_word why.Include = codes "include"
why_word why.PageTooLong = codes "page"

-- the line of a fault, with the number of its entry, 0 for the whole
abbrev pub bad_line : SiteError → List ℕ
bad_line error = codes "bad site " ++ why_word error.why ++ codes " " ++ decimal error.entry ++ codes "\n"
