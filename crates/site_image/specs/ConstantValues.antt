-- The constants of the code that definitions name, and their values.
use Rattle.std.specs.Prelude.{◌≡◌, ℕ}
use Rattle.site_image.specs.declared.TheConstants.{LONGEST_IMAGE, MOST_FILES, LONGEST_NAME}
use Rattle.site_image.specs.declared.TheConstants.{LONGEST_KIND, PAGE_LIMIT, HEAD_LEN, KIND_LINE_LEN}

pub record ConstantValues : Type 0 where
  pub longest_image : LONGEST_IMAGE ≡ 16777216
  pub most_files : MOST_FILES ≡ 1024
  pub longest_name : LONGEST_NAME ≡ 64
  pub longest_kind : LONGEST_KIND ≡ 64
  pub page_limit : PAGE_LIMIT ≡ 1073741824
  pub head_len : HEAD_LEN ≡ 53
  pub kind_line_len : KIND_LINE_LEN ≡ 18
