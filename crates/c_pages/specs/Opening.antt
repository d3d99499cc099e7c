-- What opening a device with the site of an image reports.
use Rattle.std.specs.Prelude.{◌≡◌, ◌⊎◌, ℕ, List, Result, ◌++◌, replicate, take, Err}
use Rattle.site_image.specs.declared.site_error.SiteError.{SiteError}
use Rattle.site_image.specs.declared.site_error.SiteWhy.{SiteWhy}
use Rattle.site_image.specs.Prelude.{read_image, File}
use Rattle.file_tree.specs.Prelude.{SiteContent, files_of}
use Rattle.site_report.specs.Prelude.{why_word}
use Rattle.uip_device.specs.Prelude.{IsLongWithValues, IsOfImage}
use Rattle.uip_device.specs.declared.web_setup.OpenFault.{OpenFault}
use Rattle.uip_device.specs.declared.web_setup.OpenFault.TheVariants.{BadSite}
use Rattle.c_calls.specs.declared.status.TheConstants.{BAD_IMAGE, NO_MEMORY}
use Rattle.c_pages.specs.declared.opened.UipOpened.{UipOpened}

-- The site is one of this image, and a device was opened with its files: P.
pub record OpensWith (image : List ℕ) (P : List File → Type 0) : Type 0 where
  pub site : SiteContent
  pub of_image : IsOfImage image site
  pub opened : P (files_of site)

-- Eight bytes: the word of a fault, padded with zeros.
abbrev pub IsWordOf : SiteWhy → List ℕ → Type 0
IsWordOf why word = word ≡ take 8 (why_word why ++ replicate 8 0)

-- The entry and the word are those of the image's first fault, or of a page that can be too long once scripts show values.
abbrev pub ReportsFault : List ℕ → ℕ → List ℕ → Type 0
ReportsFault image entry word =
    (error : SiteError) × ((read_image image ≡ Err error) ⊎ IsLongWithValues image error) × (entry ≡ error.entry) × IsWordOf error.why word

-- What is reported if a device was not made, or if there is no memory for its box.
pub record ReportsRefusal {T : Type 0} (made : Result T OpenFault) (reported : UipOpened) : Type 0 where
  pub known : (reported.status ≡ BAD_IMAGE) ⊎ (reported.status ≡ NO_MEMORY)
  pub bad_site : reported.status ≡ BAD_IMAGE
      → (error : SiteError) × (made ≡ Err (BadSite error)) × (reported.entry ≡ error.entry) × IsWordOf error.why reported.word
  pub no_fault : (reported.status ≡ BAD_IMAGE → ⊥) → (reported.entry ≡ 0) × (reported.word ≡ replicate 8 0)
