-- What holds for the pages of every site.
use Rattle.std.specs.Prelude.{◌≡◌, ◌≢◌, ◌≤◌, ◌++◌, All, false, length, List, slice_get, Some, ℕ}
use Rattle.app_events.specs.Prelude.{Snapshot, IsPaged, IsSnapshot, IsByte}
use Rattle.site_image.specs.Prelude.{File, has_name, page_length_by}
use Rattle.file_tree.specs.Prelude.{SiteContent, IsLoaded, HasSoundScripts, files_of, KindContent, upgraded}
use Rattle.web_pages.specs.Requests.{wanted}
use Rattle.web_pages.specs.Requests.Wanted.{NotYet, Name}
use Rattle.generators.specs.Prelude.{ScriptFunctions, uip}
use Rattle.web_pages.specs.Pages.{page, is_page_whole, pages_of, page_by, pages_by}
use Rattle.web_pages.specs.WebSpec.{web_spec, web_spec_by}

-- The web server of a site satisfies the laws of pages, whatever functions its scripts call, if no page can be too long.
abbrev pub KeepsPageLawsBy : {F : Type 0} → ScriptFunctions F → Type 0
KeepsPageLawsBy g =
    (site : SiteContent) → IsLoaded site → HasSoundScripts g.function_table (files_of site) →
    IsPaged (web_spec_by g (files_of site)) (pages_by g (files_of site))

-- A page of a file is no longer than its greatest length.
abbrev pub IsAtMostGreatestBy : {F : Type 0} → ScriptFunctions F → Type 0
IsAtMostGreatestBy g =
    (site : SiteContent) → IsLoaded site → (id : ℕ) (file : File) → slice_get (files_of site) id ≡ Some file →
    (request : List ℕ) (captures : List Snapshot) → wanted request ≡ Name file.name → All IsSnapshot captures →
    length (page_by g (files_of site) request captures) ≤ page_length_by g.function_table (files_of site) file

-- A page of a site of bytes is bytes.
abbrev pub IsMadeOfBytesBy : {F : Type 0} → ScriptFunctions F → Type 0
IsMadeOfBytesBy g =
    (site : SiteContent) → All IsByte site.image → (request : List ℕ) (captures : List Snapshot) → All IsSnapshot captures →
    All IsByte (page_by g (files_of site) request captures)

-- With the functions of uIP, no page of a loaded site can be too long.
abbrev pub KeepsPageLaws : Type 0
KeepsPageLaws = (site : SiteContent) → IsLoaded site → IsPaged (web_spec (files_of site)) (pages_of (files_of site))

abbrev pub IsAtMostGreatest : Type 0
IsAtMostGreatest = IsAtMostGreatestBy uip

abbrev pub IsMadeOfBytes : Type 0
IsMadeOfBytes = IsMadeOfBytesBy uip

-- An upgrade in which no word names a file leaves every page unchanged.
abbrev pub UpgradeKeepsPages : Type 0
UpgradeKeepsPages =
    (files : List File) (words : List KindContent)
    → ((word : KindContent) (k : ℕ) → slice_get words k ≡ Some word → has_name files word.name ≡ false)
    → (request : List ℕ) (captures : List Snapshot)
    → (page (upgraded words files) request captures ≡ page files request captures)
    × (is_page_whole (upgraded words files) request captures ≡ is_page_whole files request captures)

-- A decided request stays decided, whatever bytes follow.
abbrev pub DecisionStays : Type 0
DecisionStays = (request more : List ℕ) → wanted request ≢ NotYet → wanted (request ++ more) ≡ wanted request
