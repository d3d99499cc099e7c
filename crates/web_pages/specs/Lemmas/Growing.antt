-- More request bytes and more captures only append to a page, and leave a whole one.
use Rattle.std.proofs.Common.{◌≡◌, ◌≢◌, ℕ, true, false, List, [], ◌∷◌, ◌++◌, refl, sym, ap}
use Rattle.std.proofs.Common.{◌∙◌, append_assoc, append-nil, true≢false, if◌then◌else◌}
use Rattle.site_image.specs.Prelude.{File}
use Rattle.app_events.specs.Prelude.{Snapshot, IsPrefixOf}
use Rattle.web_pages.specs.Requests.{Wanted, wanted}
use Rattle.web_pages.specs.Requests.Wanted.{NotYet, Refused, Name}
use Rattle.web_pages.specs.Pieces.{ScriptPiece, reply_pieces_by}
use Rattle.web_pages.specs.Pieces.ScriptPiece.{Plain, Made}
use Rattle.web_pages.specs.Pages.{made_by, text_by, reach_by, page_for_by, whole_for_by, page_by, is_whole_by}
use Rattle.generators.specs.Prelude.{ScriptFunctions}
use Rattle.web_pages.specs.Lemmas.Deciding.{more_by}

-- ---- a call, by whether it takes a capture

pub silent_text : {F : Type 0} (g : ScriptFunctions F) (files : List File) (function : F) (argument : List ℕ) (more : List (ScriptPiece F))
    (captures : List Snapshot)
    → g.function_table.takes_capture function ≡ false
    → text_by g files (Made function argument ∷ more) captures ≡ text_by g files more captures
silent_text g files function argument more [] e = ap (λ b. if b then [] else text_by g files more []) e
silent_text g files function argument more (capture ∷ later) e =
    ap (λ b. if b then made_by g files function argument capture ++ text_by g files more later else text_by g files more (capture ∷ later))
    e

pub silent_end : {F : Type 0} (g : ScriptFunctions F) (function : F) (argument : List ℕ) (more : List (ScriptPiece F)) (captures : List Snapshot)
    → g.function_table.takes_capture function ≡ false
    → reach_by g (Made function argument ∷ more) captures ≡ reach_by g more captures
silent_end g function argument more [] e = ap (λ b. if b then false else reach_by g more []) e
silent_end g function argument more (capture ∷ later) e = ap (λ b. if b then reach_by g more later else reach_by g more (capture ∷ later)) e

pub stopped_text : {F : Type 0} (g : ScriptFunctions F) (files : List File) (function : F) (argument : List ℕ) (more : List (ScriptPiece F))
    → g.function_table.takes_capture function ≡ true
    → text_by g files (Made function argument ∷ more) [] ≡ []
stopped_text g files function argument more e = ap (λ b. if b then [] else text_by g files more []) e

pub stopped_end : {F : Type 0} (g : ScriptFunctions F) (function : F) (argument : List ℕ) (more : List (ScriptPiece F))
    → g.function_table.takes_capture function ≡ true
    → reach_by g (Made function argument ∷ more) [] ≡ false
stopped_end g function argument more e = ap (λ b. if b then false else reach_by g more []) e

pub made_first : {F : Type 0} (g : ScriptFunctions F) (files : List File) (function : F) (argument : List ℕ) (more : List (ScriptPiece F))
    (capture : Snapshot) (later : List Snapshot)
    → g.function_table.takes_capture function ≡ true
    → text_by g files (Made function argument ∷ more) (capture ∷ later)
    ≡ made_by g files function argument capture ++ text_by g files more later
made_first g files function argument more capture later e =
    ap (λ b. if b then made_by g files function argument capture ++ text_by g files more later else text_by g files more (capture ∷ later))
    e

pub made_end : {F : Type 0} (g : ScriptFunctions F) (function : F) (argument : List ℕ) (more : List (ScriptPiece F))
    (capture : Snapshot) (later : List Snapshot)
    → g.function_table.takes_capture function ≡ true
    → reach_by g (Made function argument ∷ more) (capture ∷ later) ≡ reach_by g more later
made_end g function argument more capture later e = ap (λ b. if b then reach_by g more later else reach_by g more (capture ∷ later)) e

-- ---- prefixes

pub prefix_after : (prefix : List ℕ) (xs ys : List ℕ) → IsPrefixOf xs ys → IsPrefixOf (prefix ++ xs) (prefix ++ ys)
prefix_after prefix xs ys p = record { rest = p.rest; joined = append_assoc prefix xs p.rest ∙ ap (λ zs. prefix ++ zs) p.joined }

pub prefix_along : (xs xs' ys ys' : List ℕ) → xs ≡ xs' → ys ≡ ys' → IsPrefixOf xs' ys' → IsPrefixOf xs ys
prefix_along xs xs' ys ys' e f p = record { rest = p.rest; joined = ap (λ zs. zs ++ p.rest) e ∙ p.joined ∙ sym f }

pub nothing_prefix : (ys : List ℕ) → IsPrefixOf [] ys
nothing_prefix ys = record { rest = ys; joined = refl }

pub same_prefix : (xs ys : List ℕ) → ys ≡ xs → IsPrefixOf xs ys
same_prefix xs ys e = record { rest = []; joined = append-nil xs ∙ sym e }

-- ---- the text of pieces

pub text_grows : {F : Type 0} (g : ScriptFunctions F) (files : List File) (piece_output : List (ScriptPiece F)) (captures later : List Snapshot)
    → IsPrefixOf (text_by g files piece_output captures) (text_by g files piece_output (captures ++ later))
text_grows g files [] captures later = nothing_prefix []
text_grows g files (Plain text ∷ more) captures later =
    prefix_after text (text_by g files more captures) (text_by g files more (captures ++ later)) (text_grows g files more captures later)
text_grows g files (Made function argument ∷ more) [] later =
    elim (g.function_table.takes_capture function) as (λ b. g.function_table.takes_capture function ≡ b
    → IsPrefixOf (text_by g files (Made function argument ∷ more) []) (text_by g files (Made function argument ∷ more) later)) [
      | true ↦ λ e.
          prefix_along _ [] _ _ (stopped_text g files function argument more e) refl
          (nothing_prefix (text_by g files (Made function argument ∷ more) later))
      | false ↦ λ e.
          prefix_along _ _ _ _ (silent_text g files function argument more [] e) (silent_text g files function argument more later e)
          (text_grows g files more [] later)
    ] refl
text_grows g files (Made function argument ∷ more) (capture ∷ rest) later =
    elim (g.function_table.takes_capture function) as (λ b. g.function_table.takes_capture function ≡ b
    → IsPrefixOf (text_by g files (Made function argument ∷ more) (capture ∷ rest))
    (text_by g files (Made function argument ∷ more) (capture ∷ rest ++ later))) [
      | true ↦ λ e.
          prefix_along _ _ _ _ (made_first g files function argument more capture rest e)
          (made_first g files function argument more capture (rest ++ later) e)
          (prefix_after (made_by g files function argument capture) (text_by g files more rest) (text_by g files more (rest ++ later))
          (text_grows g files more rest later))
      | false ↦ λ e.
          prefix_along _ _ _ _ (silent_text g files function argument more (capture ∷ rest) e)
          (silent_text g files function argument more (capture ∷ rest ++ later) e)
          (text_grows g files more (capture ∷ rest) later)
    ] refl

-- where nothing stops the pieces, more captures change nothing
abbrev Stays : {F : Type 0} → ScriptFunctions F → List File → List (ScriptPiece F) → List Snapshot → List Snapshot → Type 0
Stays g files piece_output captures later =
    reach_by g piece_output captures ≡ true
    → (text_by g files piece_output (captures ++ later) ≡ text_by g files piece_output captures) × (reach_by g piece_output (captures ++ later) ≡ true)

pub text_stays : {F : Type 0} (g : ScriptFunctions F) (files : List File) (piece_output : List (ScriptPiece F)) (captures later : List Snapshot)
    → Stays g files piece_output captures later
text_stays g files [] captures later whole = (refl, refl)
text_stays g files (Plain text ∷ more) captures later whole =
    let rest = text_stays g files more captures later whole in
    (ap (λ zs. text ++ zs) rest.0, rest.1)
text_stays g files (Made function argument ∷ more) [] later whole =
    elim (g.function_table.takes_capture function) as (λ b. g.function_table.takes_capture function ≡ b
    → (text_by g files (Made function argument ∷ more) later ≡ text_by g files (Made function argument ∷ more) [])
    × (reach_by g (Made function argument ∷ more) later ≡ true)) [
      | true ↦ λ e. absurd (true≢false (sym whole ∙ stopped_end g function argument more e))
      | false ↦ λ e.
          let rest = text_stays g files more [] later (sym (silent_end g function argument more [] e) ∙ whole) in (
            silent_text g files function argument more later e ∙ rest.0 ∙ sym (silent_text g files function argument more [] e),
            silent_end g function argument more later e ∙ rest.1,
          )
    ] refl
text_stays g files (Made function argument ∷ more) (capture ∷ captures) later whole =
    elim (g.function_table.takes_capture function) as (λ b. g.function_table.takes_capture function ≡ b
    → (text_by g files (Made function argument ∷ more) (capture ∷ captures ++ later)
    ≡ text_by g files (Made function argument ∷ more) (capture ∷ captures))
    × (reach_by g (Made function argument ∷ more) (capture ∷ captures ++ later) ≡ true)) [
      | true ↦ λ e.
          let rest = text_stays g files more captures later (sym (made_end g function argument more capture captures e) ∙ whole) in (
            made_first g files function argument more capture (captures ++ later) e
                ∙ ap (λ zs. made_by g files function argument capture ++ zs) rest.0
                ∙ sym (made_first g files function argument more capture captures e),
            made_end g function argument more capture (captures ++ later) e ∙ rest.1,
          )
      | false ↦ λ e.
          let rest =
          text_stays g files more (capture ∷ captures) later (sym (silent_end g function argument more (capture ∷ captures) e) ∙ whole) in (
            silent_text g files function argument more (capture ∷ captures ++ later) e
                ∙ rest.0
                ∙ sym (silent_text g files function argument more (capture ∷ captures) e),
            silent_end g function argument more (capture ∷ captures ++ later) e ∙ rest.1,
          )
    ] refl

-- ---- the page

refused_open : Refused ≢ NotYet
refused_open e = cc

name_open : (name : List ℕ) → Name name ≢ NotYet
name_open name e = cc

grows_by : {F : Type 0} (g : ScriptFunctions F) (files : List File) (before : Wanted) (request more : List ℕ)
    (captures later : List Snapshot)
    → wanted request ≡ before
    → IsPrefixOf (page_for_by g files before captures) (page_by g files (request ++ more) (captures ++ later))
grows_by g files NotYet request more captures later e = nothing_prefix (page_by g files (request ++ more) (captures ++ later))
grows_by g files Refused request more captures later e = nothing_prefix (page_by g files (request ++ more) (captures ++ later))
grows_by g files (Name name) request more captures later e =
    prefix_along _ _ _ _ refl (ap (λ w. page_for_by g files w (captures ++ later)) (more_by (Name name) request more e (name_open name)))
    (text_grows g files (reply_pieces_by g.function_table.named files name) captures later)

pub page_grows : {F : Type 0} (g : ScriptFunctions F) (files : List File) (request more : List ℕ) (captures later : List Snapshot)
    → IsPrefixOf (page_by g files request captures) (page_by g files (request ++ more) (captures ++ later))
page_grows g files request more captures later = grows_by g files (wanted request) request more captures later refl

stays_by : {F : Type 0} (g : ScriptFunctions F) (files : List File) (before : Wanted) (request more : List ℕ)
    (captures later : List Snapshot)
    → wanted request ≡ before
    → whole_for_by g files before captures ≡ true
    → (page_by g files (request ++ more) (captures ++ later) ≡ page_for_by g files before captures)
    × (is_whole_by g files (request ++ more) (captures ++ later) ≡ true)
stays_by g files NotYet request more captures later e whole = absurd (true≢false (sym whole))
stays_by g files Refused request more captures later e whole =
    let same : wanted (request ++ more) ≡ Refused = more_by Refused request more e refused_open in
    (ap (λ w. page_for_by g files w (captures ++ later)) same, ap (λ w. whole_for_by g files w (captures ++ later)) same)
stays_by g files (Name name) request more captures later e whole =
    let same : wanted (request ++ more) ≡ Name name = more_by (Name name) request more e (name_open name) in
    let rest = text_stays g files (reply_pieces_by g.function_table.named files name) captures later whole in
    (ap (λ w. page_for_by g files w (captures ++ later)) same ∙ rest.0, ap (λ w. whole_for_by g files w (captures ++ later)) same ∙ rest.1)

pub page_stays : {F : Type 0} (g : ScriptFunctions F) (files : List File) (request more : List ℕ) (captures later : List Snapshot)
    → is_whole_by g files request captures ≡ true
    → (page_by g files (request ++ more) (captures ++ later) ≡ page_by g files request captures)
    × (is_whole_by g files (request ++ more) (captures ++ later) ≡ true)
page_stays g files request more captures later whole = stays_by g files (wanted request) request more captures later refl whole
