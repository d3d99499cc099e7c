-- What a target requests, word by word.
use Rattle.httpd.proofs.Prelude.{◌≡◌, ℕ, true, List, [], ◌∷◌, ◌++◌, Option, Some, refl, sym, ap, ◌∙◌, true≢false, codes, or_right}
use Rattle.httpd.proofs.Prelude.{list_any-append, list_any, SpaceOrLine, Line, is_stop, word_of, FileId, File, file_named, wanted}
use Rattle.httpd.proofs.Prelude.{has_ended, after_method, name_in, target_of, after_more, name_stays, IsFound, found_file}
use Rattle.httpd.proofs.Prelude.{ReceivesMethod, ReceivesTarget, HasName, IsAsked}
use Rattle.protosocket.specs.Line.{delivered as received_line}

-- before the target comes
pub receives_method : (line : Line) → line ≡ received_line SpaceOrLine [] → ReceivesTarget line (codes "GET ")
receives_method line e = record { method_ended = refl; method = refl; goes_on = refl; holds = e }

-- a name that was received is requested
pub asked_name : (files : List File) (line : Line) (request : List ℕ) (found : Option FileId) → HasName line request → IsFound files found
    → ((bytes : List ℕ) → line ≡ received_line SpaceOrLine bytes → found_file files found ≡ file_named files (name_in (word_of SpaceOrLine bytes)))
    → IsAsked files (wanted request) (Some found)
asked_name files line request found name is file =
    record { name = name_in (target_of request); wanted = name.wanted; there = is; file = file (after_method request) name.holds }

-- and so it is by further bytes
pub asked_more : (files : List File) (request more : List ℕ) (found : Option FileId) → IsAsked files (wanted request) (Some found)
    → IsAsked files (wanted (request ++ more)) (Some found)
asked_more files request more found is =
    record { name = is.name; wanted = name_stays request more is.name is.wanted; there = is.there; file = is.file }

-- the method has ended
pub no_method : (target : List ℕ) (line : Line) → ReceivesMethod line (codes "GET " ++ target) → ⊥
no_method target line is = true≢false (is.goes_on)

-- the line's end ends the target
line_ends : (request : List ℕ) (line : Line) → ReceivesTarget line request → has_ended SpaceOrLine (after_method (request ++ 10 ∷ [])) ≡ true
line_ends request line is =
    ap (has_ended SpaceOrLine) (after_more request (10 ∷ []) is.method_ended)
    ∙ list_any-append (is_stop SpaceOrLine) (after_method request) (10 ∷ [])
    ∙ or_right (list_any (is_stop SpaceOrLine) (after_method request)) true refl

pub no_target : (request : List ℕ) (line after : Line) → ReceivesTarget line request → ReceivesTarget after (request ++ 10 ∷ []) → ⊥
no_target request line after is goes = true≢false (sym (line_ends request line is) ∙ goes.goes_on)
