-- Words of two parts.
use Rattle.uipd.proofs.Prelude.{◌≡◌, ℕ, ◌<◌, List, length, get_or, map, Bool, true, false, sym, ap, subst, ◌∙◌, string_bytes, String}
use Rattle.uipd.proofs.Prelude.{Global, ◌&&◌, IsTrue, nat_lt, list_all, All-map, All-weaker, list_all-map, list_all_at}
use Rattle.uipd.proofs.Prelude.{AllPass-from_list_all, is_kind, KindContent, back_part, has_parts, is_kind_word, kind_word}
use Rattle.std.specs.Prelude.{All}

last_of : (a b : Bool) → (a && b) ≡ true → b ≡ true
last_of true b e = e
last_of false b e = absurd (cc e)

-- each word that gives a content type gives an allowed one
pub kinds_allowed : (words : List (String Global)) → list_all is_kind_word (map string_bytes words) ≡ true
    → All (λ word. IsTrue (is_kind (back_part (string_bytes word)))) words
kinds_allowed words e =
    All-weaker (λ (word : String Global). is_kind_word (string_bytes word) ≡ true) (λ word. IsTrue (is_kind (back_part (string_bytes word))))
    (λ word form. last_of (has_parts (string_bytes word) && nat_lt 0 (length (back_part (string_bytes word))))
    (is_kind (back_part (string_bytes word))) form) words
    (AllPass-from_list_all (λ (word : String Global). is_kind_word (string_bytes word)) words (sym (list_all-map is_kind_word string_bytes words) ∙ e))

-- the content types of such words are allowed
pub kinds_made : (words : List (String Global)) (kinds : List KindContent) → kinds ≡ map kind_word (map string_bytes words)
    → All (λ word. IsTrue (is_kind (back_part (string_bytes word)))) words → All (λ kind. IsTrue (is_kind kind.kind)) kinds
kinds_made words kinds made allowed =
    subst (All (λ (kind : KindContent). IsTrue (is_kind kind.kind))) (sym made)
    (All-map (λ (kind : KindContent). IsTrue (is_kind kind.kind)) kind_word (map string_bytes words)
    (All-map (λ (word : List ℕ). IsTrue (is_kind (back_part word))) string_bytes words allowed))

-- a test that a word fails
pub all_fails : (p : List ℕ → Bool) (words : List (String Global)) (i : ℕ) (word : String Global) → i < length words → word ≡ get_or words i word
    → p (string_bytes word) ≡ false → list_all p (map string_bytes words) ≡ false
all_fails p words i word lt is fails =
    list_all-map p string_bytes words ∙ list_all_at (λ (w : String Global). p (string_bytes w)) words i word lt (ap (λ w. p (string_bytes w)) (sym is) ∙ fails)
