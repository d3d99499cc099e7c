-- Texts that are appended one after another.
use Rattle.generators.proofs.Prelude.{◌≡◌, ℕ, List, [], ◌∷◌, ◌++◌, append-nil, append_assoc, sym, ◌∙◌, concat}

abbrev pub joined : List ℕ → List (List ℕ) → List ℕ
joined prefix [] = prefix
joined prefix (text ∷ texts) = joined (prefix ++ text) texts

pub joined_is : (prefix : List ℕ) (texts : List (List ℕ)) → joined prefix texts ≡ prefix ++ concat texts
joined_is prefix [] = sym (append-nil prefix)
joined_is prefix (text ∷ texts) = joined_is (prefix ++ text) texts ∙ append_assoc prefix text (concat texts)
