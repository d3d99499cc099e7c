-- A buffer that holds its slice of a whole text.
use Rattle.generators.proofs.Prelude.{◌≡◌, ℕ, ◌+◌, ◌<◌, ◌≤◌, List, [], length, take, drop, get_or, refl, sym, ap, ◌∙◌, arith, length-drop}
use Rattle.generators.proofs.Prelude.{get_or-drop, get_or-take, length-take, same_number_lists, HoldsPart, Place}

-- a buffer holds what is written of a text of which nothing is written
pub none_held : (at : ℕ) (out : List ℕ) → HoldsPart [] (record { at = at; so_far = 0 }) out
none_held at out = record { so_far = refl; part = λ k within there. absurd (omega (arith, there)) }

pub filled : (text old new : List ℕ) (at : ℕ) (end : Place) → HoldsPart text end new → end.at ≡ at → length new ≡ length old → at + length old ≤ length text
    → new ≡ take (length old) (drop at text)
filled text old new at end holds same long enough =
    same_number_lists new (take (length old) (drop at text))
    (omega (arith, length-take (length old) (drop at text), length-drop at text, enough, long))
    (λ k within.
    let inside : k < length old = omega (arith, within, long) in
    holds.part k within (omega (arith, inside, enough, same))
    ∙ ap (λ n. get_or text (n + k) 0) same
    ∙ sym (get_or-take (length old) (drop at text) k 0 inside ∙ get_or-drop at text k 0))
