-- Known bytes and items, one call after the other.
use Rattle.uip_edge.proofs.Prelude.{◌≡◌, ℕ, List, [], ◌∷◌, ◌++◌, Option, None, Some, refl, sym, ◌∙◌, append_assoc, append-nil, ◌-◌, take}
use Rattle.uip_edge.proofs.Prelude.{drop, length, map, ◌+◌, ◌≤◌, arith, length-append, ap, Result, Ok, Err, OnErr, take_rest}
use Rattle.uip_edge.proofs.Prelude.{take-append-drop, drop-drop, Byte, Quiet, Appends, Keeps, Consumes, TookAll, bytes_among, ShelfView}
use Rattle.uip_edge.proofs.Prelude.{AppendsPrefix, Item}

pub Appends-none : (a : Option (List ℕ)) → Appends a a []
Appends-none None = tt
Appends-none (Some xs) = sym (append-nil xs)

pub Appends-then : (a b c : Option (List ℕ)) (xs ys : List ℕ) → Appends a b xs → Appends b c ys → Appends a c (xs ++ ys)
Appends-then None b c xs ys p q = tt
Appends-then (Some x) None c xs ys p q = absurd p
Appends-then (Some x) (Some y) None xs ys p q = absurd q
Appends-then (Some x) (Some y) (Some z) xs ys p q = rw (q, p, append_assoc) refl

pub Consumes-none : (a : Option (List Item)) → Consumes a a []
Consumes-none None = tt
Consumes-none (Some xs) = refl

pub Consumes-then : (a b c : Option (List Item)) (xs ys : List Item) → Consumes a b xs → Consumes b c ys → Consumes a c (xs ++ ys)
Consumes-then None b c xs ys p q = tt
Consumes-then (Some x) None c xs ys p q = absurd p
Consumes-then (Some x) (Some y) None xs ys p q = absurd q
Consumes-then (Some x) (Some y) (Some z) xs ys p q = rw (p, q) (sym (append_assoc xs ys z))

-- a prefix of a text is a prefix of the longer text
pub prefix_more : (a b : Option (List ℕ)) (xs more whole : List ℕ) → xs ++ more ≡ whole → AppendsPrefix a b xs → AppendsPrefix a b whole
prefix_more a b xs more whole e p = (p.0, p.1 ++ more, sym e ∙ rw (p.2, append_assoc) refl, p.3)

-- a whole text and then a prefix of the next one
pub prefix_then : (a m b : Option (List ℕ)) (xs ys : List ℕ) → Appends a m xs → AppendsPrefix m b ys → AppendsPrefix a b (xs ++ ys)
prefix_then a m b xs ys w p = (xs ++ p.0, p.1, rw (p.2, append_assoc) refl, Appends-then a m b xs p.0 w p.3)

pub appends_by : (a b : Option (List ℕ)) (xs ys : List ℕ) → ys ≡ xs → Appends a b xs → Appends a b ys
appends_by a b xs ys e p = rw e p

pub prefix_by : (a b : Option (List ℕ)) (xs ys : List ℕ) → ys ≡ xs → AppendsPrefix a b xs → AppendsPrefix a b ys
prefix_by a b xs ys e p = (p.0, p.1, e ∙ p.2, p.3)

pub on_err : {T E P : Type 0} (r : Result T E) → P → OnErr r P
on_err (Ok x) p = tt
on_err (Err e) p = p

-- a part of the rest moves to the prefix
pub moved_on : (whole prefix rest : List ℕ) (n : ℕ) → whole ≡ prefix ++ rest → whole ≡ (prefix ++ take n rest) ++ take (length rest - n) (drop n rest)
moved_on whole prefix rest n e = rw (take_rest, append_assoc, take-append-drop) e

pub bytes_among-map : (xs : List ℕ) → bytes_among (map Byte xs) ≡ xs
bytes_among-map [] = refl
bytes_among-map (x ∷ xs) = ap (λ l. x ∷ l) (bytes_among-map xs)

pub bytes_among-append : (xs ys : List Item) → bytes_among (xs ++ ys) ≡ bytes_among xs ++ bytes_among ys
bytes_among-append [] ys = refl
bytes_among-append (Byte b ∷ xs) ys = ap (λ l. b ∷ l) (bytes_among-append xs ys)
bytes_among-append (Quiet ∷ xs) ys = bytes_among-append xs ys

-- what was taken before the end is all that was known
pub took_all : (old mid : Option (List Item)) (taken : List Item) → Consumes old mid taken → TookAll mid [] → TookAll old taken
took_all None mid taken c d = tt
took_all (Some xs) None taken c d = absurd c
took_all (Some xs) (Some ys) taken c d = c ∙ rw d (append-nil taken)

-- the items after nothing
pub none_more : (taken items : List Item) → items ≡ [] → taken ++ items ≡ taken
none_more taken items none = ap (λ l. taken ++ l) none ∙ append-nil taken

pub taken_within : (old new : Option (List Item)) (all taken : List Item) → old ≡ Some all → Consumes old new taken → length taken ≤ length all
taken_within None new all taken e c = absurd (cc e)
taken_within (Some reported) None all taken e c = absurd c
taken_within (Some reported) (Some left) all taken e c =
    let same : reported ≡ all = cc e in
    let size : length all ≡ length (taken ++ left) = ap (λ l. length l) (sym same ∙ c) in
    omega (arith, size, length-append taken left)

pub same_shelf : (old new : ShelfView) → new.held ≡ old.held → new.faults ≡ old.faults → new ≡ old
same_shelf old new held faults = λ i. record { held = held i; faults = faults i }
