-- A query is read back as the question that was asked.
use Rattle.dns_message.proofs.Prelude.{◌≡◌, ℕ, ◌+◌, ◌≤◌, Bool, true, false, ◌&&◌, leb, List, [], ◌∷◌, ◌++◌, length, drop, refl, sym, ap}
use Rattle.dns_message.proofs.Prelude.{◌∙◌, arith, append_assoc, flat_map, join_with_byte, list_all, join_with_byte-slice_split, same_word}
use Rattle.dns_message.proofs.Prelude.{bytes_of, reads_back, udp_data, query_message, is_label, is_label_byte, is_domain, label_bytes}
use Rattle.dns_message.proofs.Prelude.{labels, IsAsked, QueriesAreReadBack, has_label_size, query_datagram, way_there}

both_true : (a b : Bool) → (a && b) ≡ true → (a ≡ true) × (b ≡ true)
both_true true b e = (refl, e)
both_true false b e = absurd (cc e)

some_of : (n : ℕ) → leb 1 n ≡ true → 1 ≤ n
some_of n e = grind arith

rest_same : (r s : List ℕ) → 0 ∷ r ≡ 0 ∷ s → r ≡ s
rest_same r s e = cc e

split_same : (x y a b : List ℕ) → length x ≡ length y → x ++ a ≡ y ++ b → (x ≡ y) × (a ≡ b)
split_same [] [] a b size e = (refl, e)
split_same [] (q ∷ y) a b size e = absurd (omega arith)
split_same (p ∷ x) [] a b size e = absurd (omega arith)
split_same (p ∷ x) (q ∷ y) a b size e =
    let head : p ≡ q = cc e in
    let tail : x ++ a ≡ y ++ b = cc e in
    let rest = split_same x y a b (omega arith) tail in
    (ap (λ h. h ∷ x) head ∙ ap (λ l. q ∷ l) rest.0, rest.1)

-- labels that are not empty are read in one way only
one_reading : (xs ys : List (List ℕ)) (r s : List ℕ) → list_all has_label_size xs ≡ true → list_all has_label_size ys ≡ true
    → flat_map label_bytes xs ++ 0 ∷ r ≡ flat_map label_bytes ys ++ 0 ∷ s → (xs ≡ ys) × (r ≡ s)
one_reading [] [] r s a b e = (refl, rest_same r s e)
one_reading [] (y ∷ ys) r s a b e =
    let some = some_of (length y) (both_true _ _ (both_true (has_label_size y) (list_all has_label_size ys) b).0).0 in
    let none : 0 ≡ length y = cc e in
    absurd (omega (arith, some, none))
one_reading (x ∷ xs) [] r s a b e =
    let some = some_of (length x) (both_true _ _ (both_true (has_label_size x) (list_all has_label_size xs) a).0).0 in
    let none : length x ≡ 0 = cc e in
    absurd (omega (arith, some, none))
one_reading (x ∷ xs) (y ∷ ys) r s a b e =
    let size : length x ≡ length y = cc e in
    let tails : (x ++ flat_map label_bytes xs) ++ 0 ∷ r ≡ (y ++ flat_map label_bytes ys) ++ 0 ∷ s = cc e in
    let parts = split_same x y (flat_map label_bytes xs ++ 0 ∷ r) (flat_map label_bytes ys ++ 0 ∷ s) size
    (sym (append_assoc x (flat_map label_bytes xs) (0 ∷ r)) ∙ tails ∙ append_assoc y (flat_map label_bytes ys) (0 ∷ s)) in
    let more = one_reading xs ys r s (both_true _ _ a).1 (both_true _ _ b).1 parts.1 in
    (ap (λ l. l ∷ xs) parts.0 ∙ ap (λ l. y ∷ l) more.0, more.1)

sized_by : (a b c : Bool) → (a && b && c) ≡ true → (a && b) ≡ true
sized_by true true c e = refl
sized_by true false c e = cc e
sized_by false b c e = absurd (cc e)

last_true : (a b c : Bool) → (a && b && c) ≡ true → c ≡ true
last_true true true c e = e
last_true true false c e = absurd (cc e)
last_true false b c e = absurd (cc e)

label_sized : (label : List ℕ) → is_label label ≡ true → has_label_size label ≡ true
label_sized label e = sized_by (leb 1 (length label)) (leb (length label) 63) (list_all is_label_byte label) e

labels_sized : (list : List (List ℕ)) → list_all is_label list ≡ true → list_all has_label_size list ≡ true
labels_sized [] e = refl
labels_sized (label ∷ rest) e =
    let p = both_true (is_label label) (list_all is_label rest) e in
    ap (λ b. b && list_all has_label_size rest) (label_sized label p.0) ∙ labels_sized rest p.1

name_labels : (text : List ℕ) → is_domain text ≡ true → list_all has_label_size (labels text) ≡ true
unfolding is_domain
name_labels text e = labels_sized (labels text) (last_true (leb (length text) 64) (leb 2 (length (labels text))) (list_all is_label (labels text)) e)

pub read_back : QueriesAreReadBack
unfolding query_datagram
read_back asking text ident named own server =
    let message = query_message asking.id text in
    record {
      message = message;
      carried = reads_back (way_there asking) ident message own server;
      id = same_word asking.id;
      flags = refl;
      counts = refl;
      question = λ list rest sized e.
          let same = one_reading list (labels text) rest (bytes_of (1 ∷ 1 ∷ [])) sized (name_labels text named)
          (sym e ∙ append_assoc (flat_map label_bytes (labels text)) (0 ∷ []) (bytes_of (1 ∷ 1 ∷ []))) in
          (ap (λ l. join_with_byte 46 l) same.0 ∙ join_with_byte-slice_split 46 text, same.1);
    }
