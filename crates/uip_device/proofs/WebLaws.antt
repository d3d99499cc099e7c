-- The numbers of a device with a web server: the hits, followed by the values.
use Rattle.uip_device.proofs.Prelude.{All, ◌≡◌, ℕ, ◌+◌, ◌-◌, ◌*◌, ◌≤◌, List, ◌∷◌, ◌++◌, drop, length, length-append, replicate, take, refl}
use Rattle.uip_device.proofs.Prelude.{sym, ap, ◌∙◌, arith, lit<, Option, option_map, slice_index_or, option_map_or, drop_at, take_at}
use Rattle.uip_device.proofs.Prelude.{All-append, All-cons, All-drop, All-replicate, All-take, IsByte, IsU32, File, FileId, hits_of}
use Rattle.uip_device.proofs.Prelude.{place_of, no_hits, no_values, value_given, KeepsU32, first_numbers, write_value}

-- a value is set after the hits, which stay
pub written_after : (number : ℕ) (text hits values : List ℕ) → length values ≡ 528
    → write_value number text (hits ++ values) ≡ hits ++ value_given number text values
written_after number text hits values long =
    let prefix : length (hits ++ values) - 528 ≡ length hits = omega (arith, length-append hits values, long) in
    ap (λ k. take k (hits ++ values) ++ value_given number text (drop k (hits ++ values))) prefix
    ∙ (λ i. take_at hits values (length hits) refl i ++ value_given number text (drop_at hits values (length hits) refl i))

-- the hits of a name by the place of its file
pub hits_at : (files : List File) (numbers name : List ℕ) (o found : Option FileId) → option_map (λ (id : FileId). id.0) o ≡ place_of files name → o ≡ found
    → option_map_or (λ place. slice_index_or numbers place 0) (option_map (λ (id : FileId). id.0) found) 0 ≡ hits_of files numbers name
hits_at files numbers name o found at is =
    ap (λ p. option_map_or (λ place. slice_index_or numbers place 0) p 0) (sym (ap (λ (x : Option FileId). option_map (λ (id : FileId). id.0) x) is) ∙ at)

-- they stay in 32 bits
bytes_words : (text : List ℕ) → All IsByte text → All IsU32 text
bytes_words text bytes = λ k d l. (let low = bytes k d l in omega (arith, low))

row_words : (text : List ℕ) → length text ≤ 32 → All IsByte text → All IsU32 (length text ∷ (text ++ replicate (32 - length text) 0))
row_words text short bytes =
    All-cons IsU32 (length text) (text ++ replicate (32 - length text) 0) (omega (arith, short))
    (All-append IsU32 text (replicate (32 - length text) 0) (bytes_words text bytes) (All-replicate IsU32 (32 - length text) 0 (lit< tt)))

given_words : (number : ℕ) (text own : List ℕ) → length text ≤ 32 → All IsByte text → All IsU32 own → All IsU32 (value_given number text own)
given_words number text own short bytes words =
    let row : List ℕ = length text ∷ (text ++ replicate (32 - length text) 0) in
    let behind : List ℕ = drop (33 * number + 33) own in
    All-append IsU32 (take (33 * number) own ++ row) behind
    (All-append IsU32 (take (33 * number) own) row (All-take IsU32 (33 * number) own words) (row_words text short bytes))
    (All-drop IsU32 (33 * number + 33) own words)

pub written_words : KeepsU32 write_value
written_words number text numbers is words =
    let hits : ℕ = length numbers - 528 in
    All-append IsU32 (take hits numbers) (value_given number text (drop hits numbers)) (All-take IsU32 hits numbers words)
    (given_words number text (drop hits numbers) is.0 is.1 (All-drop IsU32 hits numbers words))

pub first_words : (files : List File) → All IsU32 (first_numbers files)
first_words files =
    All-append IsU32 (no_hits files) no_values (All-replicate IsU32 (length files) 0 (lit< tt)) (All-replicate IsU32 528 0 (lit< tt))
