-- How long an image is, entry after entry.
use Rattle.file_tree.proofs.Prelude.{◌≡◌, ℕ, ◌+◌, ◌<◌, ◌≤◌, List, [], ◌∷◌, ◌++◌, length, get_or, take, drop, refl, sym, ap, ◌∙◌, arith}
use Rattle.file_tree.proofs.Prelude.{flat_map, w16, w32, to_be_bytes, length-append, take_more, take-append-drop, append-nil, get_or-map}
use Rattle.file_tree.proofs.Prelude.{length-map, Version, One, Two, File, magic, short_text, long_text, entry, image, HeldFile, file_of}
use Rattle.file_tree.proofs.Prelude.{listed}
use Rattle.std.proofs.lemmas.List.{append_assoc}

flat-append : (version : Version) (xs ys : List File) → flat_map (entry version) (xs ++ ys) ≡ flat_map (entry version) xs ++ flat_map (entry version) ys
flat-append version [] ys = refl
flat-append version (x ∷ xs) ys =
    ap (λ z. entry version x ++ z) (flat-append version xs ys)
    ∙ sym (append_assoc (entry version x) (flat_map (entry version) xs) (flat_map (entry version) ys))

-- the entries up to an index, and one more
pub entries-more : (version : Version) (files : List File) (i : ℕ) (d : File) → i < length files
    → flat_map (entry version) (take (i + 1) files) ≡ flat_map (entry version) (take i files) ++ entry version (get_or files i d)
entries-more version files i d lt =
    ap (flat_map (entry version)) (take_more files i d lt)
    ∙ flat-append version (take i files) (get_or files i d ∷ [])
    ∙ ap (λ x. flat_map (entry version) (take i files) ++ x) (append-nil (entry version (get_or files i d)))

pub entries-le : (version : Version) (files : List File) (i : ℕ) → length (flat_map (entry version) (take i files)) ≤ length (flat_map (entry version) files)
entries-le version files i =
    let whole : flat_map (entry version) files ≡ flat_map (entry version) (take i files) ++ flat_map (entry version) (drop i files) =
    ap (flat_map (entry version)) (sym (take-append-drop i files)) ∙ flat-append version (take i files) (drop i files) in
    omega (arith, ap length whole, length-append (flat_map (entry version) (take i files)) (flat_map (entry version) (drop i files)))

magic-length : (version : Version) → length (magic version) ≡ 8
magic-length One = refl
magic-length Two = refl

pub image-size : (version : Version) (files : List File) → length (image version files) ≡ 10 + length (flat_map (entry version) files)
image-size version files =
    let flat = flat_map (entry version) files in
    omega (
      arith,
      length-append (magic version) (to_be_bytes w16 (length files) ++ flat),
      length-append (to_be_bytes w16 (length files)) flat,
      magic-length version,
    )

-- of an entry without a content type
pub listed-size : (name content : List ℕ) → length (entry One (file_of name content)) ≡ length name + length content + 5
listed-size name content =
    let number : length (long_text content) ≡ length content + 4 = omega (arith, length-append (to_be_bytes w32 (length content)) content) in
    length-append (short_text name) (long_text content) ∙ ap (λ k. length (short_text name) + k) number ∙ omega arith

-- the entry at an index of a list
pub listed-at : (list : List HeldFile) (i : ℕ) (e : HeldFile) (d : File) → i < length list → e ≡ get_or list i e → get_or (listed list) i d
    ≡ file_of e.name e.content
listed-at list i e d lt is =
    get_or-map (λ (x : HeldFile). file_of x.name x.content) list i e d lt ∙ ap (λ (x : HeldFile). file_of x.name x.content) (sym is)

pub size-more : (list : List HeldFile) (i : ℕ) (e : HeldFile) → i < length list → e ≡ get_or list i e
    → 10 + length (flat_map (entry One) (take (i + 1) (listed list))) ≡ 10 + length (flat_map (entry One) (take i (listed list))) +
    (length e.name + length e.content + 5)
size-more list i e lt is =
    let files = listed list in
    let d = file_of e.name e.content in
    let counted : length files ≡ length list = length-map list (λ (x : HeldFile). file_of x.name x.content) in
    let more = ap length (entries-more One files i d (omega arith)) ∙ length-append (flat_map (entry One) (take i files)) (entry One (get_or files i d)) in
    let own : length (entry One (get_or files i d)) ≡ length e.name + length e.content + 5 =
    ap (λ f. length (entry One f)) (listed-at list i e d lt is) ∙ listed-size e.name e.content in
    omega (arith, more, own)
