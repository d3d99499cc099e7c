-- The frames that items complete after others, and what is written of them.
use Rattle.trace.proofs.Prelude.{◌≡◌, ℕ, ◌+◌, List, [], ◌∷◌, ◌++◌, length, map, refl, sym, ap, ◌∙◌, append-nil, append_assoc, arith}
use Rattle.trace.proofs.Prelude.{length-append, enumerate_from, flat_map, map-append, flat_map-append, Item, Byte, Quiet, Frame, completed}
use Rattle.trace.proofs.Prelude.{frames, Seen, seen_at, seen_after, seen_on, silences_of, frame_text, text_after, texts_from, Form}
use Rattle.trace.proofs.Prelude.{bytes_among, bytes_among-append}
use Rattle.uip_slip.proofs.FrameLaws.{completed_by, completed_reported, frames-then}

-- bytes bring the frames that they complete
seen-bytes : (before : List ℕ) (silences : ℕ) (bytes : List ℕ) → seen_after before silences (map Byte bytes) ≡ map (seen_at silences)
    (completed_by before bytes)
seen-bytes before silences [] = refl
seen-bytes before silences (b ∷ bytes) =
    ap (λ l. map (seen_at silences) (completed before b) ++ l) (seen-bytes (before ++ b ∷ []) silences bytes)
    ∙ sym (map-append (seen_at silences) (completed before b) (completed_by (before ++ b ∷ []) bytes))

-- and these are what a decoder reports
pub seen-reported : (before : List ℕ) (silences : ℕ) (bytes : List ℕ) (reported : List Frame) → frames (before ++ bytes) ≡ frames before ++ reported
    → seen_after before silences (map Byte bytes) ≡ map (seen_at silences) reported
seen-reported before silences bytes reported e =
    seen-bytes before silences bytes
    ∙ ap (λ l. map (seen_at silences) l) (completed_reported before bytes reported e)

frames_seen_at : (silences : ℕ) (reported : List Frame) → map (λ seen. seen.frame) (map (seen_at silences) reported) ≡ reported
frames_seen_at silences [] = refl
frames_seen_at silences (frame ∷ reported) = ap (λ l. frame ∷ l) (frames_seen_at silences reported)

abbrev pub frame_in : Seen → Frame
frame_in seen = seen.frame

seen-frames : (before : List ℕ) (silences : ℕ) (items : List Item) → map frame_in (seen_after before silences items) ≡ completed_by before (bytes_among items)
seen-frames before silences [] = refl
seen-frames before silences (Byte b ∷ items) =
    map-append frame_in (map (seen_at silences) (completed before b)) (seen_after (before ++ b ∷ []) silences items)
    ∙ ap (λ l. l ++ map frame_in (seen_after (before ++ b ∷ []) silences items)) (frames_seen_at silences (completed before b))
    ∙ ap (λ l. completed before b ++ l) (seen-frames (before ++ b ∷ []) silences items)
seen-frames before silences (Quiet ∷ items) = seen-frames before (silences + 1) items

-- the frames of a line are those that were seen on it
pub frames_seen : (items : List Item) → map frame_in (seen_on items) ≡ frames (bytes_among items)
frames_seen items = seen-frames [] 0 items ∙ sym (frames-then [] (bytes_among items))

-- further items follow
pub seen-then : (before : List ℕ) (silences : ℕ) (xs ys : List Item)
    → seen_after before silences (xs ++ ys) ≡ seen_after before silences xs ++ seen_after (before ++ bytes_among xs) (silences + silences_of xs) ys
seen-then before silences [] ys = ap (λ l. seen_after l silences ys) (sym (append-nil before)) ∙ ap (λ n. seen_after (before ++ []) n ys) (omega arith)
seen-then before silences (Byte b ∷ xs) ys =
    let here = map (seen_at silences) (completed before b) in
    let behind = before ++ b ∷ [] in
    ap (λ l. here ++ l) (seen-then behind silences xs ys)
    ∙ ap (λ l. here ++ (seen_after behind silences xs ++ seen_after l (silences + silences_of xs) ys)) (append_assoc before (b ∷ []) (bytes_among xs))
    ∙ sym (append_assoc here (seen_after behind silences xs) (seen_after (before ++ b ∷ bytes_among xs) (silences + silences_of xs) ys))
seen-then before silences (Quiet ∷ xs) ys =
    seen-then before (silences + 1) xs ys
    ∙ ap (λ n. seen_after before (silences + 1) xs ++ seen_after (before ++ bytes_among xs) n ys) (omega arith)

pub silences-append : (xs ys : List Item) → silences_of (xs ++ ys) ≡ silences_of xs + silences_of ys
silences-append [] ys = omega arith
silences-append (Byte b ∷ xs) ys = silences-append xs ys
silences-append (Quiet ∷ xs) ys = let rest = silences-append xs ys in omega arith

pub silences-bytes : (bytes : List ℕ) → silences_of (map Byte bytes) ≡ 0
silences-bytes [] = refl
silences-bytes (b ∷ bytes) = silences-bytes bytes

enumerate-append : {X : Type 0} (n : ℕ) (xs ys : List X) → enumerate_from n (xs ++ ys) ≡ enumerate_from n xs ++ enumerate_from (n + length xs) ys
enumerate-append n [] ys = ap (λ k. enumerate_from k ys) (omega arith)
enumerate-append n (x ∷ xs) ys =
    ap (λ l. (n, x) ∷ l) (enumerate-append (n + 1) xs ys ∙ ap (λ k. enumerate_from (n + 1) xs ++ enumerate_from k ys) (omega arith))

texts-append : (form : Form) (n : ℕ) (xs ys : List Seen) → texts_from form n (xs ++ ys) ≡ texts_from form n xs ++ texts_from form (n + length xs) ys
texts-append form n xs ys =
    ap (λ l. flat_map (frame_text form) l) (enumerate-append n xs ys)
    ∙ flat_map-append (frame_text form) (enumerate_from n xs) (enumerate_from (n + length xs) ys)

-- what was seen of items after others
pub seen_on-append : (xs ys : List Item) → seen_on (xs ++ ys) ≡ seen_on xs ++ seen_after (bytes_among xs) (silences_of xs) ys
seen_on-append xs ys = seen-then [] 0 xs ys ∙ ap (λ n. seen_on xs ++ seen_after (bytes_among xs) n ys) (omega arith)

-- the text of items, and then that of further ones
pub text-then : (form : Form) (before xs ys : List Item) → text_after form before (xs ++ ys) ≡ text_after form before xs ++ text_after form (before ++ xs) ys
text-then form before xs ys =
    let bytes = bytes_among before in
    let silences = silences_of before in
    let first = seen_after bytes silences xs in
    let more = seen_after (bytes ++ bytes_among xs) (silences + silences_of xs) ys in
    let number = length (seen_on before) + 1 in
    ap (λ l. texts_from form number l) (seen-then bytes silences xs ys)
    ∙ texts-append form number first more
    ∙ ap (λ l. texts_from form number first ++ texts_from form (number + length first) (seen_after l (silences + silences_of xs) ys))
    (sym (bytes_among-append before xs))
    ∙ ap (λ n. texts_from form number first ++ texts_from form (number + length first) (seen_after (bytes_among (before ++ xs)) n ys))
    (sym (silences-append before xs))
    ∙ ap (λ n. texts_from form number first ++ texts_from form n (seen_after (bytes_among (before ++ xs)) (silences_of (before ++ xs)) ys))
    (let size = ap (λ l. length l) (seen_on-append before xs) in omega (arith, size, length-append (seen_on before) first))
