-- The texts of a dump and of a capture file are what is written frame by frame.
use Rattle.trace.proofs.Prelude.{◌≡◌, ℕ, ◌+◌, List, [], ◌∷◌, ◌++◌, map, refl, sym, ap, ◌∙◌, enumerate_from, flat_map, Item, Frame}
use Rattle.trace.proofs.Prelude.{capture_header, capture_file, frame_record, dump_line, dump_text, Seen, seen_on, text_after, texts_from}
use Rattle.trace.specs.declared.form.Form.TheVariants.{Capture, Dump}
use Rattle.trace.proofs.SeenLaws.{frame_in, frames_seen}

-- what is written of a frame with its number, and of one that was seen
abbrev numbered_line : ℕ × Frame → List ℕ
numbered_line numbered = dump_line numbered.0 numbered.1

abbrev pub seen_record : Seen → List ℕ
seen_record seen = frame_record seen.silences seen.frame

lines_of : (n : ℕ) (seen : List Seen) → flat_map numbered_line (enumerate_from n (map frame_in seen)) ≡ texts_from Dump n seen
lines_of n [] = refl
lines_of n (s ∷ seen) = ap (λ l. dump_line n s.frame ++ l) (lines_of (n + 1) seen)

pub dump_is : (items : List Item) → dump_text items ≡ text_after Dump [] items
dump_is items = ap (λ l. flat_map numbered_line (enumerate_from 1 l)) (sym (frames_seen items)) ∙ lines_of 1 (seen_on items)

records_of : (n : ℕ) (seen : List Seen) → flat_map seen_record seen ≡ texts_from Capture n seen
records_of n [] = refl
records_of n (s ∷ seen) = ap (λ l. seen_record s ++ l) (records_of (n + 1) seen)

pub capture_is : (items : List Item) → capture_file items ≡ capture_header ++ text_after Capture [] items
capture_is items = ap (λ l. capture_header ++ l) (records_of 1 (seen_on items))
