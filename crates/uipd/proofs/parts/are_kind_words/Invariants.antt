use Rattle.uipd.proofs.Prelude.{◌≡◌, true, map, take, string_bytes, list_all, is_kind_word}
use Rattle.uipd.proofs.parts.are_kind_words.Given as goal

abbrev pub invariant-loop-word : goal.invariant-loop-word
invariant-loop-word l = list_all is_kind_word (map string_bytes (take l.word-index l.words)) ≡ true
