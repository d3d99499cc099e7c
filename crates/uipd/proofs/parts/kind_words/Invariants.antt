use Rattle.uipd.proofs.Prelude.{◌≡◌, map, take, string_bytes, kind_word}
use Rattle.uipd.proofs.parts.kind_words.Given as goal

abbrev pub invariant-loop-word : goal.invariant-loop-word
invariant-loop-word l = l.kinds.items ≡ map kind_word (map string_bytes (take l.word-index l.words))
