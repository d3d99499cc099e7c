use Rattle.uipd.proofs.Prelude.{◌≡◌, map, take, string_bytes, named_file}
use Rattle.uipd.proofs.parts.named_files.Given as goal

abbrev pub invariant-loop-word : goal.invariant-loop-word
invariant-loop-word l = l.files.items ≡ map named_file (map string_bytes (take l.word-index l.words))
