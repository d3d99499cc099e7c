use Rattle.uipd.proofs.Prelude.{◌≡◌, map, string_bytes, take, true, list_all, is_domain}
use Rattle.uipd.proofs.resolve_words.names_of.Given as goal

abbrev pub invariant-loop-word : goal.invariant-loop-word
invariant-loop-word l = record {
  names : l.names.items ≡ map string_bytes (take l.word-index l.words);
  formed : list_all is_domain (map string_bytes (take l.word-index l.words)) ≡ true;
}
