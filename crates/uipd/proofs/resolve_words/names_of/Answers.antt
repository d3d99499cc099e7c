use Rattle.uipd.proofs.Prelude.{◌<◌, ap, arith, length, length-take, string_bytes, take, length-map}
use Rattle.uipd.proofs.resolve_words.names_of.Goals as goal

pub push-requires : goal.push-requires
push-requires c =
    let words = c.args.words.now in
    let at = c.loop-word.word-index in
    let room : length c.loop-word.names.items < 4 =
    omega (
      arith,
      ap (λ l. length l) c.loop-word.invariant.names,
      length-map (take at words) string_bytes,
      length-take at words,
      c.if-words-gt-MOST_NAMES.false,
      c.loop-word-test.true,
    ) in
    (omega arith, room)
