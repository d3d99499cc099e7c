use Rattle.uipd.proofs.Prelude.{◌≡◌, ◌∙◌, ◌-◌, if◌then◌else◌, sym, ap, length, map, take, string_bytes, length-map, take-map}
use Rattle.uipd.proofs.resolve_words.without_tty.Goals as goal

pub returns-then-ends_in_tty : goal.returns-then-ends_in_tty
returns-then-ends_in_tty c =
    let words = c.args.words.now in
    let texts = map string_bytes words in
    sym (ap (λ b. if b then take (length texts - 1) texts else texts) (sym c.ends_in_tty.ensures ∙ c.if-ends_in_tty.true)
    ∙ ap (λ n. take (n - 1) texts) (length-map words string_bytes) ∙ take-map string_bytes (length words - 1) words)
