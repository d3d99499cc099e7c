-- The datagram is written around its text, and the area after it is unchanged.
use Rattle.link_client.proofs.Prelude.{◌≡◌, ℕ, ◌+◌, ◌-◌, ◌*◌, ◌≤◌, List, ◌++◌, length, drop, IsSome, Option, Some, None, refl, sym, ap, ◌∙◌}
use Rattle.link_client.proofs.Prelude.{arith, length-append, length-drop, drop-drop, drop_at, offset_of}
use Rattle.link_client.proofs.client.Client.send.Goals as goal

-- what was written at the start stays there
after_the_prefix : (prefix area new : List ℕ) (n : ℕ) → n ≤ length area → new ≡ prefix ++ drop n area → length new ≡ length area → drop n new ≡ drop n area
after_the_prefix prefix area new n fits is same =
    let long : length prefix ≡ n = omega (arith, fits, same, ap (λ (l : List ℕ). length l) is, length-append prefix (drop n area), length-drop n area) in
    ap (drop n) is ∙ drop_at prefix (drop n area) n long

further : (k m : ℕ) (xs ys : List ℕ) → k ≤ m → drop k xs ≡ drop k ys → drop m xs ≡ drop m ys
further k m xs ys le same =
    let n : k + (m - k) ≡ m = omega (arith, le) in
    ap (λ i. drop i xs) (sym n) ∙ sym (drop-drop (m - k) k xs) ∙ ap (drop (m - k)) same ∙ drop-drop (m - k) k ys ∙ ap (λ i. drop i ys) n

at_least : (option : Option ℕ) (len : ℕ) → 40 + len ≤ 20 + 4 * offset_of option + len
at_least None len = omega arith
at_least (Some mss) len = omega arith

at_most : (option : Option ℕ) (len : ℕ) → len ≤ 1460 → (IsSome option → len ≡ 0) → 20 + 4 * offset_of option + len ≤ 1500
at_most None len short none = omega (arith, short)
at_most (Some mss) len short none = omega (arith, none refl)

pub returns-clause-trailing : goal.returns-clause-trailing
returns-clause-trailing c =
    let len : ℕ = length c.args.text.now in
    let n : ℕ = 20 + 4 * offset_of c.args.heading.mss + len in
    let area : List ℕ = c.put_text.new.area in
    let new : List ℕ = c.put_in.new.area in
    let fits : n ≤ length area = omega (arith, at_most c.args.heading.mss len c.requires.fits c.requires.no_text, c.requires.room, c.put_text.auto.area) in
    let kept : drop n new ≡ drop n area = after_the_prefix _ area new n fits c.put_in.ensures.written c.put_in.auto.area in
    let whole : drop n new ≡ drop n c.args.area.now
    = kept ∙ further (40 + len) n area c.args.area.now (at_least c.args.heading.mss len) c.put_text.ensures.trailing in
    ap (λ i. drop i new) c.put_in.ensures.length ∙ whole ∙ ap (λ i. drop i c.args.area.now) (sym c.put_in.ensures.length)
