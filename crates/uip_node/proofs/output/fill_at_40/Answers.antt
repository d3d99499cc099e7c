-- The text in the area.
use Rattle.uip_node.proofs.Prelude.{ℕ, ◌≡◌, ◌+◌, ◌-◌, ◌≤◌, List, ◌++◌, take, drop, length, slice_range, sym, ap, ◌∙◌, subst, arith}
use Rattle.uip_node.proofs.Prelude.{length-take, length-drop, drop_at, length-take-le, take-append_seam, CanSupply, text_left}
use borrow.Rule.Slice.PartMut.{post_of, put_mid}
use Rattle.uip_node.proofs.output.fill_at_40.Goals as goal

cut : (area : List ℕ) (len : ℕ) → 40 + len ≤ length area → length (take (40 + len - 40) (drop 40 area)) ≡ len
cut area len fits = omega (arith, length-take (40 + len - 40) (drop 40 area), length-drop 40 area)

put : (area text : List ℕ) (len : ℕ) → 40 + len ≤ length area → length text ≡ len → slice_range (put_mid 40 (40 + len - 40) area text) 40 (40 + len) ≡ text
put area text len fits long =
    let n : 40 + len - 40 ≡ length text = omega (arith, long) in
    ap (take (40 + len - 40)) (drop_at (take 40 area) (text ++ post_of 40 (40 + len - 40) area) 40 (length-take-le 40 area (omega arith)))
    ∙ ap (λ (k : ℕ). take k (text ++ post_of 40 (40 + len - 40) area)) n
    ∙ take-append_seam text (post_of 40 (40 + len - 40) area)

pub fill-requires : goal.fill-requires
fill-requires g c =
    subst (λ (n : ℕ). CanSupply g.A.App.app_spec g.A.App.represents c.args.app.now (g.A.App.config c.args.shared.now) n)
    (sym (cut c.args.area.now c.args.len c.requires.fits)) c.requires.says

pub returns-clause-text : goal.returns-clause-text
returns-clause-text g c = λ p s.
    let long = cut c.args.area.now c.args.len c.requires.fits in
    let output = c.fill.ensures p s in
    put c.args.area.now c.fill.new.out c.args.len c.requires.fits (omega (arith, long, c.fill.auto.out))
    ∙ output ∙ ap (λ (n : ℕ). take n (text_left (g.A.App.app_spec (g.A.App.config c.args.shared.now)) p)) long
