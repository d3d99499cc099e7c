-- The device that a handle keeps, if it keeps one kind of device.
use Rattle.std.proofs.Common.{◌≡◌, Bool, None, Option, Some, ap, refl, subst, sym, true, ◌∙◌}
use Rattle.std.proofs.lemmas.Bool.{false≢true}
use Rattle.std.specs.Prelude.{is_some}

module _ {D : Type 0} where
  -- if there is a device, it is some device
  pub some_of : (kept : Option D) → is_some kept ≡ true → (x : D) × (kept ≡ Some x)
  some_of None there = absurd (false≢true there)
  some_of (Some x) there = (x, refl)

  -- the device that was taken out, by the reference through which it is read
  pub read_out : (x y : D) (kept : Option D) → x ≡ y → Some y ≡ kept → kept ≡ Some x
  read_out x y kept same taken = sym taken ∙ ap (λ (d : D). Some d) (sym same)

  abbrev one_or : D → Option D → D
  one_or none None = none
  one_or none (Some d) = d

  pub same_one : (x y : D) → Some x ≡ Some y → x ≡ y
  same_one x y e = ap (λ (kept : Option D). one_or x kept) e

  -- what holds of the device that is kept
  pub of_kept : (P : D → Type 0) (d x : D) (kept : Option D) → kept ≡ Some d → kept ≡ Some x → P d → P x
  of_kept P d x kept is was p = subst P (same_one d x (sym is ∙ was)) p
