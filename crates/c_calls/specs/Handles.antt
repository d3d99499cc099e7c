-- What a handle keeps, before and after a call. `Kept` is what a handle can keep, and `keeps d` that it keeps the device `d`.
use Rattle.std.specs.Prelude.{◌≡◌, ◌⊎◌, [], Bool, false, List, Option, Some, true, ℕ}
use Rattle.c_calls.specs.declared.status.TheConstants.{NO_DEVICE, OK}

-- There is a device of this kind, and P holds of it.
abbrev pub HasDevice : {D Kept : Type 0} → (D → Kept) → (D → Type 0) → Kept → Type 0
HasDevice {D} keeps P kept = (d : D) × (kept ≡ keeps d) × P d

-- The same of a handle that keeps one kind of device.
abbrev pub HasOne : (D : Type 0) → (D → Type 0) → Option D → Type 0
HasOne D P kept = HasDevice Some P kept

-- There was a device of this kind and there still is one, and P holds of the device before and after.
pub record StillHas {D Kept : Type 0} (keeps : D → Kept) (P : D → D → Type 0) (old new : Kept) : Type 0 where
  pub before : D
  pub after : D
  pub was : old ≡ keeps before
  pub is : new ≡ keeps after
  pub holds : P before after

-- If the call drops what it received, it writes no bytes and changes nothing. Else P holds.
pub record DropsOr {D : Type 0} (P : Type 0) (is_dropped : Bool) (old new : D) (handed : List ℕ) : Type 0 where
  pub dropped : is_dropped ≡ true → (new ≡ old) × (handed ≡ [])
  pub answers : is_dropped ≡ false → P

-- What closing a handle reports and does: it has no device, and its field `is_open` is 0.
pub record ClosesHandle {Kept : Type 0} (none : Kept) (has_device : Kept → Bool) (status is_open : ℕ) (old new : Kept) : Type 0 where
  pub known : (status ≡ OK) ⊎ (status ≡ NO_DEVICE)
  pub fine : status ≡ OK → has_device old ≡ true
  pub no_device : status ≡ NO_DEVICE → old ≡ none
  pub closed : new ≡ none
  pub shut : is_open ≡ 0
