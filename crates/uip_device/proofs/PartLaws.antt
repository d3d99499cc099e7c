-- What a decoder knows of its area.
use Rattle.uip_device.proofs.Prelude.{◌≡◌, ◌||◌, ℕ, true, false, List, [], ◌∷◌, if◌then◌else◌, refl, sym, ap, ◌∙◌, arith, eqb-true, length}
use Rattle.uip_device.proofs.Prelude.{take_all, nat_eq, suc, take, zero, PartState, WasFed, is_free, open_bytes, state_in}

-- an area without a byte of an open frame may change
open_nothing : (p : PartState) (a : List ℕ) → p.over ≡ false → is_free p ≡ true → open_bytes (state_in a p) ≡ []
open_nothing p a over free =
    elim p.reported as (λ v. (v || nat_eq p.len 0) ≡ true → (if v then [] else take p.len a) ≡ []) [
      | true ↦ λ _. refl
      | false ↦ λ e. ap (λ k. take k a) (eqb-true _ _ e)
    ] (rw over at free)

pub fed_anywhere : (p : PartState) (a b bytes : List ℕ) → is_free p ≡ true → WasFed bytes (state_in a p) → WasFed bytes (state_in b p)
fed_anywhere p a b bytes free f = record {
  prefix = λ over. open_nothing p b over free ∙ sym (open_nothing p a over free) ∙ f.prefix over;
  over = f.over;
  waits = f.waits;
}

-- a datagram in an area by its length
pub take_whole : (n k : ℕ) (a : List ℕ) → n ≡ length (take k a) → take n a ≡ take k a
take_whole n k [] e = take_all n [] (omega arith) ∙ sym (take_all k [] (omega arith))
take_whole n zero (x ∷ a) e = ap (λ m. take m (x ∷ a)) e
take_whole n (suc k) (x ∷ a) e = ap (λ m. take m (x ∷ a)) e ∙ ap (λ l. x ∷ l) (take_whole _ k a refl)
