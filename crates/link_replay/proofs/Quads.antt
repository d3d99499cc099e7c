-- A dotted quad spells an address.
use Rattle.link_replay.proofs.Prelude.{IfSome, ◌≡◌, ℕ, Bool, true, false, cond, List, [], ◌∷◌, Option, Some, None, refl, ltb, ltb-true}
use Rattle.link_replay.proofs.Prelude.{All-cons, All-nil, cut_at_dot, part_number, quad_of, numeral, IsAddr, IsByte}
use Rattle.uip_wire.specs.Addr.{◌>>=◌}

-- what passes a test
tested : (P : ℕ → Type 0) (b : Bool) (x : ℕ) → (b ≡ true → P x) → IfSome (cond b (Some x) None) P
tested P true x p = p refl
tested P false x p = tt

below : (n : Option ℕ) → IfSome (n >>= λ x. cond (ltb x 256) (Some x) None) IsByte
below (Some x) = tested IsByte (ltb x 256) x (λ e. ltb-true x 256 e)
below None = tt

byte_of : (text : List ℕ) → IfSome (part_number text) IsByte
byte_of text = below (numeral text)

abbrev IsQuad : List ℕ → Type 0
IsQuad quad = IsAddr (record { 0 = quad })

of_bytes : (a b c d : Option ℕ) → IfSome a IsByte → IfSome b IsByte → IfSome c IsByte → IfSome d IsByte
    → IfSome (a >>= λ w. b >>= λ x. c >>= λ y. d >>= λ z. Some (w ∷ x ∷ y ∷ z ∷ [])) IsQuad
of_bytes (Some w) (Some x) (Some y) (Some z) p q r s = record {
  four = refl;
  all_bytes = All-cons IsByte w (x ∷ y ∷ z ∷ []) p (All-cons IsByte x (y ∷ z ∷ []) q (All-cons IsByte y (z ∷ []) r (All-cons IsByte z [] s (All-nil IsByte))));
}
of_bytes (Some w) (Some x) (Some y) None p q r s = tt
of_bytes (Some w) (Some x) None d p q r s = tt
of_bytes (Some w) None c d p q r s = tt
of_bytes None b c d p q r s = tt

-- after a cut
cut : {A B : Type 0} (P : B → Type 0) (r : Option A) (f : A → Option B) → ((x : A) → IfSome (f x) P) → IfSome (r >>= f) P
cut P (Some x) f p = p x
cut P None f p = tt

pub quad_is_addr : (text : List ℕ) → IfSome (quad_of text) IsQuad
unfolding quad_of
quad_is_addr text =
    cut IsQuad (cut_at_dot text) _
    (λ first. cut IsQuad (cut_at_dot first.1) _
    (λ second. cut IsQuad (cut_at_dot second.1) _
    (λ third. of_bytes (part_number first.0) (part_number second.0) (part_number third.0) (part_number third.1) (byte_of first.0)
    (byte_of second.0) (byte_of third.0) (byte_of third.1))))
