-- Events followed by further events.
use Rattle.udp_resolver.proofs.Prelude.{◌≡◌, ℕ, ◌+◌, ◌<◌, Bool, true, false, eqb, leb, if◌then◌else◌, List, [], ◌∷◌, ◌++◌, refl, sym, ap}
use Rattle.udp_resolver.proofs.Prelude.{◌∙◌, arith, subst, IsAtAge, IsBeatOfAge, Beat, Again, GiveUp, Wait, Timer, is_given_up, silences}
use Rattle.udp_resolver.proofs.Prelude.{LineEvent, MediumInput, Silence, IsClockAt, Clock}

pub silences-append : (xs ys : List LineEvent) → silences (xs ++ ys) ≡ silences xs + silences ys
silences-append [] ys = omega arith
silences-append (MediumInput datagram ∷ xs) ys = silences-append xs ys
silences-append (Silence ∷ xs) ys = omega (arith, silences-append xs ys)

pub one_more : (xs : List LineEvent) → silences (xs ++ Silence ∷ []) ≡ silences xs + 1
one_more xs = silences-append xs (Silence ∷ [])

below : (n : ℕ) → leb 249 n ≡ false → n < 249
below n e = grind arith

pub not_over : (xs : List LineEvent) → is_given_up xs ≡ false → silences xs < 249
not_over xs e = below (silences xs) e

not_last_by : (b c : Bool) → Wait ≡ (if b then GiveUp else if c then Again else Wait) → b ≡ false
not_last_by true c e = absurd (cc e)
not_last_by false c e = refl

again_by : (b c : Bool) → Again ≡ (if b then GiveUp else if c then Again else Wait) → b ≡ false
again_by true c e = absurd (cc e)
again_by false c e = refl

last_by : (b c : Bool) → GiveUp ≡ (if b then GiveUp else if c then Again else Wait) → b ≡ true
last_by true c e = refl
last_by false true e = absurd (cc e)
last_by false false e = absurd (cc e)

still : (n : ℕ) → n < 249 → eqb (n + 1) 249 ≡ false → leb 249 (n + 1) ≡ false
still n h e = grind arith

reached : (n : ℕ) → eqb n 249 ≡ true → leb 249 n ≡ true
reached n e = grind arith

-- the clock continues with the next age
goes : (happened : List LineEvent) (old : Clock) (timer : Timer) → is_given_up happened ≡ false → IsClockAt happened old
    → eqb (silences happened + 1) 249 ≡ false → IsAtAge timer (silences happened + 1)
    → IsClockAt (happened ++ Silence ∷ []) (record { timer = timer; given_up = old.given_up })
goes happened old timer e at next aged = record {
  given_up =
      at.given_up ∙ e
      ∙ sym (ap (λ n. leb 249 n) (one_more happened) ∙ still (silences happened) (not_over happened e) next);
  age = λ h. subst (λ n. IsAtAge timer n) (sym (one_more happened)) aged;
}

pub ticked_wait : (happened : List LineEvent) (old : Clock) (timer : Timer) (asked : Beat) → asked ≡ Wait → is_given_up happened ≡ false
    → IsClockAt happened old
    → IsBeatOfAge 8 (silences happened) asked timer → IsClockAt (happened ++ Silence ∷ []) (record { timer = timer; given_up = old.given_up })
ticked_wait happened old timer Wait is e at b = goes happened old timer e at (not_last_by _ _ b.beat) b.goes_on
ticked_wait happened old timer Again is e at b = absurd (cc is)
ticked_wait happened old timer GiveUp is e at b = absurd (cc is)

pub ticked_again : (happened : List LineEvent) (old : Clock) (timer : Timer) (asked : Beat) → asked ≡ Again → is_given_up happened ≡ false
    → IsClockAt happened old
    → IsBeatOfAge 8 (silences happened) asked timer → IsClockAt (happened ++ Silence ∷ []) (record { timer = timer; given_up = old.given_up })
ticked_again happened old timer Wait is e at b = absurd (cc is)
ticked_again happened old timer Again is e at b = goes happened old timer e at (again_by _ _ b.beat) b.goes_on
ticked_again happened old timer GiveUp is e at b = absurd (cc is)

too_late : (n : ℕ) → eqb n 249 ≡ true → n < 249 → ⊥
too_late n e h = grind arith

pub ticked_over : (happened : List LineEvent) (old : Clock) (timer : Timer) (asked : Beat) → asked ≡ GiveUp → is_given_up happened ≡ false
    → IsClockAt happened old
    → IsBeatOfAge 8 (silences happened) asked timer → IsClockAt (happened ++ Silence ∷ []) (record { timer = timer; given_up = true })
ticked_over happened old timer Wait is e at b = absurd (cc is)
ticked_over happened old timer Again is e at b = absurd (cc is)
ticked_over happened old timer GiveUp is e at b =
    let last : eqb (silences happened + 1) 249 ≡ true = last_by _ _ b.beat in
    record {
      given_up = sym (ap (λ n. leb 249 n) (one_more happened) ∙ reached (silences happened + 1) last);
      age = λ h. absurd (too_late (silences happened + 1) last (subst (λ n. n < 249) (one_more happened) h));
    }
