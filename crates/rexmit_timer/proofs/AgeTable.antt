-- The ages against the counter: a table for every age below the last and every limit, computed once.
use Rattle.std.proofs.Common.{◌≡◌, ℕ, ◌+◌, ◌-◌, ◌*◌, ◌^◌, ◌<◌, ◌≤◌, Bool, true, false, min, refl, sym, ap, ◌∙◌, arith, nat_lt, ◌==◌, ◌&&◌}
use Rattle.std.proofs.lemmas.Bool.{agree_below, agree_below_at, and_parts, eqb-true, ne_eqb, ltb-true, lt-ltb, le-ltb}
use Rattle.rexmit_timer.specs.declared.timer.Beat.{Beat}
use Rattle.rexmit_timer.specs.declared.timer.Beat.TheVariants.{Wait, Again, GiveUp}
use Rattle.rexmit_timer.specs.declared.timer.Timer.{Timer}
use Rattle.rexmit_timer.specs.Prelude.{give_up_age, beat_at, tries_at, count_at, IsAtAge, IsBeatOfAge}

-- whether two beats are the same
abbrev pub is_beat : Beat → Beat → Bool
is_beat Wait Wait = true
is_beat Again Again = true
is_beat GiveUp GiveUp = true
is_beat _ _ = false

beat_is : (one other : Beat) → is_beat one other ≡ true → one ≡ other
beat_is Wait Wait e = refl
beat_is Wait Again e = cc
beat_is Wait GiveUp e = cc
beat_is Again Wait e = cc
beat_is Again Again e = refl
beat_is Again GiveUp e = cc
beat_is GiveUp Wait e = cc
beat_is GiveUp Again e = cc
beat_is GiveUp GiveUp e = refl

unfoldable pub waits_at : ℕ → ℕ → Bool
waits_at limit age = is_beat Wait (beat_at limit (age + 1)) && ((count_at (age + 1) == count_at age - 1) && (tries_at (age + 1) == tries_at age))

unfoldable pub repeats_at : ℕ → ℕ → Bool
repeats_at limit age = is_beat Again (beat_at limit (age + 1)) && ((count_at (age + 1) == 3 * 2 ^ min (tries_at age) 4)
    && (tries_at (age + 1) == tries_at age + 1))

-- what holds of an age, by whether it is below the last, whether ticks are waited, and whether all retransmissions were used
abbrev pub fits_by : Bool → Bool → Bool → ℕ → ℕ → Bool
fits_by false waited used limit age = true
fits_by true true used limit age = waits_at limit age
fits_by true false true limit age = true
fits_by true false false limit age = repeats_at limit age

abbrev pub fits : ℕ → ℕ → Bool
fits limit age = fits_by (nat_lt age (give_up_age limit)) (nat_lt 0 (count_at age)) (tries_at age == limit) limit age

abbrev pub always : ℕ → Bool
always n = true

abbrev pub all_fit : ℕ → Bool
all_fit limit = agree_below (fits limit) always 249

abbrev pub ends_early : ℕ → Bool
ends_early limit = nat_lt (give_up_age limit) 250

pub table : agree_below all_fit always 9 ≡ true
unfolding waits_at repeats_at
table = refl

pub all_fit_at : (limit age : ℕ) → limit ≤ 8 → age < give_up_age limit → fits limit age ≡ true
all_fit_at limit age few early =
    let row : all_fit limit ≡ true = agree_below_at all_fit always 9 limit table (omega arith) in
    let last : give_up_age limit < 250 = ltb-true (give_up_age limit) 250 (agree_below_at ends_early always 9 limit refl (omega arith)) in
    agree_below_at (fits limit) always 249 age row (omega arith)

waits_from : (b w u : Bool) (limit age : ℕ) → fits_by b w u limit age ≡ true → b ≡ true → w ≡ true → waits_at limit age ≡ true
waits_from true true u limit age e p q = e
waits_from true false u limit age e p q = cc
waits_from false w u limit age e p q = cc

repeats_from : (b w u : Bool) (limit age : ℕ) → fits_by b w u limit age ≡ true → b ≡ true → w ≡ false → u ≡ false → repeats_at limit age ≡ true
repeats_from true true u limit age e p q r = cc
repeats_from true false true limit age e p q r = cc
repeats_from true false false limit age e p q r = e
repeats_from false w u limit age e p q r = cc

-- a tick while ticks are waited
pub waits : (limit age : ℕ) (t : Timer) → limit ≤ 8 → age < give_up_age limit → IsAtAge t age → 0 < t.count →
    IsBeatOfAge limit age Wait (record { count = t.count - 1; tries = t.tries })
unfolding waits_at
waits limit age t few early at waited =
    let w : nat_lt 0 (count_at age) ≡ true = lt-ltb 0 (count_at age) (let h : 0 < count_at age = omega (arith, at.count) in h) in
    let e = waits_from (nat_lt age (give_up_age limit)) (nat_lt 0 (count_at age)) (tries_at age == limit) limit age
    (all_fit_at limit age few early) (lt-ltb age (give_up_age limit) early) w in
    let p = and_parts (is_beat Wait (beat_at limit (age + 1))) ((count_at (age + 1) == count_at age - 1) && (tries_at (age + 1) == tries_at age)) e in
    let q = and_parts (count_at (age + 1) == count_at age - 1) (tries_at (age + 1) == tries_at age) p.1 in
    let counts : count_at (age + 1) ≡ count_at age - 1 = eqb-true (count_at (age + 1)) (count_at age - 1) q.0 in
    let tries : tries_at (age + 1) ≡ tries_at age = eqb-true (tries_at (age + 1)) (tries_at age) q.1 in
    record { beat = beat_is Wait (beat_at limit (age + 1)) p.0; goes_on = record { count = omega (arith, at.count, counts); tries = at.tries ∙ sym tries } }

-- a tick that asks for a retransmission
pub repeats : (limit age : ℕ) (t : Timer) → limit ≤ 8 → age < give_up_age limit → IsAtAge t age → t.count ≡ 0 → t.tries < limit →
    IsBeatOfAge limit age Again (record { count = 3 * 2 ^ min t.tries 4; tries = t.tries + 1 })
unfolding repeats_at
repeats limit age t few early at none left =
    let w : nat_lt 0 (count_at age) ≡ false = le-ltb 0 (count_at age) (let h : count_at age ≤ 0 = omega (arith, at.count) in h) in
    let u : (tries_at age == limit) ≡ false = ne_eqb (tries_at age) limit (λ h. omega (arith, at.tries, h, left)) in
    let e = repeats_from (nat_lt age (give_up_age limit)) (nat_lt 0 (count_at age)) (tries_at age == limit) limit age
    (all_fit_at limit age few early) (lt-ltb age (give_up_age limit) early) w u in
    let p = and_parts (is_beat Again (beat_at limit (age + 1))) ((count_at (age + 1) == 3 * 2 ^ min (tries_at age) 4)
    && (tries_at (age + 1) == tries_at age + 1)) e in
    let q = and_parts (count_at (age + 1) == 3 * 2 ^ min (tries_at age) 4) (tries_at (age + 1) == tries_at age + 1) p.1 in
    let counts : count_at (age + 1) ≡ 3 * 2 ^ min (tries_at age) 4 = eqb-true (count_at (age + 1)) (3 * 2 ^ min (tries_at age) 4) q.0 in
    let tries : tries_at (age + 1) ≡ tries_at age + 1 = eqb-true (tries_at (age + 1)) (tries_at age + 1) q.1 in
    record {
      beat = beat_is Again (beat_at limit (age + 1)) p.0;
      goes_on = record { count = ap (λ n. 3 * 2 ^ min n 4) at.tries ∙ sym counts; tries = omega (arith, at.tries, tries) };
    }
