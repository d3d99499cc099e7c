-- The age of what awaits an acknowledgement, by the retransmissions that the exchanges show.
use Rattle.node_laws.proofs.Prelude.{◌≡◌, ℕ, zero, suc, ◌+◌, ◌<◌, ◌≤◌, true, if◌then◌else◌, ◌&&◌, ◌⊎◌, inl, inr}
use Rattle.node_laws.proofs.Prelude.{List, [], ◌∷◌, refl, sym, ap, ◌∙◌, subst, arith, Option, Some, None, take, eqb}
use Rattle.node_laws.proofs.Prelude.{cases_lt, list_any, PlainSegment, ages, beat_at, give_up_age, Beat, occupies_sequence_space, choose}
use Rattle.node_laws.proofs.Prelude.{eqb-eq, Exchange, awaits_ack, in_handshake, retransmissions, retransmission_limit}
use Rattle.node_laws.proofs.Lines.{quiet, met}

-- Something awaits an acknowledgement. Before the last retransmission its age is below that of the next one.
pub record Timed (limit : ℕ) (incarnation : List Exchange) (age : ℕ) : Type 0 where
  pub awaits : awaits_ack incarnation ≡ true
  pub early : retransmissions incarnation < limit → age < give_up_age (retransmissions incarnation)

-- the limit of a SYN, or of text
abbrev pub IsLimit : ℕ → Type 0
IsLimit limit = (limit ≡ 5) ⊎ (limit ≡ 8)

-- ---- the ages

-- the age of each retransmission is above that of the one before
abbrev Rises : ℕ → Type 0
Rises n = (0 < give_up_age n) × (give_up_age n < give_up_age (suc n))

rises : (n : ℕ) → n < 8 → Rises n
rises zero l = (omega arith, omega arith)
rises (suc zero) l = (omega arith, omega arith)
rises (suc (suc zero)) l = (omega arith, omega arith)
rises (suc (suc (suc zero))) l = (omega arith, omega arith)
rises (suc (suc (suc (suc zero)))) l = (omega arith, omega arith)
rises (suc (suc (suc (suc (suc zero))))) l = (omega arith, omega arith)
rises (suc (suc (suc (suc (suc (suc zero)))))) l = (omega arith, omega arith)
rises (suc (suc (suc (suc (suc (suc (suc zero))))))) l = (omega arith, omega arith)
rises (suc (suc (suc (suc (suc (suc (suc (suc n)))))))) l = absurd (omega (arith, l))

below_last_syn : (n : ℕ) → n < 5 → give_up_age n < 102
below_last_syn zero l = omega arith
below_last_syn (suc zero) l = omega arith
below_last_syn (suc (suc zero)) l = omega arith
below_last_syn (suc (suc (suc zero))) l = omega arith
below_last_syn (suc (suc (suc (suc zero)))) l = omega arith
below_last_syn (suc (suc (suc (suc (suc n))))) l = absurd (omega (arith, l))

below_last_text : (n : ℕ) → n < 8 → give_up_age n < 249
below_last_text zero l = omega arith
below_last_text (suc zero) l = omega arith
below_last_text (suc (suc zero)) l = omega arith
below_last_text (suc (suc (suc zero))) l = omega arith
below_last_text (suc (suc (suc (suc zero)))) l = omega arith
below_last_text (suc (suc (suc (suc (suc zero))))) l = omega arith
below_last_text (suc (suc (suc (suc (suc (suc zero)))))) l = omega arith
below_last_text (suc (suc (suc (suc (suc (suc (suc zero))))))) l = omega arith
below_last_text (suc (suc (suc (suc (suc (suc (suc (suc n)))))))) l = absurd (omega (arith, l))

again_syn : (n : ℕ) → n < 5 → beat_at 5 (give_up_age n) ≡ Beat.Again
again_syn zero l = refl
again_syn (suc zero) l = refl
again_syn (suc (suc zero)) l = refl
again_syn (suc (suc (suc zero))) l = refl
again_syn (suc (suc (suc (suc zero)))) l = refl
again_syn (suc (suc (suc (suc (suc n))))) l = absurd (omega (arith, l))

again_text : (n : ℕ) → n < 8 → beat_at 8 (give_up_age n) ≡ Beat.Again
again_text zero l = refl
again_text (suc zero) l = refl
again_text (suc (suc zero)) l = refl
again_text (suc (suc (suc zero))) l = refl
again_text (suc (suc (suc (suc zero)))) l = refl
again_text (suc (suc (suc (suc (suc zero))))) l = refl
again_text (suc (suc (suc (suc (suc (suc zero)))))) l = refl
again_text (suc (suc (suc (suc (suc (suc (suc zero))))))) l = refl
again_text (suc (suc (suc (suc (suc (suc (suc (suc n)))))))) l = absurd (omega (arith, l))

again_at : (limit n : ℕ) → IsLimit limit → n < limit → beat_at limit (give_up_age n) ≡ Beat.Again
again_at limit n is l = elim is [
  | inl e ↦ subst (λ k. beat_at k (give_up_age n) ≡ Beat.Again) (sym e) (again_syn n (omega (arith, l, e)))
  | inr e ↦ subst (λ k. beat_at k (give_up_age n) ≡ Beat.Again) (sym e) (again_text n (omega (arith, l, e)))
]

below_last : (limit n : ℕ) → IsLimit limit → n < limit → give_up_age n < give_up_age limit
below_last limit n is l = elim is [
  | inl e ↦ subst (λ k. give_up_age n < give_up_age k) (sym e) (below_last_syn n (omega (arith, l, e)))
  | inr e ↦ subst (λ k. give_up_age n < give_up_age k) (sym e) (below_last_text n (omega (arith, l, e)))
]

few : (limit n : ℕ) → IsLimit limit → n < limit → n < 8
few limit n is l = elim is [ inl e ↦ omega (arith, l, e) | inr e ↦ omega (arith, l, e) ]

-- the connection is given up only at the last age
given_up_at : (limit age : ℕ) → (age ≡ give_up_age limit → ⊥) → beat_at limit age ≡ Beat.GiveUp → ⊥
given_up_at limit age n e =
    let P : Beat → Type 0 = λ b. b ≡ Beat.GiveUp → ⊥ in
    choose P (eqb age (give_up_age limit)) Beat.GiveUp (if list_any (λ a. eqb a age) (take limit ages) then Beat.Again else Beat.Wait)
    (λ q. absurd (n (eqb-eq age (give_up_age limit) q)))
    (λ q. choose P (list_any (λ a. eqb a age) (take limit ages)) Beat.Again Beat.Wait (λ g h. cc) (λ g h. cc)) e

-- ---- the record over one exchange more

pub timed_quiet : (limit : ℕ) (incarnation : List Exchange) (age : ℕ) → Timed limit incarnation age → Timed limit (quiet ∷ incarnation) age
timed_quiet limit incarnation age h = record { awaits = h.awaits; early = h.early }

pub goes_on_in_time : (limit : ℕ) (incarnation : List Exchange) (age : ℕ) → IsLimit limit → retransmissions incarnation < limit
    → Timed limit incarnation age → beat_at limit (age + 1) ≡ Beat.GiveUp → ⊥
goes_on_in_time limit incarnation age is l h e =
    given_up_at limit (age + 1)
    (λ q. (let y = h.early l in let z = below_last limit (retransmissions incarnation) is l in omega (arith, q, y, z))) e

pub timed_waits : (limit : ℕ) (incarnation : List Exchange) (age : ℕ) → IsLimit limit → Timed limit incarnation age
    → beat_at limit (age + 1) ≡ Beat.Wait → Timed limit (quiet ∷ incarnation) (age + 1)
timed_waits limit incarnation age is h e = record {
  awaits = h.awaits;
  early = λ l. elim (cases_lt (age + 1) (give_up_age (retransmissions incarnation))) [
    | inl y ↦ y
    | inr y ↦ absurd (let z = h.early l in
        let same : age + 1 ≡ give_up_age (retransmissions incarnation) = omega (arith, y, z) in
        let again : beat_at limit (age + 1) ≡ Beat.Again = ap (beat_at limit) same ∙ again_at limit (retransmissions incarnation) is l in cc)
  ];
}

-- what is sent again occupies sequence space
counts_again : (s : PlainSegment) (older : List Exchange) → occupies_sequence_space s ≡ true → awaits_ack older ≡ true
    → retransmissions (met None (Some s) ∷ older) ≡ retransmissions older + 1
counts_again s older o w = ap (λ b. if b && awaits_ack older then retransmissions older + 1 else retransmissions older) o
    ∙ ap (λ b. if b then retransmissions older + 1 else retransmissions older) w

pub timed_again : (limit : ℕ) (s : PlainSegment) (older : List Exchange) (age : ℕ) → IsLimit limit → occupies_sequence_space s ≡ true
    → Timed limit older age → Timed limit (met None (Some s) ∷ older) (age + 1)
timed_again limit s older age is o h =
    let n : ℕ = retransmissions older in
    let more : retransmissions (met None (Some s) ∷ older) ≡ n + 1 = counts_again s older o h.awaits in
    record {
      awaits = o;
      early = λ l. (let below : n < limit = omega (arith, l, more) in
          let y = h.early below in let z = (rises n (few limit n is below)).1 in
          subst (λ k. age + 1 < give_up_age k) (sym (more ∙ (let w : n + 1 ≡ suc n = omega arith in w))) (omega (arith, y, z)));
    }

-- when it is first sent
pub timed_first : (received : Option PlainSegment) (s : PlainSegment) (older : List Exchange) → occupies_sequence_space s ≡ true
    → Timed 8 (met received (Some s) ∷ older) 0
timed_first received s older o = record { awaits = o; early = λ l. (rises (retransmissions (met received (Some s) ∷ older)) l).0 }

-- the SYN-ACK
pub timed_syn : (syn answer : PlainSegment) → occupies_sequence_space answer ≡ true → Timed 5 (met (Some syn) (Some answer) ∷ []) 0
timed_syn syn answer o = record { awaits = o; early = λ l. omega arith }

-- ---- the limit

pub limit_low : (incarnation : List Exchange) → retransmission_limit incarnation ≤ 8
limit_low incarnation = choose (λ n. n ≤ 8) (in_handshake incarnation) 5 8 (λ e. omega arith) (λ e. omega arith)
