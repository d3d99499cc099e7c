-- The window and the timer of worked exchanges, computed from the definitions alone.
use Rattle.node_laws.proofs.Prelude.{◌≡◌, ◌+◌, ℕ, true, false, inl, inr, List, [], ◌∷◌, refl, arith, Some, None, PlainSegment, SYN, PSH}
use Rattle.node_laws.proofs.Prelude.{ACK, occupies_sequence_space, only_some, all_nil, IsWithoutReset, Exchange, IsOutstanding, FitsNewest}
use Rattle.node_laws.proofs.Prelude.{exchanged, segment}

-- a segment of the peer with a window of three bytes, and the reply to it
abbrev narrow : ℕ → ℕ → List ℕ → PlainSegment
narrow seq ack text = record { seq = seq; ack = ack; flags = ACK; window = 3; mss = None; text = text }

abbrev rest : PlainSegment
rest = segment 4 1002 (ACK + PSH) (108 ∷ 111 ∷ 10 ∷ [])

-- The peer asks by one byte with such a window, and acknowledges the three bytes that are the answer.
abbrev shrunk : List Exchange
shrunk = exchanged (Some (narrow 1002 4 [])) (Some rest) ∷ exchanged (Some (narrow 1001 1 (120 ∷ [])))
    (Some (segment 1 1002 (ACK + PSH) (104 ∷ 101 ∷ 108 ∷ [])))
    ∷ exchanged (Some (segment 1001 1 ACK [])) None ∷ exchanged (Some (segment 1000 0 SYN [])) (Some (segment 0 1001 (SYN + ACK) [])) ∷ []

-- three bytes fit, and four do not
three_fit : FitsNewest shrunk 3
three_fit = inr (narrow 1002 4 [], refl, inr (inl (omega arith)))

four_do_not : FitsNewest shrunk 4 → ⊥
four_do_not h = elim h [
  | inl q ↦ absurd (let z : Some (narrow 1002 4 []) ≡ None = q.0 in cc)
  | inr q ↦ elim q.2 [
    | inl passed ↦ absurd (let z : occupies_sequence_space passed.0.answer ≡ true = only_some (λ t. occupies_sequence_space t ≡ true) rest
        passed.0.answer passed.0.output refl in let y = passed.0.bare in cc)
    | inr allowed ↦ elim allowed [
      | inl l ↦ (let w : q.0.window ≡ 3 = only_some (λ t. t.window ≡ 3) (narrow 1002 4 []) q.0 q.1 refl in omega (arith, l, w))
      | inr more ↦ elim more [
        | inl z ↦ absurd (let w : q.0.window ≡ 3 = only_some (λ t. t.window ≡ 3) (narrow 1002 4 []) q.0 q.1 refl in omega (arith, z, w))
        | inr iss ↦ absurd (let z : false ≡ true = (iss.syn_alone 0 (segment 1 1002 (ACK + PSH) (104 ∷ 101 ∷ 108 ∷ [])) refl refl).0 in cc)
      ]
    ]
  ]
]

-- the rest of the text is outstanding, and its prefix is not
is_out : IsOutstanding shrunk rest
is_out = record { place = 0; output = refl; placed = refl; unacked = λ k t l c f e. absurd (omega (arith, l)); unreset = all_nil IsWithoutReset }
