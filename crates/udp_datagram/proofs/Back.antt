-- Data that was sent in a flow is received in it.
use Rattle.std.proofs.Common.{◌≡◌, ℕ, ◌+◌, ◌-◌, inl, inr, Bool, true, false, not, ◌&&◌, eqb, if◌then◌else◌, List, [], ◌∷◌, ◌++◌, length}
use Rattle.std.proofs.Common.{take, slice_index, slice_range, Some, refl, sym, ap, ◌∙◌, arith, subst}
use Rattle.std.proofs.Math.Seq.{take-length}
use Rattle.std.proofs.lemmas.List.{take_all}
use Rattle.std.specs.Str.{bytes_eq}
use Rattle.uip_wire.proofs.Folding.{folded_cases, folded_closes, folded_most, same_folded}
use Rattle.uip_wire.proofs.Words.{same_word}
use Rattle.uip_wire.specs.Prelude.{address_at, checksum_of, folded, word_sum, word_at}
use Rattle.uip_ipv4.proofs.Back.{equal, four, neither, not_less, numbered_passes, passes}
use Rattle.uip_ipv4.specs.Prelude.{numbered_head}
use Rattle.udp_datagram.specs.Prelude.{ReadsBack, after_header, carries_udp, is_of_other_protocol, sent_sum, udp_data, udp_datagram, udp_in}
use Rattle.udp_datagram.specs.Prelude.{udp_pseudo_header, udp_sum, udp_with}
use Rattle.udp_datagram.specs.declared.way.UdpFlow.{UdpFlow}

same : (n : ℕ) → eqb n n ≡ true
same n = grind arith

same_address : (a b c d : ℕ) → bytes_eq (a ∷ b ∷ c ∷ d ∷ []) (a ∷ b ∷ c ∷ d ∷ []) ≡ true
same_address a b c d = rw (same a, same b, same c, same d) refl

both_false : (a b : Bool) → b ≡ false → (a && b) ≡ false
both_false true b e = e
both_false false b e = refl

none_of : (n : ℕ) → eqb n 0 ≡ true → n ≡ 0
none_of n e = grind arith

rest_of : (n : ℕ) → 8 + n - 8 ≡ n
rest_of n = omega arith

-- the sent sum completes the sum, also where it is 65535 in place of 0
closes_by : (s c : ℕ) → c ≡ 65535 - folded s → folded (s + sent_sum c) ≡ 65535
closes_by s c is =
    elim (eqb c 0) as (λ v. eqb c 0 ≡ v → folded (s + (if v then 65535 else c)) ≡ 65535) [
      | true ↦ λ zero. elim (folded_cases s) [
        | inl p ↦ absurd (omega (arith, is, p.1, none_of c zero))
        | inr p ↦ same_folded s (s + 65535) 1 (omega arith) p.0 ∙ omega (arith, is, none_of c zero, folded_most s)
      ]
      | false ↦ λ some. ap (λ k. folded (s + k)) is ∙ folded_closes s
    ] refl

module _ (from to : ℕ) (a b c d e f g h : ℕ) (payload : List ℕ) where
  abbrev way : UdpFlow
  way = record {
    source = record { 0 = a ∷ b ∷ c ∷ d ∷ [] };
    target = record { 0 = e ∷ f ∷ g ∷ h ∷ [] };
    from = record { 0 = from };
    to = record { 0 = to };
  }

  sum_added : (k n : ℕ) → word_sum (udp_pseudo_header way n ++ udp_with k way payload) ≡ word_sum (udp_pseudo_header way n ++ udp_with 0 way payload) + k
  sum_added k n = omega arith

  sound : checksum_of (udp_pseudo_header way (8 + length payload) ++ udp_with (udp_sum way payload) way payload) ≡ 0
  sound =
      let n = 8 + length payload in
      let s : ℕ = word_sum (udp_pseudo_header way n ++ udp_with 0 way payload) in
      ap (λ t. 65535 - folded t) (sum_added (udp_sum way payload) n) ∙ ap (λ t. 65535 - t) (closes_by s (65535 - folded s) refl)

  udp_back : udp_in way (udp_with (udp_sum way payload) way payload) ≡ Some payload
  udp_back =
      let u : List ℕ = udp_with (udp_sum way payload) way payload in
      let n = 8 + length payload in
      let long : length u ≡ n = omega arith in
      let reported : word_at u 4 ≡ n = same_word n in
      let whole : take (word_at u 4) u ≡ u = take_all (word_at u 4) u (omega (arith, reported, long)) in
      let zero : checksum_of (udp_pseudo_header way (word_at u 4) ++ take (word_at u 4) u) ≡ 0 =
      ap (λ l. checksum_of (udp_pseudo_header way (word_at u 4) ++ l)) whole ∙ ap (λ m. checksum_of (udp_pseudo_header way m ++ u)) reported ∙ sound in
      passes _ _ _ _ (not_less (length u) 8 (omega arith))
      (passes _ _ _ _ (neither _ _ (equal (word_at u 0) from (same_word from)) (equal (word_at u 2) to (same_word to)))
      (passes _ _ _ _ (neither _ _ (not_less (word_at u 4) 8 (omega (arith, reported))) (not_less (length u) (word_at u 4) (omega (arith, reported, long))))
      (passes _ _ _ _ (both_false _ _ (equal (checksum_of (udp_pseudo_header way (word_at u 4) ++ take (word_at u 4) u)) 0 zero))
      (ap (λ m. Some (slice_range u 8 m)) reported ∙ ap (λ m. Some (take m payload)) (rest_of (length payload)) ∙ ap Some (take-length payload)))))

  -- the datagram
  abbrev sent : ℕ → List ℕ
  sent id = numbered_head (28 + length payload) id 17 way.source.0 way.target.0 ++ udp_with (udp_sum way payload) way payload

  carried_back : (id : ℕ) → carries_udp way.target.0 (sent id) ≡ true
  unfolding numbered_head
  carried_back id =
      ap (λ r. is_of_other_protocol r && eqb (slice_index (sent id) 9) 17)
      (numbered_passes (28 + length payload) id 17 way.source.0 way.target.0 (udp_with (udp_sum way payload) way payload) refl refl (omega arith) (omega arith))

  source_back : (id : ℕ) → bytes_eq (address_at (sent id) 12) way.source.0 ≡ true
  unfolding numbered_head
  source_back id = same_address a b c d

  after_back : (id : ℕ) → after_header (sent id) ≡ udp_with (udp_sum way payload) way payload
  unfolding numbered_head
  after_back id =
      let u : List ℕ = udp_with (udp_sum way payload) way payload in
      let size : length u ≡ 8 + length payload = omega arith in
      let total = 28 + length payload in
      ap (λ n. take (n - 20) u) (same_word total) ∙ take_all (total - 20) u (omega (arith, size))

  back : (id : ℕ) → udp_data way (udp_datagram way id payload) ≡ Some payload
  unfolding udp_data udp_datagram
  back id =
      passes _ _ _ _ (ap not (carried_back id))
      (passes _ _ _ _ (ap not (source_back id))
      (ap (λ l. udp_in way l) (after_back id) ∙ udp_back))

-- a way whose addresses are lists of four bytes
abbrev way_at : UdpFlow → List ℕ → List ℕ → UdpFlow
way_at w source target = record { source = record { 0 = source }; target = record { 0 = target }; from = w.from; to = w.to }

pub reads_back : ReadsBack
reads_back w id payload s t =
    let source = w.source.0 in
    let target = w.target.0 in
    let is : w ≡ way_at w (slice_index source 0 ∷ slice_index source 1 ∷ slice_index source 2 ∷ slice_index source 3 ∷ [])
    (slice_index target 0 ∷ slice_index target 1 ∷ slice_index target 2 ∷ slice_index target 3 ∷ []) =
    ap (λ (l : List ℕ). way_at w l target) (four source s)
    ∙ ap (λ (l : List ℕ). way_at w (slice_index source 0 ∷ slice_index source 1 ∷ slice_index source 2 ∷ slice_index source 3 ∷ []) l) (four target t) in
    subst (λ (v : UdpFlow). udp_data v (udp_datagram v id payload) ≡ Some payload) (sym is) (back w.from.0 w.to.0 _ _ _ _ _ _ _ _ payload id)
