-- A header that was written passes every check and is read back, whatever follows it.
use Rattle.uip_ipv4.proofs.Prelude.{◌≡◌, ℕ, ◌+◌, ◌-◌, ◌%◌, ◌≤◌, Bool, true, false, not, ◌||◌, List, [], ◌∷◌, ◌++◌, length, length-append}
use Rattle.uip_ipv4.proofs.Prelude.{take, slice_index, Some, refl, ap, ◌∙◌, arith, eqb, ltb, if◌then◌else◌, Ok, Result, common_steps}
use Rattle.uip_ipv4.proofs.Prelude.{bytes_eq, folded_closes, same_word, checksum_of, folded, word_sum, word_at, Proto, Icmp, Tcp, IpHead}
use Rattle.uip_ipv4.proofs.Prelude.{IpFate, head_bytes, numbered_head, numbered_with, head_or_fate, head_by, proto_of, number_of, ReadsBack}

pub passes : {A : Type 0} (b : Bool) (x y z : A) → b ≡ false → y ≡ z → (if b then x else y) ≡ z
passes true x y z e h = absurd (cc)
passes false x y z e h = h

pub not_less : (a b : ℕ) → b ≤ a → ltb a b ≡ false
not_less a b h = grind (arith, common_steps)

pub equal : (a b : ℕ) → a ≡ b → not (eqb a b) ≡ false
equal a b h = grind (arith, common_steps)

pub neither : (a b : Bool) → a ≡ false → b ≡ false → a || b ≡ false
neither a b e f = ap (λ x. x || b) e ∙ f

same : (n : ℕ) → eqb n n ≡ true
same n = grind (arith, common_steps)

sum_of_head : (k total id number : ℕ) (a b c d e f g h : ℕ)
    → word_sum (numbered_with k total id number (a ∷ b ∷ c ∷ d ∷ []) (e ∷ f ∷ g ∷ h ∷ []))
    ≡ word_sum (numbered_with 0 total id number (a ∷ b ∷ c ∷ d ∷ []) (e ∷ f ∷ g ∷ h ∷ [])) + k
sum_of_head k total id number a b c d e f g h = omega arith

sound_sum : (total id number : ℕ) (a b c d e f g h : ℕ)
    → checksum_of (numbered_head total id number (a ∷ b ∷ c ∷ d ∷ []) (e ∷ f ∷ g ∷ h ∷ [])) ≡ 0
unfolding numbered_head
sound_sum total id number a b c d e f g h =
    let s : ℕ = word_sum (numbered_with 0 total id number (a ∷ b ∷ c ∷ d ∷ []) (e ∷ f ∷ g ∷ h ∷ [])) in
    ap (λ n. 65535 - folded n) (sum_of_head (65535 - folded s) total id number a b c d e f g h) ∙ ap (λ n. 65535 - n) (folded_closes s)

same_proto : (proto : Proto) (bytes : List ℕ) → head_by (proto_of ((16384 + number_of proto) % 256)) bytes ≡ head_by (Some proto) bytes
same_proto Icmp bytes = refl
same_proto Tcp bytes = refl

same_head : (total total' : ℕ) (proto : Proto) (s t : List ℕ) → total ≡ total'
    → ◌≡◌ {A = Result IpHead IpFate}
    (Ok (record { total = total; proto = proto; source = record { 0 = s }; target = record { 0 = t } }))
    (Ok (record { total = total'; proto = proto; source = record { 0 = s }; target = record { 0 = t } }))
same_head total total' proto s t e = ap (λ (n : ℕ). Ok (record { total = n; proto = proto; source = record { 0 = s }; target = record { 0 = t } })) e

same_address : (e f g h : ℕ) → bytes_eq (e ∷ f ∷ g ∷ h ∷ []) (e ∷ f ∷ g ∷ h ∷ []) ≡ true
same_address e f g h = rw (same e, same f, same g, same h) refl

pub four : (xs : List ℕ) → length xs ≡ 4 → xs ≡ slice_index xs 0 ∷ slice_index xs 1 ∷ slice_index xs 2 ∷ slice_index xs 3 ∷ []
four [] h = absurd (omega arith)
four (a ∷ []) h = absurd (omega arith)
four (a ∷ b ∷ []) h = absurd (omega arith)
four (a ∷ b ∷ c ∷ []) h = absurd (omega arith)
four (a ∷ b ∷ c ∷ d ∷ []) h = refl
four (a ∷ b ∷ c ∷ d ∷ e ∷ rest) h = absurd (omega arith)

-- a header for the protocol of any number passes all checks but the last
numbered_back : (total id number : ℕ) (a b c d e f g h : ℕ) (rest : List ℕ) → 20 ≤ total → total ≤ 20 + length rest
    → head_or_fate (numbered_head total id number (a ∷ b ∷ c ∷ d ∷ []) (e ∷ f ∷ g ∷ h ∷ []) ++ rest) (e ∷ f ∷ g ∷ h ∷ [])
    ≡ head_by (proto_of ((16384 + number) % 256)) (numbered_head total id number (a ∷ b ∷ c ∷ d ∷ []) (e ∷ f ∷ g ∷ h ∷ []) ++ rest)
unfolding head_or_fate numbered_head
numbered_back total id number a b c d e f g h rest least most =
    let bytes : List ℕ = numbered_head total id number (a ∷ b ∷ c ∷ d ∷ []) (e ∷ f ∷ g ∷ h ∷ []) ++ rest in
    let reported : word_at bytes 2 ≡ total = same_word total in
    let long : length bytes ≡ 20 + length rest = omega arith in
    passes _ _ _ _ (not_less (length bytes) 20 (omega arith))
    (passes _ _ _ _ (neither _ _ (not_less (word_at bytes 2) 20 (omega arith)) (not_less (length bytes) (word_at bytes 2) (omega arith)))
    (passes _ _ _ _ (equal (checksum_of (take 20 bytes)) 0 (sound_sum total id number a b c d e f g h))
    (passes _ _ _ _ (ap not (same_address e f g h)) refl)))

back : (total id : ℕ) (proto : Proto) (a b c d e f g h : ℕ) (rest : List ℕ) → 20 ≤ total → total ≤ 20 + length rest
    → head_or_fate (head_bytes total id proto (a ∷ b ∷ c ∷ d ∷ []) (e ∷ f ∷ g ∷ h ∷ []) ++ rest) (e ∷ f ∷ g ∷ h ∷ [])
    ≡ Ok (record {
      total = total;
      proto = proto;
      source = record { 0 = a ∷ b ∷ c ∷ d ∷ [] };
      target = record { 0 = e ∷ f ∷ g ∷ h ∷ [] };
    })
unfolding head_bytes numbered_head
back total id proto a b c d e f g h rest least most =
    let bytes : List ℕ = numbered_head total id (number_of proto) (a ∷ b ∷ c ∷ d ∷ []) (e ∷ f ∷ g ∷ h ∷ []) ++ rest in
    numbered_back total id (number_of proto) a b c d e f g h rest least most ∙ same_proto proto bytes ∙ same_head _ _ proto _ _ (same_word total)

-- the same at addresses that are lists
pub numbered_passes : (total id number : ℕ) (source target rest : List ℕ) → length source ≡ 4 → length target ≡ 4 → 20 ≤ total → total ≤ 20 + length rest
    → head_or_fate (numbered_head total id number source target ++ rest) target
    ≡ head_by (proto_of ((16384 + number) % 256)) (numbered_head total id number source target ++ rest)
numbered_passes total id number source target rest s t least most =
    rw (four source s, four target t) (numbered_back total id number _ _ _ _ _ _ _ _ rest least most)

-- the header's length
pub length-head_bytes : (total id : ℕ) (proto : Proto) (source target : List ℕ) → length source ≡ 4 → length target ≡ 4
    → length (head_bytes total id proto source target) ≡ 20
unfolding head_bytes
length-head_bytes total id proto source target s t = simp length-append (omega arith)

pub reads_back : ReadsBack
reads_back total id proto source target rest s t least most =
    rw (four source s, four target t) (back total id proto _ _ _ _ _ _ _ _ rest least most)
