-- Addresses as the lists of their bytes.
use Rattle.ethernet_arp.proofs.Prelude.{◌≡◌, ℕ, ◌+◌, ◌/◌, ◌%◌, ◌<◌, List, [], ◌∷◌, ◌++◌, length, get_or, drop, refl, sym, arith, ap, ◌∙◌}
use Rattle.ethernet_arp.proofs.Prelude.{append-nil, append_assoc, length-append, take, ◌-◌, ◌≤◌, drop-drop, drop-take, drop_all}
use Rattle.ethernet_arp.proofs.Prelude.{length-take-le, take-append-add, take-append_seam, word_bytes, written, arp_begin, frame_with}
use Rattle.ethernet_arp.proofs.Prelude.{framed, Puts}

-- the elements of a list, one by one
abbrev pub elements6 : List ℕ → List ℕ
elements6 xs = get_or xs 0 0 ∷ get_or xs 1 0 ∷ get_or xs 2 0 ∷ get_or xs 3 0 ∷ get_or xs 4 0 ∷ get_or xs 5 0 ∷ []

abbrev pub elements4 : List ℕ → List ℕ
elements4 xs = get_or xs 0 0 ∷ get_or xs 1 0 ∷ get_or xs 2 0 ∷ get_or xs 3 0 ∷ []

pub six : (xs : List ℕ) → length xs ≡ 6 → elements6 xs ≡ xs
six (a ∷ b ∷ c ∷ d ∷ e ∷ f ∷ []) h = refl
six (a ∷ b ∷ c ∷ d ∷ e ∷ f ∷ g ∷ xs) h = absurd (omega (arith, h))
six [] h = absurd (omega (arith, h))
six (a ∷ []) h = absurd (omega (arith, h))
six (a ∷ b ∷ []) h = absurd (omega (arith, h))
six (a ∷ b ∷ c ∷ []) h = absurd (omega (arith, h))
six (a ∷ b ∷ c ∷ d ∷ []) h = absurd (omega (arith, h))
six (a ∷ b ∷ c ∷ d ∷ e ∷ []) h = absurd (omega (arith, h))

pub four : (xs : List ℕ) → length xs ≡ 4 → elements4 xs ≡ xs
four (a ∷ b ∷ c ∷ d ∷ []) h = refl
four (a ∷ b ∷ c ∷ d ∷ e ∷ xs) h = absurd (omega (arith, h))
four [] h = absurd (omega (arith, h))
four (a ∷ []) h = absurd (omega (arith, h))
four (a ∷ b ∷ []) h = absurd (omega (arith, h))
four (a ∷ b ∷ c ∷ []) h = absurd (omega (arith, h))

same_two : (a b c d : ℕ) → a ≡ c → b ≡ d → a ∷ b ∷ [] ≡ c ∷ d ∷ []
same_two a b c d e f = cc

pub small : (n : ℕ) → n < 256 → 0 ∷ n ∷ [] ≡ word_bytes n
small n h = same_two 0 n (n / 256) (n % 256) (omega (arith, h)) (omega (arith, h))

-- the bytes of a frame with a packet of ARP, part by part
abbrev pub parts : List ℕ → List ℕ → List ℕ → List ℕ → List ℕ → List ℕ → List ℕ
parts to operation mac own their_mac target = to ++ mac ++ word_bytes 2054 ++ (arp_begin ++ operation ++ mac ++ own ++ their_mac ++ target)

pub parts_are : (to mac own their_mac target : List ℕ) (operation : ℕ) → length to ≡ 6 → length mac ≡ 6 → length own ≡ 4
    → length their_mac ≡ 6 → length target ≡ 4 → operation < 256
    → parts (elements6 to) (0 ∷ operation ∷ []) (elements6 mac) (elements4 own) (elements6 their_mac) (elements4 target)
    ≡ parts to (word_bytes operation) mac own their_mac target
parts_are to mac own their_mac target operation a b c d e f =
    ap (λ l. parts l (0 ∷ operation ∷ []) (elements6 mac) (elements4 own) (elements6 their_mac) (elements4 target)) (six to a)
    ∙ ap (λ l. parts to l (elements6 mac) (elements4 own) (elements6 their_mac) (elements4 target)) (small operation f)
    ∙ ap (λ l. parts to (word_bytes operation) l (elements4 own) (elements6 their_mac) (elements4 target)) (six mac b)
    ∙ ap (λ l. parts to (word_bytes operation) mac l (elements6 their_mac) (elements4 target)) (four own c)
    ∙ ap (λ l. parts to (word_bytes operation) mac own l (elements4 target)) (six their_mac d)
    ∙ ap (λ l. parts to (word_bytes operation) mac own their_mac l) (four target e)

pub head_is : (to from : List ℕ) → length to ≡ 6 → length from ≡ 6 → elements6 to ++ elements6 from ++ word_bytes 2048 ≡ to ++ from ++ word_bytes 2048
head_is to from a b =
    ap (λ l. l ++ elements6 from ++ word_bytes 2048) (six to a) ∙ ap (λ l. to ++ l ++ word_bytes 2048) (six from b)

-- a datagram after the head of its frame
module _ (to from datagram : List ℕ) (a : length to ≡ 6) (b : length from ≡ 6) where
  abbrev head : List ℕ
  head = to ++ from ++ word_bytes 2048

  head_size : length head ≡ 14
  head_size = omega (arith, length-append to from, length-append (to ++ from) (word_bytes 2048), a, b)

  frame_size : 14 + length datagram ≡ length (frame_with to from 2048 datagram)
  frame_size = omega (arith, length-append head datagram, head_size)

  none_more : 0 + length datagram ≡ length datagram
  none_more = omega arith

  pub frame_is : (out prefix rest : List ℕ) → prefix ≡ head → rest ≡ written (drop 14 out) 0 datagram
      → Puts (frame_with to from 2048 datagram) (14 + length datagram) out (prefix ++ rest)
  frame_is out prefix rest e f = record {
    size = frame_size;
    there =
        ap (λ l. l ++ rest) e ∙ ap (λ l. head ++ l) (f ∙ ap (λ n. datagram ++ drop n (drop 14 out)) none_more)
        ∙ sym (append_assoc head datagram (drop (length datagram) (drop 14 out)))
        ∙ ap (λ l. head ++ datagram ++ l) (drop-drop (length datagram) 14 out ∙ ap (λ n. drop n out) (omega (arith, frame_size)));
  }

no_more : (n : ℕ) → 0 + n ≡ n
no_more n = omega arith

-- a frame after its length
pub framed_is : (head room frame new_head new_room : List ℕ) (len : ℕ) → length head ≡ 2 → new_head ≡ written head 0 (word_bytes len)
    → Puts frame len room new_room
    → take (2 + len) (new_head ++ new_room) ≡ framed frame
framed_is head room frame new_head new_room len two e p =
    let word = word_bytes len in
    let behind = drop (0 + length frame) room in
    let first : new_head ≡ word = e ∙ ap (λ l. word ++ l) (drop_all 2 head (omega (arith, two))) ∙ append-nil word in
    ap (λ l. take (2 + len) (l ++ new_room)) first ∙ ap (λ l. take (2 + len) (word ++ l)) p.there
    ∙ take-append-add word (frame ++ behind) len
    ∙ ap (λ n. word ++ take n (frame ++ behind)) p.size
    ∙ ap (λ l. word ++ l) (take-append_seam frame behind)
    ∙ ap (λ n. word_bytes n ++ frame) p.size

-- the payload of a frame in an area
pub payload_is : (area : List ℕ) (len : ℕ) → 14 ≤ len → len ≤ length area → drop 14 (take len area) ≡ take (length (take len area) - 14) (drop 14 area)
payload_is area len least fits =
    let rest : 14 + (len - 14) ≡ len = omega (arith, least) in
    let size : len - 14 ≡ length (take len area) - 14 = omega (arith, length-take-le len area fits) in
    ap (λ n. drop 14 (take n area)) (sym rest) ∙ drop-take 14 (len - 14) area ∙ ap (λ n. take n (drop 14 area)) size
