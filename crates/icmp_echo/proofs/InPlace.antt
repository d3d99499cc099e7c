-- A reply that is made in place.
use Rattle.icmp_echo.proofs.Prelude.{◌≡◌, ℕ, ◌-◌, ◌≤◌, List, [], ◌++◌, length, take, drop, slice_range, refl, sym, ap, ◌∙◌, arith}
use Rattle.icmp_echo.proofs.Prelude.{append-nil, length-append, length-take, length-drop, take_rest, drop_all, drop-drop, drop-take}
use Rattle.icmp_echo.proofs.Prelude.{take-take, take_at, drop_at, echo_message, echo_reply}
use borrow.Rule.Slice.PartMut.{put_mid}

abbrev pub exchanged : List ℕ → List ℕ
exchanged d = take 12 d ++ slice_range d 16 20 ++ slice_range d 12 16

length-exchanged : (d : List ℕ) → 28 ≤ length d → length (exchanged d) ≡ 20
length-exchanged d h =
    omega (
      arith,
      length-append (take 12 d ++ slice_range d 16 20) (slice_range d 12 16),
      length-append (take 12 d) (slice_range d 16 20),
      length-take 12 d,
      length-take 4 (drop 16 d),
      length-take 4 (drop 12 d),
      length-drop 16 d,
      length-drop 12 d,
    )

-- the message after the header stays
pub message_kept : (d ex : List ℕ) → 28 ≤ length d → ex ≡ exchanged d ++ drop 20 d → take (length ex - 20) (drop 20 ex) ≡ drop 20 d
message_kept d ex long e =
    take_rest ex 20 ∙ ap (λ l. drop 20 l) e ∙ drop_at (exchanged d) (drop 20 d) 20 (length-exchanged d long)

pub made_in_place : (d ex message : List ℕ) → 28 ≤ length d → ex ≡ exchanged d ++ drop 20 d
    → message ≡ echo_message (drop 4 (take (length ex - 20) (drop 20 ex)))
    → put_mid 20 (length ex - 20) ex message ≡ echo_reply d
made_in_place d ex message long e m =
    let head : length (exchanged d) ≡ 20 = length-exchanged d long in
    let prefix : take 20 ex ≡ exchanged d = ap (λ l. take 20 l) e ∙ take_at (exchanged d) (drop 20 d) 20 head in
    let part : take (length ex - 20) (drop 20 ex) ≡ drop 20 d = message_kept d ex long e in
    let none : drop (length ex - 20) (drop 20 ex) ≡ [] = drop_all (length ex - 20) (drop 20 ex) (omega (arith, length-drop 20 ex)) in
    let message_is : message ≡ echo_message (drop 24 d) =
    m ∙ ap (λ l. echo_message (drop 4 l)) part ∙ ap echo_message (drop-drop 4 20 d) in
    rw (prefix, none, append-nil, message_is) refl

-- the message of a datagram that is shorter than what was received
pub message_received : (area : List ℕ) (len total : ℕ) → 20 ≤ total → total ≤ len
    → drop 20 (take total area) ≡ take (total - 20) (drop 20 (take len area))
message_received area len total least most =
    ap (λ (n : ℕ). drop 20 (take n area)) (omega arith) ∙ drop-take 20 (total - 20) area
    ∙ sym (take-take (total - 20) (len - 20) (drop 20 area) (omega arith))
    ∙ ap (λ l. take (total - 20) l) (sym (drop-take 20 (len - 20) area) ∙ ap (λ (n : ℕ). drop 20 (take n area)) (omega arith))
