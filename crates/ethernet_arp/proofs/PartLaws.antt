-- The part after the last whole frame, after more bytes, and what these decode to.
use Rattle.ethernet_arp.proofs.Prelude.{◌≡◌, ℕ, ◌+◌, ◌-◌, ◌*◌, ◌<◌, ◌≤◌, ◌&&◌, Bool, true, false, if◌then◌else◌, min, nat_le, nat_lt, List}
use Rattle.ethernet_arp.proofs.Prelude.{[], ◌∷◌, ◌++◌, Option, length, take, drop, option_to_list, refl, sym, ap, ◌∙◌, arith, inl, inr, ◌⊎◌}
use Rattle.ethernet_arp.proofs.Prelude.{length-drop, append-nil, append_assoc, length-append, eq-eqb, ne_eqb, take-append-add}
use Rattle.ethernet_arp.proofs.Prelude.{take-append_seam, leb-false, leb-true, ltb-false, ltb-true, length-take-le, take-append-le}
use Rattle.ethernet_arp.proofs.Prelude.{take_all, written, all_decoded, closed_by, ether_medium, is_taken, is_whole, open_from, Host}
use Rattle.ethernet_arp.proofs.Prelude.{frame_brings, Holds, InFrame, TakesIn, brought_from, whole_brings, FramePart}

pub open-append : (part xs ys : List ℕ) → open_from part (xs ++ ys) ≡ open_from (open_from part xs) ys
open-append part [] ys = refl
open-append part (x ∷ xs) ys = open-append (if is_whole (part ++ x ∷ []) then [] else part ++ x ∷ []) xs ys

-- bytes after others bring what they bring after the part of these
pub brought_is : (k : Host) (before bytes : List ℕ) → all_decoded (ether_medium k) before bytes ≡ brought_from k (open_from [] before) bytes
brought_is k before [] = refl
brought_is k before (b ∷ bytes) =
    let part = open_from [] before in
    ap (λ l. closed_by k (part ++ b ∷ []) ++ l)
    (brought_is k (before ++ b ∷ []) bytes ∙ ap (λ l. brought_from k l bytes) (open-append [] before (b ∷ [])))

-- a part that is not whole yet
module _ (k : Host) where
  not_whole : (part : List ℕ) → is_whole part ≡ false → closed_by k part ≡ []
  not_whole part e = ap (λ v. if v && is_taken (drop 2 part) then frame_brings k (drop 2 part) else []) e

  open_one : (part : List ℕ) (b : ℕ) → is_whole (part ++ b ∷ []) ≡ false → open_from part (b ∷ []) ≡ part ++ b ∷ []
  open_one part b e = ap (λ v. if v then [] else part ++ b ∷ []) e

  -- the first byte of a length
  pub first_open : (b : ℕ) → open_from [] (b ∷ []) ≡ b ∷ []
  first_open b = refl

  pub first_brings : (b : ℕ) → brought_from k [] (b ∷ []) ≡ []
  first_brings b = refl

  -- the second, of a frame that is not empty
  is_long : (high low : ℕ) (frame : List ℕ) → length frame < 256 * high + low → is_whole (high ∷ low ∷ frame) ≡ false
  is_long high low frame h = ne_eqb (length frame) (256 * high + low) (λ e. omega (arith, e, h))

  pub second_open : (high low : ℕ) → 0 < 256 * high + low → open_from (high ∷ []) (low ∷ []) ≡ high ∷ low ∷ []
  second_open high low some = open_one (high ∷ []) low (is_long high low [] some)

  pub second_brings : (high low : ℕ) → 0 < 256 * high + low → brought_from k (high ∷ []) (low ∷ []) ≡ []
  second_brings high low some = append-nil (closed_by k (high ∷ low ∷ [])) ∙ not_whole (high ∷ low ∷ []) (is_long high low [] some)

  -- and of an empty one
  empty_whole : (high low : ℕ) → 256 * high + low ≡ 0 → is_whole (high ∷ low ∷ []) ≡ true
  empty_whole high low none = eq-eqb 0 (256 * high + low) (sym none)

  pub empty_open : (high low : ℕ) → 256 * high + low ≡ 0 → open_from (high ∷ []) (low ∷ []) ≡ []
  empty_open high low none = ap (λ v. if v then [] else high ∷ low ∷ []) (empty_whole high low none)

  pub empty_brings : (high low : ℕ) → brought_from k (high ∷ []) (low ∷ []) ≡ []
  empty_brings high low =
      append-nil (closed_by k (high ∷ low ∷ [])) ∙ never (is_whole (high ∷ low ∷ []))
    where
      never : (v : Bool) → (if v && false then frame_brings k [] else []) ≡ []
      never true = refl
      never false = refl

  -- fewer bytes than a frame waits for
  pub frame_open : (high low : ℕ) (frame run : List ℕ) → length frame + length run < 256 * high + low → open_from (high ∷ low ∷ frame) run
      ≡ high ∷ low ∷ (frame ++ run)
  frame_open high low frame [] h = ap (λ l. high ∷ low ∷ l) (sym (append-nil frame))
  frame_open high low frame (b ∷ run) h =
      let more = frame ++ b ∷ [] in
      let size = length-append frame (b ∷ []) in
      ap (λ v. open_from (if v then [] else high ∷ low ∷ more) run) (is_long high low more (omega (arith, h, size)))
      ∙ frame_open high low more run (omega (arith, h, size))
      ∙ ap (λ l. high ∷ low ∷ l) (append_assoc frame (b ∷ []) run)

  pub frame_nothing : (high low : ℕ) (frame run : List ℕ) → length frame + length run < 256 * high + low → brought_from k (high ∷ low ∷ frame) run ≡ []
  frame_nothing high low frame [] h = refl
  frame_nothing high low frame (b ∷ run) h =
      let more = frame ++ b ∷ [] in
      let size = length-append frame (b ∷ []) in
      let long = is_long high low more (omega (arith, h, size)) in
      ap (λ l. l ++ brought_from k (if is_whole (high ∷ low ∷ more) then [] else high ∷ low ∷ more) run) (not_whole (high ∷ low ∷ more) long)
      ∙ ap (λ v. brought_from k (if v then [] else high ∷ low ∷ more) run) long
      ∙ frame_nothing high low more run (omega (arith, h, size))

  -- as many as it waits for
  now_whole : (high low : ℕ) (frame : List ℕ) → length frame ≡ 256 * high + low → is_whole (high ∷ low ∷ frame) ≡ true
  now_whole high low frame h = eq-eqb (length frame) (256 * high + low) h

  pub frame_closed : (high low : ℕ) (frame run : List ℕ) → 0 < length run → length frame + length run ≡ 256 * high + low
      → open_from (high ∷ low ∷ frame) run ≡ []
  frame_closed high low frame [] some h = absurd (omega arith)
  frame_closed high low frame (b ∷ []) some h =
      ap (λ v. if v then [] else high ∷ low ∷ (frame ++ b ∷ [])) (now_whole high low (frame ++ b ∷ []) (omega (arith, h, length-append frame (b ∷ []))))
  frame_closed high low frame (b ∷ c ∷ run) some h =
      let more = frame ++ b ∷ [] in
      let size = length-append frame (b ∷ []) in
      ap (λ v. open_from (if v then [] else high ∷ low ∷ more) (c ∷ run)) (is_long high low more (omega (arith, h, size)))
      ∙ frame_closed high low more (c ∷ run) (omega arith) (omega (arith, h, size))

  pub frame_brought : (high low : ℕ) (frame run : List ℕ) → 0 < length run → length frame + length run ≡ 256 * high + low
      → brought_from k (high ∷ low ∷ frame) run ≡ (if is_taken (frame ++ run) then frame_brings k (frame ++ run) else [])
  frame_brought high low frame [] some h = absurd (omega arith)
  frame_brought high low frame (b ∷ []) some h =
      append-nil (closed_by k (high ∷ low ∷ (frame ++ b ∷ [])))
      ∙ ap (λ v. if v && is_taken (frame ++ b ∷ []) then frame_brings k (frame ++ b ∷ []) else [])
      (now_whole high low (frame ++ b ∷ []) (omega (arith, h, length-append frame (b ∷ []))))
  frame_brought high low frame (b ∷ c ∷ run) some h =
      let more = frame ++ b ∷ [] in
      let size = length-append frame (b ∷ []) in
      let long = is_long high low more (omega (arith, h, size)) in
      ap (λ l. l ++ brought_from k (if is_whole (high ∷ low ∷ more) then [] else high ∷ low ∷ more) (c ∷ run)) (not_whole (high ∷ low ∷ more) long)
      ∙ ap (λ v. brought_from k (if v then [] else high ∷ low ∷ more) (c ∷ run)) long
      ∙ frame_brought high low more (c ∷ run) (omega arith) (omega (arith, h, size))
      ∙ ap (λ l. if is_taken l then frame_brings k l else []) (append_assoc frame (b ∷ []) (c ∷ run))

-- what is kept of a frame
pub kept_full : (area frame bytes : List ℕ) → length area ≡ 1514 → 1514 ≤ length frame → take (length frame) area ≡ take 1514 frame
    → take (length frame + length bytes) area ≡ take 1514 (frame ++ bytes)
kept_full area frame bytes size full kept =
    take_all (length frame + length bytes) area (omega (arith, size, full))
    ∙ sym (take_all (length frame) area (omega (arith, size, full)))
    ∙ kept
    ∙ sym (take-append-le 1514 frame bytes full)

none_left : (n : ℕ) (part rest bytes : List ℕ) (m : ℕ) → part ≡ take m bytes → m ≡ min (length bytes) n → length rest ≡ n - m → n ≡ n
    → take (length bytes) (part ++ rest) ≡ take n bytes
none_left n part rest bytes m is least size same =
    elim (fits (length bytes) n) [
      | inl all ↦
          let whole : part ≡ bytes = is ∙ take_all m bytes (omega (arith, least, all)) in
          ap (λ l. take (length bytes) (l ++ rest)) whole ∙ take-append_seam bytes rest ∙ sym (take_all n bytes all)
      | inr more ↦
          let here : m ≡ n = omega (arith, least, more) in
          let none : rest ≡ [] = empty rest (omega (arith, size, here)) in
          let long : length part ≡ n = ap (λ l. length l) is ∙ length-take-le m bytes (omega (arith, here, more)) ∙ here in
          ap (λ l. take (length bytes) (part ++ l)) none ∙ ap (λ l. take (length bytes) l) (append-nil part) ∙ take_all (length bytes) part
          (omega (arith, long, more)) ∙ is ∙ ap (λ j. take j bytes) here
    ]
  where
    fits : (a b : ℕ) → (a ≤ b) ⊎ (b ≤ a)
    fits a b = elim (nat_le a b) as (λ v. nat_le a b ≡ v → (a ≤ b) ⊎ (b ≤ a)) [
      | true ↦ λ e. inl (leb-true a b e)
      | false ↦ λ e. inr (let below = leb-false a b e in omega arith)
    ] refl

    empty : (xs : List ℕ) → length xs ≡ 0 → xs ≡ []
    empty [] e = refl
    empty (x ∷ xs) e = absurd (omega (arith, e))

pub kept_more : (area frame bytes room new : List ℕ) (at m : ℕ) → length area ≡ 1514 → length frame ≡ at → at < 1514 → take at area ≡ take 1514 frame
    → room ≡ drop at area → m ≡ min (length bytes) (length room) → new ≡ take at area ++ written room 0 (take m bytes)
    → take (at + length bytes) new ≡ take 1514 (frame ++ bytes)
kept_more area frame bytes room new at m size len below kept is least made =
    let part = take m bytes in
    let fits : length room ≡ 1514 - at = ap (λ l. length l) is ∙ length-drop at area ∙ ap (λ n. n - at) size in
    let count : length part ≡ m = length-take-le m bytes (omega (arith, least)) in
    let rest = drop (0 + length part) room in
    let left : length rest ≡ (1514 - at) - m = length-drop (0 + length part) room ∙ omega (arith, fits, count, least) in
    let prefix : take at area ≡ frame = kept ∙ take_all 1514 frame (omega (arith, len, below)) in
    let room_left : length frame + (1514 - at) ≡ 1514 = omega (arith, len, below) in
    ap (λ l. take (at + length bytes) l) (made ∙ ap (λ l. l ++ (part ++ rest)) prefix)
    ∙ ap (λ n. take (n + length bytes) (frame ++ (part ++ rest))) (sym len)
    ∙ take-append-add frame (part ++ rest) (length bytes)
    ∙ ap (λ l. frame ++ l) (none_left (1514 - at) part rest bytes m refl (least ∙ ap (λ n. min (length bytes) n) fits) left refl)
    ∙ sym (take-append-add frame bytes (1514 - at))
    ∙ ap (λ n. take n (frame ++ bytes)) room_left

-- any host
abbrev no_host : Host
no_host = record { addr = []; mac = [] }

-- bytes of a frame
module _ (old new : FramePart) (run : List ℕ) (some : 0 < length run) (waits : old.len < old.size) (len : new.len ≡ old.len + length run)
    (most : new.len ≤ new.size)
    (size : new.size ≡ old.size) (high : new.high ≡ old.high)
    (keeps : (frame : List ℕ) → length frame ≡ old.len → take old.len old.area ≡ take 1514 frame → take new.len new.area ≡ take 1514 (frame ++ run)) where
  -- a frame that comes so far as to be whole, or not
  so_far : new.len < new.size → (part : List ℕ) → (p : InFrame old part) → Holds new (open_from part run)
  so_far short part p =
      let room : length p.frame + length run < 256 * p.high + p.low = (let a = p.len in let b = p.size in omega (arith, short, len, size)) in
      let opened : open_from part run ≡ p.high ∷ p.low ∷ (p.frame ++ run) = ap (λ l. open_from l run) p.is ∙ frame_open no_host p.high p.low p.frame run room in
      record {
        waiting = λ again. record {
          high = p.high;
          low = p.low;
          frame = p.frame ++ run;
          is = opened;
          size = size ∙ p.size;
          len = length-append p.frame run ∙ ap (λ n. n + length run) p.len ∙ sym len;
          kept = keeps p.frame p.len p.kept;
          none = high ∙ p.none;
        };
        between = λ over. absurd (omega arith);
      }

  all_of_it : new.size ≤ new.len → (part : List ℕ) (p : InFrame old part) → length p.frame + length run ≡ 256 * p.high + p.low
  all_of_it over part p = (let a = p.len in let b = p.size in omega (arith, over, most, len, size))

  at_end : new.size ≤ new.len → (part : List ℕ) → (p : InFrame old part) → Holds new (open_from part run)
  at_end over part p =
      let closed : open_from part run ≡ [] = ap (λ l. open_from l run) p.is ∙ frame_closed no_host p.high p.low p.frame run some (all_of_it over part p) in
      record {
        waiting = λ again. absurd (omega arith);
        between = λ again. closed ∙ ap (λ (o : Option ℕ). option_to_list o) (sym (high ∙ p.none));
      }

  taken_is : (k : Host) (frame : List ℕ) → length frame ≡ new.len → take new.len new.area ≡ take 1514 frame
      → (if is_taken frame then frame_brings k frame else []) ≡ whole_brings k new
  taken_is k frame same kept =
      ap (λ n. if nat_le 14 n && nat_le n 1514 then frame_brings k frame else []) same
      ∙ elim (nat_le new.len 1514) as (λ v. nat_le new.len 1514 ≡ v
      → (if nat_le 14 new.len && v then frame_brings k frame else []) ≡ (if nat_le 14 new.len && v then frame_brings k (take new.len new.area) else [])) [
        | true ↦ λ e.
            let fits : length frame ≤ 1514 = (let below = leb-true new.len 1514 e in omega (arith, same)) in
            ap (λ l. if nat_le 14 new.len && true then frame_brings k l else []) (sym (take_all 1514 frame fits) ∙ sym kept)
        | false ↦ λ e. never (nat_le 14 new.len)
      ] refl
    where
      never : (b : Bool) → (if b && false then frame_brings k frame else []) ≡ (if b && false then frame_brings k (take new.len new.area) else [])
      never true = refl
      never false = refl

  pub takes_in : TakesIn old new run
  takes_in = record {
    holds = λ part h. elim (either new.len new.size) [
      | inl short ↦ so_far short part (h.waiting waits)
      | inr over ↦ at_end over part (h.waiting waits)
    ];
    waits = λ short k part h.
        let p = h.waiting waits in
        ap (λ l. brought_from k l run) p.is ∙ frame_nothing k p.high p.low p.frame run (let a = p.len in let b = p.size in omega (arith, short, len, size));
    whole = λ over k part h.
        let p = h.waiting waits in
        ap (λ l. brought_from k l run) p.is ∙ frame_brought k p.high p.low p.frame run some (all_of_it over part p)
        ∙ taken_is k (p.frame ++ run) (length-append p.frame run ∙ ap (λ n. n + length run) p.len ∙ sym len) (keeps p.frame p.len p.kept);
  }
    where
      either : (a b : ℕ) → (a < b) ⊎ (b ≤ a)
      either a b = elim (nat_lt a b) as (λ v. nat_lt a b ≡ v → (a < b) ⊎ (b ≤ a)) [
        | true ↦ λ e. inl (ltb-true a b e)
        | false ↦ λ e. inr (ltb-false a b e)
      ] refl
