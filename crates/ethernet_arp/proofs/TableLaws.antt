-- A table after one more event.
use Rattle.ethernet_arp.proofs.Prelude.{add-one, ◌≡◌, ℕ, zero, suc, ◌+◌, ◌-◌, ◌<◌, ◌≤◌, ◌&&◌, ◌||◌, Bool, true, false, if◌then◌else◌, cond}
use Rattle.ethernet_arp.proofs.Prelude.{nat_lt, min, List, [], ◌∷◌, ◌++◌, Option, None, Some, length, map, take, drop, get_or, refl, sym}
use Rattle.ethernet_arp.proofs.Prelude.{ap, ◌∙◌, subst, arith, inl, inr, ◌⊎◌, find, list_any, position_or_len, option_map, slice_get}
use Rattle.ethernet_arp.proofs.Prelude.{bytes_eq, le-ltb, ltb-false, ltb-true, lt-ltb, length-map, find_at, is_position_or_len, Act}
use Rattle.ethernet_arp.proofs.Prelude.{Learning, Pair, Ticked, addresses_of, among, is_fresh, known, last_learning, taught, ticks_in}
use Rattle.ethernet_arp.proofs.Prelude.{AllRemember, AreOlder, AreOrdered, IsAlike, Knows, Remembers, aged, in_table, is_of, moved_prefix}
use Rattle.ethernet_arp.proofs.Prelude.{Arp, Entry}
use Rattle.ethernet_arp.proofs.LearningLaws.{addresses-learnt, addresses-tick, is_same, last-learnt, last-other, last-tick, mac_of}
use Rattle.ethernet_arp.proofs.LearningLaws.{not_among, not_both, on_later, or_parts, same, ticks-learnt, ticks-tick}

pub like_same : (xs : List (List ℕ)) → IsAlike xs xs
like_same xs = record { size = refl; same = λ y. refl }

like_more : (x : List ℕ) (xs ys : List (List ℕ)) → IsAlike xs ys → IsAlike (x ∷ xs) (x ∷ ys)
like_more x xs ys e = record { size = let s = e.size in omega arith; same = λ y. ap (λ v. bytes_eq x y || v) (e.same y) }

or_turn : (a b c : Bool) → (a || (b || c)) ≡ (b || (a || c))
or_turn true true c = refl
or_turn true false c = refl
or_turn false true c = refl
or_turn false false c = refl

like_turn : (x y : List ℕ) (xs ys : List (List ℕ)) → IsAlike (x ∷ xs) ys → IsAlike (x ∷ y ∷ xs) (y ∷ ys)
like_turn x y xs ys e = record {
  size = let s = e.size in omega arith;
  same = λ z. or_turn (bytes_eq x z) (bytes_eq y z) (among z xs) ∙ ap (λ v. bytes_eq y z || v) (e.same z);
}

-- an entry is not forgotten, and has this address
both : (a b : Bool) → (a && b) ≡ true → (a ≡ true) × (b ≡ true)
both true b e = (refl, e)
both false b e = absurd (cc e)

live_entry : (addr : List ℕ) (e : Entry) → is_of addr e ≡ true → (e.age < 2400) × (e.addr.0 ≡ addr)
live_entry addr e h =
    let it = both (nat_lt e.age 2400) (bytes_eq e.addr.0 addr) h in
    (ltb-true e.age 2400 it.0, is_same e.addr.0 addr it.1)

other_entry : (addr : List ℕ) (e : Entry) → e.age < 2400 → is_of addr e ≡ false → bytes_eq e.addr.0 addr ≡ false
other_entry addr e live h = ap (λ v. v && bytes_eq e.addr.0 addr) (sym (lt-ltb e.age 2400 live)) ∙ h

old_entry : (addr : List ℕ) (e : Entry) → 2400 ≤ e.age → is_of addr e ≡ false
old_entry addr e old =
    elim (is_of addr e) as (λ v. is_of addr e ≡ v → v ≡ false) [
      | true ↦ λ h. absurd (let it = (live_entry addr e h).0 in omega arith)
      | false ↦ λ h. refl
    ] refl

is_live : (age : ℕ) → (age < 2400) ⊎ (2400 ≤ age)
is_live age =
    elim (nat_lt age 2400) as (λ v. nat_lt age 2400 ≡ v → (age < 2400) ⊎ (2400 ≤ age)) [
      | true ↦ λ e. inl (ltb-true age 2400 e)
      | false ↦ λ e. inr (ltb-false age 2400 e)
    ] refl

-- if no hardware address is known, the learning is not fresh
some_none : (m : List ℕ) → Some m ≡ None → ⊥
some_none m e = cc

stale : (l : Learning) → mac_of (Some l) ≡ None → is_fresh l ≡ false
stale l e =
    elim (is_fresh l) as (λ v. (if◌then◌else◌ {A = Option (List ℕ)} v (Some l.mac) None) ≡ None → v ≡ false) [
      | true ↦ λ f. absurd (some_none l.mac f)
      | false ↦ λ f. refl
    ] e

-- and it is not after more ticks and more addresses
no_fresher : (t t' n n' : ℕ) → t ≤ t' → n ≤ n' → (nat_lt t 2400 && nat_lt n 8) ≡ false → (nat_lt t' 2400 && nat_lt n' 8) ≡ false
no_fresher t t' n n' e f h =
    elim (nat_lt t' 2400 && nat_lt n' 8) as (λ v. (nat_lt t' 2400 && nat_lt n' 8) ≡ v → v ≡ false) [
      | true ↦ λ g.
          let it = both (nat_lt t' 2400) (nat_lt n' 8) g in
          let small : n < 8 = (let s = ltb-true n' 8 it.1 in omega arith) in
          let young : t < 2400 = (let s = ltb-true t' 2400 it.0 in omega arith) in
          absurd (not_both (nat_lt t 2400 && nat_lt n 8) (ap (λ v. v && nat_lt n 8) (lt-ltb t 2400 young) ∙ lt-ltb n 8 small) h)
      | false ↦ λ g. refl
    ] refl

-- what an entry remembers, with one more learning of another address
module _ (acts : List Act) (act : Act) (pair : Pair) (is : taught act ≡ Some pair) where
  abbrev now : List Act
  now = acts ++ act ∷ []

  -- how many other addresses there are then, by whether the pair's is among them
  sized : (l : Learning) (prefix : List (List ℕ)) (b : Bool) → IsAlike (addresses_of l.later) prefix → among pair.addr prefix ≡ b
      → length (addresses_of (l.later ++ act ∷ [])) ≡ length prefix + (if b then 0 else 1)
  sized l prefix b e there =
      let one = (addresses-learnt l.later act pair is).size ∙ ap (λ v. length (addresses_of l.later) + (if v then 0 else 1)) (e.same pair.addr ∙ there) in
      let s = e.size in omega arith

  grown : (l : Learning) (prefix prefix' : List (List ℕ)) → IsAlike (addresses_of l.later) prefix → among pair.addr prefix ≡ false
      → IsAlike (pair.addr ∷ prefix) prefix'
      → IsAlike (addresses_of (l.later ++ act ∷ [])) prefix'
  grown l prefix prefix' e new f =
      record {
        size = let one = sized l prefix false e new in let t = f.size in omega arith;
        same = λ y. (addresses-learnt l.later act pair is).same y ∙ ap (λ v. v || bytes_eq pair.addr y) (e.same y)
            ∙ or_comm (among y prefix) (bytes_eq pair.addr y) ∙ f.same y;
      }
    where
      or_comm : (a b : Bool) → (a || b) ≡ (b || a)
      or_comm true true = refl
      or_comm true false = refl
      or_comm false true = refl
      or_comm false false = refl

  kept : (l : Learning) (prefix prefix' : List (List ℕ)) → IsAlike (addresses_of l.later) prefix → among pair.addr prefix ≡ true → IsAlike prefix prefix'
      → IsAlike (addresses_of (l.later ++ act ∷ [])) prefix'
  kept l prefix prefix' e old f =
      record {
        size = let one = sized l prefix true e old in let t = f.size in omega arith;
        same = λ y. (addresses-learnt l.later act pair is).same y ∙ or_known (among y (addresses_of l.later)) (bytes_eq pair.addr y)
            (λ b. ap (λ z. among z (addresses_of l.later)) (sym (is_same pair.addr y b)) ∙ e.same pair.addr ∙ old)
            ∙ e.same y ∙ f.same y;
      }
    where
      or_known : (a b : Bool) → (b ≡ true → a ≡ true) → (a || b) ≡ a
      or_known true b h = refl
      or_known false true h = sym (h refl)
      or_known false false h = refl

  abbrev later : Learning → Learning
  later l = record { mac = l.mac; later = l.later ++ act ∷ [] }

  other : (e : Entry) (prefix : List (List ℕ)) (l : Learning) → last_learning e.addr.0 acts ≡ Some l → bytes_eq pair.addr e.addr.0 ≡ false
      → last_learning e.addr.0 now ≡ Some (later l)
  other e prefix l last new = last-other e.addr.0 acts act pair is new ∙ ap (λ (o : Option Learning). on_later act o) last

  remember_new : (e : Entry) (prefix prefix' : List (List ℕ)) → bytes_eq pair.addr e.addr.0 ≡ false → among pair.addr prefix ≡ false
      → IsAlike (pair.addr ∷ prefix) prefix'
      → Remembers acts prefix e → Remembers now prefix' e
  remember_new e prefix prefix' away new f r = record {
    learning = later r.learning;
    last = other e prefix r.learning r.last away;
    mac = r.mac;
    age = ticks-learnt r.learning.later act pair is ∙ r.age;
    others = grown r.learning prefix prefix' r.others new f;
  }

  -- the entries before an entry do not have its own address
  not_own : (e : Entry) (prefix : List (List ℕ)) → among pair.addr prefix ≡ true → Remembers acts prefix e → bytes_eq pair.addr e.addr.0 ≡ false
  not_own e prefix old r =
      elim (bytes_eq pair.addr e.addr.0) as (λ v. bytes_eq pair.addr e.addr.0 ≡ v → v ≡ false) [
        | true ↦ λ h. absurd (not_both (among pair.addr prefix) old
            (sym (r.others.same pair.addr) ∙ ap (λ z. among z (addresses_of r.learning.later)) (is_same pair.addr e.addr.0 h)
            ∙ not_among e.addr.0 acts r.learning r.last))
        | false ↦ λ h. refl
      ] refl

  remember_old : (e : Entry) (prefix prefix' : List (List ℕ)) → among pair.addr prefix ≡ true → IsAlike prefix prefix'
      → Remembers acts prefix e → Remembers now prefix' e
  remember_old e prefix prefix' old f r = record {
    learning = later r.learning;
    last = other e prefix r.learning r.last (not_own e prefix old r);
    mac = r.mac;
    age = ticks-learnt r.learning.later act pair is ∙ r.age;
    others = kept r.learning prefix prefix' r.others old f;
  }

  -- entries after the one that was learnt again
  all_old : (es : List Entry) (prefix prefix' : List (List ℕ)) → among pair.addr prefix ≡ true → IsAlike prefix prefix'
      → AllRemember acts prefix es → AllRemember now prefix' es
  all_old [] prefix prefix' old f r = tt
  all_old (e ∷ es) prefix prefix' old f r = (
    λ live. remember_old e prefix prefix' old f (r.0 live),
    all_old es (e.addr.0 ∷ prefix) (e.addr.0 ∷ prefix') (or_right (bytes_eq e.addr.0 pair.addr) (among pair.addr prefix) old)
        (like_more e.addr.0 prefix prefix' f) r.1,
  )
    where
      or_right : (a b : Bool) → b ≡ true → (a || b) ≡ true
      or_right true b h = refl
      or_right false b h = h

-- the entries without that of an address, or else without the last
abbrev pub without : List ℕ → List Entry → List Entry
without addr [] = []
without addr (e ∷ []) = []
without addr (e ∷ x ∷ es) = if is_of addr e then x ∷ es else e ∷ without addr (x ∷ es)

-- no entry after a forgotten one is remembered
all_gone : (acts : List Act) (age : ℕ) (es : List Entry) (prefix : List (List ℕ)) → 2400 ≤ age → AreOlder age es → AllRemember acts prefix es
all_gone acts age [] prefix old o = tt
all_gone acts age (e ∷ es) prefix old o = (λ live. absurd (let it = o.0 in omega arith), all_gone acts age es (e.addr.0 ∷ prefix) old o.1)

length_without : (addr : List ℕ) (es : List Entry) → 0 < length es → length (without addr es) + 1 ≡ length es
length_without addr [] some = absurd (omega arith)
length_without addr (e ∷ []) some = refl
length_without addr (e ∷ x ∷ es) some =
    elim (is_of addr e) as (λ v. length (if v then x ∷ es else e ∷ without addr (x ∷ es)) + 1 ≡ length (e ∷ x ∷ es)) [
      | true ↦ omega arith
      | false ↦ let less = length_without addr (x ∷ es) (omega arith) in omega (arith, less)
    ]

one_for_one : (addr : List ℕ) (x : Entry) (es : List Entry) → length es ≡ 8 → length (x ∷ without addr es) ≡ 8
one_for_one addr x es size = let less = length_without addr es (omega (arith, size)) in omega (arith, size, less)

older_without : (addr : List ℕ) (age : ℕ) (es : List Entry) → AreOlder age es → AreOlder age (without addr es)
older_without addr age [] o = tt
older_without addr age (e ∷ []) o = tt
older_without addr age (e ∷ x ∷ es) o =
    elim (is_of addr e) as (λ v. AreOlder age (if v then x ∷ es else e ∷ without addr (x ∷ es))) [
      | true ↦ o.1
      | false ↦ (o.0, older_without addr age (x ∷ es) o.1)
    ]

ordered_without : (addr : List ℕ) (es : List Entry) → AreOrdered es → AreOrdered (without addr es)
ordered_without addr [] o = tt
ordered_without addr (e ∷ []) o = tt
ordered_without addr (e ∷ x ∷ es) o =
    elim (is_of addr e) as (λ v. AreOrdered (if v then x ∷ es else e ∷ without addr (x ∷ es))) [
      | true ↦ o.1
      | false ↦ (older_without addr e.age (x ∷ es) o.0, ordered_without addr (x ∷ es) o.1)
    ]

all_older_than_none : (es : List Entry) → AreOlder 0 es
all_older_than_none [] = tt
all_older_than_none (e ∷ es) = (omega arith, all_older_than_none es)

none_gone : (addr : List ℕ) (age : ℕ) (es : List Entry) → 2400 ≤ age → AreOlder age es → list_any (λ e. is_of addr e) es ≡ false
none_gone addr age [] old o = refl
none_gone addr age (e ∷ es) old o =
    ap (λ v. v || list_any (λ x. is_of addr x) es) (old_entry addr e (let it = o.0 in omega arith)) ∙ none_gone addr age es old o.1

module _ (acts : List Act) (act : Act) (pair : Pair) (is : taught act ≡ Some pair) where
  abbrev after : List Act
  after = acts ++ act ∷ []

  not_in : (x : List ℕ) (prefix : List (List ℕ)) → bytes_eq x pair.addr ≡ false → among pair.addr prefix ≡ false → among pair.addr (x ∷ prefix) ≡ false
  not_in x prefix e f = ap (λ v. v || among pair.addr prefix) e ∙ f

  with_newest : (x : List ℕ) (prefix : List (List ℕ)) → x ≡ pair.addr → among pair.addr (x ∷ prefix) ≡ true
  with_newest x prefix e = ap (λ l. bytes_eq l pair.addr || among pair.addr prefix) e ∙ ap (λ v. v || among pair.addr prefix) (same pair.addr)

  away_from : (e : Entry) → bytes_eq e.addr.0 pair.addr ≡ false → bytes_eq pair.addr e.addr.0 ≡ false
  away_from e h =
      elim (bytes_eq pair.addr e.addr.0) as (λ v. bytes_eq pair.addr e.addr.0 ≡ v → v ≡ false) [
        | true ↦ λ f. absurd (not_both (bytes_eq e.addr.0 pair.addr) (ap (λ l. bytes_eq e.addr.0 l) (is_same pair.addr e.addr.0 f) ∙ same e.addr.0) h)
        | false ↦ λ f. refl
      ] refl

  like_found : (x : List ℕ) (prefix prefix' : List (List ℕ)) → x ≡ pair.addr → IsAlike (pair.addr ∷ prefix) prefix' → IsAlike (x ∷ prefix) prefix'
  like_found x prefix prefix' e f = subst (λ (l : List ℕ). IsAlike (l ∷ prefix) prefix') (sym e) f

  -- the entries that stay remember the learning too
  all_learnt : (es : List Entry) (prefix prefix' : List (List ℕ)) → among pair.addr prefix ≡ false → IsAlike (pair.addr ∷ prefix) prefix'
      → AreOrdered es → AllRemember acts prefix es → AllRemember after prefix' (without pair.addr es)
  all_learnt [] prefix prefix' new f o r = tt
  all_learnt (e ∷ []) prefix prefix' new f o r = tt
  all_learnt (e ∷ x ∷ es) prefix prefix' new f o r =
      elim (is_of pair.addr e) as (λ v. is_of pair.addr e ≡ v → AllRemember after prefix' (if v then x ∷ es else e ∷ without pair.addr (x ∷ es))) [
        | true ↦ λ h.
            let here = (live_entry pair.addr e h).1 in
            all_old acts act pair is (x ∷ es) (e.addr.0 ∷ prefix) prefix' (with_newest e.addr.0 prefix here) (like_found e.addr.0 prefix prefix' here f) r.1
        | false ↦ λ h. (
          λ live. remember_new acts act pair is e prefix prefix' (away_from e (other_entry pair.addr e live h)) new f (r.0 live),
          elim (is_live e.age) [
            | inl live ↦ all_learnt (x ∷ es) (e.addr.0 ∷ prefix) (e.addr.0 ∷ prefix') (not_in e.addr.0 prefix (other_entry pair.addr e live h) new)
                (like_turn pair.addr e.addr.0 prefix prefix' f) o.1 r.1
            | inr old ↦ all_gone after e.age (without pair.addr (x ∷ es)) (e.addr.0 ∷ prefix') old (older_without pair.addr e.age (x ∷ es) o.0)
          ],
        )
      ] refl

  -- an address that was not known is not, after a learning of another
  fresh_less : (l : Learning) → is_fresh l ≡ false → is_fresh (later acts act pair is l) ≡ false
  fresh_less l e =
      let h = addresses-learnt l.later act pair is in
      let ticks = ticks-learnt l.later act pair is in
      no_fresher (ticks_in l.later) (ticks_in (l.later ++ act ∷ [])) (length (addresses_of l.later))
      (length (addresses_of (l.later ++ act ∷ []))) (omega (arith, ticks))
      (at_least (length (addresses_of l.later)) (length (addresses_of (l.later ++ act ∷ []))) (among pair.addr (addresses_of l.later)) h.size) e
    where
      at_least : (n m : ℕ) (b : Bool) → m ≡ n + (if b then 0 else 1) → n ≤ m
      at_least n m true e = omega (arith, e)
      at_least n m false e = omega (arith, e)

  mac_none : (o : Option Learning) → mac_of o ≡ None → mac_of (on_later act o) ≡ None
  mac_none None e = refl
  mac_none (Some l) e = ap (λ v. if v then Some l.mac else None) (fresh_less l (stale l e))

  still_unknown : (addr : List ℕ) → bytes_eq pair.addr addr ≡ false → known acts addr ≡ None → known after addr ≡ None
  still_unknown addr away e = ap (λ (o : Option Learning). mac_of o) (last-other addr acts act pair is away) ∙ mac_none (last_learning addr acts) e

  -- the last entry is forgotten at the eighth other address
  last_unknown : (e : Entry) (prefix : List (List ℕ)) → length prefix ≡ 7 → bytes_eq pair.addr e.addr.0 ≡ false → among pair.addr prefix
      ≡ false → Remembers acts prefix e
      → known after e.addr.0 ≡ None
  last_unknown e prefix seven away new r =
      let l = r.learning in
      let more : length (addresses_of (l.later ++ act ∷ [])) ≡ length (pair.addr ∷ prefix) =
      (grown acts act pair is l prefix (pair.addr ∷ prefix) r.others new (like_same (pair.addr ∷ prefix))).size in
      ap (λ (o : Option Learning). mac_of o) (other acts act pair is e prefix l r.last away)
      ∙ ap (λ v. if v then Some l.mac else None) (full (nat_lt (ticks_in (l.later ++ act ∷ [])) 2400)
      (length (addresses_of (l.later ++ act ∷ []))) (omega (arith, more, seven)))
    where
      full : (b : Bool) (n : ℕ) → n ≡ 8 → (b && nat_lt n 8) ≡ false
      full true n e = ap (λ m. nat_lt m 8) e
      full false n e = refl

  -- what is in no entry after a learning was in none before, or is not known
  dropped : (addr : List ℕ) (es : List Entry) (prefix : List (List ℕ)) → bytes_eq pair.addr addr ≡ false → among pair.addr prefix ≡ false
      → length prefix + length es ≡ 8
      → AreOrdered es → AllRemember acts prefix es → list_any (λ e. is_of addr e) (without pair.addr es) ≡ false
      → (list_any (λ e. is_of addr e) es ≡ false) ⊎ (known after addr ≡ None)
  dropped addr [] prefix away new size o r none = inl refl
  dropped addr (e ∷ []) prefix away new size o r none =
      elim (is_of addr e) as (λ v. is_of addr e ≡ v → ((v || false) ≡ false) ⊎ (known after addr ≡ None)) [
        | true ↦ λ h.
            let it = live_entry addr e h in
            inr (subst (λ (l : List ℕ). known after l ≡ None) it.1
            (last_unknown e prefix (omega (arith, size)) (ap (λ l. bytes_eq pair.addr l) it.1 ∙ away) new (r.0 it.0)))
        | false ↦ λ h. inl refl
      ] refl
  dropped addr (e ∷ x ∷ es) prefix away new size o r none =
      elim (is_of pair.addr e) as (λ v. is_of pair.addr e ≡ v → list_any (λ y. is_of addr y) (if v then x ∷ es else e ∷ without pair.addr (x ∷ es)) ≡ false
      → (list_any (λ y. is_of addr y) (e ∷ x ∷ es) ≡ false) ⊎ (known after addr ≡ None)) [
        | true ↦ λ h rest. inl (ap (λ v. v || list_any (λ y. is_of addr y) (x ∷ es)) (not_here e (live_entry pair.addr e h).1) ∙ rest)
        | false ↦ λ h rest.
            let parts = or_parts (is_of addr e) (list_any (λ y. is_of addr y) (without pair.addr (x ∷ es))) rest in
            elim (is_live e.age) [
              | inl live ↦ elim (dropped addr (x ∷ es) (e.addr.0 ∷ prefix) away (not_in e.addr.0 prefix (other_entry pair.addr e live h)
                  new) (omega (arith, size)) o.1 r.1 parts.1) [
                    | inl was ↦ inl (ap (λ v. v || list_any (λ y. is_of addr y) (x ∷ es)) parts.0 ∙ was)
                    | inr not ↦ inr not
                  ]
              | inr old ↦ inl (ap (λ v. v || list_any (λ y. is_of addr y) (x ∷ es)) parts.0 ∙ none_gone addr e.age (x ∷ es) old o.0)
            ]
      ] refl none
    where
      and_false : (a b : Bool) → b ≡ false → (a && b) ≡ false
      and_false true b e = e
      and_false false b e = refl

      not_here : (y : Entry) → y.addr.0 ≡ pair.addr → is_of addr y ≡ false
      not_here y here = ap (λ l. nat_lt y.age 2400 && bytes_eq l addr) here ∙ and_false (nat_lt y.age 2400) (bytes_eq pair.addr addr) away

  -- the table after a learning
  pub knows_learnt : (arp new : Arp) (entry : Entry) → entry.addr.0 ≡ pair.addr → entry.mac.0 ≡ pair.mac → entry.age ≡ 0
      → new.entries ≡ entry ∷ without pair.addr arp.entries → Knows arp acts → Knows new after
  knows_learnt arp new entry addr mac age e k =
      let table : AllRemember after (entry.addr.0 ∷ []) (without pair.addr arp.entries) =
      all_learnt arp.entries [] (entry.addr.0 ∷ []) refl (like_found pair.addr [] (entry.addr.0 ∷ []) refl
      (subst (λ (l : List ℕ). IsAlike (pair.addr ∷ []) (l ∷ [])) (sym addr) (like_same (pair.addr ∷ [])))) k.order k.entries in
      let size = k.size in
      record {
        size = ap (λ (l : List Entry). length l) e ∙ one_for_one pair.addr entry arp.entries size;
        entries = subst (λ (l : List Entry). AllRemember after [] l) (sym e) (λ live. remembered entry addr mac age, table);
        order = subst (λ (l : List Entry). AreOrdered l) (sym e) (
          subst (λ (n : ℕ). AreOlder n (without pair.addr arp.entries)) (sym age) (all_older_than_none (without pair.addr arp.entries)),
          ordered_without pair.addr arp.entries k.order,
        );
        rest = λ x none.
            let parts = or_parts (is_of x entry) (list_any (λ y. is_of x y) (without pair.addr arp.entries))
            (ap (λ (l : List Entry). list_any (λ y. is_of x y) l) (sym e) ∙ none) in
            let away : bytes_eq pair.addr x ≡ false = ap (λ l. bytes_eq l x) (sym addr) ∙ other_entry x entry (omega (arith, age)) parts.0 in
            elim (dropped x arp.entries [] away refl (omega (arith, size)) k.order k.entries parts.1) [
              | inl was ↦ still_unknown x away (k.rest x was)
              | inr not ↦ not
            ];
      }
    where
      remembered : (y : Entry) → y.addr.0 ≡ pair.addr → y.mac.0 ≡ pair.mac → y.age ≡ 0 → Remembers after [] y
      remembered y addr mac age = record {
        learning = record { mac = pair.mac; later = [] };
        last = last-learnt y.addr.0 acts act pair is (ap (λ l. bytes_eq pair.addr l) addr ∙ same pair.addr);
        mac = sym mac;
        age = sym age;
        others = like_same [];
      }

-- the place of an address's entry, or their number
abbrev place_in : List ℕ → List Entry → ℕ
place_in addr [] = 0
place_in addr (e ∷ es) = if is_of addr e then 0 else suc (place_in addr es)

place_is : (addr : List ℕ) (es : List Entry) → place_in addr es ≡ position_or_len (λ e. is_of addr e) es
place_is addr es = is_position_or_len (λ l. place_in addr l) (λ e. is_of addr e) refl (λ e l. one_more (is_of addr e) (place_in addr l)) es
  where
    one_more : (b : Bool) (n : ℕ) → (if b then 0 else suc n) ≡ (if b then 0 else 1 + n)
    one_more true n = refl
    one_more false n = omega arith

-- the table as the code moves it
moved_is : (addr : List ℕ) (es : List Entry) (p : ℕ) → 0 < length es → p ≡ min (place_in addr es) (length es - 1)
    → take p es ++ drop (suc p) es ≡ without addr es
moved_is addr [] p some e = absurd (omega arith)
moved_is addr (e ∷ []) p some h =
    let zero_is : 0 ≡ p = omega (arith, h) in
    subst (λ (n : ℕ). take n (e ∷ []) ++ drop (suc n) (e ∷ []) ≡ []) zero_is refl
moved_is addr (e ∷ x ∷ es) p some h =
    elim (is_of addr e) as (λ v. p ≡ min (if v then 0 else suc (place_in addr (x ∷ es))) (length (e ∷ x ∷ es) - 1)
    → take p (e ∷ x ∷ es) ++ drop (suc p) (e ∷ x ∷ es) ≡ (if v then x ∷ es else e ∷ without addr (x ∷ es))) [
      | true ↦ λ k.
          let zero_is : 0 ≡ p = omega (arith, k) in
          subst (λ (n : ℕ). take n (e ∷ x ∷ es) ++ drop (suc n) (e ∷ x ∷ es) ≡ x ∷ es) zero_is refl
      | false ↦ λ k.
          let q = min (place_in addr (x ∷ es)) (length (x ∷ es) - 1) in
          let next : suc q ≡ p = omega (arith, k) in
          subst (λ (n : ℕ). take n (e ∷ x ∷ es) ++ drop (suc n) (e ∷ x ∷ es) ≡ e ∷ without addr (x ∷ es)) next
          (ap (λ l. e ∷ l) (moved_is addr (x ∷ es) q (omega arith) refl))
    ] h

pub moved_prefix_is : (addr : List ℕ) (e : Entry) (es : List Entry) (p : ℕ) → length es ≡ 8 → p ≡ min (position_or_len (λ x. is_of addr x) es) 7
    → moved_prefix e p es ≡ e ∷ without addr es
moved_prefix_is addr e es p size h =
    ap (λ n. e ∷ take p es ++ drop n es) (add-one p)
    ∙ ap (λ l. e ∷ l) (moved_is addr es p (omega (arith, size)) (h ∙ ap (λ n. min n 7) (sym (place_is addr es))
    ∙ ap (λ n. min (place_in addr es) n) (omega (arith, size))))

-- what an entry has is known
tells : (acts : List Act) (e : Entry) (prefix : List (List ℕ)) → e.age < 2400 → length prefix < 8 → Remembers acts prefix e → Some e.mac.0 ≡ known acts e.addr.0
tells acts e prefix young few r =
    let l = r.learning in
    let ticks : ticks_in l.later < 2400 = (let a = r.age in omega arith) in
    let others : length (addresses_of l.later) < 8 = (let s = r.others.size in omega arith) in
    ap (λ m. Some m) (sym r.mac)
    ∙ sym (ap (λ v. if v then Some l.mac else None) (ap (λ v. v && nat_lt (length (addresses_of l.later)) 8)
    (lt-ltb (ticks_in l.later) 2400 ticks) ∙ lt-ltb (length (addresses_of l.later)) 8 others))
    ∙ sym (ap (λ (o : Option Learning). mac_of o) r.last)

found_is : (acts : List Act) (addr : List ℕ) (es : List Entry) (prefix : List (List ℕ)) (n : ℕ) (none : Entry) → length prefix + length es
    ≡ 8 → AllRemember acts prefix es
    → n ≡ place_in addr es → n < length es → Some (get_or es n none).mac.0 ≡ known acts addr
found_is acts addr [] prefix n none size r e below = absurd (omega arith)
found_is acts addr (x ∷ es) prefix n none size r e below =
    elim (is_of addr x) as (λ v. is_of addr x ≡ v → n ≡ (if v then 0 else suc (place_in addr es)) → Some (get_or (x ∷ es) n none).mac.0 ≡ known acts addr) [
      | true ↦ λ h k.
          let it = live_entry addr x h in
          subst (λ (m : ℕ). Some (get_or (x ∷ es) m none).mac.0 ≡ known acts addr) (sym k)
          (subst (λ (l : List ℕ). Some x.mac.0 ≡ known acts l) it.1 (tells acts x prefix it.0 (omega (arith, size)) (r.0 it.0)))
      | false ↦ λ h k.
          subst (λ (m : ℕ). Some (get_or (x ∷ es) m none).mac.0 ≡ known acts addr) (sym k)
          (found_is acts addr es (x.addr.0 ∷ prefix) (place_in addr es) none (omega (arith, size)) r.1 refl (omega (arith, below, k)))
    ] refl e

pub known_is : (arp : Arp) (acts : List Act) (addr : List ℕ) (n : ℕ) (none : Entry) → Knows arp acts
    → n ≡ position_or_len (λ e. is_of addr e) arp.entries → n < 8
    → Some (get_or arp.entries n none).mac.0 ≡ known acts addr
known_is arp acts addr n none k e below =
    let size = k.size in
    found_is acts addr arp.entries [] n none (omega (arith, size)) k.entries (e ∙ sym (place_is addr arp.entries)) (omega (arith, size, below))

none_found : (addr : List ℕ) (es : List Entry) → length es ≤ place_in addr es → list_any (λ e. is_of addr e) es ≡ false
none_found addr [] e = refl
none_found addr (x ∷ es) e =
    elim (is_of addr x) as (λ v. length (x ∷ es) ≤ (if v then 0 else suc (place_in addr es)) → (v || list_any (λ y. is_of addr y) es) ≡ false) [
      | true ↦ λ h. absurd (omega (arith, h))
      | false ↦ λ h. none_found addr es (omega (arith, h))
    ] e

pub unknown_is : (arp : Arp) (acts : List Act) (addr : List ℕ) (n : ℕ) → Knows arp acts → n ≡ position_or_len (λ e. is_of addr e) arp.entries → 8 ≤ n
    → None ≡ known acts addr
unknown_is arp acts addr n k e over = let size = k.size in
    sym (k.rest addr (none_found addr arp.entries (let p = place_is addr arp.entries in omega (arith, size, over, e))))

-- the table after a tick
abbrev grow : ℕ → ℕ
grow age = if nat_lt age 2400 then age + 1 else age

grow_young : (age : ℕ) → age < 2400 → grow age ≡ age + 1
grow_young age young = ap (λ v. if v then age + 1 else age) (lt-ltb age 2400 young)

grow_old : (age : ℕ) → 2400 ≤ age → grow age ≡ age
grow_old age old = ap (λ v. if v then age + 1 else age) (le-ltb age 2400 old)

grow_on : (a b : ℕ) → a ≤ b → grow a ≤ grow b
grow_on a b h =
    elim (is_live a) [
      | inl x ↦ elim (is_live b) [
        | inl y ↦ omega (arith, grow_young a x, grow_young b y)
        | inr y ↦ omega (arith, grow_young a x, grow_old b y)
      ]
      | inr x ↦ omega (arith, grow_old a x, grow_old b (omega arith))
    ]

older_aged : (age : ℕ) (es : List Entry) → AreOlder age es → AreOlder (grow age) (map aged es)
older_aged age [] o = tt
older_aged age (e ∷ es) o = (grow_on age e.age o.0, older_aged age es o.1)

ordered_aged : (es : List Entry) → AreOrdered es → AreOrdered (map aged es)
ordered_aged [] o = tt
ordered_aged (e ∷ es) o = (older_aged e.age es o.0, ordered_aged es o.1)

module _ (acts : List Act) where
  abbrev ticked : List Act
  ticked = acts ++ Ticked ∷ []

  last_ticked : (addr : List ℕ) (l : Learning) → last_learning addr acts ≡ Some l → last_learning addr ticked
      ≡ Some (record { mac = l.mac; later = l.later ++ Ticked ∷ [] })
  last_ticked addr l e = last-tick addr acts ∙ ap (λ (o : Option Learning). on_later Ticked o) e

  remember_tick : (e : Entry) (prefix : List (List ℕ)) → e.age < 2400 → Remembers acts prefix e → Remembers ticked prefix (aged e)
  remember_tick e prefix young r = record {
    learning = record { mac = r.learning.mac; later = r.learning.later ++ Ticked ∷ [] };
    last = last_ticked e.addr.0 r.learning r.last;
    mac = r.mac;
    age = ticks-tick r.learning.later ∙ ap (λ n. n + 1) r.age ∙ sym (grow_young e.age young);
    others = subst (λ (l : List (List ℕ)). IsAlike l prefix) (sym (addresses-tick r.learning.later)) r.others;
  }

  all_aged : (es : List Entry) (prefix : List (List ℕ)) → AllRemember acts prefix es → AllRemember ticked prefix (map aged es)
  all_aged [] prefix r = tt
  all_aged (e ∷ es) prefix r = (
    λ young. elim (is_live e.age) [
      | inl live ↦ remember_tick e prefix live (r.0 live)
      | inr old ↦ absurd (omega (arith, young, grow_old e.age old))
    ],
    all_aged es (e.addr.0 ∷ prefix) r.1,
  )

  mac_ticked : (o : Option Learning) → mac_of o ≡ None → mac_of (on_later Ticked o) ≡ None
  mac_ticked None e = refl
  mac_ticked (Some l) e = ap (λ v. if v then Some l.mac else None) (no_fresher (ticks_in l.later) (ticks_in (l.later ++ Ticked ∷ []))
      (length (addresses_of l.later)) (length (addresses_of (l.later ++ Ticked ∷ [])))
      (omega (arith, ticks-tick l.later)) (omega (arith, ap (λ (x : List (List ℕ)). length x) (addresses-tick l.later))) (stale l e))

  -- an entry at its last tick
  ends_unknown : (e : Entry) (prefix : List (List ℕ)) → e.age + 1 ≡ 2400 → Remembers acts prefix e → known ticked e.addr.0 ≡ None
  ends_unknown e prefix last r =
      let l = r.learning in
      let ticks : ticks_in (l.later ++ Ticked ∷ []) ≡ 2400 = ticks-tick l.later ∙ ap (λ n. n + 1) r.age ∙ last in
      ap (λ (o : Option Learning). mac_of o) (last_ticked e.addr.0 l r.last)
      ∙ ap (λ n. if nat_lt n 2400 && nat_lt (length (addresses_of (l.later ++ Ticked ∷ []))) 8 then Some l.mac else None) ticks

  lost : (addr : List ℕ) (es : List Entry) (prefix : List (List ℕ)) → AllRemember acts prefix es → list_any (λ e. is_of addr e) (map aged es) ≡ false
      → (list_any (λ e. is_of addr e) es ≡ false) ⊎ (known ticked addr ≡ None)
  lost addr [] prefix r none = inl refl
  lost addr (e ∷ es) prefix r none =
      let parts = or_parts (is_of addr (aged e)) (list_any (λ y. is_of addr y) (map aged es)) none in
      elim (is_of addr e) as (λ v. is_of addr e ≡ v → ((v || list_any (λ y. is_of addr y) es) ≡ false) ⊎ (known ticked addr ≡ None)) [
        | true ↦ λ h.
            let it = live_entry addr e h in
            inr (subst (λ (l : List ℕ). known ticked l ≡ None) it.1 (ends_unknown e prefix (at_end e it.0 it.1 parts.0) (r.0 it.0)))
        | false ↦ λ h. lost addr es (e.addr.0 ∷ prefix) r.1 parts.1
      ] refl
    where
      at_end : (y : Entry) → y.age < 2400 → y.addr.0 ≡ addr → is_of addr (aged y) ≡ false → y.age + 1 ≡ 2400
      at_end y young here gone =
          elim (is_live (y.age + 1)) [
            | inl live ↦ absurd (not_both (is_of addr (aged y))
                (ap (λ v. v && bytes_eq y.addr.0 addr) (ap (λ n. nat_lt n 2400) (grow_young y.age young) ∙ lt-ltb (y.age + 1) 2400 live)
                ∙ ap (λ l. bytes_eq l addr) here ∙ same addr) gone)
            | inr old ↦ omega arith
          ]

  pub knows_ticked : (arp new : Arp) → new.entries ≡ map aged arp.entries → Knows arp acts → Knows new ticked
  knows_ticked arp new e k = record {
    size = ap (λ (l : List Entry). length l) e ∙ length-map arp.entries aged ∙ k.size;
    entries = subst (λ (l : List Entry). AllRemember ticked [] l) (sym e) (all_aged arp.entries [] k.entries);
    order = subst (λ (l : List Entry). AreOrdered l) (sym e) (ordered_aged arp.entries k.order);
    rest = λ x none. elim (lost x arp.entries [] k.entries (ap (λ (l : List Entry). list_any (λ y. is_of x y) l) (sym e) ∙ none)) [
      | inl was ↦ ap (λ (o : Option Learning). mac_of o) (last-tick x acts) ∙ mac_ticked (last_learning x acts) (k.rest x was)
      | inr not ↦ not
    ];
  }

-- two tables with the same entries know the same
pub knows_same : (old new : Arp) (acts : List Act) → new.entries ≡ old.entries → Knows old acts → Knows new acts
knows_same old new acts e k = record {
  size = ap (λ (l : List Entry). length l) e ∙ k.size;
  entries = subst (λ (l : List Entry). AllRemember acts [] l) (sym e) k.entries;
  order = subst (λ (l : List Entry). AreOrdered l) (sym e) k.order;
  rest = λ x none. k.rest x (ap (λ (l : List Entry). list_any (λ y. is_of x y) l) (sym e) ∙ none);
}

-- what a table has of an address
first_at : (es : List Entry) (n : ℕ) (none : Entry) → n < length es → slice_get es n ≡ Some (get_or es n none)
first_at [] n none h = absurd (omega (arith, h))
first_at (e ∷ es) zero none h = refl
first_at (e ∷ es) (suc n) none h = first_at es n none (omega (arith, h))

past_end : (es : List Entry) (n : ℕ) → length es ≤ n → slice_get es n ≡ None
past_end [] n h = refl
past_end (e ∷ es) zero h = absurd (omega (arith, h))
past_end (e ∷ es) (suc n) h = past_end es n (omega (arith, h))

pub found_in : (arp : Arp) (addr : List ℕ) (n : ℕ) (none : Entry) → n ≡ position_or_len (λ e. is_of addr e) arp.entries → n < length arp.entries
    → Some (get_or arp.entries n none).mac.0 ≡ in_table arp addr
found_in arp addr n none e below =
    sym (ap (λ (o : Option Entry). option_map (λ x. x.mac.0) o)
    (find_at (λ x. is_of addr x) arp.entries ∙ ap (λ (m : ℕ). slice_get arp.entries m) (sym e) ∙ first_at arp.entries n none below))

pub none_in : (arp : Arp) (addr : List ℕ) (n : ℕ) → n ≡ position_or_len (λ e. is_of addr e) arp.entries → length arp.entries ≤ n → None ≡ in_table arp addr
none_in arp addr n e over =
    sym (ap (λ (o : Option Entry). option_map (λ x. x.mac.0) o)
    (find_at (λ x. is_of addr x) arp.entries ∙ ap (λ (m : ℕ). slice_get arp.entries m) (sym e) ∙ past_end arp.entries n over))

-- what was learnt comes first
pub learnt_is : (es : List Entry) (e : Entry) (place : ℕ) (old : List Entry) → es ≡ moved_prefix e place old → e.age ≡ 0
    → option_map (λ (x : Entry). x.mac.0) (find (λ x. is_of e.addr.0 x) es) ≡ Some e.mac.0
learnt_is es e place old is young =
    ap (λ (l : List Entry). option_map (λ (x : Entry). x.mac.0) (find (λ x. is_of e.addr.0 x) l)) is
    ∙ ap (λ (b : Bool). option_map (λ (x : Entry). x.mac.0) (cond b (Some e) (find (λ x. is_of e.addr.0 x) (take place old ++ drop (place + 1) old))))
    (ap (λ (n : ℕ). nat_lt n 2400 && bytes_eq e.addr.0 e.addr.0) young ∙ same e.addr.0)
