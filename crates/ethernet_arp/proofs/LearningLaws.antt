-- The last learning of an address after one more event.
use Rattle.ethernet_arp.proofs.Prelude.{◌≡◌, ℕ, ◌+◌, ◌||◌, Bool, true, false, if◌then◌else◌, List, [], ◌∷◌, ◌++◌, Option, None, Some}
use Rattle.ethernet_arp.proofs.Prelude.{length, refl, sym, ap, ◌∙◌, subst, arith, ⊤, option_and_then, option_or, bytes_eq, bytes_eq-Decides}
use Rattle.ethernet_arp.proofs.Prelude.{Act, Asked, Learning, Pair, Replied, Ticked, addresses_of, among, is_fresh, last_learning}
use Rattle.ethernet_arp.proofs.Prelude.{learning_by, taught, ticks_in, with_one}

-- the hardware address of a learning that is fresh
abbrev pub mac_of : Option Learning → Option (List ℕ)
mac_of learning = option_and_then (λ l. if is_fresh l then Some l.mac else None) learning

-- bytes that are equal
pub is_same : (xs ys : List ℕ) → bytes_eq xs ys ≡ true → xs ≡ ys
is_same xs ys e = (bytes_eq-Decides xs ys).0 e

pub same : (xs : List ℕ) → bytes_eq xs xs ≡ true
same xs = (bytes_eq-Decides xs xs).1 refl

pub not_both : (b : Bool) → b ≡ true → b ≡ false → ⊥
not_both b e f = cc

other_way : (xs ys : List ℕ) → bytes_eq xs ys ≡ false → bytes_eq ys xs ≡ false
other_way xs ys e =
    elim (bytes_eq ys xs) as (λ v. bytes_eq ys xs ≡ v → v ≡ false) [
      | true ↦ λ f. absurd (not_both (bytes_eq xs ys) (subst (λ (l : List ℕ). bytes_eq xs l ≡ true) (sym (is_same ys xs f)) (same xs)) e)
      | false ↦ λ f. refl
    ] refl

-- a learning with one more event after it
abbrev pub on_later : Act → Option Learning → Option Learning
on_later act None = None
on_later act (Some l) = Some (record { mac = l.mac; later = l.later ++ act ∷ [] })

later_none : (x : Option Learning) → option_or x None ≡ x
later_none None = refl
later_none (Some l) = refl

by_more : (addr : List ℕ) (pair : Option Pair) (acts : List Act) (act : Act)
    → learning_by addr pair (acts ++ act ∷ []) ≡ on_later act (learning_by addr pair acts)
by_more addr None acts act = refl
by_more addr (Some pair) acts act =
    elim (bytes_eq pair.addr addr) as (λ v. (if v then Some (record { mac = pair.mac; later = acts ++ act ∷ [] }) else None)
    ≡ on_later act (if v then Some (record { mac = pair.mac; later = acts }) else None)) [
      | true ↦ refl
      | false ↦ refl
    ]

later_more : (n l b : Option Learning) (act : Act) → option_or (option_or n (on_later act l)) (on_later act b) ≡ option_or n (on_later act (option_or l b))
later_more (Some x) l b act = refl
later_more None (Some y) b act = refl
later_more None None b act = refl

pub last-more : (addr : List ℕ) (acts : List Act) (act : Act)
    → last_learning addr (acts ++ act ∷ []) ≡ option_or (learning_by addr (taught act) []) (on_later act (last_learning addr acts))
last-more addr [] act = sym (later_none (learning_by addr (taught act) []))
last-more addr (x ∷ acts) act =
    let new = learning_by addr (taught act) [] in
    let old = last_learning addr acts in
    let first = learning_by addr (taught x) acts in
    ap (λ (l : Option Learning). option_or l (learning_by addr (taught x) (acts ++ act ∷ []))) (last-more addr acts act)
    ∙ ap (λ (l : Option Learning). option_or (option_or new (on_later act old)) l) (by_more addr (taught x) acts act)
    ∙ later_more new old first act

-- ticks after one more event
pub ticks-tick : (acts : List Act) → ticks_in (acts ++ Ticked ∷ []) ≡ ticks_in acts + 1
ticks-tick [] = refl
ticks-tick (Ticked ∷ acts) = ap (λ n. n + 1) (ticks-tick acts)
ticks-tick (Asked pair ∷ acts) = ticks-tick acts
ticks-tick (Replied pair ∷ acts) = ticks-tick acts

ticks_none : (act : Act) (pair : Pair) → taught act ≡ Some pair → ticks_in (act ∷ []) ≡ 0
ticks_none (Asked p) pair e = refl
ticks_none (Replied p) pair e = refl
ticks_none Ticked pair e = absurd (cc e)

pub ticks-learnt : (acts : List Act) (act : Act) (pair : Pair) → taught act ≡ Some pair → ticks_in (acts ++ act ∷ []) ≡ ticks_in acts
ticks-learnt [] act pair e = ticks_none act pair e
ticks-learnt (Ticked ∷ acts) act pair e = ap (λ n. n + 1) (ticks-learnt acts act pair e)
ticks-learnt (Asked p ∷ acts) act pair e = ticks-learnt acts act pair e
ticks-learnt (Replied p ∷ acts) act pair e = ticks-learnt acts act pair e

-- addresses after one more event
pub addresses-tick : (acts : List Act) → addresses_of (acts ++ Ticked ∷ []) ≡ addresses_of acts
addresses-tick [] = refl
addresses-tick (x ∷ acts) = ap (λ l. with_one (taught x) l) (addresses-tick acts)

-- these are those and one more, if that is not among them
pub record HasMore (more some : List (List ℕ)) (addr : List ℕ) : Type 0 where
  pub size : length more ≡ length some + (if among addr some then 0 else 1)
  pub same : (y : List ℕ) → among y more ≡ (among y some || bytes_eq addr y)

or_swap : (a b c : Bool) → (a || (b || c)) ≡ ((a || b) || c)
or_swap true b c = refl
or_swap false b c = refl

or_same : (a b : Bool) → (b || a) ≡ ((a || b) || a)
or_same true true = refl
or_same true false = refl
or_same false true = refl
or_same false false = refl

or_false : (a : Bool) → (a || false) ≡ a
or_false true = refl
or_false false = refl

pub or_parts : (a b : Bool) → (a || b) ≡ false → (a ≡ false) × (b ≡ false)
or_parts true b e = absurd (cc e)
or_parts false b e = (refl, e)

among_same : (addr other : List ℕ) (some : List (List ℕ)) → bytes_eq addr other ≡ true → among addr some ≡ among other some
among_same addr other some e = ap (λ l. among l some) (is_same addr other e)

grown : (x : List ℕ) (more some : List (List ℕ)) (a b : Bool) → b ≡ false → length more ≡ length some + (if a then 0 else 1)
    → length (x ∷ more) ≡ length (x ∷ some) + (if b || a then 0 else 1)
grown x more some a true e h = absurd (cc e)
grown x more some true false e h = omega (arith, h)
grown x more some false false e h = omega (arith, h)

not_grown : (x : List ℕ) (more some : List (List ℕ)) (a b : Bool) → a ≡ false → b ≡ true → length more ≡ length some + (if a then 0 else 1)
    → length more ≡ length (x ∷ some) + (if b || a then 0 else 1)
not_grown x more some true b e f h = absurd (cc e)
not_grown x more some false true e f h = omega (arith, h)
not_grown x more some false false e f h = absurd (cc f)

more_one : (x addr : List ℕ) (more some : List (List ℕ)) → HasMore more some addr
    → HasMore (if among x more then more else x ∷ more) (if among x some then some else x ∷ some) addr
more_one x addr more some h =
    elim (among x some) as (λ v. among x some ≡ v → HasMore (if among x more then more else x ∷ more) (if v then some else x ∷ some) addr) [
      | true ↦ λ e.
          let m : among x more ≡ true = h.same x ∙ ap (λ v. v || bytes_eq addr x) e in
          subst (λ (v : Bool). HasMore (if v then more else x ∷ more) some addr) (sym m) h
      | false ↦ λ e.
          let m : among x more ≡ bytes_eq addr x = h.same x ∙ ap (λ v. v || bytes_eq addr x) e in
          elim (bytes_eq addr x) as (λ v. bytes_eq addr x ≡ v → HasMore (if among x more then more else x ∷ more) (x ∷ some) addr) [
            | true ↦ λ f.
                let one : among addr some ≡ false = among_same addr x some f ∙ e in
                let is : x ≡ addr = sym (is_same addr x f) in
                subst (λ (v : Bool). HasMore (if v then more else x ∷ more) (x ∷ some) addr) (sym (m ∙ f)) (record {
                  size = not_grown x more some (among addr some) (bytes_eq x addr) one (subst (λ (l : List ℕ). bytes_eq l addr ≡ true)
                      (sym is) (same addr)) h.size;
                  same = λ y. h.same y ∙ subst (λ (l : List ℕ). (among y some || bytes_eq addr y)
                      ≡ ((bytes_eq l y || among y some) || bytes_eq addr y)) (sym is) (or_same (bytes_eq addr y) (among y some));
                })
            | false ↦ λ f.
                subst (λ (v : Bool). HasMore (if v then more else x ∷ more) (x ∷ some) addr) (sym (m ∙ f)) (record {
                  size = grown x more some (among addr some) (bytes_eq x addr) (other_way addr x f) h.size;
                  same = λ y. ap (λ v. bytes_eq x y || v) (h.same y) ∙ or_swap (bytes_eq x y) (among y some) (bytes_eq addr y);
                })
          ] refl
    ] refl

with_more : (pair : Option Pair) (addr : List ℕ) (more some : List (List ℕ)) → HasMore more some addr → HasMore (with_one pair more) (with_one pair some) addr
with_more None addr more some h = h
with_more (Some pair) addr more some h = more_one pair.addr addr more some h

first_one : (act : Act) (pair : Pair) → taught act ≡ Some pair → HasMore (addresses_of (act ∷ [])) [] pair.addr
first_one act pair e = subst (λ (p : Option Pair). HasMore (with_one p []) [] pair.addr) (sym e)
    (record { size = refl; same = λ y. or_false (bytes_eq pair.addr y) })

pub addresses-learnt : (acts : List Act) (act : Act) (pair : Pair) → taught act ≡ Some pair
    → HasMore (addresses_of (acts ++ act ∷ [])) (addresses_of acts) pair.addr
addresses-learnt [] act pair e = first_one act pair e
addresses-learnt (x ∷ acts) act pair e = with_more (taught x) pair.addr _ _ (addresses-learnt acts act pair e)

-- the last learning of an address after an event that taught a pair
abbrev by_pair : List ℕ → List Act → Act → Option Pair → Option Learning
by_pair addr acts act pair = option_or (learning_by addr pair []) (on_later act (last_learning addr acts))

pub last-learnt : (addr : List ℕ) (acts : List Act) (act : Act) (pair : Pair) → taught act ≡ Some pair → bytes_eq pair.addr addr ≡ true
    → last_learning addr (acts ++ act ∷ []) ≡ Some (record { mac = pair.mac; later = [] })
last-learnt addr acts act pair e is =
    last-more addr acts act ∙ ap (λ (p : Option Pair). by_pair addr acts act p) e
    ∙ ap (λ v. option_or (if v then Some (record { mac = pair.mac; later = [] }) else None) (on_later act (last_learning addr acts))) is

pub last-other : (addr : List ℕ) (acts : List Act) (act : Act) (pair : Pair) → taught act ≡ Some pair → bytes_eq pair.addr addr ≡ false
    → last_learning addr (acts ++ act ∷ []) ≡ on_later act (last_learning addr acts)
last-other addr acts act pair e other =
    last-more addr acts act ∙ ap (λ (p : Option Pair). by_pair addr acts act p) e
    ∙ ap (λ v. option_or (if v then Some (record { mac = pair.mac; later = [] }) else None) (on_later act (last_learning addr acts))) other

pub last-tick : (addr : List ℕ) (acts : List Act) → last_learning addr (acts ++ Ticked ∷ []) ≡ on_later Ticked (last_learning addr acts)
last-tick addr acts = last-more addr acts Ticked

both_none : (x y : Option Learning) → option_or x y ≡ None → (x ≡ None) × (y ≡ None)
both_none None y e = (refl, e)
both_none (Some l) y e = absurd (cc e)

none_is : (l : Learning) → Some l ≡ None → ⊥
none_is l e = cc

abbrev IsOther : List ℕ → Option Pair → Type 0
IsOther addr None = ⊤
IsOther addr (Some pair) = bytes_eq pair.addr addr ≡ false

not_by : (addr : List ℕ) (pair : Option Pair) (acts : List Act) → learning_by addr pair acts ≡ None → IsOther addr pair
not_by addr None acts e = tt
not_by addr (Some pair) acts e =
    elim (bytes_eq pair.addr addr) as (λ v. (if◌then◌else◌ {A = Option Learning} v (Some (record { mac = pair.mac; later = acts })) None) ≡ None → v ≡ false) [
      | true ↦ λ f. absurd (none_is (record { mac = pair.mac; later = acts }) f)
      | false ↦ λ f. refl
    ] e

not_with : (addr : List ℕ) (pair : Option Pair) (some : List (List ℕ)) → among addr some ≡ false → IsOther addr pair → among addr (with_one pair some) ≡ false
not_with addr None some e f = e
not_with addr (Some pair) some e f =
    elim (among pair.addr some) as (λ v. among addr (if v then some else pair.addr ∷ some) ≡ false) [
      | true ↦ e
      | false ↦ ap (λ v. v || among addr some) f ∙ e
    ]

-- an address that was never learnt is not among those learnt
pub not_later : (addr : List ℕ) (acts : List Act) → last_learning addr acts ≡ None → among addr (addresses_of acts) ≡ false
not_later addr [] e = refl
not_later addr (x ∷ acts) e =
    let none = both_none (last_learning addr acts) (learning_by addr (taught x) acts) e in
    not_with addr (taught x) (addresses_of acts) (not_later addr acts none.0) (not_by addr (taught x) acts none.1)

some_same : (k l : Learning) → Some k ≡ Some l → k ≡ l
some_same k l e = cc

later_is : (mac : List ℕ) (acts : List Act) (l : Learning) → Some (record { mac = mac; later = acts }) ≡ Some l → acts ≡ l.later
later_is mac acts l e = ap (λ (m : Learning). m.later) (some_same _ _ e)

by_later : (addr : List ℕ) (pair : Option Pair) (acts : List Act) (l : Learning) → learning_by addr pair acts ≡ Some l → l.later ≡ acts
by_later addr None acts l e = absurd (cc e)
by_later addr (Some pair) acts l e =
    elim (bytes_eq pair.addr addr) as (λ v. (if v then Some (record { mac = pair.mac; later = acts }) else None) ≡ Some l → l.later ≡ acts) [
      | true ↦ λ f. sym (later_is pair.mac acts l f)
      | false ↦ λ f. absurd (none_is l (sym f))
    ] e

found_later : (addr : List ℕ) (x y : Option Learning) (acts : List Act) (l : Learning)
    → ((m : Learning) → last_learning addr acts ≡ Some m → among addr (addresses_of m.later) ≡ false)
    → (last_learning addr acts ≡ None → among addr (addresses_of acts) ≡ false)
    → ((m : Learning) → y ≡ Some m → m.later ≡ acts)
    → x ≡ last_learning addr acts → option_or x y ≡ Some l → among addr (addresses_of l.later) ≡ false
found_later addr (Some m) y acts l some none by is e = some l (sym is ∙ e)
found_later addr None y acts l some none by is e = ap (λ (a : List Act). among addr (addresses_of a)) (by l e) ∙ none (sym is)

-- after the last learning of an address there is no other of it
pub not_among : (addr : List ℕ) (acts : List Act) (l : Learning) → last_learning addr acts ≡ Some l → among addr (addresses_of l.later) ≡ false
not_among addr [] l e = absurd (cc e)
not_among addr (x ∷ acts) l e = found_later addr (last_learning addr acts) (learning_by addr (taught x) acts) acts l
    (λ m f. not_among addr acts m f) (λ f. not_later addr acts f) (by_later addr (taught x) acts) refl e
