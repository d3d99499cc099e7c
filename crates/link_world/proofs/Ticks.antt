-- An expired timer sends in that tick.
use Rattle.link_world.proofs.Prelude.{◌≡◌, ℕ, ◌+◌, ◌<◌, ◌≤◌, true, List, [], ◌∷◌, ◌++◌, length, cond, count_by, refl, sym, ap, ◌∙◌, subst}
use Rattle.link_world.proofs.Prelude.{arith, Option, Some, nat_le, ltb, if◌then◌else◌, ◌⊎◌, inl, inr, option_map_or, option_map, ident_of}
use Rattle.link_world.proofs.Prelude.{Spoke, Silent, TcpReply, list_all, is_count_by, common_steps, ages, give_up_age, tries_at, count_at}
use Rattle.link_world.proofs.Prelude.{beat_at, Timer, repeats, PlainSegment, AppSpec, Now, State, SynRcvd, Established, CloseWait, FinWait1}
use Rattle.link_world.proofs.Prelude.{Closing, LastAck, Connection, closed, tries_of, is_resting, segment_of, is_again, syn_ack}
use Rattle.link_world.proofs.Prelude.{text_segment, fin_of, leaves, asked, limit_of, outstanding, grows_older, by_beat, waits_for_ack}
use Rattle.link_world.proofs.Prelude.{ticks_established, tick_by, on_tick, Step, Event, Periodic, AbstractNode, snapshot, happened}
use Rattle.link_world.proofs.Prelude.{may_wait, IsExpired, SendsAgain, and_true, ltb-yes, index_of}
use Rattle.rexmit_timer.specs.declared.timer.Beat.TheVariants.{Again}
use Rattle.link_world.specs.Headline.{Tick}

-- how many of some ages were reached
abbrev reached : ℕ → List ℕ → ℕ
reached age [] = 0
reached age (a ∷ as') = cond (nat_le a age) (1 + reached age as') (reached age as')

reached_is : (age : ℕ) (xs : List ℕ) → reached age xs ≡ count_by (λ a. nat_le a age) xs
reached_is age xs = is_count_by (reached age) (λ a. nat_le a age) refl (λ x ys. refl) xs

le_yes : (a b : ℕ) → a ≤ b → nat_le a b ≡ true
le_yes a b h = grind (arith, common_steps)

one_more : (age a : ℕ) (more : List ℕ) → a ≤ age → reached age (a ∷ more) ≡ 1 + reached age more
one_more age a more h = ap (λ b. cond b (1 + reached age more) (reached age more)) (le_yes a age h)

le_is : (a b : ℕ) → nat_le a b ≡ true → a ≤ b
le_is a b h = grind (arith, common_steps)

-- ages up to one that has come were reached
prefix : (age limit : ℕ) (xs ys : List ℕ) → limit ≤ age → list_all (λ a. nat_le a limit) xs ≡ true → length xs ≤ reached age (xs ++ ys)
prefix age limit [] ys l h = omega arith
prefix age limit (x ∷ xs) ys l h =
    let both = and_true (nat_le x limit) (list_all (λ a. nat_le a limit) xs) h in
    omega (arith, one_more age x (xs ++ ys) (omega (arith, l, le_is x limit both.0)), prefix age limit xs ys l both.1)

-- at age 102 six were reached, and at age 249 all nine
six : (age : ℕ) → 102 ≤ age → 6 ≤ tries_at age
six age h =
    let f : 6 ≤ reached age ages = prefix age 102 (4 ∷ 8 ∷ 15 ∷ 28 ∷ 53 ∷ 102 ∷ []) (151 ∷ 200 ∷ 249 ∷ []) h refl in
    let r : reached age ages ≡ tries_at age = reached_is age ages in
    omega (arith, f, r)

nine : (age : ℕ) → 249 ≤ age → 9 ≤ tries_at age
nine age h =
    let f : 9 ≤ reached age ages = prefix age 249 ages [] h refl in
    let r : reached age ages ≡ tries_at age = reached_is age ages in
    omega (arith, f, r)

low_or_not : (a b : ℕ) → (a < b) ⊎ (b ≤ a)
low_or_not a b = grind arith

early_at : (age limit last : ℕ) → give_up_age limit ≡ last → (last ≤ age → limit < tries_at age) → tries_at age < limit → age < give_up_age limit
early_at age limit last e h t = elim (low_or_not age last) [ inl x ↦ omega (arith, x, e) | inr x ↦ absurd (let g = h x in omega (arith, g, t)) ]

early : (st : State) (age : ℕ) → tries_at age < limit_of st → age < give_up_age (limit_of st)
early SynRcvd age t = early_at age 5 102 refl (λ x. let s = six age x in omega (arith, s)) t
early _ age t = early_at age 8 249 refl (λ x. let s = nine age x in omega (arith, s)) t

limit_low : (st : State) → limit_of st ≤ 8
limit_low SynRcvd = omega arith
limit_low _ = omega arith

-- the beat of an expired timer
again_beat : (c : Connection) → IsExpired c → beat_at (limit_of c.state) (c.age + 1) ≡ Again
again_beat c x =
    let b : ltb 0 c.len ≡ true = ltb-yes c.len x.some in
    let count : count_at c.age ≡ 0 = sym (ap (λ z. if z then count_at c.age else (if is_resting c.state then c.age else 0)) b) ∙ x.count in
    let same : tries_of c ≡ tries_at c.age = ap (λ z. if z then tries_at c.age else 0) b in
    let t : tries_at c.age < limit_of c.state = (let h = x.tries in omega (arith, h, same)) in
    let timer : Timer = record { count = count_at c.age; tries = tries_at c.age } in
    sym (repeats (limit_of c.state) c.age timer (limit_low c.state) (early c.state c.age t) record { count = refl; tries = refl } count t).beat

module _ (m : AppSpec) where
  by_state : (st : State) (c : Connection) (numbers : List ℕ) → c.state ≡ st → may_wait st ≡ true → 0 < c.len → tick_by m st c numbers
      ≡ waits_for_ack m c numbers
  unfolding ticks_established
  by_state SynRcvd c numbers e w l = refl
  by_state Established c numbers e w l = ap (λ b. if b then waits_for_ack m c numbers else Rattle.tcp_machine.specs.OnTick.polls m c numbers) (ltb-yes c.len l)
  by_state CloseWait c numbers e w l = refl
  by_state FinWait1 c numbers e w l = refl
  by_state Closing c numbers e w l = refl
  by_state LastAck c numbers e w l = refl
  by_state _ c numbers e w l = absurd (cc)

  tick_is : (c : Connection) (numbers : List ℕ) → IsExpired c → on_tick m c numbers ≡ leaves (grows_older c) numbers (outstanding true c.state)
  tick_is c numbers x = by_state c.state c numbers refl x.waits x.some ∙ ap (λ b. by_beat m b c numbers) (again_beat c x)

  record Due (st : State) (d : Connection) : Type 0 where
    segment : PlainSegment
    is : segment_of m d (outstanding true st) ≡ Some segment
    again : is_again (outstanding true st) ≡ true

  due : (st : State) (d : Connection) → may_wait st ≡ true → Due st d
  due SynRcvd d w = record { segment = syn_ack d; is = refl; again = refl }
  due Established d w = record { segment = text_segment m d; is = refl; again = refl }
  due CloseWait d w = record { segment = text_segment m d; is = refl; again = refl }
  due FinWait1 d w = record { segment = fin_of d; is = refl; again = refl }
  due Closing d w = record { segment = fin_of d; is = refl; again = refl }
  due LastAck d w = record { segment = fin_of d; is = refl; again = refl }
  due _ d w = absurd (cc)

  not_asked : (st : State) (now : Connection → Now) (d : Connection) (numbers : List ℕ)
      → asked m now (leaves d numbers (outstanding true st)) ≡ leaves d numbers (outstanding true st)
  not_asked SynRcvd now d numbers = refl
  not_asked _ now d numbers = refl

  sends_it : (n : AbstractNode) (event : Event) (slot : ℕ) (c : Connection) (s : Step) (x : PlainSegment) → segment_of m (grows_older c) s
      ≡ Some x → is_again s ≡ true → segment_of m (grows_older c) (outstanding true c.state) ≡ Some x
      → SendsAgain m c (happened m n event slot c (leaves (grows_older c) n.numbers s)).sent
  unfolding happened
  sends_it n event slot c s x e a o = record {
    id = _;
    segment = x;
    sends = ap (λ (z : Option PlainSegment). option_map
        (λ t. TcpReply c.sockets (ident_of (record {
          event = event;
          answer = option_map_or (λ t. Spoke (is_again s)) (segment_of m (grows_older c) s) Silent;
        } ∷ n.history)) (is_again s) t) z) e
        ∙ ap (λ b. Some (TcpReply c.sockets (ident_of
        (record { event = event; answer = option_map_or (λ t. Spoke (is_again s)) (segment_of m (grows_older c) s) Silent } ∷ n.history)) b x)) a;
    is = o;
  }

pub tick : Tick
tick m served n slot c at x =
    let d = due m c.state (grows_older c) x.waits in
    subst (λ z. SendsAgain m c (happened m n (Periodic slot) slot z
    (asked m (snapshot n (Periodic slot) slot) (on_tick m z n.numbers))).sent) (sym (index_of n.connections slot closed c at))
    (subst (λ o. SendsAgain m c (happened m n (Periodic slot) slot c (asked m (snapshot n (Periodic slot) slot) o)).sent) (sym (tick_is m c n.numbers x))
    (subst (λ o. SendsAgain m c (happened m n (Periodic slot) slot c o).sent)
    (sym (not_asked m c.state (snapshot n (Periodic slot) slot) (grows_older c) n.numbers))
    (sends_it m n (Periodic slot) slot c (outstanding true c.state) d.segment d.is d.again d.is)))
