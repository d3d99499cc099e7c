-- A pair keeps the laws of an application, if both of its applications do.
use Rattle.std.proofs.Common.{◌≡◌, ◌⊎◌, inl, inr, ℕ, ◌+◌, ◌≤◌, nat_lt, Bool, true, false, List, [], ◌∷◌, ◌++◌, length, map}
use Rattle.std.proofs.Common.{if◌then◌else◌, refl, sym, ap, ◌∙◌, subst, arith, length-append}
use Rattle.std.proofs.lemmas.List.{length-map, map-append}
use Rattle.std.proofs.lemmas.Bool.{le-ltb, lt-ltb}
use Rattle.app_events.specs.Prelude.{AppSpec, AppState, CanSend, Grows, IsLawful, Snapshot, StartsAnew, text_left}
use Rattle.app_events.specs.declared.now.Now.{Now}
use Rattle.app_pair.specs.PairNumbers.{own_numbers}
use Rattle.app_pair.specs.PairSpec.{CanBePaired, KeepsCaptures, StaysAtPort, after_prepare, by_port, one_of_two, own_part, own_snapshot}
use Rattle.app_pair.specs.PairSpec.{pair_spec, spec_at}
use Rattle.app_pair.specs.PairRepresents.{PairRepresents}
use Rattle.app_pair.specs.declared.pair.AppPair.{AppPair}
use Rattle.app_pair.specs.declared.pair.AppPair.TheVariants as pair

-- ---- one state

-- the laws of an application, at one state
pub record LawfulAt (m : AppSpec) (p : AppState) : Type 0 where
  pub newdata_grows : (numbers piece : List ℕ) → Grows m p (m.newdata numbers p piece).part
  pub prepare_grows : (numbers : List ℕ) (now : Now) → Grows m p (m.prepare numbers p now)
  pub acked_moves : (numbers : List ℕ) (n : ℕ) → n ≤ length (text_left m p)
      → (m.output (m.acked numbers p n).part ≡ m.output p) × ((m.acked numbers p n).part.acked ≡ p.acked + n)
  pub polled_keeps : (numbers : List ℕ)
      → (m.output (m.polled numbers p).part ≡ m.output p) × ((m.polled numbers p).part.acked ≡ p.acked)
  pub sends : (numbers : List ℕ) → CanSend (m.want numbers p) (length (text_left m p))

pub at_state : (m : AppSpec) (represented : AppState → Type 0) → IsLawful m represented → (p : AppState) → represented p → LawfulAt m p
at_state m represented lawful p s = record {
  newdata_grows = λ numbers piece. lawful.newdata_grows numbers p piece s;
  prepare_grows = λ numbers now. lawful.prepare_grows numbers p now s;
  acked_moves = λ numbers n h. lawful.acked_moves numbers p n s h;
  polled_keeps = λ numbers. lawful.polled_keeps numbers p s;
  sends = λ numbers. lawful.sends numbers p s;
}

pub at_each_state : (m : AppSpec) (represented : AppState → Type 0) → ((p : AppState) → represented p → LawfulAt m p)
    → IsLawful m represented
at_each_state m represented h = record {
  newdata_grows = λ numbers p piece s. (h p s).newdata_grows numbers piece;
  prepare_grows = λ numbers p now s. (h p s).prepare_grows numbers now;
  acked_moves = λ numbers p n s l. (h p s).acked_moves numbers n l;
  polled_keeps = λ numbers p s. (h p s).polled_keeps numbers;
  sends = λ numbers p s. (h p s).sends numbers;
}

-- ---- one of two

module _ (second : Bool) where
  -- the application sees the state that its call left
  pub sees_after : (q : AppState) (captures : List Snapshot) → q.snapshots ≡ map (own_snapshot second) captures
      → own_part second (record q { snapshots = captures }) ≡ q
  sees_after q captures e = ap (λ (l : List Snapshot). record q { snapshots = l }) (sym e)

  seen_captures : (numbers : List ℕ) (p q : AppState) (now : Now)
      → (q.snapshots ≡ (own_part second p).snapshots)
      ⊎ (q.snapshots ≡ (own_part second p).snapshots ++ record { numbers = own_numbers second numbers; now = now } ∷ [])
      → q.snapshots ≡ map (own_snapshot second) (after_prepare numbers p now q).snapshots
  seen_captures numbers p q now (inl e) =
      let more : List Snapshot = record { numbers = numbers; now = now } ∷ [] in
      let none : nat_lt (length p.snapshots) (length q.snapshots) ≡ false =
      le-ltb (length p.snapshots) (length q.snapshots)
      (omega (arith, ap (λ l. length l) e, length-map p.snapshots (own_snapshot second))) in
      e ∙ ap (λ (b : Bool). map (own_snapshot second) (if b then p.snapshots ++ more else p.snapshots)) (sym none)
  seen_captures numbers p q now (inr e) =
      let more : List Snapshot = record { numbers = numbers; now = now } ∷ [] in
      let own : List Snapshot = record { numbers = own_numbers second numbers; now = now } ∷ [] in
      let some : nat_lt (length p.snapshots) (length q.snapshots) ≡ true =
      lt-ltb (length p.snapshots) (length q.snapshots)
      (let seen : List Snapshot = map (own_snapshot second) p.snapshots in
      omega (arith, ap (λ l. length l) e, length-append seen own, length-map p.snapshots (own_snapshot second))) in
      e ∙ sym (map-append (own_snapshot second) p.snapshots more)
      ∙ ap (λ (b : Bool). map (own_snapshot second) (if b then p.snapshots ++ more else p.snapshots)) (sym some)

  module _ (m : AppSpec) (captures : KeepsCaptures m) where
    pub sees_connected : (numbers : List ℕ) (port : ℕ)
        → own_part second ((one_of_two second m).connected numbers port).part ≡ (m.connected (own_numbers second numbers) port).part
    sees_connected numbers port = sees_after _ [] (captures.connected (own_numbers second numbers) port)

    pub sees_newdata : (numbers : List ℕ) (p : AppState) (piece : List ℕ)
        → own_part second ((one_of_two second m).newdata numbers p piece).part
        ≡ (m.newdata (own_numbers second numbers) (own_part second p) piece).part
    sees_newdata numbers p piece = sees_after _ p.snapshots (captures.newdata (own_numbers second numbers) (own_part second p) piece)

    pub sees_prepare : (numbers : List ℕ) (p : AppState) (now : Now)
        → own_part second ((one_of_two second m).prepare numbers p now) ≡ m.prepare (own_numbers second numbers) (own_part second p) now
    sees_prepare numbers p now =
        let own : List ℕ = own_numbers second numbers in
        let q : AppState = m.prepare own (own_part second p) now in
        sees_after q (after_prepare numbers p now q).snapshots
        (seen_captures numbers p q now (captures.prepare own (own_part second p) now))

    pub sees_acked : (numbers : List ℕ) (p : AppState) (count : ℕ)
        → own_part second ((one_of_two second m).acked numbers p count).part
        ≡ (m.acked (own_numbers second numbers) (own_part second p) count).part
    sees_acked numbers p count = sees_after _ p.snapshots (captures.acked (own_numbers second numbers) (own_part second p) count)

    pub sees_polled : (numbers : List ℕ) (p : AppState)
        → own_part second ((one_of_two second m).polled numbers p).part ≡ (m.polled (own_numbers second numbers) (own_part second p)).part
    sees_polled numbers p = sees_after _ p.snapshots (captures.polled (own_numbers second numbers) (own_part second p))

    grows_so : (p q r : AppState) → own_part second q ≡ r → Grows m (own_part second p) r → Grows (one_of_two second m) p q
    grows_so p q r e g = record {
      text = record { rest = g.text.rest; joined = g.text.joined ∙ ap (λ (x : AppState). m.output x) (sym e) };
      offset = ap (λ (x : AppState). x.acked) e ∙ g.offset;
    }

    pub one_lawful_at : (p : AppState) → LawfulAt m (own_part second p) → LawfulAt (one_of_two second m) p
    one_lawful_at p h = record {
      newdata_grows = λ numbers piece.
          grows_so p _ _ (sees_newdata numbers p piece) (h.newdata_grows (own_numbers second numbers) piece);
      prepare_grows = λ numbers now.
          grows_so p _ _ (sees_prepare numbers p now) (h.prepare_grows (own_numbers second numbers) now);
      acked_moves = λ numbers n l.
          let both = h.acked_moves (own_numbers second numbers) n l in
          (ap (λ (x : AppState). m.output x) (sees_acked numbers p n) ∙ both.0, both.1);
      polled_keeps = λ numbers.
          let both = h.polled_keeps (own_numbers second numbers) in
          (ap (λ (x : AppState). m.output x) (sees_polled numbers p) ∙ both.0, both.1);
      sends = λ numbers. h.sends (own_numbers second numbers);
    }

    pub one_starts : StartsAnew m → StartsAnew (one_of_two second m)
    one_starts starts numbers port =
        let both = starts (own_numbers second numbers) port in
        (ap (λ (x : AppState). m.output x) (sees_connected numbers port) ∙ both.0, both.1)

  pub one_port : (m : AppSpec) → StaysAtPort m → StaysAtPort (one_of_two second m)
  one_port m port = record {
    connected = λ numbers at. port.connected (own_numbers second numbers) at;
    newdata = λ numbers p piece. port.newdata (own_numbers second numbers) (own_part second p) piece;
    prepare = λ numbers p now. port.prepare (own_numbers second numbers) (own_part second p) now;
    acked = λ numbers p count. port.acked (own_numbers second numbers) (own_part second p) count;
    polled = λ numbers p. port.polled (own_numbers second numbers) (own_part second p);
  }

-- ---- captures

-- what is seen of one of two values is what is seen of the one or of the other
pub either_branch : {A B : Type 0} (see : A → B) (x y : A) (b : Bool)
    → (see (if b then y else x) ≡ see x) ⊎ (see (if b then y else x) ≡ see y)
either_branch see x y true = inr refl
either_branch see x y false = inl refl

pub one_captures : (second : Bool) (m : AppSpec) → KeepsCaptures (one_of_two second m)
one_captures second m = record {
  connected = λ numbers port. refl;
  newdata = λ numbers p piece. refl;
  prepare = λ numbers p now.
      let q : AppState = m.prepare (own_numbers second numbers) (own_part second p) now in
      either_branch (λ (l : List Snapshot). l) p.snapshots _ (nat_lt (length p.snapshots) (length q.snapshots));
  acked = λ numbers p count. refl;
  polled = λ numbers p. refl;
}

pub by_port_captures : (at : ℕ → AppSpec) → ((port : ℕ) → KeepsCaptures (at port)) → KeepsCaptures (by_port at)
by_port_captures at keeps = record {
  connected = λ numbers port. (keeps port).connected numbers port;
  newdata = λ numbers p piece. (keeps p.port).newdata numbers p piece;
  prepare = λ numbers p now. (keeps p.port).prepare numbers p now;
  acked = λ numbers p count. (keeps p.port).acked numbers p count;
  polled = λ numbers p. (keeps p.port).polled numbers p;
}

-- ---- by port

module _ (at : ℕ → AppSpec) (keeps : (port : ℕ) → StaysAtPort (at port)) where
  -- at the same port it sends what the application of that port sends
  writes_at : (p q : AppState) → q.port ≡ p.port → (by_port at).output q ≡ (at p.port).output q
  writes_at p q e = ap (λ (port : ℕ). (at port).output q) e

  grows_at : (p q : AppState) → q.port ≡ p.port → Grows (at p.port) p q → Grows (by_port at) p q
  grows_at p q e g = record {
    text = record { rest = g.text.rest; joined = g.text.joined ∙ sym (writes_at p q e) };
    offset = g.offset;
  }

  pub by_port_lawful_at : (p : AppState) → LawfulAt (at p.port) p → LawfulAt (by_port at) p
  by_port_lawful_at p h = record {
    newdata_grows = λ numbers piece. grows_at p _ ((keeps p.port).newdata numbers p piece) (h.newdata_grows numbers piece);
    prepare_grows = λ numbers now. grows_at p _ ((keeps p.port).prepare numbers p now) (h.prepare_grows numbers now);
    acked_moves = λ numbers n l.
        let both = h.acked_moves numbers n l in (writes_at p _ ((keeps p.port).acked numbers p n) ∙ both.0, both.1);
    polled_keeps = λ numbers.
        let both = h.polled_keeps numbers in (writes_at p _ ((keeps p.port).polled numbers p) ∙ both.0, both.1);
    sends = λ numbers. h.sends numbers;
  }

  pub by_port_starts : ((port : ℕ) → StartsAnew (at port)) → StartsAnew (by_port at)
  by_port_starts starts numbers port =
      let both = starts port numbers port in (
        ap (λ (x : ℕ). (at x).output ((by_port at).connected numbers port).part) ((keeps port).connected numbers port) ∙ both.0,
        both.1,
      )

  pub by_port_keeps : StaysAtPort (by_port at)
  by_port_keeps = record {
    connected = λ numbers port. (keeps port).connected numbers port;
    newdata = λ numbers p piece. (keeps p.port).newdata numbers p piece;
    prepare = λ numbers p now. (keeps p.port).prepare numbers p now;
    acked = λ numbers p count. (keeps p.port).acked numbers p count;
    polled = λ numbers p. (keeps p.port).polled numbers p;
  }

-- ---- the pair

module _ (second : ℕ → Bool) (m n : AppSpec) where
  either : (P : AppSpec → Type 0) (b : Bool) → P (one_of_two false m) → P (one_of_two true n)
      → P (if b then one_of_two true n else one_of_two false m)
  either P true x y = y
  either P false x y = x

  -- what holds of both holds at each port
  pub at_each_port : (P : AppSpec → Type 0) → P (one_of_two false m) → P (one_of_two true n) → (port : ℕ) → P (spec_at second m n port)
  at_each_port P x y port = either P (second port) x y

  -- what holds of the application of a port holds there
  pub at_first : (P : AppSpec → Type 0) (port : ℕ) → second port ≡ false → P (one_of_two false m) → P (spec_at second m n port)
  at_first P port e x = subst (λ (b : Bool). P (if b then one_of_two true n else one_of_two false m)) (sym e) x

  pub at_second : (P : AppSpec → Type 0) (port : ℕ) → second port ≡ true → P (one_of_two true n) → P (spec_at second m n port)
  at_second P port e x = subst (λ (b : Bool). P (if b then one_of_two true n else one_of_two false m)) (sym e) x

  pub pair_port : StaysAtPort m → StaysAtPort n → (port : ℕ) → StaysAtPort (spec_at second m n port)
  pair_port x y = at_each_port StaysAtPort (one_port false m x) (one_port true n y)

  pub pair_again : StaysAtPort m → StaysAtPort n → CanBePaired (pair_spec second m n)
  pair_again x y = record {
    port = by_port_keeps (spec_at second m n) (pair_port x y);
    snapshots = by_port_captures (spec_at second m n) (at_each_port KeepsCaptures (one_captures false m) (one_captures true n));
  }

  module _ (first : CanBePaired m) (other : CanBePaired n) where
    keeps : (port : ℕ) → StaysAtPort (spec_at second m n port)
    keeps = pair_port first.port other.port

    pub pair_starts : StartsAnew m → StartsAnew n → StartsAnew (pair_spec second m n)
    pair_starts x y =
        by_port_starts (spec_at second m n) keeps
        (at_each_port StartsAnew (one_starts false m first.snapshots x) (one_starts true n other.snapshots y))

    pub pair_lawful_at_first : (p : AppState) → second p.port ≡ false → LawfulAt m (own_part false p) → LawfulAt (pair_spec second m n) p
    pair_lawful_at_first p e h =
        by_port_lawful_at (spec_at second m n) keeps p
        (at_first (λ (x : AppSpec). LawfulAt x p) p.port e (one_lawful_at false m first.snapshots p h))

    pub pair_lawful_at_second : (p : AppState) → second p.port ≡ true → LawfulAt n (own_part true p) → LawfulAt (pair_spec second m n) p
    pair_lawful_at_second p e h =
        by_port_lawful_at (spec_at second m n) keeps p
        (at_second (λ (x : AppSpec). LawfulAt x p) p.port e (one_lawful_at true n other.snapshots p h))

-- ---- the values

module _ {A B K L : Type 0} (second : ℕ → Bool) (firsts : A → K → AppState → Type 0) (seconds : B → L → AppState → Type 0)
    (m : K → AppSpec) (n : L → AppSpec) where
  pub pair_lawful : ((k : K) → CanBePaired (m k)) → ((l : L) → CanBePaired (n l)) → ((a : A) (k : K) → IsLawful (m k) (firsts a k))
      → ((b : B) (l : L) → IsLawful (n l) (seconds b l))
      → (x : AppPair A B) (k : K × L) → IsLawful (pair_spec second (m k.0) (n k.1)) (PairRepresents second firsts seconds x k)
  pair_lawful can could f s (pair.First a) k =
      at_each_state (pair_spec second (m k.0) (n k.1)) (PairRepresents second firsts seconds (pair.First a) k)
      (λ p h. pair_lawful_at_first second (m k.0) (n k.1) (can k.0) (could k.1) p h.port
      (at_state (m k.0) (firsts a k.0) (f a k.0) (own_part false p) h.own))
  pair_lawful can could f s (pair.Second b) k =
      at_each_state (pair_spec second (m k.0) (n k.1)) (PairRepresents second firsts seconds (pair.Second b) k)
      (λ p h. pair_lawful_at_second second (m k.0) (n k.1) (can k.0) (could k.1) p h.port
      (at_state (n k.1) (seconds b k.1) (s b k.1) (own_part true p) h.own))

  first_left : (k : K × L) (p : AppState) → second p.port ≡ false
      → text_left (pair_spec second (m k.0) (n k.1)) p ≡ text_left (m k.0) (own_part false p)
  first_left k p e =
      at_first second (m k.0) (n k.1) (λ (x : AppSpec). text_left x p ≡ text_left (m k.0) (own_part false p)) p.port e refl

  second_left : (k : K × L) (p : AppState) → second p.port ≡ true
      → text_left (pair_spec second (m k.0) (n k.1)) p ≡ text_left (n k.1) (own_part true p)
  second_left k p e =
      at_second second (m k.0) (n k.1) (λ (x : AppSpec). text_left x p ≡ text_left (n k.1) (own_part true p)) p.port e refl

  pub pair_same_left : ((a : A) (k : K) (p q : AppState) → firsts a k p → firsts a k q → text_left (m k) p ≡ text_left (m k) q)
      → ((b : B) (l : L) (p q : AppState) → seconds b l p → seconds b l q → text_left (n l) p ≡ text_left (n l) q)
      → (x : AppPair A B) (k : K × L) (p q : AppState)
      → PairRepresents second firsts seconds x k p → PairRepresents second firsts seconds x k q
      → text_left (pair_spec second (m k.0) (n k.1)) p ≡ text_left (pair_spec second (m k.0) (n k.1)) q
  pair_same_left f s (pair.First a) k p q g h =
      first_left k p g.port ∙ f a k.0 (own_part false p) (own_part false q) g.own h.own ∙ sym (first_left k q h.port)
  pair_same_left f s (pair.Second b) k p q g h =
      second_left k p g.port ∙ s b k.1 (own_part true p) (own_part true q) g.own h.own ∙ sym (second_left k q h.port)
