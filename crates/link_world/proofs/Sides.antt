-- What the world's acts do to the sides, step by step.
use Rattle.link_world.proofs.Prelude.{◌≡◌, ℕ, zero, suc, ◌+◌, Bool, true, false, not, ◌&&◌, List, [], ◌∷◌, ◌++◌, set, refl, sym, ap, ◌∙◌}
use Rattle.link_world.proofs.Prelude.{arith, Option, Some, None, is_none, slice_get, if◌then◌else◌, Sockets, Connection, same_sockets, Side}
use Rattle.link_world.proofs.Prelude.{Sent, client_sockets, retires, retires_in, addressed, past_connection_of, marked, is_clean, epoch}
use Rattle.link_world.proofs.Prelude.{option_or, both_ways, choose, eqb-eq, get_map, get_set, here, there, same_is, is_same}

abbrev pub Apart : List Side → Type 0
Apart sides = (j k : ℕ) (a b : Side) → slice_get sides j ≡ Some a → slice_get sides k ≡ Some b → client_sockets a ≡ client_sockets b → j ≡ k

-- the side after the node's step
abbrev pub buried : Option Connection → Side → Side
buried None side = side
buried (Some g) side = retires_in g side

pub record Buried (gone : Option Connection) (sides : List Side) (k : ℕ) (new : Side) : Type 0 where
  pub from : Side
  pub get : slice_get sides k ≡ Some from
  pub is : buried gone from ≡ new

pub get_buried : (gone : Option Connection) (sides : List Side) (k : ℕ) (new : Side) → slice_get (retires gone sides) k ≡ Some new → Buried gone sides k new
get_buried None sides k new h = record { from = new; get = h; is = refl }
get_buried (Some g) sides k new h = let m = get_map (retires_in g) sides k new h in record { from = m.from; get = m.get; is = m.is }

pub buried_sockets : (gone : Option Connection) (side : Side) → client_sockets (buried gone side) ≡ client_sockets side
buried_sockets None side = refl
buried_sockets (Some g) side = choose (λ (x : Side). client_sockets x ≡ client_sockets side) (same_sockets g.sockets (client_sockets side))
    _ _ (λ e. refl) (λ e. refl)

pub record Addressed (at : ℕ) (peer : Sockets) (k : ℕ) (sides : List Side) : Type 0 where
  pub index : ℕ
  pub is : suc k ≡ at + index
  pub side : Side
  pub get : slice_get sides index ≡ Some side
  pub same : peer ≡ client_sockets side

pub addressed_is : (at : ℕ) (peer : Sockets) (k : ℕ) (sides : List Side) → addressed at peer sides ≡ suc k → Addressed at peer k sides
addressed_is at peer k [] h = absurd (omega (arith, h))
addressed_is at peer k (s ∷ ss) h =
    both_ways (same_sockets peer (client_sockets s))
    (λ e. let z : at ≡ suc k = sym (ap (λ b. if b then at else addressed (at + 1) peer ss) e) ∙ h in
    record { index = 0; is = omega (arith, z); side = s; get = refl; same = same_is peer (client_sockets s) e })
    (λ e. let z : addressed (at + 1) peer ss ≡ suc k = sym (ap (λ b. if b then at else addressed (at + 1) peer ss) e) ∙ h in
    let r = addressed_is (at + 1) peer k ss z in
    record { index = suc r.index; is = omega (arith, r.is); side = r.side; get = r.get; same = r.same })

pub gone_is : (a b x : Bool) → a ≡ true → b ≡ x → (c : Connection) → (if a && not b then Some c else None) ≡ (if not x then Some c else None)
gone_is a b x e f c = ap (λ y. if y && not b then Some c else None) e ∙ ap (λ y. if not y then Some c else None) f

pub buried_here : (g : Connection) (side : Side) → g.sockets ≡ client_sockets side
    → retires_in g side ≡ record side { history = side.history ++ past_connection_of g ∷ [] }
buried_here g side e = ap (λ b. if b then record side { history = side.history ++ past_connection_of g ∷ [] } else side)
    (is_same g.sockets (client_sockets side) e)

pub buried_elsewhere : (g : Connection) (side : Side) → same_sockets g.sockets (client_sockets side) ≡ false → retires_in g side ≡ side
buried_elsewhere g side e = ap (λ b. if b then record side { history = side.history ++ past_connection_of g ∷ [] } else side) e

pub put_apart : (sides : List Side) (n : ℕ) (side new : Side) → slice_get sides n ≡ Some side → client_sockets new ≡ client_sockets side
    → Apart sides → Apart (set sides n new)
put_apart sides n side new at q h j k a b x y p =
    elim (get_set sides n new j a x) [
      | here e f ↦ elim (get_set sides n new k b y) [
        | here e' f' ↦ e ∙ sym e'
        | there m z ↦ absurd (m (sym (h n k side b at z (sym q ∙ ap (λ (o : Side). client_sockets o) f ∙ p))))
      ]
      | there m z ↦ elim (get_set sides n new k b y) [
        | here e' f' ↦ absurd (m (h j n a side z at (p ∙ ap (λ (o : Side). client_sockets o) (sym f') ∙ q)))
        | there m' z' ↦ h j k a b z z' p
      ]
    ]

none_both : (a : Option ℕ) (b : Bool) (n : ℕ) → is_none (option_or a (if b then None else Some n)) ≡ true → (is_none a ≡ true) × (b ≡ true)
none_both None true n h = (refl, refl)
none_both None false n h = absurd (cc)
none_both (Some x) b n h = absurd (cc)

-- a client that is clean after a delivery was clean before, and the datagram was not stale
pub clean_before : (side : Side) (n : ℕ) (e : Sent) → is_clean (marked side n e) ≡ true → (is_clean side ≡ true) × (e.epoch ≡ epoch side)
clean_before side n e h = let p = none_both side.first_stale _ n h in (p.0, eqb-eq e.epoch (epoch side) p.1)

-- a client is addressed, though maybe not the only one with these sockets
pub record FindsOne (at : ℕ) (peer : Sockets) (sides : List Side) : Type 0 where
  pub index : ℕ
  pub is : addressed at peer sides ≡ at + index
  pub side : Side
  pub get : slice_get sides index ≡ Some side
  pub same : peer ≡ client_sockets side

pub finds_one : (at : ℕ) (peer : Sockets) (k : ℕ) (side : Side) (sides : List Side) → slice_get sides k ≡ Some side
    → peer ≡ client_sockets side → FindsOne at peer sides
finds_one at peer k side [] h e = absurd (cc)
finds_one at peer k side (s ∷ ss) h e =
    both_ways (same_sockets peer (client_sockets s))
    (λ b. record {
      index = 0;
      is = ap (λ b. if b then at else addressed (at + 1) peer ss) b ∙ omega arith;
      side = s;
      get = refl;
      same = same_is peer (client_sockets s) b;
    })
    (λ b. finds_later at peer k side s ss h e b (λ j z. finds_one (at + 1) peer j side ss z e))
  where
    finds_later : (at : ℕ) (peer : Sockets) (k : ℕ) (side s : Side) (ss : List Side) → slice_get (s ∷ ss) k ≡ Some side
        → peer ≡ client_sockets side → same_sockets peer (client_sockets s) ≡ false
        → ((j : ℕ) → slice_get ss j ≡ Some side → FindsOne (at + 1) peer ss) → FindsOne at peer (s ∷ ss)
    finds_later at peer zero side s ss h e b f = absurd (let z : s ≡ side = cc in let y : same_sockets peer (client_sockets s)
        ≡ true = is_same peer (client_sockets s) (e ∙ ap (λ o. client_sockets o) (sym z)) in cc)
    finds_later at peer (suc j) side s ss h e b f = (let r = f j h in
        record {
          index = suc r.index;
          is = ap (λ b. if b then at else addressed (at + 1) peer ss) b ∙ r.is ∙ omega arith;
          side = r.side;
          get = r.get;
          same = r.same;
        })

-- the client whose sockets a datagram has is addressed
pub addressed_finds : (peer : Sockets) (k : ℕ) (side : Side) (sides : List Side) → Apart sides → slice_get sides k ≡ Some side
    → peer ≡ client_sockets side → addressed 1 peer sides ≡ suc k
addressed_finds peer k side sides a h e =
    let r = finds_one 1 peer k side sides h e in
    let i : r.index ≡ k = a r.index k r.side side r.get h (sym r.same ∙ e) in
    r.is ∙ omega (arith, i)
