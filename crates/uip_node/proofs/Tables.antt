-- A connection of a table changes.
use Rattle.uip_node.proofs.Prelude.{ℕ, ◌≡◌, ◌<◌, ◌&&◌, ◌==◌, Bool, true, false, zero, suc, List, [], ◌∷◌, length, Some, ◌⊎◌, inl, inr, refl}
use Rattle.uip_node.proofs.Prelude.{sym, ap, ◌∙◌, subst, length-set, get_or, slice_get, slice_set, bytes_eq, and_from, and_parts, eq-eqb}
use Rattle.uip_node.proofs.Prelude.{eqb-true, slice_get-get_or, bytes_eq-Decides, is_live, Addr, Port, Conn, Connections, IsTable, is_at}
use Rattle.uip_node.proofs.Prelude.{SameSockets}

-- the element at an index after a write
pub get_after_set : {X : Type 0} (xs : List X) (i j : ℕ) (d x : X) → slice_get (slice_set xs i d) j ≡ Some x → ((i ≡ j) × (x ≡ d)) ⊎ (slice_get xs j ≡ Some x)
get_after_set [] i j d x h = inr h
get_after_set (c ∷ cs) zero zero d x h = inl (refl, cc)
get_after_set (c ∷ cs) zero (suc j) d x h = inr h
get_after_set (c ∷ cs) (suc i) zero d x h = inr h
get_after_set (c ∷ cs) (suc i) (suc j) d x h = elim (get_after_set cs i j d x h) [ inl e ↦ inl (ap suc e.0, e.1) | inr k ↦ inr k ]

pub get_set_same : {X : Type 0} (xs : List X) (i : ℕ) (x y : X) → slice_get (slice_set xs i x) i ≡ Some y → y ≡ x
get_set_same [] i x y h = cc
get_set_same (z ∷ xs) zero x y h = cc
get_set_same (z ∷ xs) (suc i) x y h = get_set_same xs i x y h

-- what is read at an index is there
pub at_place : {X : Type 0} (xs ys : List X) (i : ℕ) (x : X) → xs ≡ ys → i < length ys → x ≡ get_or xs i x → slice_get ys i ≡ Some x
at_place {X} xs ys i x e l h =
    subst (λ (zs : List X). i < length zs → slice_get zs i ≡ Some x) e (λ m. slice_get-get_or xs i x m ∙ ap (λ (y : X). Some y) (sym h)) l

-- the connection that was read in a slot is there in the lists that the table is seen as, and in its own
pub at_viewed : {A : Type 0} (inside view : Connections A) (slot : ℕ) (c : Conn A) → inside ≡ view → slot < length view.conns
    → c ≡ get_or inside.conns slot c → slice_get view.conns slot ≡ Some c
at_viewed {A} inside view slot c e l h = at_place inside.conns view.conns slot c (ap (λ (t : Connections A). t.conns) e) l h

pub at_inside : {A : Type 0} (inside view : Connections A) (slot : ℕ) (c : Conn A) → inside ≡ view → slot < length view.conns
    → c ≡ get_or inside.conns slot c → slice_get inside.conns slot ≡ Some c
at_inside {A} inside view slot c e l h = subst (λ (t : Connections A). slice_get t.conns slot ≡ Some c) (sym e) (at_viewed inside view slot c e l h)

abbrev pub has_sockets : {A : Type 0} → Addr → Port → Port → Conn A → Bool
has_sockets peer peer_port own_port c = bytes_eq c.peer.0 peer.0 && ((c.peer_port.0 == peer_port.0) && (c.own_port.0 == own_port.0))

same_sockets : {A : Type 0} (c d : Conn A) (peer : Addr) (peer_port own_port : Port) → SameSockets c d → has_sockets peer peer_port own_port
    d ≡ has_sockets peer peer_port own_port c
same_sockets c d peer peer_port own_port same =
    ap (λ (a : Addr). bytes_eq a.0 peer.0 && ((d.peer_port.0 == peer_port.0) && (d.own_port.0 == own_port.0))) same.peer
    ∙ (ap (λ (p : Port). bytes_eq c.peer.0 peer.0 && ((p.0 == peer_port.0) && (d.own_port.0 == own_port.0))) same.peer_port
    ∙ ap (λ (p : Port). bytes_eq c.peer.0 peer.0 && ((c.peer_port.0 == peer_port.0) && (p.0 == own_port.0))) same.own_port)

-- the test of sockets looks at the sockets alone, and at whether the connection lives
at_same : {A : Type 0} (c d : Conn A) (peer : Addr) (peer_port own_port : Port) → SameSockets c d → is_live c.state ≡ true
    → is_at peer peer_port own_port d ≡ true → is_at peer peer_port own_port c ≡ true
at_same c d peer peer_port own_port same live h =
    and_from (is_live c.state) (has_sockets peer peer_port own_port c) live
    (sym (same_sockets c d peer peer_port own_port same) ∙ (and_parts (is_live d.state) (has_sockets peer peer_port own_port d) h).1)

at_renamed : {A : Type 0} (c d x : Conn A) → SameSockets c d → is_at d.peer d.peer_port d.own_port x ≡ true → is_at c.peer c.peer_port c.own_port x ≡ true
at_renamed c d x same h =
    let e : is_at d.peer d.peer_port d.own_port x ≡ is_at c.peer c.peer_port c.own_port x =
    ap (λ (a : Addr). is_at a d.peer_port d.own_port x) same.peer
    ∙ (ap (λ (p : Port). is_at c.peer p d.own_port x) same.peer_port ∙ ap (λ (p : Port). is_at c.peer c.peer_port p x) same.own_port) in
    sym e ∙ h

-- a connection that keeps its sockets at its place leaves a table
pub table_keeps : {A : Type 0} (cs : List (Conn A)) (i : ℕ) (c d : Conn A) → IsTable cs → slice_get cs i ≡ Some c → is_live c.state ≡ true
    → SameSockets c d → IsTable (slice_set cs i d)
table_keeps {A} cs i c d t at live same = record {
  ten = length-set cs i d ∙ t.ten;
  distinct = λ a b x y ha hb alive there.
      elim (get_after_set cs i a d x ha) [
        | inl p ↦ elim (get_after_set cs i b d y hb) [
          | inl q ↦ sym p.0 ∙ q.0
          | inr q ↦ sym p.0 ∙ t.distinct i b c y at q alive
              (at_same c x y.peer y.peer_port y.own_port (subst (λ (z : Conn A). SameSockets c z) (sym p.1) same) live there)
        ]
        | inr p ↦ elim (get_after_set cs i b d y hb) [
          | inl q ↦ t.distinct a i x c p at live (at_renamed c d x same (subst (λ (z : Conn A). is_at z.peer z.peer_port z.own_port x ≡ true) q.1 there)) ∙ q.0
          | inr q ↦ t.distinct a b x y p q alive there
        ]
      ];
}

no : (b : Bool) → b ≡ true → b ≡ false → ⊥
no true e f = cc
no false e f = cc

at_swapped : {A : Type 0} (d y : Conn A) → is_live y.state ≡ true → is_at y.peer y.peer_port y.own_port d ≡ true → is_at d.peer d.peer_port d.own_port y ≡ true
at_swapped d y live h =
    let p = (and_parts (is_live d.state) (has_sockets y.peer y.peer_port y.own_port d) h).1 in
    let q = and_parts (bytes_eq d.peer.0 y.peer.0) ((d.peer_port.0 == y.peer_port.0) && (d.own_port.0 == y.own_port.0)) p in
    let r = and_parts (d.peer_port.0 == y.peer_port.0) (d.own_port.0 == y.own_port.0) q.1 in
    and_from (is_live y.state) (has_sockets d.peer d.peer_port d.own_port y) live
    (and_from (bytes_eq y.peer.0 d.peer.0) ((y.peer_port.0 == d.peer_port.0) && (y.own_port.0 == d.own_port.0))
    ((bytes_eq-Decides y.peer.0 d.peer.0).1 (sym ((bytes_eq-Decides d.peer.0 y.peer.0).0 q.0)))
    (and_from (y.peer_port.0 == d.peer_port.0) (y.own_port.0 == d.own_port.0)
    (eq-eqb y.peer_port.0 d.peer_port.0 (sym (eqb-true d.peer_port.0 y.peer_port.0 r.0)))
    (eq-eqb y.own_port.0 d.own_port.0 (sym (eqb-true d.own_port.0 y.own_port.0 r.1)))))

-- a connection whose sockets no other has leaves a table
pub table_opens : {A : Type 0} (cs : List (Conn A)) (i : ℕ) (d : Conn A) → IsTable cs →
    ((j : ℕ) (c : Conn A) → slice_get cs j ≡ Some c → is_at d.peer d.peer_port d.own_port c ≡ false) → is_live d.state ≡ true → IsTable (slice_set cs i d)
table_opens {A} cs i d t none live = record {
  ten = length-set cs i d ∙ t.ten;
  distinct = λ a b x y ha hb alive there.
      elim (get_after_set cs i a d x ha) [
        | inl p ↦ elim (get_after_set cs i b d y hb) [
          | inl q ↦ sym p.0 ∙ q.0
          | inr q ↦ absurd (no (is_at d.peer d.peer_port d.own_port y)
              (at_swapped d y alive (subst (λ (z : Conn A). is_at y.peer y.peer_port y.own_port z ≡ true) p.1 there)) (none b y q))
        ]
        | inr p ↦ elim (get_after_set cs i b d y hb) [
          | inl q ↦ absurd (no (is_at d.peer d.peer_port d.own_port x) (subst (λ (z : Conn A). is_at z.peer z.peer_port z.own_port x ≡ true)
              q.1 there) (none a x p))
          | inr q ↦ t.distinct a b x y p q alive there
        ]
      ];
}
