-- Pairs of sockets, compared.
use Rattle.uip_node.proofs.Prelude.{◌≡◌, Bool, true, false, ◌&&◌, refl, sym, ap, ◌∙◌, subst, eqb, bytes_eq, eq-eqb, bytes_eq-Decides}
use Rattle.uip_node.proofs.Prelude.{Sockets, same_sockets, Connection, serves}
use Rattle.tcp_machine.specs.Connection.{is_live}
use Rattle.uip_node.proofs.Basics.{and_true, both_ways, eqb-eq}

pub same_is : (a b : Sockets) → same_sockets a b ≡ true → a ≡ b
same_is a b h =
    let p = and_true (bytes_eq a.peer.0 b.peer.0) (eqb a.peer_port.0 b.peer_port.0 && eqb a.own_port.0 b.own_port.0) h in
    let q = and_true (eqb a.peer_port.0 b.peer_port.0) (eqb a.own_port.0 b.own_port.0) p.1 in
    let x : a.peer.0 ≡ b.peer.0 = (bytes_eq-Decides a.peer.0 b.peer.0).0 p.0 in
    let y : a.peer_port.0 ≡ b.peer_port.0 = eqb-eq a.peer_port.0 b.peer_port.0 q.0 in
    let z : a.own_port.0 ≡ b.own_port.0 = eqb-eq a.own_port.0 b.own_port.0 q.1 in
    ap (λ n. record a { peer = record { 0 = n } }) x
    ∙ ap (λ n. record { peer = b.peer; peer_port = record { 0 = n }; own_port = a.own_port }) y
    ∙ ap (λ n. record { peer = b.peer; peer_port = b.peer_port; own_port = record { 0 = n } }) z

both : (a b : Bool) → a ≡ true → b ≡ true → a && b ≡ true
both true b e f = f
both false b e f = absurd (cc)

pub same_self : (a : Sockets) → same_sockets a a ≡ true
same_self a = both _ _ ((bytes_eq-Decides a.peer.0 a.peer.0).1 refl) (both _ _ (eq-eqb a.peer_port.0 a.peer_port.0 refl)
    (eq-eqb a.own_port.0 a.own_port.0 refl))

pub is_same : (a b : Sockets) → a ≡ b → same_sockets a b ≡ true
is_same a b e = subst (λ x. same_sockets a x ≡ true) e (same_self a)

pub apart : (a b : Sockets) → same_sockets a b ≡ false → a ≡ b → ⊥
apart a b h e = let z : same_sockets a b ≡ true = is_same a b e in absurd (cc)

pub flip : (a b : Sockets) → same_sockets a b ≡ false → same_sockets b a ≡ false
flip a b h = both_ways (same_sockets b a) (λ e. absurd (apart a b h (sym (same_is b a e)))) (λ e. e)

and_no : (b : Bool) → b && false ≡ false
and_no true = refl
and_no false = refl

pub serves_not : (p : Sockets) (c : Connection) → same_sockets c.sockets p ≡ false → serves p c ≡ false
serves_not p c e = ap (λ b. is_live c.state && b) e ∙ and_no (is_live c.state)

pub serves_dead : (p : Sockets) (c : Connection) → is_live c.state ≡ false → serves p c ≡ false
serves_dead p c e = ap (λ b. b && same_sockets c.sockets p) e

pub serves_yes : (p : Sockets) (c : Connection) → is_live c.state ≡ true → c.sockets ≡ p → serves p c ≡ true
serves_yes p c l e = ap (λ b. b && same_sockets c.sockets p) l ∙ is_same c.sockets p e

pub not_peer : (p : Sockets) (c : Connection) → is_live c.state ≡ true → serves p c ≡ false → same_sockets c.sockets p ≡ false
not_peer p c l h = sym (ap (λ b. b && same_sockets c.sockets p) l) ∙ h
