-- If every datagram is sound, damage is a loss.
use Rattle.link_world.proofs.Prelude.{◌≡◌, ℕ, zero, suc, ◌<◌, ◌≤◌, ◌⊎◌, inl, inr, Bool, true, false, List, [], length, refl, sym, ap, subst}
use Rattle.link_world.proofs.Prelude.{arith, Option, Some, None, slice_get, ltb, if◌then◌else◌, option_map_or, option_or, Addr}
use Rattle.link_world.proofs.Prelude.{PlainSegment, AppSpec, IsAddr, datagram_to, World, Side, Sent, Content, client_sockets, OfSegment}
use Rattle.link_world.proofs.Prelude.{server_of, client_bytes, node_bytes, bytes_by, sent_bytes, changed, does, hands_over, fault_of, Act}
use Rattle.link_world.proofs.Prelude.{StepFault, NoByte, NoDatagram, Who, FromClient, FromNode, Pinger, IsAct, IsLoss, IsWholeDatagram}
use Rattle.link_world.proofs.Prelude.{ltb-lt, IsSoundSegment}
use Rattle.link_world.proofs.Doing.{damaged}
use Rattle.link_world.proofs.Harmless.{Harmless}
use Rattle.link_world.proofs.Loss.{same_world, loses}
use Rattle.link_world.proofs.Sound.{IsSoundClient}
use Rattle.link_world.proofs.SoundWorlds.{SoundSent, SoundWorld}
use Rattle.link_world.proofs.SoundWorlds.SoundSent.{of_segment, of_ping, of_echo}
use Rattle.link_world.proofs.ReadBack.{datagram_whole, ping_whole}

-- what a datagram's bytes are: whole, none at all, or meant for nobody
pub data Bytes (w : World) (who : Who) (content : Content) : Type 0 where
  wholly : IsWholeDatagram (bytes_by w who content) → Bytes w who content
  nothing : bytes_by w who content ≡ [] → Bytes w who content
  nobody : who ≡ FromNode 0 → Bytes w who content

client_whole : (id : ℕ) (s : PlainSegment) (side : Option Side) → id < 65536 → IsSoundSegment s
    → ((x : Side) → side ≡ Some x → IsSoundClient x.client) → IsWholeDatagram (option_map_or (client_bytes id s) side [])
    ⊎ (option_map_or (client_bytes id s) side [] ≡ [])
client_whole id s None l g h = inr refl
client_whole id s (Some side) l g h =
    let c : IsSoundClient side.client = h side refl in
    inl (datagram_whole (datagram_to side.client.setup.addr (server_of side.client.setup) id s)
    record {
      source = c.addr.four;
      target = c.server.four;
      source_bytes = c.addr.all_bytes;
      target_bytes = c.server.all_bytes;
      from = c.port;
      to = c.server_port;
      id = l;
    } g)

node_whole : (addr : Addr) (id : ℕ) (s : PlainSegment) (side : Option Side) → IsAddr addr → id < 65536 → IsSoundSegment s
    → ((x : Side) → side ≡ Some x → IsSoundClient x.client) → IsWholeDatagram (option_map_or (node_bytes addr id s) side [])
    ⊎ (option_map_or (node_bytes addr id s) side [] ≡ [])
node_whole addr id s None a l g h = inr refl
node_whole addr id s (Some side) a l g h =
    let c : IsSoundClient side.client = h side refl in
    inl (datagram_whole (datagram_to addr (client_sockets side) id s)
    record { source = a.four; target = c.addr.four; source_bytes = a.all_bytes; target_bytes = c.addr.all_bytes; from = c.server_port; to = c.port; id = l } g)

reported : (w : World) (who : Who) (content : Content) → IsWholeDatagram (bytes_by w who content) ⊎ (bytes_by w who content ≡ []) → Bytes w who content
reported w who content h = elim h [ inl x ↦ wholly x | inr x ↦ nothing x ]

segment_bytes_are : (w : World) (who : Who) (id : ℕ) (s : PlainSegment) → id < 65536 → IsSoundSegment s → SoundWorld w → Bytes w who (OfSegment id s)
segment_bytes_are w (FromClient zero) id s l g h = nothing refl
segment_bytes_are w (FromClient (suc n)) id s l g h = reported w (FromClient (suc n)) (OfSegment id s)
    (client_whole id s (slice_get w.sides n) l g (λ x e. h.sides n x e))
segment_bytes_are w (FromNode zero) id s l g h = nothing refl
segment_bytes_are w (FromNode (suc n)) id s l g h = reported w (FromNode (suc n)) (OfSegment id s)
    (node_whole w.node.addr id s (slice_get w.sides n) h.addr l g (λ x e. h.sides n x e))
segment_bytes_are w Pinger id s l g h = nothing refl

pub bytes_are : (w : World) (who : Who) (content : Content) → SoundWorld w → SoundSent w.node.addr who content → Bytes w who content
bytes_are w who content h s = elim s [
  | of_segment id t q l g ↦ subst (λ c. Bytes w who c) (sym q) (segment_bytes_are w who id t l g h)
  | of_ping source r q a ↦ subst (λ x. Bytes w x content) (sym r) (subst (λ c. Bytes w Pinger c) (sym q) (wholly (ping_whole source w.node.addr a h.addr)))
  | of_echo request r q ↦ nobody r
]

-- an accepted act names a byte that is there
byte_there : (full : Option StepFault) (b : Bool) → option_or (if b then None else Some NoByte) full ≡ None → b ≡ true
byte_there full true h = refl
byte_there full false h = absurd (cc)

pub not_in_nothing : (at : ℕ) (bytes : List ℕ) → bytes ≡ [] → at < length bytes → ⊥
not_in_nothing at bytes e h = let z : length bytes ≡ 0 = ap (λ (x : List ℕ). length x) e in omega (arith, z, h)

module _ (m : AppSpec) (served : ℕ → Bool) where
  handed_over : (w : World) (e : Sent) (at mask : ℕ) → at < length (sent_bytes w e) → 1 ≤ mask → mask < 256 → Bytes w e.who e.content
      → IsLoss w (hands_over m served w (changed (sent_bytes w e) at mask) e.who)
  handed_over w e at mask l a b h = elim h [
    | wholly x ↦ loses m served w e.who (sent_bytes w e) at mask x l a b
    | nothing x ↦ absurd (not_in_nothing at (sent_bytes w e) x l)
    | nobody x ↦ subst (λ who. IsLoss w (hands_over m served w (changed (sent_bytes w e) at mask) who)) (sym x) (same_world w)
  ]

  damage_loses : (w : World) (full : Option StepFault) (j at mask : ℕ) (e : Option Sent) → slice_get w.sent j ≡ e
      → option_or (option_map_or (λ d. if ltb at (length (sent_bytes w d)) then None else Some NoByte) e (Some NoDatagram)) full ≡ None
      → 1 ≤ mask → mask < 256 → SoundWorld w → IsLoss w (damaged m served w at mask e)
  damage_loses w full j at mask None x f a b h = same_world w
  damage_loses w full j at mask (Some e) x f a b h =
      handed_over w e at mask (ltb-lt at (length (sent_bytes w e)) (byte_there full (ltb at (length (sent_bytes w e))) f)) a b
      (bytes_are w e.who e.content h (h.sent j e x))

  damage_harmless : (w : World) (k at mask : ℕ) → fault_of w (Act.Damage k at mask) ≡ None → 1 ≤ mask → mask < 256 → SoundWorld w
      → IsLoss w (does m served w (Act.Damage k at mask))
  damage_harmless w zero at mask f a b h = same_world w
  damage_harmless w (suc j) at mask f a b h = damage_loses w _ j at mask (slice_get w.sent j) refl f a b h

  pub act_harmless : (w : World) (act : Act) → IsAct act → fault_of w act ≡ None → SoundWorld w → Harmless m served w act
  act_harmless w (Act.Damage k at mask) is f h = damage_harmless w k at mask f is.0 is.1 h
  act_harmless w _ is f h = tt
