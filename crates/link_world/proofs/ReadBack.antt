-- The bytes of a sound datagram pass every check.
use Rattle.link_world.proofs.Prelude.{All, ◌≡◌, ℕ, ◌+◌, List, [], ◌∷◌, length, take, refl, sym, ap, ◌∙◌, arith, None, length-append}
use Rattle.link_world.proofs.Prelude.{drop_at, All-append, folded, Addr, head_bytes, payload_of, IsHeadOf, IpHead, Icmp, echo_fate}
use Rattle.link_world.proofs.Prelude.{length-head_bytes, reads_back, IsReadBack, head_of, fields_sent, Datagram, datagram_bytes, IsByte}
use Rattle.link_world.proofs.Prelude.{IsAddr, ping_from, IsWholeDatagram, IsSoundSegment, IsPlace, whole_length, datagram_back, bytes_low}
use Rattle.link_world.proofs.Prelude.{head_bytes_low, Each, each_all}

pub datagram_whole : (d : Datagram) → IsPlace d → IsSoundSegment d.segment → IsWholeDatagram (datagram_bytes d)
datagram_whole d p h =
    let b : IsReadBack d = datagram_back d p h in
    record {
      head = head_of d;
      is = b.head;
      total = sym (whole_length d p);
      passes = (fields_sent d, b.fields);
      all_bytes = bytes_low d p h;
    }

-- the message of a ping
abbrev ping : List ℕ
ping = 8 ∷ 0 ∷ 247 ∷ 253 ∷ 0 ∷ 1 ∷ 0 ∷ 1 ∷ []

request_passes : echo_fate ping ≡ None
unfolding folded
request_passes = refl

abbrev pub ping_head : Addr → Addr → IpHead
ping_head source addr = record { total = 28; proto = Icmp; source = source; target = addr }

-- what is read of a ping
pub record IsPingBack (source addr : Addr) : Type 0 where
  pub head : IsHeadOf (ping_head source addr) (ping_from source addr)
  pub long : length (ping_from source addr) ≡ 28
  pub passes : echo_fate (payload_of (ping_head source addr) (ping_from source addr)) ≡ None

pub ping_back : (source addr : Addr) → IsAddr source → IsAddr addr → IsPingBack source addr
unfolding ping_from
ping_back source addr s a =
    let n : length (head_bytes 28 1 Icmp source.0 addr.0) ≡ 20 = length-head_bytes 28 1 Icmp source.0 addr.0 s.four a.four in
    record {
      head = reads_back 28 1 Icmp source.0 addr.0 ping s.four a.four (omega arith) (omega arith);
      long = length-append (head_bytes 28 1 Icmp source.0 addr.0) ping ∙ ap (λ x. x + 8) n;
      passes = ap (λ l. echo_fate (take 8 l)) (drop_at (head_bytes 28 1 Icmp source.0 addr.0) ping 20 n) ∙ request_passes;
    }

ping_low : (source addr : Addr) → IsAddr source → IsAddr addr → All IsByte (ping_from source addr)
unfolding ping_from
ping_low source addr s a =
    let low : Each IsByte ping = (omega arith, (omega arith, (omega arith, (omega arith, (omega arith, (omega arith, (omega arith, (omega arith, tt)))))))) in
    All-append IsByte (head_bytes 28 1 Icmp source.0 addr.0) ping (head_bytes_low 28 1 Icmp source.0 addr.0 (omega arith) (omega arith)
    s.all_bytes a.all_bytes) (each_all IsByte ping low)

pub ping_whole : (source addr : Addr) → IsAddr source → IsAddr addr → IsWholeDatagram (ping_from source addr)
ping_whole source addr s a =
    let b : IsPingBack source addr = ping_back source addr s a in
    record {
      head = ping_head source addr;
      is = b.head;
      total = sym b.long;
      passes = b.passes;
      all_bytes = ping_low source addr s a;
    }
