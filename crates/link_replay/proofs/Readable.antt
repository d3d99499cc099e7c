-- What is known of the datagrams of a world of a replay.
use Rattle.link_replay.proofs.Prelude.{◌≡◌, ℕ, zero, suc, ◌≤◌, Bool, refl, sym, subst, Some, length, slice_get, List, Addr}
use Rattle.link_replay.proofs.Prelude.{LARGEST_DATAGRAM, AppSpec, bytes_by, sent_bytes, World, Sent, Content, numbered, OfSegment, OfPing}
use Rattle.link_replay.proofs.Prelude.{OfEcho, Who, FromClient, FromNode, Pinger, IsRead, IsSentBy, bytes_are_read, reached_sound}
use Rattle.link_replay.proofs.Prelude.{sent_to_clients, SoundWorld, IsAt, IsLink, Link, CodeSent}
use Rattle.link_replay.proofs.Reaching.{reached_at}

bytes_mark : (w : World) (k : ℕ) (who : Who) (content : Content) → bytes_by (record w { mark = k }) who content ≡ bytes_by w who content
bytes_mark w k (FromClient n) (OfSegment id s) = refl
bytes_mark w k (FromNode n) (OfSegment id s) = refl
bytes_mark w k Pinger (OfSegment id s) = refl
bytes_mark w k (FromClient n) (OfPing datagram) = refl
bytes_mark w k (FromNode n) (OfPing datagram) = refl
bytes_mark w k Pinger (OfPing datagram) = refl
bytes_mark w k (FromClient n) (OfEcho request) = refl
bytes_mark w k (FromNode n) (OfEcho request) = refl
bytes_mark w k Pinger (OfEcho request) = refl

read_mark : (w : World) (k : ℕ) (who : Who) (content : Content) (bytes : List ℕ) → IsRead (record w { mark = k }) who content bytes → IsRead w who content bytes
read_mark w k (FromClient n) (OfSegment id s) bytes h = h
read_mark w k (FromNode n) (OfSegment id s) bytes h = h
read_mark w k Pinger (OfPing datagram) bytes h = h
read_mark w k Pinger (OfSegment id s) bytes h = tt
read_mark w k (FromClient n) (OfPing datagram) bytes h = tt
read_mark w k (FromNode n) (OfPing datagram) bytes h = tt
read_mark w k (FromClient n) (OfEcho request) bytes h = tt
read_mark w k (FromNode n) (OfEcho request) bytes h = tt
read_mark w k Pinger (OfEcho request) bytes h = tt

module _ (m : AppSpec) (served : ℕ → Bool) (w : World) (h : IsAt m served w) where
  pub read_at : (n : ℕ) (e : Sent) → slice_get w.sent n ≡ Some e → IsRead w e.who e.content (sent_bytes w e)
  read_at n e g =
      let r = bytes_are_read m h.pages h.lawful h.bytes (record w { mark = 0 }) (reached_at m served w h) n e g in
      subst (λ b. IsRead w e.who e.content b) (bytes_mark w 0 e.who e.content) (read_mark w 0 e.who e.content (sent_bytes (record w { mark = 0 }) e) r.0)

  pub sent_at : (n : ℕ) (e : Sent) → slice_get w.sent n ≡ Some e → IsSentBy w.sides e.who e.content
  sent_at n e g = sent_to_clients m h.pages h.lawful (record w { mark = 0 }) (reached_at m served w h) n e g

  pub sound_at : SoundWorld w
  sound_at = let s = reached_sound m h.pages h.lawful h.bytes (record w { mark = 0 }) (reached_at m served w h) in
      record { addr = s.addr; conns = s.conns; sides = s.sides; sent = s.sent }

-- a datagram that was read fits the largest one
pub sent_fits : (addr : Addr) (link : Link) (number : ℕ) (x : CodeSent) → Some x ≡ numbered link.sent number → IsLink addr link
    → length x.bytes ≤ LARGEST_DATAGRAM
sent_fits addr link zero x h kept = absurd (cc)
sent_fits addr link (suc n) x h kept = kept.sizes n x (sym h)
