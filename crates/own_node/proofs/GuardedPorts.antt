-- The lens of a guard leaves the port of a datagram as it is.
use Rattle.own_node.proofs.Prelude.{◌≡◌, ◌∙◌, ℕ, ◌≤◌, ◌<◌, ◌==◌, ◌+◌, ◌++◌, Bool, true, false, List, drop, length, length-append}
use Rattle.own_node.proofs.Prelude.{length-drop, length-take, take, Option, Some, None, refl, sym, arith, and_parts, if◌then◌else◌}
use Rattle.own_node.proofs.Prelude.{get_or-take, is_open_port, Arrived, EchoAsked, IcmpRefused, IpRefused, Overlong, Periodic, TcpRefused}
use Rattle.own_node.proofs.Prelude.{Event, Addr}
use Rattle.std.proofs.lemmas.Grind.{common_steps}
use Rattle.std.proofs.lemmas.List.{get_or_append_left}
use Rattle.std.specs.Prelude.{nat_le, slice_index}
use Rattle.uip_wire.specs.Prelude.{long_at, long_bytes, word_at, word_bytes, written}
use Rattle.uip_node.specs.Prelude.{event_of}
use Rattle.segment_guard.specs.Lens.{adjusted, inward, with_number}
use Rattle.sip_hash.specs.declared.key.Key.{Key}
use Rattle.guarded_node.specs.Wire.{arriving, is_tcp}
use Rattle.own_node.specs.Ports.{is_for_closed_port}
use Rattle.own_node.proofs.OpenPorts.{IsAt, IsTo, bytes_to, event_at}

kept_at : (bytes part : List ℕ) (at i : ℕ) → i < at → at ≤ length bytes → slice_index (written bytes at part) i ≡ slice_index bytes i
kept_at bytes part at i low long =
    let size = length-take at bytes in
    get_or_append_left (take at bytes ++ part) (drop (at + length part) bytes) 0 i (omega (arith, low, long, size, length-append (take at bytes) part))
    ∙ (get_or_append_left (take at bytes) part 0 i (omega (arith, low, long, size)) ∙ get_or-take at bytes i 0 low)

same_length : (bytes part : List ℕ) (at : ℕ) → at + length part ≤ length bytes → length (written bytes at part) ≡ length bytes
same_length bytes part at room =
    omega (
      arith,
      room,
      length-append (take at bytes ++ part) (drop (at + length part) bytes),
      length-append (take at bytes) part,
      length-take at bytes,
      length-drop (at + length part) bytes,
    )

-- what the port of a segment is read from
record SamePort (old new : List ℕ) : Type 0 where
  long : length new ≡ length old
  each : (i : ℕ) → i < 24 → slice_index new i ≡ slice_index old i

number_same : (bytes : List ℕ) (number : ℕ) → 40 ≤ length bytes → SamePort bytes (with_number bytes 28 number)
unfolding with_number
number_same bytes number long =
    let check : ℕ = adjusted (word_at bytes 36) (long_at bytes 28) number in
    let sum : List ℕ = written bytes 36 (word_bytes check) in
    let first : length sum ≡ length bytes = same_length bytes (word_bytes check) 36 (omega (arith, long)) in
    record {
      long = same_length sum (long_bytes number) 28 (omega (arith, long, first)) ∙ first;
      each = λ i low. kept_at sum (long_bytes number) 28 i (omega (arith, low)) (omega (arith, long, first))
          ∙ kept_at bytes (word_bytes check) 36 i (omega (arith, low)) (omega (arith, long));
    }

long_enough : (a b : ℕ) → nat_le a b ≡ true → a ≤ b
long_enough a b h = grind (arith, common_steps)

arriving_same : (key : Option Key) (wire : List ℕ) → SamePort wire (arriving key wire)
unfolding arriving
arriving_same None wire = record { long = refl; each = λ i low. refl }
arriving_same (Some key) wire = by (is_tcp wire) refl
  where
    by : (b : Bool) → is_tcp wire ≡ b → SamePort wire (if b then inward key wire else wire)
    by true e = number_same wire _ (long_enough 40 (length wire) (and_parts (nat_le 40 (length wire)) (slice_index wire 9 == 6) e).0)
    by false e = record { long = refl; each = λ i low. refl }

same_to : (old new : List ℕ) (event : Event) → SamePort old new → IsTo new event → IsTo old event
same_to old new (Arrived p s) same it = (
  omega (arith, it.0, same.long),
  sym (same.each 0 (omega arith)) ∙ it.1,
  sym (same.each 9 (omega arith)) ∙ it.2,
  it.3 ∙ (let high = same.each 22 (omega arith) in let low = same.each 23 (omega arith) in omega (arith, high, low)),
)
same_to old new (IpRefused fate) same it = tt
same_to old new (IcmpRefused fate) same it = tt
same_to old new (TcpRefused fate) same it = tt
same_to old new (EchoAsked datagram) same it = tt
same_to old new Overlong same it = tt
same_to old new (Periodic slot) same it = tt

-- the event of a frame that is not dropped, as a guarded node has it
pub arriving_at : (key : Option Key) (own : Addr) (ports frame : List ℕ) → word_at frame 12 ≡ 2048 → is_for_closed_port ports frame ≡ false
    → IsAt (is_open_port ports) (event_of own (arriving key (drop 14 frame)))
arriving_at key own ports frame kind kept =
    let wire : List ℕ = arriving key (drop 14 frame) in
    event_at ports frame (event_of own wire) kind kept (same_to (drop 14 frame) wire (event_of own wire) (arriving_same key (drop 14 frame))
    (bytes_to own wire))
