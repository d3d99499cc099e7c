-- What the node receives consists of bytes, if what came does.
use Rattle.std.proofs.Common.{ℕ, ◌+◌, ◌-◌, ◌/◌, ◌%◌, ◌<◌, Bool, true, false, All, List, [], ◌∷◌, ◌++◌, take, drop, Option, Some, None}
use Rattle.std.proofs.Common.{if◌then◌else◌, arith}
use Rattle.std.specs.Prelude.{length}
use Rattle.std.proofs.lemmas.List.Elements.{All-append, All-cons, All-drop, All-nil, All-take}
use Rattle.uip_wire.specs.Prelude.{long_at, long_bytes, word_at, word_bytes, wrap, written}
use Rattle.app_events.specs.Prelude.{IsByte}
use Rattle.sip_hash.specs.declared.key.Key.{Key}
use Rattle.uip_node.proofs.Basics.{wrap_low}
use Rattle.segment_guard.specs.Lens.{adjusted, arriving_shift, inward, with_number}
use Rattle.guarded_node.specs.Wire.{arriving, is_tcp}

word_low : (n : ℕ) → n < 65536 → All IsByte (word_bytes n)
word_low n h = All-cons IsByte (n / 256) (n % 256 ∷ []) (omega (arith, h)) (All-cons IsByte (n % 256) [] (omega arith) (All-nil IsByte))

long_low : (n : ℕ) → n < 4294967296 → All IsByte (long_bytes n)
long_low n h = All-append IsByte (word_bytes (n / 65536)) (word_bytes (n % 65536)) (word_low (n / 65536) (omega (arith, h)))
    (word_low (n % 65536) (omega arith))

written_low : (bytes : List ℕ) (at : ℕ) (part : List ℕ) → All IsByte bytes → All IsByte part → All IsByte (written bytes at part)
written_low bytes at part h p =
    All-append IsByte (take at bytes ++ part) (drop (at + length part) bytes)
    (All-append IsByte (take at bytes) part (All-take IsByte at bytes h) p) (All-drop IsByte (at + length part) bytes h)

number_low : (bytes : List ℕ) (at number : ℕ) → All IsByte bytes → number < 4294967296 → All IsByte (with_number bytes at number)
unfolding with_number
number_low bytes at number h low =
    let sum : ℕ = adjusted (word_at bytes 36) (long_at bytes at) number in
    let fits : sum < 65536 = omega arith in
    written_low (written bytes 36 (word_bytes sum)) at (long_bytes number) (written_low bytes 36 (word_bytes sum) h (word_low sum fits)) (long_low number low)

by_kind : (b : Bool) (changed bytes : List ℕ) → All IsByte changed → All IsByte bytes → All IsByte (if b then changed else bytes)
by_kind true changed bytes c h = c
by_kind false changed bytes c h = h

pub arriving_low : (key : Option Key) (bytes : List ℕ) → All IsByte bytes → All IsByte (arriving key bytes)
unfolding arriving
arriving_low None bytes h = h
arriving_low (Some key) bytes h =
    let number : ℕ = wrap (long_at bytes 28 + (4294967296 - arriving_shift key bytes)) in
    by_kind (is_tcp bytes) (inward key bytes) bytes (number_low bytes 28 number h (wrap_low (long_at bytes 28 + (4294967296 - arriving_shift key bytes)))) h
