-- `OwnApp` alone contains itself: a message that is written, and the periodic call of its slot.
use Rattle.own_node.proofs.Prelude.{All, ◌≡◌, ℕ, zero, suc, ◌<◌, ◌==◌, Bool, true, if◌then◌else◌, List, [], ◌∷◌, ◌++◌, length, nat_le, refl}
use Rattle.own_node.proofs.Prelude.{sym, arith, and_parts, false≢true, slice_index_or, AppState, IsByte, IsU32, Connection, closed, is_open}
use Rattle.own_node.proofs.Prelude.{AbstractNode, connection_in, periodic, own_can_pair, HasCaptured, can_write_at, can_write_in}
use Rattle.own_node.proofs.Prelude.{is_ready_at, next_message, All-nil}
use Rattle.own_app.specs.Prelude.{IsMessage, no_message, numbers_of, own_spec, pending as pending_of, with_written, write_message}
use Rattle.own_app.proofs.OwnLines.{written_u32}
use Rattle.own_node.proofs.CaptureLaws.{captures_ready}
use Rattle.own_node.proofs.Containing.{Contains, view_in, view_node}
use Rattle.own_node.proofs.ReadingLaws.{IsReady, ready_has}
use Rattle.own_node.proofs.WrittenLaws.{Follows, Holds, HoldsAfter, message_seen, wrote_seen}

-- a connection that can capture a message is ready
pub ready_of : (c : Connection) (taken : ℕ) → can_write_at taken c ≡ true → IsReady c
ready_of c taken can = ready_has c (and_parts (is_ready_at c) (nat_le taken (length (pending_of c.part))) can).0

-- a slot with an open connection is one of the slots
pub open_inside : (cs : List Connection) (slot : ℕ) → is_open (slice_index_or cs slot closed).state ≡ true → slot < length cs
open_inside [] slot e = absurd (false≢true e)
open_inside (c ∷ cs) zero e = omega arith
open_inside (c ∷ cs) (suc slot) e = let inside = open_inside cs slot e in omega (arith, inside)

abbrev pub any_port : ℕ → Bool
any_port port = true

abbrev pub same_part : AppState → AppState
same_part p = p

abbrev pub same_numbers : List ℕ → List ℕ
same_numbers numbers = numbers

pub alone : Contains any_port same_part same_numbers own_spec
alone = record {
  port = λ numbers at. refl;
  ticket = λ numbers at e. refl;
  snapshots = λ numbers at e. refl;
  opened = λ numbers at e. refl;
  others = λ numbers at e. absurd (false≢true (sym e));
  newdata = λ numbers p piece. record { port = refl; ticket = λ e. refl; snapshots = λ e. refl; own_numbers = refl };
  acked = λ numbers p count. record { port = refl; ticket = λ e. refl; snapshots = λ e. refl; own_numbers = refl };
  polled = λ numbers p. record { port = refl; ticket = λ e. refl; snapshots = λ e. refl; own_numbers = refl };
  ended = λ numbers p how. refl;
  prepare_port = λ numbers p now. own_can_pair.port.prepare numbers p now;
  prepare = λ numbers p now e. refl;
  fresh_ticket = λ at. refl;
  fresh_captures = λ at. refl;
  fresh = refl;
}

abbrev View : AbstractNode → AbstractNode
View n = view_node any_port same_part same_numbers n

seen_in : (n : AbstractNode) (slot : ℕ) → connection_in slot (View n) ≡ connection_in slot n
seen_in n slot = view_in any_port same_part same_numbers refl n slot

module _ (n : AbstractNode) (at taken : ℕ) (text : List ℕ) (last : Bool) (f : Follows any_port same_part same_numbers own_spec alone n)
    (bytes : All IsByte text) (can : can_write_in at taken n ≡ true) where
  abbrev wrote : AbstractNode
  wrote = (periodic own_spec (with_written (next_message at taken text last n) n) at).node

  pub alone_captured : HasCaptured (next_message at taken text last n) (connection_in at n) (connection_in at wrote)
  alone_captured = captures_ready n at taken text last (open_inside n.connections at (ready_of (connection_in at n) taken can).opened) bytes can

  pub alone_message : IsMessage (next_message at taken text last n)
  alone_message =
      message_seen any_port same_part same_numbers own_spec alone n at taken text last (write_message (next_message at taken text last n))
      (connection_in at n) (connection_in at wrote) (seen_in n at) (seen_in wrote at) f bytes can

  pub alone_wrote : (count slot : ℕ) (before : List ℕ) → Holds any_port same_part same_numbers own_spec alone n count slot before
      → HoldsAfter any_port same_part same_numbers own_spec alone wrote count slot (before ++ (if at == slot then text else []))
  alone_wrote =
      wrote_seen any_port same_part same_numbers own_spec alone n at taken text last (write_message (next_message at taken text last n))
      (connection_in at n) (connection_in at wrote) (seen_in n at) (seen_in wrote at) f bytes can
      refl alone_captured

-- the numbers at first
pub own_words : All IsU32 (numbers_of 0 no_message)
own_words = written_u32 no_message [] record { to = omega arith; number = omega arith; taken = omega arith; text = All-nil IsByte } (All-nil IsU32)
