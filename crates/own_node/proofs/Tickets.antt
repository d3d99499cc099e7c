-- The ticket of each connection is a number of 32 bits, and so are the numbers of a message that can be written.
use Rattle.own_node.proofs.Prelude.{All, ◌≡◌, ◌∙◌, ℕ, ◌≤◌, inl, inr, Bool, true, false, List, if◌then◌else◌, length, nat_le, refl, sym, ap}
use Rattle.own_node.proofs.Prelude.{subst, arith, and_parts, leb-true, ltb-false, AppState, IsByte, IsU32, Now, Connection, Outcome}
use Rattle.own_node.proofs.Prelude.{AbstractNode, connection_in, can_write_in, is_ready_at, next_message}
use Rattle.own_app.specs.Prelude.{IsMessage, is_next_message, message_in, own_spec, pending as pending_of, with_message}
use Rattle.own_app.specs.declared.TheConstants.{RECEIVED_ROOM}
use Rattle.own_node.proofs.ReadingLaws.{IsReady, ready_has}
use Rattle.own_node.proofs.Parts.{AskedPart, OutParts}
use Rattle.own_node.proofs.Parts.OutParts.{opened, same}
use Rattle.own_node.proofs.Slots.{InEach, SlotsStep, each_set}
use Rattle.own_node.proofs.Slots.SlotsStep.{accepts_slot, moves_slot, still}

-- ---- tickets

abbrev pub IsTicketed : Connection → Type 0
IsTicketed c = IsU32 c.part.own

pub prepared_own : (numbers : List ℕ) (p : AppState) (now : Now) → (own_spec.prepare numbers p now).own ≡ p.own
prepared_own numbers p now = by_next (is_next_message (message_in numbers) p)
  where
    by_next : (b : Bool) → (if b then with_message numbers p now else p).own ≡ p.own
    by_next true = refl
    by_next false = refl

pub asked_own : (o result : Outcome) → AskedPart o result → result.connection.part.own ≡ o.connection.part.own
asked_own o result h =
    elim h.part [
      | inl e ↦ ap (λ (p : AppState). p.own) e
      | inr e ↦ ap (λ (p : AppState). p.own) e.1.1 ∙ prepared_own o.numbers o.connection.part e.1.0
    ]

out_ticketed : (c : Connection) (numbers : List ℕ) (o : Outcome) → OutParts c numbers o → IsTicketed c → IsTicketed o.connection
out_ticketed c numbers o parts h =
    elim parts [
      | same own captures numbers_are opens asks syn ↦ subst (λ (n : ℕ). IsU32 n) (sym own) h
      | opened state now own captures numbers_are ↦ subst (λ (n : ℕ). IsU32 n) (sym own) (omega arith)
    ]

pub ticketed_on : (n m : AbstractNode) → SlotsStep n m → InEach IsTicketed n.connections → InEach IsTicketed m.connections
ticketed_on n m does each =
    elim does [
      | still connections numbers ↦ subst (λ (cs : List Connection). InEach IsTicketed cs) (sym connections) each
      | accepts_slot slot d is connections numbers ↦
          subst (λ (cs : List Connection). InEach IsTicketed cs) (sym connections)
          (each_set IsTicketed n.connections slot d (subst (λ (k : ℕ). IsU32 k) (sym is.ticket) (omega arith)) each)
      | moves_slot slot it ↦
          subst (λ (cs : List Connection). InEach IsTicketed cs) (sym it.connections)
          (each_set IsTicketed n.connections slot it.result.connection
          (subst (λ (k : ℕ). IsU32 k) (sym (asked_own it.o it.result it.asked)) (out_ticketed (connection_in slot n) n.numbers it.o it.parts (each slot))) each)
    ]

-- ---- messages

taken_low : (c : Connection) (taken : ℕ) → IsReady c → taken ≤ length (pending_of c.part) → IsU32 taken
taken_low c taken ready there =
    let short : length (pending_of c.part) ≤ RECEIVED_ROOM = ltb-false RECEIVED_ROOM (length (pending_of c.part)) ready.kept in omega (arith, there, short)

pub message_fits : (slot taken : ℕ) (text : List ℕ) (last : Bool) (n : AbstractNode) → InEach IsTicketed n.connections → All IsByte text
    → can_write_in slot taken n ≡ true
    → IsMessage (next_message slot taken text last n)
message_fits slot taken text last n each bytes can =
    let c : Connection = connection_in slot n in
    let parts = and_parts (is_ready_at c) (nat_le taken (length (pending_of c.part))) can in
    record {
      to = each slot;
      number = omega arith;
      taken = taken_low c taken (ready_has c parts.0) (leb-true taken (length (pending_of c.part)) parts.1);
      text = bytes;
    }
