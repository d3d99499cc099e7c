-- The results of calls from C.
use Rattle.std.specs.Prelude.{◌≡◌, ◌⊎◌, ◌==◌, if◌then◌else◌, Bool, false, length, List, None, Option, Some, take, true, ℕ}
use Rattle.uip_wire.specs.Prelude.{written}
use Rattle.guarded_node.specs.declared.guard.GuardCounts.{GuardCounts}
use Rattle.c_calls.specs.declared.received.UipReceived.{UipReceived}
use Rattle.c_calls.specs.declared.result.UipResult.{UipResult}
use Rattle.c_calls.specs.declared.status.TheConstants.{BAD_ARGUMENT, NO_DEVICE, NOT_READY, OK, OUTPUT_PENDING, WRONG_LINK}

-- The statuses of a call on a handle with one kind of device. A call that writes a message has one more.
abbrev pub IsCallStatus : ℕ → Type 0
IsCallStatus status = (status ≡ OK) ⊎ (status ≡ NO_DEVICE) ⊎ (status ≡ BAD_ARGUMENT)

abbrev pub IsWriteStatus : ℕ → Type 0
IsWriteStatus status = (status ≡ OK) ⊎ (status ≡ NO_DEVICE) ⊎ (status ≡ BAD_ARGUMENT) ⊎ (status ≡ NOT_READY)

-- The statuses of a call for one of two kinds of device. A call that writes output of its own has one more.
abbrev pub IsLinkStatus : ℕ → Type 0
IsLinkStatus status = (status ≡ OK) ⊎ (status ≡ NO_DEVICE) ⊎ (status ≡ BAD_ARGUMENT) ⊎ (status ≡ WRONG_LINK)

abbrev pub IsTextStatus : ℕ → Type 0
IsTextStatus status = (status ≡ OK) ⊎ (status ≡ NO_DEVICE) ⊎ (status ≡ BAD_ARGUMENT) ⊎ (status ≡ OUTPUT_PENDING) ⊎ (status ≡ WRONG_LINK)

-- A refused call reports its status alone, and leaves the caller's area and the device unchanged.
abbrev pub Refused : {Kept : Type 0} → UipResult → List ℕ → List ℕ → Kept → Kept → Type 0
Refused done area area' old new =
    (done ≡ record { status = done.status; pending = 0; consumed = 0; written = 0 }) × (area' ≡ area) × (new ≡ old)

-- The value of `pending` in C: 1 if output is pending, else 0.
abbrev pub left_flag : Option ℕ → ℕ
left_flag None = 0
left_flag (Some at) = 1

-- A Boolean in C.
abbrev pub flag_of : Bool → ℕ
flag_of true = 1
flag_of false = 0

-- A count of a guard, by its number for C: what it dropped, or what it gave up.
abbrev pub guard_count : ℕ → GuardCounts → ℕ
guard_count number counts = if number == 1 then counts.dropped else counts.displaced

-- What was read of a connection of a node, of whose abstract nodes `Of` speaks: whether the connection is ready, its port, and its pending
-- bytes, of which the area has as many as it has room for.
pub record ReadsConnection {N : Type 0} (Of : (N → Type 0) → Type 0) (is_ready : N → Bool) (port_of : N → ℕ) (pending_of : N → List ℕ)
    (result : UipReceived) (area area' : List ℕ) : Type 0 where
  pub ready : Of (λ n. result.ready ≡ flag_of (is_ready n))
  pub port : Of (λ n. result.port ≡ port_of n)
  pub len : Of (λ n. result.len ≡ length (pending_of n))
  pub bytes : Of (λ n. area' ≡ written area 0 (take (length area) (pending_of n)))

-- The status of closing a handle, by the device that was taken out of it.
abbrev pub closed_status : {T : Type 0} → Option T → ℕ
closed_status None = NO_DEVICE
closed_status (Some device) = OK
