-- A shell that has received nothing, and what a shell can send.
use Rattle.telnet_shell.proofs.Prelude.{◌≡◌, ℕ, ◌+◌, ◌≤◌, ◌<◌, Bool, true, false, List, [], ◌∷◌, ◌++◌, length, refl, sym, ap, subst, arith}
use Rattle.telnet_shell.proofs.Prelude.{length-drop, length-append, if◌then◌else◌, ∥∥₁_elim, le_prop, AppState, text_left, CanSupply}
use Rattle.telnet_shell.proofs.Prelude.{IsRepresented, Capture, Empty, Command, Shell, reply_with, transcript, IsTrailing, IsLeading}
use Rattle.telnet_shell.proofs.Prelude.{replies_left, prefix_size, stops_at, shell_spec, ShellRepresents, fresh_part, left_of_value}

pub opened_after : (q : List Command) (port : ℕ) → q ≡ [] → IsTrailing q Empty 0 (fresh_part port)
opened_after q port e = record { before = []; spoken = []; prefix = []; commands = sym e; snapshots = refl; took = refl; acked = refl; shows = refl }

pub opened_place : (q : List Command) → q ≡ [] → IsLeading q Empty 0
opened_place q e = subst (λ (r : List Command). IsLeading r Empty 0) (sym e) refl

by_stop : (b : Bool) (at size : ℕ) → (b ≡ true → at ≡ 0) → (b ≡ false → at < size) → at ≤ (if b then 0 else size)
by_stop true at size f g = omega (arith, f refl)
by_stop false at size f g = omega (arith, g refl)

pub place_fits : (q : List Command) (capture : Capture) (at : ℕ) → IsLeading q capture at → at ≤ prefix_size q capture
place_fits [] capture at i = omega (arith, i)
place_fits (c ∷ cs) capture at i = by_stop (stops_at c capture) at (length (reply_with c capture)) i.0 i.1

size_by : (b : Bool) (s t : List ℕ) → (if b then 0 else length s) ≤ length (if b then [] else s ++ t)
size_by true s t = omega arith
size_by false s t = omega (arith, length-append s t)

pub size_fits : (q : List Command) (capture : Capture) → prefix_size q capture ≤ length (replies_left q capture)
size_fits [] capture = omega arith
size_fits (c ∷ cs) capture = size_by (stops_at c capture) (reply_with c capture) (transcript cs [])

pub place_of : {K : Type 0} (a : Shell) (k : K) (n : ℕ) → CanSupply {A = Shell} {K = K} (λ j. shell_spec) (λ b j p. ShellRepresents b p) a k
    n → a.at ≤ prefix_size a.queue a.capture
place_of a k n can = ∥∥₁_elim can le_prop (λ c. place_fits a.queue a.capture a.at c.1.place)

pub place_in : {K : Type 0} (a : Shell) (k : K) → IsRepresented {A = Shell} {K = K} (λ b j p. ShellRepresents b p) a k
    → a.at ≤ length (replies_left a.queue a.capture)
place_in a k has = ∥∥₁_elim has le_prop (λ c. omega (arith, place_fits a.queue a.capture a.at c.1.place, size_fits a.queue a.capture))

pub room : {K : Type 0} (a : Shell) (k : K) (n : ℕ) → CanSupply {A = Shell} {K = K} (λ j. shell_spec) (λ b j p. ShellRepresents b p) a k n
    → a.at + n ≤ length (replies_left a.queue a.capture)
room a k n can =
    let fits = place_of a k n can in
    ∥∥₁_elim can le_prop (λ c.
    let e : length (text_left shell_spec c.0) ≡ length (Rattle.std.proofs.Common.drop a.at (replies_left a.queue a.capture)) = ap
    (λ (xs : List ℕ). length xs) (left_of_value a c.0 c.1) in
    omega (arith, c.2, e, length-drop a.at (replies_left a.queue a.capture), fits, size_fits a.queue a.capture))

pub acked_after : (q : List Command) (capture : Capture) (at n : ℕ) (p : AppState) → IsTrailing q capture at p
    → IsTrailing q capture (at + n) (record p { acked = p.acked + n; polls = 0 })
acked_after q capture at n p b = record {
  before = b.before;
  spoken = b.spoken;
  prefix = b.prefix;
  commands = b.commands;
  snapshots = b.snapshots;
  took = b.took;
  acked = (let e = b.acked in omega (arith, e));
  shows = b.shows;
}
