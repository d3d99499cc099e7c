-- The shell keeps the laws of an application, at every offset.
use Rattle.std.proofs.Common.{◌≡◌, ℕ, ◌≤◌, ◌==◌, min, Bool, true, false, ◌||◌, List, [], ◌∷◌, ◌++◌, length, drop, nat_lt}
use Rattle.std.proofs.Common.{refl, sym, ap, subst, ◌∙◌, arith, append-nil, append_assoc, length-drop, if◌then◌else◌}
use Rattle.std.proofs.lemmas.Bool.{ltb-true}
use Rattle.app_events.specs.Prelude.{AppState, Snapshot, IsLawful, StartsAnew, IsPrefixOf, Grows, CanSend}
use Rattle.app_events.specs.declared.want.Want.TheVariants.{Nothing, Send, Close, Abort}
use Rattle.web_pages.specs.declared.TheConstants.{LARGEST_SEGMENT}
use Rattle.telnet_shell.specs.declared.command.Command.{Command}
use Rattle.telnet_shell.specs.declared.TheConstants.{MOST_SILENT_POLLS, MOST_COMMANDS}
use Rattle.telnet_shell.specs.Reading.{commands_in}
use Rattle.telnet_shell.specs.Transcript.{transcript}
use Rattle.telnet_shell.specs.Lemmas.Growing.{commands_grow, further, transcript_grows}
use Rattle.telnet_shell.specs.ShellSpec.{session, waiting, with_byte, receive_byte, receive_all, is_stopped}
use Rattle.telnet_shell.specs.ShellSpec.{session_has_ended, left_of_session, shell_want, shell_spec}

same_prefix : (xs : List ℕ) → IsPrefixOf xs xs
same_prefix xs = record { rest = []; joined = append-nil xs }

same_grows : (p : AppState) → Grows shell_spec p p
same_grows p = record { text = same_prefix (session p); offset = refl }

prefix_of_prefix : (xs ys zs : List ℕ) → IsPrefixOf xs ys → IsPrefixOf ys zs → IsPrefixOf xs zs
prefix_of_prefix xs ys zs p q = record {
  rest = p.rest ++ q.rest;
  joined = sym (append_assoc xs p.rest q.rest) ∙ ap (λ (ws : List ℕ). ws ++ q.rest) p.joined ∙ q.joined;
}

grows_on : (p q r : AppState) → Grows shell_spec p q → Grows shell_spec q r → Grows shell_spec p r
grows_on p q r g h = record { text = prefix_of_prefix (session p) (session q) (session r) g.text h.text; offset = h.offset ∙ g.offset }

byte_grows : (p : AppState) (byte : ℕ) → Grows shell_spec p (with_byte p byte)
byte_grows p byte =
    let t : IsPrefixOf (transcript (commands_in p.input) p.snapshots)
    (transcript (commands_in p.input ++ further p.input (byte ∷ [])) (p.snapshots ++ [])) =
    transcript_grows (commands_in p.input) (further p.input (byte ∷ [])) p.snapshots [] in
    record {
      text = record {
        rest = t.rest;
        joined = t.joined
            ∙ ap (λ (ks : List Snapshot). transcript (commands_in p.input ++ further p.input (byte ∷ [])) ks)
            (append-nil p.snapshots)
            ∙ ap (λ (cs : List Command). transcript cs p.snapshots) (sym (commands_grow p.input (byte ∷ [])));
      };
      offset = refl;
    }

received_grows : (p : AppState) (byte : ℕ) (lost full : Bool)
    → Grows shell_spec p (if lost then p else if full then record p { own = 1 } else with_byte p byte)
received_grows p byte true full = same_grows p
received_grows p byte false true = record { text = same_prefix (session p); offset = refl }
received_grows p byte false false = byte_grows p byte

pub all_grows : (p : AppState) (piece : List ℕ) → Grows shell_spec p (receive_all p piece)
all_grows p [] = same_grows p
all_grows p (byte ∷ more) =
    grows_on p (receive_byte p byte) (receive_all (receive_byte p byte) more)
    (received_grows p byte (p.own == 1) (nat_lt MOST_COMMANDS (length (waiting (with_byte p byte)))))
    (all_grows (receive_byte p byte) more)

unpolled_grows : (p : AppState) (piece : List ℕ) → Grows shell_spec p (receive_all (record p { polls = 0 }) piece)
unpolled_grows p piece =
    let g : Grows shell_spec (record p { polls = 0 }) (receive_all (record p { polls = 0 }) piece) =
    all_grows (record p { polls = 0 }) piece in
    record { text = g.text; offset = g.offset }

capture_grows : (p : AppState) (k : Snapshot) → Grows shell_spec p (record p { snapshots = p.snapshots ++ k ∷ [] })
capture_grows p k =
    let t : IsPrefixOf (transcript (commands_in p.input) p.snapshots)
    (transcript (commands_in p.input ++ []) (p.snapshots ++ k ∷ [])) =
    transcript_grows (commands_in p.input) [] p.snapshots (k ∷ []) in
    record {
      text = record {
        rest = t.rest;
        joined = t.joined ∙ ap (λ (cs : List Command). transcript cs (p.snapshots ++ k ∷ [])) (append-nil (commands_in p.input));
      };
      offset = refl;
    }

either_grows : (p : AppState) (k : Snapshot) (takes : Bool)
    → Grows shell_spec p (if takes then record p { snapshots = p.snapshots ++ k ∷ [] } else p)
either_grows p k true = capture_grows p k
either_grows p k false = same_grows p

-- ---- what it requests

some_left : (most left : ℕ) → 1 ≤ most → nat_lt 0 left ≡ true → (1 ≤ min most left) × (min most left ≤ left)
some_left most left one e =
    let some = ltb-true 0 left e in
    (omega arith, omega arith)

sends_left : (left : ℕ) (b : Bool) → nat_lt 0 left ≡ b → CanSend (if b then Send (min LARGEST_SEGMENT left) else Nothing) left
sends_left left true e = some_left LARGEST_SEGMENT left (omega arith) e
sends_left left false e = tt

sends_by : (left : ℕ) (gives_up ends : Bool)
    → CanSend (if gives_up then Abort else if ends then Close else if nat_lt 0 left then Send (min LARGEST_SEGMENT left) else Nothing) left
sends_by left true ends = tt
sends_by left false true = tt
sends_by left false false = sends_left left (nat_lt 0 left) refl

pub can_send : (p : AppState) → CanSend (shell_want p) (length (drop p.acked (session p)))
can_send p =
    subst (λ (left : ℕ). CanSend (shell_want p) left) (sym (length-drop p.acked (session p)))
    (sends_by (left_of_session p) ((p.own == 1) || (p.polls == MOST_SILENT_POLLS)) (session_has_ended p))

-- ---- the laws

pub shell_lawful : (represented : AppState → Type 0) → IsLawful shell_spec represented
shell_lawful represented = record {
  newdata_grows = λ numbers p piece s. unpolled_grows p piece;
  prepare_grows = λ numbers p now s. either_grows p (record { numbers = numbers; now = now }) (is_stopped p);
  acked_moves = λ numbers p n s h. (refl, refl);
  polled_keeps = λ numbers p s. (refl, refl);
  sends = λ numbers p s. can_send p;
}

pub shell_starts : StartsAnew shell_spec
shell_starts numbers port = (refl, refl)
