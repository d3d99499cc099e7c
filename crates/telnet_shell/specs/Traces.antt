-- The session of the delivered bytes and the captured snapshots, as far as these determine it, and the laws of a shell. They are those of
-- the web server for a page, with one difference. A shell may be given up in the middle of a piece; its input is then the prefix that it
-- accepted.
use Rattle.std.specs.Prelude.{◌≡◌, ℕ, ◌≤◌, ◌⊎◌, ◌&&◌, true, nat_le, List, [], ◌++◌, length}
use Rattle.app_events.specs.Prelude.{AppState, Snapshot, IsPrefixOf, Pages, MayWant}
use Rattle.app_events.specs.declared.want.Want.TheVariants.{Abort}
use Rattle.telnet_shell.specs.Reading.{all_commands, commands_in, has_quit}
use Rattle.telnet_shell.specs.Transcript.{transcript}
use Rattle.telnet_shell.specs.Transmission.{needed}
use Rattle.telnet_shell.specs.ShellSpec.{shell_spec, session}

-- A session is complete if it includes the output of `quit`: that command was received, and no command before it lacks its snapshot.
abbrev pub sessions : Pages
sessions = record {
  page = λ input snapshots. transcript (commands_in input) snapshots;
  complete = λ input snapshots. has_quit (all_commands input) && nat_le (needed (commands_in input)) (length snapshots);
}

-- The shell accepts the piece, or a prefix of it, after which the connection is given up.
pub record DeliversPrefix (p q : AppState) (piece : List ℕ) : Type 0 where
  pub prefix : List ℕ
  pub rest : List ℕ
  pub joined : prefix ++ rest ≡ piece
  pub input : q.input ≡ p.input ++ prefix
  pub snapshots : q.snapshots ≡ p.snapshots
  pub acked : q.acked ≡ p.acked
  pub all : (rest ≡ []) ⊎ (q.own ≡ 1)

pub record KeepsSession : Type 0 where
  -- more bytes and more snapshots only extend a session, and leave a complete one unchanged
  pub grows : (q more : List ℕ) (k later : List Snapshot) → IsPrefixOf (sessions.page q k) (sessions.page (q ++ more) (k ++ later))
  pub stays : (q more : List ℕ) (k later : List Snapshot) → sessions.complete q k ≡ true
      → sessions.page (q ++ more) (k ++ later) ≡ sessions.page q k
  pub stays_complete : (q more : List ℕ) (k later : List Snapshot) → sessions.complete q k ≡ true
      → sessions.complete (q ++ more) (k ++ later) ≡ true
  -- the output is the session of the delivered bytes and the captured snapshots
  pub output : (p : AppState) → shell_spec.output p ≡ sessions.page p.input p.snapshots
  pub delivers_text : (numbers : List ℕ) (p : AppState) (piece : List ℕ) → DeliversPrefix p (shell_spec.newdata numbers p piece).part piece
  -- it is sent as far as it is determined, and a connection closes only at the end of a complete session
  pub wants : (numbers : List ℕ) (p : AppState) → p.acked ≤ length (session p) → MayWant sessions p (shell_spec.want numbers p)
  -- once it is given up, a connection accepts nothing more and is aborted
  pub aborts : (numbers : List ℕ) (p : AppState) → p.own ≡ 1 → shell_spec.want numbers p ≡ Abort
  pub delivers_no_more : (numbers : List ℕ) (p : AppState) (piece : List ℕ) → p.own ≡ 1
      → (shell_spec.newdata numbers p piece).part.input ≡ p.input
  pub stays_lost : (numbers : List ℕ) (p : AppState) (piece : List ℕ) → p.own ≡ 1 → (shell_spec.newdata numbers p piece).part.own ≡ 1
