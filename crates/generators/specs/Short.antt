-- Generated text is never longer than its function's greatest length.
use Rattle.std.specs.Prelude.{ℕ, ◌≤◌, length}
use Rattle.app_events.specs.Prelude.{IsNow, IsU32}
use Rattle.app_events.specs.declared.now.Now.{Now}
use Rattle.script_lang.specs.Prelude.{length_at_most}
use Rattle.script_lang.specs.declared.function.Function.{Function}
use Rattle.generators.specs.Captures.{capture_of}
use Rattle.generators.specs.Text.{capture_text}

-- for every snapshot that a node can make
abbrev pub TextsAreShort : Type 0
TextsAreShort = (function : Function) (hits : ℕ) (now : Now) → IsU32 hits → IsNow now →
    length (capture_text (capture_of function hits now)) ≤ length_at_most function
