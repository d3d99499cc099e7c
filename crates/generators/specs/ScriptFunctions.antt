-- The texts of a script's calls, over plain data.
use Rattle.std.specs.Prelude.{◌≤◌, All, length, List, ℕ}
use Rattle.app_events.specs.Prelude.{IsNow, IsU32, IsByte}
use Rattle.app_events.specs.declared.now.Now.{Now}
use Rattle.script_lang.specs.Prelude.{Calling, uip_calls}
use Rattle.script_lang.specs.declared.function.Function.{Function}
use Rattle.generators.specs.Captures.{capture_of}
use Rattle.generators.specs.Text.{capture_text}

-- The text of a call: of a function with an argument, by the hits of the file that it names, the own state and the snapshot.
abbrev pub CallText : Type 0 → Type 0
CallText F = F → (argument : List ℕ) (hits : ℕ) (own : List ℕ) (now : Now) → List ℕ

pub record ScriptFunctions (F : Type 0) : Type 0 where
  pub function_table : Calling F
  pub output : CallText F

abbrev pub script_functions : {F : Type 0} → Calling F → CallText F → ScriptFunctions F
script_functions table output = record { function_table = table; output = output }

-- the functions of uIP
abbrev pub uip_call_text : CallText Function
uip_call_text function argument hits own now = capture_text (capture_of function hits now)

abbrev pub uip : ScriptFunctions Function
uip = script_functions uip_calls uip_call_text

-- no text is longer than its function's greatest length, in every snapshot that a node can make
abbrev pub AreShort : {F : Type 0} → ScriptFunctions F → Type 0
AreShort {F} g = (function : F) (argument : List ℕ) (hits : ℕ) (own : List ℕ) (now : Now) → IsU32 hits → IsNow now →
    length (g.output function argument hits own now) ≤ g.function_table.length_at_most function

-- every text is bytes, whatever it is made from
abbrev pub AreBytes : {F : Type 0} → CallText F → Type 0
AreBytes {F} output = (function : F) (argument : List ℕ) (hits : ℕ) (own : List ℕ) (now : Now) →
    All IsByte (output function argument hits own now)
