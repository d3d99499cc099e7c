-- The words of a device's scripts: the functions of uIP, and the values.
use Rattle.std.specs.Prelude.{if◌then◌else◌, [], Bool, bytes_eq, codes, flat_map, List, take, true, ℕ}
use Rattle.script_lang.specs.Prelude.{Calling, function_named, length_at_most, takes_capture}
use Rattle.generators.specs.Prelude.{ScriptFunctions, CallText, script_functions, uip_call_text, rows_in, counter_line, in_ten_places}
use Rattle.generators.specs.Prelude.{row_text}
use Rattle.device_values.specs.declared.spelling.Spelling.TheVariants.{Plain, Json, Html}
use Rattle.device_values.specs.declared.word.Word.{Word}
use Rattle.device_values.specs.declared.word.Word.TheVariants as word
use Rattle.device_values.specs.declared.record.ValueCapture.{ValueCapture}
use Rattle.device_values.specs.declared.record.ValueCapture.TheVariants as record_of
use Rattle.device_values.specs.Spellings.{spelled}
use Rattle.device_values.specs.Values.{value_named}

abbrev pub word_named : List ℕ → Word
word_named name =
    if bytes_eq name (codes "value") then word.Value Plain
    else if bytes_eq name (codes "value-json") then word.Value Json
    else if bytes_eq name (codes "value-html") then word.Value Html
    else word.Uip (function_named name)

-- Each value takes a capture, even one that was never set and one that does not exist.
abbrev pub word_takes : Word → Bool
word_takes (word.Uip function) = takes_capture function
word_takes (word.Value spelling) = true

abbrev pub word_at_most : Word → ℕ
word_at_most (word.Uip function) = length_at_most function
word_at_most (word.Value Plain) = 32
word_at_most (word.Value Json) = 192
word_at_most (word.Value Html) = 192

abbrev pub word_calls : Calling Word
word_calls = record { named = word_named; takes_capture = word_takes; length_at_most = word_at_most }

-- The text of a value when its call is reached.
abbrev pub word_call_text : CallText Word
word_call_text (word.Uip function) argument hits own now = uip_call_text function argument hits [] now
word_call_text (word.Value spelling) argument hits own now = spelled spelling (value_named own argument)

-- What the scripts of a device call.
abbrev pub words : ScriptFunctions Word
words = script_functions word_calls word_call_text

-- [add: function] The arm of its record.
abbrev pub record_text : ValueCapture → List ℕ
record_text record_of.Empty = []
record_text (record_of.Number number) = in_ten_places number
record_text (record_of.Net counters) = flat_map counter_line counters
record_text (record_of.Rows rows) = flat_map row_text (rows_in rows)
record_text (record_of.Value spelling kept) = spelled spelling (take kept.len kept.bytes)
