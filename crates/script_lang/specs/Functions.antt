-- The functions that a script can call.
-- [add: counter] Counter: the length of the text of all counters, in `length_at_most`.
-- [add: function] Function: its name, whether it takes a capture, and its greatest length.
use Rattle.std.specs.Prelude.{if◌then◌else◌, Bool, bytes_eq, codes, false, List, true, ℕ}
use Rattle.script_lang.specs.Calling.{Calling}
use Rattle.script_lang.specs.declared.function.Function.{Function}
use Rattle.script_lang.specs.declared.function.Function.TheVariants.{FileStats, TcpConnections, NetStats, Ticks, Unknown}

-- the function with this name
abbrev pub function_named : List ℕ → Function
function_named name =
    if bytes_eq name (codes "file-stats") then FileStats
    else if bytes_eq name (codes "tcp-connections") then TcpConnections
    else if bytes_eq name (codes "net-stats") then NetStats
    else if bytes_eq name (codes "ticks") then Ticks
    else Unknown

-- the greatest length of its text
abbrev pub length_at_most : Function → ℕ
length_at_most FileStats = 10
length_at_most TcpConnections = 1030
length_at_most NetStats = 220
length_at_most Ticks = 10
length_at_most Unknown = 0

-- a call of an unknown function takes no capture
abbrev pub takes_capture : Function → Bool
takes_capture Unknown = false
takes_capture _ = true

-- the functions of uIP
abbrev pub uip_calls : Calling Function
uip_calls = record { named = function_named; takes_capture = takes_capture; length_at_most = length_at_most }
