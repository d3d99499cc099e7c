-- The capture record of a call: what its text is made from.
-- [add: function] What the text of the call is made from.
use Rattle.std.specs.Prelude.{ℕ}
use Rattle.app_events.specs.declared.now.Now.{Now}
use Rattle.script_lang.specs.declared.function.Function.{Function}
use Rattle.script_lang.specs.declared.function.Function.TheVariants.{FileStats, TcpConnections, NetStats, Ticks, Unknown}
use Rattle.generators.specs.declared.capture.Capture.{Capture}
use Rattle.generators.specs.declared.capture.Capture.TheVariants as capture

-- the record of a function in a snapshot
abbrev pub capture_of : Function → ℕ → Now → Capture
capture_of FileStats hits now = capture.Hits hits
capture_of TcpConnections hits now = capture.Rows now.rows
capture_of NetStats hits now = capture.Net now.net
capture_of Ticks hits now = capture.Ticks now.ticks
capture_of Unknown hits now = capture.Empty
