-- The states that the pages of a device represent.
use Rattle.app_events.specs.Prelude.{AppState}
use Rattle.device_values.specs.Prelude.{record_text, words}
use Rattle.device_values.specs.declared.record.ValueCapture.{ValueCapture}
use Rattle.file_tree.specs.Prelude.{SiteContent}
use Rattle.httpd.specs.Compact.{CompactRepresent}
use Rattle.httpd.specs.declared.compact.CompactPages.{CompactPages}

-- Their scripts call the functions of uIP, and values.
abbrev pub ValuesRepresent : CompactPages ValueCapture → SiteContent → AppState → Type 0
ValuesRepresent = CompactRepresent words record_text
