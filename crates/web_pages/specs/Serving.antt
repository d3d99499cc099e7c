-- What the web server serves, and its initial counters.
use Rattle.std.specs.Prelude.{ℕ, ◌==◌, Bool, List, length, replicate}
use Rattle.site_image.specs.Prelude.{File}
use Rattle.uip_wire.specs.declared.port.TheConstants.{WEB_PORT}

-- Pages are served only at the web port.
abbrev pub is_served : ℕ → Bool
is_served port = port == WEB_PORT

-- no file was requested yet
abbrev pub no_hits : List File → List ℕ
no_hits files = replicate (length files) 0
