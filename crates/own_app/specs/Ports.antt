-- The ports that the program opened for the application (a passive OPEN, RFC 793, section 2.7).
use Rattle.std.specs.List.{list_any}
use Rattle.std.specs.Prelude.{ℕ, ◌==◌, ◌&&◌, ◌||◌, ◌++◌, nat_le, nat_lt, Bool, if◌then◌else◌, List, [], ◌∷◌, length}
use Rattle.own_app.specs.OwnSpec.{is_own_port}
use Rattle.own_app.specs.declared.TheConstants.{MOST_PORTS}

-- The program may open the port of this number.
abbrev pub is_program_port : ℕ → Bool
is_program_port number = nat_lt 0 number && nat_le number 65535 && is_own_port number

abbrev pub is_open_port : List ℕ → ℕ → Bool
is_open_port ports port = list_any (λ p. p == port) ports

-- The port is open, or there is room for it.
abbrev pub can_listen : ℕ → List ℕ → Bool
can_listen port ports = is_open_port ports port || nat_lt (length ports) MOST_PORTS

-- The ports after it is opened.
abbrev pub with_port : ℕ → List ℕ → List ℕ
with_port port ports = if is_open_port ports port then ports else ports ++ port ∷ []
