-- The words of `resolve`.
-- [add: told-command] A file as this one for its words.
use Rattle.std.specs.Prelude.{◌-◌, ◌&&◌, if◌then◌else◌, ◌∷◌, [], Bool, bytes_eq, codes, length, List, nat_le, None, Option, Some, take, ℕ}
use Rattle.std.specs.List.{list_all}
use Rattle.uip_wire.specs.Prelude.{◌>>=◌, quad_of}
use Rattle.uip_wire.specs.declared.addr.Addr.{Addr}
use Rattle.dns_message.specs.Names.{is_domain}
use Rattle.udp_resolver.specs.declared.TheConstants.{MOST_NAMES}
use Rattle.uipd.specs.Words.{all_items, number_within, optionally, ends_in_tty}

-- The task of the words: ask a server for names, the first of them with this id, up to a number of items.
pub record Resolving : Type 0 where
  pub own : Addr
  pub server : Addr
  pub id : ℕ
  pub names : List (List ℕ)
  pub items : ℕ

-- the words before a last `tty`, which only defines what an empty read means
abbrev pub without_tty : List (List ℕ) → List (List ℕ)
without_tty words = if ends_in_tty words then take (length words - 1) words else words

-- one to four names, each of the form of a name
abbrev pub names_of : List (List ℕ) → Option (List (List ℕ))
names_of words =
    if nat_le 1 (length words) && nat_le (length words) MOST_NAMES && list_all is_domain words then Some words else None

-- `OWN SERVER ID`, with an id below 65536, then the number of items, and the words after it
abbrev pub asked_at : List ℕ → List ℕ → List ℕ → ℕ → List (List ℕ) → Option Resolving
asked_at own server id items words = do
  own ← quad_of own
  server ← quad_of server
  id ← number_within 0 65535 id
  names ← names_of (without_tty words)
  Some (record { own = record { 0 = own }; server = record { 0 = server }; id = id; names = names; items = items })

-- optionally `items N`, then the names, then optionally `tty`
abbrev pub asked_by : List ℕ → List ℕ → List ℕ → List (List ℕ) → Option Resolving
asked_by own server id words = optionally (codes "items") all_items (asked_at own server id) words

-- `OWN SERVER ID`, and further words
abbrev pub resolve_words : List (List ℕ) → Option Resolving
resolve_words (own ∷ server ∷ id ∷ words) = asked_by own server id words
resolve_words words = None

-- the task of words that begin with `resolve`
abbrev pub resolving_of : List (List ℕ) → Option Resolving
resolving_of [] = None
resolving_of (command ∷ words) = if bytes_eq command (codes "resolve") then resolve_words words else None
