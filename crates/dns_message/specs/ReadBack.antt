-- What a server reads in a query, and which records bytes represent.
use Rattle.std.specs.Prelude.{◌≡◌, ◌⊎◌, ℕ, ◌&&◌, ◌==◌, nat_le, Bool, true, false, List, [], ◌∷◌, ◌++◌, length, drop, map, Some}
use Rattle.std.specs.List.{AllByRecursion, flat_map, join_with_byte, list_all}
use Rattle.uip_wire.specs.Prelude.{word_at, bytes_of}
use Rattle.udp_datagram.specs.Prelude.{udp_data}
use Rattle.dns_message.specs.Messages.{query_message}
use Rattle.dns_message.specs.Names.{is_domain, label_bytes}
use Rattle.dns_message.specs.Records.{Record, records}
use Rattle.dns_message.specs.Replies.{query_datagram, way_there}
use Rattle.dns_message.specs.declared.query.Asking.{Asking}

-- A label of a name; the empty one is the root's.
abbrev pub has_label_size : List ℕ → Bool
has_label_size label = nat_le 1 (length label) && nat_le (length label) 63

-- The datagram carries a query with this id, the flag for recursion desired, and one question. However its bytes are read as labels and the
-- root, the labels are those of the name, and the type and the class follow them.
pub record IsAsked (asking : Asking) (text : List ℕ) (ident : ℕ) : Type 0 where
  pub message : List ℕ
  pub carried : udp_data (way_there asking) (query_datagram asking text ident) ≡ Some message
  pub id : word_at message 0 ≡ asking.id
  pub flags : word_at message 2 ≡ 256
  pub counts : drop 4 message ≡ bytes_of (1 ∷ 0 ∷ 0 ∷ 0 ∷ []) ++ drop 12 message
  pub question : (list : List (List ℕ)) (rest : List ℕ) → list_all has_label_size list ≡ true
      → drop 12 message ≡ flat_map label_bytes list ++ 0 ∷ rest
      → (join_with_byte 46 list ≡ text) × (rest ≡ bytes_of (1 ∷ 1 ∷ []))

abbrev pub QueriesAreReadBack : Type 0
QueriesAreReadBack = (asking : Asking) (text : List ℕ) (ident : ℕ) → is_domain text ≡ true
    → length asking.own.0 ≡ 4 → length asking.server.0 ≡ 4 → IsAsked asking text ident

-- A record as its bytes (RFC 1035, section 4.1.3): the labels of its owner and what ends them; ten bytes of type, class, time to live and
-- length; its content.
pub record Spelled : Type 0 where
  pub owner : List (List ℕ)
  pub ending : List ℕ
  pub fields : List ℕ
  pub content : List ℕ

-- The root's empty label, or a pointer.
abbrev pub is_ending : List ℕ → Bool
is_ending (b ∷ []) = b == 0
is_ending (b ∷ c ∷ []) = nat_le 192 b
is_ending bytes = false

pub record IsSpelled (s : Spelled) : Type 0 where
  pub owner : list_all has_label_size s.owner ≡ true
  pub ending : is_ending s.ending ≡ true
  pub fields : length s.fields ≡ 10
  pub content : word_at s.fields 8 ≡ length s.content

abbrev pub spelled_bytes : Spelled → List ℕ
spelled_bytes s = (flat_map label_bytes s.owner ++ s.ending) ++ (s.fields ++ s.content)

-- Its fields.
abbrev pub record_of : Spelled → Record
record_of s = record { kind = word_at s.fields 0; class = word_at s.fields 2; content = s.content }

-- The records that are read from bytes are those that the bytes represent: n of them, or all before bytes that represent none.
pub record AreSpelled (n : ℕ) (bytes : List ℕ) : Type 0 where
  pub list : List Spelled
  pub rest : List ℕ
  pub each : AllByRecursion IsSpelled list
  pub whole : bytes ≡ flat_map spelled_bytes list ++ rest
  pub same : records n bytes ≡ map record_of list
  pub all : (length list ≡ n) ⊎ ((s : Spelled) (more : List ℕ) → IsSpelled s → rest ≡ spelled_bytes s ++ more → ⊥)

abbrev pub RecordsAreSpelled : Type 0
RecordsAreSpelled = (n : ℕ) (bytes : List ℕ) → AreSpelled n bytes
