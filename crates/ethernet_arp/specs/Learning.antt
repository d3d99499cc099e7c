-- Which addresses are known, defined over the list of all learnings and ticks, without a table.
use Rattle.std.specs.Prelude.{◌+◌, ◌&&◌, if◌then◌else◌, ◌∷◌, [], Bool, bytes_eq, length, List, nat_lt, None, Option, Some, ℕ}
use Rattle.std.specs.List.{list_any}
use Rattle.std.specs.Option.{option_and_then, option_map_or, option_or}
use Rattle.ethernet_arp.specs.declared.sizes.TheConstants.{ARP_ENTRIES, ARP_TICKS}

-- An IP address and a hardware address, each as its bytes.
pub record Pair : Type 0 where
  pub addr : List ℕ
  pub mac : List ℕ

-- An event of an Ethernet host's own: an ARP request or reply taught it a pair, or a tick.
pub data Act : Type 0 where
  Asked : Pair → Act
  Replied : Pair → Act
  Ticked : Act

-- The pair that an event taught.
abbrev pub taught : Act → Option Pair
taught (Asked pair) = Some pair
taught (Replied pair) = Some pair
taught Ticked = None

-- A learning: the hardware address that was learnt, and all later events.
pub record Learning : Type 0 where
  pub mac : List ℕ
  pub later : List Act

-- The learning of an address from this pair.
abbrev pub learning_by : List ℕ → Option Pair → List Act → Option Learning
learning_by addr pair later =
    option_and_then (λ p. if bytes_eq p.addr addr then Some (record { mac = p.mac; later = later }) else None) pair

-- The last learning of an address.
abbrev pub last_learning : List ℕ → List Act → Option Learning
last_learning addr [] = None
last_learning addr (act ∷ acts) = option_or (last_learning addr acts) (learning_by addr (taught act) acts)

-- The number of ticks.
abbrev pub ticks_in : List Act → ℕ
ticks_in [] = 0
ticks_in (Ticked ∷ acts) = ticks_in acts + 1
ticks_in (act ∷ acts) = ticks_in acts

abbrev pub among : List ℕ → List (List ℕ) → Bool
among addr others = list_any (λ other. bytes_eq other addr) others

-- One more address among others, each of which occurs once.
abbrev pub with_one : Option Pair → List (List ℕ) → List (List ℕ)
with_one pair others = option_map_or (λ p. if among p.addr others then others else p.addr ∷ others) pair others

-- The addresses that were learnt, each once.
abbrev pub addresses_of : List Act → List (List ℕ)
addresses_of [] = []
addresses_of (act ∷ acts) = with_one (taught act) (addresses_of acts)

-- Since this learning there were fewer than 2400 ticks, and learnings of fewer than 8 other addresses.
abbrev pub is_fresh : Learning → Bool
is_fresh l = nat_lt (ticks_in l.later) ARP_TICKS && nat_lt (length (addresses_of l.later)) ARP_ENTRIES

-- An address is known exactly if its last learning is fresh. Its hardware address is that learning's.
abbrev pub known : List Act → List ℕ → Option (List ℕ)
known acts addr = option_and_then (λ l. if is_fresh l then Some l.mac else None) (last_learning addr acts)
