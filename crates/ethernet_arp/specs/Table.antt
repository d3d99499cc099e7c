-- The table of an `Arp` represents a list of learnings and ticks.
use Rattle.std.specs.Prelude.{◌≡◌, ◌<◌, ◌≤◌, ◌+◌, ◌&&◌, ℕ, nat_lt, Bool, false, if◌then◌else◌, List, [], ◌∷◌, ◌++◌, length, take, drop, ⊤}
use Rattle.std.specs.Prelude.{bytes_eq, None, Option, option_map, Some}
use Rattle.std.specs.List.{find, list_any}
use Rattle.ethernet_arp.specs.Frames.{Host}
use Rattle.ethernet_arp.specs.Learning.{Act, Learning, addresses_of, among, known, last_learning, ticks_in}
use Rattle.ethernet_arp.specs.declared.arp.Arp.{Arp}
use Rattle.ethernet_arp.specs.declared.arp.Entry.{Entry}
use Rattle.ethernet_arp.specs.declared.sizes.TheConstants.{ARP_ENTRIES, ARP_TICKS}

abbrev pub host_of : Arp → Host
host_of arp = record { addr = arp.own.0; mac = arp.mac.0 }

-- An entry of this address that is not forgotten.
abbrev pub is_of : List ℕ → Entry → Bool
is_of addr e = nat_lt e.age ARP_TICKS && bytes_eq e.addr.0 addr

-- What a table has for an address, whatever it represents: the hardware address in its first entry that is not forgotten.
abbrev pub in_table : Arp → List ℕ → Option (List ℕ)
in_table arp addr = option_map (λ e. e.mac.0) (find (λ e. is_of addr e) arp.entries)

-- An entry after a tick.
abbrev pub aged : Entry → Entry
aged e = record e { age = if nat_lt e.age ARP_TICKS then e.age + 1 else e.age }

-- The entries with a new one first, in place of that at an index.
abbrev pub moved_prefix : Entry → ℕ → List Entry → List Entry
moved_prefix e place es = e ∷ take place es ++ drop (place + 1) es

-- The same addresses, each as often as before.
pub record IsAlike (xs ys : List (List ℕ)) : Type 0 where
  pub size : length xs ≡ length ys
  pub same : (addr : List ℕ) → among addr xs ≡ among addr ys

-- An entry represents the last learning of its address: the hardware address and the ticks since. Since then the addresses of the entries
-- before it were learnt, and no other.
pub record Remembers (acts : List Act) (prefix : List (List ℕ)) (e : Entry) : Type 0 where
  pub learning : Learning
  pub last : last_learning e.addr.0 acts ≡ Some learning
  pub mac : learning.mac ≡ e.mac.0
  pub age : ticks_in learning.later ≡ e.age
  pub others : IsAlike (addresses_of learning.later) prefix

-- Each entry that is not forgotten does.
abbrev pub AllRemember : List Act → List (List ℕ) → List Entry → Type 0
AllRemember acts prefix [] = ⊤
AllRemember acts prefix (e ∷ es) = (e.age < ARP_TICKS → Remembers acts prefix e) × AllRemember acts (e.addr.0 ∷ prefix) es

-- No entry is older than those after it.
abbrev pub AreOlder : ℕ → List Entry → Type 0
AreOlder age [] = ⊤
AreOlder age (e ∷ es) = (age ≤ e.age) × AreOlder age es

abbrev pub AreOrdered : List Entry → Type 0
AreOrdered [] = ⊤
AreOrdered (e ∷ es) = AreOlder e.age es × AreOrdered es

-- The table after these events.
pub record Knows (arp : Arp) (acts : List Act) : Type 0 where
  pub size : length arp.entries ≡ ARP_ENTRIES
  pub entries : AllRemember acts [] arp.entries
  pub order : AreOrdered arp.entries
  pub rest : (addr : List ℕ) → list_any (λ e. is_of addr e) arp.entries ≡ false → known acts addr ≡ None
