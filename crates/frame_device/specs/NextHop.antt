-- The next hop of a datagram (RFC 1122, section 3.3.1.1).
use Rattle.std.specs.Prelude.{◌≡◌, ◌⊎◌, ◌||◌, if◌then◌else◌, ◌∷◌, [], bit_and, Bool, bytes_eq, List, slice_index, ℕ}
use Rattle.uip_wire.specs.Prelude.{address_at}
use Rattle.uip_wire.specs.declared.addr.Addr.{Addr}
use Rattle.ethernet_arp.specs.Prelude.{Host}
use Rattle.ethernet_arp.specs.declared.mac.Mac.{Mac}
use Rattle.frame_device.specs.declared.network.Network.{Network}

-- An address under a mask, both of four bytes.
abbrev pub masked : List ℕ → List ℕ → List ℕ
masked addr mask =
    bit_and (slice_index addr 0) (slice_index mask 0) ∷ bit_and (slice_index addr 1) (slice_index mask 1)
    ∷ bit_and (slice_index addr 2) (slice_index mask 2) ∷ bit_and (slice_index addr 3) (slice_index mask 3) ∷ []

abbrev pub no_address : List ℕ
no_address = 0 ∷ 0 ∷ 0 ∷ 0 ∷ []

-- An address is on the link of a host if there is no router, or if under the mask it is the same as that of the host.
abbrev pub is_on_link : Network → List ℕ → List ℕ → Bool
is_on_link network own target =
    bytes_eq network.router.0 no_address || bytes_eq (masked target network.mask.0) (masked own network.mask.0)

-- The next hop to a target: the target itself if it is on the link, else the router.
abbrev pub next_hop : Network → List ℕ → List ℕ → List ℕ
next_hop network own target = if is_on_link network own target then target else network.router.0

-- Every address is on the link.
abbrev pub IsOneLink : Network → Type 0
IsOneLink network = (network.mask.0 ≡ no_address) ⊎ (network.router.0 ≡ no_address)

-- A host on Ethernet: its addresses, and its network.
pub record Interface : Type 0 where
  pub host : Host
  pub network : Network

-- The host with these two addresses, in this network.
abbrev pub interface_at : Addr → Mac → Network → Interface
interface_at own mac network = record { host = record { addr = own.0; mac = mac.0 }; network = network }

-- The next hop of a datagram that it sends.
abbrev pub hop_of : Interface → List ℕ → List ℕ
hop_of k datagram = next_hop k.network k.host.addr (address_at datagram 16)
