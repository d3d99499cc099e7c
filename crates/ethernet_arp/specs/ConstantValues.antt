-- The constants of the code that definitions cite, with their values.
use Rattle.std.specs.Prelude.{◌≡◌, ℕ}
use Rattle.ethernet_arp.specs.declared.sizes.TheConstants.{SMALLEST_FRAME, LARGEST_FRAME, ARP_ENTRIES, ARP_TICKS, SMALLEST_DATAGRAM}

pub record ConstantValues : Type 0 where
  pub smallest_frame : SMALLEST_FRAME ≡ 14
  pub largest_frame : LARGEST_FRAME ≡ 1514
  pub arp_entries : ARP_ENTRIES ≡ 8
  pub arp_ticks : ARP_TICKS ≡ 2400
  pub smallest_datagram : SMALLEST_DATAGRAM ≡ 20
