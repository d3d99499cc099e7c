-- The constants of the code that definitions name, and their values.
-- [add: counter] Its constant, by its value.
use Rattle.std.specs.Prelude.{◌≡◌}
use Rattle.uip_node.specs.declared.counter.TheConstants.{IP_IN, IP_OUT, OVERLONG_FRAMES, IP_SHORT, IP_VERSION, IP_LENGTH, IP_FRAGMENT}
use Rattle.uip_node.specs.declared.counter.TheConstants.{IP_CHECKSUM, IP_NOT_OURS, IP_PROTOCOL, ICMP_IN, ICMP_OUT, ICMP_REFUSED}
use Rattle.uip_node.specs.declared.counter.TheConstants.{ICMP_CHECKSUM, TCP_IN, TCP_OUT, TCP_REFUSED, TCP_CHECKSUM, TCP_AGAIN, NO_SLOT_LEFT}

pub record ConstantValues : Type 0 where
  pub ip_in : IP_IN ≡ 0
  pub ip_out : IP_OUT ≡ 1
  pub overlong_frames : OVERLONG_FRAMES ≡ 2
  pub ip_short : IP_SHORT ≡ 3
  pub ip_version : IP_VERSION ≡ 4
  pub ip_length : IP_LENGTH ≡ 5
  pub ip_fragment : IP_FRAGMENT ≡ 6
  pub ip_checksum : IP_CHECKSUM ≡ 7
  pub ip_not_ours : IP_NOT_OURS ≡ 8
  pub ip_protocol : IP_PROTOCOL ≡ 9
  pub icmp_in : ICMP_IN ≡ 10
  pub icmp_out : ICMP_OUT ≡ 11
  pub icmp_refused : ICMP_REFUSED ≡ 12
  pub icmp_checksum : ICMP_CHECKSUM ≡ 13
  pub tcp_in : TCP_IN ≡ 14
  pub tcp_out : TCP_OUT ≡ 15
  pub tcp_refused : TCP_REFUSED ≡ 16
  pub tcp_checksum : TCP_CHECKSUM ≡ 17
  pub tcp_again : TCP_AGAIN ≡ 18
  pub no_slot_left : NO_SLOT_LEFT ≡ 19
