-- The names of the definitions of this crate that other files cite, passed on from one place. Declares nothing.
pub use Rattle.udp_datagram.specs.Udp.{IsWholeUdp, ReadsBack, after_header, carries_udp, is_of_other_protocol}
pub use Rattle.udp_datagram.specs.Udp.{sent_sum, udp_in, udp_pseudo_header, udp_sum, udp_with}
unfoldable pub use Rattle.udp_datagram.specs.Udp.{udp_data, udp_datagram}
