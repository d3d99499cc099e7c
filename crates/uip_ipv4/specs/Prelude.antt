-- The names of the definitions of this crate that other files cite, passed on from one place. Declares nothing.
pub use Rattle.uip_ipv4.specs.Head.{IsHeadOf, ReadsBack, head_by, head_with, number_of, numbered_with, payload_of, proto_of}
unfoldable pub use Rattle.uip_ipv4.specs.Head.{head_bytes, head_or_fate, numbered_head}
