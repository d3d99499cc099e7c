-- The names of the definitions of this crate that other files cite, passed on from one place. Declares nothing.
pub use Rattle.packet_buffer.specs.Buffer.{Buffer, datagram_in}
pub use Rattle.packet_buffer.specs.ConstantValues.{ConstantValues}
pub use Rattle.packet_buffer.specs.Lending.{fitted}
