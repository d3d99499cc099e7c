-- The constants of the code that definitions cite, with their values.
use Rattle.std.specs.Prelude.{◌≡◌}
use Rattle.tcp_segment.specs.declared.flags.TheConstants.{FIN, SYN, RST, PSH, ACK}

pub record ConstantValues : Type 0 where
  pub fin : FIN ≡ 1
  pub syn : SYN ≡ 2
  pub rst : RST ≡ 4
  pub psh : PSH ≡ 8
  pub ack : ACK ≡ 16
