-- The constants of the code that definitions cite, with their values.
use Rattle.std.specs.Prelude.{◌≡◌}
use Rattle.rexmit_timer.specs.declared.timer.TheConstants.{FIRST_COUNT, TEXT_LIMIT, SYN_ACK_LIMIT}

pub record ConstantValues : Type 0 where
  pub first_count : FIRST_COUNT ≡ 3
  pub text_limit : TEXT_LIMIT ≡ 8
  pub syn_ack_limit : SYN_ACK_LIMIT ≡ 5
