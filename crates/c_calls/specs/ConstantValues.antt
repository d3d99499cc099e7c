-- The statuses that definitions and contracts cite, with their values, which are those of include/uip.h and include/uip_app.h.
use Rattle.std.specs.Prelude.{◌≡◌}
use Rattle.c_calls.specs.declared.status.TheConstants.{OK, NO_DEVICE, BAD_ARGUMENT, HAS_DEVICE, BAD_IMAGE, NO_MEMORY, OUTPUT_PENDING}
use Rattle.c_calls.specs.declared.status.TheConstants.{WRONG_LINK, NOT_READY}

pub record ConstantValues : Type 0 where
  pub ok : OK ≡ 0
  pub no_device : NO_DEVICE ≡ 1
  pub bad_argument : BAD_ARGUMENT ≡ 2
  pub has_device : HAS_DEVICE ≡ 3
  pub bad_image : BAD_IMAGE ≡ 4
  pub no_memory : NO_MEMORY ≡ 5
  pub output_pending : OUTPUT_PENDING ≡ 6
  pub wrong_link : WRONG_LINK ≡ 7
  pub not_ready : NOT_READY ≡ 8
