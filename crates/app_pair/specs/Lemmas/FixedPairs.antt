-- `Fixed` can be one of a pair.
use Rattle.std.proofs.Common.{inl, refl}
use Rattle.app_events.specs.Prelude.{fixed_spec}
use Rattle.app_pair.specs.PairSpec.{CanBePaired}

pub fixed_can_pair : CanBePaired fixed_spec
fixed_can_pair = record {
  port = record {
    connected = λ numbers port. refl;
    newdata = λ numbers p piece. refl;
    prepare = λ numbers p now. refl;
    acked = λ numbers p count. refl;
    polled = λ numbers p. refl;
  };
  snapshots = record {
    connected = λ numbers port. refl;
    newdata = λ numbers p piece. refl;
    prepare = λ numbers p now. inl refl;
    acked = λ numbers p count. refl;
    polled = λ numbers p. refl;
  };
}
