-- The pages of a device can be one of a pair.
use Rattle.std.proofs.Common.{◌≡◌, ◌⊎◌, inl, inr, Bool, true, false, ◌&&◌, List, [], ◌∷◌, ◌++◌, if◌then◌else◌, refl}
use Rattle.app_events.specs.Prelude.{AppState, Snapshot}
use Rattle.app_pair.specs.PairSpec.{CanBePaired}
use Rattle.generators.specs.Prelude.{ScriptFunctions}
use Rattle.site_image.specs.Prelude.{File}
use Rattle.web_pages.specs.Prelude.{is_acknowledged_by, waits_for_capture_by, wanted, web_spec_by}

either_port : (waits : Bool) (p : AppState) (k : Snapshot)
    → (if waits then record p { snapshots = p.snapshots ++ k ∷ [] } else p).port ≡ p.port
either_port true p k = refl
either_port false p k = refl

either_capture : (waits : Bool) (p : AppState) (k : Snapshot)
    → ((if waits then record p { snapshots = p.snapshots ++ k ∷ [] } else p).snapshots ≡ p.snapshots)
    ⊎ ((if waits then record p { snapshots = p.snapshots ++ k ∷ [] } else p).snapshots ≡ p.snapshots ++ k ∷ [])
either_capture true p k = inr refl
either_capture false p k = inl refl

abbrev waits : {F : Type 0} → ScriptFunctions F → List File → AppState → Bool
waits g files p = is_acknowledged_by g files p && waits_for_capture_by g files (wanted p.input) p

pub pages_can_pair : {F : Type 0} (g : ScriptFunctions F) (files : List File) → CanBePaired (web_spec_by g files)
pages_can_pair g files = record {
  port = record {
    connected = λ numbers port. refl;
    newdata = λ numbers p piece. refl;
    prepare = λ numbers p now. either_port (waits g files p) p (record { numbers = numbers; now = now });
    acked = λ numbers p count. refl;
    polled = λ numbers p. refl;
  };
  snapshots = record {
    connected = λ numbers port. refl;
    newdata = λ numbers p piece. refl;
    prepare = λ numbers p now. either_capture (waits g files p) p (record { numbers = numbers; now = now });
    acked = λ numbers p count. refl;
    polled = λ numbers p. refl;
  };
}
