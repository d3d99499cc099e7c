-- The results of opening a handle.
use Rattle.std.specs.Prelude.{ℕ, List}
use Rattle.c_pages.specs.Prelude.{OpensWith}
use Rattle.uip_c.specs.FrameHandles.{OpensEtherAs}
use Rattle.uip_c.specs.Handles.{OpensAs}
use Rattle.uip_c.specs.Kept.{Kept}

-- A device for a line was opened with the files at this address, or one on Ethernet at this address and hardware address, with this mask
-- and this router.
abbrev pub OpensFine : List ℕ → List ℕ → Kept → Kept → Type 0
OpensFine image own old new = OpensWith image (λ files. OpensAs files (record { 0 = own }) old new)

abbrev pub OpensEther : List ℕ → List ℕ → List ℕ → List ℕ → List ℕ → Kept → Kept → Type 0
OpensEther image own mac mask router old new =
    OpensWith image (λ files. OpensEtherAs files (record { 0 = own }) (record { 0 = mac })
    (record { mask = record { 0 = mask }; router = record { 0 = router } }) old new)
