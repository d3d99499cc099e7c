-- The results of opening a handle.
use Rattle.std.specs.Prelude.{ℕ, List, Result, Ok, Err}
use Rattle.c_pages.specs.Prelude.{OpensWith}
use Rattle.ethernet_arp.specs.declared.mac.Mac.{Mac}
use Rattle.file_tree.specs.Prelude.{files_of}
use Rattle.frame_device.specs.declared.network.Network.{Network}
use Rattle.uip_both_c.specs.BothSpec.{site_of}
use Rattle.uip_both_c.specs.Handles.{IsFreshBothEther, OpensBothAs}
use Rattle.uip_both_c.specs.Kept.{BothEther, Kept}
use Rattle.uip_device.specs.Prelude.{FailsAs, IsOfImage}
use Rattle.uip_device.specs.declared.web_setup.OpenFault.{OpenFault}
use Rattle.uip_wire.specs.declared.addr.Addr.{Addr}

-- A fresh device as this host with the site of this image, or the reason why there is none.
pub record IsOpenedBoth (image : List ℕ) (own : Addr) (mac : Mac) (network : Network) (d : BothEther) : Type 0 where
  pub site : IsOfImage image (site_of d.node)
  pub fresh : IsFreshBothEther (files_of (site_of d.node)) own mac network d

abbrev pub OpensBothEther : List ℕ → Addr → Mac → Network → Result BothEther OpenFault → Type 0
OpensBothEther image own mac network (Ok d) = IsOpenedBoth image own mac network d
OpensBothEther image own mac network (Err fault) = FailsAs image fault

-- The site is one of this image, and a device was opened with its files at this address and hardware address, with this mask and this
-- router.
abbrev pub OpensBoth : List ℕ → List ℕ → List ℕ → List ℕ → List ℕ → Kept → Kept → Type 0
OpensBoth image own mac mask router old new =
    OpensWith image (λ files. OpensBothAs files (record { 0 = own }) (record { 0 = mac })
    (record { mask = record { 0 = mask }; router = record { 0 = router } }) old new)
