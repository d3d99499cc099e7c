-- What a handle owns.
use base.Fml.{Fml, ftrue}
use denote.RattleType.{RattleType}
use denote.RawPtr.{Ptr}
use Rattle.std.specs.declared.option.Option.TheVariants.{None, Some}
use Rattle.std.specs.declared.alloc.Global.{Global}
use Rattle.std.specs.contracts.impls.GlobalAllocator.TheImpl.{ghosts}
use Rattle.std.specs.Box.Ownership.{box_owns}
use Rattle.app_pair.specs.contracts.pair.AppPair as pair
use Rattle.app_pair.specs.contracts.pair.PairShared as pair_shared
use Rattle.frame_device.specs.contracts.device.FrameDevice as frame_device
use Rattle.frame_device.specs.contracts.ether.Ethernet as ethernet
use Rattle.own_app.specs.contracts.app.OwnApp as own_app
use Rattle.own_app.specs.contracts.shared.OwnShared as own_shared
use Rattle.uip_device.specs.contracts.device_web.DeviceWeb as web
use Rattle.uip_device.specs.contracts.value_pages.ValuePages as pages
use Rattle.uip_both_c.specs.BothSpec.{both}
use Rattle.uip_both_c.specs.Kept.{Kept}

-- The memory layout of a device on Ethernet with both applications.
abbrev pub DeviceRow : RattleType
DeviceRow =
    frame_device.the_row (pair.the_row pages.the_row own_app.the_row) ethernet.the_row
    (pair_shared.the_row web.the_row own_shared.the_row) both

-- The device at the pointer, with the right to free its block; nothing if there is no device.
abbrev pub holds : Global → Ptr → Kept → Fml
holds alloc p None = ftrue
holds alloc p (Some d) = box_owns (ghosts.dealloc_token alloc) DeviceRow p d
