-- What a handle owns.
use base.Fml.{Fml, ftrue}
use denote.RattleType.{RattleType}
use denote.RawPtr.{Ptr}
use Rattle.std.specs.declared.option.Option.TheVariants.{None, Some}
use Rattle.std.specs.declared.alloc.Global.{Global}
use Rattle.std.specs.contracts.impls.GlobalAllocator.TheImpl.{ghosts}
use Rattle.std.specs.Box.Ownership.{box_owns}
use Rattle.frame_device.specs.contracts.device.FrameDevice as frame_device
use Rattle.frame_device.specs.contracts.ether.Ethernet as ethernet
use Rattle.own_app.specs.contracts.app.OwnApp as app
use Rattle.own_app.specs.contracts.app.OwnAppApp.TheImpl.{ghosts as own_app}
use Rattle.own_app.specs.contracts.shared.OwnShared as shared
use Rattle.uip_app_c.specs.Kept.{Kept}

-- The memory layout of a device on Ethernet with the application.
abbrev pub DeviceRow : RattleType
DeviceRow = frame_device.the_row app.the_row ethernet.the_row shared.the_row own_app

-- The device at the pointer, with the right to free its block; nothing if there is no device.
abbrev pub holds : Global → Ptr → Kept → Fml
holds alloc p None = ftrue
holds alloc p (Some d) = box_owns (ghosts.dealloc_token alloc) DeviceRow p d
