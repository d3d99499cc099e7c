-- What a handle keeps: a device, or none.
use Rattle.std.specs.declared.option.Option.{Option}
use Rattle.app_pair.specs.declared.pair.AppPair.{AppPair}
use Rattle.app_pair.specs.declared.pair.PairShared.{PairShared}
use Rattle.frame_device.specs.declared.device.FrameDevice.{FrameDevice}
use Rattle.frame_device.specs.declared.ether.Ethernet.{Ethernet}
use Rattle.own_app.specs.declared.app.OwnApp.{OwnApp}
use Rattle.own_app.specs.declared.shared.OwnShared.{OwnShared}
use Rattle.uip_device.specs.declared.device_web.DeviceWeb.{DeviceWeb}
use Rattle.uip_device.specs.declared.value_pages.ValuePages.{ValuePages}
use Rattle.uip_node.specs.Prelude.{Node}

-- the two applications on one connection, what the connections share, and a node with both
abbrev pub BothApps : Type 0
BothApps = AppPair ValuePages OwnApp

abbrev pub BothShared : Type 0
BothShared = PairShared DeviceWeb OwnShared

abbrev pub BothNode : Type 0
BothNode = Node BothApps BothShared

-- a device on Ethernet with both
abbrev pub BothEther : Type 0
BothEther = FrameDevice BothApps Ethernet BothShared

abbrev pub Kept : Type 0
Kept = Option BothEther
