-- What a handle keeps: a device, or none.
use Rattle.std.specs.declared.option.Option.{Option}
use Rattle.frame_device.specs.declared.device.FrameDevice.{FrameDevice}
use Rattle.frame_device.specs.declared.ether.Ethernet.{Ethernet}
use Rattle.own_app.specs.declared.app.OwnApp.{OwnApp}
use Rattle.own_app.specs.declared.shared.OwnShared.{OwnShared}

-- a device on Ethernet with the application
abbrev pub OwnEther : Type 0
OwnEther = FrameDevice OwnApp Ethernet OwnShared

abbrev pub Kept : Type 0
Kept = Option OwnEther
