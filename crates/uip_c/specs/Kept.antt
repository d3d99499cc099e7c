-- What a handle keeps: a device for a line or on Ethernet, or none.
use Rattle.std.specs.Prelude.{◌≡◌, Bool, false, List, None, Option, Some, true}
use Rattle.c_calls.specs.Prelude.{HasDevice}
use Rattle.guarded_node.specs.declared.guard.GuardCounts.{GuardCounts}
use Rattle.site_image.specs.Prelude.{File}
use Rattle.uip_wire.specs.declared.addr.Addr.{Addr}
use Rattle.uip_node.specs.Prelude.{AbstractNode}
use Rattle.uip_device.specs.Prelude.{NodeRepresents, WebDevice, WebNode}
use Rattle.uip_device.specs.declared.device_web.DeviceWeb.{DeviceWeb}
use Rattle.uip_device.specs.declared.value_pages.ValuePages.{ValuePages}
use Rattle.frame_device.specs.declared.device.FrameDevice.{FrameDevice}
use Rattle.frame_device.specs.declared.ether.Ethernet.{Ethernet}

-- a device on Ethernet with the web server of a site
abbrev pub EtherWeb : Type 0
EtherWeb = FrameDevice ValuePages Ethernet DeviceWeb

-- `OnLine`: for a serial line or a link that carries datagrams.
pub data Kept : Type 0 where
  NoDevice : Kept
  OnLine : WebDevice → Kept
  OnEther : EtherWeb → Kept

abbrev pub is_on_line : Kept → Bool
is_on_line (OnLine d) = true
is_on_line _ = false

abbrev pub is_on_ether : Kept → Bool
is_on_ether (OnEther d) = true
is_on_ether _ = false

abbrev pub has_device : Kept → Bool
has_device NoDevice = false
has_device _ = true

-- the node of the device
abbrev pub node_in : Kept → Option WebNode
node_in NoDevice = None
node_in (OnLine d) = Some d.node
node_in (OnEther d) = Some d.node

-- what the guard of the device counted
abbrev pub counts_in : Kept → Option GuardCounts
counts_in NoDevice = None
counts_in (OnLine d) = Some d.guard.counts
counts_in (OnEther d) = Some d.guard.counts

-- There is a device for a line, or on Ethernet, and P holds of it; there is a device, and P holds of its node.
abbrev pub IsLine : (WebDevice → Type 0) → Kept → Type 0
IsLine P kept = HasDevice OnLine P kept

abbrev pub IsEther : (EtherWeb → Type 0) → Kept → Type 0
IsEther P kept = HasDevice OnEther P kept

abbrev pub HasNode : (WebNode → Type 0) → Kept → Type 0
HasNode P kept = (node : WebNode) × (node_in kept ≡ Some node) × P node

-- There is a device, and P holds of what its guard counted.
abbrev pub HasCounts : (GuardCounts → Type 0) → Kept → Type 0
HasCounts P kept = (counts : GuardCounts) × (counts_in kept ≡ Some counts) × P counts

-- There is a device, and P holds of its files and of each abstract node that its node represents.
abbrev pub HasAbstractNode : (List File → AbstractNode → Type 0) → Kept → Type 0
HasAbstractNode P kept =
    HasNode (λ node. (files : List File) (own : Addr) (n : AbstractNode) → NodeRepresents files own node n → P files n) kept
