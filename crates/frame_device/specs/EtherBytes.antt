-- Ethernet frames of bytes decode to bytes.
use Rattle.std.proofs.Common.{List}
use Rattle.uip_node.proofs.Basics.{choose}
use Rattle.line_medium.specs.Prelude.{MediumInput}
use Rattle.ethernet_arp.specs.Prelude.{is_taken, Act}
use Rattle.ethernet_arp.proofs.ByteLaws.{AllOfBytes, frame_bytes, none}
use Rattle.frame_device.specs.EtherFrames.{ether_frames}
use Rattle.frame_device.specs.FrameSpecs.{DecodesBytes}
use Rattle.frame_device.specs.NextHop.{Interface}

pub ether_brings_bytes : (k : Interface) → DecodesBytes (ether_frames k)
ether_brings_bytes k frame h =
    choose (λ (l : List (MediumInput Act)). AllOfBytes l) (is_taken frame) _ _ (λ e. frame_bytes k.host frame h) (λ e. none)
