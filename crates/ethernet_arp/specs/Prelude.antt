-- The names of the definitions of this crate that other files cite, passed on from one place. Declares nothing.
pub use Rattle.ethernet_arp.specs.ConstantValues.{ConstantValues}
pub use Rattle.ethernet_arp.specs.EtherWay.{closed_by, ether_medium, ether_text, is_taken, is_whole, open_from, writes_at}
pub use Rattle.ethernet_arp.specs.Frames.{Host, arp_begin, arp_brings, arp_packet, arp_reply, arp_request, broadcast, frame_brings}
pub use Rattle.ethernet_arp.specs.Frames.{frame_with, framed, is_arp, is_arp_for, is_datagram, is_sendable, mac_at, no_mac, payload_brings}
pub use Rattle.ethernet_arp.specs.Frames.{sender_of, wrapped, wrapped_to, wrapped_via}
pub use Rattle.ethernet_arp.specs.Learning.{Act, Asked, Learning, Pair, Replied, Ticked, addresses_of, among}
pub use Rattle.ethernet_arp.specs.Learning.{is_fresh, known, last_learning, learning_by, taught, ticks_in, with_one}
pub use Rattle.ethernet_arp.specs.Parts.{Holds, InFrame, TakesIn, brought_from, whole_brings}
pub use Rattle.ethernet_arp.specs.Sendable.{DatagramsFitFrames, FramesBringBytes}
pub use Rattle.ethernet_arp.specs.Sending.{AllGoHome, DatagramsGoHome, GoesHome, frames_from, target_in}
pub use Rattle.ethernet_arp.specs.Shown.{shown_of}
pub use Rattle.ethernet_arp.specs.Table.{AllRemember, AreOlder, AreOrdered, IsAlike, Knows}
pub use Rattle.ethernet_arp.specs.Table.{Remembers, aged, host_of, in_table, is_of, moved_prefix}
pub use Rattle.ethernet_arp.specs.Taking.{IsTaught, came_of}
pub use Rattle.ethernet_arp.specs.Words.{mac_of_text}
pub use Rattle.ethernet_arp.specs.Worked.{ping, pong, question, reply, request, written_for}
pub use Rattle.ethernet_arp.specs.Wrapping.{Puts}
