-- The names of the definitions of this crate that other files cite, passed on from one place. Declares nothing.
pub use Rattle.uip_c.specs.ConstantValues.{ConstantValues}
pub use Rattle.uip_c.specs.EtherWebs.{EtherRepresents, IsFreshEtherWeb, IsOpenedEther, OpensEtherWeb, web_frames_sent, web_link}
pub use Rattle.uip_c.specs.EtherWebs.{web_station_after, web_stations}
pub use Rattle.uip_c.specs.FrameHandles.{DidFrame, DidFrames, EtherAnswers, EtherReadies, IsEtherReady, OfFrameMoves, OpensEtherAs}
pub use Rattle.uip_c.specs.HandleLaws.{CallsFromCConform, ConformOnWire, FramesFromCConform, LineFromCIsServed}
pub use Rattle.uip_c.specs.Handles.{Did, DidAll, HandleAnswers, HandleAnswersOver, HandleGives, HandleProtects, HasText, IsReady, OfMoves}
pub use Rattle.uip_c.specs.Handles.{OpensAs, ProtectsEther, ProtectsLine, Readies, left_text_in, lefts_in}
pub use Rattle.uip_c.specs.Holding.{EtherRow, LineRow, holds}
pub use Rattle.uip_c.specs.Kept.{EtherWeb, HasAbstractNode, HasCounts, HasNode, IsEther, IsLine, Kept, NoDevice, OnEther, OnLine}
pub use Rattle.uip_c.specs.Kept.{counts_in, has_device, is_on_ether, is_on_line, node_in}
pub use Rattle.uip_c.specs.Opening.{OpensEther, OpensFine}
pub use Rattle.uip_c.specs.Taking.{counts_of, kept_of, node_of}
