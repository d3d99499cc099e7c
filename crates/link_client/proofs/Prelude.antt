-- The names that the proofs of this crate cite: of std, of the crates below, and of its own definitions. Declares nothing.
pub use Rattle.link_client.specs.Prelude.{AbstractClient, Client, ClientStep, Did, client_datagram, client_receives, has_more_to_send, idle}
pub use Rattle.link_client.specs.Prelude.{is_opened, is_receiving, received_with, abstract_client, syn_of, takes_text}
unfoldable pub use Rattle.link_client.specs.Prelude.{sends_next, takes_in_order}
pub use Rattle.link_client.specs.declared.client_state.ClientState.{ClientState}
pub use Rattle.link_client.specs.declared.client_state.ClientState.TheVariants.{Closing, Reset}
pub use Rattle.link_client.specs.declared.setup.Setup.{Setup}
pub use Rattle.link_client.specs.declared.steps.Received.{Received}
pub use Rattle.std.proofs.Common.{Bool, IsSome, List, None, Option, Some, [], ap, arith, drop, false, if◌then◌else◌, length, length-append}
pub use Rattle.std.proofs.Common.{length-drop, not, refl, rules, slice_range, subst, sym, take, true, ℕ, ◌&&◌, ◌*◌, ◌++◌, ◌+◌, ◌-◌, ◌==◌}
pub use Rattle.std.proofs.Common.{◌||◌, ◌∙◌, ◌∷◌, ◌≡◌, ◌≤◌}
pub use Rattle.std.proofs.Math.Seq.{take-append_seam}
pub use Rattle.std.proofs.lemmas.List.{drop-drop, drop_at, length-take-le}
pub use Rattle.std.proofs.lemmas.Slice.{drop-put_mid}
pub use Rattle.tcp_machine.specs.Prelude.{occupies_sequence_space, plain}
pub use Rattle.tcp_segment.specs.Prelude.{PlainSegment, has_syn, offset_of}
unfoldable pub use Rattle.tcp_segment.specs.Prelude.{datagram_bytes, segment_in}
unfoldable pub use Rattle.uip_ipv4.specs.Prelude.{head_bytes, head_or_fate}
unfoldable pub use Rattle.uip_wire.specs.Prelude.{folded}
