-- The names that the proofs of this crate cite: of std, of the crates below, and of its own definitions. Declares nothing.
pub use Rattle.icmp_echo.specs.Prelude.{echo_fate, echo_message, echo_reply}
pub use Rattle.icmp_echo.specs.declared.fate.IcmpFate.{IcmpFate}
pub use Rattle.icmp_echo.specs.declared.fate.IcmpFate.TheVariants.{Checksum, NotEcho, Short}
pub use Rattle.packet_buffer.specs.Prelude.{datagram_in}
pub use Rattle.std.proofs.Common.{Bool, List, None, Option, Some, [], ap, append-nil, arith, drop, eqb, false, get_or, if◌then◌else◌, inl}
pub use Rattle.std.proofs.Common.{inr, length, length-append, length-drop, length-take, ltb, map, not, refl, slice_index, slice_range, sym}
pub use Rattle.std.proofs.Common.{take, true, ℕ, ◌*◌, ◌++◌, ◌+◌, ◌-◌, ◌<◌, ◌||◌, ◌∙◌, ◌∷◌, ◌≡◌, ◌≢◌, ◌≤◌}
pub use Rattle.std.proofs.lemmas.Grind.{common_steps}
pub use Rattle.std.proofs.lemmas.List.{drop-drop, drop-take, drop_all, drop_at, drop_more, take-take, take_at, take_rest}
pub use Rattle.std.specs.Prelude.{replicate}
pub use Rattle.uip_ipv4.proofs.Facts.{head_facts}
pub use Rattle.uip_wire.proofs.Folding.{folded_cases, folded_most}
pub use Rattle.uip_wire.specs.Prelude.{address_at, checksum_of, word_at, word_sum, written}
unfoldable pub use Rattle.uip_wire.specs.Prelude.{folded}
