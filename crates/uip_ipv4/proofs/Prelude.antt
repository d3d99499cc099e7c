-- The names that the proofs of this crate cite: of std, of the crates below, and of its own definitions. Declares nothing.
pub use Rattle.std.proofs.Common.{Bool, Err, List, None, Ok, Option, Result, Some, [], ap, arith, eqb, false, if◌then◌else◌, length}
pub use Rattle.std.proofs.Common.{length-append, ltb, map, not, refl, slice_index, sym, take, true, ℕ, ◌%◌, ◌++◌, ◌+◌, ◌-◌, ◌||◌, ◌∙◌, ◌∷◌}
pub use Rattle.std.proofs.Common.{◌≡◌, ◌≤◌}
pub use Rattle.std.proofs.lemmas.Grind.{common_steps}
pub use Rattle.std.proofs.lemmas.List.{length-take-le}
pub use Rattle.std.specs.Str.{bytes_eq}
pub use Rattle.uip_ipv4.specs.Prelude.{IsHeadOf, ReadsBack, head_by, number_of, numbered_with, proto_of}
unfoldable pub use Rattle.uip_ipv4.specs.Prelude.{head_bytes, head_or_fate, numbered_head}
pub use Rattle.uip_ipv4.specs.declared.fate.IpFate.{IpFate}
pub use Rattle.uip_ipv4.specs.declared.fate.IpFate.TheVariants.{Checksum, Fragment, Length, NotOurs, Protocol, Short, Version}
pub use Rattle.uip_ipv4.specs.declared.head.IpHead.{IpHead}
pub use Rattle.uip_ipv4.specs.declared.proto.Proto.{Proto}
pub use Rattle.uip_ipv4.specs.declared.proto.Proto.TheVariants.{Icmp, Tcp}
pub use Rattle.uip_wire.proofs.Folding.{folded_closes}
pub use Rattle.uip_wire.proofs.Words.{same_word}
pub use Rattle.uip_wire.specs.Prelude.{address_at, checksum_of, word_at, word_sum}
unfoldable pub use Rattle.uip_wire.specs.Prelude.{folded}
