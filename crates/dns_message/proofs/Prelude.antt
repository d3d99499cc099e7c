-- The names that the proofs of this crate cite: of std, of the crates below, and of its own definitions. Declares nothing.
pub use Rattle.dns_message.specs.Messages.{query_message}
pub use Rattle.dns_message.specs.Names.{after_pointer, after_the_name, is_label, is_label_byte, label_bytes, labels}
unfoldable pub use Rattle.dns_message.specs.Names.{is_domain}
pub use Rattle.dns_message.specs.ReadBack.{AreSpelled, IsAsked, IsSpelled, QueriesAreReadBack, RecordsAreSpelled, Spelled, has_label_size}
pub use Rattle.dns_message.specs.ReadBack.{is_ending, record_of, spelled_bytes}
pub use Rattle.dns_message.specs.Records.{Record, address_in, answer_by, answer_of_records, first_record, is_address, plain_record}
pub use Rattle.dns_message.specs.Records.{record_after, records, records_by}
pub use Rattle.dns_message.specs.Replies.{way_there}
unfoldable pub use Rattle.dns_message.specs.Replies.{answer_to, query_datagram}
pub use Rattle.dns_message.specs.declared.answer.Answer.{Answer}
pub use Rattle.dns_message.specs.declared.answer.Answer.TheVariants.{Address, Code, NoAddress}
pub use Rattle.dns_message.specs.declared.query.Asking.{Asking}
pub use Rattle.memchr.specs.Find.{IsFirstByte, is_byte}
pub use Rattle.std.proofs.Common.{Bool, List, None, Option, Some, [], add-one, ap, append-nil, append_assoc, arith, cond, drop, eqb, false}
pub use Rattle.std.proofs.Common.{get_or, if◌then◌else◌, inl, inr, is_some, leb, length, length-append, length-drop, length-take, ltb, map}
pub use Rattle.std.proofs.Common.{nat_le, option_and_then, option_map, refl, slice_index, slice_range, subst, suc, sym, take, true, zero, ℕ}
pub use Rattle.std.proofs.Common.{◌&&◌, ◌*◌, ◌++◌, ◌+◌, ◌-◌, ◌<◌, ◌∙◌, ◌∷◌, ◌≡◌, ◌≤◌, ◌⊎◌}
pub use Rattle.std.proofs.Math.ListN.{get_or-append}
pub use Rattle.std.proofs.Math.Seq.{split_at}
pub use Rattle.std.proofs.lemmas.List.{drop-drop, drop_at, get_or-take, take-append-drop, take_at, take_rest}
pub use Rattle.std.proofs.lemmas.List.Elements.{All-from_get_or}
pub use Rattle.std.proofs.lemmas.List.Folds.{drop_split}
pub use Rattle.std.proofs.lemmas.List.Splits.{join_with_byte-slice_split, length-slice_split, slice_split_at, slice_split_none}
pub use Rattle.std.specs.List.{AllByRecursion, find, flat_map, join_with_byte, list_all}
pub use Rattle.udp_datagram.proofs.Back.{reads_back}
unfoldable pub use Rattle.udp_datagram.specs.Prelude.{udp_data, udp_datagram}
pub use Rattle.uip_ipv4.proofs.Back.{not_less, passes}
unfoldable pub use Rattle.uip_ipv4.specs.Prelude.{head_or_fate, numbered_head}
pub use Rattle.uip_wire.proofs.Words.{same_word}
pub use Rattle.uip_wire.specs.Prelude.{bytes_of, word_at}
unfoldable pub use Rattle.uip_wire.specs.Prelude.{folded}
pub use Rattle.uip_wire.specs.declared.addr.Addr.{Addr}
