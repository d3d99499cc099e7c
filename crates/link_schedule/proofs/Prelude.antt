-- The names that the proofs of this crate cite: of std, of the crates below, and of its own definitions. Declares nothing.
pub use Rattle.hex.specs.Hex.{decode_of}
unfoldable pub use Rattle.hex.specs.Hex.{decode_pairs}
pub use Rattle.hex.specs.declared.error.FromHexError.{FromHexError}
pub use Rattle.link_schedule.specs.Clients.{Plan, got, is_target, plan_of, plan_with, raw, request_of, side_of}
pub use Rattle.link_schedule.specs.Events.{bare_forms, by_verb, damage, event_of_words, forms_with_one, window}
unfoldable pub use Rattle.link_schedule.specs.Events.{bare, with_one}
pub use Rattle.link_schedule.specs.Kept.{Keeps, are_apart, client_in_range, event_in_range, is_between}
pub use Rattle.link_schedule.specs.Numbers.{address, in_range, named, within, ◌>>=◌}
pub use Rattle.link_schedule.specs.Reading.{BadText, SchedulePlan, is_passed_over, meets, nothing_yet, read_line, read_lines, read_words}
pub use Rattle.link_schedule.specs.Reading.{reads_on, with_event, with_line}
unfoldable pub use Rattle.link_schedule.specs.Reading.{read_text, with_plan}
pub use Rattle.link_schedule.specs.Represents.{content_of}
pub use Rattle.link_schedule.specs.Worked.{AreWorkedSchedules}
pub use Rattle.link_schedule.specs.declared.event.Event.{Event}
pub use Rattle.link_schedule.specs.declared.event.Event.TheVariants.{Aborts, Again, Closes, Damage, Give, Opens, Ping, Tick, Window}
pub use Rattle.link_schedule.specs.declared.line.Line.{Line}
pub use Rattle.link_schedule.specs.declared.sides.ClientSide.{ClientSide}
pub use Rattle.link_schedule.specs.declared.why.Why.{Why}
pub use Rattle.link_schedule.specs.declared.why.Why.TheVariants.{Clients, Form, NoClient, Ports}
pub use Rattle.std.proofs.Common.{Bool, Bor, Err, IfOk, List, None, Ok, Option, Result, Some, [], ap, arith, cond, drop, eqb, false, get_or}
pub use Rattle.std.proofs.Common.{leb, length, map, not, refl, rules, subst, sym, tests, true, vec_len, ℕ, ◌&&◌, ◌++◌, ◌+◌, ◌<◌, ◌||◌, ◌∙◌}
pub use Rattle.std.proofs.Common.{◌∷◌, ◌≡◌, ◌≤◌}
pub use Rattle.std.proofs.lemmas.Bool.{and_from, and_parts, le-leb, leb-false, leb-true, not-true, or_parts}
pub use Rattle.std.proofs.lemmas.Iterator.Consumers.{map_from_collect}
pub use Rattle.std.proofs.lemmas.Iterator.Splits.{YieldsList-from_slice_split}
pub use Rattle.std.proofs.lemmas.List.{drop_all, drop_more, length-append, length-map}
pub use Rattle.std.proofs.lemmas.List.Folds.{list_all-append, list_any-append}
pub use Rattle.std.specs.List.{list_all, list_any, onto_first, slice_split}
pub use Rattle.std.specs.Prelude.{bytes_eq, codes}
pub use Rattle.uip_wire.specs.Prelude.{is_numeral, numeral}
unfoldable pub use Rattle.uip_wire.specs.Prelude.{quad_of}
