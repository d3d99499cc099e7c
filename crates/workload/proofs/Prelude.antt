-- The names that the proofs of this crate cite: of std, of the crates below, and of its own definitions. Declares nothing.
pub use Rattle.link_schedule.specs.Clients.{Plan}
pub use Rattle.link_schedule.specs.Kept.{Keeps, are_apart, client_in_range, event_in_range, is_between}
pub use Rattle.link_schedule.specs.Reading.{SchedulePlan, meets}
pub use Rattle.link_schedule.specs.declared.event.Event.{Event}
pub use Rattle.link_schedule.specs.declared.event.Event.TheVariants.{Again, Half, Lose, Opens, Reverse, Round, Tick, Twice}
pub use Rattle.link_schedule.specs.declared.line.Line.{Line}
unfoldable pub use Rattle.rand_core.specs.Steps.{first_words}
pub use Rattle.rand_pcg.specs.Lcg.{Lcg, increment_of, started}
pub use Rattle.rand_pcg.specs.Pcg.{multiplier_64, pcg32}
pub use Rattle.std.proofs.Common.{Bool, Err, List, Ok, OnOk, Result, [], ap, append-nil, append_assoc, arith, false, get_or, if◌then◌else◌}
pub use Rattle.std.proofs.Common.{length, map, nat_le, not, refl, replicate, rules, subst, suc, sym, take, tests, true, zero, ℕ, ◌%◌, ◌&&◌}
pub use Rattle.std.proofs.Common.{◌*◌, ◌++◌, ◌+◌, ◌-◌, ◌/◌, ◌<◌, ◌==◌, ◌||◌, ◌∙◌, ◌∷◌, ◌≡◌, ◌≤◌}
pub use Rattle.std.proofs.lemmas.Grind.{common_steps}
pub use Rattle.std.proofs.lemmas.List.{length-append, take_more}
pub use Rattle.std.proofs.lemmas.List.Concat.{flat_map-cons}
pub use Rattle.std.proofs.lemmas.List.Folds.{list_all-append}
pub use Rattle.std.proofs.lemmas.List.FromFn.{length-map-range_with_len, map-range_with_len_more}
pub use Rattle.std.specs.List.{list_all, list_any, range_with_len}
pub use Rattle.std.specs.Prelude.{bytes_eq, codes, flat_map}
pub use Rattle.workload.specs.Prelude.{AreWorkedWorkloads, client_of, event_drawn, events_of, happens, numbered_from, words_from}
pub use Rattle.workload.specs.Prelude.{workload_of}
