-- The names that the proofs of this crate cite: of std, of the crates below, and of its own definitions. Declares nothing.
pub use Rattle.app_events.specs.Prelude.{IsByte}
pub use Rattle.device_values.specs.Prelude.{GivenIsShown, html_all_short, html_byte, json_all_short, json_byte, value_given, value_of}
pub use Rattle.generators.proofs.Pasting.{flat_map_next}
pub use Rattle.std.proofs.Common.{Bool, List, [], ap, append_assoc, arith, drop, false, flat_map, get_or, length, length-append, ltb, map}
pub use Rattle.std.proofs.Common.{min, refl, replicate, sym, take, true, ℕ, ◌%◌, ◌*◌, ◌++◌, ◌+◌, ◌-◌, ◌<◌, ◌∙◌, ◌∷◌, ◌≡◌, ◌≤◌}
pub use Rattle.std.proofs.Math.Seq.{drop-append-add, get_or-append_seam, take-append_seam}
pub use Rattle.std.proofs.lemmas.Bool.{ltb-false, ltb-true}
pub use Rattle.std.proofs.lemmas.List.{drop-append-le, drop-replicate, get_or-append_right, get_or_append_left, get_or_default, length-drop}
pub use Rattle.std.proofs.lemmas.List.{length-replicate, length-take-le, take-append-drop, take-append-le, take_at}
pub use Rattle.std.proofs.lemmas.List.Elements.{All-drop, All-head, All-tail, All-take}
pub use Rattle.std.specs.Prelude.{All, slice_range}
