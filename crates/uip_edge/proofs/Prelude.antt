-- The names that the proofs of this crate cite: of std, of the crates below, and of its own definitions. Declares nothing.
pub use Rattle.std.proofs.Common.{Err, IsErr, List, None, Ok, OnErr, Option, Result, Some, [], ap, append-nil, append_assoc, arith, drop}
pub use Rattle.std.proofs.Common.{false, get_or, length, length-append, map, min, nat_lt, refl, subst, sym, take, true, ℕ, ◌++◌, ◌+◌, ◌-◌}
pub use Rattle.std.proofs.Common.{◌<◌, ◌∙◌, ◌∷◌, ◌≡◌, ◌≤◌}
pub use Rattle.std.proofs.lemmas.Bool.{ltb-false, ltb-true}
pub use Rattle.std.proofs.lemmas.List.{drop-drop, drop_all, drop_more, length-map, length-take-le, take-append-drop, take_rest}
pub use Rattle.std.specs.Io.KnownBytes.{Appends, Keeps}
pub use Rattle.uip_edge.specs.Prelude.{AppendsPrefix, BreaksOff, Consumes, EndsBy, HasCause, IsCalm, LineView, ShelfView, SinkView, TookAll}
pub use Rattle.uip_edge.specs.Prelude.{TurnsBy, Writes, byte_run, bytes_among}
pub use Rattle.uip_edge.specs.declared.item.Item.{Item}
pub use Rattle.uip_edge.specs.declared.item.Item.TheVariants.{Byte, Quiet}
pub use Rattle.uip_edge.specs.declared.serve_end.ServeEnd.{ServeEnd}
pub use Rattle.uip_edge.specs.declared.turn.Turn.TheVariants.{Ended}
