-- The names that the proofs of this crate cite: of std, of the crates below, and of its own definitions. Declares nothing.
pub use Rattle.app_events.specs.Prelude.{AppSpec, AppState, CanSupply, CanSend, FixedRepresents, Grows, IsLawful, IsPrefixOf, IsRepresented}
pub use Rattle.app_events.specs.Prelude.{fixed_same_left, fixed_spec, fixed_text, hello, text_left}
pub use Rattle.app_events.specs.declared.fixed.Fixed.{Fixed}
pub use Rattle.app_events.specs.declared.want.Want.{Want}
pub use Rattle.app_events.specs.declared.want.Want.TheVariants.{Send}
pub use Rattle.std.proofs.Common.{ap, append-nil, arith, le_trans, length-append, length-drop, refl, subst, sym, ◌∙◌}
pub use Rattle.std.proofs.Math.Logic.{∥∥₁_elim, ∥∥₁_map}
pub use Rattle.std.specs.Coded.{le_prop}
pub use Rattle.std.specs.Prelude.{List, [], drop, length, take, ℕ, ◌+◌, ◌∷◌, ◌≡◌, ◌≤◌}
