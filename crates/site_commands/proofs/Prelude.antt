-- The names that the proofs of this crate cite: of std, of the crates below, and of its own definitions. Declares nothing.
pub use Rattle.file_tree.specs.Prelude.{FindsInFiles, HasLoadCause, HoldsFile, LacksFile, Opens, SiteContent, files_of, site_read}
pub use Rattle.file_tree.specs.declared.load_fault.LoadFault.{LoadFault}
pub use Rattle.file_tree.specs.declared.load_fault.LoadFault.TheVariants.{Bad, NoMemory, Shelf}
pub use Rattle.site_commands.specs.Prelude.{Due, Ends, EndsAsDue, Gathers, IsTooLong, NamedContent, WasRead, due_of, list_of, page_due}
pub use Rattle.site_commands.specs.Prelude.{with_first}
unfoldable pub use Rattle.site_commands.specs.Prelude.{gathered}
pub use Rattle.site_commands.specs.declared.site_end.SiteEnd.{SiteEnd}
pub use Rattle.site_image.specs.Prelude.{File, fault, ◌>>=◌}
pub use Rattle.site_image.specs.declared.TheConstants.{LONGEST_IMAGE}
pub use Rattle.site_image.specs.declared.site_error.SiteError.{SiteError}
pub use Rattle.site_image.specs.declared.site_error.SiteWhy.TheVariants.{TooLong}
pub use Rattle.std.proofs.Common.{Err, Global, List, None, Ok, Option, Result, Some, Vec, [], ap, append-nil, append_assoc, arith, drop}
pub use Rattle.std.proofs.Common.{get_or, inl, inr, length, refl, subst, sym, ℕ, ◌++◌, ◌+◌, ◌-◌, ◌<◌, ◌∙◌, ◌∷◌, ◌≡◌, ◌≤◌}
pub use Rattle.std.proofs.lemmas.Bool.{le-ltb, lt-ltb}
pub use Rattle.std.proofs.lemmas.List.{at_drop_all, at_drop_more}
pub use Rattle.std.specs.Prelude.{IsSomeAnd, if◌then◌else◌, nat_lt, option_and_then, option_map, ⊤}
pub use Rattle.uip_edge.specs.Prelude.{Files, HeldFile, IsMissing, Rose, WorkUnfailed, WorkView, WritesEnd, work_view}
pub use Rattle.web_pages.specs.Prelude.{zero_page}
