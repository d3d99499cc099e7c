-- The names of the definitions of this crate that other files cite, passed on from one place. Declares nothing.
pub use Rattle.site_image.specs.ConstantValues.{ConstantValues}
pub use Rattle.site_image.specs.Faults.{after_entry, entry_fault, entry_file, fault, file_count, refuse, unless, version_of, ◌>>=◌}
unfoldable pub use Rattle.site_image.specs.Faults.{entries, image_head, read_image, scripts}
pub use Rattle.site_image.specs.Files.{File, file_named, has_name, kind_of}
pub use Rattle.site_image.specs.Grammar.{IsFile, IsImage, IsKindIn, entry, image, long_text, magic, short_text}
pub use Rattle.site_image.specs.Names.{is_kind, is_kind_byte, is_name, is_name_byte, is_script, kind_by_name}
pub use Rattle.site_image.specs.Pages.{body_length_by, misses, page_length, page_length_by, piece_length_by, script_fault, script_fault_by}
pub use Rattle.site_image.specs.Parts.{after_content, after_kind, after_text, byte_length, content, content_fault}
pub use Rattle.site_image.specs.Parts.{first_of, kind_fault, kind_given, long_length, name_fault, text}
pub use Rattle.site_image.specs.Places.{IsPart, IsWithin, file_in, files_in}
