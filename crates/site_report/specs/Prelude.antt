-- The names of the definitions of this crate that other files cite, passed on from one place. Declares nothing.
pub use Rattle.site_report.specs.Report.{bad_line, file_line, image_report, why_word}
