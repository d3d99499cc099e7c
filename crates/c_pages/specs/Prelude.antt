-- The names of the definitions of this crate that other files cite, passed on from one place. Declares nothing.
pub use Rattle.c_pages.specs.Opening.{IsWordOf, OpensWith, ReportsFault, ReportsRefusal}
pub use Rattle.c_pages.specs.Rows.{IsNoRow, ReportsRow}
