-- The names of the definitions of this crate that other files cite, passed on from one place. Declares nothing.
pub use Rattle.line_medium.specs.Media.{Datagram, MediumInput, MediumSpec, Overlong, Own, ShowsBrought}
pub use Rattle.line_medium.specs.Media.{ReportsBrought, acts_among, all_decoded, all_written}
