pub mod Completing
pub mod NeverLaws
pub mod PartLaws
pub mod PromiseLaws
pub mod ReadLaws
pub mod ServeLaws
pub mod SiteLaws
pub mod WordLaws
pub mod ReportedCompleting
mod Prelude
