pub mod Rows
pub mod PartLaws
pub mod EntryLaws
pub mod ImageLaws
pub mod PartPlaces
mod WorkedImages
mod Prelude
