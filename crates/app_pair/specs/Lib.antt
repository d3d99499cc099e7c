pub mod PairNumbers
pub mod PairSpec
pub mod PairRepresents
pub mod TwoApplications
pub mod Worked
pub mod Lemmas
