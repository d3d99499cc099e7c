pub mod PairActs
pub mod PairParts
