pub mod AgeTable
