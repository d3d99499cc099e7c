pub mod Workload
pub mod WorkedWorkload
pub mod Prelude
