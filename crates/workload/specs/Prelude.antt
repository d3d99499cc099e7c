-- The names of the definitions of this crate that other files cite, passed on from one place. Declares nothing.
pub use Rattle.workload.specs.WorkedWorkload.{AreWorkedWorkloads}
pub use Rattle.workload.specs.Workload.{client_of, event_drawn, events_of, happens, numbered_from, words_from, workload_of}
