pub mod Numbers
pub mod Events
pub mod Clients
pub mod Reading
pub mod Represents
pub mod Kept
pub mod Worked
pub mod Answer
