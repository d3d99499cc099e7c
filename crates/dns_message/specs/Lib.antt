pub mod Messages
pub mod Names
pub mod ReadBack
pub mod Records
pub mod Replies
pub mod ConstantValues
