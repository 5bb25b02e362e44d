pub mod Resets
pub mod Ends
