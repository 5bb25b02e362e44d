pub mod Invokes
pub mod Register
