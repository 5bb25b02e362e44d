pub mod Layout
pub mod Decoding
pub mod Seen
pub mod Operands
pub mod Answers
