pub mod Data
pub mod Groups
pub mod Messages
pub mod Dialogues
pub mod Listed
