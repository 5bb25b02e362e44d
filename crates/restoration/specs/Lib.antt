pub mod Records
pub mod Plans
pub mod State
pub mod Numbers
pub mod Steps
pub mod Received
pub mod Sound
pub mod Complete
