pub mod Refusals
pub mod Keys
pub mod Figures
pub mod Reads
pub mod Same
