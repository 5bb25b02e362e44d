pub mod Sizes
pub mod Exact
