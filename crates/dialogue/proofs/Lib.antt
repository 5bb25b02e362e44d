pub mod Dropped
pub mod Listing
pub mod Walks
pub mod Sweep
pub mod Refusing
pub mod Order
