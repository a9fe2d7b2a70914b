pub mod Offering
pub mod Matching
pub mod Held
