pub mod Joins
pub mod Counts
pub mod Judging
