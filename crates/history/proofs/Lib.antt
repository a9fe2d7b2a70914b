pub mod Running
pub mod Theorem
