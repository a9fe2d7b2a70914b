pub mod Backwards
pub mod Same
pub mod Makes
pub mod Structs
pub mod Summed
pub mod Shown
pub mod Texts
pub mod FromText
