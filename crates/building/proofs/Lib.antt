pub mod Growth
pub mod Making
pub mod Views
pub mod Exits
pub mod InRow
pub mod Whole
pub mod Codes
pub mod Shifts
