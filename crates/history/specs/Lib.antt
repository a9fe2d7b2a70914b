pub mod Calls
pub mod Ran
pub mod Account
pub mod History
