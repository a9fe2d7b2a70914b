pub mod Plain
pub mod Nodes
pub mod Makers
pub mod Agree
pub mod Rows
pub mod Questions
pub mod History
