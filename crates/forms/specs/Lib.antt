pub mod Steps
pub mod Forms
pub mod Spans
