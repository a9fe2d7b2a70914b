pub mod Bytes
pub mod Parsing
pub mod Judged
