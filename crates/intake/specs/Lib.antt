pub mod Reply
pub mod Filing
pub mod Replies
