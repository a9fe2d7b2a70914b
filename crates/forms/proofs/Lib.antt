pub mod At
pub mod Known
pub mod Texts
pub mod Leading
pub mod Bared
pub mod Numbers
