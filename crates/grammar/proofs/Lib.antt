pub mod ScanSteps
pub mod ScanComplete
pub mod ScanSound
pub mod ScanRaise
pub mod ScanExact
pub mod Prefix
pub mod ReadBack
pub mod ReadExact
