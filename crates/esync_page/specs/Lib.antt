pub mod Ended
pub mod Found
