pub mod Beside
pub mod Counted
pub mod Logged
mod Parts
