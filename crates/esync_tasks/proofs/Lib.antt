pub mod Counting
pub mod Orderly
