pub mod Numbers
pub mod Entries
pub mod FairKept
pub mod Handed
pub mod Sums
pub mod FairOrder
mod Parts
