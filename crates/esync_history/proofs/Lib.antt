pub mod Lines
pub mod Fitting
pub mod Turning
pub mod Kept
pub mod Stalling
pub mod Starting
pub mod Answering
pub mod Entries
