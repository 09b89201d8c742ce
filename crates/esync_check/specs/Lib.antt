pub mod Recorded
pub mod Checked
