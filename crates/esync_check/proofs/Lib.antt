mod Recorded
mod Checked
