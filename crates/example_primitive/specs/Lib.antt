pub mod PostBox
