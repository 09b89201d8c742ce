pub mod Log
pub mod LogLaws
pub mod Counts
