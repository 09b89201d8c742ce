pub mod Mutex
pub mod MutexRules
pub mod MutexLaws
pub mod ProjectionLaws
