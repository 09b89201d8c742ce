pub mod Slots
pub mod Lending
pub mod ZeroRules
pub mod ZeroLaws
pub mod LendingLaws
pub mod Turned
pub mod Shared
