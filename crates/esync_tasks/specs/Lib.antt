pub mod Answered
pub mod Counted
pub mod Joined
pub mod Polled
pub mod Refused
pub mod RunQueue
pub mod Selected
pub mod Side
