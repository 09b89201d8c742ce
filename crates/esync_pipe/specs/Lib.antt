pub mod Piped
pub mod Pipe
pub mod Padded
pub mod PipeRules
pub mod PipeLaws
pub mod PipeOrder
pub mod Polls
pub mod Room
