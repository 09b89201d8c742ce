pub mod Thinking
