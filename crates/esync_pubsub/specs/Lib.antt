pub mod PubSub
pub mod Steps
pub mod Events
pub mod PubSubRules
pub mod PubSubLaws
pub mod Advance
pub mod Order
pub mod Sizes
