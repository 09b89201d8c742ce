pub mod OnceSet
mod Handed
pub mod WatchKept
pub mod WatchNews
