mod Known
mod Wakers
mod Bytes
mod Played
