mod Kept
mod Order
