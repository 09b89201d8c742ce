pub mod Heap
pub mod Prio
pub mod PrioLaws
