pub mod PoolMachine
pub mod Bag
