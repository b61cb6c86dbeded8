pub mod NamedDisk
pub mod StoreLooks
pub mod StoreRunning
