pub mod Disk
pub mod Mem
pub mod FileEdits
pub mod Files
pub mod MemFiles
pub mod FileCalls
