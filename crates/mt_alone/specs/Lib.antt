pub mod TenantMaps
pub mod Texts
pub mod Numbers
pub mod Runs
pub mod Callers
