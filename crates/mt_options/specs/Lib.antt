pub mod Tenants
pub mod Words
