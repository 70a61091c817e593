pub mod TenantLemmas
pub mod WordLemmas
