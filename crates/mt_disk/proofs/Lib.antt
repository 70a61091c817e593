pub mod CrashLaws
mod Images
mod EditLaws
mod CutLaws
mod CutImages
mod HeldBytes
mod FileCallLaws
pub mod Debts
