pub mod JoinLaws
pub mod BaseLaws
pub mod LastLaws
pub mod ApartLaws
pub mod ChoiceLaws
pub mod OwnerLaws
