-- Laws.
pub mod Small
pub mod Places
pub mod Apart
pub mod Given
pub mod Published
