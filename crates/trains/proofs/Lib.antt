pub mod Standing
pub mod Known
pub mod Changes
pub mod Opening
pub mod Follow
pub mod Apart
