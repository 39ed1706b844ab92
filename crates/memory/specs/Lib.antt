pub mod Heap
pub mod Stands
pub mod Replies
pub mod Found
pub mod Noting
