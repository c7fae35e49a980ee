pub mod Marks
pub mod Taking
pub mod Putting
pub mod PutAndTaken
