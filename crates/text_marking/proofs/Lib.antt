pub mod Numbers
pub mod Moved
pub mod Separated
pub mod Steps
pub mod PutLists
pub mod PutAndTaken
