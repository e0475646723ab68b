pub mod SetAside
pub mod Unread
