pub mod SetAsideFacts
pub mod UnreadFacts
