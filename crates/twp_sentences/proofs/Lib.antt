pub mod BlamedFacts
pub mod LotRecordFacts
pub mod NumberFacts
pub mod ShownFacts
pub mod UnderlinedFacts
