pub mod WesternSections
