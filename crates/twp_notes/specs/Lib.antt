pub mod Records
pub mod FieldNotes
pub mod NotesFaults
pub mod NotesTexts
pub mod Laws
pub mod steps
