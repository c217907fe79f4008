pub mod EntryLaws
pub mod QuestionLaws
pub mod KeepingLaws
