pub mod Adding
pub mod JournalAnswers
pub mod KnownLines
pub mod Readable
pub mod RenewedLines
pub mod Replies
pub mod Texts
