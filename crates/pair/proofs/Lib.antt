pub mod Rings
pub mod UntilConcluded
pub mod BooksJoined
pub mod RunsTrue
pub mod Reported
pub mod ReportFits
pub mod OneReply
