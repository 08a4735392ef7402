pub mod inner
pub mod Answers
pub mod Complete
pub mod Ended
pub mod OneSession
pub mod Run
pub mod Status
pub mod Words
