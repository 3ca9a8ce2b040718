-- Inner: no other crate cites these.
pub mod Shown
pub mod Notes
pub mod ShownNotes
pub mod Recorded
pub mod Replays
pub mod Busy
pub mod LockView
pub mod Kept
pub mod Made
pub mod Below
pub mod Told
pub mod Valid
pub mod Passes
pub mod Replies
pub mod Answers
