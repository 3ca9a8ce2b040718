pub mod BoxesWords
pub mod MakeWords
pub mod SameWords
pub mod ShowWords
pub mod Words
pub mod CommandNames
-- Inner: no other crate cites these.
pub mod Command
pub mod CommandWords
pub mod MakeFound
