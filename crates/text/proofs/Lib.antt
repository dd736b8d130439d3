-- `Beginning` and `Reading`: how a term begins and goes on. `Words` and `Numbering`: the number of a token; `Counting`: of all tokens.
-- `Answering`: the answer.
pub mod Beginning
pub mod Reading
pub mod Numbering
pub mod Words
pub mod Counting
pub mod Answering
