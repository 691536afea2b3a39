-- The laws of `request`. Nothing here need be believed.
-- Keys: a `match` on a tag against a list of tags; Judging: what a value of each shape says; Insides: fields lie within their
-- part; Gathering: the walk over a body;
-- Answers: from what was gathered to the answer; Clashes: fields against each other; Told: what is known of a request that
-- passed; Requests: the ranges of its numbers; Saying: the characters and places of its texts; Refusals: what a session Reject
-- says.
pub mod Keys
pub mod Judging
pub mod Insides
pub mod Gathering
pub mod Answers
pub mod Clashes
pub mod Told
pub mod Requests
pub mod Saying
pub mod Refusals
