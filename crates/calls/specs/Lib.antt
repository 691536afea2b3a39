-- What the calls answer and leave, as definitions on the bytes that are lent. A reader believes them all.
pub mod Told
pub mod Open
pub mod Checks
pub mod Submit
pub mod Run
pub mod Read
