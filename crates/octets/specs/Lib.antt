-- What the contracts of `octets` cite: bytes at places of a list, runs of bytes written one after another, and tests
-- over a range of numbers. A reader believes Octets, Written and Characters; Tests has the two forms of test that
-- loops decide.
pub mod Tests
pub mod Octets
pub mod Written
pub mod Characters
