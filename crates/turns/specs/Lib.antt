-- What the contracts and the theorems of `turns` cite. A reader believes Runs, what is said of steps one after another; Turns has
-- what the functions below Run ask for and leave.
pub mod Turns
pub mod Runs
