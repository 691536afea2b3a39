-- What back offices are promised: Theorems. The others are the way there, and nothing in them need be believed.
pub mod Copying
pub mod Feeding
pub mod Theorems
