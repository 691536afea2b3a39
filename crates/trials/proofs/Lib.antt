-- The laws of `trials`: Texts, for the samples; Counting, for the changed reports. Nothing here need be believed.
pub mod Texts
pub mod Counting
