-- The laws of `kamurjesh`. Nothing here need be believed.
-- Quotes: a level as a signed yield or price.
pub mod Quotes
