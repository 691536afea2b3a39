-- What must be believed of `members`, in reading order: Members (the lists that a slice of members stands for), Apart (how an
-- inner function holds them; nothing that is promised rests on it).
pub mod Members
pub mod Apart
