-- What Open answers (document 01, "The table and its calls", Open and refusal 9; document 02, T-08): the table's own answer, which is refusal 9
-- where the table's length or a setting is wrong; what it leaves is `opened`, beside it. Assumes nothing.
pub use Rattle.table.specs.Opened.{open_answer}
