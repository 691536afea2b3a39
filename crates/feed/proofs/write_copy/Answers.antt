-- `write_copy` meets its contract: the text of 109, the row, and the report writer.
use Rattle.feed.proofs.Answers.{text_width, copied_room, copied_wrote}
use Rattle.feed.proofs.write_copy.Goals as goal

pub slice_bounds-write_report-end : goal.slice_bounds-write_report-end
slice_bounds-write_report-end c = text_width c.client_text-width.ensures c.requires.group_len_bound

pub write_report-requires : goal.write_report-requires
write_report-requires c = record {
  row_len_bound = copied_room c.client_text-width.ensures c.requires.group_len_bound _ _ _ _ c.copy_row.ensures c.requires.fields_len_bound;
  in_bounds = c.requires.in_bounds;
}

pub returns : goal.returns
returns c = copied_wrote c.client_text-width.ensures c.requires.group_len_bound _ _ _ _ c.copy_row.ensures c.write_report.ensures
