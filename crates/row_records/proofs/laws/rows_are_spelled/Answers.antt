use Rattle.byte_fields.proofs.Spellings.{whole_is}
use Rattle.row_records.proofs.RowLaws.{dent_is, session_row_is, kept_is, alloc_row_is, gc_is}
use Rattle.row_records.proofs.laws.rows_are_spelled.Goals as goal

pub returns : goal.returns
returns c = record {
  dent = whole_is _ dent_is;
  session = whole_is _ session_row_is;
  kept = whole_is _ kept_is;
  alloc = whole_is _ alloc_row_is;
  gc = whole_is _ gc_is;
}
