use Rattle.byte_fields.proofs.FieldLaws.{inode_id_is, mode_is, time_is, file_size_is, used_layout_is, kind_is, text_is, path_text_is}
use Rattle.byte_fields.proofs.Numbers.{number_1_is, number_2_is, number_4_is, number_8_is, client_is}
use Rattle.byte_fields.proofs.Spellings.{whole_is}
use Rattle.byte_fields.proofs.laws.fields_are_spelled.Goals as goal

pub returns : goal.returns
returns c = record {
  numbers = (whole_is _ number_1_is, whole_is _ number_2_is, whole_is _ number_4_is, whole_is _ number_8_is);
  inode_id = whole_is _ inode_id_is;
  mode = whole_is _ mode_is;
  time = whole_is _ time_is;
  file_size = whole_is _ file_size_is;
  layout = whole_is _ used_layout_is;
  kind = whole_is _ kind_is;
  client = whole_is _ client_is;
  text = whole_is _ text_is;
  path_text = whole_is _ path_text_is;
}
