use Rattle.nbd_session.proofs.PartLaws.{is_parts, one_list, parts, parts_begin, parts_end, parts_none, parts_silent}
use Rattle.nbd_session.proofs.laws.parts_laws.Goals as goal

pub returns : goal.returns
returns c start n = record {
  exists = λ text. (parts start n text, is_parts start n text);
  one = one_list start n;
  none = parts_none start n;
  begin = parts_begin start n;
  ends = parts_end start n;
  silent = parts_silent start n;
}
