use Rattle.px_indexrow.proofs.ClosesSeen.{closes_view, rows_closes}
use Rattle.px_indexrow.proofs.FixesSeen.{base_view, fix_view}
use Rattle.px_indexrow.proofs.MarksSeen.{base_owned, closes_owned, marks_owned, marks_view, rows_marks}
use Rattle.px_indexrow.proofs.laws.law_batches.Goals as goal

pub returns : goal.returns
returns c = record {
  marks = rows_marks;
  closes = rows_closes;
  one_mark = marks_view;
  one_close = closes_view;
  base = base_view;
  fix = λ sh f g placed r h state k own t v. fix_view sh f g placed r h state k own t v;
  own = λ f g r s old new. (marks_owned f g r s old new, closes_owned f g r s old new, base_owned f g r s new);
}
