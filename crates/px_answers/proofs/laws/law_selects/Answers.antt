use Rattle.px_plan.specs.PathColumns.{path_of}
use Rattle.px_plan.proofs.IndexRows.{row_has_key}
use Rattle.px_answers.proofs.Exactly.{values-before}
use Rattle.px_answers.proofs.Selecting.{select-is, select-stays}
use Rattle.px_answers.proofs.laws.law_selects.Goals as goal

pub returns-clause-answers : goal.returns-clause-answers
returns-clause-answers c b es p scn point path first last rows chosen h = select-is b es p scn point path first last rows chosen h

pub returns-clause-stays : goal.returns-clause-stays
returns-clause-stays c b es more p found by point s legal low drawn h = select-stays b es more p found by point s legal low drawn h

pub returns-clause-values : goal.returns-clause-values
returns-clause-values c t by q x y f g = values-before q (path_of t by) x y (row_has_key t by x f) (row_has_key t by y g)
