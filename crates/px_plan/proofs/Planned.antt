-- The plan of a query whose condition was taken apart.
use Rattle.std.proofs.Common.{◌≡◌, ◌↔◌, ℕ, List, sym, subst, Option, Some, None, Result, Ok, Err}
use Rattle.px_values.specs.declared.row.Value.{Value}
use Rattle.px_expr.specs.declared.bound.Bound.{Bound}
use Rattle.px_tables.specs.declared.index.Index.{Index}
use Rattle.px_tables.specs.declared.table.Table.{Table}
use Rattle.px_tables.specs.declared.found.Found.{Found}
use Rattle.px_bind.specs.declared.request.Query.{Query}
use Rattle.px_conjuncts.specs.Conjuncts.{all_true, conjuncts_of_filter}
use Rattle.px_conjuncts.proofs.Conditions.{condition_is}
use Rattle.px_conjuncts.proofs.Rests.{conjuncts_are, none_true}
use Rattle.px_plan.specs.PathColumns.{path_of}
use Rattle.px_plan.specs.Naming.{columns_named}
use Rattle.px_plan.specs.Plans.{AnswersPlan, IsPlan, IsSelected, conjuncts}
use Rattle.px_plan.specs.Asked.{AnswersBy, IsPlanOf, asked_of}
use Rattle.px_plan.specs.declared.plan.Asked.{Asked}
use Rattle.px_plan.specs.declared.plan.Plan.{Plan}
use Rattle.px_plan.specs.declared.plan.PlanFault.{PlanFault}
use Rattle.px_plan.specs.declared.plan.PlanFault.TheVariants.{IndexJoin, Memory}

selected_is : (filter : Option Bound) (row : List Value) → IsSelected filter row ↔ all_true row (conjuncts_of_filter filter)
selected_is None row = (λ h. none_true row, λ h. tt)
selected_is (Some b) row = condition_is b row

pub plan_is : (t : Table) (q : Query) (by : Option Index) (p : Plan) → IsPlanOf t (asked_of q) by p → IsPlan t q by p
plan_is t q by p h = record {
  path = h.path;
  table_name = h.table_name;
  index_name = h.index_name;
  equal = h.equal;
  bounded = h.bounded;
  sort = h.sort;
  rest = h.rest;
  keys = h.keys;
  rows = λ row fits.
      let selected = selected_is q.filter row in
      let parts = conjuncts_are (path_of t by) (conjuncts q) row in
      let keys = h.keys row fits in (
        λ s. (let k = parts.0 (selected.0 s) in (keys.1 k.0, subst (λ (bs : List Bound). all_true row bs) (sym h.rest) k.1)),
        λ s. selected.1 (parts.1 (keys.0 s.0, subst (λ (bs : List Bound). all_true row bs) h.rest s.1)),
      );
  shown = h.shown;
  order = h.order;
  limit = h.limit;
}

pub answers_are : (found : Found) (point : Option ℕ) (q : Query) (r : Result Plan PlanFault) → AnswersBy found point (asked_of q) (columns_named q) r → AnswersPlan found point q r
answers_are found point q (Ok p) h = (h.0, h.1, plan_is found.table q h.0 p h.2)
answers_are found point q (Err IndexJoin) h = h
answers_are found point q (Err Memory) h = tt

pub answers_from : (found : Found) (point : Option ℕ) (q : Query) (a : Asked) (columns : List ℕ) (r : Result Plan PlanFault) → a ≡ asked_of q → columns ≡ columns_named q → AnswersBy found point a columns r → AnswersPlan found point q r
answers_from found point q a columns r e f h =
    answers_are found point q r (subst (λ (ns : List ℕ). AnswersBy found point (asked_of q) ns r) f (subst (λ (x : Asked). AnswersBy found point x columns r) e h))
