-- A plan is by the path that its query takes, where the same indexes are usable.
use Rattle.std.proofs.Common.{◌≡◌, inl, inr, ℕ, Bool, true, false, ◌&&◌, cond, List, [], ◌∷◌, ◌++◌, map, refl, sym, ap, subst, ◌∙◌, Option, Some, None, Ok, append-nil, if◌then◌else◌}
use Rattle.std.specs.List.{filter, flat_map}
use Rattle.std.specs.Str.{bytes_eq}
use Rattle.std.proofs.lemmas.Grind.{flat_map-append}
use Rattle.px_bind.specs.declared.request.Hint.{Hint}
use Rattle.px_bind.specs.declared.request.Hint.TheVariants as hints
use Rattle.px_bind.specs.declared.request.Query.{Query}
use Rattle.px_conjuncts.specs.Conjuncts.{conjuncts_in, conjuncts_of, conjuncts_of_filter}
use Rattle.px_expr.specs.declared.bound.Bound.{Bound, Or', And', Not', Row_of-Bound, end_of-Bound, more_of-Bound}
use Rattle.px_expr.specs.declared.bound.Bound.TheVariants as bounds
use Rattle.px_plan.specs.Asked.{TakesFor, asked_of, columns_asked}
use Rattle.px_plan.specs.Choice.{IsBest, TakesPath, candidates, followed_hint, hinted, if_usable, index_named, is_usable, path_or_else, rank_of}
use Rattle.px_plan.specs.Naming.{columns_in, columns_in_all, columns_named, filter_columns, holds_all}
use Rattle.px_plan.specs.Plans.{AnswersPlan, IsChosen, conjuncts, key_name}
use Rattle.px_plan.specs.declared.plan.Plan.{Plan}
use Rattle.px_planned.specs.Queries.{IsPathTaken, by_index}
use Rattle.px_tables.specs.declared.found.Found.{Found}
use Rattle.px_tables.specs.declared.index.Index.{Index}
use Rattle.px_tables.specs.declared.table.Table.{Table}
use Rattle.px_trail.specs.Answers.{IsAmong}

-- ---- the columns that a query names

mutual
  columns_of : (b : Bound) → flat_map columns_in (conjuncts_of b) ≡ columns_in b
  columns_of (And' shape parts) = columns_of_all parts
  columns_of (Or' shape parts) = append-nil (columns_in_all parts)
  columns_of (Not' shape part) = append-nil (columns_in_all part)
  columns_of (bounds.Test t) = append-nil (columns_in (bounds.Test t))

  columns_of_all : {m : _} → (parts : Row_of-Bound m) → flat_map columns_in (conjuncts_in parts) ≡ columns_in_all parts
  columns_of_all end_of-Bound = refl
  columns_of_all (more_of-Bound b rest) =
      flat_map-append columns_in (conjuncts_of b) (conjuncts_in rest) ∙ ap (λ (cs : List ℕ). cs ++ flat_map columns_in (conjuncts_in rest)) (columns_of b) ∙ ap (λ (cs : List ℕ). columns_in b ++ cs) (columns_of_all rest)

columns_filter : (filter : Option Bound) → flat_map columns_in (conjuncts_of_filter filter) ≡ filter_columns filter
columns_filter None = refl
columns_filter (Some b) = columns_of b

named_is : (q : Query) → columns_named q ≡ columns_asked (asked_of q)
named_is q = ap (λ (cs : List ℕ). q.shown ++ (cs ++ map (λ p. p.column) q.order)) (sym (columns_filter q.filter))

-- ---- the same indexes are usable

module _ (point other : Option ℕ) where
  abbrev AreSame : List Index → Type 0
  AreSame xs = (i : Index) → IsAmong i xs → is_usable point i ≡ is_usable other i

  first : (x : Index) (xs : List Index) → AreSame (x ∷ xs) → is_usable point x ≡ is_usable other x
  unfolding IsAmong
  first x xs same = same x (inl refl)

  rest : (x : Index) (xs : List Index) → AreSame (x ∷ xs) → AreSame xs
  unfolding IsAmong
  rest x xs same = λ i a. same i (inr a)

  same_filter : (t : Table) (columns : List ℕ) (xs : List Index) → AreSame xs → filter (λ i. is_usable point i && holds_all t i columns) xs ≡ filter (λ i. is_usable other i && holds_all t i columns) xs
  same_filter t columns [] same = refl
  same_filter t columns (x ∷ xs) same =
      ap (λ (b : Bool). cond (b && holds_all t x columns) (x ∷ filter (λ i. is_usable point i && holds_all t i columns) xs) (filter (λ i. is_usable point i && holds_all t i columns) xs)) (first x xs same)
      ∙ ap (λ (ys : List Index). cond (is_usable other x && holds_all t x columns) (x ∷ ys) ys) (same_filter t columns xs (rest x xs same))

  same_named : (xs : List Index) (name : List ℕ) → AreSame xs → if_usable point (index_named xs name) ≡ if_usable other (index_named xs name)
  same_named [] name same = refl
  same_named (x ∷ xs) name same = by_name (same_named xs name (rest x xs same)) (bytes_eq x.name name) refl
    where
      by_name : if_usable point (index_named xs name) ≡ if_usable other (index_named xs name) → (b : Bool) → bytes_eq x.name name ≡ b → if_usable point (index_named (x ∷ xs) name) ≡ if_usable other (index_named (x ∷ xs) name)
      by_name more true e =
          let is : index_named (x ∷ xs) name ≡ Some x = ap (λ (b : Bool). if b then Some x else index_named xs name) e in
          ap (if_usable point) is ∙ ap (λ (b : Bool). if b then Some (Some x) else None) (first x xs same) ∙ sym (ap (if_usable other) is)
      by_name more false e =
          let is : index_named (x ∷ xs) name ≡ index_named xs name = ap (λ (b : Bool). if b then Some x else index_named xs name) e in
          ap (if_usable point) is ∙ more ∙ sym (ap (if_usable other) is)

  same_hint : (xs : List Index) (hint : Hint) → AreSame xs → followed_hint xs point hint ≡ followed_hint xs other hint
  same_hint xs hints.NoIndex same = refl
  same_hint xs (hints.Index name) same = same_named xs name same

  same_hinted : (xs : List Index) (hs : List Hint) → AreSame xs → hinted xs point hs ≡ hinted xs other hs
  same_hinted xs [] same = refl
  same_hinted xs (h ∷ hs) same =
      ap (λ (o : Option (Option Index)). path_or_else o (hinted xs point hs)) (same_hint xs h same) ∙ ap (λ (o : Option (Option Index)). path_or_else (followed_hint xs other h) o) (same_hinted xs hs same)

-- ---- the plan

chosen_is : (q : Query) (found : Found) (point : Option ℕ) (stamp : ℕ) (i : Option Index) → ((x : Index) → IsAmong x found.indexes → is_usable point x ≡ is_usable (Some stamp) x) → IsChosen found point q i → TakesFor found (Some stamp) (asked_of q) (columns_asked (asked_of q)) i
chosen_is q found point stamp i same h =
    let t = found.table in
    let choices : candidates t point (columns_named q) found.indexes ≡ candidates t (Some stamp) (columns_named q) found.indexes = ap (λ (xs : List Index). None ∷ map Some xs) (same_filter point (Some stamp) t (columns_named q) found.indexes same) in
    let one = subst (λ (o : Option (Option Index)). TakesPath o t (columns_named q) (IsBest (rank_of t (conjuncts q) q.order) (candidates t point (columns_named q) found.indexes)) i) (same_hinted point (Some stamp) found.indexes q.hints same) h in
    let two = subst (λ (cs : List (Option Index)). TakesPath (hinted found.indexes (Some stamp) q.hints) t (columns_named q) (IsBest (rank_of t (conjuncts q) q.order) cs) i) choices one in
    subst (λ (columns : List ℕ). TakesPath (hinted found.indexes (Some stamp) q.hints) t columns (IsBest (rank_of t (conjuncts q) q.order) (candidates t (Some stamp) columns found.indexes)) i) (named_is q) two

pub explained_is : (q : Query) (found : Found) (point : Option ℕ) (stamp : ℕ) (p : Plan) → ((x : Index) → IsAmong x found.indexes → is_usable point x ≡ is_usable (Some stamp) x) → AnswersPlan found point q (Ok p) → (i : Option Index) × (p.by ≡ key_name i) × IsPathTaken (asked_of q) found stamp (by_index i)
explained_is q found point stamp p same h = (h.0, h.2.path, (h.0, chosen_is q found point stamp h.0 same h.1, refl))
