-- The data cells of rows are such as a log takes, and each row's are its own.
use Rattle.std.proofs.Common.{◌≡◌, ◌≢◌, ℕ, zero, suc, ◌+◌, ◌<◌, ◌≤◌, Bool, true, false, cond, ◌&&◌, Option, Some, None, List, [], ◌∷◌, ◌++◌, length, take, get_or, refl, ap, sym, ◌∙◌, subst, arith}
use Rattle.std.specs.Prelude.{nat_eq}
use Rattle.std.specs.Cmp.Lexicographic.{pointwise}
use Rattle.std.specs.List.{AllByRecursion}
use Rattle.std.proofs.lemmas.Bool.{eqb-true}
use Rattle.px_cells.specs.declared.kind.CellKind.{CellKind}
use Rattle.px_cells.specs.declared.kind.CellKind.TheVariants.{Put, Delete, DeleteFamilyVersion, DeleteColumn, DeleteFamily}
use Rattle.px_cells.specs.CellData.{CellData}
use Rattle.px_cells.specs.Contents.{or_else}
use Rattle.px_cells.specs.Order.{Below, GoesWith, IsApart, IsAscending, SamePlace}
use Rattle.px_cells.proofs.Among.{all_has, has_all, reads_from_has}
use Rattle.px_cells.proofs.Contents.{value_from_reads}
use Rattle.px_cells.proofs.Orders as order
use Rattle.px_keptcells.specs.Kept.{HaveOtherKeys, IsFitting, laid}
use Rattle.px_rows.specs.Keys.{IsRightTable, column_in, row_key}
use Rattle.px_rows.specs.Spelled.{FitsColumnOf, FitsTable, FitsWhat, assigned_to, change_cells, change_contents, null_value, put_value, row_spelling}
use Rattle.px_tables.specs.declared.table.Table.{Table}
use Rattle.px_trail.specs.Batches.{is_distinct, rows_of}
use Rattle.px_values.specs.Types.{HasType}
use Rattle.px_values.specs.declared.change.Assignment.{Assignment}
use Rattle.px_values.specs.declared.change.Change.{Change}
use Rattle.px_values.specs.declared.change.What.{What}
use Rattle.px_values.specs.declared.change.What.TheVariants.{Set, Gone}
use Rattle.px_values.specs.declared.row.Value.{Value}
use Rattle.px_values.specs.declared.row.Value.TheVariants.{Null, Number, Truth, Text}
use Rattle.px_phases.specs.Phases.{ArePuts, IsPut}
use Rattle.px_phases.proofs.Rows.{AreTheirs, new_at, other_keys}
use Rattle.px_phases.proofs.Small.{fitting, stored_short}

pub ascending_apart : (cells : List CellData) → IsAscending cells → IsApart cells
ascending_apart [] a = tt
ascending_apart (c ∷ cells) a = (has_all (λ d. SamePlace c d → ⊥) cells (λ d h s. order.apart c d (all_has (Below c) cells d a.0 h) s), ascending_apart cells a.1)

-- a value that is assigned is one that its column may have
assigned_fits : (t : Table) (as' : List Assignment) → AllByRecursion (FitsColumnOf t) as' → (c : ℕ) (v : Value) → assigned_to as' c ≡ Some v → (c < length t.columns) × HasType (column_in t.columns c).column_type v
assigned_fits t [] f c v e = cc
assigned_fits t (a ∷ as') f c v e = by (assigned_to as' c) refl e (λ q. assigned_fits t as' f.1 c v q)
  where
    here : (b : Bool) → nat_eq a.column c ≡ b → cond b (Some a.value) None ≡ Some v → (c < length t.columns) × HasType (column_in t.columns c).column_type v
    here false q z = cc
    here true q z =
        (let same : a.column ≡ c = eqb-true a.column c q in
        let value : a.value ≡ v = cc in
        ((let w = f.0.within in omega arith), subst (λ (n : ℕ). HasType (column_in t.columns n).column_type v) same (subst (HasType (column_in t.columns a.column).column_type) value f.0.has_type)))

    by : (o : Option Value) → assigned_to as' c ≡ o → or_else o (cond (nat_eq a.column c) (Some a.value) None) ≡ Some v → (assigned_to as' c ≡ Some v → (c < length t.columns) × HasType (column_in t.columns c).column_type v) → (c < length t.columns) × HasType (column_in t.columns c).column_type v
    by None q z g = here (nat_eq a.column c) refl z
    by (Some w) q z g = g (q ∙ z)

-- what a change writes at a place is short, and bare if it isn't a put
pub record IsSlight (q : ℕ) (d : CellKind) (v : List ℕ) : Type 0 where
  pub bare : d ≢ Put → v ≡ []
  pub value : length v ≤ 65535
  pub qualifier : q ≤ 255

module _ (t : Table) (right : IsRightTable t) where
  put_slight : (as' : List Assignment) → AllByRecursion (FitsColumnOf t) as' → (c : ℕ) (v : List ℕ) (o : Option Value) → assigned_to as' c ≡ o → put_value (row_spelling t) c o ≡ Some v → IsSlight (suc (suc c)) Put v
  put_slight as' f c v None e z = cc
  put_slight as' f c v (Some Null) e z = cc
  put_slight as' f c v (Some (Number n)) e z = (let w = assigned_fits t as' f c (Number n) e in let l = w.0 in let m = right.columns in record { bare = λ k. absurd (k refl); value = subst (λ (x : List ℕ). length x ≤ 65535) (let y : (row_spelling t).encode c (Number n) ≡ v = cc in y) (stored_short (column_in t.columns c).column_type (Number n) w.1); qualifier = omega arith })
  put_slight as' f c v (Some (Truth n)) e z = (let w = assigned_fits t as' f c (Truth n) e in let l = w.0 in let m = right.columns in record { bare = λ k. absurd (k refl); value = subst (λ (x : List ℕ). length x ≤ 65535) (let y : (row_spelling t).encode c (Truth n) ≡ v = cc in y) (stored_short (column_in t.columns c).column_type (Truth n) w.1); qualifier = omega arith })
  put_slight as' f c v (Some (Text n)) e z = (let w = assigned_fits t as' f c (Text n) e in let l = w.0 in let m = right.columns in record { bare = λ k. absurd (k refl); value = subst (λ (x : List ℕ). length x ≤ 65535) (let y : (row_spelling t).encode c (Text n) ≡ v = cc in y) (stored_short (column_in t.columns c).column_type (Text n) w.1); qualifier = omega arith })

  null_slight : (as' : List Assignment) → AllByRecursion (FitsColumnOf t) as' → (c : ℕ) (v : List ℕ) (o : Option Value) → assigned_to as' c ≡ o → null_value o ≡ Some v → IsSlight (suc (suc c)) DeleteColumn v
  null_slight as' f c v None e z = cc
  null_slight as' f c v (Some Null) e z = (let w = assigned_fits t as' f c Null e in let l = w.0 in let m = right.columns in let y : [] ≡ v = cc in let k = ap length y in record { bare = λ n. sym y; value = omega arith; qualifier = omega arith })
  null_slight as' f c v (Some (Number n)) e z = cc
  null_slight as' f c v (Some (Truth n)) e z = cc
  null_slight as' f c v (Some (Text n)) e z = cc

  change_slight : (w : What) → FitsWhat t w → (q : ℕ) (d : CellKind) (v : List ℕ) → change_cells (row_spelling t) w q d ≡ Some v → IsSlight q d v
  change_slight (Set as') f zero Put v e = cc
  change_slight (Set as') f (suc zero) Put v e = (let y : [] ≡ v = cc in let k = ap length y in record { bare = λ n. absurd (n refl); value = omega arith; qualifier = omega arith })
  change_slight (Set as') f (suc (suc c)) Put v e = put_slight as' f c v (assigned_to as' c) refl e
  change_slight (Set as') f q Delete v e = cc
  change_slight (Set as') f q DeleteFamilyVersion v e = cc
  change_slight (Set as') f zero DeleteColumn v e = cc
  change_slight (Set as') f (suc zero) DeleteColumn v e = cc
  change_slight (Set as') f (suc (suc c)) DeleteColumn v e = null_slight as' f c v (assigned_to as' c) refl e
  change_slight (Set as') f q DeleteFamily v e = cc
  change_slight Gone f q Put v e = cc
  change_slight Gone f q Delete v e = cc
  change_slight Gone f q DeleteFamilyVersion v e = cc
  change_slight Gone f q DeleteColumn v e = cc
  change_slight Gone f zero DeleteFamily v e = (let y : [] ≡ v = cc in let k = ap length y in record { bare = λ n. sym y; value = omega arith; qualifier = omega arith })
  change_slight Gone f (suc q) DeleteFamily v e = cc

  pub put_fits : (s : ℕ) (c : Change) (cells : List CellData) → s < 18446744073709551616 → FitsTable t c.row c.what → length (row_key t c.row) ≤ 1024 → IsPut t s c cells → AllByRecursion IsFitting cells
  put_fits s c cells low fits short p = has_all IsFitting cells (λ x h.
      (let key : x.key ≡ row_key t c.row = all_has (λ x. x.key ≡ row_key t c.row) cells x p.own h in
      let stands : change_contents (row_spelling t) c.row s c.what x.key x.qualifier x.stamp x.kind ≡ Some x.value = (λ i. sym p.values i x.key x.qualifier x.stamp x.kind) ∙ value_from_reads cells x.key x.qualifier x.stamp x.kind x.value (reads_from_has cells x p.list.ascending h) in
      here x key (all_has GoesWith cells x p.list.placed h) (pointwise nat_eq x.key (row_key t c.row)) (nat_eq s x.stamp) refl stands))
    where
      here : (x : CellData) → x.key ≡ row_key t c.row → GoesWith x → (a b : Bool) → nat_eq s x.stamp ≡ b → cond (a && b) (change_cells (row_spelling t) c.what x.qualifier x.kind) None ≡ Some x.value → IsFitting x
      here x key g true true q z =
          (let w = change_slight c.what fits.1 x.qualifier x.kind x.value z in
          let same : s ≡ x.stamp = eqb-true s x.stamp q in
          let k = ap length key in
          fitting x g (record { bare = w.bare; key = omega arith; value = w.value; qualifier = w.qualifier }) (omega arith))
      here x key g true false q z = cc
      here x key g false b q z = cc

-- the rows' cells, one row after another
pub puts_next : (t : Table) (s : ℕ) (cs : List Change) (parts : List (List CellData)) (n : ℕ) (c : Change) (cells : List CellData) → n < length cs → c ≡ get_or cs n c → ArePuts t s (take n cs) parts → IsPut t s c cells → ArePuts t s (take (n + 1) cs) (parts ++ cells ∷ [])
puts_next t s [] parts n c cells l e a p = absurd (omega arith)
puts_next t s (y ∷ cs) [] zero c cells l e a p = (subst (λ (w : Change). IsPut t s w cells) e p, tt)
puts_next t s (y ∷ cs) (x ∷ parts) zero c cells l e a p = absurd a
puts_next t s (y ∷ cs) [] (suc n) c cells l e a p = absurd a
puts_next t s (y ∷ cs) (x ∷ parts) (suc n) c cells l e a p = subst (λ (k : ℕ). ArePuts t s (take k (y ∷ cs)) (x ∷ (parts ++ cells ∷ []))) (next n) (a.0, puts_next t s cs parts n c cells (omega arith) e a.1 p)
  where
    next : (n : ℕ) → suc (n + 1) ≡ suc n + 1
    next n = omega arith

abbrev pub HasKey : Table → List Value → List ℕ → Type 0
HasKey t r k = k ≡ row_key t r

puts_own : (t : Table) (s : ℕ) (cs : List Change) (parts : List (List CellData)) → ArePuts t s cs parts → AreTheirs (HasKey t) (rows_of cs) parts
puts_own t s [] [] a = tt
puts_own t s [] (p ∷ parts) a = absurd a
puts_own t s (c ∷ cs) [] a = absurd a
puts_own t s (c ∷ cs) (p ∷ parts) a = (a.0.own, puts_own t s cs parts a.1)

pub puts_elsewhere : (t : Table) → ((r r' : List Value) → row_key t r ≡ row_key t r' → r ≡ r') → (s : ℕ) (cs : List Change) (parts : List (List CellData)) (n : ℕ) (c : Change) (cells : List CellData) → is_distinct (rows_of cs) ≡ true → n < length cs → c ≡ get_or cs n c → ArePuts t s (take n cs) parts → IsPut t s c cells → HaveOtherKeys (laid parts) cells
puts_elsewhere t one s cs parts n c cells d l e a p = other_keys (HasKey t) (λ r r' k p q. one r r' (sym p ∙ q)) (rows_of (take n cs)) parts (puts_own t s (take n cs) parts a) c.row (new_at cs n c d l e) cells p.own
