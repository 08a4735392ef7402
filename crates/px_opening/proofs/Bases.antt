-- What a run begins with is a base.
use Rattle.std.proofs.Common.{◌≡◌, ◌≤◌, inl, inr, ℕ, suc, Bool, true, false, ◌&&◌, Option, Some, None, List, refl, sym, ap, ◌∙◌, arith}
use Rattle.std.specs.Prelude.{max, nat_lt}
use Rattle.std.proofs.lemmas.Bool.{cases_lt, and_parts, false≢true}
use Rattle.px_values.specs.declared.row.Value.{Value}
use Rattle.px_tables.specs.declared.table.Table.{Table}
use Rattle.px_cells.specs.Contents.{value_at}
use Rattle.px_trail.specs.Trail.{IsBase}
use Rattle.px_forms.specs.Rows.{DataForm, IsDataForm}
use Rattle.px_rows.specs.Spelled.{row_form}
use Rattle.px_rows.proofs.Spelled.{table_laws}
use Rattle.px_tablefolder.specs.Folder.{TableFiles, folder_changed, folder_last, folder_state, key_has_stamp}
use Rattle.px_tablefolder.proofs.Stamped.{none_read, stamp_within}
use Rattle.px_tablefolder.proofs.WorldStops.{is_not_below}
use Rattle.px_recovery.specs.Base.{base_of, told_of_table}
use Rattle.px_recovery.specs.Folder.{FolderData}
use Rattle.px_recovery.specs.Tables.{table_files, table_in}

and_left : (a b : Bool) → a ≡ true → (a && b) ≡ false → b ≡ false
and_left true b is none = none
and_left false b is none = absurd (false≢true is)

none_below : (n : ℕ) → nat_lt n 0 ≡ false
none_below n = grind arith

module _ (f : DataForm) (form : IsDataForm f) (n : TableFiles) (r : List Value) where
  above : folder_changed f n r 0 ≡ false
  above = ap (λ (v : Bool). v && key_has_stamp (f.key_of r) 0 n.cells) (none_below n.horizon)

  within : (s : ℕ) → folder_changed f n r s ≡ true → s ≤ folder_last n
  within s h = (let a = and_parts (nat_lt n.horizon s) (key_has_stamp (f.key_of r) s n.cells) h in let l = stamp_within (f.key_of r) s n.cells a.1 in omega arith)

  same : (p : ℕ) → folder_changed f n r (suc p) ≡ false → folder_state f n r (suc p) ≡ folder_state f n r p
  same p h = elim (cases_lt p n.horizon) [
    | inl l ↦ (let e : max n.horizon (suc p) ≡ max n.horizon p = omega arith in ap (f.spelled (value_at n.cells) r) e)
    | inr l ↦
        (let none = none_read (f.key_of r) (suc p) n.cells (and_left (nat_lt n.horizon (suc p)) (key_has_stamp (f.key_of r) (suc p) n.cells) (is_not_below n.horizon (suc p) (omega arith)) h) in
        let e : max n.horizon (suc p) ≡ suc p = omega arith in
        let e' : max n.horizon p ≡ p = omega arith in
        ap (f.spelled (value_at n.cells) r) e ∙ (form.still (value_at n.cells) r p none ∙ sym (ap (f.spelled (value_at n.cells) r) e')))
  ]

-- a table that stands, or none
pub told_base : (f : FolderData) (o : Option Table) (r : List Value)
    → (told_of_table (λ x. folder_changed (row_form x) (table_files f x) r 0) false o ≡ false)
    × (((s : ℕ) → told_of_table (λ x. folder_changed (row_form x) (table_files f x) r s) false o ≡ true → s ≤ told_of_table (λ x. folder_last (table_files f x)) 0 o)
    × ((p : ℕ) → told_of_table (λ x. folder_changed (row_form x) (table_files f x) r (suc p)) false o ≡ false → told_of_table (λ x. folder_state (row_form x) (table_files f x) r (suc p)) None o ≡ told_of_table (λ x. folder_state (row_form x) (table_files f x) r p) None o))
told_base f None r = (refl, ((λ s h. absurd (false≢true h)), (λ p h. refl)))
told_base f (Some x) r = (above (row_form x) (table_laws x) (table_files f x) r, (within (row_form x) (table_laws x) (table_files f x) r, same (row_form x) (table_laws x) (table_files f x) r))

pub rows_base : (f : FolderData) (t : ℕ) (r : List Value) → IsBase (base_of f) t r
rows_base f t r = let z = told_base f (table_in f.standing.tables t) r in record { above = z.0; within = z.1.0; same = z.1.1 }
