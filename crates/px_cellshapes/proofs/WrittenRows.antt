-- The cells of a change are right.
use Rattle.std.proofs.Common.{◌≡◌, ◌≢◌, ℕ, zero, suc, ◌≤◌, Bool, true, false, cond, ◌&&◌, Option, Some, None, List, length, refl, sym, ◌∙◌, subst}
use Rattle.std.specs.Prelude.{nat_eq}
use Rattle.std.specs.Cmp.Lexicographic.{pointwise}
use Rattle.std.proofs.lemmas.Bool.{and_parts, false≢true}
use Rattle.std.proofs.lemmas.Slice.Eq.{bytes_eq-Decides}
use Rattle.px_cells.specs.declared.kind.CellKind.{CellKind}
use Rattle.px_cells.specs.declared.kind.CellKind.TheVariants.{Put, Delete, DeleteFamilyVersion, DeleteColumn, DeleteFamily}
use Rattle.px_cells.specs.CellData.{CellData}
use Rattle.px_cells.specs.Contents.{value_at}
use Rattle.px_cells.specs.Kind.{is_family}
use Rattle.px_keys.specs.Reading.{IsKey}
use Rattle.px_keys.specs.Spelling.{Fits}
use Rattle.px_rows.specs.Keys.{column_in, row_columns, row_key}
use Rattle.px_rows.specs.Spelled.{FitsTable, FitsWhat, assigned_to, change_cells, change_contents, null_value, put_value, row_spelling}
use Rattle.px_rows.specs.Stored.{stored}
use Rattle.px_rows.proofs.KeysBack.{row_key-fits}
use Rattle.px_rows.proofs.Spelled.{IsGiven, assigned_fits}
use Rattle.px_tables.specs.declared.table.Table.{Table}
use Rattle.px_values.specs.Limits.{most_key}
use Rattle.px_values.specs.declared.change.What.{What}
use Rattle.px_values.specs.declared.change.What.TheVariants.{Set, Gone}
use Rattle.px_values.specs.declared.row.Value.{Value}
use Rattle.px_values.specs.declared.row.Value.TheVariants.{Null, Number, Truth, Text}
use Rattle.px_cellshapes.specs.Rows.{FitsColumnCell, FitsPlace, IsRightRowCell}
use Rattle.px_cellshapes.specs.Values.{IsStored}
use Rattle.px_cellshapes.proofs.Each.{EachRead}
use Rattle.px_cellshapes.proofs.StoredValues.{stored_is}

-- 1. What a change writes at a qualifier

-- what the key and the stamp of a cell have no part in
record IsRightAt (t : Table) (q : ℕ) (d : CellKind) (v : List ℕ) : Type 0 where
  placed : ((is_family d ≡ true) → q ≡ 0) × (q ≡ 0 → is_family d ≡ true)
  no_delete : d ≡ Delete → ⊥
  no_version : d ≡ DeleteFamilyVersion → ⊥
  fits : FitsPlace t q d v

some_bytes : {a b : List ℕ} → Some a ≡ Some b → a ≡ b
some_bytes e = cc

given : (t : Table) (c : ℕ) (x : Value) (v : List ℕ) → IsGiven t c x → x ≢ Null → stored (column_in t.columns c).column_type x ≡ v → FitsColumnCell t c Put v
given t c x v h n e = record {
  within = h.within;
  beside = h.beside;
  stored = λ p. subst (IsStored (column_in t.columns c).column_type) e (stored_is (column_in t.columns c).column_type x h.has_type n);
}

put_given : (t : Table) (c : ℕ) (o : Option Value) (v : List ℕ) → ((x : Value) → o ≡ Some x → IsGiven t c x) → put_value (row_spelling t) c o ≡ Some v → FitsColumnCell t c Put v
put_given t c None v f e = cc
put_given t c (Some Null) v f e = cc
put_given t c (Some (Number n)) v f e = given t c (Number n) v (f (Number n) refl) (λ z. cc) (some_bytes e)
put_given t c (Some (Truth b)) v f e = given t c (Truth b) v (f (Truth b) refl) (λ z. cc) (some_bytes e)
put_given t c (Some (Text b)) v f e = given t c (Text b) v (f (Text b) refl) (λ z. cc) (some_bytes e)

null_given : (t : Table) (c : ℕ) (o : Option Value) (v : List ℕ) → ((x : Value) → o ≡ Some x → IsGiven t c x) → null_value o ≡ Some v → FitsColumnCell t c DeleteColumn v
null_given t c None v f e = cc
null_given t c (Some Null) v f e = (let h = f Null refl in record { within = h.within; beside = h.beside; stored = λ p. cc })
null_given t c (Some (Number n)) v f e = cc
null_given t c (Some (Truth b)) v f e = cc
null_given t c (Some (Text b)) v f e = cc

change_right : (t : Table) (w : What) (q : ℕ) (d : CellKind) (v : List ℕ) → FitsWhat t w → change_cells (row_spelling t) w q d ≡ Some v → IsRightAt t q d v
change_right t (Set as') zero Put v f e = cc
change_right t (Set as') (suc zero) Put v f e = record { placed = (λ h. absurd (false≢true h), λ h. cc); no_delete = λ h. cc; no_version = λ h. cc; fits = λ p. sym (some_bytes e) }
change_right t (Set as') (suc (suc c)) Put v f e = record { placed = (λ h. absurd (false≢true h), λ h. cc); no_delete = λ h. cc; no_version = λ h. cc; fits = put_given t c (assigned_to as' c) v (assigned_fits t as' f c) e }
change_right t (Set as') q Delete v f e = cc
change_right t (Set as') q DeleteFamilyVersion v f e = cc
change_right t (Set as') zero DeleteColumn v f e = cc
change_right t (Set as') (suc zero) DeleteColumn v f e = cc
change_right t (Set as') (suc (suc c)) DeleteColumn v f e = record { placed = (λ h. absurd (false≢true h), λ h. cc); no_delete = λ h. cc; no_version = λ h. cc; fits = null_given t c (assigned_to as' c) v (assigned_fits t as' f c) e }
change_right t (Set as') q DeleteFamily v f e = cc
change_right t Gone q Put v f e = cc
change_right t Gone q Delete v f e = cc
change_right t Gone q DeleteFamilyVersion v f e = cc
change_right t Gone q DeleteColumn v f e = cc
change_right t Gone zero DeleteFamily v f e = record { placed = (λ h. refl, λ h. refl); no_delete = λ h. cc; no_version = λ h. cc; fits = tt }
change_right t Gone (suc q) DeleteFamily v f e = cc

-- 2. The cells of a change

cond_parts : {A : Type 0} (b : Bool) (o : Option A) (v : A) → cond b o None ≡ Some v → (b ≡ true) × (o ≡ Some v)
cond_parts true o v e = (refl, e)
cond_parts false o v e = cc

pub row_is_key : (t : Table) (r : List Value) → Fits (row_columns t) r → length (row_key t r) ≤ most_key → IsKey most_key (row_columns t) (row_key t r)
row_is_key t r f l = (r, record { fits = f; spells = sym (row_key-fits t r f); short = l })

pub change_each : (t : Table) (r : List Value) (s : ℕ) (w : What) (cells : List CellData) → FitsTable t r w → length (row_key t r) ≤ most_key → value_at cells ≡ change_contents (row_spelling t) r s w → EachRead (IsRightRowCell t) cells
change_each t r s w cells f l same c v =
    let e : change_contents (row_spelling t) r s w c.key c.qualifier c.stamp c.kind ≡ Some c.value = (λ i. sym same i c.key c.qualifier c.stamp c.kind) ∙ v in
    let at = cond_parts (pointwise nat_eq c.key (row_key t r) && nat_eq s c.stamp) (change_cells (row_spelling t) w c.qualifier c.kind) c.value e in
    let own : c.key ≡ row_key t r = (bytes_eq-Decides c.key (row_key t r)).0 (and_parts (pointwise nat_eq c.key (row_key t r)) (nat_eq s c.stamp) at.0).0 in
    let right = change_right t w c.qualifier c.kind c.value f.1 at.1 in
    record {
      key = subst (IsKey most_key (row_columns t)) (sym own) (row_is_key t r f.0 l);
      placed = right.placed;
      no_delete = right.no_delete;
      no_version = right.no_version;
      fits = right.fits;
    }
