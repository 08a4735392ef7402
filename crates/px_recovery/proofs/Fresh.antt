-- A folder without a byte is sound.
use Rattle.std.proofs.Common.{◌≡◌, inl, inr, ℕ, zero, suc, max, Bool, true, false, Some, None, List, [], ◌∷◌, refl, sym, ap, subst, ◌∙◌, arith}
use Rattle.std.specs.Prelude.{◌&&◌, ◌==◌, nat_lt}
use Rattle.std.proofs.lemmas.Bool.{false≢true}
use Rattle.px_outside.specs.Disk.{Image}
use Rattle.px_outside.specs.Parts.{AreDistinct}
use Rattle.px_cells.specs.Contents.{value_at}
use Rattle.px_values.specs.declared.row.Value.{Value}
use Rattle.px_tables.specs.declared.table.Table.{Table}
use Rattle.px_trail.specs.Trail.{IsBase}
use Rattle.px_rows.proofs.Spelled.{nothing_spelled, nothing_whole, table_laws}
use Rattle.px_groupworld.specs.Group.{GroupData, TableForm}
use Rattle.px_groupworld.specs.Sound.{IsSoundTable}
use Rattle.px_tablefolder.specs.Folder.{greatest_horizon, greatest_in_indexes, key_has_stamp, last_cell}
use Rattle.px_schema.specs.Fresh.{fresh_standing, kv}
use Rattle.px_catalog.proofs.Opening.{empty_stands as empty_catalogue}
use Rattle.px_wal.specs.Files.{file_of}
use Rattle.px_recovery.specs.Base.{IsSound, IsSoundFolder, IsSoundPart, base_of}
use Rattle.px_recovery.specs.Folder.{FolderData, IsKeptPart, PartStands, StandsFor, no_data, part_of}
use Rattle.px_recovery.specs.Stands.{AreNumbered}
use Rattle.px_recovery.specs.Tables.{cells_of_regions, form_of_table, horizon_in, number_of_region, table_files, table_in}
use Rattle.px_recovery.proofs.Definitions.{empty_stands}
use Rattle.px_recovery.proofs.Numbered.{found_by, found_number}
use Rattle.px_recovery.proofs.Opened.{is_opened, opened_data}
use Rattle.px_recovery.proofs.Round.{is_base}

-- the fresh definitions, and regions without a cell
abbrev pub fresh_folder : FolderData
fresh_folder = record { standing = fresh_standing; regions = λ n. no_data }

fresh_is : (t : ℕ) (x : Table) → table_in (kv ∷ []) t ≡ Some x → kv ≡ x
unfolding table_in
fresh_is t x is = elim (found_by kv x None (2 == t) is) [ inl e ↦ e.1 | inr e ↦ absurd (let none : None ≡ Some x = e.1 in cc) ]

one_table : (t u : ℕ) (x y : Table) → table_in (kv ∷ []) t ≡ Some x → table_in (kv ∷ []) u ≡ Some y → t ≡ u
one_table t u x y one two = sym (numbered_as t x one) ∙ (ap (λ (z : Table). z.id.0) (sym (fresh_is t x one) ∙ fresh_is u y two) ∙ numbered_as u y two)
  where
    numbered_as : (q : ℕ) (z : Table) → table_in (kv ∷ []) q ≡ Some z → z.id.0 ≡ q
    numbered_as q z is = found_number (kv ∷ []) q z is

fresh_numbered : AreNumbered fresh_standing
fresh_numbered = record {
  tables = λ t u n x y one two a z. one_table t u x y one two;
  each = λ t x is. subst (λ (z : Table). AreDistinct number_of_region z.regions) (fresh_is t x is) (tt, tt);
  apart = λ t n x is one. tt;
  indexes = tt;
  ids = tt;
  some = ((omega arith, tt), tt);
  some_index = tt;
  below = record { tables = ((omega arith, (omega arith, tt)), tt); indexes = tt };
  least = omega arith;
}

-- ---- its one table

abbrev form : TableForm
form = form_of_table (base_of fresh_folder) [] kv

kv_found : table_in (kv ∷ []) 2 ≡ Some kv
unfolding table_in
kv_found = refl

none_changed : (b : Bool) → (b && false) ≡ true → ⊥
none_changed true is = false≢true is
none_changed false is = false≢true is

kv_changed : (r : List Value) (s : ℕ) → (base_of fresh_folder).changed 2 r s ≡ (nat_lt 0 s && false)
unfolding table_in cells_of_regions horizon_in key_has_stamp
kv_changed r s = refl

kv_state : (r : List Value) (p : ℕ) → (base_of fresh_folder).state 2 r p ≡ None
unfolding table_in cells_of_regions horizon_in value_at
kv_state r p = nothing_spelled kv r (max 0 p)

kv_base : (r : List Value) → IsBase (base_of fresh_folder) 2 r
kv_base r = record {
  above = kv_changed r 0;
  within = λ s is. absurd (none_changed (nat_lt 0 s) (sym (kv_changed r s) ∙ is));
  same = λ p is. kv_state r (suc p) ∙ sym (kv_state r p);
}

abbrev opened : GroupData
opened = opened_data (table_files fresh_folder kv)

kv_sound : IsSoundTable form opened
unfolding table_in cells_of_regions horizon_in value_at greatest_horizon greatest_in_indexes last_cell
kv_sound = record {
  base = record { rows = kv_base; low = omega arith };
  shape = (is_base fresh_folder kv kv_found).shape;
  high = (is_base fresh_folder kv kv_found).horizon;
  opens = refl;
  low = omega arith;
  indexes = λ i l. absurd (omega arith);
  form = table_laws kv;
  cells = record { each = λ c h. cc };
  stamps = λ r q u d v h. cc;
  spells = λ r p l. nothing_spelled kv r p ∙ sym (kv_state r p);
  whole = λ r. nothing_whole kv 0 r;
}

kv_part : IsSoundPart fresh_folder kv opened
kv_part = record { opened = is_opened (table_files fresh_folder kv); sound = kv_sound; placed = (tt, tt); once = tt }

fresh_sound : IsSoundFolder fresh_folder
fresh_sound = record {
  numbered = fresh_numbered;
  opens = λ t. opened;
  tables = λ t x is. subst (λ (z : Table). IsSoundPart fresh_folder z opened) (fresh_is t x is) kv_part;
}

fresh_stands : (image : Image) → ((file : ℕ) → image file ≡ []) → StandsFor image fresh_folder
fresh_stands image none = record { parts = each; fresh = λ file own. none file; unmade = λ n own. refl }
  where
    each : (r : ℕ) → IsKeptPart fresh_standing r → PartStands r image (part_of fresh_folder r)
    each zero keeps = empty_catalogue image (none 0) (none 1)
    each (suc m) keeps = empty_stands (suc m) image (λ local few. none (file_of (suc m) local))

pub nothing_sound : (image : Image) → ((file : ℕ) → image file ≡ []) → IsSound image
nothing_sound image none = record { folder = fresh_folder; stands = fresh_stands image none; sound = fresh_sound }
