-- The rows and the versions of doubted keys.
use Rattle.std.proofs.Common.{◌≡◌, ℕ, ◌<◌, max, Option, Some, List, [], length, get_or, ap, sym, subst, ◌∙◌, arith}
use Rattle.std.specs.List.{slice_get}
use Rattle.px_cells.specs.CellData.{CellData}
use Rattle.px_cells.specs.Contents.{value_at}
use Rattle.px_cells.specs.Order.{Reads}
use Rattle.px_cells.specs.Rows.{IsRow}
use Rattle.px_cellshapes.specs.Rows.{AreRightRows, IsRightRowCell}
use Rattle.px_cellshapes.proofs.Each.{each_reads}
use Rattle.px_indexrow.specs.Form.{row_of_index}
use Rattle.px_keys.specs.Spelling.{IsKeyOf}
use Rattle.px_keys.specs.declared.parts.KeyColumn.{KeyColumn}
use Rattle.px_looks.specs.Found.{at_key}
use Rattle.px_looks.specs.Versions.{version_at}
use Rattle.px_looks.specs.declared.version.KeyVersion.{KeyVersion}
use Rattle.px_paths.specs.Paths.{columns_on, index_path, owner_of}
use Rattle.px_paths.specs.declared.path.PathColumn.{PathColumn}
use Rattle.px_region.specs.Region.{read_of}
use Rattle.px_rows.specs.Keys.{row_key}
use Rattle.px_tables.specs.declared.index.Index.{Index}
use Rattle.px_tables.specs.declared.table.Table.{Table}
use Rattle.px_values.specs.Limits.{most_key}
use Rattle.px_values.specs.declared.row.Value.{Value}
use Rattle.px_shown.proofs.Owners.{owner_read}
use Rattle.px_group.specs.declared.group.Group.{Group}
use Rattle.px_group.specs.declared.group.IndexRegion.{IndexRegion}
use Rattle.px_reading.specs.Doubts.{version_seen}
use Rattle.px_reading.proofs.Looked.{got}

-- no cell stands at a key that is too long
pub no_row : (t : Table) (r : List Value) (cells : List CellData) → AreRightRows t cells → most_key < length (row_key t r) → (none : List CellData) → none ≡ [] → IsRow cells (row_key t r) none
no_row t r cells right long none e = subst (IsRow cells (row_key t r)) (sym e) (record {
  ascending = tt;
  exact = λ c. ((λ h. absurd (nothing c h)), (λ h. absurd (let short = (each_reads (IsRightRowCell t) cells right.each c h.0).key.1.short in let same = ap length h.1 in omega arith)));
})
  where
    nothing : (c : CellData) → Reads [] c → ⊥
    nothing c h = absurd h

pub owned_on : (t : Table) (x : Index) (t' : Table) (path : List PathColumn) (columns : List KeyColumn) (k : List ℕ) (values row : List Value) → t ≡ t' → path ≡ index_path t x → columns ≡ columns_on path → IsKeyOf columns values k → row ≡ owner_of t' path values → row ≡ row_of_index t x k
owned_on t x t' path columns k values row same p cs key h =
    let keyed : IsKeyOf (columns_on (index_path t x)) values k = subst (λ (l : List KeyColumn). IsKeyOf l values k) (cs ∙ ap columns_on p) key in
    h ∙ (λ i. owner_of (sym same i) (p i) values) ∙ owner_read t x k values keyed

pub version_at_place : (g : Group) (place : ℕ) (d part : IndexRegion) → part ≡ get_or g.indexes.items place d → (k : List ℕ) (s h m : ℕ) → h ≡ max part.index.birth g.horizon → m ≡ max s h → (seen : Option KeyVersion) → seen ≡ version_at (at_key (value_at (read_of part.region)) k) part.index.included m → (x : IndexRegion) → slice_get g.indexes.items place ≡ Some x → seen ≡ version_seen g x k s
version_at_place g place d part is k s h m hi mi seen e x at =
    let same : part ≡ x = is ∙ got g.indexes.items place x d at in
    e ∙ ap (λ (n : ℕ). version_at (at_key (value_at (read_of part.region)) k) part.index.included n) (mi ∙ ap (λ (n : ℕ). max s n) hi) ∙ ap (λ (y : IndexRegion). version_seen g y k s) same
