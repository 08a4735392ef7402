-- What the next rows and keys are of a table's group.
use Rattle.std.proofs.Common.{◌≡◌, ℕ, ◌<◌, ◌≤◌, max, true, Option, Some, List, Result, Ok, Err, length, get_or, ap, sym, subst, ◌∙◌, arith}
use Rattle.std.specs.Prelude.{IfOk}
use Rattle.std.specs.List.{slice_get}
use Rattle.px_calls.specs.Looks.{Shows, ShowsRows}
use Rattle.px_calls.specs.declared.query.By.TheVariants.{Index as ByIndex, Table as ByTable}
use Rattle.px_calls.specs.declared.query.FoundKey.{FoundKey}
use Rattle.px_calls.specs.declared.query.Path.{Path}
use Rattle.px_calls.specs.declared.query.Point.{Point}
use Rattle.px_cells.specs.CellData.{CellData}
use Rattle.px_cells.specs.Contents.{cell_of, value_at}
use Rattle.px_cells.specs.Sight.{IsPlainRegion}
use Rattle.px_cells.specs.declared.kind.CellKind.TheVariants.{Put}
use Rattle.px_cellshapes.proofs.KeysRead.{keys_plain}
use Rattle.px_cellshapes.specs.Rows.{AreRightRows}
use Rattle.px_forms.specs.Indexes.{IndexForm}
use Rattle.px_groupworld.specs.Group.{GroupData, no_part}
use Rattle.px_indexrow.specs.Form.{index_form}
use Rattle.px_looks.specs.Found.{AreNext}
use Rattle.px_looks.specs.IndexKeys.{ShowsKey}
use Rattle.px_looks.specs.Rows.{ShowsRow}
use Rattle.px_openbatches.specs.Pending.{HeldBatch}
use Rattle.px_region.specs.Region.{read_of}
use Rattle.px_tables.specs.declared.index.IndexState.TheVariants.{Active}
use Rattle.px_trail.specs.Trail.{Base, horizon_of}
use Rattle.px_trail.specs.declared.entry.Entry.{Entry}
use Rattle.px_values.specs.Limits.{most_key}
use Rattle.px_group.specs.Group.{IsRightGroup, IsRightPart, IsShownBy, is_built}
use Rattle.px_group.specs.declared.group.Group.{Group}
use Rattle.px_group.specs.declared.group.IndexRegion.{IndexRegion}
use Rattle.px_shown.specs.Told.{IsIndexAt, IsPointOfTable, reach_of}
use Rattle.px_shown.proofs.KeyLooks.{keys_shown}
use Rattle.px_shown.proofs.OwnKeys.{spells_rows}
use Rattle.px_shown.proofs.Points.{look_keys, look_rows}
use Rattle.px_reading.specs.Versions.{AreAllGiven}
use Rattle.px_reading.proofs.Looked.{all_at, got, part_at}
use Rattle.px_reading.proofs.Versions.{all_given}

pub ok_map : {T E : Type 0} (P Q : T → Type 0) → ((x : T) → P x → Q x) → (r : Result T E) → IfOk r P → IfOk r Q
ok_map P Q f (Ok x) h = f x h
ok_map P Q f (Err e) h = tt

pub ok_both : {T E : Type 0} (P Q R : T → Type 0) → ((x : T) → P x → Q x → R x) → (r : Result T E) → IfOk r P → IfOk r Q → IfOk r R
ok_both P Q R f (Ok x) h k = f x h k
ok_both P Q R f (Err e) h k = tt

pub part_plain : (g : Group) → IsRightGroup g → (place : ℕ) → place < length g.indexes.items → (d part : IndexRegion) → part ≡ get_or g.indexes.items place d → IsPlainRegion (read_of part.region)
part_plain g right place there d part is = keys_plain g.table part.index (read_of part.region) (subst (IsRightPart g.table) (sym is) (all_at (IsRightPart g.table) g.indexes.items right.parts place there d)).keys

module _ (g : Group) (right : IsRightGroup g) (low : List ℕ) (high after : Option (List ℕ)) (point : ℕ) (fs : List FoundKey) (next : Option (List ℕ)) where
  pub rows_found : AreNext (ShowsRow g.table point) (value_at (read_of g.rows)) low high after fs next → (b : Base) (index : ℕ → IndexForm) (es : List Entry) (v : GroupData) (hs : List HeldBatch) → IsShownBy b index es g v hs → (p : Point) → IsPointOfTable g.table p → reach_of p ≡ point → horizon_of b g.table.id.0 es ≤ point
      → (path : Path) → path.by ≡ ByTable → path.low ≡ low → path.high ≡ high → ShowsRows b es p path after fs next
  rows_found n b index es v hs shown p of reach above path by from to =
      let kept = shown.kept.group in
      let spells = spells_rows g.table v.cells right.table (subst (λ (l : List CellData). AreRightRows g.table l) (sym shown.rows) right.rows) in
      let is_low : v.low ≤ reach_of p = (let a = kept.low in let c = kept.high in let d = reach in omega arith) in
      let n2 = subst (λ (s : ℕ). AreNext (ShowsRow g.table s) (value_at (read_of g.rows)) low high after fs next) (sym reach) n in
      let n3 = subst (λ (l : List CellData). AreNext (ShowsRow g.table (reach_of p)) (value_at l) low high after fs next) (sym shown.rows) n2 in
      let n4 = subst (λ (k : List ℕ). AreNext (ShowsRow g.table (reach_of p)) (value_at v.cells) k high after fs next) (sym from) n3 in
      let n5 = subst (λ (k : Option (List ℕ)). AreNext (ShowsRow g.table (reach_of p)) (value_at v.cells) path.low k after fs next) (sym to) n4 in look_rows g.table right.table b index es v kept spells p of is_low path by after fs next n5

  module _ (place : ℕ) (there : place < length g.indexes.items) (d part : IndexRegion) (is : part ≡ get_or g.indexes.items place d) where
    part_is : (x : IndexRegion) → slice_get g.indexes.items place ≡ Some x → part ≡ x
    part_is x at = is ∙ got g.indexes.items place x d at

    module _ (n : AreNext (ShowsKey g.table part.index point) (value_at (read_of part.region)) low high after fs next) (x : IndexRegion) (at : slice_get g.indexes.items place ≡ Some x) where
      -- the same of the index at the place, and of the path
      next_at : (path : Path) → path.low ≡ low → path.high ≡ high → AreNext (ShowsKey g.table x.index point) (value_at (read_of x.region)) path.low path.high after fs next
      next_at path from to =
          let n2 = subst (λ (y : IndexRegion). AreNext (ShowsKey g.table y.index point) (value_at (read_of y.region)) low high after fs next) (part_is x at) n in
          let n3 = subst (λ (k : List ℕ). AreNext (ShowsKey g.table x.index point) (value_at (read_of x.region)) k high after fs next) (sym from) n2 in
          subst (λ (k : Option (List ℕ)). AreNext (ShowsKey g.table x.index point) (value_at (read_of x.region)) path.low k after fs next) (sym to) n3

      pub keys_found : (p : Point) → p.found.table ≡ g.table → IsIndexAt p x.index → (path : Path) → path.by ≡ ByIndex x.index.id → path.low ≡ low → path.high ≡ high → Shows p path after fs next
      keys_found p table index path by from to = keys_shown g.table x.index p table index (value_at (read_of x.region)) point path by after fs next (next_at path from to)

      pub whole_found : (path : Path) → path.low ≡ low → path.high ≡ high → AreAllGiven x point path after fs next
      whole_found path from to = all_given g.table x (part_at (IsRightPart g.table) g.indexes.items right.parts place x at) point path after fs next (next_at path from to)

      pub index_found : (b : Base) (index : ℕ → IndexForm) (es : List Entry) (v : GroupData) (hs : List HeldBatch) → IsShownBy b index es g v hs → x.index.state ≡ Active → (p : Point) → IsPointOfTable g.table p → IsIndexAt p x.index → reach_of p ≡ point → max x.index.birth (horizon_of b g.table.id.0 es) ≤ point
          → (path : Path) → path.by ≡ ByIndex x.index.id → path.low ≡ low → path.high ≡ high → ShowsRows b es p path after fs next
      index_found b index es v hs shown active p of index_at reach above path by from to =
          let kept = shown.kept.group in
          let part_of = shown.parts place x at in
          let cells = part_of.cells in
          let spells = spells_rows g.table v.cells right.table (subst (λ (l : List CellData). AreRightRows g.table l) (sym shown.rows) right.rows) in
          let mine = part_at (IsRightPart g.table) g.indexes.items right.parts place x at in
          let inside : place < length v.indexes = (let c = shown.count in omega arith) in
          let built : (get_or v.indexes place no_part).is_built ≡ true = part_of.built ∙ ap is_built active in
          let form : index (get_or v.indexes place no_part).id ≡ index_form g.table x.index = ap index part_of.id ∙ shown.forms place x at in
          let high_is : max (get_or v.indexes place no_part).birth v.high ≤ reach_of p = (let a = part_of.birth in let c = kept.high in let e = reach in omega arith) in
          let short : (k : List ℕ) (s : ℕ) (status : List ℕ) → value_at (get_or v.indexes place no_part).cells k 1 s Put ≡ Some status → length k ≤ most_key
          = λ k s status e. (mine.keys.each (cell_of k 1 s Put status) (subst (λ (l : List CellData). value_at l k 1 s Put ≡ Some status) cells e)).key.1.short in
          let n2 = subst (λ (s : ℕ). AreNext (ShowsKey g.table x.index s) (value_at (read_of x.region)) path.low path.high after fs next) (sym reach) (next_at path from to) in
          let n3 = subst (λ (l : List CellData). AreNext (ShowsKey g.table x.index (reach_of p)) (value_at l) path.low path.high after fs next) (sym cells) n2 in
          look_keys g.table right.table b index es v kept spells p of x.index mine.index index_at place inside built form short high_is path by after fs next n3
