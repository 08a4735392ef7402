-- Which versions the keys are of that a look at an index finds.
use Rattle.std.proofs.Common.{◌≡◌, ℕ, suc, Bool, true, false, Option, Some, None, List, map, refl, ap, sym, subst}
use Rattle.px_calls.specs.Looks.{key_found}
use Rattle.px_calls.specs.declared.query.FoundKey.{FoundKey}
use Rattle.px_calls.specs.declared.query.Path.{Path}
use Rattle.px_cells.specs.Contents.{cell_of, value_at}
use Rattle.px_cells.specs.declared.kind.CellKind.TheVariants.{Put}
use Rattle.px_cellshapes.proofs.Paths.{index_columns_same}
use Rattle.px_keys.specs.Reading.{IsKey}
use Rattle.px_keys.specs.Spelling.{IsKeyOf}
use Rattle.px_keys.specs.declared.parts.KeyColumn.{KeyColumn}
use Rattle.px_looks.specs.Found.{AreNext, RowContents, at_key}
use Rattle.px_looks.specs.IndexKeys.{ShowsKey, found_at, found_of, found_with}
use Rattle.px_looks.specs.Versions.{is_verified, stamp_seen, value_seen, version_at, version_of_stamp}
use Rattle.px_looks.specs.declared.version.KeyVersion.{KeyVersion}
use Rattle.px_looks.proofs.IndexKeys.{keys_keyed}
use Rattle.px_looks.proofs.Spelling.{seen_stands}
use Rattle.px_paths.specs.Paths.{columns_on, index_path}
use Rattle.px_region.specs.Region.{read_of}
use Rattle.px_shown.proofs.RowsAt.{on_within}
use Rattle.px_tables.specs.declared.index.Index.{Index}
use Rattle.px_tables.specs.declared.table.Table.{Table}
use Rattle.px_values.specs.Limits.{most_key}
use Rattle.px_values.specs.declared.row.Value.{Value}
use Rattle.px_group.specs.Group.{IsRightPart}
use Rattle.px_group.specs.declared.group.IndexRegion.{IndexRegion}
use Rattle.px_reading.specs.Versions.{AreAllGiven, AreOfVersions, IsOfVersion}

found_is : (f f' : FoundKey) → Some f ≡ Some f' → f ≡ f'
found_is f f' e = cc

module _ (t : Table) (x : Index) (k : List ℕ) (values : List Value) (h : RowContents) (p : ℕ) where
  by_status : (stored : ℕ → Option (List ℕ)) (s : ℕ) (verified : Bool) (vs : List (Option (List ℕ))) → IsOfVersion (Some (record { stamp = s; verified = verified; values = vs })) (found_with t x k values stored s verified)
  by_status stored s true vs = refl
  by_status stored s false vs = (refl, refl)

  by_stamp : (o : Option ℕ) (f : FoundKey) → found_of t x k values h p o ≡ Some f → IsOfVersion (version_of_stamp h x.included p o) f
  by_stamp None f e = absurd (let z : ◌≡◌ {A = Option FoundKey} None (Some f) = e in cc)
  by_stamp (Some s) f e = subst (IsOfVersion (version_of_stamp h x.included p (Some s))) (found_is (found_with t x k values (λ q. value_seen h q p) s (is_verified (h 1 s Put))) f e) (by_status (λ q. value_seen h q p) s (is_verified (h 1 s Put)) (map (λ c. value_seen h (suc (suc c)) p) x.included))

  -- what is shown of a key is of the version that the point sees of it
  of_version : (f : FoundKey) → found_at t x k values h p ≡ Some f → IsOfVersion (version_at h x.included p) f
  of_version f e = by_stamp (stamp_seen h 1 p) f e

pub versions_found : (t : Table) (x part : IndexRegion) → part ≡ x → (low : List ℕ) (high after : Option (List ℕ)) (point : ℕ) (fs : List FoundKey) (next : Option (List ℕ)) → AreNext (ShowsKey t part.index point) (value_at (read_of part.region)) low high after fs next → AreOfVersions x point fs
versions_found t x part is low high after point fs next n f among =
    let n2 = subst (λ (y : IndexRegion). AreNext (ShowsKey t y.index point) (value_at (read_of y.region)) low high after fs next) is n in
    let shows = (n2.right f among).1 in
    of_version t x.index (key_found f) shows.values (at_key (value_at (read_of x.region)) (key_found f)) point f shows.is

-- ---- none is left out

some_stamp : (h : RowContents) (columns : List ℕ) (p : ℕ) (o : Option ℕ) (v : KeyVersion) → version_of_stamp h columns p o ≡ Some v → (s : ℕ) × (o ≡ Some s)
some_stamp h columns p None v e = absurd (let z : ◌≡◌ {A = Option KeyVersion} None (Some v) = e in cc)
some_stamp h columns p (Some s) v e = (s, refl)

-- the key of a version that a point sees is one of the index
key_seen : (t : Table) (x : IndexRegion) → IsRightPart t x → (k : List ℕ) (p s : ℕ) → stamp_seen (at_key (value_at (read_of x.region)) k) 1 p ≡ Some s → IsKey most_key (columns_on (index_path t x.index)) k
key_seen t x right k p s seen =
    let put = seen_stands (value_at (read_of x.region)) k 1 p s seen in
    let keyed = (right.keys.each (cell_of k 1 s Put put.0) put.1).key in
    subst (λ (columns : List KeyColumn). IsKey most_key columns k) (sym (index_columns_same t x.index)) keyed

-- such a version is shown
seen_shows : (t : Table) (x : Index) (k : List ℕ) (values : List Value) → IsKeyOf (columns_on (index_path t x)) values k → (h : RowContents) (p s : ℕ) → stamp_seen h 1 p ≡ Some s → (f : FoundKey) × ShowsKey t x p k h f
seen_shows t x k values key h p s seen = (
  found_with t x k values (λ q. value_seen h q p) s (is_verified (h 1 s Put)),
  record { values = values; key = key; is = ap (found_of t x k values h p) seen },
)

pub all_given : (t : Table) (x : IndexRegion) → IsRightPart t x → (point : ℕ) (path : Path) (after : Option (List ℕ)) (fs : List FoundKey) (next : Option (List ℕ)) → AreNext (ShowsKey t x.index point) (value_at (read_of x.region)) path.low path.high after fs next → AreAllGiven x point path after fs next
all_given t x right point path after fs next n k v seen on past covered =
    let h : RowContents = at_key (value_at (read_of x.region)) k in
    let z = some_stamp h x.index.included point (stamp_seen h 1 point) v seen in
    let key = key_seen t x right k point z.0 z.1 in
    let found = seen_shows t x.index k key.0 key.1 h point z.0 z.1 in
    (found.0, n.whole k found.0 (on_within path k on) past covered found.1, keys_keyed t x.index point k h found.0 found.1)
