-- What a point sees of an index's cells is the top, and the visible values, of the world of the row that the key holds.
use Rattle.std.proofs.Common.{◌≡◌, ℕ, ◌<◌, Bool, true, false, cond, not, ◌&&◌, ◌||◌, Option, Some, None, List, [], ◌∷◌, refl, ap, sym, ◌∙◌}
use Rattle.std.specs.Prelude.{is_some, nat_lt, nat_eq}
use Rattle.std.specs.Cmp.Lexicographic.{pointwise}
use Rattle.std.proofs.lemmas.Bool.{lt-ltb, false≢true}
use Rattle.px_cells.specs.declared.kind.CellKind.TheVariants.{Put, DeleteFamilyVersion, DeleteColumn, DeleteFamily}
use Rattle.px_values.specs.declared.row.Value.{Value}
use Rattle.px_trail.specs.declared.entry.Entry.{Entry}
use Rattle.px_cells.specs.CellData.{CellData}
use Rattle.px_cells.specs.Visible.{IsVisible}
use Rattle.px_values.specs.States.{RowState, Shape as RowShape}
use Rattle.px_trail.specs.Trail.{Base}
use Rattle.px_world.specs.World.{Absent, Verified, Unverified, is_there, World, live, stops, gives, top, source, vis, read_at}
use Rattle.px_cells.proofs.Newest.{newest-equal}
use Rattle.px_cells.specs.Contents.{value_at, cell_of}
use Rattle.px_cells.specs.Sight.{stops_at, puts_at, seen_at, IsPlainRegion}
use Rattle.px_forms.specs.Indexes.{status_in}
use Rattle.px_indexed.specs.Worlds.{world_at, Indexed}
use Rattle.px_cells.proofs.NewestSeen.{visible_from, visible_to}
use Rattle.px_indexed.specs.Kept.{AreIndexCells}
use Rattle.px_indexed.proofs.Regions.{bare_at, index_plain}

status_there : (o : Option (List ℕ)) → is_there (status_in o) ≡ is_some o
status_there None = refl
status_there (Some v) = by (pointwise nat_eq v (1 ∷ []))
  where
    by : (b : Bool) → is_there (cond b Verified Unverified) ≡ true
    by true = refl
    by false = refl

module _ (sh : RowShape) (b : Base) (es : List Entry) (t raised : ℕ) (x : Indexed) (r : List Value) (k : List ℕ) (mine : x.form.owns r k ≡ true) where
  abbrev w : World (List ℕ) RowState (List ℕ)
  w = world_at sh b es t raised x r

  fam_is : (s : ℕ) → w.fam k s ≡ is_some (value_at x.cells k 0 s DeleteFamily)
  fam_is s = ap (λ v. v && is_some (value_at x.cells k 0 s DeleteFamily)) mine

  ver_is : (s : ℕ) → w.ver k s ≡ is_some (value_at x.cells k 0 s DeleteFamilyVersion)
  ver_is s = ap (λ v. v && is_some (value_at x.cells k 0 s DeleteFamilyVersion)) mine

  status_is : (s : ℕ) → is_there (w.status k s) ≡ is_some (value_at x.cells k 1 s Put)
  status_is s = ap (λ v. is_there (cond v (status_in (value_at x.cells k 1 s Put)) Absent)) mine ∙ status_there (value_at x.cells k 1 s Put)

  or_none : (a c d : Bool) → c ≡ false → a ≡ (a || (c && d))
  or_none true c d e = refl
  or_none false true d e = absurd (false≢true (sym e))
  or_none false false d e = refl

  -- the status column has no DeleteColumn
  module _ (bare : (s : ℕ) → is_some (value_at x.cells k 1 s DeleteColumn) ≡ false) where
    pub top_seen : (p : ℕ) → top w k p ≡ seen_at (value_at x.cells) k 1 p
    unfolding live
    top_seen p = newest-equal (stops_at (value_at x.cells) k 1) (puts_at (value_at x.cells) k 1) (w.fam k) (live w k) p
        (λ s l. fam_is s ∙ or_none (is_some (value_at x.cells k 0 s DeleteFamily)) (is_some (value_at x.cells k 1 s DeleteColumn)) (not (is_some (value_at x.cells k 0 s DeleteFamilyVersion))) (bare s))
        (λ s l. (λ i. status_is s i && not (ver_is s i)))

    -- a version that is visible is the top, and the top is visible
    pub top_visible : IsPlainRegion x.cells → (p s : ℕ) → top w k p ≡ Some s → (v : List ℕ) × ((value_at x.cells k 1 s Put ≡ Some v) × IsVisible x.cells p (cell_of k 1 s Put v))
    top_visible plain p s e = visible_from x.cells plain p k 1 s (sym (top_seen p) ∙ e)

    pub visible_top : IsPlainRegion x.cells → (p : ℕ) (c : CellData) → c.key ≡ k → c.qualifier ≡ 1 → IsVisible x.cells p c → top w k p ≡ Some c.stamp
    visible_top plain p c a q sees = top_seen p ∙ visible_to x.cells plain p k 1 c a q sees

  module _ (c : ℕ) (inside : c < x.form.columns) where
    both : (x.form.owns r k && nat_lt c x.form.columns) ≡ true
    both = (λ i. mine i && lt-ltb c x.form.columns inside i)

    put_is : (s : ℕ) → w.put k s c ≡ value_at x.cells k (x.form.place c) s Put
    put_is s = ap (λ v. cond v (value_at x.cells k (x.form.place c) s Put) None) both

    del_is : (s : ℕ) → w.del k s c ≡ is_some (value_at x.cells k (x.form.place c) s DeleteColumn)
    del_is s = ap (λ v. v && is_some (value_at x.cells k (x.form.place c) s DeleteColumn)) both

    pub source_seen : (p : ℕ) → source w k c p ≡ seen_at (value_at x.cells) k (x.form.place c) p
    unfolding stops gives
    source_seen p = newest-equal (stops_at (value_at x.cells) k (x.form.place c)) (puts_at (value_at x.cells) k (x.form.place c)) (stops w k c) (gives w k c) p
        (λ s l. (λ i. fam_is s i || (del_is s i && not (ver_is s i))))
        (λ s l. (λ i. is_some (put_is s i) && not (ver_is s i)))

    -- the value that is visible
    pub vis_is : (p : ℕ) → vis w k p c ≡ read_at (λ s. value_at x.cells k (x.form.place c) s Put) (seen_at (value_at x.cells) k (x.form.place c) p)
    unfolding vis
    vis_is p = (λ i. read_at (λ s. put_is s i) (source_seen p i))

  -- the same, by what is true of an index's cells
  module _ (last : ℕ) (are : AreIndexCells x.form last x.cells) where
    pub top_is_seen : (p s : ℕ) → top w k p ≡ Some s → (v : List ℕ) × ((value_at x.cells k 1 s Put ≡ Some v) × IsVisible x.cells p (cell_of k 1 s Put v))
    top_is_seen p s e = top_visible (λ s. bare_at x.form last x.cells are k s) (index_plain x.form last x.cells are) p s e

    pub seen_is_top : (p : ℕ) (c : CellData) → c.key ≡ k → c.qualifier ≡ 1 → IsVisible x.cells p c → top w k p ≡ Some c.stamp
    seen_is_top p c a q sees = visible_top (λ s. bare_at x.form last x.cells are k s) (index_plain x.form last x.cells are) p c a q sees
