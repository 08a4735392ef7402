-- Every table has a folder.
use Rattle.std.proofs.Common.{◌≡◌, ℕ, ◌<◌, ◌≤◌, List, map, length, get_or, refl, ap, sym, ◌∙◌, subst, arith}
use Rattle.std.proofs.Math.ListN.{get_or-map}
use Rattle.std.proofs.lemmas.List.{length-map}
use Rattle.px_trail.specs.declared.entry.Entry.{Entry}
use Rattle.px_trail.specs.Trail.{last_of}
use Rattle.px_indexed.proofs.Regions.{none_above}
use Rattle.px_groupworld.specs.Group.{TableForm, GroupData, GroupKept, indexed_at, no_part}
use Rattle.px_tablefolder.specs.Folder.{IndexFiles, IsFilesOf, IsFolderOf, files_at, files_of_group, last_cell, no_files}
use Rattle.px_tablefolder.proofs.Stamped.{cells_within}

module _ (f : TableForm) (es : List Entry) (v : GroupData) (g : GroupKept f es v) where
  at_is : (i : ℕ) → get_or (map files_at v.indexes) i no_files ≡ files_at (get_or v.indexes i no_part)
  at_is i = get_or-map files_at v.indexes i no_part

  inside : (i : ℕ) → i < length (map files_at v.indexes) → i < length v.indexes
  inside i l = let n = length-map v.indexes files_at in omega arith

  pub files_are : IsFolderOf f es v (files_of_group v)
  files_are = record {
    horizon = refl;
    cells = refl;
    active = λ i l a. (i, (inside i l, subst (λ (y : IndexFiles). IsFilesOf (get_or v.indexes i no_part) y) (sym (at_is i)) (record { id = refl; cells = refl; birth = refl; horizon = refl; built = ap (λ (y : IndexFiles). y.is_active) (sym (at_is i)) ∙ a })));
    below = λ i l. subst (λ (y : IndexFiles). y.horizon ≤ v.high) (sym (at_is i)) (g.own i (inside i l));
    others = λ i l a. subst (λ (y : IndexFiles). (y.birth ≤ last_of f.base f.id.0 es) × (last_cell y.cells ≤ last_of f.base f.id.0 es)) (sym (at_is i)) (
      (let k = g.indexes i (inside i l) in k.birth),
      cells_within (get_or v.indexes i no_part).cells (last_of f.base f.id.0 es) (none_above (indexed_at f v i).form (last_of f.base f.id.0 es) (get_or v.indexes i no_part).cells (g.indexes i (inside i l)).cells),
    );
  }
