-- What is left by a compaction was read before it.
use Rattle.std.proofs.Common.{◌≡◌, ℕ, ◌≤◌, Bool, true, false, cond, Option, Some, None, List, sym, ◌∙◌, inl, inr}
use Rattle.std.proofs.lemmas.Bool.{cases_lt}
use Rattle.px_cells.specs.declared.kind.CellKind.{CellKind}
use Rattle.px_cells.specs.declared.kind.CellKind.TheVariants.{Put, Delete, DeleteFamilyVersion, DeleteColumn, DeleteFamily}
use Rattle.px_cells.specs.CellData.{CellData}
use Rattle.px_cells.specs.Contents.{value_at}
use Rattle.px_cells.specs.Sight.{seen_at}
use Rattle.px_indexed.specs.Kept.{IsCompacted}
use Rattle.px_world.specs.Events.{is_at}
use Rattle.px_cellshapes.proofs.Each.{EachRead}

cond_some : {A : Type 0} (b : Bool) (o : Option A) (v : A) → cond b o None ≡ Some v → o ≡ Some v
cond_some true o v e = e
cond_some false o v e = cc

none_some : {A : Type 0} (v : A) → None ≡ Some v → ⊥
none_some v e = cc

module _ (old new : List CellData) (h : ℕ) (is : IsCompacted old new h) where
  was_below : (k : List ℕ) (q s : ℕ) (d : CellKind) (v : List ℕ) → s ≤ h → value_at new k q s d ≡ Some v → value_at old k q s d ≡ Some v
  was_below k q s Put v l e = cond_some (is_at s (seen_at (value_at old) k q h)) (value_at old k q s Put) v (sym (is.puts k q s l) ∙ e)
  was_below k q s Delete v l e = absurd (none_some v (sym (is.others k q s Delete l (λ x. cc)) ∙ e))
  was_below k q s DeleteFamilyVersion v l e = absurd (none_some v (sym (is.others k q s DeleteFamilyVersion l (λ x. cc)) ∙ e))
  was_below k q s DeleteColumn v l e = absurd (none_some v (sym (is.others k q s DeleteColumn l (λ x. cc)) ∙ e))
  was_below k q s DeleteFamily v l e = absurd (none_some v (sym (is.others k q s DeleteFamily l (λ x. cc)) ∙ e))

  pub each_compacted : (P : CellData → Type 0) → EachRead P old → EachRead P new
  each_compacted P o c v = elim (cases_lt h c.stamp) [
    | inl m ↦ o c (sym (is.above c.key c.qualifier c.stamp c.kind m) ∙ v)
    | inr m ↦ o c (was_below c.key c.qualifier c.stamp c.kind c.value m v)
  ]
