-- A table's horizon is at most its last stamp.
use Rattle.std.proofs.Common.{◌≡◌, ◌≤◌, ℕ, Bool, true, false, ◌==◌, if◌then◌else◌, Option, Some, None, List, [], ◌∷◌, ◌++◌, refl, subst, arith}
use Rattle.std.proofs.lemmas.Bool.{eqb-true}
use Rattle.px_tables.specs.declared.table.Table.{Table}
use Rattle.px_tablefolder.specs.Folder.{IndexFiles, folder_high, folder_last, greatest_horizon, greatest_in_indexes}
use Rattle.px_trail.specs.declared.entry.Act.{Act}
use Rattle.px_trail.specs.declared.entry.Act.TheVariants.{Raised}
use Rattle.px_trail.specs.declared.entry.Entry.{Entry}
use Rattle.px_trail.specs.Legal.{Follows, IsLegal, MayCome}
use Rattle.px_trail.specs.Trail.{Base, horizon_from, horizon_of, horizon_step, last_from, last_of, last_step}
use Rattle.px_trail.proofs.Growth.{horizon-snoc, last-snoc, legal-induct}
use Rattle.px_recovery.specs.Base.{base_of, told_of_table}
use Rattle.px_recovery.specs.Folder.{FolderData}
use Rattle.px_recovery.specs.Tables.{table_files, table_in}
use Rattle.px_recovery.proofs.Notes.{last_step_up}

-- ---- what a run begins with

high_last : (xs : List IndexFiles) → greatest_horizon xs ≤ greatest_in_indexes xs
unfolding greatest_horizon greatest_in_indexes
high_last [] = omega arith
high_last (x ∷ xs) = let n = high_last xs in omega (arith, n)

pub low_base : (f : FolderData) (t : ℕ) → (base_of f).horizon t ≤ (base_of f).last t
low_base f t = by (table_in f.standing.tables t)
  where
    by : (o : Option Table) → told_of_table (λ x. folder_high (table_files f x)) 0 o ≤ told_of_table (λ x. folder_last (table_files f x)) 0 o
    by None = omega arith
    by (Some x) = let n = high_last (table_files f x).indexes in omega (arith, n)

-- ---- at any time

module _ (b : Base) (low : (t : ℕ) → b.horizon t ≤ b.last t) where
  abbrev AreLow : List Entry → Type 0
  AreLow es = (t : ℕ) → horizon_of b t es ≤ last_of b t es

  step_low : (es : List Entry) → AreLow es → (t seat calls : ℕ) (act : Act) → Follows b es seat calls act → horizon_step t (horizon_of b t es) act ≤ last_step t (last_of b t es) act
  unfolding Follows
  step_low es before t seat calls (Raised t' h) f = raised (t'.0 == t) (λ is. eqb-true t'.0 t is)
    where
      raised : (c : Bool) → (c ≡ true → t'.0 ≡ t) → (if c then h else horizon_of b t es) ≤ last_of b t es
      raised true same = subst (λ (u : ℕ). h ≤ last_of b u es) (same refl) f.last
      raised false same = before t
  step_low es before t seat calls act f = let n = before t in let m = last_step_up t (last_of b t es) act in omega (arith, n, m)

  next_low : (es : List Entry) (e : Entry) → IsLegal b es → MayCome b es e → AreLow es → AreLow (es ++ e ∷ [])
  next_low es e legal may before t =
      let h = horizon-snoc b t es e in
      let l = last-snoc b t es e in
      let n = step_low es before t e.seat e.calls e.act may.follows in
      omega (arith, h, l, n)

  pub horizon_low : (es : List Entry) → IsLegal b es → AreLow es
  unfolding horizon_from last_from
  horizon_low es legal = legal-induct b AreLow next_low [] es legal low
