-- The base versions of chunks, made at once.
use Rattle.std.proofs.Common.{ℕ, zero, suc, ◌≡◌, ◌<◌, Option, None, Some, Result, Ok, Err, List, [], ◌∷◌, map, length, slice_index_or, refl, subst, arith, inl, inr}
use Rattle.std.specs.List.{AllZip, Contains}
use Rattle.px_values.specs.declared.name.IndexId.{IndexId}
use Rattle.px_values.specs.declared.name.TableId.{TableId}
use Rattle.px_tables.specs.declared.table.TableColumn.{TableColumn}
use Rattle.px_calls.specs.declared.query.Point.{Point}
use Rattle.px_paths.specs.declared.path.PathColumn.{PathColumn}
use Rattle.px_trail.specs.Answers.{IsAmong}
use Rattle.px_calls.specs.declared.query.BaseRow.{BaseRow}
use Rattle.px_calls.specs.declared.query.FoundKey.{FoundKey}
use Rattle.px_upkeep.specs.declared.rows.RowsFault.{RowsFault}
use Rattle.px_upkeep.specs.declared.rows.RowsFault.TheVariants.{TooLong}
use Rattle.px_upkeep.specs.declared.build.Build.{Build}
use Rattle.px_upkeep.specs.declared.build.BuildState.{BuildState}
use Rattle.px_upkeep.specs.declared.build.BuildState.TheVariants as s
use Rattle.px_upkeep.specs.declared.build.Next.{Next}
use Rattle.px_upkeep.specs.Rows.{ArePieces, HasLongChunk, IsMadeOf}
use Rattle.px_upkeep.specs.Turns.{AfterMaking, BasesOn, ReadsOn}

module _ (t : List TableColumn) (keys columns : List PathColumn) where
  made_on : (cs : List (List FoundKey)) (ps : List (List BaseRow)) → AllZip (IsMadeOf t keys columns) cs (map Ok ps) → ArePieces t keys columns cs ps
  made_on [] [] z = tt
  made_on [] (p ∷ ps) z = absurd z
  made_on (c ∷ cs) [] z = absurd z
  made_on (c ∷ cs) (p ∷ ps) z = (z.0.ok, made_on cs ps z.1)

  -- the rows of each chunk were made
  pub all-made : (cs : List (List FoundKey)) (rs : List (Result (List BaseRow) RowsFault)) (ps : List (List BaseRow)) → AllZip (IsMadeOf t keys columns) cs rs → rs ≡ map Ok ps → ArePieces t keys columns cs ps
  all-made cs rs ps z e = made_on cs ps (subst (λ (l : List (Result (List BaseRow) RowsFault)). AllZip (IsMadeOf t keys columns) cs l) e z)

  long_at : (cs : List (List FoundKey)) (rs : List (Result (List BaseRow) RowsFault)) (k : ℕ) → AllZip (IsMadeOf t keys columns) cs rs → k < length rs → slice_index_or rs k (Err TooLong) ≡ Err TooLong → HasLongChunk columns cs
  unfolding IsAmong
  long_at [] [] k z low e = absurd (omega (arith, low))
  long_at [] (r ∷ rs) k z low e = absurd z
  long_at (c ∷ cs) [] k z low e = absurd z
  long_at (c ∷ cs) (r ∷ rs) zero z low e = record { chunk = c; among = inl refl; long = z.0.too_long e }
  long_at (c ∷ cs) (r ∷ rs) (suc k) z low e =
      let rest = long_at cs rs k z.1 (omega (arith, low)) e in
      record { chunk = rest.chunk; among = inr rest.among; long = rest.long }

  -- those of one weren't, since a key is too long
  pub one-long : (cs : List (List FoundKey)) (rs : List (Result (List BaseRow) RowsFault)) (f : RowsFault) → AllZip (IsMadeOf t keys columns) cs rs → Contains rs (Err f) → f ≡ TooLong → HasLongChunk columns cs
  one-long cs rs f z among is =
      let at = subst (λ (g : RowsFault). Contains rs (Err g)) is among in
      long_at cs rs at.0 z at.1 at.2

-- what comes of them then
module _ (b : Build) (t : TableId) (i : IndexId) (cs : List (List FoundKey)) (ps : List (List BaseRow)) where
  no_closing : (last : Option (List ℕ)) (p : Point) (after : Next) → ReadsOn b t i last (s.Closing p after) → ⊥
  no_closing None p after h = absurd h
  no_closing (Some last) p after h = absurd h

  pub goes-on : (last : Option (List ℕ)) (x : BuildState) → ArePieces b.point.found.table.columns b.keys b.columns cs ps → BasesOn b t i ps last x → AfterMaking b t i cs last x
  goes-on last (s.Closing p after) are is = absurd (no_closing last p after is.1)
  goes-on last x are is = (ps, are, is)
