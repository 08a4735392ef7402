use Rattle.std.proofs.Common.{◌≡◌, ◌∙◌, List, sym, subst}
use Rattle.rayon.specs.Lists.{vec_items}
use Rattle.px_calls.specs.declared.query.BaseRow.{BaseRow}
use Rattle.px_calls.specs.declared.query.FoundKey.{FoundKey}
use Rattle.px_upkeep.specs.declared.rows.RowsFault.TheVariants.{TooLong}
use Rattle.px_upkeep.specs.Rows.{ArePieces, HasLongChunk}
use Rattle.px_upkeep.proofs.Making.{all-made, one-long}
use Rattle.px_upkeep.proofs.rows.base_pieces.Goals as goal

pub returns-in-Ok-Ok-clause-ok : goal.returns-in-Ok-Ok-clause-ok
returns-in-Ok-Ok-clause-ok g c =
    let h = rw c.in-Ok-Ok.field-0-is at c.in-Ok-Ok.ensures in
    let chain = rw (c.map.ensures.base, c.map.ensures.f) at h.1 in
    let from : chain.0 ≡ c.args.chunks = chain.1 ∙ (λ j. vec_items (c.with_min_len.ensures.base j)) ∙ c.into_par_iter.ensures ∙ c.into_vec.ensures in
    let are : ArePieces c.args.table.now c.args.keys.now c.args.columns.now chain.0 h.2.0 = all-made c.args.table.now c.args.keys.now c.args.columns.now chain.0 h.0 h.2.0 chain.2 h.2.1 in
    let told : ArePieces c.args.table.now c.args.keys.now c.args.columns.now chain.0 c.of.result = subst (λ (ps : List (List BaseRow)). ArePieces c.args.table.now c.args.keys.now c.args.columns.now chain.0 ps) (sym h.2.2 ∙ sym c.of.ensures) are in
    subst (λ (cs : List (List FoundKey)). ArePieces c.args.table.now c.args.keys.now c.args.columns.now cs c.of.result) from told

pub returns-in-Ok-Err-clause-too_long : goal.returns-in-Ok-Err-clause-too_long
returns-in-Ok-Err-clause-too_long g c =
    let h = rw c.in-Ok-Err.field-0-is at c.in-Ok-Err.ensures in
    let chain = rw (c.map.ensures.base, c.map.ensures.f) at h.1 in
    let from : chain.0 ≡ c.args.chunks = chain.1 ∙ (λ j. vec_items (c.with_min_len.ensures.base j)) ∙ c.into_par_iter.ensures ∙ c.into_vec.ensures in
    λ e.
    let is : c.in-Ok-Err.fault ≡ TooLong = cc in
    let long : HasLongChunk c.args.columns.now chain.0 = one-long c.args.table.now c.args.keys.now c.args.columns.now chain.0 h.0 c.in-Ok-Err.fault chain.2 h.2 is in
    subst (λ (cs : List (List FoundKey)). HasLongChunk c.args.columns.now cs) from long
