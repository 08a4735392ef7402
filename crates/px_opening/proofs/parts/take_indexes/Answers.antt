use Rattle.std.proofs.Common.{◌≡◌, ◌∙◌, ◌++◌, ◌∷◌, [], List, true, map, ap, sym, subst, rules}
use Rattle.std.specs.Prelude.{◌==◌, ℕ, IsPermutation}
use Rattle.std.proofs.lemmas.List.Elements.{All-push, All-same}
use Rattle.px_group.specs.declared.group.IndexRegion.{IndexRegion}
use Rattle.px_opening.specs.Opened.{IsPartRead, index_of_region, is_standing, region_in}
use Rattle.px_opening.proofs.Building.{moved_part, standing_next}
use Rattle.px_opening.proofs.parts.take_indexes.Goals as goal

same_number : (a b : ℕ) → a ≡ b → (a == b) ≡ true
same_number a b e = search rules

pub loop-index-preserved : goal.loop-index-preserved
loop-index-preserved c =
    let t = c.args.table.now in
    let i = c.index-item.result in
    let xs = c.loop-index.parts.items in
    let x = c.in-Ok.part in
    let v = c.loop-index.invariant in
    let items : c.push.new.self.items ≡ xs ++ x ∷ [] = search rules in
    let mine : (i.table.0 == t.id.0) ≡ true = same_number i.table.0 t.id.0 c.if-index-table.false in
    let runs : is_standing i ≡ true = search rules in
    record {
      indexes = ap (map index_of_region) items ∙ standing_next t.id.0 c.args.indexes.now c.loop-index.index-index i xs x c.loop-index-test.true c.index-item.is mine runs c.in-Ok.ensures.index v.indexes;
      moved = subst (λ (l : List IndexRegion). IsPermutation c.args.regions.now.items (map region_in l ++ c.take_index.new.regions.items)) (sym items) (moved_part c.args.regions.now.items xs x c.loop-index.regions.items c.take_index.new.regions.items v.moved c.in-Ok.ensures.moved);
      parts = All-same (IsPartRead t) c.push.new.self.items (xs ++ x ∷ []) items (All-push (IsPartRead t) xs x v.parts c.in-Ok.ensures.read_right);
    }
