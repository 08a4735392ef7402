use Rattle.std.proofs.Common.{◌≡◌, ◌<◌, ◌∙◌, ◌++◌, ◌∷◌, [], List, length, map, get_or, ap, sym, subst, rules}
use Rattle.std.specs.Prelude.{IsPermutation}
use Rattle.std.proofs.lemmas.List.Elements.{All-push, All-same}
use Rattle.px_tables.specs.declared.index.Index.{Index}
use Rattle.px_tables.specs.declared.table.Table.{Table}
use Rattle.px_indexrow.specs.Form.{IsRightIndex}
use Rattle.px_group.specs.declared.group.Group.{Group}
use Rattle.px_opening.specs.Opened.{IsGroupOf, regions_in, table_in_group}
use Rattle.px_opening.proofs.Building.{found_at, group_same, groups_rest, moved_group, right_for, tables_next}
use Rattle.px_opening.proofs.opened.make_groups.Goals as goal

pub make_group-requires-clause-right : goal.make_group-requires-clause-right
make_group-requires-clause-right c =
    let s = c.args.standing.now in
    let t = c.table-item.result in
    let ts = c.as_slice-table-items.ensures in
    let lt : c.loop-table.table-index < length s.tables = subst (λ (l : List Table). c.loop-table.table-index < length l) ts c.loop-table-test.true in
    let is : t ≡ get_or s.tables c.loop-table.table-index t = subst (λ (l : List Table). t ≡ get_or l c.loop-table.table-index t) ts c.table-item.is in
    All-same (λ (i : Index). i.table.0 ≡ t.id.0 → IsRightIndex t i) c.as_slice.result.now s.indexes c.as_slice.ensures (right_for s c.requires t (found_at s c.requires c.loop-table.table-index t lt is))

pub loop-table-preserved : goal.loop-table-preserved
loop-table-preserved c =
    let s = c.args.standing.now in
    let t = c.table-item.result in
    let k = c.loop-table.table-index in
    let gs = c.loop-table.groups.items in
    let g = c.in-Ok.group in
    let v = c.loop-table.invariant in
    let rest = c.loop-table.regions.items in
    let now = c.make_group.new.regions.items in
    let ts = c.as_slice-table-items.ensures in
    let lt : k < length s.tables = subst (λ (l : List Table). k < length l) ts c.loop-table-test.true in
    let is : t ≡ get_or s.tables k t = subst (λ (l : List Table). t ≡ get_or l k t) ts c.table-item.is in
    let items : c.push.new.self.items ≡ gs ++ g ∷ [] = search rules in
    record {
      tables = ap (map table_in_group) items ∙ tables_next s.tables k t gs g lt is c.in-Ok.ensures.table v.tables;
      moved = subst (λ (l : List Group). IsPermutation c.args.regions.now.items (regions_in l now)) (sym items) (moved_group c.args.regions.now.items gs g rest now v.moved c.in-Ok.ensures.moved);
      groups = λ f all. (
          let one = c.in-Ok.ensures.group f (groups_rest f c.args.regions.now.items gs rest v.moved all) in
          All-same (IsGroupOf f s.indexes) c.push.new.self.items (gs ++ g ∷ []) items (All-push (IsGroupOf f s.indexes) gs g (v.groups f all) (group_same f s.indexes c.as_slice.result.now c.as_slice.ensures g one)));
    }
