use Rattle.std.proofs.Common.{◌-◌, ◌+◌, ◌++◌, ◌∷◌, [], ℕ, List, subst, sym, ◌∙◌, arith}
use Rattle.px_tables.specs.declared.table.TableRegion.{TableRegion}
use Rattle.px_pieces.specs.Taking.{IsPartWay, IsTakenAt}
use Rattle.px_schema.specs.Parts.{no_region, region, regions_from}
use Rattle.px_schema.proofs.ListSteps.{pushed, way_done, way_fault, way_more, way_none}
use Rattle.px_schema.proofs.list.regions_from_place.Goals as goal

pub loop-taken-init : goal.loop-taken-init
loop-taken-init c = (
  subst (λ (l : List TableRegion). IsPartWay no_region (λ (left most : ℕ). region most) (λ most r. 65535) c.args.count 0 c.args.bytes.now c.args.at l (c.args.count - 0) 0 c.args.at) (sym c.new-list.ensures.items)
      (way_none no_region (λ (left most : ℕ). region most) (λ most r. 65535) c.args.bytes.now c.args.count 0 c.args.at c.requires.begins),
  omega arith,
)

pub returns-in-Err : goal.returns-in-Err
unfolding regions_from
returns-in-Err c = way_fault no_region (λ (left most : ℕ). region most) (λ most r. 65535) c.args.bytes.now c.args.count 0 c.args.at c.loop-taken.list.items c.loop-taken._taken c.loop-taken.most c.loop-taken.end c.in-Err.fault c.loop-taken-test.true
    c.loop-taken.invariant.0 c.in-Err.ensures

pub loop-taken-preserved : goal.loop-taken-preserved
loop-taken-preserved c = (
  subst (λ (l : List TableRegion). IsPartWay no_region (λ (left most : ℕ). region most) (λ most r. 65535) c.args.count 0 c.args.bytes.now c.args.at l (c.args.count - (c.loop-taken._taken + 1)) 65535 c.in-Ok.behind)
      (sym (pushed c.push.result c.push.new.self.items c.loop-taken.list.items (c.loop-taken.list.items ++ c.in-Ok.region ∷ []) (sym c.is_err.ensures.value ∙ c.if-is_err.false) c.push.ensures.items))
      (way_more no_region (λ (left most : ℕ). region most) (λ most r. 65535) c.args.bytes.now c.args.count 0 c.args.at c.loop-taken.list.items c.loop-taken._taken c.loop-taken.most c.loop-taken.end c.in-Ok.region c.in-Ok.behind c.loop-taken-test.true
      c.loop-taken.invariant.0 c.in-Ok.ensures),
  omega arith,
)

pub returns : goal.returns
unfolding regions_from
returns c = subst (λ l. IsTakenAt (regions_from 0 c.args.count) c.args.bytes.now c.args.at l c.loop-taken.end) (sym c.of.ensures)
    (way_done no_region (λ (left most : ℕ). region most) (λ most r. 65535) c.args.bytes.now c.args.count 0 c.args.at c.loop-taken.list.items c.loop-taken._taken c.loop-taken.most c.loop-taken.end c.loop-taken-test.false c.loop-taken.invariant.0)
