-- The verdict that a consultation leaves in a doubt.
use Rattle.std.proofs.Common.{◌≡◌, ◌<◌, ℕ, zero, suc, Option, None, Some, List, [], ◌∷◌, length, get_or, slice_get, sym, ap, ◌∙◌, arith}
use Rattle.px_outside.specs.declared.disk.Disk.{Ghosts}
use Rattle.px_trail.specs.Recorded.{Recorded}
use Rattle.px_trail.specs.Trail.{Base}
use Rattle.px_trail.specs.declared.entry.Entry.{Entry}
use Rattle.px_calls.specs.declared.query.Doubt.{Doubt}
use Rattle.px_calls.specs.declared.query.Point.{Point}
use Rattle.px_calls.specs.declared.query.Verdict.{Verdict}
use Rattle.px_schema.specs.declared.standing.Standing.{Standing}
use Rattle.px_catalog.specs.declared.catalog.Catalog.{Catalog}
use Rattle.px_indexrow.specs.declared.doubt.Repair.{Repair}
use Rattle.px_group.specs.declared.group.Group.{Group}
use Rattle.px_group.specs.declared.group.IndexRegion.{IndexRegion}
use Rattle.px_pointreads.specs.Due.{IsDueOf, verdict_as}
use Rattle.px_pointreads.proofs.Dues.{due_is}
use Rattle.px_repairs.proofs.Handing.{got_some}
use Rattle.px_server.specs.Kept.{HasShown, IsKept, forms_in}
use Rattle.px_server.specs.Others.{Beginning}
use Rattle.px_server.specs.Verdicts.{HasDueVerdict}
use Rattle.px_server.proofs.Doubted.{some_same}
use Rattle.px_server.proofs.Lists.{all_at}
use Rattle.px_server.proofs.Sighted.{doubt_seen}

within : (xs : List IndexRegion) (i : ℕ) (x : IndexRegion) → slice_get xs i ≡ Some x → i < length xs
within [] i x e = absurd (let z : None ≡ Some x = e in cc)
within (y ∷ xs) zero x e = omega arith
within (y ∷ xs) (suc i) x e = (let r = within xs i x e in omega (arith, r))

module _ {D : Type 0} (d : Ghosts D) (b : Base) (sound premise : Type 0) (began : Beginning) (disk : D) (catalog : Catalog) (standing : Standing) (groups : List Group) (trail : Recorded) (late : Option Entry) (closed : Option ℕ)
    (k : IsKept d b sound premise began disk catalog standing groups trail late closed) (running : closed ≡ None) (place : ℕ) (g : Group) (l : place < length groups) (is : get_or groups place g ≡ g) where
  pub due_left : (p : Point) (q : Doubt) (repair : Repair) → IsDueOf g p q repair → (verdict : Verdict) → verdict ≡ verdict_as repair → sound → HasDueVerdict b trail.entries groups (record q { verdict = Some verdict })
  due_left p q repair told verdict e given = (let
      s = k.shown given running
      in let
      here = all_at (HasShown b trail.entries standing.indexes s.told) groups place g l is s.each
      in record {
        place = place;
        group = g;
        at = got_some groups place g g l (sym is);
        part = told.place;
        index = told.index;
        of = told.at;
        id = told.part.id;
        doubted = λ r had low. doubt_seen d b sound premise began disk catalog standing groups trail late closed k running place g g l is told.place q (within g.indexes.items told.place told.index told.at)
            (λ y f. ap (λ (z : IndexRegion). z.index.id) (some_same y told.index (sym f ∙ told.at)) ∙ told.part.id) r had told.index told.at;
        verdict_is = λ below. ap Some (e ∙ due_is b (forms_in standing.indexes g.table) trail.entries g (s.told g.table.id.0) here.held here.tallied here.shown here.told told.place told.index told.at q.key q.stamp repair told.due_there below);
      })
