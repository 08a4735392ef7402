-- The entries of an index may come.
use Rattle.std.proofs.Common.{◌≡◌, ◌<◌, ◌≤◌, ◌+◌, ℕ, Option, None, Some, List, sym, ap, ◌∙◌, arith}
use Rattle.std.specs.Prelude.{IsSome}
use Rattle.px_outside.specs.declared.disk.Disk.{Ghosts}
use Rattle.px_values.specs.declared.name.IndexId.{IndexId}
use Rattle.px_values.specs.declared.name.TableId.{TableId}
use Rattle.px_tables.specs.declared.index.Index.{Index}
use Rattle.px_tables.specs.declared.index.IndexState.TheVariants.{Active}
use Rattle.px_tables.specs.declared.index.NewIndex.{NewIndex}
use Rattle.px_trail.specs.declared.entry.Act.{Act}
use Rattle.px_trail.specs.declared.entry.Act.TheVariants.{Dropped, IndexMade, IndexState}
use Rattle.px_trail.specs.declared.entry.Entry.{Entry}
use Rattle.px_trail.specs.Legal.{Follows, IsQuiet, MayCome, MayState}
use Rattle.px_trail.specs.Recorded.{Recorded}
use Rattle.px_trail.specs.Trail.{Base, IsFreeName, catalogue_of, index_of, last_of, table_of}
use Rattle.px_schema.specs.declared.standing.Standing.{Standing}
use Rattle.px_catalog.specs.declared.catalog.Catalog.{Catalog}
use Rattle.px_group.specs.declared.group.Group.{Group}
use Rattle.px_recovery.proofs.Server.{newest_early}
use Rattle.px_server.specs.Kept.{IsKept}
use Rattle.px_server.specs.Others.{Beginning}

module _ {D : Type 0} (d : Ghosts D) (b : Base) (sound premise : Type 0) (began : Beginning) (disk : D) (catalog : Catalog) (standing : Standing) (groups : List Group) (trail : Recorded) (late : Option Entry) (closed : Option ℕ) (k : IsKept d b sound premise began disk catalog standing groups trail late closed) (running : closed ≡ None)
    (disk' : D) (later : d.calls disk ≤ d.calls disk') (seat : ℕ) (t : TableId) (i : IndexId) where
  abbrev es : List Entry
  es = trail.entries

  abbrev entry : Act → Entry
  entry act = record { seat = seat; calls = d.calls disk'; act = act }

  pub may_follow : (act : Act) → Follows b es seat (d.calls disk') act → MayCome b es (entry act)
  may_follow act follows = record {
    follows = follows;
    shut = λ past. k.told.closing ∙ running;
    calls = (let n = newest_early (d.calls disk) 0 es (omega arith) k.server.early in omega (arith, n, later));
  }

  pub may_make : (s : ℕ) (what : NewIndex) → i.0 ≡ standing.next + 1 → IsFreeName (catalogue_of b es) what.name → IsSome (table_of b es t.0) → what.table ≡ t → last_of b t.0 es < s → MayCome b es (entry (IndexMade t i s what))
  unfolding Follows
  may_make s what number free stands own above = may_follow (IndexMade t i s what) ((let n = k.told.agrees.next in omega (arith, number, n)), free, stands, own, above)

  pub may_ready : (x : Index) → index_of b es i.0 ≡ Some x → x.table.0 ≡ t.0 → MayCome b es (entry (IndexState t i Active x.birth))
  unfolding Follows MayState
  may_ready x is own = may_follow (IndexState t i Active x.birth) (record { index = x; is = is; owner = own }, λ z at. (let one : Some x ≡ Some z = sym is ∙ at in let same : x ≡ z = cc in ap (λ (w : Index). w.birth) same))

  pub may_drop : (x : Index) → index_of b es i.0 ≡ Some x → x.table.0 ≡ t.0 → IsQuiet es t.0 → MayCome b es (entry (Dropped t (Some i)))
  unfolding Follows
  may_drop x is own quiet = may_follow (Dropped t (Some i)) (record { index = x; is = is; owner = own }, quiet)
