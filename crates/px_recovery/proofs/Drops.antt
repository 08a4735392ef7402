-- A table is dropped with its indexes.
use Rattle.std.proofs.Common.{◌≡◌, ◌≢◌, ◌≤◌, inl, inr, ℕ, Bool, true, false, Option, Some, None, List, [], ◌∷◌, ◌++◌, refl, sym, ap, subst, ◌∙◌, arith}
use Rattle.std.specs.Prelude.{if◌then◌else◌, not, ◌==◌}
use Rattle.std.specs.List.{AllByRecursion}
use Rattle.std.proofs.lemmas.Bool.{cases_eq, ne_eqb}
use Rattle.px_values.specs.declared.name.TableId.{TableId}
use Rattle.px_tables.specs.declared.index.Index.{Index}
use Rattle.px_tables.specs.declared.table.Table.{Table}
use Rattle.px_trail.specs.declared.entry.Act.{Act}
use Rattle.px_trail.specs.declared.entry.Act.TheVariants.{Dropped}
use Rattle.px_trail.specs.declared.entry.Entry.{Entry}
use Rattle.px_trail.specs.Legal.{MayCome}
use Rattle.px_trail.specs.Trail.{Base, Catalogue, catalogue_of, catalogue_step, last_of, of_others, set_number}
use Rattle.px_trail.proofs.Growth.{catalogue-snoc, last-snoc, legal-snoc}
use Rattle.px_trail.proofs.Standing.{set_number-other, set_number-same}
use Rattle.px_indexed.specs.Idle.{IsElsewhere}
use Rattle.px_indexed.proofs.Idle.{act_idle}
use Rattle.px_groupworld.specs.Group.{GroupData}
use Rattle.px_groupworld.proofs.Entries.{group_idle}
use Rattle.px_schema.specs.Stands.{other_tables, stands_after}
use Rattle.px_schema.specs.declared.item.CatalogItem.TheVariants.{TableGone}
use Rattle.px_schema.specs.declared.standing.Standing.{Standing}
use Rattle.px_schema.proofs.Numbers.{below_next, filter_all}
use Rattle.px_recovery.specs.Folder.{FolderData, with_standing}
use Rattle.px_recovery.specs.Stands.{AreNumbered, Explains, TellsCatalogue, opened_index}
use Rattle.px_recovery.specs.Tables.{form_of_table, index_in, number_of_index, region_of_index, table_in}
use Rattle.px_recovery.proofs.Forms.{same_table}
use Rattle.px_recovery.proofs.Lookups.{index_of_others, indexes_kept, table_dropped, table_kept}
use Rattle.px_recovery.proofs.Notes.{last_step_up}
use Rattle.px_recovery.proofs.Numbered.{distinct_filter, found_number, none_filter}

-- ---- what is found then

-- a table that stands then stood before, and is another one
pub stood_before : (ts : List Table) (n q : ℕ) (x : Table) → table_in (other_tables n ts) q ≡ Some x → (n ≢ q) × (table_in ts q ≡ Some x)
stood_before ts n q x is = elim (cases_eq n q) [
  | inl e ↦ absurd (let none : None ≡ Some x = sym (table_dropped ts n q e) ∙ is in cc)
  | inr e ↦ (e, sym (table_kept ts n q e) ∙ is)
]

others_if_opened : (x : Index) (o : Option Index) (c : Bool) → o ≡ opened_index (Some x) → opened_index (if c then None else Some x) ≡ (if c then None else o)
others_if_opened x o true is = refl
others_if_opened x o false is = sym is

pub others_opened : (t : ℕ) (o : Option Index) → opened_index (of_others t o) ≡ of_others t (opened_index o)
others_opened t None = refl
others_opened t (Some x) = others_if_opened x (opened_index (Some x)) (x.table.0 == t) refl

pub others_stay : (t : ℕ) (x : Index) → x.table.0 ≢ t → of_others t (Some x) ≡ Some x
others_stay t x other = ap (λ (c : Bool). if c then None else Some x) (ne_eqb x.table.0 t other)

module _ (s : Standing) (c : Catalogue) (told : TellsCatalogue s c) (numbered : AreNumbered s) (t : TableId) where
  abbrev gone : Standing
  gone = stands_after s (TableGone t)

  tables_gone : (q : ℕ) → table_in (other_tables t.0 s.tables) q ≡ set_number t.0 None c.tables q
  tables_gone q = elim (cases_eq t.0 q) [
    | inl e ↦ table_dropped s.tables t.0 q e ∙ sym (subst (λ (m : ℕ). set_number t.0 None c.tables m ≡ None) e (set_number-same t.0 None c.tables))
    | inr e ↦ table_kept s.tables t.0 q e ∙ (told.tables q ∙ sym (set_number-other t.0 None c.tables q e))
  ]

  pub catalogue_gone : TellsCatalogue gone (catalogue_step c (Dropped t None))
  unfolding catalogue_step
  catalogue_gone = record {
    next = told.next;
    tables = tables_gone;
    indexes = λ i.
        ap opened_index (index_of_others t.0 s.indexes i numbered.ids)
        ∙ (others_opened t.0 (index_in s.indexes i) ∙ (ap (of_others t.0) (told.indexes i) ∙ sym (others_opened t.0 (c.indexes i))));
  }

  pub numbered_gone : AreNumbered gone
  numbered_gone = record {
    tables = λ q u n x y one two a z. numbered.tables q u n x y (stood_before s.tables t.0 q x one).1 (stood_before s.tables t.0 u y two).1 a z;
    each = λ q x is. numbered.each q x (stood_before s.tables t.0 q x is).1;
    apart = λ q n x is one. none_filter region_of_index n (λ (i : Index). not (i.table.0 == t.0)) s.indexes (numbered.apart q n x (stood_before s.tables t.0 q x is).1 one);
    indexes = distinct_filter region_of_index (λ (i : Index). not (i.table.0 == t.0)) s.indexes numbered.indexes;
    ids = distinct_filter number_of_index (λ (i : Index). not (i.table.0 == t.0)) s.indexes numbered.ids;
    some = filter_all (λ (x : Table). AllByRecursion (λ g. 1 ≤ g.number) x.regions) (λ (x : Table). not (x.id.0 == t.0)) s.tables numbered.some;
    some_index = filter_all (λ (i : Index). 1 ≤ i.region) (λ (i : Index). not (i.table.0 == t.0)) s.indexes numbered.some_index;
    below = below_next s (TableGone t) numbered.below;
    least = numbered.least;
  }

-- ---- the folder then

pub table_gone : (b : Base) (es : List Entry) (f : FolderData) (v : ℕ → GroupData) → Explains b es f v → (e : Entry) → MayCome b es e → (t : TableId) → e.act ≡ Dropped t None → Explains b (es ++ e ∷ []) (with_standing (stands_after f.standing (TableGone t)) f) v
table_gone b es f v told e may t is = record {
  legal = legal-snoc b es e told.legal may;
  catalogue = subst (λ (c : Catalogue). TellsCatalogue (stands_after f.standing (TableGone t)) c) (sym (catalogue-snoc b es e ∙ ap (catalogue_step (catalogue_of b es)) is)) (catalogue_gone f.standing (catalogue_of b es) told.catalogue told.numbered t);
  numbered = numbered_gone f.standing (catalogue_of b es) told.catalogue told.numbered t;
  tables = λ q x found.
      let was = stood_before f.standing.tables t.0 q x found in
      let here = told.tables q x was.1 in
      let number = found_number f.standing.tables q x was.1 in
      let other : t.0 ≢ x.id.0 = (λ same. was.0 (same ∙ number)) in
      same_table b es (es ++ e ∷ []) f (stands_after f.standing (TableGone t)) x (v q) here
      (group_idle (form_of_table b f.standing.indexes x) es (v q) here.kept e may (act_idle x.id e (subst (λ (a : Act). IsElsewhere x.id a) (sym is) tt))).kept
      (let up = last_step_up x.id.0 (last_of b x.id.0 es) e.act in let l = last-snoc b x.id.0 es e in omega arith)
      (λ n i stood its. index_of_others t.0 f.standing.indexes n told.numbered.ids ∙ (ap (of_others t.0) stood ∙ others_stay t.0 i (λ same. other (sym same ∙ its))))
      (indexes_kept t.0 x.id.0 f.standing.indexes other);
}
