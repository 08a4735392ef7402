-- What a group shows asks for the forms of its own indexes alone.
use Rattle.std.proofs.Common.{◌≡◌, ◌<◌, ◌≤◌, ℕ, zero, suc, Some, List, [], ◌∷◌, length, get_or, slice_get, sym, subst, ◌∙◌, arith}
use Rattle.std.specs.List.{AllByRecursion}
use Rattle.px_trail.specs.declared.entry.Entry.{Entry}
use Rattle.px_trail.specs.Trail.{Base}
use Rattle.px_world.specs.Closed.{Closed}
use Rattle.px_forms.specs.Indexes.{IndexForm, shape_at}
use Rattle.px_indexed.specs.Worlds.{world_at}
use Rattle.px_groupworld.specs.Group.{GroupData, TableForm, indexed_at, no_part}
use Rattle.px_openbatches.specs.Made.{IsPutOfRow, IsRowMade, RowCells}
use Rattle.px_openbatches.specs.Opens.{AreClosed, IsBatchReady, form_in}
use Rattle.px_openbatches.specs.Pending.{HeldBatch}
use Rattle.px_openbatches.proofs.Mades.{made_form}
use Rattle.px_tablesteps.specs.Kept.{AreMarksClosed, TableKept}
use Rattle.px_group.specs.Group.{IsShownBy, form_of}
use Rattle.px_group.specs.declared.group.Group.{Group}
use Rattle.px_group.specs.declared.group.IndexRegion.{IndexRegion}
use Rattle.px_reading.specs.Doubts.{IsToldBy}
use Rattle.px_recovery.proofs.Forms.{other_forms}
use Rattle.px_server.proofs.Lists.{all_weaker}

pub get_some : {A : Type 0} (xs : List A) (j : ℕ) → j < length xs → (x : A) × (slice_get xs j ≡ Some x)
get_some [] j l = absurd (omega (arith, l))
get_some (x ∷ xs) zero l = (x, λ i. Some x)
get_some (x ∷ xs) (suc j) l = get_some xs j (omega (arith, l))

module _ (f : TableForm) (index : ℕ → IndexForm) (es : List Entry) (v : GroupData) (same : (j : ℕ) → j < length v.indexes → index (get_or v.indexes j no_part).id ≡ f.index (get_or v.indexes j no_part).id) where
  abbrev f' : TableForm
  f' = record f { index = index }

  made_rows : (form : ℕ → IndexForm) (count s : ℕ) (h : HeldBatch) (xs : List RowCells) → AllByRecursion (IsRowMade f es form count s h.changes) xs → AllByRecursion (IsRowMade f' es form count s h.changes) xs
  made_rows form count s h xs all = all_weaker (IsRowMade f es form count s h.changes) (IsRowMade f' es form count s h.changes) (λ x m. record {
    marks = m.marks;
    closes = m.closes;
    keys = all_weaker (IsPutOfRow f x.row) (IsPutOfRow f' x.row) (λ c p. record { key = p.key; placed = p.placed; kind = p.kind }) x.puts m.keys;
    puts = m.puts;
  }) xs all

  ready_forms : (h : HeldBatch) → IsBatchReady f es v.indexes h → IsBatchReady f' es v.indexes h
  ready_forms h r = (let
      made = made_form f es (form_in f v.indexes) h.count h.stamp h.changes h.cells r.made (form_in f' v.indexes) (λ i l. same i (let n = r.inside in omega (arith, n, l)))
      in record {
        inside = r.inside;
        distinct = r.distinct;
        made = record { rows = made.rows; each = made_rows (form_in f' v.indexes) h.count h.stamp h h.cells made.each };
        born = r.born;
      })

  closed_forms : (h : HeldBatch) (n : ℕ) → n ≤ length v.indexes → AreClosed f es v h n → AreClosed f' es v h n
  closed_forms h n within c = record {
    each = λ i l r own.
        subst (λ (form : IndexForm). Closed (shape_at f.rows.shape form r) (world_at f.rows.shape f.base es f.id.0 v.high (record (indexed_at f v i) { form = form }) r) h.stamp)
        (sym (same i (omega (arith, l, within)))) (c.each i l r own);
  }

  shut_forms : (h : HeldBatch) → IsBatchReady f es v.indexes h → AreMarksClosed f es v h → AreMarksClosed f' es v h
  shut_forms h r s = record { whole = s.whole; inside = s.inside; closed = closed_forms h h.verified (let m = s.inside in let n = r.inside in omega (arith, m, n)) s.closed }

  all_shut : (hs : List HeldBatch) → AllByRecursion (IsBatchReady f es v.indexes) hs → AllByRecursion (AreMarksClosed f es v) hs → AllByRecursion (AreMarksClosed f' es v) hs
  all_shut [] ready shut = tt
  all_shut (h ∷ hs) ready shut = (shut_forms h ready.0 shut.0, all_shut hs ready.1 shut.1)

  pub kept_forms : (hs : List HeldBatch) → TableKept f es v hs → TableKept f' es v hs
  kept_forms hs k = record {
    group = other_forms f index es v same k.group;
    opens = record { held = k.opens.held; ready = all_weaker (IsBatchReady f es v.indexes) (IsBatchReady f' es v.indexes) ready_forms hs k.opens.ready };
    same = k.same;
    shut = all_shut hs k.opens.ready k.shut;
  }

module _ (b : Base) (es : List Entry) (g : Group) (index index' : ℕ → IndexForm) (same : (i : ℕ) (x : IndexRegion) → slice_get g.indexes.items i ≡ Some x → index' x.index.id.0 ≡ index x.index.id.0) (v : GroupData) where
  pub form_at : (hs : List HeldBatch) → IsShownBy b index es g v hs → (j : ℕ) → j < length v.indexes → index' (get_or v.indexes j no_part).id ≡ index (get_or v.indexes j no_part).id
  form_at hs k j l = (let
      x = get_some g.indexes.items j (let n = k.count in omega (arith, n, l))
      in let
      id : (get_or v.indexes j no_part).id ≡ x.0.index.id.0 = (k.parts j x.0 x.1).id
      in subst (λ (n : ℕ). index' n ≡ index n) (sym id) (same j x.0 x.1))

  pub shown_forms : (hs : List HeldBatch) → IsShownBy b index es g v hs → IsShownBy b index' es g v hs
  shown_forms hs k = record {
    kept = kept_forms (form_of b index g) index' es v (form_at hs k) hs k.kept;
    rows = k.rows;
    count = k.count;
    parts = k.parts;
    forms = λ i x at. same i x at ∙ k.forms i x at;
  }

  pub told_forms : IsToldBy b index es g v → IsToldBy b index' es g v
  told_forms k = record { told = record { each = k.told.each }; own = k.own }
