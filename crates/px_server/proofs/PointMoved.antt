-- A point of one group is opened or closed: what is true of a server stays so.
use Rattle.std.proofs.Common.{◌≡◌, ◌≢◌, ◌<◌, ◌≤◌, ◌+◌, ℕ, Option, List, [], ◌∷◌, ◌++◌, length, get_or, refl, sym, ◌∙◌, true, false, arith}
use Rattle.std.specs.Prelude.{IsTrue}
use Rattle.std.specs.List.{slice_set}
use Rattle.px_outside.specs.declared.disk.Disk.{Ghosts}
use Rattle.px_values.specs.declared.name.TableId.{TableId}
use Rattle.px_trail.specs.declared.entry.Entry.{Entry}
use Rattle.px_trail.specs.Lasting.{lasting}
use Rattle.px_trail.specs.Legal.{MayCome}
use Rattle.px_trail.specs.Recorded.{Recorded}
use Rattle.px_trail.specs.Trail.{Base, Catalogue, catalogue_of, catalogue_step, closing_step}
use Rattle.px_trail.proofs.Growth.{catalogue-snoc}
use Rattle.px_indexed.specs.Idle.{IsElsewhere}
use Rattle.px_groupworld.specs.Group.{no_part}
use Rattle.px_openbatches.specs.Pending.{HeldBatch}
use Rattle.px_schema.specs.declared.standing.Standing.{Standing}
use Rattle.px_catalog.specs.declared.catalog.Catalog.{Catalog}
use Rattle.px_group.specs.Group.{IsTallied, form_of}
use Rattle.px_group.specs.declared.group.Group.{Group}
use Rattle.px_noting.specs.Apart.{IsApartFrom}
use Rattle.px_noting.specs.Points.{IsSameBesidePoints}
use Rattle.px_noting.proofs.Shown.{shown_elsewhere}
use Rattle.px_server.specs.Kept.{HasFailed, HasPoints, IsKept, has_told, number_in, owed}
use Rattle.px_server.specs.Others.{Beginning}
use Rattle.px_server.proofs.Acted.{IsActed, acted, begun_at, once_at, right_at, tallied_at, traced_at}
use Rattle.px_server.proofs.Built.{IsOfOwn, IsUnbased, built_elsewhere, built_table}
use Rattle.px_server.proofs.Pointed.{begun_beside, disk_beside, once_beside, right_beside, shown_beside, told_beside, traced_beside}
use Rattle.px_server.proofs.Told.{told_elsewhere}

module _ {D : Type 0} (d : Ghosts D) (tells_left : (x : D) (moment file : ℕ) (bytes : List ℕ) → d.left x moment file bytes → IsTrue d.tells)
    (up_to_now : (x : D) (moment file : ℕ) (bytes : List ℕ) → d.left x moment file bytes → moment ≤ d.calls x) (b : Base) (sound premise : Type 0) (began : Beginning)
    (disk : D) (catalog : Catalog) (standing : Standing) (groups : List Group) (trail : Recorded) (late : Option Entry) (closed : Option ℕ) (k : IsKept d b sound premise began disk catalog standing groups trail late closed)
    (e : Entry) (at : e.calls ≡ d.calls disk) (quiet : lasting e ≡ false) (blames : has_told (trail.entries ++ e ∷ []) ≡ true → HasFailed d disk) (may : MayCome b trail.entries e) (unshut : closing_step closed e.act ≡ closed) (still : (c : Catalogue) → catalogue_step c e.act ≡ c)
    (elsewhere : (t : TableId) → IsElsewhere t e.act) (place : ℕ) (g g' : Group) (l : place < length groups) (is : get_or groups place g ≡ g) (beside : IsSameBesidePoints g g') (apart : (t : TableId) → t.0 ≢ number_in g → IsApartFrom t e.act) (none : (n : ℕ) → IsUnbased n e.act) (named : IsOfOwn b trail.entries (number_in g) e.act)
    (points : HasPoints (trail.entries ++ e ∷ []) g') (here : (hs : List HeldBatch) → IsTallied b trail.entries g hs → IsTallied b (trail.entries ++ e ∷ []) g' hs)
    (trail' : Recorded) (entries : trail'.entries ≡ trail.entries ++ e ∷ []) (less : owed g' + trail.room ≤ owed g + trail'.room) where
  abbrev es : List Entry
  es = trail.entries

  own : IsActed d disk b es (es ++ e ∷ []) closed g g'
  own = record {
    table = beside.table;
    points = points;
    right = λ running. right_beside g g' beside (right_at d b sound premise began disk catalog standing groups trail late closed k place g l is running);
    tallied = λ running. (let t = tallied_at d b sound premise began disk catalog standing groups trail late closed k place g l is running in record { held = t.held; tallied = here t.held t.tallied });
    once = λ running. once_beside g g' beside (once_at d b sound premise began disk catalog standing groups trail late closed k place g l is running);
    traced = λ call shut. traced_beside g g' beside b es e (elsewhere g.table.id) (traced_at d b sound premise began disk catalog standing groups trail late closed k place g l is call shut);
    begun = λ call shut. begun_beside g g' beside es e (elsewhere g.table.id) (begun_at d b sound premise began disk catalog standing groups trail late closed k place g l is call shut);
    shown = λ running index v hs tallied shown told built. record {
      after = v;
      held = hs;
      tallied = here hs tallied;
      shown = shown_beside g g' beside b (λ t. index) (es ++ e ∷ []) (λ n. v) hs (shown_elsewhere b index es g v hs shown e may (elsewhere g.table.id));
      told = told_beside g g' beside b (λ t. index) (es ++ e ∷ []) (λ n. v) (told_elsewhere b index es g v told e (elsewhere g.table.id));
      built = built_table b index (es ++ e ∷ []) v g.table g'.table (sym beside.table) (built_elsewhere (form_of b index g) es v shown.kept.group e may (elsewhere g.table.id) (λ i l. none (get_or v.indexes i no_part).id) built);
      high = omega arith;
      low = refl;
      cells = refl;
      indexes = refl;
    };
    on_disk = λ running f on. disk_beside g g' beside d disk f on;
  }

  pub pointed : IsKept d b sound premise began disk catalog standing (slice_set groups place g') trail' late closed
  pointed = acted d b sound premise began disk catalog standing groups trail late closed k place g l is tells_left up_to_now e at quiet blames may unshut (catalogue-snoc b es e ∙ still (catalogue_of b es)) apart named g' own trail' entries less
