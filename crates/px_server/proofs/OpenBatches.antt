-- Each batch that is written and hasn't ended is in its table's group.
use Rattle.std.proofs.Common.{◌≡◌, ℕ, zero, suc, ◌||◌, ◌==◌, Some, List, [], ◌∷◌, ◌++◌, map, refl, sym, ap, ◌∙◌}
use Rattle.std.specs.Prelude.{slice_get}
use Rattle.std.specs.List.{AllByRecursion, list_any}
use Rattle.std.proofs.Math.ListN.{set}
use Rattle.px_tables.specs.declared.table.Table.{Table}
use Rattle.px_trail.specs.declared.entry.Entry.{Entry}
use Rattle.px_trail.specs.Batches.{Batch, batch_of, phase_of}
use Rattle.px_trail.specs.Trail.{Base}
use Rattle.px_trail.proofs.Growth.{batch_of-snoc}
use Rattle.px_indexed.specs.Idle.{IsElsewhere}
use Rattle.px_indexed.proofs.Idle.{act_idle}
use Rattle.px_openbatches.specs.Pending.{HeldBatch, is_in}
use Rattle.px_phases.specs.Batch.{AreHeldAs}
use Rattle.px_group.specs.Group.{IsTallied, as_phase, batch_in}
use Rattle.px_group.specs.declared.group.Begun.{Begun}
use Rattle.px_group.specs.declared.group.Group.{Group}
use Rattle.px_batching.proofs.Pairs.{tied_at, to_tied}
use Rattle.px_server.specs.Kept.{HasBegun, HasTallied}

abbrev pub stamp_in : Begun → ℕ
stamp_in m = m.batch.stamp

of_stamps : (s : ℕ) (ms : List Begun) → list_any (λ m. m.batch.stamp == s) ms ≡ list_any (λ n. n == s) (map stamp_in ms)
of_stamps s [] = refl
of_stamps s (m ∷ ms) = ap (λ v. (m.batch.stamp == s) || v) (of_stamps s ms)

held_stamps : (s : ℕ) (ms : List Begun) (hs : List HeldBatch) → AreHeldAs (map batch_in ms) hs → list_any (λ m. m.batch.stamp == s) ms ≡ is_in s hs
held_stamps s [] [] alike = refl
held_stamps s [] (h ∷ hs) alike = absurd alike
held_stamps s (m ∷ ms) [] alike = absurd alike
held_stamps s (m ∷ ms) (h ∷ hs) alike = ap (λ v. (v == s) || list_any (λ x. x.batch.stamp == s) ms) (sym alike.0.stamp) ∙ ap (λ v. (h.stamp == s) || v) (held_stamps s ms hs alike.1)

-- where the trail tells of the group what it is
pub begun_tallied : (b : Base) (es : List Entry) (g : Group) (hs : List HeldBatch) → IsTallied b es g hs → HasBegun es g
begun_tallied b es g hs k s y is running written = held_stamps s g.batches.items hs k.batches ∙ k.held.all s y is running

pub all_begun : (b : Base) (es : List Entry) (gs : List Group) → AllByRecursion (HasTallied b es) gs → AllByRecursion (HasBegun es) gs
all_begun b es [] all = tt
all_begun b es (g ∷ gs) all = (begun_tallied b es g all.0.held all.0.tallied, all_begun b es gs all.1)

-- an entry that is no event of the table
pub begun_elsewhere : (es : List Entry) (g : Group) (e : Entry) → IsElsewhere g.table.id e.act → HasBegun es g → HasBegun (es ++ e ∷ []) g
begun_elsewhere es g e n k s y is running written = k s y (sym (batch_of-snoc g.table.id.0 s es e ∙ (act_idle g.table.id e n).still.batches s (batch_of g.table.id.0 s es)) ∙ is) running written

-- the same table, with batches of the same stamps
pub begun_same : (es : List Entry) (g g' : Group) → g'.table ≡ g.table → map stamp_in g'.batches.items ≡ map stamp_in g.batches.items → HasBegun es g → HasBegun es g'
begun_same es g g' table stamps k s y is running written =
    of_stamps s g'.batches.items ∙ (ap (λ ns. list_any (λ n. n == s) ns) stamps ∙ (sym (of_stamps s g.batches.items) ∙ k s y (ap (λ (t : Table). batch_of t.id.0 s es) (sym table) ∙ is) running written))

-- one batch goes on
pub stamps_set : (ms : List Begun) (m : ℕ) (x x' : Begun) → slice_get ms m ≡ Some x → x'.batch.stamp ≡ x.batch.stamp → map stamp_in (set ms m x') ≡ map stamp_in ms
stamps_set [] m x x' is same = refl
stamps_set (y ∷ ms) zero x x' is same = (let own : y ≡ x = (let z : Some y ≡ Some x = is in cc) in ap (λ n. n ∷ map stamp_in ms) (same ∙ ap stamp_in (sym own)))
stamps_set (y ∷ ms) (suc m) x x' is same = ap (λ ns. stamp_in y ∷ ns) (stamps_set ms m x x' is same)

-- ---- its phase is the one that the trail tells

pub phase_told : (b : Base) (es : List Entry) (g : Group) (hs : List HeldBatch) → IsTallied b es g hs → (m : ℕ) (x : Begun) → slice_get g.batches.items m ≡ Some x → (y : Batch) × ((batch_of g.table.id.0 x.batch.stamp es ≡ Some y) × (phase_of y ≡ as_phase x.phase))
phase_told b es g hs k m x at =
    let tied = (tied_at es g.table.id.0 g.batches.items hs (to_tied es g.table.id.0 g.batches.items hs k.batches k.phases) m x at).1 in
    (tied.1.batch, (ap (λ (n : ℕ). batch_of g.table.id.0 n es) (sym tied.0.stamp) ∙ tied.1.is, tied.1.phase))
