-- A table before the first entry: what a sound folder gives is kept.
use Rattle.std.proofs.Common.{◌≡◌, ℕ, Bool, true, false, cond, subst, List, [], inl, inr, refl, sym, ◌∙◌}
use Rattle.std.specs.List.{AllByRecursion}
use Rattle.px_values.specs.declared.row.Value.{Value}
use Rattle.px_trail.specs.Batches.{batch_from}
use Rattle.px_trail.specs.States.{applied, begun}
use Rattle.px_trail.specs.Trail.{horizon_from, last_from}
use Rattle.px_trail.proofs.Growth.{legal-none}
use Rattle.px_history.specs.Rows.{history_from, state_by}
use Rattle.px_world.specs.World.{Written, Unbegun, is_written}
use Rattle.px_world.proofs.Beginnings.{sound_kept}
use Rattle.px_groupworld.specs.Group.{TableForm, OpenBatch, GroupData, GroupKept, IsOpen, AreApart, shape_in, world_in}
use Rattle.px_groupworld.specs.Sound.{IsSoundTable}

module _ (f : TableForm) (v : GroupData) (s : IsSoundTable f v) where
  no_state : (r : List Value) (p : ℕ) → state_by f.rows.shape f.base [] f.id.0 r p ≡ f.base.state f.id.0 r p
  unfolding begun applied batch_from
  no_state r p = refl

  written_if : (v : Bool) → v ≡ true → is_written (cond v Written Unbegun) ≡ true
  written_if true e = refl
  written_if false e = e

  none_open : (P : OpenBatch → Type 0) → AllByRecursion P v.opens
  none_open P = subst (λ (os : List OpenBatch). AllByRecursion P os) (sym s.opens) tt

  pub sound_group : GroupKept f [] v
  unfolding batch_from history_from last_from horizon_from begun
  sound_group = record {
    legal = legal-none f.base;
    base = s.base;
    shape = s.shape;
    high = s.high;
    indexes = λ i l.
        (let x = s.indexes i l in
        record {
          form = x.form;
          birth = x.birth;
          cells = x.cells;
          marked = λ u y q. cc;
          apart = λ u y q. cc;
          kept = λ r. sound_kept (shape_in f v i r) (world_in f [] v i r) (x.worlds r);
        });
    told = record {
      form = s.form;
      cells = s.cells;
      stamps = λ r q u d x h. elim (s.stamps r q u d x h) [ inl m ↦ inl m | inr m ↦ inr (written_if (f.base.changed f.id.0 r u) m) ];
      spells = λ r p l. s.spells r p l ∙ sym (no_state r p);
      whole = s.whole;
      fits = λ r. tt;
    };
    low = s.low;
    own = λ i l. (s.indexes i l).own;
    begun = none_open (IsOpen _ _);
    apart = subst AreApart (sym s.opens) tt;
  }
