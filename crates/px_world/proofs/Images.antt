-- What a folder shows of a world after a stop is sound.
use Rattle.std.proofs.Common.{◌≡◌, ℕ, ◌<◌, Bool, true, false, sym, ◌∙◌, refl, ap, subst, inl, inr, arith}
use Rattle.std.specs.Prelude.{is_none}
use Rattle.std.proofs.lemmas.Bool.{cases_Bool, true≢false}
use Rattle.px_world.specs.Shape.{WorldShape, has_key}
use Rattle.px_world.specs.World.{Fate, is_expected, World}
use Rattle.px_world.specs.Facts.{Facts, Kept, IsSoundWorld, IsFull}
use Rattle.px_world.specs.Images.{image, IsImage}
use Rattle.px_world.proofs.Steps.{SameCells, low_alike, plain_alike, bare_over}
use Rattle.px_world.proofs.Beginnings.{same_when_decided}

module _ {K S X A : Type 0} (n : WorldShape K S X A) (w : World K S X) (g : Kept n w) (base : S) (fate : ℕ → Fate) (marked ended : ℕ → Bool) (old new : ℕ → S) (raised : ℕ) where
  abbrev shown : World K S X
  shown = image w base fate marked ended old new raised

  module _ (i : IsImage w shown) where
    cells : (k : K) (x : ℕ) → SameCells w shown k x
    cells k x = record { status = λ s l. refl; put = λ s l c. refl; del = λ s l c. refl; fam = λ s l. refl; ver = λ s l. refl; floor = refl }

    image_facts : Facts n shown w.kept
    image_facts =
        let f = g.at_kept in
        let low = low_alike n w shown w.kept (λ k. cells k w.kept) (i.states w.kept (omega arith)) (λ b. b) f in
        record {
          verified_is = λ k t l v. (let r = f.verified_is k t l v in ((λ s _. i.none s), subst (λ u. (has_key n k u ≡ true) × IsFull n (w.put k t) (w.del k t) u) (sym (i.states t (omega arith))) r.1));
          retired_is = λ k t l v. (let r = f.retired_is k t l v in ((λ s _. i.none s), subst (λ u. has_key n k u ≡ false) (sym (i.states t (omega arith))) r.1));
          erased_is = λ k t l v. elim (cases_Bool (is_expected (fate t))) [
            | inl e ↦ absurd (true≢false (sym (ap is_expected (i.written t l (same_when_decided (fate t) (i.none t) e)).0) ∙ f.erased_is k t l v))
            | inr e ↦ e
          ];
          written_new = λ k t l h c. (let r = i.written t l h in let z = f.written_new k t l r.0 (subst (λ u. has_key n k u ≡ true) r.1.0 c) in (z.0, subst (λ u. IsFull n (w.put k t) (w.del k t) u) (sym r.1.0) z.1));
          written_old = λ k t l h c d. (let r = i.written t l h in f.written_old k t l r.0 (subst (λ u. has_key n k u ≡ true) r.1.1 c) (subst (λ u. has_key n k u ≡ false) r.1.0 d));
          settled_is = low.settled_is;
          row_has = low.row_has;
        }

    pub image_sound : IsSoundWorld n shown
    image_sound = record {
      birth_floor = g.birth_floor;
      floor_kept = g.floor_kept;
      kept_horizon = i.high;
      none_undecided = i.none;
      all_ended = i.all_ended;
      chained = i.chained;
      at_birth = λ k s l h. (let r = g.at_birth k s l h in (r.0, r.1.0));
      no_marker_at_birth = g.no_marker_at_birth;
      bare_below_birth = λ k s l. (let r = g.bare_below_birth k s l in record { put = r.put; del = r.del });
      dels_at_birth = λ k c h l. (let r = g.dels_at_birth k c h in subst (λ u. has_key n k u ≡ true → c < n.columns → is_none (n.col u c) ≡ true) (sym (i.states w.birth l)) (r.1 l));
      bare = λ k t h. bare_over w shown k t (cells k w.floor) (λ c. refl) (λ c. refl) (g.bare k t h);
      plain = λ k. plain_alike w shown k (cells k w.floor) (g.plain k);
      at_kept = image_facts;
    }
