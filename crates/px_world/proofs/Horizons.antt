-- End, Raise, a Forget of a data region, and Ready keep the facts.
use Rattle.std.proofs.Common.{◌≡◌, ℕ, true, false, Some, sym, ◌∙◌, refl, subst, inl, inr, arith}
use Rattle.std.proofs.lemmas.Bool.{both_ways, cases_lt, cases_eq}
use Rattle.px_world.specs.Shape.{WorldShape, IsLawful, has_key}
use Rattle.px_world.specs.World.{World, horizon, st, settled, stays, live, passed, vis, stops, gives}
use Rattle.px_world.specs.Events.{End, Raise, Forget, Ready, happens, Comes, set_stamp}
use Rattle.px_world.specs.Facts.{Facts, Kept}
use Rattle.px_world.proofs.Told.{verified_there, unpassed_verified, stays-from, live-from}
use Rattle.px_cells.proofs.Newest.{newest-at}
use Rattle.px_world.proofs.Later.{later}
use Rattle.px_world.proofs.Steps.{set_stamp-same, set_stamp-other, facts_again, blank_again, marked_again, kept_chain, bare_over, plain_alike}

module _ {K S X A : Type 0} (n : WorldShape K S X A) (w : World K S X) (g : Kept n w) where
  pub end_kept : (t : ℕ) → Kept n (happens n w (End t))
  end_kept t = record {
    birth_floor = g.birth_floor;
    kept_horizon = g.kept_horizon;
    floor_kept = g.floor_kept;
    at_birth = g.at_birth;
    no_marker_at_birth = g.no_marker_at_birth;
    bare_below_birth = λ k s l. (let r = g.bare_below_birth k s l in record { put = r.put; del = r.del });
    dels_at_birth = g.dels_at_birth;
    built_decided = g.built_decided;
    raised_decided = g.raised_decided;
    raised_ended = λ s h e. elim (cases_eq t s) [
      | inl a ↦ absurd (both_ways _ e (subst (λ (u : ℕ). set_stamp t true w.is_ended u ≡ true) a (set_stamp-same t true w.is_ended)))
      | inr a ↦ g.raised_ended s h (sym (set_stamp-other t true w.is_ended s a) ∙ e)
    ];
    in_order = g.in_order;
    chained = g.chained;
    unmarked = λ k s l h b. blank_again w _ _ _ _ _ _ k s (g.unmarked k s l h b);
    bare = λ k s q. bare_over w (happens n w (End t)) k s (record { status = λ s l. refl; put = λ s l c. refl; del = λ s l c. refl; fam = λ s l. refl; ver = λ s l. refl; floor = refl }) (λ c. refl) (λ c. refl) (g.bare k s q);
    plain = λ k. plain_alike w (happens n w (End t)) k (record { status = λ s l. refl; put = λ s l c. refl; del = λ s l c. refl; fam = λ s l. refl; ver = λ s l. refl; floor = refl }) (g.plain k);
    marked_is = λ s l h b. marked_again n w _ _ _ _ _ _ s (g.marked_is s l h b);
    at_kept = facts_again n w _ _ _ _ _ _ w.kept (λ b. b) g.at_kept;
  }

  pub raise_kept : (h : ℕ) → Comes n w (Raise h) → Kept n (happens n w (Raise h))
  raise_kept h m = record {
    birth_floor = g.birth_floor;
    kept_horizon = (let i = g.kept_horizon in let j = m.0 in omega arith);
    floor_kept = g.floor_kept;
    at_birth = g.at_birth;
    no_marker_at_birth = g.no_marker_at_birth;
    bare_below_birth = λ k s l. (let r = g.bare_below_birth k s l in record { put = r.put; del = r.del });
    dels_at_birth = g.dels_at_birth;
    built_decided = g.built_decided;
    raised_decided = λ s l. (m.1 s l).0;
    raised_ended = λ s e d. elim (cases_lt h s) [ inl a ↦ a | inr a ↦ absurd (both_ways _ d ((m.1 s a).1 e)) ];
    in_order = g.in_order;
    chained = g.chained;
    unmarked = λ k s l e b. blank_again w _ _ _ _ _ _ k s (g.unmarked k s l e b);
    bare = λ k s q. bare_over w (happens n w (Raise h)) k s (record { status = λ s l. refl; put = λ s l c. refl; del = λ s l c. refl; fam = λ s l. refl; ver = λ s l. refl; floor = refl }) (λ c. refl) (λ c. refl) (g.bare k s q);
    plain = λ k. plain_alike w (happens n w (Raise h)) k (record { status = λ s l. refl; put = λ s l c. refl; del = λ s l c. refl; fam = λ s l. refl; ver = λ s l. refl; floor = refl }) (g.plain k);
    marked_is = λ s l e b. marked_again n w _ _ _ _ _ _ s (g.marked_is s l e b);
    at_kept = facts_again n w _ _ _ _ _ _ w.kept (λ b. b) g.at_kept;
  }

  pub forget_kept : IsLawful n → Kept n (happens n w (Forget false))
  forget_kept lawful = record {
    birth_floor = g.birth_floor;
    kept_horizon = omega arith;
    floor_kept = (let i = g.floor_kept in let j = g.kept_horizon in omega arith);
    at_birth = g.at_birth;
    no_marker_at_birth = g.no_marker_at_birth;
    bare_below_birth = λ k s l. (let r = g.bare_below_birth k s l in record { put = r.put; del = r.del });
    dels_at_birth = λ k c h. (let r = g.dels_at_birth k c h in (r.0, λ l. r.1 (let i = g.kept_horizon in omega arith)));
    built_decided = g.built_decided;
    raised_decided = g.raised_decided;
    raised_ended = g.raised_ended;
    in_order = g.in_order;
    chained = g.chained;
    unmarked = λ k s l e b. blank_again w _ _ _ _ _ _ k s (g.unmarked k s l e b);
    bare = λ k s q. bare_over w (happens n w (Forget false)) k s (record { status = λ s l. refl; put = λ s l c. refl; del = λ s l c. refl; fam = λ s l. refl; ver = λ s l. refl; floor = refl }) (λ c. refl) (λ c. refl) (g.bare k s q);
    plain = λ k. plain_alike w (happens n w (Forget false)) k (record { status = λ s l. refl; put = λ s l c. refl; del = λ s l c. refl; fam = λ s l. refl; ver = λ s l. refl; floor = refl }) (g.plain k);
    marked_is = λ s l e b. marked_again n w _ _ _ _ _ _ s (g.marked_is s l e b);
    at_kept = facts_again n w _ _ _ _ _ _ (horizon w) (λ b. b) (later n lawful w (kept_chain n w g) w.kept g.at_kept (horizon w) g.kept_horizon);
  }

  -- the base version settles the row's key at the birth
  ready_row : IsLawful n → Comes n w Ready → (k : K) → has_key n k (st w w.kept) ≡ true → (t : ℕ) × (settled n w k w.kept ≡ Some t)
  ready_row lawful m k h =
      let e : w.kept ≡ w.birth = (let i = g.kept_horizon in let j = g.birth_floor in let q = g.floor_kept in let l = m.0 in omega arith) in
      let v = m.1.1 k (subst (λ p. has_key n k (st w p) ≡ true) e h) in
      let a = live-from w k w.birth (verified_there _ v) (g.no_marker_at_birth k w.birth (omega arith)).1 in (
        w.birth,
        subst (λ (p : ℕ). settled n w k p ≡ Some w.birth) (sym e) (newest-at (w.fam k) (stays n w (st w w.birth) k) w.birth w.birth (record {
          within = omega arith;
          hits = stays-from n w (st w w.birth) k w.birth a (unpassed_verified n w (st w w.birth) k w.birth v);
          none = λ s c d. absurd (omega arith);
          clear = λ s c d. (g.no_marker_at_birth k s d).0;
        })),
      )

  ready_facts : IsLawful n → Comes n w Ready → Facts n (happens n w Ready) w.kept
  unfolding stays live passed vis stops gives
  ready_facts lawful m =
      let f = g.at_kept in
      record {
        verified_is = f.verified_is;
        retired_is = f.retired_is;
        erased_is = f.erased_is;
        written_new = f.written_new;
        written_old = f.written_old;
        settled_is = f.settled_is;
        row_has = λ b. ready_row lawful m;
      }

  pub ready_kept : IsLawful n → Comes n w Ready → Kept n (happens n w Ready)
  ready_kept lawful m = record {
    birth_floor = g.birth_floor;
    kept_horizon = g.kept_horizon;
    floor_kept = g.floor_kept;
    at_birth = g.at_birth;
    no_marker_at_birth = g.no_marker_at_birth;
    bare_below_birth = λ k s l. (let r = g.bare_below_birth k s l in record { put = r.put; del = r.del });
    dels_at_birth = g.dels_at_birth;
    built_decided = λ b. m.1.0;
    raised_decided = g.raised_decided;
    raised_ended = g.raised_ended;
    in_order = g.in_order;
    chained = g.chained;
    unmarked = λ k s l e b. blank_again w _ _ _ _ _ _ k s (g.unmarked k s l e b);
    bare = λ k s q. bare_over w (happens n w (Ready)) k s (record { status = λ s l. refl; put = λ s l c. refl; del = λ s l c. refl; fam = λ s l. refl; ver = λ s l. refl; floor = refl }) (λ c. refl) (λ c. refl) (g.bare k s q);
    plain = λ k. plain_alike w (happens n w (Ready)) k (record { status = λ s l. refl; put = λ s l c. refl; del = λ s l c. refl; fam = λ s l. refl; ver = λ s l. refl; floor = refl }) (g.plain k);
    marked_is = λ s l e b. marked_again n w _ _ _ _ _ _ s (g.marked_is s l e b);
    at_kept = ready_facts lawful m;
  }
