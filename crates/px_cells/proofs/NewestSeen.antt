-- The newest put by stamps is the visible one.
use Rattle.std.proofs.Common.{◌≡◌, ℕ, ◌≤◌, Bool, true, false, not, ◌&&◌, ◌||◌, ◌⊎◌, Option, Some, None, List, refl, ap, sym, ◌∙◌, subst, inl, inr, arith}
use Rattle.std.specs.Prelude.{is_some}
use Rattle.std.proofs.lemmas.Bool.{cases_Bool, cases_lt, false≢true, both_ways, and_parts, not-true}
use Rattle.px_cells.specs.declared.kind.CellKind.{CellKind}
use Rattle.px_cells.specs.declared.kind.CellKind.TheVariants.{Put, Delete, DeleteFamilyVersion, DeleteColumn, DeleteFamily}
use Rattle.px_cells.specs.CellData.{CellData}
use Rattle.px_cells.specs.Kind.{is_family}
use Rattle.px_cells.specs.Order.{Reads}
use Rattle.px_cells.specs.Visible.{Reaches, IsTakenAway, Hides, IsLive, IsVisible}
use Rattle.px_cells.proofs.Newest.{newest-is, newest-at}
use Rattle.px_cells.specs.Contents.{cell_of, value_at}
use Rattle.px_cells.specs.Sight.{stops_at, puts_at, seen_at, IsPlainRegion}
use Rattle.px_cells.proofs.Contents.{value_from_reads, reads_from_value}

some_or_none : {A : Type 0} (o : Option A) → (o ≡ None) ⊎ ((v : A) × (o ≡ Some v))
some_or_none None = inl refl
some_or_none (Some v) = inr (v, refl)

is_there : {A : Type 0} (o : Option A) → is_some o ≡ true → (v : A) × (o ≡ Some v)
is_there None h = absurd (false≢true h)
is_there (Some v) h = (v, refl)

or_false : (a c : Bool) → (a || c) ≡ false → (a ≡ false) × (c ≡ false)
or_false true c h = absurd (false≢true (sym h))
or_false false c h = (refl, h)

and_all : (a c : Bool) → a ≡ true → c ≡ true → (a && c) ≡ true
and_all true c h g = g
and_all false c h g = h

module _ (cells : List CellData) (plain : IsPlainRegion cells) (x : ℕ) where
  -- a cell that is read stands at its place
  stands : (m : CellData) → Reads cells m → value_at cells m.key m.qualifier m.stamp m.kind ≡ Some m.value
  stands m r = value_from_reads cells m.key m.qualifier m.stamp m.kind m.value r

  family_at : (m : CellData) → Reads cells m → is_family m.kind ≡ true → m.qualifier ≡ 0
  family_at m r e = (plain.placed m r).0 e

  there : (m : CellData) (k : List ℕ) (q s : ℕ) (d : CellKind) → Reads cells m → m.key ≡ k → m.qualifier ≡ q → m.stamp ≡ s → m.kind ≡ d → is_some (value_at cells k q s d) ≡ true
  there m k q s d r a b c e = ap is_some (sym (λ i. value_at cells (a i) (b i) (c i) (e i)) ∙ stands m r)

  module _ (k : List ℕ) (q : ℕ) where
    abbrev stop : ℕ → Bool
    stop s = stops_at (value_at cells) k q s

    abbrev hit : ℕ → Bool
    hit s = puts_at (value_at cells) k q s

    -- a put that isn't taken away, with no stop from its stamp up to the point, is live
    live_from : (s : ℕ) (v : List ℕ) → value_at cells k q s Put ≡ Some v → s ≤ x → is_some (value_at cells k 0 s DeleteFamilyVersion) ≡ false → ((u : ℕ) → s ≤ u → u ≤ x → stop u ≡ false) → IsLive cells x (cell_of k q s Put v)
    live_from s v e l none clear = record {
      among = reads_from_value cells k q s Put v e;
      put = refl;
      within = l;
      shown = λ m h. shown m m.kind refl h;
    }
      where
        shown : (m : CellData) (d : CellKind) → m.kind ≡ d → Hides cells x m (cell_of k q s Put v) → ⊥
        shown m Put e h = subst (λ (z : CellKind). Reaches z m (cell_of k q s Put v)) e h.reaches
        shown m Delete e h = plain.no_delete m h.among e
        shown m DeleteFamilyVersion e h =
            (let r : s ≡ m.stamp = subst (λ (z : CellKind). Reaches z m (cell_of k q s Put v)) e h.reaches in
            both_ways _ none (there m k 0 s DeleteFamilyVersion h.among h.row (family_at m h.among (ap is_family e)) (sym r) e))
        shown m DeleteColumn e h =
            (let r : (m.qualifier ≡ q) × (s ≤ m.stamp) = subst (λ (z : CellKind). Reaches z m (cell_of k q s Put v)) e h.reaches in
            let off = or_false _ _ (clear m.stamp r.1 h.within) in
            let column = there m k q m.stamp DeleteColumn h.among h.row r.0 refl e in
            elim (some_or_none (value_at cells k 0 m.stamp DeleteFamilyVersion)) [
              | inl z ↦ both_ways _ off.1 (and_all _ _ column (ap (λ (o : Option (List ℕ)). not (is_some o)) z))
              | inr z ↦ h.stands (record { column = e; by = cell_of k 0 m.stamp DeleteFamilyVersion z.0; among = reads_from_value cells k 0 m.stamp DeleteFamilyVersion z.0 z.1; version = refl; row = sym h.row; stamp = refl })
            ])
        shown m DeleteFamily e h =
            (let r : s ≤ m.stamp = subst (λ (z : CellKind). Reaches z m (cell_of k q s Put v)) e h.reaches in
            both_ways _ (or_false _ _ (clear m.stamp r h.within)).0 (there m k 0 m.stamp DeleteFamily h.among h.row (family_at m h.among (ap is_family e)) refl e))

    -- and a live put is so
    live_clear : (p : CellData) → p.key ≡ k → p.qualifier ≡ q → IsLive cells x p → (u : ℕ) → p.stamp ≤ u → u ≤ x → stop u ≡ false
    live_clear p a b live u l m = elim (cases_Bool (is_some (value_at cells k 0 u DeleteFamily))) [
      | inl z ↦ (let w = is_there _ z in absurd (live.shown (cell_of k 0 u DeleteFamily w.0) (record { among = reads_from_value cells k 0 u DeleteFamily w.0 w.1; within = m; row = sym a; reaches = l; stands = λ t. no_column t })))
      | inr z ↦ elim (cases_Bool (is_some (value_at cells k q u DeleteColumn) && not (is_some (value_at cells k 0 u DeleteFamilyVersion)))) [
        | inl y ↦
            (let parts = and_parts _ _ y in
            let w = is_there _ parts.0 in
            absurd (live.shown (cell_of k q u DeleteColumn w.0) (record {
              among = reads_from_value cells k q u DeleteColumn w.0 w.1;
              within = m;
              row = sym a;
              reaches = (sym b, l);
              stands = λ t. both_ways _ (not-true _ parts.1) (there t.by k 0 u DeleteFamilyVersion t.among t.row (family_at t.by t.among (ap is_family t.version)) t.stamp t.version);
            })))
        | inr y ↦ both z y
      ]
    ]
      where
        no_column : {w : List ℕ} → IsTakenAway cells (cell_of k 0 u DeleteFamily w) → ⊥
        no_column t = (let c = t.column in cc)

        both : is_some (value_at cells k 0 u DeleteFamily) ≡ false → (is_some (value_at cells k q u DeleteColumn) && not (is_some (value_at cells k 0 u DeleteFamilyVersion))) ≡ false → stop u ≡ false
        both z y = (λ i. z i || y i)

    live_hit : (p : CellData) → p.key ≡ k → p.qualifier ≡ q → IsLive cells x p → hit p.stamp ≡ true
    live_hit p a b live = and_all _ _ (there p k q p.stamp Put live.among a b refl live.put) (not_taken (some_or_none (value_at cells k 0 p.stamp DeleteFamilyVersion)))
      where
        not_taken : (value_at cells k 0 p.stamp DeleteFamilyVersion ≡ None) ⊎ ((v : List ℕ) × (value_at cells k 0 p.stamp DeleteFamilyVersion ≡ Some v)) → not (is_some (value_at cells k 0 p.stamp DeleteFamilyVersion)) ≡ true
        not_taken (inl z) = ap (λ (o : Option (List ℕ)). not (is_some o)) z
        not_taken (inr z) = absurd (live.shown (cell_of k 0 p.stamp DeleteFamilyVersion z.0) (record { among = reads_from_value cells k 0 p.stamp DeleteFamilyVersion z.0 z.1; within = live.within; row = sym a; reaches = refl; stands = λ t. (let c = t.column in cc) }))

    -- what is newest is visible
    pub visible_from : (s : ℕ) → seen_at (value_at cells) k q x ≡ Some s → (v : List ℕ) × ((value_at cells k q s Put ≡ Some v) × IsVisible cells x (cell_of k q s Put v))
    visible_from s h =
        let i = newest-is stop hit x s h in
        let parts = and_parts _ _ i.hits in
        let w = is_there _ parts.0 in (
          w.0,
          (
            w.1,
            record {
              live = live_from s w.0 w.1 i.within (not-true _ parts.1) i.clear;
              newest = λ p live a b. elim (cases_lt s p.stamp) [
                | inl l ↦ absurd (both_ways _ (i.none p.stamp l live.within) (live_hit p a b live))
                | inr l ↦ omega arith
              ];
            },
          ),
        )

    -- and what is visible is newest
    pub visible_to : (p : CellData) → p.key ≡ k → p.qualifier ≡ q → IsVisible cells x p → seen_at (value_at cells) k q x ≡ Some p.stamp
    visible_to p a b sees = newest-at stop hit x p.stamp (record {
      within = sees.live.within;
      hits = live_hit p a b sees.live;
      none = λ u l m. elim (cases_Bool (hit u)) [
        | inl z ↦
            (let parts = and_parts _ _ z in
            let w = is_there _ parts.0 in
            let n = sees.newest (cell_of k q u Put w.0) (live_from u w.0 w.1 m (not-true _ parts.1) (λ y c d. live_clear p a b sees.live y (omega arith) d)) (sym a) (sym b) in
            absurd (omega arith))
        | inr z ↦ z
      ];
      clear = λ u l m. live_clear p a b sees.live u l m;
    })
