-- The keys of a row on the paths of its table.
use Rattle.std.proofs.Common.{◌≡◌, ◌⊎◌, inl, inr, ℕ, zero, suc, Bool, true, false, not, ◌||◌, if◌then◌else◌, nat_eq, eqb-true, eq-eqb, List, [], ◌∷◌, ◌++◌, map, get_or, filter, slice_get, refl, sym, ap, subst, ◌∙◌, arith, ◌+◌}
use Rattle.std.specs.List.{list_any}
use Rattle.px_values.specs.Types.{HasType}
use Rattle.px_values.specs.declared.row.Value.{Value}
use Rattle.px_values.specs.declared.row.Value.TheVariants.{Null}
use Rattle.px_keys.specs.Spelling.{Fits, FitsColumn}
use Rattle.px_tables.specs.declared.index.Index.{Index}
use Rattle.px_tables.specs.declared.table.KeyPlace.{KeyPlace}
use Rattle.px_tables.specs.declared.table.Table.{Table}
use Rattle.px_tables.specs.declared.table.TableColumn.{TableColumn}
use Rattle.px_paths.specs.Paths.{AreOfTypes, FitsRow, columns_on, index_part, index_path, is_held, is_keyed, key_part, may_be_null_in, shown_from, shown_on, table_path, type_in, values_on}
use Rattle.px_paths.specs.declared.path.PathColumn.{PathColumn}

-- ---- truth values

or_left : (a b : Bool) → a ≡ true → (a || b) ≡ true
or_left true b h = refl
or_left false b h = absurd (let z : ◌≡◌ {A = Bool} false true = h in cc)

or_right : (a b : Bool) → b ≡ true → (a || b) ≡ true
or_right true b h = refl
or_right false b h = h

or_either : (a b : Bool) → (a || b) ≡ true → (a ≡ true) ⊎ (b ≡ true)
or_either true b h = inl refl
or_either false b h = inr h

eqb-same : (n : ℕ) → nat_eq n n ≡ true
eqb-same n = eq-eqb n n refl

-- ---- the columns at a place

-- one of the columns is at this place
abbrev pub placed : List PathColumn → ℕ → Bool
placed path k = list_any (λ c. nat_eq c.place k) path

placed_append : (a b : List PathColumn) (k : ℕ) → (placed a k ≡ true) ⊎ (placed b k ≡ true) → placed (a ++ b) k ≡ true
placed_append [] b k (inr h) = h
placed_append [] b k (inl h) = absurd (let z : ◌≡◌ {A = Bool} false true = h in cc)
placed_append (c ∷ a) b k (inr h) = or_right (nat_eq c.place k) (placed (a ++ b) k) (placed_append a b k (inr h))
placed_append (c ∷ a) b k (inl h) = elim (or_either (nat_eq c.place k) (placed a k) h) [
  | inl e ↦ or_left (nat_eq c.place k) (placed (a ++ b) k) e
  | inr r ↦ or_right (nat_eq c.place k) (placed (a ++ b) k) (placed_append a b k (inl r))
]

placed_either : (a b : List PathColumn) (k : ℕ) → placed (a ++ b) k ≡ true → (placed a k ≡ true) ⊎ (placed b k ≡ true)
placed_either [] b k h = inr h
placed_either (c ∷ a) b k h = elim (or_either (nat_eq c.place k) (placed (a ++ b) k) h) [
  | inl e ↦ inl (or_left (nat_eq c.place k) (placed a k) e)
  | inr r ↦ elim (placed_either a b k r) [
    | inl s ↦ inl (or_right (nat_eq c.place k) (placed a k) s)
    | inr s ↦ inr s
  ]
]

placed_key : (cs : List TableColumn) (ps : List KeyPlace) (k : ℕ) → placed (map (key_part cs) ps) k ≡ is_keyed ps k
placed_key cs [] k = refl
placed_key cs (p ∷ ps) k = ap (λ (b : Bool). nat_eq p.column k || b) (placed_key cs ps k)

placed_parts : (t : Table) (ps : List KeyPlace) (k : ℕ) → placed (map (index_part t) ps) k ≡ is_keyed ps k
placed_parts t [] k = refl
placed_parts t (p ∷ ps) k = ap (λ (b : Bool). nat_eq p.column k || b) (placed_parts t ps k)

-- the parts that aren't of these columns
abbrev others : List KeyPlace → List KeyPlace → List KeyPlace
others parts ps = filter (λ p. not (is_keyed parts p.column)) ps

keyed_others : (parts ps : List KeyPlace) (k : ℕ) → is_keyed ps k ≡ true → is_keyed parts k ≡ false → is_keyed (others parts ps) k ≡ true
keyed_others parts [] k h n = h
keyed_others parts (p ∷ ps) k h n = by_test (λ r. keyed_others parts ps k r n) (is_keyed parts p.column) refl
  where
    by_test : (is_keyed ps k ≡ true → is_keyed (others parts ps) k ≡ true) → (b : Bool) → is_keyed parts p.column ≡ b → is_keyed (others parts (p ∷ ps)) k ≡ true
    by_test more_keyed true t =
        let more : others parts (p ∷ ps) ≡ others parts ps = rw t refl in
        subst (λ (qs : List KeyPlace). is_keyed qs k ≡ true) (sym more) (elim (or_either (nat_eq p.column k) (is_keyed ps k) h) [
          | inl e ↦ absurd (let s : p.column ≡ k = eqb-true p.column k e in let z : ◌≡◌ {A = Bool} true false = sym t ∙ ap (λ (i : ℕ). is_keyed parts i) s ∙ n in cc)
          | inr r ↦ more_keyed r
        ])
    by_test more_keyed false t =
        let more : others parts (p ∷ ps) ≡ p ∷ others parts ps = rw t refl in
        subst (λ (qs : List KeyPlace). is_keyed qs k ≡ true) (sym more) (elim (or_either (nat_eq p.column k) (is_keyed ps k) h) [
          | inl e ↦ or_left (nat_eq p.column k) (is_keyed (others parts ps) k) e
          | inr r ↦ or_right (nat_eq p.column k) (is_keyed (others parts ps) k) (more_keyed r)
        ])

others_keyed : (parts ps : List KeyPlace) (k : ℕ) → is_keyed (others parts ps) k ≡ true → is_keyed ps k ≡ true
others_keyed parts [] k h = h
others_keyed parts (p ∷ ps) k h = by_test (others_keyed parts ps k) (is_keyed parts p.column) refl
  where
    by_test : (is_keyed (others parts ps) k ≡ true → is_keyed ps k ≡ true) → (b : Bool) → is_keyed parts p.column ≡ b → is_keyed (p ∷ ps) k ≡ true
    by_test less true t =
        let more : others parts (p ∷ ps) ≡ others parts ps = rw t refl in
        or_right (nat_eq p.column k) (is_keyed ps k) (less (subst (λ (qs : List KeyPlace). is_keyed qs k ≡ true) more h))
    by_test less false t =
        let more : others parts (p ∷ ps) ≡ p ∷ others parts ps = rw t refl in elim (or_either (nat_eq p.column k) (is_keyed (others parts ps) k) (subst (λ (qs : List KeyPlace). is_keyed qs k ≡ true) more h)) [
          | inl e ↦ or_left (nat_eq p.column k) (is_keyed ps k) e
          | inr r ↦ or_right (nat_eq p.column k) (is_keyed ps k) (less r)
        ]

-- each column of the primary key is on an index's path
key_placed : (t : Table) (x : Index) (k : ℕ) → is_keyed t.key k ≡ true → placed (index_path t x) k ≡ true
key_placed t x k h = by_test (is_keyed x.parts k) refl
  where
    by_test : (b : Bool) → is_keyed x.parts k ≡ b → placed (index_path t x) k ≡ true
    by_test true e = placed_append (map (index_part t) x.parts) (map (key_part t.columns) (others x.parts t.key)) k (inl (placed_parts t x.parts k ∙ e))
    by_test false e = placed_append (map (index_part t) x.parts) (map (key_part t.columns) (others x.parts t.key)) k (inr (placed_key t.columns (others x.parts t.key) k ∙ keyed_others x.parts t.key k h e))

-- an index holds the columns of its path
placed_held : (t : Table) (x : Index) (k : ℕ) → placed (index_path t x) k ≡ true → is_held t x k ≡ true
placed_held t x k h = elim (placed_either (map (index_part t) x.parts) (map (key_part t.columns) (others x.parts t.key)) k h) [
  | inl p ↦ or_left (is_keyed x.parts k) _ (sym (placed_parts t x.parts k) ∙ p)
  | inr p ↦ or_right (is_keyed x.parts k) _ (or_left (is_keyed t.key k) _ (others_keyed x.parts t.key k (sym (placed_key t.columns (others x.parts t.key) k) ∙ p)))
]

-- ---- values

heads : (v w : Value) (vs ws : List Value) → v ∷ vs ≡ w ∷ ws → v ≡ w
heads v w vs ws e = cc

tails : (v w : Value) (vs ws : List Value) → v ∷ vs ≡ w ∷ ws → vs ≡ ws
tails v w vs ws e = cc

path_same : (path : List PathColumn) (a b : List Value) → values_on path a ≡ values_on path b → (k : ℕ) → placed path k ≡ true → get_or a k Null ≡ get_or b k Null
path_same [] a b e k h = absurd (let z : ◌≡◌ {A = Bool} false true = h in cc)
path_same (c ∷ path) a b e k h = elim (or_either (nat_eq c.place k) (placed path k) h) [
  | inl s ↦ subst (λ (i : ℕ). get_or a i Null ≡ get_or b i Null) (eqb-true c.place k s) (heads (get_or a c.place Null) (get_or b c.place Null) (values_on path a) (values_on path b) e)
  | inr r ↦ path_same path a b (tails (get_or a c.place Null) (get_or b c.place Null) (values_on path a) (values_on path b) e) k r
]

same_path : (path : List PathColumn) (a b : List Value) → ((k : ℕ) → placed path k ≡ true → get_or a k Null ≡ get_or b k Null) → values_on path a ≡ values_on path b
same_path [] a b h = refl
same_path (c ∷ path) a b h =
    let first = h c.place (or_left (nat_eq c.place c.place) (placed path c.place) (eqb-same c.place)) in
    let rest = same_path path a b (λ k p. h k (or_right (nat_eq c.place k) (placed path k) p)) in
    ap (λ (v : Value). v ∷ values_on path a) first ∙ ap (λ (vs : List Value). get_or b c.place Null ∷ vs) rest

-- rows with the same index key have the same primary key
pub same_owner : (t : Table) (x : Index) (a b : List Value) → values_on (index_path t x) a ≡ values_on (index_path t x) b → values_on (table_path t) a ≡ values_on (table_path t) b
same_owner t x a b e = same_path (table_path t) a b (λ k p. path_same (index_path t x) a b e k (key_placed t x k (sym (placed_key t.columns t.key k) ∙ p)))

-- ---- what an index shows

shown_at : (t : Table) (x : Index) (n : ℕ) (row : List Value) (k : ℕ) → is_held t x (n + k) ≡ true → get_or (shown_from t x n row) k Null ≡ get_or row k Null
unfolding shown_from
shown_at t x n [] k h = refl
shown_at t x n (v ∷ row) zero h =
    let e : n + 0 ≡ n = omega arith in
    let held : is_held t x n ≡ true = subst (λ (i : ℕ). is_held t x i ≡ true) e h in ap (λ (b : Bool). if b then v else Null) held
shown_at t x n (v ∷ row) (suc k) h =
    let e : n + suc k ≡ (n + 1) + k = omega arith in shown_at t x (n + 1) row k (subst (λ (i : ℕ). is_held t x i ≡ true) e h)

-- what an index shows of a column that it holds
pub held_shown : (t : Table) (x : Index) (row : List Value) (k : ℕ) → is_held t x k ≡ true → get_or (shown_on t x row) k Null ≡ get_or row k Null
held_shown t x row k h =
    let e : k ≡ 0 + k = omega arith in shown_at t x 0 row k (subst (λ (i : ℕ). is_held t x i ≡ true) e h)

-- what an index shows of a row has the row's key
pub shown_key : (t : Table) (x : Index) (row : List Value) → values_on (index_path t x) (shown_on t x row) ≡ values_on (index_path t x) row
shown_key t x row = same_path (index_path t x) (shown_on t x row) row (λ k p. held_shown t x row k (placed_held t x k p))

-- ---- values that fit

type_at : (cs : List TableColumn) (row : List Value) (k : ℕ) → AreOfTypes cs row → HasType (type_in (slice_get cs k)) (get_or row k Null)
type_at [] [] k h = tt
type_at (c ∷ cs) (v ∷ row) zero h = elim h.0 [ inl e ↦ subst (λ (w : Value). HasType c.column_type w) (sym e) tt | inr t ↦ t ]
type_at (c ∷ cs) (v ∷ row) (suc k) h = type_at cs row k h.1
type_at (c ∷ cs) [] k h = absurd h
type_at [] (v ∷ row) k h = absurd h

null_in_key : (cs : List TableColumn) (ps : List KeyPlace) (row : List Value) (k : ℕ) → Fits (columns_on (map (key_part cs) ps)) (values_on (map (key_part cs) ps) row) → is_keyed ps k ≡ true → get_or row k Null ≡ Null → may_be_null_in (slice_get cs k) ≡ true
null_in_key cs [] row k f h e = absurd (let z : ◌≡◌ {A = Bool} false true = h in cc)
null_in_key cs (p ∷ ps) row k f h e = elim (or_either (nat_eq p.column k) (is_keyed ps k) h) [
  | inl s ↦ (let q : p.column ≡ k = eqb-true p.column k s in subst (λ (i : ℕ). may_be_null_in (slice_get cs i) ≡ true) q (f.0.1 (ap (λ (i : ℕ). get_or row i Null) q ∙ e)))
  | inr r ↦ null_in_key cs ps row k f.1 r e
]

part_fits : (t : Table) (p : KeyPlace) (row : List Value) → FitsRow t row → FitsColumn (index_part t p).column (get_or row p.column Null)
part_fits t p row h = (type_at t.columns row p.column h.types, λ e. by_test e (is_keyed t.key p.column) refl)
  where
    by_test : get_or row p.column Null ≡ Null → (b : Bool) → is_keyed t.key p.column ≡ b → (not (is_keyed t.key p.column) || may_be_null_in (slice_get t.columns p.column)) ≡ true
    by_test e true q = or_right (not (is_keyed t.key p.column)) (may_be_null_in (slice_get t.columns p.column)) (null_in_key t.columns t.key row p.column h.key q e)
    by_test e false q = or_left (not (is_keyed t.key p.column)) (may_be_null_in (slice_get t.columns p.column)) (ap not q)

parts_fit : (t : Table) (ps : List KeyPlace) (row : List Value) → FitsRow t row → Fits (columns_on (map (index_part t) ps)) (values_on (map (index_part t) ps) row)
parts_fit t [] row h = tt
parts_fit t (p ∷ ps) row h = (part_fits t p row h, parts_fit t ps row h)

others_fit : (cs : List TableColumn) (parts ps : List KeyPlace) (row : List Value) → Fits (columns_on (map (key_part cs) ps)) (values_on (map (key_part cs) ps) row) → Fits (columns_on (map (key_part cs) (others parts ps))) (values_on (map (key_part cs) (others parts ps)) row)
others_fit cs parts [] row f = tt
others_fit cs parts (p ∷ ps) row f = by_test (others_fit cs parts ps row f.1) (is_keyed parts p.column) refl
  where
    by_test : Fits (columns_on (map (key_part cs) (others parts ps))) (values_on (map (key_part cs) (others parts ps)) row) → (b : Bool) → is_keyed parts p.column ≡ b → Fits (columns_on (map (key_part cs) (others parts (p ∷ ps)))) (values_on (map (key_part cs) (others parts (p ∷ ps))) row)
    by_test rest true t =
        let more : others parts (p ∷ ps) ≡ others parts ps = rw t refl in
        subst (λ (qs : List KeyPlace). Fits (columns_on (map (key_part cs) qs)) (values_on (map (key_part cs) qs) row)) (sym more) rest
    by_test rest false t =
        let more : others parts (p ∷ ps) ≡ p ∷ others parts ps = rw t refl in
        subst (λ (qs : List KeyPlace). Fits (columns_on (map (key_part cs) qs)) (values_on (map (key_part cs) qs) row)) (sym more) (f.0, rest)

fits_append : (a b : List PathColumn) (row : List Value) → Fits (columns_on a) (values_on a row) → Fits (columns_on b) (values_on b row) → Fits (columns_on (a ++ b)) (values_on (a ++ b) row)
fits_append [] b row f g = g
fits_append (c ∷ a) b row f g = (f.0, fits_append a b row f.1 g)

-- a row of the table has a key on each index's path
pub index_key_fits : (t : Table) (x : Index) (row : List Value) → FitsRow t row → Fits (columns_on (index_path t x)) (values_on (index_path t x) row)
index_key_fits t x row h = fits_append (map (index_part t) x.parts) (map (key_part t.columns) (others x.parts t.key)) row (parts_fit t x.parts row h) (others_fit t.columns x.parts t.key row h.key)
