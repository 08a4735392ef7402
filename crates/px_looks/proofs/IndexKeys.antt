-- What an index's path shows of a key.
use Rattle.std.proofs.Common.{◌≡◌, ℕ, suc, ◌+◌, ◌<◌, ◌≤◌, ◌-◌, Bool, true, false, Option, Some, None, List, [], ◌∷◌, ◌++◌, length, take, get_or, refl, ap, sym, subst, ◌∙◌, arith}
use Rattle.std.specs.Prelude.{drop}
use Rattle.std.proofs.lemmas.Bool.{cond-true, cond-false, eq-eqb, ne_eqb}
use Rattle.std.proofs.lemmas.List.{take_all}
use Rattle.px_cells.specs.declared.kind.CellKind.{CellKind}
use Rattle.px_cells.specs.declared.kind.CellKind.TheVariants.{Put}
use Rattle.px_cells.specs.CellData.{CellData}
use Rattle.px_values.specs.declared.row.Value.{Value}
use Rattle.px_tables.specs.declared.index.Index.{Index}
use Rattle.px_tables.specs.declared.table.Table.{Table}
use Rattle.px_keys.specs.Spelling.{IsKeyOf}
use Rattle.px_keys.proofs.KeyOrders.{spelled_same}
use Rattle.px_values.specs.declared.row.Value.TheVariants.{Null}
use Rattle.px_paths.specs.Paths.{columns_on, index_path, value_on_path}
use Rattle.px_paths.specs.declared.path.PathColumn.{PathColumn}
use Rattle.px_calls.specs.Looks.{key_found}
use Rattle.px_calls.specs.declared.query.FoundKey.{FoundKey}
use Rattle.px_looks.specs.Found.{RowContents}
use Rattle.px_looks.specs.Rows.{everywhere}
use Rattle.px_looks.specs.IndexKeys.{ShowsKey, column_shown, columns_shown, found_at, found_of, found_with}
use Rattle.px_looks.specs.Versions.{is_verified, stamp_seen, value_seen}
use Rattle.px_looks.specs.inner.Seen.{AreSeen, cell_in, value_in}
use Rattle.px_looks.proofs.Seen.{put_there, stamp_there, unseen, value_is}
use Rattle.px_looks.proofs.Spelling.{seen_stands}

same_some : {A : Type 0} {a b : A} → Some a ≡ Some b → a ≡ b
same_some e = cc

pub columns_none : (t : Table) (x : Index) (values : List Value) (stored : ℕ → Option (List ℕ)) → [] ≡ columns_shown t x values stored 0
unfolding columns_shown
columns_none t x values stored = refl

-- the value of a column among those of a key
pub among_no_part : (path : List PathColumn) (values : List Value) (c : ℕ) → length path < 1 → Null ≡ value_on_path path values c
unfolding value_on_path
among_no_part [] values c l = refl
among_no_part (p ∷ path) values c l = absurd (omega arith)

pub among_no_value : (path : List PathColumn) (values : List Value) (c : ℕ) → length values < 1 → Null ≡ value_on_path path values c
unfolding value_on_path
among_no_value [] values c l = refl
among_no_value (p ∷ path) [] c l = refl
among_no_value (p ∷ path) (v ∷ values) c l = absurd (omega arith)

pub among_first : (path : List PathColumn) (values : List Value) (c : ℕ) (d : PathColumn) (v : Value) → 1 ≤ length path → 1 ≤ length values → v ≡ get_or values 0 v → (get_or path 0 d).place ≡ c → v ≡ value_on_path path values c
unfolding value_on_path
among_first [] values c d v l m is e = absurd (omega arith)
among_first (p ∷ path) [] c d v l m is e = absurd (omega arith)
among_first (p ∷ path) (w ∷ values) c d v l m is e = is ∙ sym (cond-true _ _ _ (eq-eqb _ _ e))

pub rest_is : {X : Type 0} (xs : List X) → take (length xs - 1) (drop 1 xs) ≡ drop 1 xs
rest_is [] = refl
rest_is (x ∷ xs) = take_all (length (x ∷ xs) - 1) xs (omega arith)

pub among_other : (path : List PathColumn) (values : List Value) (c : ℕ) (d : PathColumn) → 1 ≤ length path → 1 ≤ length values → ((get_or path 0 d).place ≡ c → ⊥) → value_on_path (drop 1 path) (drop 1 values) c ≡ value_on_path path values c
unfolding value_on_path
among_other [] values c d l m n = absurd (omega arith)
among_other (p ∷ path) [] c d l m n = absurd (omega arith)
among_other (p ∷ path) (w ∷ values) c d l m n = sym (cond-false _ _ _ (ne_eqb _ _ n))

pub columns_more : (t : Table) (x : Index) (values : List Value) (stored : ℕ → Option (List ℕ)) (c : ℕ) → columns_shown t x values stored c ++ column_shown t x values stored c ∷ [] ≡ columns_shown t x values stored (c + 1)
unfolding columns_shown
columns_more t x values stored c = (let e : suc c ≡ c + 1 = omega arith in ap (columns_shown t x values stored) e)

module _ (t : Table) (x : Index) (p : ℕ) (k : List ℕ) (h : RowContents) where
  -- a key is that of one list of values
  same_values : (a b : List Value) → IsKeyOf (columns_on (index_path t x)) a k → IsKeyOf (columns_on (index_path t x)) b k → a ≡ b
  same_values a b m n = (spelled_same (columns_on (index_path t x)) a b [] [] m.fits n.fits (ap (λ (l : List ℕ). l ++ []) (m.spells ∙ sym n.spells))).0

  pub keys_once : (f g : FoundKey) → ShowsKey t x p k h f → ShowsKey t x p k h g → f ≡ g
  keys_once f g a b = same_some (sym a.is ∙ ap (λ (values : List Value). found_at t x k values h p) (same_values a.values b.values a.key b.key) ∙ b.is)

  keyed_with : (values : List Value) (stored : ℕ → Option (List ℕ)) (s : ℕ) (verified : Bool) → key_found (found_with t x k values stored s verified) ≡ k
  keyed_with values stored s true = refl
  keyed_with values stored s false = refl

  keyed_of : (values : List Value) (o : Option ℕ) (f : FoundKey) → found_of t x k values h p o ≡ Some f → key_found f ≡ k
  keyed_of values None f e = absurd (let z : None ≡ Some f = e in cc)
  keyed_of values (Some s) f e = (let w = found_with t x k values (λ q. value_seen h q p) s (is_verified (h 1 s Put)) in subst (λ (z : FoundKey). key_found z ≡ k) (same_some e) (keyed_with values (λ q. value_seen h q p) s (is_verified (h 1 s Put))))

  pub keys_keyed : (f : FoundKey) → ShowsKey t x p k h f → key_found f ≡ k
  keys_keyed f a = keyed_of a.values (stamp_seen h 1 p) f a.is

  pub keys_some : (f : FoundKey) → ShowsKey t x p k h f → (q s : ℕ) × (d : CellKind) × (v : List ℕ) × (h q s d ≡ Some v)
  keys_some f a = by (stamp_seen h 1 p) refl a.is
    where
      by : (o : Option ℕ) → stamp_seen h 1 p ≡ o → found_of t x k a.values h p o ≡ Some f → (q s : ℕ) × (d : CellKind) × (v : List ℕ) × (h q s d ≡ Some v)
      by None is e = absurd (let z : None ≡ Some f = e in cc)
      by (Some s) is e = (let z = seen_stands (everywhere h) [] 1 p s is in (1, s, Put, z.0, z.1))

  module _ (values : List Value) (key : IsKeyOf (columns_on (index_path t x)) values k) where
    pub shows_none : found_at t x k values h p ≡ None → (f : FoundKey) → ShowsKey t x p k h f → ⊥
    shows_none none f a = (let z : None ≡ Some f = sym none ∙ ap (λ (vs : List Value). found_at t x k vs h p) (same_values values a.values key a.key) ∙ a.is in cc)

    pub shows_found : (f : FoundKey) → found_at t x k values h p ≡ Some f → ShowsKey t x p k h f
    shows_found f is = record { values = values; key = key; is = is }

  -- what is found by the puts that the point sees
  module _ (values : List Value) (seen : List CellData) (are : AreSeen h p seen) where
    pub found_none : cell_in seen 1 ≡ None → None ≡ found_at t x k values h p
    found_none e = sym (ap (found_of t x k values h p) (unseen h p seen are 1 e))

    pub found_some : (c : CellData) → cell_in seen 1 ≡ Some c → (f : FoundKey) → f ≡ found_with t x k values (value_in seen) c.stamp (is_verified (Some c.value)) → Some f ≡ found_at t x k values h p
    found_some c e f is = ap Some is ∙ sym (ap (found_of t x k values h p) (stamp_there h p seen are 1 c e)
        ∙ (λ i. Some (found_with t x k values (λ q. sym (value_is h p seen are q) i) c.stamp (is_verified (put_there h p seen are 1 c e i)))))
