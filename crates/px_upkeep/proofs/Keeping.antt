-- The base versions of found rows are kept one after another.
use Rattle.std.proofs.Common.{arith, ◌⊎◌, ◌≡◌, length, List, [], ◌∷◌, ◌++◌, refl, sym, ◌∙◌, ap, subst, inl, inr, append_assoc}
use Rattle.std.proofs.lemmas.List.{append-nil}
use Rattle.px_tables.specs.declared.table.TableColumn.{TableColumn}
use Rattle.px_paths.specs.Paths.{key_on}
use Rattle.px_paths.specs.declared.path.PathColumn.{PathColumn}
use Rattle.px_trail.specs.Answers.{IsAmong}
use Rattle.px_calls.specs.declared.query.BaseRow.{BaseRow}
use Rattle.px_calls.specs.declared.query.FoundKey.{FoundKey}
use Rattle.px_calls.specs.declared.query.FoundKey.TheVariants.{Sure}
use Rattle.px_calls.specs.declared.query.FoundRow.{FoundRow}
use Rattle.px_calls.specs.Causes.{IsLong}
use Rattle.px_upkeep.specs.Rows.{AreBasesOf, HasLong, KeepsRow}

pub no-length : (xs : List FoundKey) → length xs ≡ 0 → xs ≡ []
no-length [] e = refl
no-length (x ∷ xs) e = absurd (omega (arith, e))

-- these rows are those of the keys that were gone through, and the others are still to come
pub record Keeps (t : List TableColumn) (keys columns : List PathColumn) (all fs : List FoundKey) (rows : List BaseRow) : Type 0 where
  pub rest : (rs : List BaseRow) → AreBasesOf t keys columns fs rs → AreBasesOf t keys columns all (rows ++ rs)
  pub among : (g : FoundRow) → IsAmong (Sure g) fs → IsAmong (Sure g) all

module _ (t : List TableColumn) (keys columns : List PathColumn) (all : List FoundKey) where
  pub keeps-none : Keeps t keys columns all all []
  keeps-none = record { rest = λ rs a. a; among = λ g a. a }

  pub keeps-one : (fs rest : List FoundKey) (key : FoundKey) (old new : List BaseRow) → fs ≡ key ∷ rest → KeepsRow t keys columns key old new → Keeps t keys columns all fs old → Keeps t keys columns all rest new
  unfolding IsAmong
  keeps-one fs rest key old new is one k =
      let all_is : fs ≡ Sure one.found ∷ rest = is ∙ ap (λ (x : FoundKey). x ∷ rest) one.sure in
      record {
        rest = λ rs a.
            subst (λ (l : List BaseRow). AreBasesOf t keys columns all l) (sym (append_assoc old (one.row ∷ []) rs) ∙ ap (λ (l : List BaseRow). l ++ rs) (sym one.behind))
            (k.rest (one.row ∷ rs) (subst (λ (l : List FoundKey). AreBasesOf t keys columns l (one.row ∷ rs)) (sym all_is) (one.base, a)));
        among = λ g a. k.among g (subst (λ (l : List FoundKey). IsAmong (Sure g) l) (sym all_is) (inr a));
      }

  pub keeps-all : (fs : List FoundKey) (rows : List BaseRow) → fs ≡ [] → Keeps t keys columns all fs rows → AreBasesOf t keys columns all rows
  keeps-all fs rows is k = subst (λ (l : List BaseRow). AreBasesOf t keys columns all l) (append-nil rows) (k.rest [] (subst (λ (l : List FoundKey). AreBasesOf t keys columns l []) (sym is) tt))

  pub keeps-long : (fs rest : List FoundKey) (key : FoundKey) (rows : List BaseRow) → fs ≡ key ∷ rest → HasLong columns (key ∷ []) → Keeps t keys columns all fs rows → HasLong columns all
  unfolding IsAmong
  keeps-long fs rest key rows is long k = record { found = long.found; among = k.among long.found (subst (λ (l : List FoundKey). IsAmong (Sure long.found) l) (sym is) (first long.among)); long = long.long }
    where
      first : (key ≡ Sure long.found) ⊎ ⊥ → (key ≡ Sure long.found) ⊎ IsAmong (Sure long.found) rest
      first (inl e) = inl e
      first (inr e) = absurd e

-- a row whose key is too long
pub long-one : (columns : List PathColumn) (key : FoundKey) (f : FoundRow) → key ≡ Sure f → IsLong (key_on columns f.row) → HasLong columns (key ∷ [])
unfolding IsAmong
long-one columns key f is long = record { found = f; among = inl is; long = long }
