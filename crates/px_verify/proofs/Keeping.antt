-- What is kept of found keys, one after another.
use Rattle.std.proofs.Common.{ℕ, ◌≡◌, Option, None, Some, List, [], ◌∷◌, ◌++◌, refl, sym, ◌∙◌, ap, subst, inl, inr, append_assoc}
use Rattle.px_keys.specs.Spelling.{Fits}
use Rattle.px_paths.specs.Paths.{columns_on, values_on}
use Rattle.px_paths.specs.declared.path.PathColumn.{PathColumn}
use Rattle.px_trail.specs.Answers.{IsAmong}
use Rattle.px_calls.specs.declared.query.FoundKey.{FoundKey}
use Rattle.px_calls.specs.declared.query.FoundKey.TheVariants.{Sure, InDoubt}
use Rattle.px_calls.specs.declared.query.FoundRow.{FoundRow}
use Rattle.px_verify.specs.declared.report.IndexEntry.{IndexEntry}
use Rattle.px_verify.specs.Lists.{HaveKeys, entries_of, entry_on}
use Rattle.px_verify.proofs.Counts.{here, there}

pub key-fits : (path : List PathColumn) (key : FoundKey) (f : FoundRow) → key ≡ Sure f → HaveKeys path (key ∷ []) → Fits (columns_on path) (values_on path f.row)
key-fits path key f is h = h f (subst (λ (k : FoundKey). IsAmong (Sure f) (k ∷ [])) (sym is) (here (Sure f) []))

pub one-entry : (path : List PathColumn) (included : List ℕ) (key : FoundKey) (f : FoundRow) → key ≡ Sure f → entries_of path included (key ∷ []) ≡ entry_on path included f.row ∷ []
one-entry path included key f is = ap (λ (k : FoundKey). entries_of path included (k ∷ [])) is

pub never : (e : IndexEntry) → ◌≡◌ {A = Option IndexEntry} None (Some e) → ⊥
never e h = cc

entries-cons : (path : List PathColumn) (included : List ℕ) (key : FoundKey) (keys : List FoundKey) → entries_of path included (key ∷ keys) ≡ entries_of path included (key ∷ []) ++ entries_of path included keys
entries-cons path included (Sure f) keys = refl
entries-cons path included (InDoubt d) keys = refl

pub entries-append : (path : List PathColumn) (included : List ℕ) (a b : List FoundKey) → entries_of path included (a ++ b) ≡ entries_of path included a ++ entries_of path included b
entries-append path included [] b = refl
entries-append path included (Sure f ∷ a) b = ap (λ (l : List IndexEntry). entry_on path included f.row ∷ l) (entries-append path included a b)
entries-append path included (InDoubt d ∷ a) b = entries-append path included a b

first-key : (path : List PathColumn) (key : FoundKey) (keys : List FoundKey) → HaveKeys path (key ∷ keys) → HaveKeys path (key ∷ [])
unfolding IsAmong
first-key path key keys h f (inl same) = h f (inl same)
first-key path key keys h f (inr among) = absurd among

-- a key more is kept
pub kept-on : (path : List PathColumn) (included : List ℕ) (key : FoundKey) (keys : List FoundKey) (before now total : List IndexEntry) → HaveKeys path (key ∷ keys) → before ++ entries_of path included (key ∷ keys) ≡ total → (HaveKeys path (key ∷ []) → now ≡ before ++ entries_of path included (key ∷ []))
    → HaveKeys path keys × (now ++ entries_of path included keys ≡ total)
kept-on path included key keys before now total fits is one = (
  (λ f among. fits f (there (Sure f) key keys among)),
  ap (λ (l : List IndexEntry). l ++ entries_of path included keys) (one (first-key path key keys fits))
      ∙ (append_assoc before (entries_of path included (key ∷ [])) (entries_of path included keys)
      ∙ (ap (λ (l : List IndexEntry). before ++ l) (sym (entries-cons path included key keys)) ∙ is)),
)

pub same-entry : (a b : IndexEntry) → ◌≡◌ {A = Option IndexEntry} (Some a) (Some b) → a ≡ b
same-entry a b h = cc
