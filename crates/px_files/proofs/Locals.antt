-- Local numbers that are named.
use Rattle.std.proofs.Common.{◌≡◌, ◌⊎◌, ℕ, ◌+◌, ◌<◌, ◌≤◌, List, [], ◌∷◌, length, get_or, drop, refl, sym, ap, subst, ◌∙◌, arith, inl, inr}
use Rattle.std.specs.Prelude.{map}
use Rattle.std.proofs.lemmas.Bool.{cases_eq}
use Rattle.px_wal.specs.Snapshot.{FileData}
use Rattle.px_wal.specs.SnapshotOf.{file_data}
use Rattle.px_wal.specs.declared.snapshot.FileEntry.{FileEntry}
use Rattle.px_files.specs.Locals.{IsNamed}

pub named_first : (entries : List FileEntry) (e : FileEntry) (local : ℕ) → 1 ≤ length entries → e ≡ get_or entries 0 e → e.local ≡ local → IsNamed (map file_data entries) local
named_first [] e local some is same = absurd (omega arith)
named_first (x ∷ entries) e local some is same = inl (ap (λ (y : FileEntry). y.local) (sym is) ∙ same)

pub named_rest : (entries : List FileEntry) (local : ℕ) → 1 ≤ length entries → IsNamed (map file_data (drop 1 entries)) local → IsNamed (map file_data entries) local
named_rest [] local some is = absurd (omega arith)
named_rest (x ∷ entries) local some is = inr is

pub not_named : (entries : List FileEntry) (e : FileEntry) (local : ℕ) → 1 ≤ length entries → e ≡ get_or entries 0 e → (e.local ≡ local → ⊥) → (IsNamed (map file_data (drop 1 entries)) local → ⊥) → IsNamed (map file_data entries) local → ⊥
not_named [] e local some is other rest named = absurd (omega arith)
not_named (x ∷ entries) e local some is other rest (inl same) = other (ap (λ (y : FileEntry). y.local) is ∙ same)
not_named (x ∷ entries) e local some is other rest (inr more) = rest more
