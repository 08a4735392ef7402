use Rattle.std.proofs.Common.{◌≡◌, ◌++◌, ◌∷◌, ◌∙◌, ap, arith, List, ℕ, [], length}
use Rattle.std.specs.Prelude.{map}
use Rattle.std.proofs.lemmas.List.{length-map}
use Rattle.px_wal.specs.declared.snapshot.FileEntry.{FileEntry}
use Rattle.px_wal.specs.Snapshot.{files_bytes, word_bytes}
use Rattle.px_wal.specs.SnapshotOf.{file_data, snapshot_of}
use Rattle.px_wal.proofs.Snapshots.{snapshot_filled}
use Rattle.px_wal.proofs.snapshot_body.fill_snapshot.Goals as goal

pub returns-clause-filled : goal.returns-clause-filled
returns-clause-filled c =
    let s = c.args.snapshot.now in
    let counts = c.push_counts.new.frame.body in
    let head : counts ≡ ((word_bytes s.flushed ++ word_bytes s.horizon) ++ word_bytes s.stamp) ++ s.compactions ∷ length (map file_data s.files.items) ∷ [] =
    c.push_counts.ensures.pushed ∙ ap (λ (n : ℕ). c.push_word-3.new.frame.body ++ s.compactions ∷ n ∷ []) (let e : c.len.result ≡ length (map file_data s.files.items) = omega (arith, c.len.ensures, length-map s.files.items file_data) in e)
    ∙ ap (λ (l : List ℕ). l ++ s.compactions ∷ length (map file_data s.files.items) ∷ [])
    (c.push_word-3.ensures.pushed ∙ ap (λ (l : List ℕ). l ++ word_bytes s.stamp) (c.push_word-2.ensures.pushed ∙ ap (λ (l : List ℕ). l ++ word_bytes s.horizon) (c.push_word.ensures.pushed ∙ ap (λ (l : List ℕ). l ++ word_bytes s.flushed) c.begin.ensures.begun.1))) in
    snapshot_filled c.push_files.new.frame (snapshot_of s)
    (c.push_files.ensures.kind ∙ c.push_counts.ensures.kind ∙ c.push_word-3.ensures.kind ∙ c.push_word-2.ensures.kind ∙ c.push_word.ensures.kind ∙ c.begin.ensures.begun.0)
    (c.push_files.ensures.pushed ∙ ap (λ (l : List FileEntry). counts ++ files_bytes (map file_data l)) c.deref.ensures.value ∙ ap (λ (l : List ℕ). l ++ files_bytes (map file_data s.files.items)) head)
