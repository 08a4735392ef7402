use Rattle.std.proofs.Common.{rules, ◌≡◌, ◌∷◌, ◌++◌, ◌∙◌, [], ap, sym, refl, ℕ, Some, get_or, length}
use Rattle.std.specs.Prelude.{map}
use Rattle.std.proofs.lemmas.List.{length-map}
use Rattle.px_wal.specs.Snapshot.{SnapshotData, files_bytes, word_bytes}
use Rattle.px_wal.specs.SnapshotOf.{file_data}
use Rattle.px_wal.proofs.Snapshots.{body_files, body_head, body_is, head_is}
use Rattle.px_wal.proofs.snapshot_body.read_snapshot.Goals as goal

pub returns-in-Some-clause-wrong : goal.returns-in-Some-clause-wrong
returns-in-Some-clause-wrong c = λ place e.
    let is : c.in-Some.place ≡ place = cc in
    body_head c.args.body.now c.in-Some.place (sym c.in-Some.ensures.wrong) ∙ ap Some is

pub returns-in-Err-clause-wrong : goal.returns-in-Err-clause-wrong
returns-in-Err-clause-wrong c = λ place e. body_files c.args.body.now (sym c.in_default.ensures.wrong) ∙ c.in-Err.ensures.wrong place (search rules)

pub returns-clause-body : goal.returns-clause-body
returns-clause-body c =
    let s : SnapshotData = record { flushed = c.word_at.result; horizon = c.word_at-2.result; stamp = c.word_at-3.result; compactions = get_or c.args.body.now 24 0; files = map file_data c.in-Ok.files.items } in
    let counted : get_or c.args.body.now 25 0 ≡ length (map file_data c.in-Ok.files.items) = sym (length-map c.in-Ok.files.items file_data ∙ c.in-Ok.ensures.counted) in
    body_is c.args.body.now (files_bytes (map file_data c.in-Ok.files.items)) s c.in-Ok.ensures.spelled
    (head_is c.args.body.now c.word_at.result c.word_at-2.result c.word_at-3.result (c.in_default.ensures.long refl) c.word_at.ensures c.word_at-2.ensures c.word_at-3.ensures
    ∙ ap (λ (n : ℕ). ((word_bytes c.word_at.result ++ word_bytes c.word_at-2.result) ++ word_bytes c.word_at-3.result) ++ get_or c.args.body.now 24 0 ∷ n ∷ []) counted)
    refl

pub returns-clause-right : goal.returns-clause-right
returns-clause-right c = body_files c.args.body.now (sym c.in_default.ensures.wrong) ∙ c.in-Ok.ensures.right
