use Rattle.std.proofs.Common.{◌≡◌, ◌+◌, ◌-◌, ◌*◌, ◌++◌, ◌∷◌, [], ◌∙◌, ap, sym, subst, suc, arith, List, ℕ, Some, take, drop, length}
use Rattle.std.specs.Prelude.{map}
use Rattle.std.specs.List.{AllByRecursion}
use Rattle.std.proofs.lemmas.List.{drop-drop, length-append, length-drop}
use Rattle.px_wal.specs.declared.snapshot.FileEntry.{FileEntry}
use Rattle.px_wal.specs.Snapshot.{IsEntry, files_bytes, wrong_files}
use Rattle.px_wal.specs.SnapshotOf.{file_data}
use Rattle.px_wal.proofs.Snapshots.{entries_more, file_more, files_ended, files_more, files_next, files_wrong}
use Rattle.px_wal.proofs.snapshot_body.read_files.Goals as goal

pub returns-in-Err-clause-wrong : goal.returns-in-Err-clause-wrong
returns-in-Err-clause-wrong c = λ place e.
    let is : 26 + 20 * c.loop-i.i + c.in-Err.place ≡ place = cc in
    let n : c.args.count - c.loop-i.i ≡ suc (c.args.count - (c.loop-i.i + 1)) = omega arith in
    c.loop-i.invariant.left ∙ files_wrong (c.args.count - c.loop-i.i) (c.args.count - (c.loop-i.i + 1)) (26 + 20 * c.loop-i.i) c.in-Err.place (drop (26 + 20 * c.loop-i.i) c.args.body.now) n c.in-Err.ensures.wrong ∙ ap Some is

pub loop-i-preserved : goal.loop-i-preserved
loop-i-preserved c =
    let i = c.loop-i.i in
    let body = c.args.body.now in
    let n : c.args.count - i ≡ suc (c.args.count - (i + 1)) = omega arith in
    let at : 26 + 20 * i + 20 ≡ 26 + 20 * (i + 1) = omega arith in
    let pushed : c.add_entry.new.files.items ≡ c.loop-i.files.items ++ c.in-Ok.file ∷ [] = c.in-Ok-add_entry.ensures in
    record {
      long = omega (arith, c.in-Ok.ensures.long);
      left = c.loop-i.invariant.left ∙ files_next (c.args.count - i) (c.args.count - (i + 1)) (26 + 20 * i) (drop (26 + 20 * i) body) n c.in-Ok.ensures.right
          ∙ ap (wrong_files (c.args.count - (i + 1)) (26 + 20 * i + 20)) (drop-drop 20 (26 + 20 * i) body) ∙ ap (λ (k : ℕ). wrong_files (c.args.count - (i + 1)) k (drop (26 + 20 * i + 20) body)) at
          ∙ ap (λ (k : ℕ). wrong_files (c.args.count - (i + 1)) (26 + 20 * (i + 1)) (drop k body)) at;
      spelled = ap (λ (k : ℕ). take k body) (sym at) ∙ file_more body (take 26 body) c.loop-i.files.items c.in-Ok.file (26 + 20 * i) c.loop-i.invariant.spelled c.in-Ok.ensures.spelled
          ∙ ap (λ (l : List FileEntry). take 26 body ++ files_bytes (map file_data l)) (sym pushed);
      counted = omega (arith, ap length pushed, length-append c.loop-i.files.items (c.in-Ok.file ∷ []), c.loop-i.invariant.counted);
      entries = subst (λ (l : List FileEntry). AllByRecursion IsEntry (map file_data l)) (sym pushed) (entries_more c.loop-i.files.items c.in-Ok.file c.loop-i.invariant.entries c.in-Ok.ensures.entry);
    }

pub returns-then-end-body-clause-wrong : goal.returns-then-end-body-clause-wrong
returns-then-end-body-clause-wrong c = λ place e.
    let is : 26 + 20 * c.args.count ≡ place = cc in
    let done : c.loop-i.i ≡ c.args.count = omega arith in
    let none : c.args.count - c.loop-i.i ≡ 0 = omega arith in
    c.loop-i.invariant.left ∙ files_more (c.args.count - c.loop-i.i) (26 + 20 * c.loop-i.i) (drop (26 + 20 * c.loop-i.i) c.args.body.now) none (omega (arith, length-drop (26 + 20 * c.loop-i.i) c.args.body.now)) ∙ ap Some (ap (λ (k : ℕ). 26 + 20 * k) done ∙ is)

pub returns-clause-right : goal.returns-clause-right
returns-clause-right c =
    let none : c.args.count - c.loop-i.i ≡ 0 = omega arith in
    c.loop-i.invariant.left ∙ files_ended (c.args.count - c.loop-i.i) (26 + 20 * c.loop-i.i) (drop (26 + 20 * c.loop-i.i) c.args.body.now) none (omega (arith, length-drop (26 + 20 * c.loop-i.i) c.args.body.now))
