use Rattle.std.proofs.Common.{◌∷◌, List, length, map, drop, ap, ◌∙◌, arith}
use Rattle.std.proofs.lemmas.List.{length-drop}
use Rattle.px_wal.specs.Snapshot.{FileData}
use Rattle.px_wal.specs.SnapshotOf.{file_data}
use Rattle.px_wal.specs.declared.snapshot.FileEntry.{FileEntry}
use Rattle.px_naming.specs.Naming.{one_compaction_more}
use Rattle.px_naming.proofs.Named.{kept_files, map_drop}
use Rattle.px_naming.proofs.naming.merged_after.Goals as goal

pub invariant_of-result : goal.invariant_of-result
invariant_of-result c =
    let all = kept_files c.args.file c.args.count c.args.named.now.files.items c.deref.result.now c.new-files.result.items c.push.new.self.items c.extend_from_slice.new.self.items c.new-files.ensures.items c.in_ok-push.ensures.items c.deref.ensures.value c.in_ok-extend_from_slice.ensures.items in
    record { few = (let l = ap length all in let d = length-drop c.args.count c.args.named.now.files.items in let f = c.args.named.now.few in let s = c.requires.some in let w = c.requires.within in omega arith) }

pub returns : goal.returns
returns c =
    let all = kept_files c.args.file c.args.count c.args.named.now.files.items c.deref.result.now c.new-files.result.items c.push.new.self.items c.extend_from_slice.new.self.items c.new-files.ensures.items c.in_ok-push.ensures.items c.deref.ensures.value c.in_ok-extend_from_slice.ensures.items in
    let named = c.args.named.now in
    ap (λ (l : List FileEntry). record { flushed = named.flushed; horizon = named.horizon; stamp = named.stamp; compactions = c.count_one.result; files = map file_data l }) all
    ∙ ap (λ (n : _). record { flushed = named.flushed; horizon = named.horizon; stamp = named.stamp; compactions = n; files = file_data c.args.file ∷ map file_data (drop c.args.count named.files.items) }) c.count_one.ensures
    ∙ ap (λ (l : List FileData). record { flushed = named.flushed; horizon = named.horizon; stamp = named.stamp; compactions = one_compaction_more named.compactions; files = file_data c.args.file ∷ l }) (map_drop c.args.count named.files.items)
