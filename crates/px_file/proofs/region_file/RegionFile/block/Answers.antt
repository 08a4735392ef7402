use Rattle.std.proofs.Common.{◌≡◌, length, get_or, subst, ap, ◌∙◌, arith}
use Rattle.px_file.specs.Format.{EntryData}
use Rattle.px_file.specs.declared.fault.FileFault.TheVariants.{Damaged, Memory as NoMemory}
use Rattle.px_file.proofs.OneBlockOf.{block_fault_small, cells_are, no_block_fault, only_memory}
use Rattle.px_file.proofs.region_file.RegionFile.block.Goals as goal

pub returns-in-Ok-clause-cells : goal.returns-in-Ok-clause-cells
returns-in-Ok-clause-cells g c = λ blocks has tells. (
    let e : EntryData = record { place = c.entry.inside.place; len = c.entry.inside.len; key = c.entry.inside.key.items } in
    let v : c.index-entry.result.now ≡ e = (let w = c.entry.view_is in cc) in
    cells_are g.D.Disk c.args.self.now c.args.disk.now blocks has tells c.args.number e c.requires (subst (λ (x : EntryData). x ≡ get_or c.args.self.now.index.entries.items c.args.number x) v c.index-entry.ensures)
    c.deref.result.now (c.deref.ensures.value ∙ c.in_ok-bytes.ensures.bytes tells) c.in-Ok.cells c.in-Ok.ensures.ok)

pub damaged-requires : goal.damaged-requires
damaged-requires g c =
    let s = block_fault_small c.deref.result.now c.in-Err.fault c.in-Err.ensures.fault in
    let l = ap length c.deref.ensures.value in
    let w = c.in_ok-bytes.ensures.within in
    let n = c.entry.inside.near in
    let k = c.entry.inside.len in
    omega arith

pub returns-clause-damaged : goal.returns-clause-damaged
returns-clause-damaged g c = λ blocks at place has tells told. (
    let e : EntryData = record { place = c.entry.inside.place; len = c.entry.inside.len; key = c.entry.inside.key.items } in
    let v : c.index-entry.result.now ≡ e = (let w = c.entry.view_is in cc) in
    let none = no_block_fault g.D.Disk c.args.self.now c.args.disk.now blocks has tells c.args.number e c.requires
    (subst (λ (x : EntryData). x ≡ get_or c.args.self.now.index.entries.items c.args.number x) v c.index-entry.ensures) c.deref.result.now (c.deref.ensures.value ∙ c.in_ok-bytes.ensures.bytes tells) c.in-Err.fault in
    let memory = only_memory c.in-Err.fault (λ other. none (c.in-Err.ensures.fault other)) in
    let is : c.damaged.result ≡ NoMemory = c.damaged.ensures.memory memory in
    let was : c.damaged.result ≡ Damaged at place = cc in
    cc)
