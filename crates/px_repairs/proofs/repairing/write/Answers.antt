use Rattle.std.proofs.Common.{◌≡◌, length, arith}
use Rattle.px_cellbytes.specs.Spelling.{all_bytes}
use Rattle.px_keptcells.specs.Kept.{laid}
use Rattle.px_repairs.proofs.Handing.{min_whole, not_taken, writes_taken, written_taken}
use Rattle.px_repairs.proofs.Refusing.{refused_for}
use Rattle.px_repairs.proofs.repairing.write.Goals as goal

pub returns-in-Err-clause-written : goal.returns-in-Err-clause-written
returns-in-Err-clause-written g c = not_taken g.D.Disk c.args.region.now c.take.new.region c.args.disk.now (laid c.args.kept) c.take.result c.in-Err.fault c.in-Err.is c.in-Err.ensures.quiet (record { alike = c.take.ensures.alike; promised = c.in-Err.ensures.refused })

pub returns-in-Err-clause-cause : goal.returns-in-Err-clause-cause
returns-in-Err-clause-cause g c fault e = refused_for c.args.region.now (laid c.args.kept) c.count-count.result c.bytes-bytes.result c.count-count.ensures c.bytes-bytes.ensures fault (c.in-Err.ensures.cause fault e)

pub returns-in-Ok-applied-clause-written : goal.returns-in-Ok-applied-clause-written
returns-in-Ok-applied-clause-written g c =
    let d = g.D.Disk in
    let a = c.apply-applied.ensures in
    let count : c.count-count.result ≡ length (laid c.args.kept) = min_whole (length (laid c.args.kept)) c.count-count.result c.count-count.ensures (let f = c.in_default.ensures.few in omega arith) in
    let bytes : c.bytes-bytes.result ≡ length (all_bytes (laid c.args.kept)) = min_whole (length (all_bytes (laid c.args.kept))) c.bytes-bytes.result c.bytes-bytes.ensures (let f = c.in_default.ensures.few in omega arith) in
    record {
      hands = record {
        cells = c.hand.result;
        handed = record { written = c.hand.ensures.written; reads = c.hand.ensures.reads; count = c.hand.ensures.count; bytes = c.hand.ensures.bytes };
        writes = writes_taken d c.args.region.now c.take.new.region c.apply-applied.new.self c.args.disk.now c.apply-applied.new.disk c.hand.result c.take.ensures.alike a.number a.horizon a.any_moment a.touches a.counts;
      };
      written = written_taken d c.args.region.now c.take.new.region c.apply-applied.new.self c.args.disk.now c.apply-applied.new.disk c.hand.result c.take.ensures.alike c.in-Ok-applied.ensures.done c.in-Ok-applied.ensures.read;
      room = record {
        cells = (let t = c.in_default.ensures.taken in let u = c.in-Ok-applied.ensures.promised in let n = c.hand.ensures.count in omega arith);
        bytes = (let t = c.in_default.ensures.taken in let u = c.in-Ok-applied.ensures.promised in let n = c.hand.ensures.bytes in omega arith);
      };
    }

pub returns-in-Err-applied-clause-written : goal.returns-in-Err-applied-clause-written
returns-in-Err-applied-clause-written g c =
    let d = g.D.Disk in
    let a = c.apply-applied.ensures in
    record {
      cells = c.hand.result;
      handed = record { written = c.hand.ensures.written; reads = c.hand.ensures.reads; count = c.hand.ensures.count; bytes = c.hand.ensures.bytes };
      writes = writes_taken d c.args.region.now c.take.new.region c.apply-applied.new.self c.args.disk.now c.apply-applied.new.disk c.hand.result c.take.ensures.alike a.number a.horizon a.any_moment a.touches a.counts;
    }
