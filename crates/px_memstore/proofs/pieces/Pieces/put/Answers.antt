use Rattle.std.proofs.Common.{◌≡◌, ◌++◌, List, ap, arith, length, subst, sym}
use Rattle.std.proofs.lemmas.Bool.Decides.{nat_tests}
use Rattle.px_cells.specs.CellData.{CellData}
use Rattle.px_cells.specs.Order.{ReadsSame}
use Rattle.px_memstore.specs.Pieces.{chained}
use Rattle.px_memstore.specs.inner.Pieces.{lists}
use Rattle.px_memstore.proofs.Puts.{left_len, left_sorted, putting_done, putting_more}
use Rattle.px_memstore.proofs.pieces.Pieces.put.Goals as goal

pub loop-self-preserved : goal.loop-self-preserved
loop-self-preserved c =
    let i = c.loop-self.invariant in
    let mid = c.room_for-last.new.self in
    let new = c.put_last.new.self in
    let batch = c.loop-self.batch.items in
    let left = c.put_last.new.batch.items in
    let b0 = c.args.batch.items in
    let c0 = chained (lists c.args.self.now) in
    let s = c.room_for-last.ensures.same in
    let p = c.put_last.ensures.put in
    let same = subst (λ (l : List CellData). ReadsSame (batch ++ l) (b0 ++ c0)) (sym s.cells) i.same in
    let n = left_len mid new batch left p in
    let sc = s.count in
    let sk = s.capacity in
    let pc = p.count in
    let pl = p.len in
    let pk = p.capacity in
    let pa = c.put_last.ensures.aside in
    let il = i.len in
    let is = i.short in
    let ic = i.count in
    let ik = i.capacity in
    let ia = i.aside in
    let ob = c.loop-self.batch.ok.0 in
    let ol = c.put_last.new.batch.ok.0 in
    let mc : length (chained (lists mid)) ≡ length (chained (lists c.loop-self.self)) = ap (λ (l : List CellData). length l) s.cells in
    record {
      pieces = p.pieces;
      same = putting_more mid new batch left b0 c0 p same;
      sorted = left_sorted mid new batch left p i.sorted;
      count = pc;
      len = omega (arith, n, pc, pl, il, ic, mc, ob, ol);
      short = omega (arith, n, is, ob, ol);
      capacity = omega (arith, sk, pk, ik);
      none = c.put_last.ensures.none;
      aside = omega (arith, pa, ia);
    }

pub returns-clause-merged : goal.returns-clause-merged
returns-clause-merged c =
    let i = c.loop-self.invariant in
    let h = c.is_empty.ensures in
    let t = c.loop-self-test.false in
    let o = c.loop-self.batch.ok.0 in
    putting_done c.loop-self.self c.loop-self.batch.items c.args.batch.items (chained (lists c.args.self.now)) i.pieces (grind (arith, nat_tests)) i.same
