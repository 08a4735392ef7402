use Rattle.std.proofs.Common.{arith}
use Rattle.px_gather.proofs.Gathering as gathering
use Rattle.px_scan.proofs.Bounding as bounding
use Rattle.px_scan.proofs.Looking as looking
use Rattle.px_scan.proofs.Mending as mending
use Rattle.px_scan.proofs.Going as going
use Rattle.px_scan.proofs.keys.keep_sure.Goals as goal

pub keys-init : goal.keys-init
keys-init g c = record { rows = λ f es next q path h. h; doubts = λ f w h. h; fewer = omega arith; doubts_left = omega arith; rising = λ f p low h. (low, h) }

pub returns-then-is_full-clause-gathers : goal.returns-then-is_full-clause-gathers
returns-then-is_full-clause-gathers g c = λ f es next q path h.
    gathering.pending-full _ _ _ _ _ _ (c.keys.invariant.rows f es next q path h) (going.full-of f _ _ _ _ _ q c.as_slice.ensures.value c.is_full.ensures c.if-is_full.true)

pub keys-preserved : goal.keys-preserved
keys-preserved g c = record {
  rows = λ f es next q path h.
      going.sure-on f es _ next _ _ _ _ _ _ _ q path (c.keys.invariant.rows f es next q path h) c.in-Some.ensures.items c.in-Sure.is (going.full-of f _ _ _ _ _ q c.as_slice.ensures.value c.is_full.ensures c.if-is_full.false) c.in-Ok.ensures.ok;
  doubts = λ f w h. going.sure-doubts f w _ _ _ (c.keys.invariant.doubts f w h) c.in-Some.ensures.items;
  fewer = (let one = bounding.one_fewer _ _ _ c.in-Some.ensures.items in let le = c.keys.invariant.fewer in omega arith);
  doubts_left = looking.sure_doubts _ _ _ _ _ c.keys.invariant.doubts_left c.in-Some.ensures.items c.in-Sure.is;
  rising = λ f p low h. (let w = c.keys.invariant.rising f p low h in (_, mending.rising_on f p w.0 _ _ _ w.1 c.in-Some.ensures.items));
}

pub returns-in-InDoubt-clause-gathers : goal.returns-in-InDoubt-clause-gathers
returns-in-InDoubt-clause-gathers g c = λ f es next q path h. (
  going.full-of f _ _ _ _ _ q c.as_slice.ensures.value c.is_full.ensures c.if-is_full.false,
  going.doubt-on f es _ next _ _ _ _ _ (c.keys.invariant.rows f es next q path h) c.in-Some.ensures.items c.in-InDoubt.is,
)

pub returns-in-InDoubt-clause-doubts : goal.returns-in-InDoubt-clause-doubts
returns-in-InDoubt-clause-doubts g c = λ f w h. going.doubt-doubts f w _ _ _ _ (c.keys.invariant.doubts f w h) c.in-Some.ensures.items c.in-InDoubt.is

pub returns-in-InDoubt-clause-fewer : goal.returns-in-InDoubt-clause-fewer
returns-in-InDoubt-clause-fewer g c = let one = bounding.one_fewer _ _ _ c.in-Some.ensures.items in let le = c.keys.invariant.fewer in omega arith

pub returns-in-InDoubt-clause-fewer_doubts : goal.returns-in-InDoubt-clause-fewer_doubts
returns-in-InDoubt-clause-fewer_doubts g c = looking.one_doubt _ _ _ _ _ c.keys.invariant.doubts_left c.in-Some.ensures.items c.in-InDoubt.is

pub returns-in-InDoubt-clause-doubtful : goal.returns-in-InDoubt-clause-doubtful
returns-in-InDoubt-clause-doubtful g c = λ f p low h. (let w = c.keys.invariant.rising f p low h in mending.doubtful_on f p w.0 _ _ _ _ w.1 c.in-Some.ensures.items c.in-InDoubt.is)
