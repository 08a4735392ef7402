use Rattle.std.proofs.Common.{◌≡◌, ◌≤◌, ℕ, Bool, Option, List, length}
use Rattle.px_tables.specs.declared.found.Found.{Found}
use Rattle.px_trail.specs.declared.entry.Entry.{Entry}
use Rattle.px_calls.specs.declared.query.By.{By}
use Rattle.px_calls.specs.declared.query.Point.{Point}
use Rattle.px_calls.specs.Doubtful.{IndexVersion}
use Rattle.px_calls.specs.Looks.{AreDoubtsOf}
use Rattle.px_gather.specs.Gathered.{Frame, Pending}
use Rattle.px_gather.specs.Query.{IsPathFor}
use Rattle.px_scan.specs.Fixes.{AreRisingDoubts}
use Rattle.px_scan.specs.Looking.{doubts_in}
use Rattle.px_scan.specs.Turns.{given_of}
use Rattle.px_scan.proofs.keys.keep_sure.Given as goal

abbrev pub invariant-keys : goal.invariant-keys
invariant-keys g l =
    record {
      rows : (f : Frame) (es : List Entry) (next : Option (List ℕ)) → f.query ≡ g.Q.Asks.asked l.query → IsPathFor f.query f.point f.path
          → Pending f es l.at l.fn.keys.items next (given_of l.fn.rows.items) → Pending f es l.at l.keys.items next (given_of l.rows.items);
      doubts : (f : Found) (w : By) → AreDoubtsOf f w l.fn.keys.items → AreDoubtsOf f w l.keys.items;
      fewer : length l.keys.items ≤ length l.fn.keys.items;
      doubts_left : doubts_in l.keys.items ≤ doubts_in l.fn.keys.items;
      rising : (f : Point → IndexVersion → Bool) (p : Point) (low : Option (List ℕ)) → AreRisingDoubts f p low l.fn.keys.items → (now : Option (List ℕ)) × AreRisingDoubts f p now l.keys.items;
    }

abbrev pub decreases-keys : goal.decreases-keys
decreases-keys g l = l.keys.len
