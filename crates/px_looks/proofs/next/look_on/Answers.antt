use Rattle.std.proofs.Common.{◌≡◌, ◌-◌, ◌∙◌, ◌≤◌, ◌+◌, ◌++◌, ℕ, Some, None, List, ap, arith, get_or, length, length-append, min, sym, subst}
use Rattle.std.specs.Option.{option_copied}
use Rattle.px_cells.specs.Contents.{value_at}
use Rattle.px_region.specs.Region.{read_of}
use Rattle.px_region.specs.declared.fault.LookFault.{LookFault as Fault}
use Rattle.px_calls.specs.Looks.{key_found}
use Rattle.px_calls.specs.declared.query.FoundKey.{FoundKey}
use Rattle.px_looks.specs.Found.{AreNext}
use Rattle.px_looks.specs.inner.Parts.{FoundTo}
use Rattle.px_looks.proofs.Parts.{on_further, on_none, on_over}
use Rattle.px_looks.proofs.next.look_on.Goals as goal

pub returns-in-None-clause-over : goal.returns-in-None-clause-over
returns-in-None-clause-over g c = λ next e start low after first done.
    let shows = g.R.Reader.shows c.args.reader.now in
    let cells = value_at (read_of c.args.region.now) in
    let none : None ≡ next = cc in
    subst (AreNext shows cells low (option_copied c.args.high) after c.append.new.self.items) none
    (on_none shows cells start (option_copied c.args.high) c.as_slice-2.result.now c.args.from.now c.as_slice-2.ensures c.args.found.now.items c.in_ok-more.field-0.found.items c.append.new.self.items c.in-Ok.ensures.items c.in_ok-more.field-0.end
    c.in_ok-more.ensures.found done c.in-None.is c.left_of-most.result c.as_slice.result.now c.as_slice.ensures.value c.left_of-most.ensures c.in_ok-more.ensures.few low after first)

pub returns-clause-more : goal.returns-clause-more
returns-clause-more g c = λ r start done.
    let shows = g.R.Reader.shows c.args.reader.now in
    let cells = value_at (read_of c.args.region.now) in
    let w = c.way_from.ensures.more r in
    subst (λ (k : List ℕ). FoundTo shows cells start (option_copied c.args.high) k c.append.new.self.items) (sym w.0)
    (on_further shows cells start (option_copied c.args.high) c.as_slice-2.result.now c.args.from.now c.as_slice-2.ensures c.args.found.now.items c.in_ok-more.field-0.found.items c.append.new.self.items c.in-Ok.ensures.items c.in_ok-more.field-0.end
    c.in_ok-more.ensures.found done c.in-Some.end c.in-Some.is c.in_ok-more.ensures.up c.in_ok-more.ensures.below)

pub returns-clause-over : goal.returns-clause-over
returns-clause-over g c = λ next r start low after first done.
    let shows = g.R.Reader.shows c.args.reader.now in
    let cells = value_at (read_of c.args.region.now) in
    let w = subst (λ (l : List FoundKey). (length l ≡ 64) × ((n : List ℕ) × (next ≡ Some n) × ((f : FoundKey) → f ≡ get_or l (length l - 1) f → n ≡ key_found f))) c.as_slice-in-Some.ensures.value (c.way_from.ensures.over next r) in
    on_over shows cells start (option_copied c.args.high) c.as_slice-2.result.now c.args.from.now c.as_slice-2.ensures c.args.found.now.items c.in_ok-more.field-0.found.items c.append.new.self.items c.in-Ok.ensures.items c.in_ok-more.field-0.end
    c.in_ok-more.ensures.found done c.in-Some.end c.in-Some.is c.in_ok-more.ensures.up c.in_ok-more.ensures.below w.0 next w.1.0 w.1.1 w.1.2 low after first

-- what is found at a part is counted
counts : (start old new : ℕ) (some more all : List FoundKey) → min (start + length some) 18446744073709551615 ≤ old → min (old + length more) 18446744073709551615 ≤ new → all ≡ some ++ more → min (start + length all) 18446744073709551615 ≤ new
counts start old new some more all before risen is = (let l = ap length is ∙ length-append some more in omega arith)

pub returns-in-None-clause-counted : goal.returns-in-None-clause-counted
returns-in-None-clause-counted g c = λ way start r before. counts start c.args.region.now.looked _ c.args.found.now.items c.in_ok-more.field-0.found.items c.append.new.self.items before c.in_ok-more.ensures.counted c.in-Ok.ensures.items

pub returns-clause-counted : goal.returns-clause-counted
returns-clause-counted g c = λ way start r before. counts start c.args.region.now.looked _ c.args.found.now.items c.in_ok-more.field-0.found.items c.append.new.self.items before c.in_ok-more.ensures.counted c.in-Ok.ensures.items

pub returns-clause-undamaged : goal.returns-clause-undamaged
returns-clause-undamaged g c = λ file at e. absurd (let z : Fault.Damaged file at ≡ Fault.Memory = c.way_from.ensures.memory (Fault.Damaged file at) e in cc)

pub returns-clause-failed : goal.returns-clause-failed
returns-clause-failed g c = λ e. absurd (let z : Fault.ReadFault ≡ Fault.Memory = c.way_from.ensures.memory Fault.ReadFault e in cc)
