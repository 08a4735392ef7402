use Rattle.std.proofs.Common.{◌≡◌, ◌∷◌, ◌++◌, ◌≤◌, ◌<◌, [], List, ℕ, ap, sym, subst, ◌∙◌, arith, refl, take, drop, length, length-append, length-take-le, get_or}
use Rattle.std.specs.Prelude.{reverse}
use Rattle.std.specs.List.{AllByRecursion}
use Rattle.std.proofs.lemmas.List.{length-set, reverse-append}
use Rattle.px_cells.specs.Among.{Has}
use Rattle.px_cells.specs.CellData.{CellData}
use Rattle.px_cells.specs.Order.{Below, IsAscending, SamePlace}
use Rattle.px_memstore.specs.inner.Merging.{ArePlaces}
use Rattle.px_memstore.proofs.Lists.{drop_within, take_within}
use Rattle.px_memstore.proofs.Near.{part_sorted}
use Rattle.px_memstore.proofs.Replacing.{IsReplacing}
use Rattle.px_memstore.proofs.Waits.{at_within, belongs, next, put_next, put_places, put_there, waits}
use Rattle.px_memstore.proofs.merging.replace_all.Goals as goal

pub place_near-end-requires : goal.place_near-end-requires
place_near-end-requires c = subst (λ (l : List CellData). IsAscending (take c.loop-batch.end l)) (sym c.deref.ensures.value) (part_sorted c.loop-batch.cells.items 0 c.loop-batch.end c.loop-batch.invariant.replacing.ascending)

pub replace-requires : goal.replace-requires
replace-requires c = (let f = (c.if-stands_at.ensures.found refl).0 in let e = ap (λ (l : List CellData). length l) c.deref.ensures.value in let n = length-take-le c.loop-batch.end c.loop-batch.cells.items c.loop-batch.invariant.inside in let m = ap (λ (l : List CellData). length (take c.loop-batch.end l)) c.deref.ensures.value in let i = c.loop-batch.invariant.inside in omega (arith, f, m, n, i))

pub loop-batch-preserved-then-stands_at : goal.loop-batch-preserved-then-stands_at
loop-batch-preserved-then-stands_at c =
    let cells = c.loop-batch.cells.items in
    let rest = c.pop.new.self.items in
    let cell = c.in-Some.cell in
    let end = c.loop-batch.end in
    let at = c.place_near-end.result in
    let t = c.loop-batch-test.true in
    let k = c.len.ensures in
    let p = c.in-Some.ensures.len in
    let o = c.pop.new.self.ok.0 in
    let i = c.loop-batch.invariant in
    let ws = reverse c.loop-batch.waiting.cells.items in
    let ps = reverse c.loop-batch.waiting.places.items in
    let b0 = drop c.args.from c.args.batch.now.items in
    let c0 = c.args.cells.now.items in
    let front = drop c.args.from rest in
    let low : c.args.from ≤ length rest = omega (arith, t, k, p, o) in
    let left : drop c.args.from c.loop-batch.batch.items ≡ front ++ cell ∷ [] = ap (drop c.args.from) c.in-Some.ensures.items ∙ drop_within rest (cell ∷ []) c.args.from low in
    let z = subst (λ (l : List CellData). IsReplacing l cells ws b0 c0) left i.replacing in
    let over = subst (λ (l : List CellData). (n : CellData) → Has l n → AllByRecursion (Below n) (drop end cells)) left i.over in
    let lent = c.deref.ensures.value in
    let within = subst (λ (l : List CellData). at ≤ length (take end l)) lent c.place_near-end.ensures.within in
    let below = subst (λ (l : List CellData). AllByRecursion (λ m. Below m cell) (take at (take end l))) lent c.place_near-end.ensures.below in
    let from = subst (λ (l : List CellData). AllByRecursion (λ m. Below m cell → ⊥) (drop at (take end l))) lent c.place_near-end.ensures.from in
    let found = subst (λ (l : List CellData). (at < length (take end l)) × SamePlace (get_or (take end l) at cell) cell) lent (c.if-stands_at.ensures.found refl) in
    let w = (at_within cells end at cell front ws b0 c0 z i.inside over within below from) in
    let put = c.replace.ensures.items in
    record {
      replacing = subst (λ (l : List CellData). IsReplacing front l ws b0 c0) (sym put) (put_there cells end at cell front ws b0 c0 z i.inside over within below from found);
      places = subst (λ (l : List CellData). ArePlaces l 0 ws ps) (sym put) (put_places cells end at cell front ws b0 c0 z i.inside over within below from found ps i.places);
      over = subst (λ (l : List CellData). (n : CellData) → Has front n → AllByRecursion (Below n) (drop at l)) (sym put) (put_next cells end at cell front ws b0 c0 z i.inside over within below from found);
      inside = (let n = length-set cells at cell in let q = ap (λ (l : List CellData). length l) put in omega (arith, n, q, w));
      front = sym (ap (take c.args.from) c.in-Some.ensures.items ∙ take_within rest (cell ∷ []) c.args.from low) ∙ i.front;
      within = omega (arith, low, o);
      len = (let q = c.replace.ensures.len in let r = i.len in omega (arith, q, r));
      waits = (let w = i.waits in omega (arith, p, w));
      both = i.both;
      room = (let q = c.replace.ensures.capacity in let r = i.room in omega (arith, q, r));
      aside = i.aside;
    }

pub loop-batch-preserved : goal.loop-batch-preserved
loop-batch-preserved c =
    let cells = c.loop-batch.cells.items in
    let rest = c.pop.new.self.items in
    let cell = c.in-Some.cell in
    let end = c.loop-batch.end in
    let at = c.place_near-end.result in
    let t = c.loop-batch-test.true in
    let k = c.len.ensures in
    let p = c.in-Some.ensures.len in
    let o = c.pop.new.self.ok.0 in
    let i = c.loop-batch.invariant in
    let ws = reverse c.loop-batch.waiting.cells.items in
    let ps = reverse c.loop-batch.waiting.places.items in
    let b0 = drop c.args.from c.args.batch.now.items in
    let c0 = c.args.cells.now.items in
    let front = drop c.args.from rest in
    let low : c.args.from ≤ length rest = omega (arith, t, k, p, o) in
    let left : drop c.args.from c.loop-batch.batch.items ≡ front ++ cell ∷ [] = ap (drop c.args.from) c.in-Some.ensures.items ∙ drop_within rest (cell ∷ []) c.args.from low in
    let z = subst (λ (l : List CellData). IsReplacing l cells ws b0 c0) left i.replacing in
    let over = subst (λ (l : List CellData). (n : CellData) → Has l n → AllByRecursion (Below n) (drop end cells)) left i.over in
    let lent = c.deref.ensures.value in
    let within = subst (λ (l : List CellData). at ≤ length (take end l)) lent c.place_near-end.ensures.within in
    let below = subst (λ (l : List CellData). AllByRecursion (λ m. Below m cell) (take at (take end l))) lent c.place_near-end.ensures.below in
    let from = subst (λ (l : List CellData). AllByRecursion (λ m. Below m cell → ⊥) (drop at (take end l))) lent c.place_near-end.ensures.from in
    let none = subst (λ (l : List CellData). at < length (take end l) → SamePlace (get_or (take end l) at cell) cell → ⊥) lent (c.if-stands_at.ensures.none refl) in
    let b = belongs cells end at cell front ws b0 c0 z i.inside over within below from in
    let w = at_within cells end at cell front ws b0 c0 z i.inside over within below from in
    let more : reverse c.push.new.self.cells.items ≡ cell ∷ ws = ap reverse c.push.ensures.cells ∙ reverse-append c.loop-batch.waiting.cells.items (cell ∷ []) in
    let place : reverse c.push.new.self.places.items ≡ at ∷ ps = ap reverse c.push.ensures.places ∙ reverse-append c.loop-batch.waiting.places.items (at ∷ []) in
    let n1 = ap (λ (l : List CellData). length l) c.push.ensures.cells in
    let n2 = ap (λ (l : List ℕ). length l) c.push.ensures.places in
    let m1 = length-append c.loop-batch.waiting.cells.items (cell ∷ []) in
    let m2 = length-append c.loop-batch.waiting.places.items (at ∷ []) in
    let o1 = c.push.new.self.cells.ok.0 in
    let o2 = c.push.new.self.places.ok.0 in
    let o3 = c.loop-batch.waiting.cells.ok.0 in
    let o4 = c.loop-batch.waiting.places.ok.0 in
    record {
      replacing = subst (λ (l : List CellData). IsReplacing front cells l b0 c0) (sym more) (waits cells end at cell front ws b0 c0 z i.inside over within below from none);
      places = subst (λ (l : List CellData). ArePlaces cells 0 l (reverse c.push.new.self.places.items)) (sym more) (subst (λ (l : List ℕ). ArePlaces cells 0 (cell ∷ ws) l) (sym place) (b, i.places));
      over = next cells end at cell front ws b0 c0 z i.inside over within below from;
      inside = w;
      front = sym (ap (take c.args.from) c.in-Some.ensures.items ∙ take_within rest (cell ∷ []) c.args.from low) ∙ i.front;
      within = omega (arith, low, o);
      len = i.len;
      waits = (let q = i.waits in omega (arith, p, q, n1, m1, o1, o3));
      both = (let q = i.both in omega (arith, q, n1, n2, m1, m2, o1, o2, o3, o4));
      room = i.room;
      aside = (let q = i.aside in let r = c.push.ensures.room in omega (arith, q, r));
    }
