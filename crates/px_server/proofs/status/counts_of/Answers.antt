use Rattle.std.proofs.Common.{rules, ◌≡◌, ◌<◌, ◌+◌, ◌∙◌, ◌++◌, ◌∷◌, [], ℕ, true, false, List, length, get_or, map, take, ap, sym}
use Rattle.std.specs.Prelude.{◌==◌}
use Rattle.std.proofs.lemmas.List.Elements.{All-push, All-same}
use Rattle.std.proofs.lemmas.List.{map-append}
use Rattle.px_tables.specs.declared.index.Index.{Index}
use Rattle.px_calls.specs.declared.status.IndexCount.{IndexCount}
use Rattle.px_recovery.specs.Tables.{indexes_of}
use Rattle.px_opening.proofs.Building.{own_passed, own_taken}
use Rattle.px_server.specs.Counts.{CountsKeys, bare, count_as}
use Rattle.px_server.proofs.status.counts_of.Goals.{then-eq+in_ok-count+in_ok-push, else-eq}
use Rattle.px_server.proofs.status.counts_of.Goals as goal

same_number : (a b : ℕ) → a ≡ b → (a == b) ≡ true
same_number a b e = search rules

counted_next : (t : ℕ) (is : List Index) (k : ℕ) (i : Index) (cs : List IndexCount) (c : IndexCount) → k < length is → i ≡ get_or is k i → (i.table.0 == t) ≡ true → bare c ≡ count_as i
    → map bare cs ≡ map count_as (indexes_of t (take k is)) → map bare (cs ++ c ∷ []) ≡ map count_as (indexes_of t (take (k + 1) is))
counted_next t is k i cs c lt same mine c-is e =
    map-append bare cs (c ∷ []) ∙ ((λ j. e j ++ c-is j ∷ []) ∙ sym (ap (map count_as) (own_taken t is k i lt same mine) ∙ map-append count_as (indexes_of t (take k is)) (i ∷ [])))

pub loop-index-preserved : goal.loop-index-preserved
loop-index-preserved c =
    let g = c.args.group.now in
    let v = c.loop-index.invariant in
    let i = c.index-item.result in
    let t = c.args.table.0 in
    let xs : List IndexCount = c.loop-index.counts.items in
    elim c.if-eq.branch [
      | then-eq+in_ok-count+in_ok-push w ↦ rw w.counts-is (let x : IndexCount = w.in_ok-count.count in
          let items : w.push.new.self.items ≡ xs ++ x ∷ [] = search rules in
          let own : i.table.0 ≡ t = search rules in
          record {
            indexes = ap (map bare) items ∙ counted_next t c.args.indexes.now c.loop-index.index-index i xs x c.loop-index-test.true c.index-item.is (same_number i.table.0 t own) w.in_ok-count.ensures.index v.indexes;
            keys = All-same (CountsKeys g) w.push.new.self.items (xs ++ x ∷ []) items (All-push (CountsKeys g) xs x v.keys w.in_ok-count.ensures.keys);
          })
      | else-eq w ↦ rw w.counts-is (
          let other : (i.table.0 == t) ≡ false = search rules in
          record { indexes = v.indexes ∙ sym (ap (map count_as) (own_passed t c.args.indexes.now c.loop-index.index-index i c.loop-index-test.true c.index-item.is other)); keys = v.keys })
    ]

pub returns-clause-keys : goal.returns-clause-keys
returns-clause-keys c =
    let same : c.of.result ≡ c.loop-index.counts.items = search rules in
    All-same (CountsKeys c.args.group.now) c.of.result c.loop-index.counts.items same c.loop-index.invariant.keys
