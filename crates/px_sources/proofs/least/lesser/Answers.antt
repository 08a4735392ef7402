use Rattle.std.proofs.Common.{List, sym, subst}
use Rattle.std.specs.Prelude.{Option}
use Rattle.std.specs.Borrow.{Bor}
use Rattle.px_cells.specs.CellData.{CellData}
use Rattle.px_merge.specs.Taking.{IsHead, merge}
use Rattle.px_sources.proofs.Heads.{head_alone, head_equal, head_greater, head_less, head_second}
use Rattle.px_sources.proofs.least.lesser.Goals as goal

pub returns-in_default-None : goal.returns-in_default-None
returns-in_default-None c = λ xs ys a b h g. head_alone xs ys c.args.first a h (subst (λ (o : Option (Bor CellData)). IsHead o ys) c.in_default-None.is-1 g)

pub returns-in-None-Some : goal.returns-in-None-Some
returns-in-None-Some c = λ xs ys a b h g. head_second xs ys c.args.second g (subst (λ (o : Option (Bor CellData)). IsHead o xs) c.in-None-Some.is-0 h)

pub returns-in-Less : goal.returns-in-Less
returns-in-Less c = λ xs ys a b h g.
    subst (λ (o : Option (Bor CellData)). IsHead o (merge xs ys)) (sym c.in-Some-Some.is-0)
    (head_less c.in-Some-Some.a c.in-Some-Some.b xs ys a b (subst (λ (o : Option (Bor CellData)). IsHead o xs) c.in-Some-Some.is-0 h) (subst (λ (o : Option (Bor CellData)). IsHead o ys) c.in-Some-Some.is-1 g) (sym c.in-Less.ensures))

pub returns-in-Equal : goal.returns-in-Equal
returns-in-Equal c = λ xs ys a b h g.
    subst (λ (o : Option (Bor CellData)). IsHead o (merge xs ys)) (sym c.in-Some-Some.is-0)
    (head_equal c.in-Some-Some.a c.in-Some-Some.b xs ys a b (subst (λ (o : Option (Bor CellData)). IsHead o xs) c.in-Some-Some.is-0 h) (subst (λ (o : Option (Bor CellData)). IsHead o ys) c.in-Some-Some.is-1 g) (sym c.in-Equal.ensures))

pub returns-in-Greater : goal.returns-in-Greater
returns-in-Greater c = λ xs ys a b h g.
    subst (λ (o : Option (Bor CellData)). IsHead o (merge xs ys)) (sym c.in-Some-Some.is-1)
    (head_greater c.in-Some-Some.a c.in-Some-Some.b xs ys a b (subst (λ (o : Option (Bor CellData)). IsHead o xs) c.in-Some-Some.is-0 h) (subst (λ (o : Option (Bor CellData)). IsHead o ys) c.in-Some-Some.is-1 g) (sym c.in-Greater.ensures))
