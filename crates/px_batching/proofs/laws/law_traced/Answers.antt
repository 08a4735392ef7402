use Rattle.px_group.specs.declared.group.Phase.TheVariants.{Writing}
use Rattle.px_batching.proofs.Traced.{receipt_ends, traced_closes, traced_ended, traced_gone, traced_idle, traced_marks, traced_of, traced_puts}
use Rattle.px_batching.proofs.laws.law_traced.Goals as goal

pub returns : goal.returns
returns g c = record {
  told = λ p r b es hs k. traced_of b es p hs r k;
  marks = λ p q old new m es r h. traced_marks g.D.Disk p q old new m es r h;
  puts = λ p q old new m es r h. traced_puts g.D.Disk p q old new m es r Writing h;
  closes = λ p q old new m es r h. traced_closes g.D.Disk p q old new m es r h;
  abandoned = λ p q m es r x l. traced_gone es p q m x l r;
  ended = λ p q m es r x l e a. traced_ended es e p q m x l a r;
  others = λ p es r e n. traced_idle es e p n r;
  receipt = λ p q m es r told x e a. receipt_ends p q m es r told x e a;
}
