use Rattle.px_looks.proofs.IndexKeys.{keys_keyed, keys_once, keys_some}
use Rattle.px_looks.proofs.keys.KeyReaderReader.law.Goals as goal

pub returns-clause-keyed : goal.returns-clause-keyed
returns-clause-keyed c = λ k h f a. keys_keyed c.args.self.now.table.now c.args.self.now.index.now c.args.self.now.point k h f a

pub returns-clause-once : goal.returns-clause-once
returns-clause-once c = λ k h f g a b. keys_once c.args.self.now.table.now c.args.self.now.index.now c.args.self.now.point k h f g a b

pub returns-clause-some : goal.returns-clause-some
returns-clause-some c = λ k h f a. keys_some c.args.self.now.table.now c.args.self.now.index.now c.args.self.now.point k h f a
