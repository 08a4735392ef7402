use Rattle.px_keyfilter.proofs.Bits.{tested}
use Rattle.px_keyfilter.proofs.filter.KeyFilter.has.Goals as goal

pub returns : goal.returns
returns c = tested c.self.inside.words.items c.args.self.now c.args.bit c.index-word.result.now c.requires c.self.view_is c.index-word.ensures
