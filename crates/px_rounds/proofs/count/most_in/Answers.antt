use Rattle.std.proofs.Common.{◌≤◌, List, length, arith, subst}
use Rattle.std.specs.List.{All}
use Rattle.std.proofs.lemmas.List.{take_all}
use Rattle.px_script.specs.declared.script.SessionText.{SessionText}
use Rattle.px_rounds.proofs.Lists.{all_more}
use Rattle.px_rounds.proofs.count.most_in.Goals as goal

pub loop-text-preserved : goal.loop-text-preserved
loop-text-preserved c =
    let at = c.loop-text in
    let i = at.invariant in
    let up = c.greater-most.ensures in
    record {
      least = (let low = i.least in let a = up.0 in omega arith);
      within = all_more (λ (x : SessionText). x.session ≤ at.most) (λ (x : SessionText). x.session ≤ c.greater-most.result) c.args.round.now at.text-index c.text-item.result (λ y low. let a = up.0 in omega arith) c.loop-text-test.true c.text-item.is i.within up.1;
    }

pub returns-clause-within : goal.returns-clause-within
returns-clause-within c =
    let at = c.loop-text in
    let past : length c.args.round.now ≤ at.text-index = (let f = c.loop-text-test.false in omega arith) in
    subst (λ (l : List SessionText). All (λ (x : SessionText). x.session ≤ at.most) l) (take_all at.text-index c.args.round.now past) at.invariant.within
