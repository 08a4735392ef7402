use Rattle.std.proofs.Common.{◌≤◌, List, length, arith, subst}
use Rattle.std.specs.List.{All}
use Rattle.std.proofs.lemmas.List.{take_all}
use Rattle.px_script.specs.declared.script.SessionText.{SessionText}
use Rattle.px_rounds.specs.Rounds.{AreWithin}
use Rattle.px_rounds.proofs.Lists.{all_more}
use Rattle.px_rounds.proofs.count.sessions_in.Goals as goal

pub loop-round-preserved : goal.loop-round-preserved
loop-round-preserved c =
    let at = c.loop-round in
    let more = c.most_in-most.ensures in
    let new = c.most_in-most.result in
    let one = subst (λ (l : List SessionText). All (λ (x : SessionText). x.session ≤ new) l) c.as_slice.ensures more.within in
    all_more (λ (r : List SessionText). All (λ (x : SessionText). x.session ≤ at.most) r) (λ (r : List SessionText). All (λ (x : SessionText). x.session ≤ new) r) c.args.rounds.now at.round-index c.round-item.result
    (λ r h k d l. let a = h k d l in let b = more.least in omega arith) c.loop-round-test.true c.round-item.is at.invariant one

pub returns : goal.returns
returns c =
    let at = c.loop-round in
    let past : length c.args.rounds.now ≤ at.round-index = (let f = c.loop-round-test.false in omega arith) in
    subst (λ (l : List (List SessionText)). AreWithin at.most l) (take_all at.round-index c.args.rounds.now past) at.invariant
