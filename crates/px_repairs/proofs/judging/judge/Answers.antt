use Rattle.std.proofs.Common.{rules, ◌≡◌, true, false, ap, sym, ◌∙◌}
use Rattle.px_reading.proofs.Asked.{looked_key, looked_seen, looked_there}
use Rattle.px_reading.proofs.Looked.{looked_then, still_right}
use Rattle.px_repairs.specs.Repairs.{is_doubt}
use Rattle.px_repairs.proofs.Verdicts.{key_seen}
use Rattle.px_repairs.proofs.judging.judge.Goals as goal

pub returns-then-not-is_unverified-clause-judged : goal.returns-then-not-is_unverified-clause-judged
returns-then-not-is_unverified-clause-judged g c =
    let e : c.is_unverified.result ≡ false = search rules in
    λ x at. ap (is_doubt c.args.stamp) (sym (looked_seen c.args.group.now c.version_of_doubt.new.group c.version_of_doubt.ensures.looked c.args.place c.args.key.now c.args.stamp c.in_ok-seen.seen c.in_ok-seen.ensures.seen x at)) ∙ (sym c.is_unverified.ensures ∙ e)

pub row_of_doubt-requires-clause-right : goal.row_of_doubt-requires-clause-right
row_of_doubt-requires-clause-right g c = still_right c.args.group.now c.version_of_doubt.new.group c.version_of_doubt.ensures.looked c.requires.right

pub row_of_doubt-requires-clause-there : goal.row_of_doubt-requires-clause-there
row_of_doubt-requires-clause-there g c = looked_there c.args.group.now c.version_of_doubt.new.group c.version_of_doubt.ensures.looked c.args.place c.requires.there

pub row_of_doubt-requires-clause-key : goal.row_of_doubt-requires-clause-key
row_of_doubt-requires-clause-key g c =
    let e : c.is_unverified.result ≡ true = search rules in
    looked_key c.args.group.now c.version_of_doubt.new.group c.version_of_doubt.ensures.looked c.args.place c.args.key.now
    (λ x at. key_seen c.args.group.now c.requires.right c.args.place x at c.args.key.now c.args.stamp (ap (is_doubt c.args.stamp) (sym (c.in_ok-seen.ensures.seen x at)) ∙ (sym c.is_unverified.ensures ∙ e)))

pub decide-requires-clause-right : goal.decide-requires-clause-right
decide-requires-clause-right g c = still_right c.args.group.now c.row_of_doubt.new.group (looked_then c.args.group.now c.version_of_doubt.new.group c.row_of_doubt.new.group c.version_of_doubt.ensures.looked c.row_of_doubt.ensures.looked) c.requires.right

pub decide-requires-clause-there : goal.decide-requires-clause-there
decide-requires-clause-there g c = looked_there c.args.group.now c.row_of_doubt.new.group (looked_then c.args.group.now c.version_of_doubt.new.group c.row_of_doubt.new.group c.version_of_doubt.ensures.looked c.row_of_doubt.ensures.looked) c.args.place c.requires.there

pub decide-requires-clause-key : goal.decide-requires-clause-key
decide-requires-clause-key g c =
    let e : c.is_unverified.result ≡ true = search rules in
    looked_key c.args.group.now c.row_of_doubt.new.group (looked_then c.args.group.now c.version_of_doubt.new.group c.row_of_doubt.new.group c.version_of_doubt.ensures.looked c.row_of_doubt.ensures.looked) c.args.place c.args.key.now
    (λ x at. key_seen c.args.group.now c.requires.right c.args.place x at c.args.key.now c.args.stamp (ap (is_doubt c.args.stamp) (sym (c.in_ok-seen.ensures.seen x at)) ∙ (sym c.is_unverified.ensures ∙ e)))

pub decide-requires-clause-seen : goal.decide-requires-clause-seen
decide-requires-clause-seen g c = looked_seen c.args.group.now c.row_of_doubt.new.group (looked_then c.args.group.now c.version_of_doubt.new.group c.row_of_doubt.new.group c.version_of_doubt.ensures.looked c.row_of_doubt.ensures.looked) c.args.place c.args.key.now c.args.stamp c.in_ok-seen.seen c.in_ok-seen.ensures.seen
