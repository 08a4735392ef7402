use Rattle.std.proofs.Common.{map, take, sym, subst}
use Rattle.std.specs.List.{take-map}
use Rattle.px_lex.specs.declared.kind.Kind.TheVariants as k
use Rattle.px_lex.specs.Lexemes.{seen}
use Rattle.px_words.specs.Tokens.{AreWell}
use Rattle.px_parse.specs.Texts.{IsUpsert}
use Rattle.px_parse.proofs.Telling.{decides_behind_on, decides_itself, decides_behind_other, seen_at, holds, denied}
use Rattle.px_parse.proofs.Well.{AreWell-take}
use Rattle.px_parse.proofs.parsing.deciding.Goals as goal
use Rattle.px_parse.proofs.parsing.deciding.Goals.{else-begins_with-via-then-begins_with+in_ok-is_upsert+else-branch, else-begins_with-via-else-begins_with}

pub is_upsert-requires : goal.is_upsert-requires
is_upsert-requires c = subst AreWell (take-map seen c.args.at c.args.tokens.now) (AreWell-take c.args.at (map seen c.args.tokens.now) c.requires.well)

pub returns-then-branch-clause-decides : goal.returns-then-branch-clause-decides
returns-then-branch-clause-decides c =
    let tokens = c.args.tokens.now in
    let upsert = holds (IsUpsert (map seen (take c.args.at tokens))) c.in_ok-is_upsert.field-0 c.if-branch.true c.in_ok-is_upsert.ensures in
    decides_behind_on (map seen tokens) c.args.at (seen_at tokens c.args.at k.On _ _ c.begins_with.ensures c.if-begins_with.true) (subst IsUpsert (sym (take-map seen c.args.at tokens)) upsert)

pub returns-clause-decides : goal.returns-clause-decides
returns-clause-decides c =
    let tokens = c.args.tokens.now in
    elim c.else-begins_with.branch [
      | else-begins_with-via-then-begins_with+in_ok-is_upsert+else-branch w ↦
          let none = denied (IsUpsert (map seen (take c.args.at tokens))) w.in_ok-is_upsert.field-0 w.if-branch.false w.in_ok-is_upsert.ensures in
          decides_behind_other (map seen tokens) c.args.at (λ u. none (subst IsUpsert (take-map seen c.args.at tokens) u))
      | else-begins_with-via-else-begins_with w ↦
          decides_itself (map seen tokens) c.args.at (seen_at tokens c.args.at k.On _ _ c.begins_with.ensures w.if-begins_with.false)
    ]
