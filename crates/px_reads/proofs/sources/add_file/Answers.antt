use Rattle.std.proofs.Common.{◌≡◌, ℕ, Option, Some, None, List, [], ◌∷◌, ◌++◌, refl, sym, subst, append-nil}
use Rattle.std.specs.Option.{option_copied}
use Rattle.std.proofs.lemmas.Bool.{both_ways}
use Rattle.px_cells.specs.CellData.{CellData}
use Rattle.px_file.specs.Format.{cells_in}
use Rattle.px_keyfilter.specs.Keys.{HasAll}
use Rattle.px_merge.specs.Parts.{ReadsPart}
use Rattle.px_sources.proofs.Sources.{all_quiet}
use Rattle.px_sources.specs.Sources.{AllGive}
use Rattle.px_sources.specs.declared.source.Source.{Source}
use Rattle.px_sources.specs.declared.source.Source.TheVariants.{File}
use Rattle.px_reads.specs.inner.Ends.{IsRangeOf}
use Rattle.px_reads.specs.Range.{IsWithin}
use Rattle.px_reads.proofs.Lists.{give_push}
use Rattle.px_reads.proofs.Rows.{one_part, unread}
use Rattle.px_reads.proofs.sources.add_file.Goals as goal

pub returns-then-not-may_have-clause-give : goal.returns-then-not-may_have-clause-give
returns-then-not-may_have-clause-give g c = λ given list tells has range give. ([], subst (λ (l : List (List CellData)). AllGive g.D.Disk c.args.sources.now.items c.args.disk.now l) (sym (append-nil given)) give, none list has.keys (option_copied c.args.range.only) refl range)
  where
    none : (list : List CellData) → HasAll c.args.read.now.keys list → (only : Option (List ℕ)) → option_copied c.args.range.only ≡ only → IsRangeOf only c.args.range.low.now (option_copied c.args.range.high) → ReadsPart (IsWithin c.args.range.low.now (option_copied c.args.range.high)) list []
    none list keys None is range = absurd (both_ways c.may_have.result c.if-not-may_have.true (c.may_have.ensures.any is))
    none list keys (Some key) is range = unread c.args.read.now.keys key c.args.range.low.now (option_copied c.args.range.high) list keys (λ has. both_ways c.may_have.result c.if-not-may_have.true ((c.may_have.ensures.row key is).1 has)) range.0 range.1

pub returns-clause-give : goal.returns-clause-give
returns-clause-give g c = λ given list tells has range give.
    let begun = c.in_ok-cursor.ensures.begun has.blocks tells has.has in
    let keys = IsWithin c.args.range.low.now (option_copied c.args.range.high) in
    let before = all_quiet g.D.Disk c.args.sources.now.items c.args.disk.now c.begin.new.disk given give c.begin.ensures.quiet c.begin.ensures.seen in
    let after = give_push g.D.Disk c.args.sources.now.items c.begin.new.disk given (File c.in_ok-cursor.cursor) begun.0 before begun.2 begun.1.ascending in
    (begun.0 ∷ [], subst (λ (s : List Source). AllGive g.D.Disk s c.begin.new.disk (given ++ begun.0 ∷ [])) (sym {A = List Source} c.in_ok-add.ensures) after, one_part keys list (cells_in has.blocks) begun.0 has.list_is begun.1.exact)
