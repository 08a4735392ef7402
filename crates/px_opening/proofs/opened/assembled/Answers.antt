use Rattle.std.proofs.Common.{subst, ◌∙◌, rules}
use Rattle.std.specs.List.{All}
use Rattle.px_catalog.specs.Catalogue.{standing_of}
use Rattle.px_schema.specs.declared.standing.Standing.{Standing}
use Rattle.px_folder.specs.Read.{data_at}
use Rattle.px_opening.specs.Definitions.{AreRight}
use Rattle.px_opening.specs.Opened.{IsGroupOf}
use Rattle.px_opening.proofs.Building.{data_all, folder_moved, opened_right}
use Rattle.px_opening.proofs.opened.assembled.Goals as goal

pub returns-in-Ok-clause-opened : goal.returns-in-Ok-clause-opened
returns-in-Ok-clause-opened c =
    let s = standing_of c.args.catalog in
    let rs = c.args.regions.items in
    let right : AreRight c.standing.result.now = search rules in
    let same = c.standing-2.ensures in
    let tables = c.in-Ok.ensures.tables ∙ (λ i. (same i).tables) in
    let groups = subst (λ (x : Standing). All (IsGroupOf (data_at rs) x.indexes) c.in-Ok.groups.items) same (c.in-Ok.ensures.groups (data_at rs) (data_all rs c.requires.once)) in
    opened_right (record { catalog = c.args.catalog; groups = c.in-Ok.groups; others = c.make_groups.new.regions }) rs c.requires.drawn (subst AreRight c.standing.ensures right) c.requires.numbers c.requires.once c.in-Ok.ensures.moved tables groups

pub returns-in-Ok-clause-folder : goal.returns-in-Ok-clause-folder
returns-in-Ok-clause-folder c = folder_moved (record { catalog = c.args.catalog; groups = c.in-Ok.groups; others = c.make_groups.new.regions }) c.args.regions.items c.in-Ok.ensures.moved c.requires.once
