use Rattle.std.proofs.Common.{◌∙◌, ap, not, true, false}
use Rattle.px_lex.specs.Script.{seen_piece}
use Rattle.px_commands.specs.declared.command.Command.TheVariants as commands
use Rattle.px_item.proofs.Starting.{commanded_so, none_is}
use Rattle.px_item.proofs.reading.commanded.Goals as goal

pub returns-then-is_none : goal.returns-then-is_none
returns-then-is_none c =
    let none = none_is c.args.settings.held (c.is_none.ensures ∙ ap not c.if-is_none.true) in
    commanded_so c.args.settings (seen_piece c.args.piece) c.args.command (commands.Autocommit true) c.switched.result c.args.first c.requires (c.in-Autocommit-true.is ∙ ap commands.Autocommit c.in-Autocommit-true.field-0-test) (none, c.switched.ensures.says) c.switched.ensures.first

pub returns-then-is_none-2 : goal.returns-then-is_none-2
returns-then-is_none-2 c =
    let none = none_is c.args.settings.held (c.is_none-in-Commit.ensures ∙ ap not c.if-is_none-2.true) in
    commanded_so c.args.settings (seen_piece c.args.piece) c.args.command commands.Commit c.none_committed.result c.args.first c.requires c.in-Commit.is (none, c.none_committed.ensures.says) c.none_committed.ensures.first

pub returns-in-Scn : goal.returns-in-Scn
returns-in-Scn c = commanded_so c.args.settings (seen_piece c.args.piece) c.args.command (commands.Scn c.in-Scn.scn) c.read_as_of.result c.args.first c.requires c.in-Scn.is c.read_as_of.ensures.says c.read_as_of.ensures.first

pub returns-in-Autocommit-false : goal.returns-in-Autocommit-false
returns-in-Autocommit-false c =
    let s = c.switched-in-Autocommit-false in
    commanded_so c.args.settings (seen_piece c.args.piece) c.args.command (commands.Autocommit false) s.result c.args.first c.requires (c.in-Autocommit-false.is ∙ ap commands.Autocommit c.in-Autocommit-false.field-0-test) s.ensures.says s.ensures.first
