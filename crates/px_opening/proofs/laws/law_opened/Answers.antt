use Rattle.px_opening.specs.Opened.{folder_in}
use Rattle.px_opening.proofs.Groups.{all_opened, all_right, all_shown, all_tallied, opened_agrees, right_base, shown_explains, shown_of}
use Rattle.px_opening.proofs.laws.law_opened.Goals as goal

pub returns : goal.returns
returns c = record {
  right = λ o r. all_right o r;
  base = λ o r. right_base o r;
  agrees = λ o r. opened_agrees o r;
  tallied = λ o r. all_tallied o r;
  shown = λ o r sound. (shown_of (folder_in o), shown_explains (folder_in o) sound, all_shown o r sound, all_opened o r);
}
