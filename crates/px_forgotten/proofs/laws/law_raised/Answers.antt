use Rattle.px_forgotten.proofs.Raised.{raised_built, raised_folder, raised_right, raised_shown, raised_tallied, raised_told}
use Rattle.px_forgotten.proofs.laws.law_raised.Goals as goal

pub returns : goal.returns
returns c = record {
  right = λ g r h. raised_right g h r;
  tallied = λ b es g hs k e may h is. raised_tallied g h es e is b hs k;
  shown = λ b index es g hs v shown e may h is. raised_shown g h es e is b index hs v shown may;
  told = λ b index es g hs v shown told e may h is. raised_told g h es e is b index hs v shown may told;
  built = λ b index es g hs v shown built e may h is. raised_built g h es e is b index hs v shown may built;
  folder = raised_folder;
}
