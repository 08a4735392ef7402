-- A piece is asked once more only behind a commit that was made.
use Rattle.std.proofs.Common.{ℕ, ◌≡◌, ◌≢◌, Bool, true, false, Option, None, Some, List, sym, ◌∙◌, ap, ⊎_elim}
use Rattle.px_lex.specs.Script.{SeenPiece}
use Rattle.px_commands.specs.declared.command.Command.{Command}
use Rattle.px_commands.specs.declared.command.Command.TheVariants as commands
use Rattle.px_held.specs.HeldData.{HeldData}
use Rattle.px_trail.specs.declared.entry.Act.{Act}
use Rattle.px_calls.specs.Known.{Known}
use Rattle.px_item.specs.declared.answered.After.TheVariants as next_is
use Rattle.px_item.specs.declared.answered.Answered.{Answered}
use Rattle.px_item.specs.declared.answered.Settings.{Settings}
use Rattle.px_item.specs.Right as right
use Rattle.px_item.specs.Right.{IsAtOnce, IsRight, MadeWay, SaysOf, emptied}

differ : (st st' : Settings) → next_is.Next st ≡ next_is.Again st' → ⊥
differ st st' e = cc

same : (st st' : Settings) → next_is.Again st ≡ next_is.Again st' → st ≡ st'
same st st' e = cc

some_is : (o : Option HeldData) (h : HeldData) → o ≡ Some h → o ≢ None
some_is o h e none = cc

module _ (a : Answered) (st' : Settings) (once_more : a.after ≡ next_is.Again st') where
  not_so : (st : Settings) → a.after ≡ next_is.Next st → ⊥
  not_so st e = differ st st' (sym e ∙ once_more)

  not_said : (st : Settings) (c : Command) → SaysOf st c a → ⊥
  not_said st (commands.Scn n) says = not_so (right.with_scn st n) says.3
  not_said st (commands.Autocommit true) says = not_so (right.with_autocommit st true) says.1.3
  not_said st (commands.Autocommit false) says = not_so (right.with_autocommit st false) says.3
  not_said st commands.Commit says = not_so st says.1.3
  not_said st c says = says

  not_at_once : (st : Settings) (p : SeenPiece) → IsAtOnce st p a → ⊥
  not_at_once st p (right.is_long kind long says) = not_so st says.3
  not_at_once st p (right.is_not_read e read says) = not_so st says.3
  not_at_once st p (right.is_not_built x read built says) = not_so st says.3
  not_at_once st p (right.is_under_scn x read may scn says) = not_so st says.3
  not_at_once st p (right.is_wrong_table t fault read whole scn first says) = not_so st says.3
  not_at_once st p (right.is_no_command e read says) = not_so st says.3
  not_at_once st p (right.is_command c read says) = not_said st c says
  not_at_once st p (right.is_lacking says) = not_so st says.3

  made_way : (again : Bool) (st : Settings) (h : HeldData) → st.held ≡ Some h → (n : ℕ) × (a.reply ≡ Rattle.px_reply.specs.declared.reply.Reply.TheVariants.Count n Rattle.px_values.specs.declared.print.CountWord.TheVariants.Affected) → a.after ≡ right.after_commit again (emptied st) → MadeWay st st' a.reply
  made_way true st h held reply after = record { held = some_is st.held h held; none = ap (λ (s : Settings). s.held) (sym (same (emptied st) st' (sym after ∙ once_more))); reply = reply }
  made_way false st h held reply after = absurd (not_so (emptied st) after)

  pub again_only : (sound : Type 0) (k : Known) (before : ℕ) (own : List Act) (st : Settings) (p : SeenPiece) → IsRight sound k before own st p a → MadeWay st st' a.reply
  again_only sound k before own st p (right.is_at_once once none) = absurd (not_at_once st p once)
  again_only sound k before own st p (right.is_unfound x read may lacking says none) = absurd (not_so st says.3)
  again_only sound k before own st p (right.is_closed x call read closed says none) = absurd (not_so st says.3)
  again_only sound k before own st p (right.is_wrong x f fault read may bound first says none) = absurd (not_so st says.3)
  again_only sound k before own st p (right.is_changed u f r read scn on bound fits ended says) = absurd (not_so st says.3)
  again_only sound k before own st p (right.is_not_changed u f fault read scn on bound fits is since left says) = absurd (not_so st says.3)
  again_only sound k before own st p (right.is_held u f s read scn off bound fits holding says none) = absurd (not_so s says.3)
  again_only sound k before own st p (right.is_full u f read scn off bound fits full says none) = absurd (not_so st says.3)
  again_only sound k before own st p (right.is_committed again h rs held asks outcome says) = made_way again st h held (_, says.0) says.3
  again_only sound k before own st p (right.is_not_committed again h fault held asks outcome since stops says) = absurd (not_so (emptied st) says.2)
  again_only sound k before own st p (right.is_counted name s read outcome says none) = absurd (not_so st says.3)
  again_only sound k before own st p (right.is_not_counted name fault read outcome since says none) = absurd (⊎_elim (λ is. not_so st is.3) (λ is. not_so st is.3) says)
  again_only sound k before own st p (right.is_ordered job read outcome says none) = absurd (not_so st says.3)
  again_only sound k before own st p (right.is_not_ordered job fault read outcome since says none) = absurd (not_so st says.3)
  again_only sound k before own st p (right.is_defined x f m e read scn bound fits is none made says) = absurd (not_so st says.3)
  again_only sound k before own st p (right.is_not_defined x f fault e read scn bound fits is why since none says) = absurd (not_so st says.3)
  again_only sound k before own st p (right.is_created t m read one scn fits made says) = absurd (not_so st says.3)
  again_only sound k before own st p (right.is_not_created t fault read one scn fits why since none says) = absurd (not_so st says.3)
  again_only sound k before own st p (right.is_index_built x f e t m c rest read scn bound fits is builds behind built asked says) = absurd (not_so st says.3)
  again_only sound k before own st p (right.is_index_not_built x f e t m rest fault read scn bound fits is builds behind built says) = absurd (⊎_elim (λ is. not_so st is.3) (λ is. not_so st is.3) says)
  again_only sound k before own st p (right.is_index_absent i f read scn bound exists absent says none) = absurd (not_so st says.3)
  again_only sound k before own st p (right.is_selected q f x r read bound asked outcome shows) = absurd (not_so st shows.after)
  again_only sound k before own st p (right.is_not_selected q f x fault read bound asked outcome since says) = absurd (⊎_elim (λ is. not_so st is.3) (λ is. not_so st is.3) says)
  again_only sound k before own st p (right.is_deleted x f m read scn on bound fits h first says) = absurd (not_so st says.2)
  again_only sound k before own st p (right.is_not_deleted x f fault read scn on bound fits h since stops says) = absurd (not_so st says.1)
  again_only sound k before own st p (right.is_not_found x f fault read scn bound fits outcome since says) = absurd (⊎_elim (λ is. not_so st is.3) (λ is. not_so st is.3) says)
  again_only sound k before own st p (right.are_held x f first cs s read scn off bound fits found from holding says) = absurd (not_so s says.3)
  again_only sound k before own st p (right.are_too_many x f first cs read scn off bound fits found from many says) = absurd (not_so st says.3)
  again_only sound k before own st p (right.is_explained q f x read bound planned says none) = absurd (not_so st says.3)
  again_only sound k before own st p (right.is_not_explained q f read bound planned says none) = absurd (not_so st says.3)
