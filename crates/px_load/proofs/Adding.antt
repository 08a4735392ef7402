-- What is added to a text, and to what is counted of the replies.
use Rattle.std.proofs.Common.{◌≡◌, ℕ, ◌+◌, Bool, true, false, List, [], ◌∷◌, ◌++◌, refl, sym, ◌∙◌, ap, add-one, append_assoc}
use Rattle.std.specs.Prelude.{Option, Some, None, Result, Ok, Err, is_ok, OnOk, if◌then◌else◌}
use Rattle.px_reply.specs.declared.refusal.Refusal.{Refusal}
use Rattle.px_load.specs.declared.script.Load.{Load}
use Rattle.px_load.specs.declared.told.Came.{Came}
use Rattle.px_load.specs.Rows.{behind_rows}
use Rattle.px_load.specs.Script.{put, puts}
use Rattle.px_load.specs.Told.{Answer, HasTold, came_of, lines, more, told_of}

-- one answer more
pub came_more : (answers : List Answer) (answer : Answer) → more (came_of answers) answer ≡ came_of (answers ++ answer ∷ [])
came_more [] answer = refl
came_more (first ∷ []) answer = refl
came_more (first ∷ second ∷ others) answer = refl

-- a text that was added to, where memory was found
pub where_added : {A B : Type 0} (r : Result A B) (old new more : List ℕ) → new ≡ (if is_ok r then old ++ more else old) → OnOk r (new ≡ old ++ more)
where_added (Ok x) old new more e = e
where_added (Err x) old new more e = tt

-- a text of four parts
pub four_parts : (t t1 t2 t3 t4 a b c d : List ℕ) → t1 ≡ t ++ a → t2 ≡ t1 ++ b → t3 ≡ t2 ++ c → t4 ≡ t3 ++ d → t4 ≡ t ++ (((a ++ b) ++ c) ++ d)
four_parts t t1 t2 t3 t4 a b c d e1 e2 e3 e4 = e4 ∙ (ap (λ (s : List ℕ). s ++ d) three ∙ append_assoc t ((a ++ b) ++ c) d)
  where
    two : t2 ≡ t ++ (a ++ b)
    two = e2 ∙ (ap (λ (s : List ℕ). s ++ b) e1 ∙ append_assoc t a b)

    three : t3 ≡ t ++ ((a ++ b) ++ c)
    three = e3 ∙ (ap (λ (s : List ℕ). s ++ c) two ∙ append_assoc t (a ++ b) c)

-- one row more of a script
pub row_added : (t t1 t2 : List ℕ) (count rows number drawn : ℕ) → t1 ≡ t ++ puts count rows number → drawn ≡ behind_rows count number → t2 ≡ t1 ++ put count rows drawn → t2 ≡ t ++ puts (count + 1) rows number
row_added t t1 t2 count rows number drawn e1 at e2 =
    e2 ∙ ((λ i. e1 i ++ put count rows (at i)) ∙ (append_assoc t (puts count rows number) (put count rows (behind_rows count number)) ∙ ap (λ (n : ℕ). t ++ puts n rows number) (sym (add-one count))))

-- where a refusal was told it is all that is told
pub told_first : (load : Load) (refusal : Option Refusal) (came : Came) (found : Bool) (old new : List ℕ) → HasTold refusal found old new → found ≡ true → new ≡ old ++ told_of load refusal came
told_first load None came found old new h is_found = (let isnt = h.0 in cc)
told_first load (Some refusal) came found old new h is_found = h.1

-- and else the lines are
pub told_then : (load : Load) (refusal : Option Refusal) (came : Came) (found : Bool) (old mid new : List ℕ) → HasTold refusal found old mid → found ≡ false → new ≡ mid ++ lines load came → new ≡ old ++ told_of load refusal came
told_then load None came found old mid new h isnt e = e ∙ ap (λ (s : List ℕ). s ++ lines load came) h.1
told_then load (Some refusal) came found old mid new h isnt e = (let is_found = h.0 in cc)
