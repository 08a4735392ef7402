-- A line of a script that is being divided.
use Rattle.std.proofs.Common.{◌≡◌, true, false, ◌++◌, List, ℕ, [], ◌∷◌, map, refl, sym, ◌∙◌, ap, append_assoc, Option, Result, Ok, Err}
use Rattle.std.specs.Prelude.{OnOk}
use Rattle.px_script.specs.declared.script.SessionText.{SessionText}
use Rattle.px_script.specs.Scripts.{Lines, all_texts, is_round_end, present, round_of, rounds_from}
use Rattle.px_script.specs.inner.Dividing.{IsDivided}

ended : (begun : Lines) (line : List ℕ) (left : Lines) → is_round_end line ≡ true → rounds_from begun (line ∷ left) ≡ begun ∷ rounds_from [] left
unfolding rounds_from
ended begun line left is = rw is refl

goes : (begun : Lines) (line : List ℕ) (left : Lines) → is_round_end line ≡ false → rounds_from begun (line ∷ left) ≡ rounds_from (begun ++ line ∷ []) left
unfolding rounds_from
goes begun line left is = rw is refl

pub round-ended : {A E : Type 0} (r : Result A E) (line : List ℕ) (old new : List (List SessionText)) (texts texts' : List (Option (List ℕ))) → is_round_end line ≡ true
    → OnOk r ((new ≡ old ++ present 1 texts ∷ []) × (texts' ≡ all_texts []))
    → OnOk r ((left : Lines) (script : List (List SessionText)) → IsDivided old texts (line ∷ left) script → IsDivided new texts' left script)
round-ended (Ok x) line old new texts texts' is made = λ left script d. record {
  begun = [];
  texts_are = made.1;
  whole = ap (λ l. l ++ map round_of (rounds_from [] left)) made.0
      ∙ (append_assoc old (present 1 texts ∷ []) (map round_of (rounds_from [] left))
      ∙ (ap (λ ts. old ++ present 1 ts ∷ map round_of (rounds_from [] left)) d.texts_are
      ∙ (ap (λ rs. old ++ map round_of rs) (sym (ended d.begun line left is)) ∙ d.whole)));
}
round-ended (Err e) line old new texts texts' is made = tt

pub line-added : {A E : Type 0} (r : Result A E) (line : List ℕ) (old new : List (List SessionText)) (texts texts' : List (Option (List ℕ))) → is_round_end line ≡ false
    → new ≡ old → OnOk r ((begun : Lines) → texts ≡ all_texts begun → texts' ≡ all_texts (begun ++ line ∷ []))
    → OnOk r ((left : Lines) (script : List (List SessionText)) → IsDivided old texts (line ∷ left) script → IsDivided new texts' left script)
line-added (Ok x) line old new texts texts' is same made = λ left script d. record {
  begun = d.begun ++ line ∷ [];
  texts_are = made d.begun d.texts_are;
  whole = ap (λ l. l ++ map round_of (rounds_from (d.begun ++ line ∷ []) left)) same ∙ (ap (λ rs. old ++ map round_of rs) (sym (goes d.begun line left is)) ∙ d.whole);
}
line-added (Err e) line old new texts texts' is same made = tt

-- no line is left
pub divided-whole : (old new : List (List SessionText)) (texts texts' : List (Option (List ℕ))) (script : List (List SessionText)) → IsDivided old texts [] script
    → (new ≡ old ++ present 1 texts ∷ []) × (texts' ≡ all_texts []) → new ≡ script
unfolding rounds_from
divided-whole old new texts texts' script d made = made.0 ∙ (ap (λ ts. old ++ present 1 ts ∷ []) d.texts_are ∙ d.whole)
