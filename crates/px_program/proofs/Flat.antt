-- What stands among the items of several transcripts.
use Rattle.std.proofs.Common.{◌≡◌, Bool, true, false, ◌||◌, Option, None, Some, List, [], ◌∷◌, ◌++◌, refl, sym, ap, ◌∙◌}
use Rattle.std.proofs.Math.Bool.{or_assoc}
use Rattle.std.specs.List.{flat_map, list_any}
use Rattle.std.specs.Option.{is_some}
use Rattle.std.proofs.lemmas.Bool.{false≢true}
use Rattle.px_reply.specs.declared.transcript.Item.{Item}
use Rattle.px_reply.specs.declared.transcript.Transcript.{Transcript}
use Rattle.px_program.specs.Status.{causes_of, damage_of, first_damage, is_memory, is_statement, items_of, place_or_else, refused_by, some_refused_by}
use Rattle.px_program.specs.declared.causes.Place.{Place}

any_both : {A : Type 0} (p : A → Bool) (xs ys : List A) → list_any p (xs ++ ys) ≡ list_any p xs || list_any p ys
any_both p [] ys = refl
any_both p (x ∷ xs) ys = ap (λ v. p x || v) (any_both p xs ys) ∙ sym (or_assoc (p x) (list_any p xs) (list_any p ys))

pub any_of : (p : Item → Bool) (ts : List Transcript) → list_any (λ t. list_any p t.items) ts ≡ list_any p (items_of ts)
any_of p [] = refl
any_of p (t ∷ ts) = ap (λ v. list_any p t.items || v) (any_of p ts) ∙ sym (any_both p t.items (items_of ts))

or_else-then : (a b c : Option Place) → place_or_else (place_or_else a b) c ≡ place_or_else a (place_or_else b c)
or_else-then None b c = refl
or_else-then (Some p) b c = refl

pub damage_both : (xs ys : List Item) → first_damage (xs ++ ys) ≡ place_or_else (first_damage xs) (first_damage ys)
damage_both [] ys = refl
damage_both (x ∷ xs) ys = ap (λ o. place_or_else (damage_of x.reply) o) (damage_both xs ys) ∙ sym (or_else-then (damage_of x.reply) (first_damage xs) (first_damage ys))

pub damage_next : (t : Transcript) (ts : List Transcript) → first_damage (items_of (t ∷ ts)) ≡ place_or_else (first_damage t.items) (first_damage (items_of ts))
damage_next t ts = damage_both t.items (items_of ts)

pub found_here : (left : List Transcript) (t : Transcript) (ts : List Transcript) (d x : Option Place) → left ≡ t ∷ ts → d ≡ first_damage t.items → true ≡ is_some d → first_damage (items_of left) ≡ x → d ≡ x
found_here left t ts None x is here some told = absurd (false≢true (sym some))
found_here left t ts (Some p) x is here some told = ap (λ o. place_or_else o (first_damage (items_of ts))) here ∙ (sym (damage_next t ts) ∙ (sym (ap (λ l. first_damage (items_of l)) is) ∙ told))

pub passed_here : (left : List Transcript) (t : Transcript) (ts : List Transcript) (d x : Option Place) → left ≡ t ∷ ts → d ≡ first_damage t.items → false ≡ is_some d → first_damage (items_of left) ≡ x → first_damage (items_of ts) ≡ x
passed_here left t ts None x is here some told = ap (λ o. place_or_else o (first_damage (items_of ts))) here ∙ (sym (damage_next t ts) ∙ (sym (ap (λ l. first_damage (items_of l)) is) ∙ told))
passed_here left t ts (Some p) x is here some told = absurd (false≢true some)

pub causes_are : (ts : List Transcript) (d : Option Place) (l r : Bool) → d ≡ first_damage (items_of ts) → l ≡ list_any (λ t. some_refused_by is_memory t.items) ts → r ≡ list_any (λ t. some_refused_by is_statement t.items) ts → record { damaged = d; lacked = l; refused = r } ≡ causes_of (items_of ts)
causes_are ts d l r is lacked refused =
    let a : l ≡ some_refused_by is_memory (items_of ts) = lacked ∙ any_of (λ i. refused_by is_memory i.reply) ts in
    let b : r ≡ some_refused_by is_statement (items_of ts) = refused ∙ any_of (λ i. refused_by is_statement i.reply) ts in
    rw is (rw a (rw b refl))
