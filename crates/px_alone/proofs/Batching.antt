-- The batches of a DELETE, whose rows were found before the first of them began.
use Rattle.std.proofs.Common.{ℕ, ◌≡◌, ◌<◌, if◌then◌else◌, true, false, List, [], ◌∷◌, ◌++◌, length, map, refl, sym, ◌∙◌, ap, subst, arith, append_assoc}
use Rattle.std.proofs.lemmas.List.{length-append}
use Rattle.px_values.specs.declared.change.Change.{Change}
use Rattle.px_values.specs.declared.name.TableId.{TableId}
use Rattle.px_trail.specs.Legal.{Follows, IsLegal}
use Rattle.px_trail.specs.Trail.{Base}
use Rattle.px_trail.specs.declared.entry.Act.{Act}
use Rattle.px_trail.specs.declared.entry.Act.TheVariants.{Begun}
use Rattle.px_trail.specs.declared.entry.Entry.{Entry}
use Rattle.px_calls.specs.Known.{Known}
use Rattle.px_calls.specs.declared.ticket.Receipt.{Receipt}
use Rattle.px_batch.specs.Turns.{KeptWithin}
use Rattle.px_batch.proofs.Turning.{within_grows}
use Rattle.px_deleting.specs.Deleting as deleting
use Rattle.px_alone.specs.Alone.{tables_at}
use Rattle.px_alone.specs.Answers.{AreBatchesDone, PassesNoLimit, batches}
use Rattle.px_alone.specs.Tables.{Tables, after}
use Rattle.px_alone.proofs.Calm.{calm-tables, with_horizon}
use Rattle.px_alone.proofs.Limits.{none-whatever, passes-none}
use Rattle.px_alone.proofs.Outcomes.{first-change, stamps_in}
use Rattle.px_alone.proofs.Standing.{acts_of, changes_in, is_change, tables-snoc}

-- 1. What the batches changed

abbrev pub stamps_told : List Receipt → List ℕ
stamps_told rs = map (λ r. r.stamp) rs

pub changes-append : (xs ys : List Act) → changes_in (xs ++ ys) ≡ changes_in xs ++ changes_in ys
changes-append [] ys = refl
changes-append (a ∷ xs) ys = elim (is_change a) as (λ v. (if v then a ∷ changes_in (xs ++ ys) else changes_in (xs ++ ys)) ≡ (if v then a ∷ changes_in xs else changes_in xs) ++ changes_in ys) [ true ↦ ap (λ l. a ∷ l) (changes-append xs ys) | false ↦ changes-append xs ys ]

pub batches-made : (sound : Type 0) (k : Known) (t : TableId) (parts : List (List Change)) (rs : List Receipt) (acts : List Act) → deleting.AreMade sound k t parts rs acts → changes_in acts ≡ batches t parts (stamps_told rs)
batches-made sound k t [] [] acts h = ap changes_in h
batches-made sound k t [] (r ∷ rs) acts h = absurd h
batches-made sound k t (cs ∷ parts) [] acts h = absurd h
batches-made sound k t (cs ∷ parts) (r ∷ rs) acts h =
    ap changes_in h.2 ∙ (changes-append h.0 h.1 ∙ (ap (λ (l : List Act). changes_in l ++ changes_in h.1) h.3.ended.one ∙ ap (λ (l : List Act). Begun t r.stamp cs ∷ l) (batches-made sound k t parts rs h.1 h.4)))

-- as many stamps as parts
pub Paired : List (List Change) → List ℕ → Type 0
Paired [] [] = Unit {0}
Paired (cs ∷ parts) (s ∷ stamps) = Paired parts stamps
Paired parts stamps = ⊥

pub paired-made : (sound : Type 0) (k : Known) (t : TableId) (parts : List (List Change)) (rs : List Receipt) (acts : List Act) → deleting.AreMade sound k t parts rs acts → Paired parts (stamps_told rs)
unfolding Paired
paired-made sound k t [] [] acts h = tt
paired-made sound k t [] (r ∷ rs) acts h = absurd h
paired-made sound k t (cs ∷ parts) [] acts h = absurd h
paired-made sound k t (cs ∷ parts) (r ∷ rs) acts h = paired-made sound k t parts rs h.1 h.4

pub stamps-batches : (t : TableId) (parts : List (List Change)) (stamps : List ℕ) → Paired parts stamps → stamps_in (batches t parts stamps) ≡ stamps
unfolding Paired
stamps-batches t [] [] h = refl
stamps-batches t [] (s ∷ stamps) h = absurd h
stamps-batches t (cs ∷ parts) [] h = absurd h
stamps-batches t (cs ∷ parts) (s ∷ stamps) h = ap (λ l. s ∷ l) (stamps-batches t parts stamps h)

-- each of the batches passed no limit
pub AreKept : Type 0 → Base → List Entry → TableId → List (List Change) → List ℕ → Type 0
AreKept sound b es t [] [] = Unit {0}
AreKept sound b es t (cs ∷ parts) (s ∷ stamps) = KeptWithin sound b es t cs s × AreKept sound b es t parts stamps
AreKept sound b es t parts stamps = ⊥

pub kept-made : (sound : Type 0) (k : Known) (t : TableId) (parts : List (List Change)) (rs : List Receipt) (acts : List Act) → deleting.AreMade sound k t parts rs acts → AreKept sound k.base k.seen t parts (stamps_told rs)
unfolding AreKept
kept-made sound k t [] [] acts h = tt
kept-made sound k t [] (r ∷ rs) acts h = absurd h
kept-made sound k t (cs ∷ parts) [] acts h = absurd h
kept-made sound k t (cs ∷ parts) (r ∷ rs) acts h =
    let m = h.3 in
    (within_grows sound m.past.base k.base m.past.seen k.seen m.was.more t cs r.stamp m.was.seen m.was.base m.ended.kept, kept-made sound k t parts rs h.1 h.4)

-- 2. Each is done behind the one before

done-whatever : (x : Tables) (h : ℕ → ℕ) (t : TableId) (parts : List (List Change)) (stamps : List ℕ) → AreBatchesDone (with_horizon x h) t parts stamps → AreBatchesDone x t parts stamps
done-whatever x h t [] [] d = d
done-whatever x h t [] (s ∷ stamps) d = d
done-whatever x h t (cs ∷ parts) [] d = d
done-whatever x h t (cs ∷ parts) (s ∷ stamps) d = (d.0, none-whatever x h t.0 cs d.1, done-whatever (after x (Begun t s cs)) h t parts stamps d.2)

pub done-all : (sound : Type 0) (is_sound : sound) (b : Base) (pre more : List Entry) (t : TableId) (parts : List (List Change)) (stamps : List ℕ) → IsLegal b (pre ++ more) → AreKept sound b (pre ++ more) t parts stamps → changes_in (acts_of more) ≡ batches t parts stamps → AreBatchesDone (tables_at b pre) t parts stamps
unfolding AreKept Follows
done-all sound is_sound b pre more t [] [] legal w h = tt
done-all sound is_sound b pre more t [] (s ∷ stamps) legal w h = absurd w
done-all sound is_sound b pre more t (cs ∷ parts) [] legal w h = absurd w
done-all sound is_sound b pre more t (cs ∷ parts) (s ∷ stamps) legal w h =
    let z = first-change more (Begun t s cs) (batches t parts stamps) h in
    let x : Tables = tables_at b pre in
    let g : ℕ → ℕ = (tables_at b (pre ++ z.front)).horizon in
    let calm : tables_at b (pre ++ z.front) ≡ with_horizon x g = calm-tables b pre z.front z.calm in
    let cut : pre ++ more ≡ (pre ++ z.front) ++ z.entry ∷ z.rest = ap (λ (m : List Entry). pre ++ m) z.is ∙ sym (append_assoc pre z.front (z.entry ∷ z.rest)) in
    let may = legal.each (pre ++ z.front) z.entry z.rest cut in
    let f : Follows b (pre ++ z.front) z.entry.seat z.entry.calls (Begun t s cs) = subst (Follows b (pre ++ z.front) z.entry.seat z.entry.calls) z.act_is may.follows in
    let low : x.last t.0 < s = subst (λ (y : Tables). y.last t.0 < s) calm f.0 in
    let none : PassesNoLimit x t.0 cs = passes-none sound is_sound b pre more t cs s z.front z.rest z.entry legal cut z.act_is z.calm w.0 in
    let pre' : List Entry = (pre ++ z.front) ++ z.entry ∷ [] in
    let whole : pre ++ more ≡ pre' ++ z.rest = cut ∙ sym (append_assoc (pre ++ z.front) (z.entry ∷ []) z.rest) in
    let stands : tables_at b pre' ≡ with_horizon (after x (Begun t s cs)) g =
    tables-snoc b (pre ++ z.front) z.entry ∙ (ap (λ (a : Act). after (tables_at b (pre ++ z.front)) a) z.act_is ∙ ap (λ (y : Tables). after y (Begun t s cs)) calm) in
    let rest : AreBatchesDone (tables_at b pre') t parts stamps =
    done-all sound is_sound b pre' z.rest t parts stamps (subst (λ (l : List Entry). IsLegal b l) whole legal) (subst (λ (l : List Entry). AreKept sound b l t parts stamps) whole w.1) z.behind in
    (low, none, done-whatever (after x (Begun t s cs)) g t parts stamps (subst (λ (y : Tables). AreBatchesDone y t parts stamps) stands rest))

-- 3. What was done before the batches

same_back : (xs ys zs : List Act) → xs ++ zs ≡ ys ++ zs → length xs ≡ length ys → xs ≡ ys
same_back [] [] zs h n = refl
same_back [] (y ∷ ys) zs h n = absurd (omega arith)
same_back (x ∷ xs) [] zs h n = absurd (omega arith)
same_back (x ∷ xs) (y ∷ ys) zs h n = (let e : x ≡ y = cc in let r : xs ++ zs ≡ ys ++ zs = cc in ap (λ (a : Act). a ∷ xs) e ∙ ap (λ (l : List Act). y ∷ l) (same_back xs ys zs r (omega arith)))

pub same-front : (xs ys zs : List Act) → xs ++ zs ≡ ys ++ zs → xs ≡ ys
same-front xs ys zs h = same_back xs ys zs h (let n = ap length h in omega (arith, length-append xs zs, length-append ys zs))
