-- A round with one line more.
use Rattle.std.proofs.Common.{◌≡◌, ◌≢◌, ℕ, zero, suc, true, false, ◌<◌, ◌≤◌, ◌+◌, ◌-◌, ◌==◌, ◌++◌, List, [], ◌∷◌, length, map, set, get_or, refl, sym, ◌∙◌, ap, arith, append_assoc, Option, Some, Result, Ok, Err}
use Rattle.std.proofs.lemmas.Bool.{eq-eqb, ne_eqb}
use Rattle.std.proofs.lemmas.Grind.{flat_map-append}
use Rattle.std.proofs.lemmas.List.{append-nil, map-append}
use Rattle.std.proofs.lemmas.List.Elements.{filter-append}
use Rattle.std.proofs.lemmas.List.FromFn.{get_or-map-range_with_len, length-map-range_with_len}
use Rattle.std.specs.List.{filter, flat_map, range_with_len}
use Rattle.std.specs.Prelude.{OnOk}
use Rattle.px_script.specs.Scripts.{Lines, SeenOwned, all_texts, joined_lines, owned, text_of}
use Rattle.px_script.specs.inner.Dividing.{with_line}

joined-more : (lines : Lines) (line : List ℕ) → joined_lines (lines ++ line ∷ []) ≡ Some (with_line (joined_lines lines) line)
joined-more [] line = ap Some (append-nil line)
joined-more (first ∷ lines) line =
    let more : flat_map (λ l. 10 ∷ l) (lines ++ line ∷ []) ≡ flat_map (λ l. 10 ∷ l) lines ++ (10 ∷ line) = flat_map-append (λ l. 10 ∷ l) lines (line ∷ []) ∙ ap (λ l. flat_map (λ l. 10 ∷ l) lines ++ (10 ∷ l)) (append-nil line) in
    ap (λ l. Some (first ++ l)) more ∙ ap Some (sym (append_assoc first (flat_map (λ l. 10 ∷ l) lines) (10 ∷ line)))

abbrev own : (session : ℕ) → List SeenOwned → Lines
own session os = map (λ o. o.text) (filter (λ o. o.session == session) os)

own-append : (session : ℕ) (os ps : List SeenOwned) → own session (os ++ ps) ≡ own session os ++ own session ps
own-append session os ps = ap (map (λ o. o.text)) (filter-append (λ o. o.session == session) os ps) ∙ map-append (λ o. o.text) (filter (λ o. o.session == session) os) (filter (λ o. o.session == session) ps)

one-own : (session : ℕ) (o : SeenOwned) → (o.session == session) ≡ true → own session (o ∷ []) ≡ o.text ∷ []
one-own session o e = rw e refl

one-other : (session : ℕ) (o : SeenOwned) → (o.session == session) ≡ false → own session (o ∷ []) ≡ []
one-other session o e = rw e refl

text-own : (session : ℕ) (lines : Lines) (line : List ℕ) → ((owned line).session == session) ≡ true → text_of session (lines ++ line ∷ []) ≡ Some (with_line (text_of session lines) (owned line).text)
text-own session lines line e =
    ap (λ os. joined_lines (own session os)) (map-append owned lines (line ∷ []))
    ∙ (ap joined_lines (own-append session (map owned lines) (owned line ∷ []))
    ∙ (ap (λ l. joined_lines (own session (map owned lines) ++ l)) (one-own session (owned line) e)
    ∙ joined-more (own session (map owned lines)) (owned line).text))

text-other : (session : ℕ) (lines : Lines) (line : List ℕ) → ((owned line).session == session) ≡ false → text_of session (lines ++ line ∷ []) ≡ text_of session lines
text-other session lines line e =
    ap (λ os. joined_lines (own session os)) (map-append owned lines (line ∷ []))
    ∙ (ap joined_lines (own-append session (map owned lines) (owned line ∷ []))
    ∙ (ap (λ l. joined_lines (own session (map owned lines) ++ l)) (one-other session (owned line) e)
    ∙ ap joined_lines (append-nil (own session (map owned lines)))))

-- two functions are one but at a place
same-map : {A : Type 0} (f g : ℕ → A) (first count : ℕ) → ((n : ℕ) → first ≤ n → g n ≡ f n) → map g (range_with_len first count) ≡ map f (range_with_len first count)
same-map f g first zero same = refl
same-map f g first (suc count) same = ap (λ x. x ∷ map g (range_with_len (first + 1) count)) (same first (omega arith)) ∙ ap (λ l. f first ∷ l) (same-map f g (first + 1) count (λ n above. same n (omega (arith, above))))

pub set-map : {A : Type 0} (f g : ℕ → A) (first count k : ℕ) → k < count → ((n : ℕ) → n ≢ first + k → g n ≡ f n) → map g (range_with_len first count) ≡ set (map f (range_with_len first count)) k (g (first + k))
set-map f g first zero k within same = absurd (omega (arith, within))
set-map f g first (suc count) zero within same =
    let e : first ≡ first + 0 = omega arith in
    ap (λ l. g first ∷ l) (same-map f g (first + 1) count (λ n above. same n (λ e. omega (arith, e, above)))) ∙ ap (λ n. g n ∷ map f (range_with_len (first + 1) count)) e
set-map f g first (suc count) (suc k) within same =
    let e : (first + 1) + k ≡ first + suc k = omega arith in
    ap (λ x. x ∷ map g (range_with_len (first + 1) count)) (same first (λ e. omega (arith, e)))
    ∙ ap (λ l. f first ∷ l) (set-map f g (first + 1) count k (omega (arith, within)) (λ n other. same n (λ e. other (omega (arith, e)))) ∙ ap (λ n. set (map f (range_with_len (first + 1) count)) k (g n)) e)

-- the texts with one line more
pub texts-more : (begun : Lines) (line : List ℕ) (o : SeenOwned) → o ≡ owned line → (1 ≤ o.session) × (o.session ≤ 32)
    → all_texts (begun ++ line ∷ []) ≡ set (all_texts begun) (o.session - 1) (Some (with_line (text_of o.session begun) o.text))
unfolding all_texts
texts-more begun line o is within =
    let e : 1 + (o.session - 1) ≡ o.session = omega (arith, within.0) in
    let owned-is : (owned line).session ≡ o.session = ap (λ p. p.session) (sym is) in
    let given : text_of o.session (begun ++ line ∷ []) ≡ Some (with_line (text_of o.session begun) o.text) =
    text-own o.session begun line (eq-eqb (owned line).session o.session owned-is) ∙ ap (λ p. Some (with_line (text_of o.session begun) p.text)) (sym is) in
    set-map (λ n. text_of n begun) (λ n. text_of n (begun ++ line ∷ [])) 1 32 (o.session - 1) (omega (arith, within.0, within.1))
    (λ n other. text-other n begun line (ne_eqb (owned line).session n (λ q. other (sym q ∙ (owned-is ∙ sym e)))))
    ∙ ap (set (map (λ n. text_of n begun) (range_with_len 1 32)) (o.session - 1)) (ap (λ n. text_of n (begun ++ line ∷ [])) e ∙ given)

pub length-texts : (begun : Lines) → length (all_texts begun) ≡ 32
unfolding all_texts
length-texts begun = length-map-range_with_len (λ n. text_of n begun) 1 32

text-at : (begun : Lines) (session : ℕ) (d : Option (List ℕ)) → (1 ≤ session) × (session ≤ 32) → get_or (all_texts begun) (session - 1) d ≡ text_of session begun
unfolding all_texts
text-at begun session d within = get_or-map-range_with_len (λ n. text_of n begun) 1 32 (session - 1) session d (omega (arith, within.0, within.1)) (omega (arith, within.0))

-- a slot was given a line
pub texts-added : {A E : Type 0} (r : Result A E) (items : List (Option (List ℕ))) (line : List ℕ) (o : SeenOwned) (d slot new : Option (List ℕ)) → o ≡ owned line → (1 ≤ o.session) × (o.session ≤ 32)
    → slot ≡ get_or items (o.session - 1) d → OnOk r (new ≡ Some (with_line slot o.text))
    → OnOk r ((begun : Lines) → items ≡ all_texts begun → set items (o.session - 1) new ≡ all_texts (begun ++ line ∷ []))
texts-added (Ok x) items line o d slot new is within stood given = λ begun are.
    let text : slot ≡ text_of o.session begun = stood ∙ (ap (λ l. get_or l (o.session - 1) d) are ∙ text-at begun o.session d within) in
    ap (λ l. set l (o.session - 1) new) are ∙ (ap (set (all_texts begun) (o.session - 1)) (given ∙ ap (λ t. Some (with_line t o.text)) text) ∙ sym (texts-more begun line o is within))
texts-added (Err e) items line o d slot new is within stood given = tt
