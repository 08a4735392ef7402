-- From what reading tokens gives to what a parser of texts answers.
use Rattle.std.proofs.Common.{◌≡◌, ℕ, zero, suc, ◌+◌, ◌-◌, ◌<◌, Bool, true, false, List, [], ◌∷◌, ◌++◌, length, take, drop, map, Option, Some, None, Result, Ok, Err, refl, sym, ap, ◌∙◌, subst, append_assoc, arith, inl, inr}
use Rattle.std.specs.List.{drop-map}
use Rattle.std.proofs.lemmas.List.{append-nil, take_at, drop_at, take-append-drop, length-drop}
use Rattle.px_lex.specs.declared.kind.Kind.{Kind}
use Rattle.px_lex.specs.declared.kind.Kind.TheVariants as k
use Rattle.px_lex.specs.declared.token.LexFault.{LexFault}
use Rattle.px_lex.specs.declared.token.Token.{Token}
use Rattle.px_lex.specs.Lexemes.{Seen, seen}
use Rattle.px_ast.specs.declared.statement.Statement.{Statement}
use Rattle.px_ast.specs.Statements.{ReadsWithin, ReadsStatement, depth_limit}
use Rattle.px_parse.specs.declared.syntax.SyntaxFault.{SyntaxFault}
use Rattle.px_parse.specs.declared.syntax.SyntaxFault.TheVariants as faults
use Rattle.px_statements.specs.Parsed.{BeginsOne, NoneGoesOn, IsFirstUnexpected}
use Rattle.px_parse.specs.Texts.{NoneContinues, StopsAt, begins_with, IsUpsert, Decides, true_token, IsOperandName, IsFunction, IsRefusedText, IsTextParse, IsAnswered}
use Rattle.px_parse.specs.inner.Telling.{Tests, TellsFirst, IsRefusedAt, IsAllowed}
use Rattle.px_parse.specs.Nullness.{forbids_null_outside_key}

-- ---- where no statement continues

weaker : (fault : LexFault) (front rest : List Seen) → NoneGoesOn front rest → NoneContinues (Some fault) front rest
weaker fault front [] h = tt
weaker fault front (t ∷ rest) h = h

pub stops_whole : (tokens : List Seen) (at : ℕ) → IsFirstUnexpected tokens at → StopsAt None tokens at
stops_whole tokens at h = record { within = h.within; before = h.before; none = h.none }

pub stops_short : (fault : LexFault) (tokens : List Seen) (at : ℕ) → IsFirstUnexpected tokens at → StopsAt (Some fault) tokens at
stops_short fault tokens at h = record { within = h.within; before = h.before; none = weaker fault (take at tokens) (drop at tokens) h.none }

pub reads_begin : (tokens : List Seen) (s : Statement) → ReadsStatement tokens s → BeginsOne tokens
reads_begin tokens s h = ([], s, (h.0, subst (λ (x : List Seen). ReadsWithin h.0 x s) (sym (append-nil tokens)) h.1))

take_whole : (tokens : List Seen) → take (length tokens) tokens ≡ tokens
take_whole tokens = ap (take (length tokens)) (sym (append-nil tokens)) ∙ take_at tokens [] (length tokens) refl

drop_whole : (tokens : List Seen) → drop (length tokens) tokens ≡ []
drop_whole tokens = ap (drop (length tokens)) (sym (append-nil tokens)) ∙ drop_at tokens [] (length tokens) refl

-- all of them begin a statement, and behind them a fault of the lexer stands
pub refused_at_fault : (fault : LexFault) (tokens : List Seen) (end : ℕ) → BeginsOne tokens → IsRefusedText (Some fault) tokens end (faults.Unexpected end)
refused_at_fault fault tokens end begun =
    let over = drop_whole tokens in (
      length tokens,
      record {
        at = length tokens;
        stops = record { within = omega arith; before = subst BeginsOne (sym (take_whole tokens)) begun; none = rw over tt };
        plain = λ f. no_function tokens (length tokens) over f;
        decides = inr (λ u. let x : false ≡ true = ap (λ (ts : List Seen). begins_with ts k.On) (sym over) ∙ u.0 in cc, refl);
      },
      rw over refl,
      rw over refl,
    )
  where
    no_function : (tokens : List Seen) (at : ℕ) → drop at tokens ≡ [] → IsFunction tokens at → ⊥
    no_function tokens zero over f = f
    no_function tokens (suc before) over f = let x : false ≡ true = ap (λ (ts : List Seen). begins_with ts k.OpenParen) (sym over) ∙ f.0 in cc

pub refused_text : (fault : Option LexFault) (tokens : List Seen) (end at : ℕ) (e : SyntaxFault) → StopsAt fault tokens at → IsRefusedAt tokens at end e → IsRefusedText fault tokens end e
refused_text fault tokens end at faults.Memory stops h = tt
refused_text fault tokens end at faults.TooDeep stops h = absurd h
refused_text fault tokens end at (faults.LeftOut name) stops (inl h) = inr (inl (at, stops, h.0, h.1))
refused_text fault tokens end at (faults.LeftOut name) stops (inr h) = inl (h.1.0, record { at = at; stops = stops; plain = h.0; decides = h.1.1 }, h.1.2)
refused_text fault tokens end at (faults.Unexpected place) stops h = (h.1.0, record { at = at; stops = stops; plain = h.0; decides = h.1.1 }, h.1.2, h.1.3)

-- ---- what may stand behind tokens

none_behind : (tokens more : List Seen) (s : Statement) (front rest : List Seen) → tokens ≡ front ++ rest → 0 < length rest → NoneGoesOn front rest → ReadsStatement (tokens ++ more) s → ⊥
none_behind tokens more s front [] whole some none h = absurd (omega arith)
none_behind tokens more s front (t ∷ rest) whole some none h =
    let same : tokens ++ more ≡ (front ++ t ∷ []) ++ (rest ++ more) =
    ap (λ (x : List Seen). x ++ more) whole ∙ append_assoc front (t ∷ rest) more ∙ sym (append_assoc front (t ∷ []) (rest ++ more)) in
    none (rest ++ more, s, (h.0, subst (λ (x : List Seen). ReadsWithin h.0 x s) same h.1))

-- where a fault stands before the end, no statement begins with them all
pub fault_begins_none : (tokens : List Seen) (at : ℕ) → IsFirstUnexpected tokens at → at < length tokens → BeginsOne tokens → ⊥
fault_begins_none tokens at h inside begun =
    let whole : tokens ≡ take at tokens ++ drop at tokens = sym (take-append-drop at tokens) in
    let some : 0 < length (drop at tokens) = omega (arith, length-drop at tokens) in
    none_behind tokens begun.0 begun.1 (take at tokens) (drop at tokens) whole some h.none begun.2

-- where it stands at the end, one does
pub fault_begins_one : (tokens : List Seen) (at : ℕ) → IsFirstUnexpected tokens at → at ≡ length tokens → BeginsOne tokens
fault_begins_one tokens at h e = subst BeginsOne (ap (λ (n : ℕ). take n tokens) e ∙ take_whole tokens) h.before

-- ---- functions

pub not_at_start : (tokens : List Seen) (at : ℕ) → at ≡ 0 → IsFunction tokens at → ⊥
not_at_start tokens zero e f = f
not_at_start tokens (suc before) e f = absurd (omega arith)

pub not_without_paren : (tokens : List Seen) (at : ℕ) → begins_with (drop at tokens) k.OpenParen ≡ false → IsFunction tokens at → ⊥
not_without_paren tokens zero e f = f
not_without_paren tokens (suc before) e f = let x : false ≡ true = sym e ∙ f.0 in cc

pub function_if : (tokens : List Seen) (at before : ℕ) (r : Result Bool SyntaxFault) → at ≡ suc before → begins_with (drop at tokens) k.OpenParen ≡ true → Tests (IsOperandName tokens before) r → Tests (IsFunction tokens at) r
function_if tokens at before r n paren h = by_result r (subst (λ (i : ℕ). begins_with (drop i tokens) k.OpenParen ≡ true) n paren) h
  where
    by_result : (r : Result Bool SyntaxFault) → begins_with (drop (suc before) tokens) k.OpenParen ≡ true → Tests (IsOperandName tokens before) r → Tests (IsFunction tokens at) r
    by_result (Ok true) p h = subst (IsFunction tokens) (sym n) (p, h)
    by_result (Ok false) p h = λ f. h (subst (IsFunction tokens) n f).1
    by_result (Err e) p h = h

pub operand_if : (tokens : List Seen) (at : ℕ) (r : Result Bool SyntaxFault) → begins_with (drop at tokens) k.Name ≡ true → Tests (BeginsOne (take at tokens ++ true_token ∷ [])) r → Tests (IsOperandName tokens at) r
operand_if tokens at (Ok true) name h = (name, h)
operand_if tokens at (Ok false) name h = λ f. h f.1
operand_if tokens at (Err e) name h = h

pub no_operand : (tokens : List Seen) (at : ℕ) → begins_with (drop at tokens) k.Name ≡ false → IsOperandName tokens at → ⊥
no_operand tokens at e f = let x : false ≡ true = sym e ∙ f.0 in cc

pub holds : (P : Type 0) (b : Bool) → b ≡ true → Tests P (Ok b) → P
holds P b e h = subst (λ (x : Bool). Tests P (Ok x)) e h

pub denied : (P : Type 0) (b : Bool) → b ≡ false → Tests P (Ok b) → P → ⊥
denied P b e h = subst (λ (x : Bool). Tests P (Ok x)) e h

-- what is seen of the tokens from a place on
rest_is : {A : Type 0} (n : ℕ) (xs : List A) → take (length xs - n) (drop n xs) ≡ drop n xs
rest_is n xs =
    ap (λ (m : ℕ). take m (drop n xs)) (sym (length-drop n xs)) ∙ ap (take (length (drop n xs))) (sym (append-nil (drop n xs))) ∙ take_at (drop n xs) [] (length (drop n xs)) refl

pub seen_rest : (tokens : List Token) (at : ℕ) → drop at (map seen tokens) ≡ map seen (take (length tokens - at) (drop at tokens))
seen_rest tokens at = drop-map seen at tokens ∙ ap (map seen) (sym (rest_is at tokens))

pub seen_at : (tokens : List Token) (at : ℕ) (kind : Kind) (result b : Bool) → result ≡ begins_with (map seen (take (length tokens - at) (drop at tokens))) kind → result ≡ b → begins_with (drop at (map seen tokens)) kind ≡ b
seen_at tokens at kind result b e h = ap (λ (ts : List Seen). begins_with ts kind) (seen_rest tokens at) ∙ sym e ∙ h

-- ---- the token that decides

pub decides_behind_on : (tokens : List Seen) (at : ℕ) → begins_with (drop at tokens) k.On ≡ true → IsUpsert (take at tokens) → Decides tokens at (at + 1)
decides_behind_on tokens at on u = inl ((on, u), refl)

pub decides_itself : (tokens : List Seen) (at : ℕ) → begins_with (drop at tokens) k.On ≡ false → Decides tokens at at
decides_itself tokens at on = inr (λ u. let x : false ≡ true = sym on ∙ u.0 in cc, refl)

pub decides_behind_other : (tokens : List Seen) (at : ℕ) → (IsUpsert (take at tokens) → ⊥) → Decides tokens at at
decides_behind_other tokens at none = inr (λ u. none u.1, refl)

-- a token stands where one is seen
pub sees_some : (ts : List Seen) (kind : Kind) → begins_with ts kind ≡ true → 0 < length ts
sees_some [] kind h = absurd cc
sees_some (t ∷ ts) kind h = omega arith

-- the deciding token tells the refusal
pub told : (tokens : List Seen) (at j end : ℕ) (e : SyntaxFault) → (IsFunction tokens at → ⊥) → Decides tokens at j → TellsFirst (drop j tokens) end e → IsRefusedAt tokens at end e
told tokens at j end (faults.Unexpected place) plain decides h = (plain, (j, decides, h.0, h.1))
told tokens at j end (faults.LeftOut name) plain decides h = inr (plain, (j, decides, h))
told tokens at j end faults.TooDeep plain decides h = absurd h
told tokens at j end faults.Memory plain decides h = absurd h

-- ---- statements

pub allowed_text : (tokens : List Seen) (end : ℕ) (read : Statement) (r : Result Statement SyntaxFault) → ReadsWithin depth_limit tokens read → IsAllowed read r → IsTextParse None tokens end r
allowed_text tokens end read (Ok s) reads h =
    (refl, subst (ReadsWithin depth_limit tokens) (sym h.0) reads, ap forbids_null_outside_key h.0 ∙ h.1)
allowed_text tokens end read (Err (faults.LeftOut name)) reads h = inr (inr (read, refl, reads, h.0, h.1))
allowed_text tokens end read (Err (faults.Unexpected place)) reads h = absurd h
allowed_text tokens end read (Err faults.TooDeep) reads h = absurd h
allowed_text tokens end read (Err faults.Memory) reads h = tt

pub allowed_given : (s read : Statement) (r : Result Statement SyntaxFault) → read ≡ s → forbids_null_outside_key s ≡ false → IsAllowed read r → IsAnswered s r
allowed_given s read (Ok given) e free h = h.0 ∙ e
allowed_given s read (Err (faults.LeftOut name)) e free h = absurd (let x : true ≡ false = sym h.0 ∙ ap forbids_null_outside_key e ∙ free in cc)
allowed_given s read (Err (faults.Unexpected place)) e free h = absurd h
allowed_given s read (Err faults.TooDeep) e free h = absurd h
allowed_given s read (Err faults.Memory) e free h = refl
