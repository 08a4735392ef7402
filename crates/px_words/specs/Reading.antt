-- What a function that reads ensures: the rule's outcome, unless memory runs out. After a fault the cursor stands at it.
use Rattle.std.specs.Prelude.{◌≡◌, Bool, true, false, List, [], ◌∷◌, ◌++◌, Result, Ok, Err}
use Rattle.px_lex.specs.declared.kind.Kind.{Kind}
use Rattle.px_lex.specs.declared.token.Token.{Token}
use Rattle.px_lex.specs.Lexemes.{Seen, seen}
use Rattle.px_ast.specs.Rule.{sees, Outcome, Got, Stuck, Deep, and_then, Rule, many, word, ◌▹◌}
use Rattle.px_words.specs.declared.fault.ReadFault.{ReadFault}
use Rattle.px_words.specs.declared.fault.ReadFault.TheVariants as faults

abbrev pub Fails : {A : Type 0} → Outcome A → ReadFault → List Seen → Type 0
Fails o faults.Memory new = Unit {0}
Fails o faults.TooDeep new = o ≡ Deep
Fails o faults.Stuck new = o ≡ Stuck new

abbrev pub GivesOutcome : {A : Type 0} → Outcome A → Result A ReadFault → List Seen → Type 0
GivesOutcome o (Ok a) new = o ≡ Got a new
GivesOutcome o (Err e) new = Fails o e new

-- A function that reads a value and puts it behind those of a list gives the rule's outcome so.
abbrev pub Puts : {A : Type 0} → Outcome A → List A → Result (Unit {0}) ReadFault → List A → List Seen → Type 0
Puts {A} o before (Ok _) after new = (a : A) × (after ≡ before ++ a ∷ []) × (o ≡ Got a new)
Puts o before (Err e) after new = Fails o e new

abbrev pub GivesToken : Outcome Seen → Result Token ReadFault → List Seen → Type 0
GivesToken o (Ok t) new = o ≡ Got (seen t) new
GivesToken o (Err e) new = Fails o e new

-- Where the next token is of this kind, it was taken, and else none was.
abbrev pub Takes : Kind → List Seen → Bool → List Seen → Type 0
Takes kind old true new = (sees (kind ∷ []) old ≡ true) × ((word kind).at old ≡ Got tt new)
Takes kind old false new = (sees (kind ∷ []) old ≡ false) × (new ≡ old)

-- what comes of a function that was read, at this argument
abbrev pub applied_to : {A B : Type 0} → Outcome (A → B) → A → Outcome B
applied_to o a = and_then o (λ f rest. Got (f a) rest)

-- what comes of a list with this token between, of which the first was read
abbrev pub behind_first : {A : Type 0} → Kind → Rule A → A → List Seen → Outcome (List A)
behind_first x r a ts = and_then ((many (x ▹ r)).at ts) (λ others end. Got (a ∷ others) end)
