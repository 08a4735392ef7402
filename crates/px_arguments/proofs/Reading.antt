-- Words are read as the command that they spell, and only as that.
use Rattle.std.proofs.Common.{ℕ, zero, suc, min, inl, inr, ◌&&◌, ◌≡◌, ◌≢◌, ◌<◌, ◌≤◌, ◌-◌, ◌↔◌, if◌then◌else◌, ◌==◌, ◌||◌, not, Bool, true, false, Option, None, Some, List, [], ◌∷◌, ◌++◌, codes, length, take, get_or, refl, sym, ◌∙◌, ap, subst, arith, length-take, append_assoc}
use Rattle.std.specs.Option.{is_some, option_and_then, option_map}
use Rattle.std.specs.List.{AllByRecursion, before_first, after_first, position_or_len}
use Rattle.std.specs.Prelude.{nat_le, nat_lt, ◌^◌}
use Rattle.std.specs.Str.{all_ascii_digits, bytes_eq}
use Rattle.std.specs.Str.Parse.{digits_value}
use Rattle.std.proofs.lemmas.Bool.{false≢true, eqb-false, eqb-true, le-leb, leb-true, ltb-true}
use Rattle.std.proofs.lemmas.Option.{option_and_then_some}
use Rattle.std.proofs.lemmas.List.{append-nil, take_all}
use Rattle.std.proofs.lemmas.List.Sums.{split_at_first, passes_at_first}
use Rattle.std.proofs.lemmas.Slice.Eq.{bytes_eq-Decides}
use Rattle.px_verifying.specs.declared.answer.VerifyKind.{VerifyKind}
use Rattle.px_verifying.specs.declared.answer.VerifyKind.TheVariants as kind
use Rattle.px_arguments.specs.declared.said.Part.{Part}
use Rattle.px_arguments.specs.declared.said.Part.TheVariants as part
use Rattle.px_arguments.specs.Arguments.{SeenCommand, Run, Verify, Load, SeenSaid, begin, command_in, command_of, give, give_option, has_loaded, has_run, has_verified, is_equals, is_plain, kind_named, load, load_of, lookback_in, lookback_named, nothing, number_named, option_named, rows_named, run_of, said_from, schedule_in, session_among, session_named, sessions_from, sessions_named, some_lookback, some_rows, some_session, take_awaited, take_word, usual_lookback, value_in, verify_of, with_value}
use Rattle.px_arguments.proofs.Lists.{digits_pass}
use Rattle.px_arguments.proofs.Numbers.{named, numerals}
use Rattle.px_arguments.specs.Spelled.{AreSessions, Asks, GivenPart, GivesSchedule, HasNoLoad, HasNoRun, HasNoVerify, IsGiven, IsNumber, IsSchedule, IsSession, IsSpelled, KeepsVersions, is_apart, is_folder, is_joined, is_same, kind_word, option_word, values_given, with_commas, words_of}

-- 1. Words

same_bytes : (w : List ℕ) → bytes_eq w w ≡ true
same_bytes w = (bytes_eq-Decides w w).1 refl

from_bytes : (w x : List ℕ) → bytes_eq w x ≡ true → w ≡ x
from_bytes w x h = (bytes_eq-Decides w x).0 h

none_some : {A : Type 0} (x : A) → None ≡ Some x → ⊥
none_some x h = cc

some_is : {A : Type 0} (x y : A) → Some x ≡ Some y → x ≡ y
some_is x y h = cc

named_as : (w : List ℕ) (p q : Part) (name : List ℕ) → option_word q ≡ Some name → w ≡ name → Some q ≡ Some p → option_word p ≡ Some w
named_as w p q name word is same = subst (λ (x : Part). option_word x ≡ Some w) (some_is q p same) (word ∙ ap Some (sym is))

named_by : (w : List ℕ) (p : Part) (a b c d e f k : Bool) → bytes_eq w (codes "--table") ≡ a → bytes_eq w (codes "--index") ≡ b → bytes_eq w (codes "--kind") ≡ c → bytes_eq w (codes "--number") ≡ d → bytes_eq w (codes "--rows") ≡ e → bytes_eq w (codes "--lookback") ≡ f → bytes_eq w (codes "--schedule") ≡ k
    → (if a then Some part.Table else (if b then Some part.Index else (if c then Some part.Kind else (if d then Some part.Number else (if e then Some part.Rows else (if f then Some part.Lookback else (if k then Some part.Schedule else None))))))) ≡ Some p → option_word p ≡ Some w
named_by w p true b c d e f k ha hb hc hd he hf hk is = named_as w p part.Table (codes "--table") refl (from_bytes w (codes "--table") ha) is
named_by w p false true c d e f k ha hb hc hd he hf hk is = named_as w p part.Index (codes "--index") refl (from_bytes w (codes "--index") hb) is
named_by w p false false true d e f k ha hb hc hd he hf hk is = named_as w p part.Kind (codes "--kind") refl (from_bytes w (codes "--kind") hc) is
named_by w p false false false true e f k ha hb hc hd he hf hk is = named_as w p part.Number (codes "--number") refl (from_bytes w (codes "--number") hd) is
named_by w p false false false false true f k ha hb hc hd he hf hk is = named_as w p part.Rows (codes "--rows") refl (from_bytes w (codes "--rows") he) is
named_by w p false false false false false true k ha hb hc hd he hf hk is = named_as w p part.Lookback (codes "--lookback") refl (from_bytes w (codes "--lookback") hf) is
named_by w p false false false false false false true ha hb hc hd he hf hk is = named_as w p part.Schedule (codes "--schedule") refl (from_bytes w (codes "--schedule") hk) is
named_by w p false false false false false false false ha hb hc hd he hf hk is = absurd (none_some p is)

-- a word that names an option is its word
word_is : (w : List ℕ) (p : Part) → option_named w ≡ Some p → option_word p ≡ Some w
word_is w p h = named_by w p (bytes_eq w (codes "--table")) (bytes_eq w (codes "--index")) (bytes_eq w (codes "--kind")) (bytes_eq w (codes "--number")) (bytes_eq w (codes "--rows")) (bytes_eq w (codes "--lookback")) (bytes_eq w (codes "--schedule")) refl refl refl refl refl refl refl h

-- an option's word names it, alone and in front of `=`
pub record IsOption (p : Part) (name : List ℕ) : Type 0 where
  pub alone : option_named (before_first is_equals name) ≡ Some p
  pub alone_whole : (length (before_first is_equals name) == length name) ≡ true
  pub joined : (value : List ℕ) → option_named (before_first is_equals (name ++ codes "=" ++ value)) ≡ Some p
  pub joined_part : (value : List ℕ) → (length (before_first is_equals (name ++ codes "=" ++ value)) == length (name ++ codes "=" ++ value)) ≡ false
  pub joined_value : (value : List ℕ) → after_first is_equals (name ++ codes "=" ++ value) ≡ value

unequal : (m n : ℕ) (b : Bool) → (m == n) ≡ b → m ≢ n → b ≡ false
unequal m n true h other = absurd (other (eqb-true m n h))
unequal m n false h other = refl

option_is : (p : Part) (name : List ℕ) → option_word p ≡ Some name → IsOption p name
option_is part.Folder name h = absurd (none_some name h)
option_is part.Table name h = subst (IsOption part.Table) (some_is (codes "--table") name h) (record { alone = refl; alone_whole = refl; joined = λ value. refl; joined_part = λ value. unequal 7 (length (codes "--table" ++ codes "=" ++ value)) _ refl (omega arith); joined_value = λ value. refl })
option_is part.Index name h = subst (IsOption part.Index) (some_is (codes "--index") name h) (record { alone = refl; alone_whole = refl; joined = λ value. refl; joined_part = λ value. unequal 7 (length (codes "--index" ++ codes "=" ++ value)) _ refl (omega arith); joined_value = λ value. refl })
option_is part.Kind name h = subst (IsOption part.Kind) (some_is (codes "--kind") name h) (record { alone = refl; alone_whole = refl; joined = λ value. refl; joined_part = λ value. unequal 6 (length (codes "--kind" ++ codes "=" ++ value)) _ refl (omega arith); joined_value = λ value. refl })
option_is part.Number name h = subst (IsOption part.Number) (some_is (codes "--number") name h) (record { alone = refl; alone_whole = refl; joined = λ value. refl; joined_part = λ value. unequal 8 (length (codes "--number" ++ codes "=" ++ value)) _ refl (omega arith); joined_value = λ value. refl })
option_is part.Rows name h = subst (IsOption part.Rows) (some_is (codes "--rows") name h) (record { alone = refl; alone_whole = refl; joined = λ value. refl; joined_part = λ value. unequal 6 (length (codes "--rows" ++ codes "=" ++ value)) _ refl (omega arith); joined_value = λ value. refl })
option_is part.Lookback name h = subst (IsOption part.Lookback) (some_is (codes "--lookback") name h) (record { alone = refl; alone_whole = refl; joined = λ value. refl; joined_part = λ value. unequal 10 (length (codes "--lookback" ++ codes "=" ++ value)) _ refl (omega arith); joined_value = λ value. refl })
option_is part.Schedule name h = subst (IsOption part.Schedule) (some_is (codes "--schedule") name h) (record { alone = refl; alone_whole = refl; joined = λ value. refl; joined_part = λ value. unequal 10 (length (codes "--schedule" ++ codes "=" ++ value)) _ refl (omega arith); joined_value = λ value. refl })

untrue : (b : Bool) → not b ≡ true → b ≡ false
untrue true h = absurd (false≢true h)
untrue false h = refl

other_named : (x : ℕ) (l : List ℕ) → (x == 45) ≡ false → option_named (x ∷ l) ≡ None
other_named x l e = ap (λ b. if b && bytes_eq l (codes "-table") then Some part.Table else (if b && bytes_eq l (codes "-index") then Some part.Index else (if b && bytes_eq l (codes "-kind") then Some part.Kind else (if b && bytes_eq l (codes "-number") then Some part.Number else (if b && bytes_eq l (codes "-rows") then Some part.Rows else (if b && bytes_eq l (codes "-lookback") then Some part.Lookback else (if b && bytes_eq l (codes "-schedule") then Some part.Schedule else None))))))) e

front_named : (n x : ℕ) (l : List ℕ) → (x == 45) ≡ false → option_named (take n (x ∷ l)) ≡ None
front_named zero x l e = refl
front_named (suc n) x l e = other_named x (take n l) e

-- a word that doesn't begin with `-` names no option
not_named : (w : List ℕ) → is_plain w ≡ true → option_named (before_first is_equals w) ≡ None
not_named [] h = refl
not_named (first ∷ rest) h = front_named (position_or_len is_equals (first ∷ rest)) first rest (untrue (first == 45) h)

with_sign : (xs ys : List ℕ) → xs ++ (61 ∷ ys) ≡ xs ++ codes "=" ++ ys
with_sign xs ys = sym (append_assoc xs (codes "=") ys)

-- a word is what stands before its first `=`, and what stands behind it
cut : (w : List ℕ) → (length (before_first is_equals w) == length w) ≡ false → w ≡ before_first is_equals w ++ codes "=" ++ after_first is_equals w
cut w h =
    let n = position_or_len is_equals w in
    let other : length (before_first is_equals w) ≢ length w = eqb-false (length (before_first is_equals w)) (length w) h in
    let size : length (take n w) ≡ min n (length w) = length-take n w in
    let low : n < length w = omega (arith, other, size) in
    let sign : get_or w n 0 ≡ 61 = eqb-true (get_or w n 0) 61 (passes_at_first is_equals w 0 low) in
    split_at_first is_equals w 0 low ∙ (ap (λ (x : ℕ). before_first is_equals w ++ (x ∷ after_first is_equals w)) sign ∙ with_sign (before_first is_equals w) (after_first is_equals w))

uncut : (w : List ℕ) → (length (before_first is_equals w) == length w) ≡ true → before_first is_equals w ≡ w
uncut w h =
    let n = position_or_len is_equals w in
    let same : length (take n w) ≡ length w = eqb-true (length (before_first is_equals w)) (length w) h in
    let size : length (take n w) ≡ min n (length w) = length-take n w in
    take_all n w (omega (arith, same, size))

-- 2. What is given is read so

give_none : (s : SeenSaid) (p : Part) (v : List ℕ) → value_in s p ≡ None → give s p v ≡ Some (with_value s p v)
give_none s p v none = rw none refl

and_then_same : {A B : Type 0} (o : Option A) (f g : A → Option B) → ((x : A) → o ≡ Some x → f x ≡ g x) → option_and_then f o ≡ option_and_then g o
and_then_same None f g h = refl
and_then_same (Some x) f g h = h x refl

-- a given part keeps what is waited for
keeps_waiting : (s x : SeenSaid) (p : Part) (v : List ℕ) → give s p v ≡ Some x → x.awaits ≡ s.awaits
keeps_waiting s x p v h = elim (value_in s p) as (λ o. (if is_some o then None else Some (with_value s p v)) ≡ Some x → x.awaits ≡ s.awaits) [
  | None ↦ λ e. ap (λ (y : SeenSaid). y.awaits) (sym (some_is (with_value s p v) x e)) ∙ same p
  | Some u ↦ λ e. absurd (none_some x e)
] h
  where
    same : (q : Part) → (with_value s q v).awaits ≡ s.awaits
    same part.Folder = refl
    same part.Table = refl
    same part.Index = refl
    same part.Kind = refl
    same part.Number = refl
    same part.Rows = refl
    same part.Lookback = refl
    same part.Schedule = refl

-- a folder, an option with its value, and the two in one word, behind what was said before
module _ (s : SeenSaid) (calm : s.awaits ≡ None) where
  begins : (w : List ℕ) → take_word s w ≡ begin s w
  begins w = ap (λ (o : Option Part). take_awaited s o w) calm

  folder_said : (v : List ℕ) → is_plain v ≡ true → take_word s v ≡ give s part.Folder v
  folder_said v plain = begins v ∙ (ap (λ (o : Option Part). give_option s o v) (not_named v plain) ∙ ap (λ b. if b then give s part.Folder v else None) plain)

  waiting : Part → SeenSaid
  waiting p = record s { awaits = Some p }

  option_said : (p : Part) (name : List ℕ) → IsOption p name → take_word s name ≡ Some (record s { awaits = Some p })
  option_said p name is = begins name ∙ (ap (λ (o : Option Part). give_option s o name) is.alone ∙ ap (λ b. if b then Some (record s { awaits = Some p }) else (if length (after_first is_equals name) == 0 then None else give s p (after_first is_equals name))) is.alone_whole)

  calmed : (p : Part) → record (record s { awaits = Some p }) { awaits = None } ≡ s
  calmed p = ap (λ (o : Option Part). record s { awaits = o }) (sym calm)

  value_said : (p : Part) (v : List ℕ) → is_plain v ≡ true → take_word (record s { awaits = Some p }) v ≡ give s p v
  value_said p v plain = ap (λ b. if b then give (record (record s { awaits = Some p }) { awaits = None }) p v else None) plain ∙ ap (λ (x : SeenSaid). give x p v) (calmed p)

  not_empty : (v : List ℕ) → v ≢ [] → (length v == 0) ≡ false
  not_empty [] some = absurd (some refl)
  not_empty (x ∷ v) some = unequal (length (x ∷ v)) 0 _ refl (omega arith)

  joined_said : (p : Part) (name v : List ℕ) → IsOption p name → v ≢ [] → take_word s (name ++ codes "=" ++ v) ≡ give s p v
  joined_said p name v is some =
      let w = name ++ codes "=" ++ v in
      begins w ∙ (ap (λ (o : Option Part). give_option s o w) (is.joined v)
      ∙ (ap (λ b. if b then Some (record s { awaits = Some p }) else (if length (after_first is_equals w) == 0 then None else give s p (after_first is_equals w))) (is.joined_part v)
      ∙ (ap (λ (l : List ℕ). if length l == 0 then None else give s p l) (is.joined_value v) ∙ ap (λ b. if b then None else give s p v) (not_empty v some))))

  given_said : (g : GivenPart) (rest : List (List ℕ)) → IsGiven g → said_from s (g.words ++ rest) ≡ option_and_then (λ t. said_from t rest) (give s g.part g.value)
  given_said g rest (is_folder which plain words) =
      ap (λ (l : List (List ℕ)). said_from s (l ++ rest)) words
      ∙ (ap (option_and_then (λ t. said_from t rest)) (folder_said g.value plain) ∙ ap (λ (p : Part). option_and_then (λ t. said_from t rest) (give s p g.value)) (sym which))
  given_said g rest (is_apart name option plain words) =
      ap (λ (l : List (List ℕ)). said_from s (l ++ rest)) words
      ∙ (ap (option_and_then (λ t. said_from t (g.value ∷ rest))) (option_said g.part name (option_is g.part name option)) ∙ ap (option_and_then (λ t. said_from t rest)) (value_said g.part g.value plain))
  given_said g rest (is_joined name option some words) =
      ap (λ (l : List (List ℕ)). said_from s (l ++ rest)) words
      ∙ ap (option_and_then (λ t. said_from t rest)) (joined_said g.part name g.value (option_is g.part name option) some)

-- what the parts give, one after another
gives : SeenSaid → List GivenPart → Option SeenSaid
gives s [] = Some s
gives s (g ∷ gs) = option_and_then (λ t. gives t gs) (give s g.part g.value)

all_said : (gs : List GivenPart) (s : SeenSaid) → s.awaits ≡ None → AllByRecursion IsGiven gs → said_from s (words_of gs) ≡ gives s gs
unfolding gives
all_said [] s calm each = ap (λ (o : Option Part). if is_some o then None else Some s) calm
all_said (g ∷ gs) s calm each =
    given_said s calm g (words_of gs) each.0
    ∙ and_then_same (give s g.part g.value) (λ t. said_from t (words_of gs)) (λ t. gives t gs) (λ t e. all_said gs t (keeps_waiting s t g.part g.value e ∙ calm) each.1)

-- 3. What is read was given so

-- one word more is a whole part, or an option that waits for its value
data Took (s : SeenSaid) (w : List ℕ) (x : SeenSaid) : Type 0 where
  is_whole : (p : Part) (v : List ℕ) → IsGiven (record { part = p; value = v; words = w ∷ [] }) → give s p v ≡ Some x → Took s w x
  is_waiting : (p : Part) → option_word p ≡ Some w → x ≡ record s { awaits = Some p } → Took s w x

module _ (s x : SeenSaid) (w : List ℕ) where
  took_folder : (b : Bool) → is_plain w ≡ b → (if b then give s part.Folder w else None) ≡ Some x → Took s w x
  took_folder true plain h = is_whole part.Folder w (is_folder refl plain refl) h
  took_folder false plain h = absurd (none_some x h)

  took_joined : (p : Part) (v : List ℕ) (b : Bool) → (length v == 0) ≡ b → option_word p ≡ Some (before_first is_equals w) → w ≡ before_first is_equals w ++ codes "=" ++ v → (if b then None else give s p v) ≡ Some x → Took s w x
  took_joined p v true empty option cut h = absurd (none_some x h)
  took_joined p v false empty option cut h = is_whole p v (is_joined (before_first is_equals w) option some (ap (λ (l : List ℕ). l ∷ []) cut)) h
    where
      some : v ≢ []
      some e = false≢true (sym empty ∙ ap (λ (l : List ℕ). length l == 0) e)

  took_option : (p : Part) (b : Bool) → (length (before_first is_equals w) == length w) ≡ b → option_named (before_first is_equals w) ≡ Some p
      → (if b then Some (record s { awaits = Some p }) else (if length (after_first is_equals w) == 0 then None else give s p (after_first is_equals w))) ≡ Some x → Took s w x
  took_option p true whole named h = is_waiting p (word_is (before_first is_equals w) p named ∙ ap Some (uncut w whole)) (sym (some_is (record s { awaits = Some p }) x h))
  took_option p false part named h = took_joined p (after_first is_equals w) (length (after_first is_equals w) == 0) refl (word_is (before_first is_equals w) p named) (cut w part) h

  took_by : (o : Option Part) → option_named (before_first is_equals w) ≡ o → give_option s o w ≡ Some x → Took s w x
  took_by None named h = took_folder (is_plain w) refl h
  took_by (Some p) named h = took_option p (length (before_first is_equals w) == length w) refl named h

  took : s.awaits ≡ None → take_word s w ≡ Some x → Took s w x
  took calm h = took_by (option_named (before_first is_equals w)) refl (sym (begins s calm w) ∙ h)

-- the parts that were read
record WasRead (s : SeenSaid) (words : List (List ℕ)) (t : SeenSaid) : Type 0 where
  parts : List GivenPart
  words_are : words ≡ words_of parts
  each : AllByRecursion IsGiven parts
  gives_it : gives s parts ≡ Some t

-- words behind those before them; and behind an option that waits for its value
record IsRead (words : List (List ℕ)) : Type 0 where
  here : (s t : SeenSaid) → s.awaits ≡ None → said_from s words ≡ Some t → WasRead s words t
  waits : (s t : SeenSaid) (p : Part) (name : List ℕ) → option_word p ≡ Some name → s.awaits ≡ None → said_from (record s { awaits = Some p }) words ≡ Some t → WasRead s (name ∷ words) t

one_more : (g : GivenPart) (s x t : SeenSaid) (rest : List (List ℕ)) → IsGiven g → give s g.part g.value ≡ Some x → WasRead x rest t → WasRead s (g.words ++ rest) t
unfolding gives
one_more g s x t rest is given r = record {
  parts = g ∷ r.parts;
  words_are = ap (λ (l : List (List ℕ)). g.words ++ l) r.words_are;
  each = (is, r.each);
  gives_it = ap (option_and_then (λ y. gives y r.parts)) given ∙ r.gives_it;
}

took_more : (w : List ℕ) (rest : List (List ℕ)) (s x t : SeenSaid) → s.awaits ≡ None → IsRead rest → Took s w x → said_from x rest ≡ Some t → WasRead s (w ∷ rest) t
took_more w rest s x t calm more (is_whole p v is given) h = one_more (record { part = p; value = v; words = w ∷ [] }) s x t rest is given (more.here x t (keeps_waiting s x p v given ∙ calm) h)
took_more w rest s x t calm more (is_waiting p option e) h = more.waits s t p w option calm (sym (ap (λ (y : SeenSaid). said_from y rest) e) ∙ h)

awaited_more : (v : List ℕ) (rest : List (List ℕ)) (s x t : SeenSaid) (p : Part) (name : List ℕ) → option_word p ≡ Some name → s.awaits ≡ None → IsRead rest → take_word (record s { awaits = Some p }) v ≡ Some x → said_from x rest ≡ Some t → WasRead s (name ∷ v ∷ rest) t
awaited_more v rest s x t p name option calm more took h = by_plain (is_plain v) refl took
  where
    by_plain : (b : Bool) → is_plain v ≡ b → (if b then give (record (record s { awaits = Some p }) { awaits = None }) p v else None) ≡ Some x → WasRead s (name ∷ v ∷ rest) t
    by_plain true plain e =
        let given : give s p v ≡ Some x = sym (ap (λ (y : SeenSaid). give y p v) (calmed s calm p)) ∙ e in
        one_more (record { part = p; value = v; words = name ∷ v ∷ [] }) s x t rest (is_apart name option plain refl) given (more.here x t (keeps_waiting s x p v given ∙ calm) h)
    by_plain false plain e = absurd (none_some x e)

read : (words : List (List ℕ)) → IsRead words
unfolding gives
read [] = record {
  here = λ s t calm h. record { parts = []; words_are = refl; each = tt; gives_it = sym (ap (λ (o : Option Part). if is_some o then None else Some s) calm) ∙ h };
  waits = λ s t p name option calm h. absurd (none_some t h);
}
read (w ∷ rest) = record {
  here = λ s t calm h. option_and_then_some (λ x. said_from x rest) (take_word s w) t h (λ x e j. took_more w rest s x t calm (read rest) (took s x w calm e) j);
  waits = λ s t p name option calm h. option_and_then_some (λ x. said_from x rest) (take_word (record s { awaits = Some p }) w) t h (λ x e j. awaited_more w rest s x t p name option calm (read rest) e j);
}

-- 4. What the parts give

abbrev listed : Option (List ℕ) → List (List ℕ)
listed None = []
listed (Some v) = v ∷ []

-- behind what was given before, each part has what these give
record Settled (s : SeenSaid) (gs : List GivenPart) (t : SeenSaid) : Type 0 where
  values : (q : Part) → listed (value_in t q) ≡ listed (value_in s q) ++ values_given q gs
  awaits : t.awaits ≡ s.awaits

value_with : (s : SeenSaid) (q p : Part) (v : List ℕ) → value_in (with_value s p v) q ≡ (if is_same q p then Some v else value_in s q)
value_with s part.Folder part.Folder v = refl
value_with s part.Folder p v = refl
value_with s part.Table part.Table v = refl
value_with s part.Table p v = refl
value_with s part.Index part.Index v = refl
value_with s part.Index p v = refl
value_with s part.Kind part.Kind v = refl
value_with s part.Kind p v = refl
value_with s part.Number part.Number v = refl
value_with s part.Number p v = refl
value_with s part.Rows part.Rows v = refl
value_with s part.Rows p v = refl
value_with s part.Lookback part.Lookback v = refl
value_with s part.Lookback p v = refl
value_with s part.Schedule part.Schedule v = refl
value_with s part.Schedule p v = refl

same_part : (q p : Part) → is_same q p ≡ true → q ≡ p
same_part part.Folder part.Folder h = refl
same_part part.Table part.Table h = refl
same_part part.Index part.Index h = refl
same_part part.Kind part.Kind h = refl
same_part part.Number part.Number h = refl
same_part part.Rows part.Rows h = refl
same_part part.Lookback part.Lookback h = refl
same_part part.Schedule part.Schedule h = refl
same_part q p h = absurd (false≢true h)

same_itself : (p : Part) → is_same p p ≡ true
same_itself part.Folder = refl
same_itself part.Table = refl
same_itself part.Index = refl
same_itself part.Kind = refl
same_itself part.Number = refl
same_itself part.Rows = refl
same_itself part.Lookback = refl
same_itself part.Schedule = refl

given_once : (s x : SeenSaid) (p : Part) (v : List ℕ) → give s p v ≡ Some x → (value_in s p ≡ None) × (x ≡ with_value s p v)
given_once s x p v h = elim (value_in s p) as (λ o. (if is_some o then None else Some (with_value s p v)) ≡ Some x → (o ≡ None) × (x ≡ with_value s p v)) [
  | None ↦ λ e. (refl, sym (some_is (with_value s p v) x e))
  | Some u ↦ λ e. absurd (none_some x e)
] h

-- one part more, by whether it is the part that was given
value_then : (s : SeenSaid) (q p : Part) (v : List ℕ) (more : List (List ℕ)) → value_in s p ≡ None → listed (value_in (with_value s p v) q) ++ more ≡ listed (value_in s q) ++ ((if is_same q p then v ∷ [] else []) ++ more)
value_then s q p v more none = ap (λ (o : Option (List ℕ)). listed o ++ more) (value_with s q p v) ∙ elim (is_same q p) as (λ b. is_same q p ≡ b → listed (if b then Some v else value_in s q) ++ more ≡ listed (value_in s q) ++ ((if b then v ∷ [] else []) ++ more)) [
  | true ↦ λ e. let empty : value_in s q ≡ None = ap (value_in s) (same_part q p e) ∙ none in sym (ap (λ (o : Option (List ℕ)). listed o ++ (v ∷ more)) empty)
  | false ↦ λ e. refl
] refl

settled : (gs : List GivenPart) (s t : SeenSaid) → gives s gs ≡ Some t → Settled s gs t
unfolding gives
settled [] s t h =
    let same : s ≡ t = some_is s t h in
    record { values = λ q. ap (λ (x : SeenSaid). listed (value_in x q)) (sym same) ∙ sym (append-nil (listed (value_in s q))); awaits = ap (λ (x : SeenSaid). x.awaits) (sym same) }
settled (g ∷ gs) s t h = option_and_then_some (λ x. gives x gs) (give s g.part g.value) t h (λ x e j.
    let once : (value_in s g.part ≡ None) × (x ≡ with_value s g.part g.value) = given_once s x g.part g.value e in
    let rest : Settled x gs t = settled gs x t j in
    record {
      values = λ q. rest.values q ∙ (ap (λ (y : SeenSaid). listed (value_in y q) ++ values_given q gs) once.1 ∙ value_then s q g.part g.value (values_given q gs) once.0);
      awaits = rest.awaits ∙ keeps_waiting s x g.part g.value e;
    })

one_at_most : (o : Option (List ℕ)) (u v : List ℕ) (more : List (List ℕ)) → listed o ≡ u ∷ v ∷ more → ⊥
one_at_most None u v more h = cc
one_at_most (Some x) u v more h = cc

same_listed : (a b : Option (List ℕ)) → listed a ≡ listed b → a ≡ b
same_listed None None h = refl
same_listed None (Some y) h = cc
same_listed (Some x) None h = cc
same_listed (Some x) (Some y) h = cc

unlisted : (a b : Option (List ℕ)) → listed a ≡ listed b ++ [] → a ≡ b
unlisted a b h = same_listed a b (h ∙ append-nil (listed b))

-- a part that is given one value had none before
none_before : (o p : Option (List ℕ)) (v : List ℕ) (more : List (List ℕ)) → listed p ≡ listed o ++ (v ∷ more) → o ≡ None
none_before None p v more h = refl
none_before (Some u) p v more h = absurd (one_at_most p u v more h)

all_given : (gs : List GivenPart) (s t : SeenSaid) → Settled s gs t → gives s gs ≡ Some t
unfolding gives
all_given [] s t st =
    let f : s.folder ≡ t.folder = sym (unlisted t.folder s.folder (st.values part.Folder)) in
    let a : s.table ≡ t.table = sym (unlisted t.table s.table (st.values part.Table)) in
    let b : s.index ≡ t.index = sym (unlisted t.index s.index (st.values part.Index)) in
    let c : s.kind ≡ t.kind = sym (unlisted t.kind s.kind (st.values part.Kind)) in
    let d : s.number ≡ t.number = sym (unlisted t.number s.number (st.values part.Number)) in
    let r : s.rows ≡ t.rows = sym (unlisted t.rows s.rows (st.values part.Rows)) in
    let k : s.lookback ≡ t.lookback = sym (unlisted t.lookback s.lookback (st.values part.Lookback)) in
    let l : s.schedule ≡ t.schedule = sym (unlisted t.schedule s.schedule (st.values part.Schedule)) in
    let w : s.awaits ≡ t.awaits = sym st.awaits in
    ap Some (λ i. record { folder = f i; table = a i; index = b i; kind = c i; number = d i; rows = r i; lookback = k i; schedule = l i; awaits = w i })
all_given (g ∷ gs) s t st =
    let v = g.value in
    let p = g.part in
    let here : listed (value_in t p) ≡ listed (value_in s p) ++ (v ∷ values_given p gs) = st.values p ∙ ap (λ b. listed (value_in s p) ++ ((if b then v ∷ [] else []) ++ values_given p gs)) (same_itself p) in
    let none : value_in s p ≡ None = none_before (value_in s p) (value_in t p) v (values_given p gs) here in
    let given : give s p v ≡ Some (with_value s p v) = give_none s p v none in
    ap (option_and_then (λ x. gives x gs)) given
    ∙ all_given gs (with_value s p v) t (record {
      values = λ q. st.values q ∙ sym (value_then s q p v (values_given q gs) none);
      awaits = st.awaits ∙ sym (keeps_waiting s (with_value s p v) p v given);
    })

-- 5. Commands

kind_of_word : (k : VerifyKind) → kind_named (kind_word k) ≡ Some k
kind_of_word kind.None = refl
kind_of_word kind.Only = refl
kind_of_word kind.Before = refl
kind_of_word kind.After = refl
kind_of_word kind.Both = refl

kind_by : (w : List ℕ) (k : VerifyKind) (a b c d e : Bool) → bytes_eq w (codes "NONE") ≡ a → bytes_eq w (codes "ONLY") ≡ b → bytes_eq w (codes "BEFORE") ≡ c → bytes_eq w (codes "AFTER") ≡ d → bytes_eq w (codes "BOTH") ≡ e
    → (if a then Some kind.None else (if b then Some kind.Only else (if c then Some kind.Before else (if d then Some kind.After else (if e then Some kind.Both else None))))) ≡ Some k → w ≡ kind_word k
kind_by w k true b c d e ha hb hc hd he h = from_bytes w (codes "NONE") ha ∙ ap kind_word (some_is kind.None k h)
kind_by w k false true c d e ha hb hc hd he h = from_bytes w (codes "ONLY") hb ∙ ap kind_word (some_is kind.Only k h)
kind_by w k false false true d e ha hb hc hd he h = from_bytes w (codes "BEFORE") hc ∙ ap kind_word (some_is kind.Before k h)
kind_by w k false false false true e ha hb hc hd he h = from_bytes w (codes "AFTER") hd ∙ ap kind_word (some_is kind.After k h)
kind_by w k false false false false true ha hb hc hd he h = from_bytes w (codes "BOTH") he ∙ ap kind_word (some_is kind.Both k h)
kind_by w k false false false false false ha hb hc hd he h = absurd (none_some k h)

-- a kind's word is the only one
word_of_kind : (w : List ℕ) (k : VerifyKind) → kind_named w ≡ Some k → w ≡ kind_word k
word_of_kind w k h = kind_by w k (bytes_eq w (codes "NONE")) (bytes_eq w (codes "ONLY")) (bytes_eq w (codes "BEFORE")) (bytes_eq w (codes "AFTER")) (bytes_eq w (codes "BOTH")) refl refl refl refl refl h

-- a number is read of its digits, and of nothing else
number_of : (text : List ℕ) (n : ℕ) → IsNumber text n → number_named text ≡ Some n
number_of text n h =
    let v = h.value in
    let low = h.within in
    named text (numerals.from text h.digits.1, h.digits.0, omega (arith, v, low)) ∙ ap Some v

number_read : (text : List ℕ) (n : ℕ) → number_named text ≡ Some n → IsNumber text n
number_read text n h = by_parts (all_ascii_digits text) (nat_lt 0 (length text)) (nat_lt (digits_value 10 text) (2 ^ 64)) refl refl refl h
  where
    by_parts : (a b c : Bool) → all_ascii_digits text ≡ a → nat_lt 0 (length text) ≡ b → nat_lt (digits_value 10 text) (2 ^ 64) ≡ c → (if a && b && c then Some (digits_value 10 text) else None) ≡ Some n → IsNumber text n
    by_parts true true true digits some short e =
        let v : digits_value 10 text ≡ n = some_is (digits_value 10 text) n e in
        let low = ltb-true (digits_value 10 text) (2 ^ 64) short in
        record { digits = (ltb-true 0 (length text) some, numerals.to text digits); value = v; within = omega (arith, v, low) }
    by_parts true true false digits some short e = absurd (none_some n e)
    by_parts true false c digits some short e = absurd (none_some n e)
    by_parts false b c digits some short e = absurd (none_some n e)

-- and so many rows
rows_of : (text : List ℕ) (n : ℕ) → IsNumber text n → 1 ≤ n → n ≤ 100000 → rows_named text ≡ Some n
rows_of text n h some few =
    let least : nat_le 1 n ≡ true = le-leb 1 n some in
    let most : nat_le n 100000 ≡ true = le-leb n 100000 few in
    ap (option_and_then some_rows) (number_of text n h) ∙ (λ i. if least i && most i then Some n else None)

-- a number of rows is read of its digits
record HasRows (text : List ℕ) (n : ℕ) : Type 0 where
  are : IsNumber text n
  some : 1 ≤ n
  few : n ≤ 100000

rows_read : (text : List ℕ) (n : ℕ) → rows_named text ≡ Some n → HasRows text n
rows_read text n h = option_and_then_some some_rows (number_named text) n h (λ m named e. by_parts m named (nat_le 1 m) (nat_le m 100000) refl refl e)
  where
    by_parts : (m : ℕ) → number_named text ≡ Some m → (a b : Bool) → nat_le 1 m ≡ a → nat_le m 100000 ≡ b → (if a && b then Some m else None) ≡ Some n → HasRows text n
    by_parts m named true true some few e = subst (HasRows text) (some_is m n e) (record { are = number_read text m named; some = leb-true 1 m some; few = leb-true m 100000 few })
    by_parts m named true false some few e = absurd (none_some n e)
    by_parts m named false b some few e = absurd (none_some n e)

-- so long may versions be kept
lookback_of : (text : List ℕ) (n : ℕ) → IsNumber text n → n ≤ 9223372036854775807 → lookback_named text ≡ Some n
lookback_of text n h few =
    let most : nat_le n 9223372036854775807 ≡ true = le-leb n 9223372036854775807 few in
    ap (option_and_then some_lookback) (number_of text n h) ∙ ap (λ b. if b then Some n else None) most

-- and it is read of its digits
record HasLookback (text : List ℕ) (n : ℕ) : Type 0 where
  is_number : IsNumber text n
  few : n ≤ 9223372036854775807

lookback_read : (text : List ℕ) (n : ℕ) → lookback_named text ≡ Some n → HasLookback text n
lookback_read text n h = option_and_then_some some_lookback (number_named text) n h (λ m named e. by_parts m named (nat_le m 9223372036854775807) refl e)
  where
    by_parts : (m : ℕ) → number_named text ≡ Some m → (a : Bool) → nat_le m 9223372036854775807 ≡ a → (if a then Some m else None) ≡ Some n → HasLookback text n
    by_parts m named true few e = subst (HasLookback text) (some_is m n e) (record { is_number = number_read text m named; few = leb-true m 9223372036854775807 few })
    by_parts m named false few e = absurd (none_some n e)

-- the text of a lookback, where it is given
given_lookback : (lookback : ℕ) (gs : List GivenPart) → KeepsVersions lookback gs → Option (List ℕ)
given_lookback lookback gs (inl none) = None
given_lookback lookback gs (inr g) = Some g.text

lookback_listed : (lookback : ℕ) (gs : List GivenPart) (a : KeepsVersions lookback gs) → listed (given_lookback lookback gs a) ≡ values_given part.Lookback gs
unfolding given_lookback
lookback_listed lookback gs (inl none) = sym none.0
lookback_listed lookback gs (inr g) = sym g.given

lookback_is : (lookback : ℕ) (gs : List GivenPart) (a : KeepsVersions lookback gs) → lookback_in (given_lookback lookback gs a) ≡ Some lookback
unfolding given_lookback
lookback_is lookback gs (inl none) = ap Some (sym none.1)
lookback_is lookback gs (inr g) = lookback_of g.text lookback g.is_number g.few

-- a session is read of its number
session_of : (text : List ℕ) (n : ℕ) → IsSession text n → session_named text ≡ Some n
session_of text n h =
    let least : nat_le 1 n ≡ true = le-leb 1 n h.some in
    let most : nat_le n 32 ≡ true = le-leb n 32 h.few in
    ap (option_and_then some_session) (number_of text n h.is_number) ∙ (λ i. if least i && most i then Some n else None)

session_read : (text : List ℕ) (n : ℕ) → session_named text ≡ Some n → IsSession text n
session_read text n h = option_and_then_some some_session (number_named text) n h (λ m named e. by_parts m named (nat_le 1 m) (nat_le m 32) refl refl e)
  where
    by_parts : (m : ℕ) → number_named text ≡ Some m → (a b : Bool) → nat_le 1 m ≡ a → nat_le m 32 ≡ b → (if a && b then Some m else None) ≡ Some n → IsSession text n
    by_parts m named true true some few e = subst (IsSession text) (some_is m n e) (record { is_number = number_read text m named; some = leb-true 1 m some; few = leb-true m 32 few })
    by_parts m named true false some few e = absurd (none_some n e)
    by_parts m named false b some few e = absurd (none_some n e)

-- where one more may be named
among_of : (most : ℕ) (text : List ℕ) (n : ℕ) → 0 < most → IsSession text n → session_among most text ≡ Some n
among_of most text n some h = ap (λ b. if b then None else session_named text) (unequal most 0 (most == 0) refl (omega (arith, some))) ∙ session_of text n h

among_read : (most : ℕ) (text : List ℕ) (n : ℕ) → session_among most text ≡ Some n → (0 < most) × IsSession text n
among_read most text n h = by (most == 0) refl h
  where
    by : (b : Bool) → (most == 0) ≡ b → (if b then None else session_named text) ≡ Some n → (0 < most) × IsSession text n
    by true e j = absurd (none_some n j)
    by false e j = (let other : most ≢ 0 = eqb-false most 0 e in omega (arith, other), session_read text n j)

-- a list is read of its names
list_of : (rest : List (List ℕ)) (first : List ℕ) (ns : List ℕ) (most : ℕ) → AreSessions (first ∷ rest) ns → length ns ≤ most → sessions_from most [] (with_commas first rest) ≡ Some ns
list_of rest first [] most each few = absurd each
list_of [] first (n ∷ []) most each few =
    ap (sessions_from most []) (sym (append-nil first))
    ∙ (digits_pass first [] [] most (numerals.from first each.0.is_number.digits.1)
    ∙ ap (option_map (λ m. m ∷ [])) (among_of most first n (omega (arith, few)) each.0))
list_of [] first (n ∷ m ∷ ns) most each few = absurd each.1
list_of (next ∷ rest) first (n ∷ ns) most each few =
    let less : length ns ≤ most - 1 = omega (arith, few) in
    ap (sessions_from most []) (append_assoc first (codes ",") (with_commas next rest))
    ∙ (digits_pass first (44 ∷ with_commas next rest) [] most (numerals.from first each.0.is_number.digits.1)
    ∙ (ap (option_and_then (λ m. option_map (λ ms. m ∷ ms) (sessions_from (most - 1) [] (with_commas next rest)))) (among_of most first n (omega (arith, few)) each.0)
    ∙ ap (option_map (λ ms. n ∷ ms)) (list_of rest next ns (most - 1) each.1 less)))

-- the names of a list that was read, where some bytes of the first one were read before
record WasListed (most : ℕ) (begun text ns : List ℕ) : Type 0 where
  first : List ℕ
  rest : List (List ℕ)
  joined : begun ++ text ≡ with_commas first rest
  each : AreSessions (first ∷ rest) ns
  few : length ns ≤ most

list_read : (text begun : List ℕ) (most : ℕ) (ns : List ℕ) → sessions_from most begun text ≡ Some ns → WasListed most begun text ns
list_read [] begun most ns h = by (session_among most begun) refl h
  where
    by : (o : Option ℕ) → session_among most begun ≡ o → option_map (λ n. n ∷ []) o ≡ Some ns → WasListed most begun [] ns
    by None named e = absurd (none_some ns e)
    by (Some n) named e =
        let is = among_read most begun n named in
        let some = is.0 in
        subst (WasListed most begun []) (some_is (n ∷ []) ns e) (record { first = begun; rest = []; joined = append-nil begun; each = (is.1, tt); few = omega (arith, some) })
list_read (x ∷ xs) begun most ns h = by (list_read xs) (x == 44) refl h
  where
    Reads : Type 0
    Reads = (front : List ℕ) (left : ℕ) (ms : List ℕ) → sessions_from left front xs ≡ Some ms → WasListed left front xs ms

    by_more : Reads → (n : ℕ) → x ≡ 44 → session_among most begun ≡ Some n → (o : Option (List ℕ)) → sessions_from (most - 1) [] xs ≡ o → option_map (λ ms. n ∷ ms) o ≡ Some ns → WasListed most begun (x ∷ xs) ns
    by_more reads n comma named None behind e = absurd (none_some ns e)
    by_more reads n comma named (Some ms) behind e =
        let is = among_read most begun n named in
        let some = is.0 in
        let r : WasListed (most - 1) [] xs ms = reads [] (most - 1) ms behind in
        let less : length ms ≤ most - 1 = r.few in
        let parts : begun ++ (x ∷ xs) ≡ begun ++ codes "," ++ with_commas r.first r.rest = ap (λ (y : ℕ). begun ++ (y ∷ xs)) comma ∙ (sym (append_assoc begun (codes ",") xs) ∙ ap (λ (l : List ℕ). begun ++ codes "," ++ l) r.joined) in
        subst (WasListed most begun (x ∷ xs)) (some_is (n ∷ ms) ns e) (record { first = begun; rest = r.first ∷ r.rest; joined = parts; each = (is.1, r.each); few = omega (arith, some, less) })

    by_name : Reads → x ≡ 44 → (o : Option ℕ) → session_among most begun ≡ o → option_and_then (λ n. option_map (λ ms. n ∷ ms) (sessions_from (most - 1) [] xs)) o ≡ Some ns → WasListed most begun (x ∷ xs) ns
    by_name reads comma None named e = absurd (none_some ns e)
    by_name reads comma (Some n) named e = by_more reads n comma named (sessions_from (most - 1) [] xs) refl e

    by : Reads → (b : Bool) → (x == 44) ≡ b → (if b then option_and_then (λ n. option_map (λ ms. n ∷ ms) (sessions_from (most - 1) [] xs)) (session_among most begun) else sessions_from most (begun ++ (x ∷ [])) xs) ≡ Some ns → WasListed most begun (x ∷ xs) ns
    by reads true comma e = by_name reads (eqb-true x 44 comma) (session_among most begun) refl e
    by reads false other e =
        let r : WasListed most (begun ++ (x ∷ [])) xs ns = reads (begun ++ (x ∷ [])) most ns e in
        record { first = r.first; rest = r.rest; joined = sym (append_assoc begun (x ∷ []) xs) ∙ r.joined; each = r.each; few = r.few }

schedule_of : (text ns : List ℕ) → IsSchedule text ns → sessions_named text ≡ Some ns
schedule_of text ns h = ap sessions_named h.joined ∙ list_of h.rest h.first ns 65535 h.each h.few

schedule_read : (text ns : List ℕ) → sessions_named text ≡ Some ns → IsSchedule text ns
schedule_read text ns h = (let r = list_read text [] 65535 ns h in record { first = r.first; rest = r.rest; joined = r.joined; each = r.each; few = r.few })

-- the text of a list, where it is given
given_schedule : (schedule : Option (List ℕ)) (gs : List GivenPart) → GivesSchedule schedule gs → Option (List ℕ)
given_schedule None gs none = None
given_schedule (Some ns) gs g = Some g.text

schedule_listed : (schedule : Option (List ℕ)) (gs : List GivenPart) (a : GivesSchedule schedule gs) → listed (given_schedule schedule gs a) ≡ values_given part.Schedule gs
unfolding given_schedule
schedule_listed None gs none = sym none
schedule_listed (Some ns) gs g = sym g.given

schedule_is : (schedule : Option (List ℕ)) (gs : List GivenPart) (a : GivesSchedule schedule gs) → schedule_in (given_schedule schedule gs a) ≡ Some schedule
unfolding given_schedule
schedule_is None gs none = refl
schedule_is (Some ns) gs g = ap (option_map (λ ms. Some ms)) (schedule_of g.text ns g.is_list)

-- the parts that spell a command, and what they come to
said_for : (c : SeenCommand) (word : List ℕ) (gs : List GivenPart) → Asks c word gs → SeenSaid
said_for (Run folder lookback schedule) word gs a = record {
  folder = Some folder;
  table = None;
  index = None;
  kind = None;
  number = None;
  rows = None;
  lookback = given_lookback lookback gs a.4;
  schedule = given_schedule schedule gs a.5;
  awaits = None;
}
said_for (Verify folder table index k) word gs a = record { folder = Some folder; table = Some table; index = Some index; kind = Some (kind_word k); number = None; rows = None; lookback = None; schedule = None; awaits = None }
said_for (Load folder l) word gs a = record { folder = Some folder; table = None; index = None; kind = None; number = Some a.3.number; rows = Some a.3.rows; lookback = None; schedule = None; awaits = None }

settles : (c : SeenCommand) (word : List ℕ) (gs : List GivenPart) (a : Asks c word gs) → Settled nothing gs (said_for c word gs a)
unfolding said_for
settles (Run folder lookback schedule) word gs a = record { values = by_part; awaits = refl }
  where
    by_part : (q : Part) → listed (value_in (said_for (Run folder lookback schedule) word gs a) q) ≡ listed (value_in nothing q) ++ values_given q gs
    by_part part.Folder = sym a.1
    by_part part.Table = sym a.2.0
    by_part part.Index = sym a.2.1
    by_part part.Kind = sym a.2.2
    by_part part.Number = sym a.3.0
    by_part part.Rows = sym a.3.1
    by_part part.Lookback = lookback_listed lookback gs a.4
    by_part part.Schedule = schedule_listed schedule gs a.5
settles (Verify folder table index k) word gs a = record { values = by_part; awaits = refl }
  where
    by_part : (q : Part) → listed (value_in (said_for (Verify folder table index k) word gs a) q) ≡ listed (value_in nothing q) ++ values_given q gs
    by_part part.Folder = sym a.1
    by_part part.Table = sym a.2.0
    by_part part.Index = sym a.2.1
    by_part part.Kind = sym a.2.2
    by_part part.Number = sym a.3.0
    by_part part.Rows = sym a.3.1
    by_part part.Lookback = sym a.4.0
    by_part part.Schedule = sym a.4.1
settles (Load folder l) word gs a = record { values = by_part; awaits = refl }
  where
    by_part : (q : Part) → listed (value_in (said_for (Load folder l) word gs a) q) ≡ listed (value_in nothing q) ++ values_given q gs
    by_part part.Folder = sym a.1
    by_part part.Table = sym a.2.0
    by_part part.Index = sym a.2.1
    by_part part.Kind = sym a.2.2
    by_part part.Number = sym a.3.number_given
    by_part part.Rows = sym a.3.rows_given
    by_part part.Lookback = sym a.4.0
    by_part part.Schedule = sym a.4.1

commands : (c : SeenCommand) (word : List ℕ) (gs : List GivenPart) (a : Asks c word gs) → command_of word (said_for c word gs a) ≡ Some c
unfolding said_for
commands (Run folder lookback schedule) word gs a =
    ap (λ (w : List ℕ). command_of w (said_for (Run folder lookback schedule) word gs a)) a.0
    ∙ (ap (option_and_then (λ n. option_map (λ l. Run folder n l) (schedule_in (given_schedule schedule gs a.5)))) (lookback_is lookback gs a.4)
    ∙ ap (option_map (λ l. Run folder lookback l)) (schedule_is schedule gs a.5))
commands (Verify folder table index k) word gs a =
    ap (λ (w : List ℕ). command_of w (said_for (Verify folder table index k) word gs a)) a.0 ∙ ap (option_map (λ x. Verify folder table index x)) (kind_of_word k)
commands (Load folder l) word gs a =
    ap (λ (w : List ℕ). command_of w (said_for (Load folder l) word gs a)) a.0
    ∙ (ap (option_and_then (λ number. option_map (λ rows. load folder number rows) (rows_named a.3.rows))) (number_of a.3.number l.number a.3.number_is)
    ∙ ap (option_map (λ rows. load folder l.number rows)) (rows_of a.3.rows l.rows a.3.rows_are a.3.some a.3.few))

-- words that spell a command are read as it
spelled_is_read : (words : List (List ℕ)) (c : SeenCommand) → IsSpelled words c → command_in words ≡ Some c
spelled_is_read words c h =
    ap command_in h.words_are
    ∙ (ap (option_and_then (command_of h.word)) (all_said h.parts nothing refl h.each ∙ all_given h.parts nothing (said_for c h.word h.parts h.asks) (settles c h.word h.parts h.asks)) ∙ commands c h.word h.parts h.asks)

-- a part that has a value was given it, and no more
given_here : (gs : List GivenPart) (t : SeenSaid) → Settled nothing gs t → (q : Part) (v : List ℕ) → value_in t q ≡ Some v → values_given q gs ≡ v ∷ []
given_here gs t st q v is = sym (st.values q ∙ none_first q) ∙ ap listed is
  where
    none_first : (p : Part) → listed (value_in nothing p) ++ values_given p gs ≡ values_given p gs
    none_first part.Folder = refl
    none_first part.Table = refl
    none_first part.Index = refl
    none_first part.Kind = refl
    none_first part.Number = refl
    none_first part.Rows = refl
    none_first part.Lookback = refl
    none_first part.Schedule = refl

not_given : (gs : List GivenPart) (t : SeenSaid) → Settled nothing gs t → (q : Part) → value_in t q ≡ None → values_given q gs ≡ []
not_given gs t st q none = sym (st.values q ∙ none_first q) ∙ ap listed none
  where
    none_first : (p : Part) → listed (value_in nothing p) ++ values_given p gs ≡ values_given p gs
    none_first part.Folder = refl
    none_first part.Table = refl
    none_first part.Index = refl
    none_first part.Kind = refl
    none_first part.Number = refl
    none_first part.Rows = refl
    none_first part.Lookback = refl
    none_first part.Schedule = refl

module _ (gs : List GivenPart) (t : SeenSaid) (st : Settled nothing gs t) (c : SeenCommand) where
  no_verify : t.table ≡ None → t.index ≡ None → t.kind ≡ None → HasNoVerify gs
  no_verify ta tb tk = (not_given gs t st part.Table ta, not_given gs t st part.Index tb, not_given gs t st part.Kind tk)

  no_load : t.number ≡ None → t.rows ≡ None → HasNoLoad gs
  no_load tn tr = (not_given gs t st part.Number tn, not_given gs t st part.Rows tr)

  no_run : t.lookback ≡ None → t.schedule ≡ None → HasNoRun gs
  no_run tl ts = (not_given gs t st part.Lookback tl, not_given gs t st part.Schedule ts)

  without_run : {A : Type 0} → has_run t ≡ false → (t.lookback ≡ None → t.schedule ≡ None → A) → A
  without_run {A} h go = by_options t.lookback t.schedule refl refl h
    where
      by_options : (l n : Option (List ℕ)) → t.lookback ≡ l → t.schedule ≡ n → (is_some l || is_some n) ≡ false → A
      by_options None None tl ts e = go tl ts
      by_options (Some x) n tl ts e = absurd (false≢true (sym e))
      by_options None (Some x) tl ts e = absurd (false≢true (sym e))

  -- where no option of a command was given, it has none
  without_verify : {A : Type 0} → has_verified t ≡ false → (t.table ≡ None → t.index ≡ None → t.kind ≡ None → A) → A
  without_verify {A} h go = by_options t.table t.index t.kind refl refl refl h
    where
      by_options : (a b k : Option (List ℕ)) → t.table ≡ a → t.index ≡ b → t.kind ≡ k → (is_some a || is_some b || is_some k) ≡ false → A
      by_options None None None ta tb tk e = go ta tb tk
      by_options (Some x) b k ta tb tk e = absurd (false≢true (sym e))
      by_options None (Some x) k ta tb tk e = absurd (false≢true (sym e))
      by_options None None (Some x) ta tb tk e = absurd (false≢true (sym e))

  without_load : {A : Type 0} → has_loaded t ≡ false → (t.number ≡ None → t.rows ≡ None → A) → A
  without_load {A} h go = by_options t.number t.rows refl refl h
    where
      by_options : (n r : Option (List ℕ)) → t.number ≡ n → t.rows ≡ r → (is_some n || is_some r) ≡ false → A
      by_options None None tn tr e = go tn tr
      by_options (Some x) r tn tr e = absurd (false≢true (sym e))
      by_options None (Some x) tn tr e = absurd (false≢true (sym e))

  keeps_versions : (o : Option (List ℕ)) → t.lookback ≡ o → (lookback : ℕ) → lookback_in o ≡ Some lookback → KeepsVersions lookback gs
  keeps_versions None tl lookback e = inl (not_given gs t st part.Lookback tl, sym (some_is usual_lookback lookback e))
  keeps_versions (Some text) tl lookback e = (let has = lookback_read text lookback e in inr (record { text = text; given = given_here gs t st part.Lookback text tl; is_number = has.is_number; few = has.few }))

  gives_schedule : (o : Option (List ℕ)) → t.schedule ≡ o → (schedule : Option (List ℕ)) → schedule_in o ≡ Some schedule → GivesSchedule schedule gs
  gives_schedule None ts schedule e = subst (λ (x : Option (List ℕ)). GivesSchedule x gs) (some_is None schedule e) (not_given gs t st part.Schedule ts)
  gives_schedule (Some text) ts schedule e = by_list (sessions_named text) refl e
    where
      by_list : (r : Option (List ℕ)) → sessions_named text ≡ r → option_map (λ ns. Some ns) r ≡ Some schedule → GivesSchedule schedule gs
      by_list None named j = absurd (none_some schedule j)
      by_list (Some ns) named j = subst (λ (x : Option (List ℕ)). GivesSchedule x gs) (some_is (Some ns) schedule j) (record { text = text; given = given_here gs t st part.Schedule text ts; is_list = schedule_read text ns named })

  asks_run : (word : List ℕ) → word ≡ codes "run" → run_of t ≡ Some c → Asks c word gs
  asks_run word is h = by_options (has_verified t) (has_loaded t) refl refl h
    where
      by_schedule : HasNoVerify gs → HasNoLoad gs → (folder : List ℕ) → t.folder ≡ Some folder → (lookback : ℕ) → lookback_in t.lookback ≡ Some lookback
          → (o : Option (Option (List ℕ))) → schedule_in t.schedule ≡ o → option_map (λ schedule. Run folder lookback schedule) o ≡ Some c → Asks c word gs
      by_schedule verify load folder tf lookback tl (Some schedule) ts e =
          let which : Run folder lookback schedule ≡ c = some_is (Run folder lookback schedule) c e in
          subst (λ (x : SeenCommand). Asks x word gs) which (is, given_here gs t st part.Folder folder tf, verify, load, keeps_versions t.lookback refl lookback tl, gives_schedule t.schedule refl schedule ts)
      by_schedule verify load folder tf lookback tl None ts e = absurd (none_some c e)

      by_lookback : HasNoVerify gs → HasNoLoad gs → (folder : List ℕ) → t.folder ≡ Some folder → (o : Option ℕ) → lookback_in t.lookback ≡ o
          → option_and_then (λ lookback. option_map (λ schedule. Run folder lookback schedule) (schedule_in t.schedule)) o ≡ Some c → Asks c word gs
      by_lookback verify load folder tf (Some lookback) tl e = by_schedule verify load folder tf lookback tl (schedule_in t.schedule) refl e
      by_lookback verify load folder tf None tl e = absurd (none_some c e)

      by_folder : HasNoVerify gs → HasNoLoad gs → (f : Option (List ℕ)) → t.folder ≡ f
          → option_and_then (λ folder. option_and_then (λ lookback. option_map (λ schedule. Run folder lookback schedule) (schedule_in t.schedule)) (lookback_in t.lookback)) f ≡ Some c → Asks c word gs
      by_folder verify load (Some folder) tf e = by_lookback verify load folder tf (lookback_in t.lookback) refl e
      by_folder verify load None tf e = absurd (none_some c e)

      by_options : (v l : Bool) → has_verified t ≡ v → has_loaded t ≡ l
          → (if v || l then None else option_and_then (λ folder. option_and_then (λ lookback. option_map (λ schedule. Run folder lookback schedule) (schedule_in t.schedule)) (lookback_in t.lookback)) t.folder) ≡ Some c → Asks c word gs
      by_options false false tv tl e = without_verify tv (λ ta tb tk. without_load tl (λ tn tr. by_folder (no_verify ta tb tk) (no_load tn tr) t.folder refl e))
      by_options true l tv tl e = absurd (none_some c e)
      by_options false true tv tl e = absurd (none_some c e)

  asks_verify : (word : List ℕ) → word ≡ codes "verify" → verify_of t ≡ Some c → Asks c word gs
  asks_verify word is h = by_others (has_loaded t) (has_run t) refl refl h
    where
      by_options : HasNoLoad gs → HasNoRun gs → (f a b k : Option (List ℕ)) → t.folder ≡ f → t.table ≡ a → t.index ≡ b → t.kind ≡ k
          → option_and_then (λ folder. option_and_then (λ table. option_and_then (λ index. option_map (λ x. Verify folder table index x) (option_and_then kind_named k)) b) a) f ≡ Some c → Asks c word gs
      by_options load run (Some f) (Some a) (Some b) (Some w) tf ta tb tk e = by_kind (kind_named w) refl e
        where
          by_kind : (o : Option VerifyKind) → kind_named w ≡ o → option_map (λ x. Verify f a b x) o ≡ Some c → Asks c word gs
          by_kind None named j = absurd (none_some c j)
          by_kind (Some k) named j =
              let which : Verify f a b k ≡ c = some_is (Verify f a b k) c j in
              let of_kind : values_given part.Kind gs ≡ kind_word k ∷ [] = given_here gs t st part.Kind w tk ∙ ap (λ (l : List ℕ). l ∷ []) (word_of_kind w k named) in
              subst (λ (x : SeenCommand). Asks x word gs) which (is, given_here gs t st part.Folder f tf, (given_here gs t st part.Table a ta, given_here gs t st part.Index b tb, of_kind), load, run)
      by_options load run None a b k tf ta tb tk e = absurd (none_some c e)
      by_options load run (Some f) None b k tf ta tb tk e = absurd (none_some c e)
      by_options load run (Some f) (Some a) None k tf ta tb tk e = absurd (none_some c e)
      by_options load run (Some f) (Some a) (Some b) None tf ta tb tk e = absurd (none_some c e)

      by_others : (l n : Bool) → has_loaded t ≡ l → has_run t ≡ n
          → (if l || n then None else option_and_then (λ folder. option_and_then (λ table. option_and_then (λ index. option_map (λ x. Verify folder table index x) (option_and_then kind_named t.kind)) t.index) t.table) t.folder) ≡ Some c → Asks c word gs
      by_others false false tl tn e = without_load tl (λ tm tr. without_run tn (λ tk ts. by_options (no_load tm tr) (no_run tk ts) t.folder t.table t.index t.kind refl refl refl refl e))
      by_others true n tl tn e = absurd (none_some c e)
      by_others false true tl tn e = absurd (none_some c e)

  asks_load : (word : List ℕ) → word ≡ codes "load" → load_of t ≡ Some c → Asks c word gs
  asks_load word is h = by_others (has_verified t) (has_run t) refl refl h
    where
      by_options : HasNoVerify gs → HasNoRun gs → (f n r : Option (List ℕ)) → t.folder ≡ f → t.number ≡ n → t.rows ≡ r
          → option_and_then (λ folder. option_and_then (λ number. option_map (λ rows. load folder number rows) (option_and_then rows_named r)) (option_and_then number_named n)) f ≡ Some c → Asks c word gs
      by_options verify run (Some f) (Some n) (Some r) tf tn tr e = by_numbers (number_named n) (rows_named r) refl refl e
        where
          by_numbers : (a b : Option ℕ) → number_named n ≡ a → rows_named r ≡ b → option_and_then (λ number. option_map (λ rows. load f number rows) b) a ≡ Some c → Asks c word gs
          by_numbers (Some number) (Some rows) an ar j =
              let which : load f number rows ≡ c = some_is (load f number rows) c j in
              let are : HasRows r rows = rows_read r rows ar in
              subst (λ (x : SeenCommand). Asks x word gs) which (
                is,
                given_here gs t st part.Folder f tf,
                verify,
                record {
                  number = n;
                  number_given = given_here gs t st part.Number n tn;
                  number_is = number_read n number an;
                  rows = r;
                  rows_given = given_here gs t st part.Rows r tr;
                  rows_are = are.are;
                  some = are.some;
                  few = are.few;
                },
                run,
              )
          by_numbers None b an ar j = absurd (none_some c j)
          by_numbers (Some number) None an ar j = absurd (none_some c j)
      by_options verify run None n r tf tn tr e = absurd (none_some c e)
      by_options verify run (Some f) None r tf tn tr e = absurd (none_some c e)
      by_options verify run (Some f) (Some n) None tf tn tr e = no_rows (number_named n) e
        where
          no_rows : (o : Option ℕ) → option_and_then (λ number. option_map (λ rows. load f number rows) None) o ≡ Some c → Asks c word gs
          no_rows None j = absurd (none_some c j)
          no_rows (Some number) j = absurd (none_some c j)

      by_others : (v n : Bool) → has_verified t ≡ v → has_run t ≡ n
          → (if v || n then None else option_and_then (λ folder. option_and_then (λ number. option_map (λ rows. load folder number rows) (option_and_then rows_named t.rows)) (option_and_then number_named t.number)) t.folder) ≡ Some c → Asks c word gs
      by_others false false tv tn e = without_verify tv (λ ta tb tk. without_run tn (λ tl ts. by_options (no_verify ta tb tk) (no_run tl ts) t.folder t.number t.rows refl refl refl e))
      by_others true n tv tn e = absurd (none_some c e)
      by_others false true tv tn e = absurd (none_some c e)

  asks : (word : List ℕ) → command_of word t ≡ Some c → Asks c word gs
  asks word h = by_word (bytes_eq word (codes "run")) (bytes_eq word (codes "verify")) (bytes_eq word (codes "load")) refl refl refl h
    where
      by_word : (a b d : Bool) → bytes_eq word (codes "run") ≡ a → bytes_eq word (codes "verify") ≡ b → bytes_eq word (codes "load") ≡ d
          → (if a then run_of t else (if b then verify_of t else (if d then load_of t else None))) ≡ Some c → Asks c word gs
      by_word true b d is other third e = asks_run word (from_bytes word (codes "run") is) e
      by_word false true d one is third e = asks_verify word (from_bytes word (codes "verify") is) e
      by_word false false true one other is e = asks_load word (from_bytes word (codes "load") is) e
      by_word false false false one other third e = absurd (none_some c e)

-- and words that are read as a command spell it
read_is_spelled : (words : List (List ℕ)) (c : SeenCommand) → command_in words ≡ Some c → IsSpelled words c
read_is_spelled [] c h = absurd (none_some c h)
read_is_spelled (word ∷ rest) c h = option_and_then_some (command_of word) (said_from nothing rest) c h (λ t e j.
    let r : WasRead nothing rest t = (read rest).here nothing t refl e in
    record { word = word; parts = r.parts; words_are = ap (λ (l : List (List ℕ)). word ∷ l) r.words_are; each = r.each; asks = asks r.parts t (settled r.parts nothing t r.gives_it) c word j })

pub spelled : (words : List (List ℕ)) (c : SeenCommand) → (command_in words ≡ Some c) ↔ IsSpelled words c
spelled words c = (read_is_spelled words c, spelled_is_read words c)

pub spells_one : (words : List (List ℕ)) (a b : SeenCommand) → IsSpelled words a → IsSpelled words b → a ≡ b
spells_one words a b h j = some_is a b (sym (spelled_is_read words a h) ∙ spelled_is_read words b j)
