-- A step of a single owner, and the same step of a seat at the lock.
use Rattle.std.proofs.Common.{ℕ, ◌≡◌, Bool, true, false, Result, Ok, Err, IfOk, IfErr, List, [], ◌∷◌, ◌++◌, All, refl, sym, ◌∙◌, ap, subst, append_assoc}
use Rattle.std.proofs.lemmas.List.{append-nil}
use Rattle.std.proofs.lemmas.List.Elements.{All-nil, All-cons}
use Rattle.px_trail.specs.declared.entry.Act.{Act}
use Rattle.px_trail.specs.declared.entry.Act.TheVariants.{Missed, Shut}
use Rattle.px_trail.specs.declared.entry.Entry.{Entry}
use Rattle.px_trail.specs.Trail.{Base, acts_by}
use Rattle.px_calls.specs.declared.fault.StepFault.{StepFault}
use Rattle.px_calls.specs.declared.fault.StepFault.TheVariants.{ReadFault, WriteFault, Closed}
use Rattle.px_calls.specs.Known.{Known, TimePasses, Sees, Adds}
use Rattle.px_calls.specs.Calls.{Finds}
use Rattle.px_calls.specs.Causes.{Refuses}
use Rattle.px_calls.proofs.Runs.{acts_by-append}
use Rattle.px_turn.specs.Lists.{GrownBy, GrownByOthers}
use Rattle.px_seat.specs.Grown.{Grew, IsOwned, shared, mine}
use Rattle.px_seat.proofs.Lists.{seat_of, others-apart}

-- 1. What the owner's steps add

pub sees-grew : (k k' : Known) → k.alone ≡ true → Sees k k' → Grew k k'
sees-grew k k' alone h = record {
  more = [];
  seen = h.passes.seen ∙ ap (λ (l : List Entry). k.seen ++ l) (h.alone alone);
  own = All-nil (λ (e : Entry). e.seat ≡ k.seat);
  seat = h.passes.seat;
  base = h.passes.base;
  damaged = h.passes.damaged;
  as_alone = h.as_alone;
  legal = h.passes.legal;
}

pub adds-grew : (k k' : Known) (act : Act) → k.alone ≡ true → Adds k k' act → Grew k k'
adds-grew k k' act alone h =
    let p = h.sees.passes in
    let e = h.extends in
    let same : h.between.seen ≡ k.seen = p.seen ∙ (ap (λ (l : List Entry). k.seen ++ l) (h.sees.alone alone) ∙ append-nil k.seen) in
    record {
      more = record { seat = h.between.seat; calls = e.calls; act = act } ∷ [];
      seen = e.seen ∙ ap (λ (l : List Entry). l ++ record { seat = h.between.seat; calls = e.calls; act = act } ∷ []) same;
      own = All-cons (λ (e : Entry). e.seat ≡ k.seat) (record { seat = h.between.seat; calls = e.calls; act = act }) [] p.seat (All-nil (λ (e : Entry). e.seat ≡ k.seat));
      seat = e.seat ∙ p.seat;
      base = e.base ∙ p.base;
      damaged = e.damaged ∙ p.damaged;
      as_alone = e.as_alone ∙ h.sees.as_alone;
      legal = e.legal;
    }

pub refuses-grew : (Cause : StepFault → Known → Type 0) (k k' : Known) (f : StepFault) → k.alone ≡ true → Refuses Cause k k' f → Grew k k'
refuses-grew Cause k k' ReadFault alone h = adds-grew k k' (Missed h.1.0) alone h.1.1
refuses-grew Cause k k' WriteFault alone h = adds-grew k k' (Shut h.1.0) alone h.1.1
refuses-grew Cause k k' (Closed call) alone h = sees-grew k k' alone h.1
refuses-grew Cause k k' f alone h = sees-grew k k' alone h.1

pub finds-grew : (k k' : Known) → k.alone ≡ true → Finds k k' → Grew k k'
finds-grew k k' alone h = sees-grew k k' alone h.sees

-- either way
pub either-grew : {A B : Type 0} (P : A → Type 0) (Q : B → Type 0) (k k' : Known) (r : Result A B) → ((x : A) → P x → Grew k k') → ((f : B) → Q f → Grew k k') → IfOk r P → IfErr r Q → Grew k k'
either-grew P Q k k' (Ok x) p q ok err = p x ok
either-grew P Q k k' (Err f) p q ok err = q f err

pub grew-owned : (b : Base) (m : ℕ → ℕ → Bool) (k k' : Known) → IsOwned b m k → Grew k k' → IsOwned b m k'
grew-owned b m k k' h g = record { alone = g.as_alone ∙ h.alone; base = g.base ∙ h.base; damaged = g.damaged ∙ h.damaged; legal = g.legal }

-- 2. A step at the lock: others' entries pass, the server has them, and the step follows

passes-then : (k a c : Known) → TimePasses k a → TimePasses a c → TimePasses k c
passes-then k a c h j = record {
  others = h.others ++ j.others;
  seen = j.seen ∙ (ap (λ (l : List Entry). l ++ j.others) h.seen ∙ append_assoc k.seen h.others j.others);
  apart = acts_by-append k.seat h.others j.others ∙ (ap (λ (l : List Act). l ++ acts_by k.seat j.others) h.apart ∙ (ap (λ (n : ℕ). acts_by n j.others) (sym h.seat) ∙ j.apart));
  seat = j.seat ∙ h.seat;
  base = j.base ∙ h.base;
  damaged = j.damaged ∙ h.damaged;
  legal = j.legal;
}

passes-shared : (k c : Known) → TimePasses k c → TimePasses k (shared c)
passes-shared k c h = record { others = h.others; seen = h.seen; apart = h.apart; seat = h.seat; base = h.base; damaged = h.damaged; legal = h.legal }

no_one_alone : (b : Bool) → b ≡ false → b ≡ true → ⊥
no_one_alone b f t = cc

pub sees-shared : (k a c : Known) → k.alone ≡ false → TimePasses k a → Sees a c → Sees k (shared c)
sees-shared k a c apart h j = record {
  passes = passes-shared k c (passes-then k a c h j.passes);
  alone = λ alone. absurd (no_one_alone k.alone apart alone);
  as_alone = sym apart;
}

pub finds-shared : (k a c : Known) → k.alone ≡ false → TimePasses k a → Finds a c → Finds k (shared c)
finds-shared k a c apart h j = record { sees = sees-shared k a c apart h j.sees; running = j.running }

abbrev pub adds-shared : (k a c : Known) (act : Act) → k.alone ≡ false → TimePasses k a → Adds a c act → Adds k (shared c) act
adds-shared k a c act apart h j =
    let e = j.extends in
    record {
      between = shared j.between;
      sees = sees-shared k a j.between apart h j.sees;
      extends = record { calls = e.calls; seen = e.seen; seat = e.seat; base = e.base; damaged = e.damaged; as_alone = refl; legal = e.legal };
    }

-- the cause speaks of no more than what is seen
abbrev pub IsShared : (StepFault → Known → Type 0) → Type 0
IsShared Cause = (f : StepFault) (k : Known) → Cause f k → Cause f (shared k)

pub refuses-shared : (Cause : StepFault → Known → Type 0) (k a c : Known) (f : StepFault) → IsShared Cause → k.alone ≡ false → TimePasses k a → Refuses Cause a c f → Refuses Cause k (shared c) f
refuses-shared Cause k a c ReadFault s apart h j = (s ReadFault c j.0, (j.1.0, adds-shared k a c (Missed j.1.0) apart h j.1.1))
refuses-shared Cause k a c WriteFault s apart h j = (s WriteFault c j.0, (j.1.0, adds-shared k a c (Shut j.1.0) apart h j.1.1))
refuses-shared Cause k a c (Closed call) s apart h j = (s (Closed call) c j.0, sees-shared k a c apart h j.1)
refuses-shared Cause k a c f s apart h j = (s f c j.0, sees-shared k a c apart h j.1, j.2)

-- what the seat knows once it has entered and the server acts as it
pub record Entered {S : Type 0} (known : S → Known) (b : Base) (d : ℕ → ℕ → Bool) (n : ℕ) (xs : List Entry) (v : S) : Type 0 where
  pub passes : TimePasses (mine n b d xs) (known v)
  pub owned : IsOwned b d (known v)

pub enters : {S : Type 0} (known : S → Known) (b : Base) (d : ℕ → ℕ → Bool) (n m : ℕ) (old now : List Entry) (u v : S)
    → m ≡ n → GrownByOthers seat_of m old now → now ≡ (known u).seen
    → known v ≡ record (known u) { seat = n } → IsOwned b d (known v)
    → Entered known b d n old v
enters known b d n m old now u v num grew is acts owned =
    let F : ℕ × List Entry → Type 0 = λ q. GrownByOthers seat_of q.0 old q.1 in
    let seen : (known u).seen ≡ (known v).seen = sym (ap (λ (k : Known). k.seen) acts) in
    let grown : GrownByOthers seat_of n old (known v).seen = subst F (λ i. (num i, (is ∙ seen) i)) grew in
    record {
      passes = record { others = grown.0.0; seen = grown.0.1; apart = others-apart n old (known v).seen grown; seat = ap (λ (k : Known). k.seat) acts; base = owned.base; damaged = owned.damaged; legal = owned.legal };
      owned = owned;
    }

-- before the seat leaves
pub leaves : {S : Type 0} (known : S → Known) (n m : ℕ) (now : List Entry) (u v w : S) → m ≡ n → now ≡ (known u).seen → known v ≡ record (known u) { seat = n } → Grew (known v) (known w) → GrownBy seat_of m now (known w).seen
leaves known n m now u v w num is acts grew =
    let at : (known v).seen ≡ now = ap (λ (k : Known). k.seen) acts ∙ sym is in (
      grew.more,
      grew.seen ∙ ap (λ (l : List Entry). l ++ grew.more) at,
      subst (λ (k : ℕ). All (λ (e : Entry). e.seat ≡ k) grew.more) (ap (λ (k : Known). k.seat) acts ∙ sym num) grew.own,
    )

-- what the seat knows once it has left
pub knows : {S : Type 0} (known : S → Known) (b : Base) (d : ℕ → ℕ → Bool) (n : ℕ) (xs : List Entry) (v w : S) (old : List Entry) → Entered known b d n xs v → Grew (known v) (known w) → old ≡ (known w).seen → mine n b d old ≡ shared (known w)
knows known b d n xs v w old e grew is =
    let seat : n ≡ (known w).seat = sym (grew.seat ∙ e.passes.seat) in
    let base : b ≡ (known w).base = sym (grew.base ∙ e.passes.base) in
    let damaged : d ≡ (known w).damaged = sym (grew.damaged ∙ e.passes.damaged) in
    λ i. mine (seat i) (base i) (damaged i) (is i)

pub if_ok : {A B : Type 0} (P Q : A → Type 0) (r : Result A B) → ((x : A) → P x → Q x) → IfOk r P → IfOk r Q
if_ok P Q (Ok x) f h = f x h
if_ok P Q (Err e) f h = tt

pub if_err : {A B : Type 0} (P Q : B → Type 0) (r : Result A B) → ((x : B) → P x → Q x) → IfErr r P → IfErr r Q
if_err P Q (Ok x) f h = tt
if_err P Q (Err e) f h = f e h

-- a seat at the lock isn't alone
pub not_alone : {A : Type 0} → false ≡ true → A
not_alone alone = absurd cc
