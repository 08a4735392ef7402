-- Calls that begin, end, open, close and define nothing, and the refusals that end a query.
use Rattle.std.proofs.Common.{ℕ, ◌≡◌, ◌≤◌, ◌-◌, ◌+◌, Bool, true, false, Option, None, Some, List, [], ◌∷◌, ◌++◌, length, take, drop, refl, sym, ◌∙◌, ap, subst, arith, inl, inr, length-append}
use Rattle.std.proofs.lemmas.List.{drop-append-le, take-append-drop, drop-drop}
use Rattle.px_trail.specs.declared.entry.Act.{Act}
use Rattle.px_trail.specs.declared.entry.Act.TheVariants as act
use Rattle.px_trail.specs.declared.entry.Entry.{Entry}
use Rattle.px_trail.specs.Answers.{IsAmong}
use Rattle.px_trail.specs.Trail.{acts_by, closing_call}
use Rattle.px_calls.specs.declared.fault.StepFault.{StepFault}
use Rattle.px_calls.specs.declared.fault.StepFault.TheVariants as step
use Rattle.px_calls.specs.declared.query.Doubt.{Doubt}
use Rattle.px_calls.specs.declared.query.Fixing.{Fixing}
use Rattle.px_calls.specs.declared.query.Point.{Point}
use Rattle.px_calls.specs.declared.query.Fixing.TheVariants as fixing
use Rattle.px_calls.specs.declared.status.Work.{Work}
use Rattle.px_calls.specs.declared.status.Work.TheVariants as work
use Rattle.px_calls.specs.Known.{Adds, HasMade, Known, Ran, Sees, TimePasses, outline}
use Rattle.px_calls.specs.Causes.{Refuses, fix_cause, read_cause, upkeep_cause}
use Rattle.px_calls.specs.Calls.{DidFix, DidWork}
use Rattle.px_calls.proofs.Runs.{acts_by-append, among-append, among-front, closing-grows, ran-adds, ran-made, ran-sees}
use Rattle.px_calls.proofs.Stays.{ran-since}
use Rattle.px_gather.specs.Answers.{IsPointOfQuery}
use Rattle.px_gather.specs.Query.{Query}
use Rattle.px_scan.specs.declared.answer.QueryFault.{QueryFault}
use Rattle.px_scan.specs.declared.answer.QueryFault.TheVariants as fault
use Rattle.px_scan.specs.Faults.{FaultAt, FaultIs, IsScanFault, QueryEndSince, QueryFaultIs, QueryFaultSince, fault_of, is_busy}
use Rattle.px_scan.specs.Turns.{Grown, Quiet}

-- 1. Quiet calls

pub quiet-sees : (k k' : Known) → Sees k k' → Quiet k k'
quiet-sees k k' h = record { acts = []; ran = ran-sees k k' h; quiet = refl }

-- a call that added an act: nothing else was begun, ended, opened or closed, and the act is the seat's own since
record Made (k k' : Known) (a : Act) : Type 0 where
  quiet : Quiet k k'
  has : HasMade k' a
  since : (m : ℕ) → m ≤ length k.seen → IsAmong a (acts_by k'.seat (drop m k'.seen))

made : (k k' : Known) (a : Act) → outline (a ∷ []) ≡ [] → Adds k k' a → Made k k' a
unfolding IsAmong
made k k' a none h =
    let ran = ran-adds k k' a h in
    record {
      quiet = record { acts = a ∷ []; ran = ran; quiet = none };
      has = ran-made k k' (a ∷ []) a ran (inl (inl refl));
      since = λ m le. ran-since k k' (a ∷ []) a m le ran (inl refl);
    }

missed : (k k' : Known) (call : ℕ) → Adds k k' (act.Missed call) → Made k k' (act.Missed call)
missed k k' call h = made k k' (act.Missed call) refl h

shut : (k k' : Known) (call : ℕ) → Adds k k' (act.Shut call) → Made k k' (act.Shut call)
shut k k' call h = made k k' (act.Shut call) refl h

pub quiet-works : (k k' : Known) (w : Work) → DidWork k k' w → Quiet k k'
quiet-works k k' work.Did (inl h) = quiet-sees k k' h.sees
quiet-works k k' work.Did (inr h) = record { acts = act.Raised h.0 h.1 ∷ []; ran = ran-adds k k' (act.Raised h.0 h.1) h.2; quiet = refl }
quiet-works k k' work.Idle h = quiet-sees k k' h.sees

pub quiet-fixes : (k k' : Known) (d : Doubt) (f : Fixing) → DidFix k k' d f → Quiet k k'
quiet-fixes k k' d fixing.Fixed h = record { acts = act.Fixed d.index d.key ∷ []; ran = ran-adds k k' (act.Fixed d.index d.key) h.0; quiet = refl }
quiet-fixes k k' d fixing.Gone h = quiet-sees k k' h.sees
quiet-fixes k k' d fixing.InFlight h = quiet-sees k k' h.0.sees

-- 2. What a refusal that ends the query comes to

pub record Ends (sound : Type 0) (q : Query) (k k' : Known) (f : StepFault) : Type 0 where
  pub ends : IsScanFault f
  pub quiet : Quiet k k'
  pub told : FaultIs sound q (fault_of f) k'
  pub made : (m : ℕ) → m ≤ length k.seen → QueryFaultSince m (fault_of f) k'

ends_missed : (sound : Type 0) (q : Query) (k k' : Known) → ((call : ℕ) × Adds k k' (act.Missed call)) → Ends sound q k k' step.ReadFault
ends_missed sound q k k' h = let m = missed k k' h.0 h.1 in record { ends = tt; quiet = m.quiet; told = (h.0, m.has); made = λ n le. (h.0, m.since n le) }

ends_shut : (sound : Type 0) (q : Query) (k k' : Known) → ((call : ℕ) × Adds k k' (act.Shut call)) → Ends sound q k k' step.WriteFault
ends_shut sound q k k' h = let m = shut k k' h.0 h.1 in record { ends = tt; quiet = m.quiet; told = (h.0, m.has); made = λ n le. (h.0, m.since n le) }

pub read_ends : (sound : Type 0) (q : Query) (k k' : Known) (f : StepFault) → Refuses (read_cause sound) k k' f → Ends sound q k k' f
read_ends sound q k k' step.ReadFault h = ends_missed sound q k k' h.1
read_ends sound q k k' step.WriteFault h = absurd h.0
read_ends sound q k k' (step.Damaged file place) h = record { ends = tt; quiet = quiet-sees k k' h.1; told = h.0; made = λ n le. tt }
read_ends sound q k k' (step.Closed call) h = record { ends = tt; quiet = quiet-sees k k' h.1; told = h.0; made = λ n le. tt }
read_ends sound q k k' step.Memory h = record { ends = tt; quiet = quiet-sees k k' h.1; told = tt; made = λ n le. tt }
read_ends sound q k k' f h = absurd h.0

pub work_ends : (sound : Type 0) (q : Query) (k k' : Known) (f : StepFault) → Refuses (upkeep_cause sound) k k' f → Ends sound q k k' f
work_ends sound q k k' step.ReadFault h = ends_missed sound q k k' h.1
work_ends sound q k k' step.WriteFault h = ends_shut sound q k k' h.1
work_ends sound q k k' (step.Damaged file place) h = record { ends = tt; quiet = quiet-sees k k' h.1; told = h.0; made = λ n le. tt }
work_ends sound q k k' (step.Closed call) h = record { ends = tt; quiet = quiet-sees k k' h.1; told = h.0; made = λ n le. tt }
work_ends sound q k k' step.Memory h = record { ends = tt; quiet = quiet-sees k k' h.1; told = tt; made = λ n le. tt }
work_ends sound q k k' f h = absurd h.0

pub fix_ends : (sound : Type 0) (q : Query) (k k' : Known) (f : StepFault) → Refuses (fix_cause sound) k k' f → is_busy f ≡ false → Ends sound q k k' f
fix_ends sound q k k' step.ReadFault h n = ends_missed sound q k k' h.1
fix_ends sound q k k' step.WriteFault h n = ends_shut sound q k k' h.1
fix_ends sound q k k' (step.Damaged file place) h n = record { ends = tt; quiet = quiet-sees k k' h.1; told = h.0; made = λ n le. tt }
fix_ends sound q k k' (step.Closed call) h n = record { ends = tt; quiet = quiet-sees k k' h.1; told = h.0; made = λ n le. tt }
fix_ends sound q k k' step.Memory h n = record { ends = tt; quiet = quiet-sees k k' h.1; told = tt; made = λ n le. tt }
fix_ends sound q k k' (step.Busy region cells bytes) h n = cc
fix_ends sound q k k' (step.NotReady region) h n = cc
fix_ends sound q k k' f h n = absurd h.0

pub fix_busy : (sound : Type 0) (k k' : Known) (f : StepFault) → Refuses (fix_cause sound) k k' f → is_busy f ≡ true → Quiet k k'
fix_busy sound k k' (step.Busy region cells bytes) h n = quiet-sees k k' h.1
fix_busy sound k k' (step.NotReady region) h n = quiet-sees k k' h.1
fix_busy sound k k' f h n = cc

-- 3. What time leaves

pub grown-passes : (k k' : Known) → TimePasses k k' → Grown k k'
grown-passes k k' h = record { more = h.others; seen = h.seen; quiet = ap outline h.apart; seat = h.seat; base = h.base; damaged = h.damaged }

pub grown-quiet : (k k' : Known) → Quiet k k' → Grown k k'
grown-quiet k k' h = record { more = h.ran.added; seen = h.ran.seen; quiet = ap outline h.ran.own ∙ h.quiet; seat = h.ran.seat; base = h.ran.base; damaged = h.ran.damaged }

-- entries came, whoever made them
pub record Later (k k' : Known) : Type 0 where
  pub more : List Entry
  pub seen : k'.seen ≡ k.seen ++ more
  pub seat : k'.seat ≡ k.seat
  pub base : k'.base ≡ k.base
  pub damaged : k'.damaged ≡ k.damaged

pub later-grown : (k k' : Known) → Grown k k' → Later k k'
later-grown k k' h = record { more = h.more; seen = h.seen; seat = h.seat; base = h.base; damaged = h.damaged }

pub later-ran : (k k' : Known) (acts : List Act) → Ran k k' acts → Later k k'
later-ran k k' acts h = record { more = h.added; seen = h.seen; seat = h.seat; base = h.base; damaged = h.damaged }

pub longer : (k k' : Known) (n : ℕ) → Later k k' → n ≤ length k.seen → n ≤ length k'.seen
longer k k' n h le = let e = ap (λ (m : List Entry). length m) h.seen in omega (arith, length-append k.seen h.more)

later-made : (k k' : Known) (a : Act) → Later k k' → HasMade k a → HasMade k' a
later-made k k' a h m =
    let e : acts_by k'.seat k'.seen ≡ acts_by k.seat k.seen ++ acts_by k.seat h.more = ap (λ (n : ℕ). acts_by n k'.seen) h.seat ∙ (ap (acts_by k.seat) h.seen ∙ acts_by-append k.seat k.seen h.more) in
    subst (λ (l : List Act). IsAmong a l) (sym e) (among-front a (acts_by k.seat k.seen) (acts_by k.seat h.more) m)

pub later-fault : (sound : Type 0) (q : Query) (f : QueryFault) (k k' : Known) → Later k k' → FaultIs sound q f k → FaultIs sound q f k'
later-fault sound q fault.NoTable k k' h j = j
later-fault sound q (fault.BelowHorizon n) k k' h j = j
later-fault sound q fault.IndexJoin k k' h j = absurd j
later-fault sound q fault.ReadFault k k' h j = (j.0, later-made k k' (act.Missed j.0) h j.1)
later-fault sound q fault.WriteFault k k' h j = (j.0, later-made k k' (act.Shut j.0) h j.1)
later-fault sound q (fault.Damaged file place) k k' h j = (ap (λ (d : ℕ → ℕ → Bool). d file place) h.damaged ∙ j.0, j.1)
later-fault sound q (fault.Closed call) k k' h j = ap closing_call h.seen ∙ closing-grows k.seen h.more call j
later-fault sound q fault.Memory k k' h j = tt

pub later-at : (sound : Type 0) (q : Query) (p : Point) (f : QueryFault) (k k' : Known) → Later k k' → FaultAt sound q p f k → FaultAt sound q p f k'
later-at sound q p fault.IndexJoin k k' h j = j
later-at sound q p f k k' h j = later-fault sound q f k k' h j

pub fault-at : (sound : Type 0) (q : Query) (p : Point) (f : QueryFault) (k : Known) → FaultIs sound q f k → FaultAt sound q p f k
fault-at sound q p fault.IndexJoin k j = absurd j
fault-at sound q p f k j = j

made_on : (m : ℕ) (a : Act) (k k' : Known) → m ≤ length k.seen → Later k k' → IsAmong a (acts_by k.seat (drop m k.seen)) → IsAmong a (acts_by k'.seat (drop m k'.seen))
made_on m a k k' le g h =
    let e : acts_by k'.seat (drop m k'.seen) ≡ acts_by k.seat (drop m k.seen) ++ acts_by k.seat g.more =
    ap (λ (n : ℕ). acts_by n (drop m k'.seen)) g.seat
    ∙ (ap (λ (l : List Entry). acts_by k.seat (drop m l)) g.seen ∙ (ap (acts_by k.seat) (drop-append-le m k.seen g.more le) ∙ acts_by-append k.seat (drop m k.seen) g.more)) in
    subst (λ (l : List Act). IsAmong a l) (sym e) (among-front a (acts_by k.seat (drop m k.seen)) (acts_by k.seat g.more) h)

made_from : (n m : ℕ) (a : Act) (k : Known) → n ≤ m → IsAmong a (acts_by k.seat (drop m k.seen)) → IsAmong a (acts_by k.seat (drop n k.seen))
made_from n m a k le h =
    let sum : n + (m - n) ≡ m = omega arith in
    let rest : drop (m - n) (drop n k.seen) ≡ drop m k.seen = drop-drop (m - n) n k.seen ∙ ap (λ (i : ℕ). drop i k.seen) sum in
    let cut : take (m - n) (drop n k.seen) ++ drop m k.seen ≡ drop n k.seen = ap (λ (l : List Entry). take (m - n) (drop n k.seen) ++ l) (sym rest) ∙ take-append-drop (m - n) (drop n k.seen) in
    let e : acts_by k.seat (drop n k.seen) ≡ acts_by k.seat (take (m - n) (drop n k.seen)) ++ acts_by k.seat (drop m k.seen) = ap (acts_by k.seat) (sym cut) ∙ acts_by-append k.seat (take (m - n) (drop n k.seen)) (drop m k.seen) in
    subst (λ (l : List Act). IsAmong a l) (sym e) (among-append a (acts_by k.seat (take (m - n) (drop n k.seen))) (acts_by k.seat (drop m k.seen)) h)

pub made-later : (m : ℕ) (f : QueryFault) (k k' : Known) → m ≤ length k.seen → Later k k' → QueryFaultSince m f k → QueryFaultSince m f k'
made-later m fault.ReadFault k k' le g j = (j.0, made_on m (act.Missed j.0) k k' le g j.1)
made-later m fault.WriteFault k k' le g j = (j.0, made_on m (act.Shut j.0) k k' le g j.1)
made-later m f k k' le g j = tt

pub made-earlier : (n m : ℕ) (f : QueryFault) (k : Known) → n ≤ m → QueryFaultSince m f k → QueryFaultSince n f k
made-earlier n m fault.ReadFault k le j = (j.0, made_from n m (act.Missed j.0) k le j.1)
made-earlier n m fault.WriteFault k le j = (j.0, made_from n m (act.Shut j.0) k le j.1)
made-earlier n m f k le j = tt

fault_in : (sound : Type 0) (q : Query) (scn : Option ℕ) (f : QueryFault) (k : Known) → FaultIs sound q f k → QueryFaultIs sound q scn f k
fault_in sound q scn fault.NoTable k j = absurd j
fault_in sound q None (fault.BelowHorizon h) k j = absurd j
fault_in sound q (Some scn) (fault.BelowHorizon h) k j = absurd j
fault_in sound q None fault.IndexJoin k j = absurd j
fault_in sound q (Some scn) fault.IndexJoin k j = absurd j
fault_in sound q None fault.ReadFault k j = j
fault_in sound q (Some scn) fault.ReadFault k j = j
fault_in sound q None fault.WriteFault k j = j
fault_in sound q (Some scn) fault.WriteFault k j = j
fault_in sound q None (fault.Damaged file place) k j = j
fault_in sound q (Some scn) (fault.Damaged file place) k j = j
fault_in sound q None (fault.Closed call) k j = j
fault_in sound q (Some scn) (fault.Closed call) k j = j
fault_in sound q None fault.Memory k j = j
fault_in sound q (Some scn) fault.Memory k j = j

-- the fault with which a query ended at its point
pub ended-as : (sound : Type 0) (q : Query) (scn : Option ℕ) (p : Point) (f : QueryFault) (k : Known) → IsPointOfQuery k.base k.seen q scn p → FaultAt sound q p f k → QueryFaultIs sound q scn f k
ended-as sound q None p fault.IndexJoin k h j = record { point = p; from = omega arith; is_point = h; joins = j }
ended-as sound q (Some scn) p fault.IndexJoin k h j = record { point = p; from = omega arith; is_point = h; joins = j }
ended-as sound q scn p f k h j = fault_in sound q scn f k j

pub ended-since : (sound : Type 0) (n : ℕ) (q : Query) (scn : Option ℕ) (p : Point) (f : QueryFault) (k : Known) → n ≤ p.found.at → IsPointOfQuery k.base k.seen q scn p → FaultAt sound q p f k → QueryFaultSince n f k → QueryEndSince n q scn f k
ended-since sound n q scn p fault.IndexJoin k from h j made = record { point = p; from = from; is_point = h; joins = j }
ended-since sound n q scn p f k from h j made = made

-- of a device's fault the entry alone
pub device-since : (n : ℕ) (q : Query) (scn : Option ℕ) (f : QueryFault) (k : Known) → QueryEndSince n q scn f k → QueryFaultSince n f k
device-since n q scn fault.IndexJoin k h = tt
device-since n q scn f k h = h
