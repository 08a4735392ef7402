-- What is told where the table or the index isn't found, and where the index was verified.
use Rattle.std.proofs.Common.{ℕ, ◌≡◌, ◌≤◌, ◌+◌, if◌then◌else◌, true, false, None, Some, Result, List, [], ◌∷◌, ◌++◌, length, take, refl, sym, ◌∙◌, ap, subst, arith, length-append, inl, inr}
use Rattle.std.specs.Str.{bytes_eq}
use Rattle.std.proofs.lemmas.List.{take-append-le}
use Rattle.std.proofs.Math.Seq.{take-length}
use Rattle.px_values.specs.declared.name.IndexId.{IndexId}
use Rattle.px_tables.specs.declared.found.Found.{Found}
use Rattle.px_tables.specs.declared.index.Index.{Index}
use Rattle.px_trail.specs.declared.entry.Entry.{Entry}
use Rattle.px_trail.specs.Answers.{IsAmong}
use Rattle.px_trail.specs.Trail.{Base}
use Rattle.px_calls.specs.declared.fault.StepFault.{StepFault}
use Rattle.px_calls.specs.declared.fault.StepFault.TheVariants as step
use Rattle.px_calls.specs.Calls.{DidFind, IsFound}
use Rattle.px_calls.specs.Causes.{NamesNoTable, Refuses, find_cause}
use Rattle.px_calls.specs.Known.{Known, Sees}
use Rattle.px_calls.specs.Requires.{IsDrawn}
use Rattle.px_calls.proofs.Runs.{ran-sees, ran-then}
use Rattle.px_reply.specs.declared.refusal.Refusal.TheVariants as refusal
use Rattle.px_reply.specs.declared.reply.Reply.{Reply}
use Rattle.px_reply.specs.declared.reply.Reply.TheVariants as reply
use Rattle.px_verifying.specs.declared.answer.Reports.{Reports}
use Rattle.px_verifying.specs.declared.answer.Unfinished.{Unfinished}
use Rattle.px_verifying.specs.Turns.{MayBegin, RanVerify}
use Rattle.px_verified.specs.declared.asked.Verification.{Verification}
use Rattle.px_verified.specs.Verified as spec
use Rattle.px_verified.specs.Verified.{HasVerified, IsRightVerification, TableStoodAt, back_to, id_of_index_named}

-- 1. The index of a name is one of them

no_index : (i : IndexId) → None ≡ Some i → ⊥
no_index i h = cc

named_among : (xs : List Index) (name : List ℕ) (i : IndexId) → id_of_index_named xs name ≡ Some i → (x : Index) × IsAmong x xs × (x.id ≡ i)
unfolding IsAmong
named_among [] name i h = absurd (no_index i h)
named_among (x ∷ xs) name i h =
    elim (bytes_eq x.name name) as (λ v. (if v then Some x.id else id_of_index_named xs name) ≡ Some i → (y : Index) × IsAmong y (x ∷ xs) × (y.id ≡ i)) [
      | true ↦ λ e. (let same : x.id ≡ i = cc in (x, inl refl, same))
      | false ↦ λ e. (let r = named_among xs name i e in (r.0, inr r.1, r.2))
    ] h

-- 2. What is seen stays

forward : (k k' : Known) (more : List Entry) → k'.seen ≡ k.seen ++ more → length k.seen ≤ length k'.seen
forward k k' more seen = let e = ap length seen in let len = length-append k.seen more in omega arith

module _ (sound : Type 0) (v : Verification) where
  none_here : (k : Known) → NamesNoTable k v.table → NamesNoTable (back_to (length k.seen) k) v.table
  none_here k none = subst (λ (es : List Entry). NamesNoTable (record k { seen = es }) v.table) (sym (take-length k.seen)) none

  stood_here : (k k' : Known) (f : Found) → DidFind k k' v.table f → TableStoodAt k' (length k'.seen) v.table f
  stood_here k k' f did = record { within = omega arith; is = subst (λ (es : List Entry). IsFound k'.base es f) (sym (take-length k'.seen)) did.found; named = did.name_is }

  stood_later : (k k' : Known) (n : ℕ) (f : Found) (more : List Entry) → k'.seen ≡ k.seen ++ more → k'.base ≡ k.base → TableStoodAt k n v.table f → TableStoodAt k' n v.table f
  stood_later k k' n f more seen base s =
      let same : take n k.seen ≡ take n k'.seen = sym (take-append-le n k.seen more s.within) ∙ ap (take n) (sym seen) in
      let F : Base × List Entry → Type 0 = λ q. IsFound q.0 q.1 f in
      let low : n ≤ length k'.seen = (let u = s.within in let w = forward k k' more seen in omega arith) in
      record { within = low; is = subst F (λ i. (sym base i, same i)) s.is; named = s.named }

  -- 3. Nothing is verified

  quietly : (k k' : Known) (r : Reply) → Sees k k' → IsRightVerification sound k' (length k.seen) [] v r → HasVerified sound k k' v r
  quietly k k' r sees right = record { acts = []; ran = ran-sees k k' sees; right = right }

  pub not-found : (k k' : Known) (f : StepFault) → Refuses (find_cause v.table) k k' f → HasVerified sound k k' v (spec.unfound v f)
  not-found k k' step.NoTable r = quietly k k' (reply.Refused (refusal.NoTable v.table)) r.1 (spec.is_unfound (length k'.seen) (forward k k' r.1.passes.others r.1.passes.seen) (omega arith) (none_here k' r.0) refl refl)
  not-found k k' (step.Closed call) r = quietly k k' (reply.Refused (refusal.Closed call)) r.1 (spec.is_closed call r.0 refl refl)
  not-found k k' step.Memory r = quietly k k' (reply.Refused refusal.Memory) r.1 (spec.is_lacking refl refl)
  not-found k k' step.ReadFault r = absurd r.0
  not-found k k' step.WriteFault r = absurd r.0
  not-found k k' step.NameExists r = absurd r.0
  not-found k k' step.NoIndex r = absurd r.0
  not-found k k' (step.Limit which count) r = absurd r.0
  not-found k k' (step.Busy region cells bytes) r = absurd r.0
  not-found k k' (step.NotReady region) r = absurd r.0
  not-found k k' (step.InUse count) r = absurd r.0
  not-found k k' (step.NotYet stamp) r = absurd r.0
  not-found k k' (step.BelowHorizon horizon) r = absurd r.0
  not-found k k' (step.Damaged file place) r = absurd r.0

  module _ (k a : Known) (f : Found) (did : DidFind k a v.table f) where
    sees : Sees k a
    sees = did.finds.sees

    low : length k.seen ≤ length a.seen
    low = forward k a sees.passes.others sees.passes.seen

    pub not-indexed : id_of_index_named f.indexes v.index ≡ None → HasVerified sound k a v (reply.Refused (refusal.NoIndex v.index))
    not-indexed none = quietly k a (reply.Refused (refusal.NoIndex v.index)) sees (spec.is_not_indexed (length a.seen) f low (stood_here k a f did) none refl refl)

    -- 4. The index is verified

    module _ (i : IndexId) (named : id_of_index_named f.indexes v.index ≡ Some i) where
      drawn : IsDrawn a i.0
      drawn = let x = named_among f.indexes v.index i named in subst (λ (y : IndexId). IsDrawn a y.0) x.2 (did.found.indexes_drawn x.0 x.1)

      pub may-begin : MayBegin f.table.id i v.kind a
      may-begin = λ rebuilds. (did.found.drawn, drawn)

      pub verified : (k' : Known) (came : Result Reports Unfinished) → RanVerify sound f.table.id i v.kind a k' came → HasVerified sound k k' v (spec.told_of_verification v came)
      verified k' came r = record {
        acts = r.acts;
        ran = ran-then k a k' [] r.acts (ran-sees k a sees) r.ran;
        right = spec.is_over (length a.seen) f i came low (stood_later a k' (length a.seen) f r.ran.added r.ran.seen r.ran.base (stood_here k a f did)) named r.outcome refl;
      }
