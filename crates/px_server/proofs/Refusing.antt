-- What the answers of `begin` say.
use Rattle.std.proofs.Common.{◌≡◌, ◌≤◌, ◌+◌, inl, inr, ℕ, None, List, [], ◌∷◌, ◌++◌, refl, sym, subst, arith}
use Rattle.std.specs.Prelude.{sum_by}
use Rattle.std.proofs.lemmas.List.Sums.{sum_by-append, sum_by-cons}
use Rattle.px_values.specs.Limits.{most_of}
use Rattle.px_values.specs.declared.change.Change.{Change}
use Rattle.px_values.specs.declared.limit.Limit.TheVariants as bound
use Rattle.px_values.specs.declared.name.TableId.{TableId}
use Rattle.px_trail.specs.Count.{counted_act, counted_bytes, counted_change}
use Rattle.px_trail.specs.Legal.{IsLegal}
use Rattle.px_trail.specs.Trail.{closing_call, last_of}
use Rattle.px_trail.specs.declared.entry.Act.TheVariants.{Begun}
use Rattle.px_trail.specs.declared.entry.Entry.{Entry}
use Rattle.px_calls.specs.Calls.{DidBegin}
use Rattle.px_calls.specs.Causes.{HasLongKey, LacksTable, Refuses, TableStands, WritesManyBytes, WritesManyCells, begin_cause}
use Rattle.px_calls.specs.Known.{Known}
use Rattle.px_calls.specs.declared.fault.StepFault.{StepFault}
use Rattle.px_calls.specs.declared.fault.StepFault.TheVariants.{Busy, Limit, Memory, NoTable, NotReady, ReadFault}
use Rattle.px_group.specs.declared.group.Group.{Group}
use Rattle.px_beginning.specs.Begins.{NeedsLongKey}
use Rattle.px_beginning.specs.Rooms.{HasManyBytes, HasManyCells}
use Rattle.px_beginning.specs.declared.preparing.Prepared.{Prepared}
use Rattle.px_server.specs.Beginning.{IsRefusedIn, IsUnbegun, RefusesBatch, unready_cause, untaken_cause}
use Rattle.px_server.proofs.Seen.{stays}

-- a refusal that has its cause in the table's group
pub refuses_batch : (groups : List Group) (t : TableId) (es : List Entry) (cs : List Change) (f : StepFault) → IsRefusedIn groups t es cs f → RefusesBatch groups t es cs f
refuses_batch groups t es cs (Limit which count) r = r
refuses_batch groups t es cs (NotReady region) r = r
refuses_batch groups t es cs (Busy region cells bytes) r = r
refuses_batch groups t es cs f r = tt

module _ (k : Known) (legal : IsLegal k.base k.seen) (running : closing_call k.seen ≡ None) (sound : Type 0) (t : ℕ) (cs : List Change) where
  pub begun_no_table : LacksTable k t → Refuses (begin_cause sound t cs) k k NoTable
  begun_no_table lacks = (lacks, stays k legal, running)

  module _ (stands : TableStands k t) (g : Group) (last : last_of k.base t k.seen ≡ g.last) (long : g.last ≤ most_of bound.Stamps → NeedsLongKey g cs → sound → HasLongKey k.base k.seen t cs)
      (cells : (s : ℕ) → g.last ≤ most_of bound.Stamps → HasManyCells g s cs → sound → WritesManyCells k.base k.seen t cs) (bytes : (s : ℕ) → g.last ≤ most_of bound.Stamps → HasManyBytes g s cs → sound → WritesManyBytes k.base k.seen t cs) where
    unready : (f : StepFault) → (f ≡ ReadFault → ⊥) → unready_cause g cs f → Refuses (begin_cause sound t cs) k k f
    unready (Limit bound.Key count) other c = ((stands, c.0, long c.2 c.1), stays k legal, running)
    unready (Limit bound.Cells count) other c = ((stands, c.0, cells c.1.0 c.2 c.1.1), stays k legal, running)
    unready (Limit bound.Bytes count) other c = ((stands, c.0, bytes c.1.0 c.2 c.1.1), stays k legal, running)
    unready (Limit bound.Stamps count) other c = ((stands, c.0, (let top = c.1 in omega (arith, top, last))), stays k legal, running)
    unready ReadFault other c = absurd (other refl)
    unready Memory other c = (tt, stays k legal, running)
    unready f other c = absurd c

    untaken : (r : Group) (p : Prepared) (f : StepFault) → untaken_cause r p k.seen cs f → Refuses (begin_cause sound t cs) k k f
    untaken r p (Limit bound.Trail count) c = ((stands, c.0, c.1), stays k legal, running)
    untaken r p (Limit bound.Log count) c = ((stands, c.0, tt), stays k legal, running)
    untaken r p (Limit bound.Region count) c = ((stands, c.0, tt), stays k legal, running)
    untaken r p (Busy region cells bytes) c = (stands, stays k legal, running)
    untaken r p (NotReady region) c = (stands, stays k legal, running)
    untaken r p Memory c = (tt, stays k legal, running)
    untaken r p f c = absurd c

    -- no read failed
    pub unbegun : (clock : ℕ) (f : StepFault) → (f ≡ ReadFault → ⊥) → IsUnbegun g k.seen cs clock f → Refuses (begin_cause sound t cs) k k f
    unbegun clock f other (inl c) = unready f other c
    unbegun clock f other (inr c) = untaken c.read c.ready.prepared f c.cause

counted_more : (es : List Entry) (e : Entry) → counted_bytes (es ++ e ∷ []) ≡ counted_bytes es + counted_act e.act
counted_more es e =
    let f : Entry → ℕ = λ x. counted_act x.act in
    let all : counted_bytes (es ++ e ∷ []) ≡ counted_bytes es + sum_by f (e ∷ []) = sum_by-append f es (e ∷ []) in
    let one : sum_by f (e ∷ []) ≡ counted_act e.act + sum_by f [] = sum_by-cons f e [] in
    let none : sum_by f [] ≡ 0 = refl in
    omega (arith, all, one, none)

module _ (k : Known) (legal : IsLegal k.base k.seen) (sound : Type 0) (t : TableId) (cs : List Change) (s calls : ℕ) (es : List Entry) (is : es ≡ k.seen ++ record { seat = k.seat; calls = calls; act = Begun t s cs } ∷ []) (legal' : IsLegal k.base es)
    (early : s ≤ most_of bound.Stamps) (few : counted_bytes k.seen + sum_by counted_change cs ≤ most_of bound.Trail) (short : sound → HasLongKey k.base k.seen t.0 cs → ⊥)
    (few_cells : sound → WritesManyCells k.base k.seen t.0 cs → ⊥) (light : sound → WritesManyBytes k.base k.seen t.0 cs → ⊥) where
  pub did_begin : DidBegin sound k (record k { seen = es }) t cs (record { table = t; stamp = s })
  did_begin = record {
    table = refl;
    adds = record { between = k; sees = stays k legal; extends = record { calls = calls; seen = is; seat = refl; base = refl; damaged = refl; as_alone = refl; legal = legal' } };
    stamp = early;
    trail = subst (λ (ys : List Entry). counted_bytes ys ≤ most_of bound.Trail) (sym is) (let more = counted_more k.seen (record { seat = k.seat; calls = calls; act = Begun t s cs }) in omega (arith, more, few));
    short = short;
    few = few_cells;
    light = light;
  }
