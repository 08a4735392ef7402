-- Which limits a batch passes, by the tables as they stand where it is begun.
use Rattle.std.proofs.Common.{ℕ, ◌≡◌, ◌<◌, ◌≤◌, ◌⊎◌, List, [], ◌∷◌, ◌++◌, refl, sym, ◌∙◌, ap, subst, arith, inl, inr}
use Rattle.std.proofs.lemmas.Bool.{eq-eqb}
use Rattle.px_values.specs.declared.change.Change.{Change}
use Rattle.px_values.specs.declared.limit.Limit.{Limit}
use Rattle.px_values.specs.declared.limit.Limit.TheVariants as bound
use Rattle.px_values.specs.declared.name.TableId.{TableId}
use Rattle.px_keys.specs.Spelling.{spelled}
use Rattle.px_paths.specs.Paths.{columns_on, table_path}
use Rattle.px_tables.specs.declared.table.Table.{Table}
use Rattle.px_trail.specs.Legal.{Follows, IsLegal}
use Rattle.px_trail.specs.States.{greatest_stamp}
use Rattle.px_trail.specs.Trail.{Base, last_from, last_of, last_step}
use Rattle.px_trail.specs.declared.entry.Act.TheVariants.{Begun}
use Rattle.px_trail.specs.declared.entry.Entry.{Entry}
use Rattle.px_trail.proofs.Batches.{last_from-le}
use Rattle.px_trail.proofs.Growth.{last_from-append}
use Rattle.px_calls.specs.Causes.{HasLongKey, IsLong, IsLongIndexed, batch_limit}
use Rattle.px_calls.specs.Known.{Known}
use Rattle.px_batch.specs.Turns.{KeptWithin}
use Rattle.px_alone.specs.Alone.{tables_at}
use Rattle.px_alone.specs.Answers.{IsLongAlone, IsLongAloneIn, IsOfBatch, IsToldByTables, PassesNoLimit}
use Rattle.px_alone.specs.Tables.{Tables, state_in}
use Rattle.px_alone.proofs.Calm.{AreCalm, calm-tables, with_horizon}

-- 1. Horizons tell of no limit

of_horizon : (x : Tables) (h : ℕ → ℕ) (t : ℕ) (cs : List Change) (which : Limit) → IsOfBatch (with_horizon x h) t cs which → IsOfBatch x t cs which
of_horizon x h t cs bound.Key i = i
of_horizon x h t cs bound.Cells i = i
of_horizon x h t cs bound.Bytes i = i
of_horizon x h t cs bound.Stamps i = i
of_horizon x h t cs bound.Trail i = i
of_horizon x h t cs bound.Log i = i
of_horizon x h t cs bound.Region i = i
of_horizon x h t cs which i = absurd i

with_any : (x : Tables) (h : ℕ → ℕ) (t : ℕ) (cs : List Change) (which : Limit) → IsOfBatch x t cs which → IsOfBatch (with_horizon x h) t cs which
with_any x h t cs bound.Key i = i
with_any x h t cs bound.Cells i = i
with_any x h t cs bound.Bytes i = i
with_any x h t cs bound.Stamps i = i
with_any x h t cs bound.Trail i = i
with_any x h t cs bound.Log i = i
with_any x h t cs bound.Region i = i
with_any x h t cs which i = absurd i

pub none-whatever : (x : Tables) (h : ℕ → ℕ) (t : ℕ) (cs : List Change) → PassesNoLimit (with_horizon x h) t cs → PassesNoLimit x t cs
none-whatever x h t cs none which told i = none which told (with_any x h t cs which i)

-- 2. A batch that is refused

module _ (b : Base) (es : List Entry) where
  abbrev there : Tables
  there = tables_at b es

  long_there : (t : Table) (c : Change) → IsLong (spelled (columns_on (table_path t)) c.row) ⊎ IsLongIndexed b es t c → IsLong (spelled (columns_on (table_path t)) c.row) ⊎ IsLongAloneIn there.catalogue there.shapes (λ u r. state_in there u r greatest_stamp) t c
  long_there t c (inl h) = inl h
  long_there t c (inr h) = inr (record { index = h.index; is = h.is; owner = h.owner; maintained = h.maintained; long = h.long })

  pub key_there : (t : ℕ) (cs : List Change) → HasLongKey b es t cs → IsLongAlone there.catalogue there.shapes (λ u r. state_in there u r greatest_stamp) t cs
  key_there t cs h = record { table = h.table; is = h.is; change = h.change; among = h.among; long = long_there h.table h.change h.long }

  long_back : (t : Table) (c : Change) → IsLong (spelled (columns_on (table_path t)) c.row) ⊎ IsLongAloneIn there.catalogue there.shapes (λ u r. state_in there u r greatest_stamp) t c → IsLong (spelled (columns_on (table_path t)) c.row) ⊎ IsLongIndexed b es t c
  long_back t c (inl h) = inl h
  long_back t c (inr h) = inr (record { index = h.index; is = h.is; owner = h.owner; maintained = h.maintained; long = h.long })

  pub key_back : (t : ℕ) (cs : List Change) → IsLongAlone there.catalogue there.shapes (λ u r. state_in there u r greatest_stamp) t cs → HasLongKey b es t cs
  key_back t cs h = record { table = h.table; is = h.is; change = h.change; among = h.among; long = long_back h.table h.change h.long }

refused_there : (sound : Type 0) (is_sound : sound) (k : Known) (t : ℕ) (cs : List Change) (which : Limit) → batch_limit sound t cs which k → IsOfBatch (tables_at k.base k.seen) t cs which
refused_there sound is_sound k t cs bound.Key h = key_there k.base k.seen t cs (h is_sound)
refused_there sound is_sound k t cs bound.Cells h = h is_sound
refused_there sound is_sound k t cs bound.Bytes h = h is_sound
refused_there sound is_sound k t cs bound.Stamps h = h
refused_there sound is_sound k t cs bound.Trail h = tt
refused_there sound is_sound k t cs bound.Log h = tt
refused_there sound is_sound k t cs bound.Region h = tt
refused_there sound is_sound k t cs which h = absurd h

-- why it is refused, by what stands then
pub refused-by : (sound : Type 0) (is_sound : sound) (k : Known) (x : Tables) (g : ℕ → ℕ) → tables_at k.base k.seen ≡ with_horizon x g → (t : ℕ) (cs : List Change) (which : Limit) → batch_limit sound t cs which k → IsOfBatch x t cs which
refused-by sound is_sound k x g stands t cs which h =
    of_horizon x g t cs which (subst (λ (y : Tables). IsOfBatch y t cs which) stands (refused_there sound is_sound k t cs which h))

-- 3. A stamp begins one batch

front_split : (f f' : List Entry) (e e' : Entry) (r r' : List Entry) → f ++ e ∷ r ≡ f' ++ e' ∷ r' → (f ≡ f') ⊎ (((m : List Entry) × (f' ≡ f ++ e ∷ m)) ⊎ ((m : List Entry) × (f ≡ f' ++ e' ∷ m)))
front_split [] [] e e' r r' h = inl refl
front_split [] (y ∷ f') e e' r r' h = (let same : y ≡ e = cc in inr (inl (f', ap (λ (z : Entry). z ∷ f') same)))
front_split (x ∷ f) [] e e' r r' h = (let same : x ≡ e' = cc in inr (inr (f, ap (λ (z : Entry). z ∷ f) same)))
front_split (x ∷ f) (y ∷ f') e e' r r' h =
    let same : x ≡ y = cc in
    let rest : f ++ e ∷ r ≡ f' ++ e' ∷ r' = cc in
    elim (front_split f f' e e' r r' rest) [
      | inl q ↦ inl (ap (λ (z : Entry). z ∷ f) same ∙ ap (λ (l : List Entry). y ∷ l) q)
      | inr c ↦ elim c [
        | inl m ↦ inr (inl (m.0, ap (λ (z : Entry). z ∷ f') (sym same) ∙ ap (λ (l : List Entry). x ∷ l) m.1))
        | inr m ↦ inr (inr (m.0, ap (λ (z : Entry). z ∷ f) same ∙ ap (λ (l : List Entry). y ∷ l) m.1))
      ]
    ]

-- it is drawn by then
begins_last : (t : TableId) (l s : ℕ) (cs : List Change) → s ≤ last_step t.0 l (Begun t s cs)
begins_last t l s cs = (let a = eq-eqb t.0 t.0 refl in rw a (omega arith))

drawn_by : (b : Base) (t : TableId) (s : ℕ) (cs : List Change) (f m : List Entry) (e : Entry) → e.act ≡ Begun t s cs → s ≤ last_of b t.0 (f ++ e ∷ m)
unfolding last_from
drawn_by b t s cs f m e is =
    let l : ℕ = last_of b t.0 f in
    let on : last_of b t.0 (f ++ e ∷ m) ≡ last_from t.0 (last_step t.0 l e.act) m = last_from-append t.0 (b.last t.0) f (e ∷ m) in
    let up = last_from-le t.0 (last_step t.0 l e.act) m in
    let low = begins_last t l s cs in
    let same : last_step t.0 l e.act ≡ last_step t.0 l (Begun t s cs) = ap (last_step t.0 l) is in
    omega arith

-- and not before
drawn_at : (b : Base) (es : List Entry) (t : TableId) (s : ℕ) (cs : List Change) (f r : List Entry) (e : Entry) → IsLegal b es → es ≡ f ++ e ∷ r → e.act ≡ Begun t s cs → last_of b t.0 f < s
unfolding Follows
drawn_at b es t s cs f r e legal cut is =
    let may = legal.each f e r cut in
    let q : Follows b f e.seat e.calls (Begun t s cs) = subst (Follows b f e.seat e.calls) is may.follows in
    q.0

not_later : (b : Base) (es : List Entry) (t : TableId) (s : ℕ) (cs : List Change) (f f' m r' : List Entry) (e e' : Entry) → IsLegal b es → e.act ≡ Begun t s cs → es ≡ f' ++ e' ∷ r' → e'.act ≡ Begun t s cs → f' ≡ f ++ e ∷ m → ⊥
not_later b es t s cs f f' m r' e e' legal is cut' is' at =
    let above : last_of b t.0 f' < s = drawn_at b es t s cs f' r' e' legal cut' is' in
    let low : s ≤ last_of b t.0 f' = subst (λ (l : List Entry). s ≤ last_of b t.0 l) (sym at) (drawn_by b t s cs f m e is) in
    omega arith

begun_once : (b : Base) (es : List Entry) (t : TableId) (s : ℕ) (cs : List Change) (f f' r r' : List Entry) (e e' : Entry) → IsLegal b es → es ≡ f ++ e ∷ r → e.act ≡ Begun t s cs → es ≡ f' ++ e' ∷ r' → e'.act ≡ Begun t s cs → f ≡ f'
begun_once b es t s cs f f' r r' e e' legal cut is cut' is' =
    elim (front_split f f' e e' r r' (sym cut ∙ cut')) [
      | inl q ↦ q
      | inr c ↦ elim c [
        | inl m ↦ absurd (not_later b es t s cs f f' m.0 r' e e' legal is cut' is' m.1)
        | inr m ↦ absurd (not_later b es t s cs f' f m.0 r e' e legal is' cut is m.1)
      ]
    ]

-- 4. A batch that is done

none_there : (sound : Type 0) (is_sound : sound) (b : Base) (es : List Entry) (t : TableId) (cs : List Change) (s : ℕ) (w : KeptWithin sound b es t cs s) → last_of b t.0 w.front < s → (which : Limit) → IsToldByTables which → IsOfBatch (tables_at b w.front) t.0 cs which → ⊥
none_there sound is_sound b es t cs s w low bound.Key told i = w.short is_sound (key_back b w.front t.0 cs i)
none_there sound is_sound b es t cs s w low bound.Cells told i = w.few is_sound i
none_there sound is_sound b es t cs s w low bound.Bytes told i = w.light is_sound i
none_there sound is_sound b es t cs s w low bound.Stamps told i = (let most = w.stamps in omega arith)
none_there sound is_sound b es t cs s w low which told i = absurd told

-- a batch that is begun where nothing has changed yet passes no limit, by what stood
pub passes-none : (sound : Type 0) (is_sound : sound) (b : Base) (pre more : List Entry) (t : TableId) (cs : List Change) (s : ℕ) (front rest : List Entry) (e : Entry) → IsLegal b (pre ++ more) → pre ++ more ≡ (pre ++ front) ++ e ∷ rest → e.act ≡ Begun t s cs → AreCalm front → KeptWithin sound b (pre ++ more) t cs s
    → PassesNoLimit (tables_at b pre) t.0 cs
passes-none sound is_sound b pre more t cs s front rest e legal cut is calm w which told i =
    let x : Tables = tables_at b pre in
    let g : ℕ → ℕ = (tables_at b (pre ++ front)).horizon in
    let same : w.front ≡ pre ++ front = begun_once b (pre ++ more) t s cs w.front (pre ++ front) w.rest rest w.entry e legal w.is w.begins cut is in
    let stands : tables_at b w.front ≡ with_horizon x g = ap (tables_at b) same ∙ calm-tables b pre front calm in
    let low : last_of b t.0 w.front < s = drawn_at b (pre ++ more) t s cs w.front w.rest w.entry legal w.is w.begins in
    none_there sound is_sound b (pre ++ more) t cs s w low which told (subst (λ (y : Tables). IsOfBatch y t.0 cs which) (sym stands) (with_any x g t.0 cs which i))
