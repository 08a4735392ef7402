-- The rows that a DELETE finds, where nothing changes under it, are those that stood.
use Rattle.std.proofs.Common.{ℕ, ◌≡◌, ◌≤◌, ◌+◌, ◌-◌, if◌then◌else◌, Bool, false, Option, None, Some, List, [], ◌∷◌, ◌++◌, length, take, refl, sym, ◌∙◌, ap, subst, arith, append_assoc, inl, inr, Ok, true}
use Rattle.std.proofs.lemmas.List.{append-nil, length-append}
use Rattle.px_values.specs.declared.change.Change.{Change}
use Rattle.px_ast.specs.declared.statement.Delete.{Delete}
use Rattle.px_bind.specs.Queries.{filter_of}
use Rattle.px_tables.specs.declared.found.Found.{Found}
use Rattle.px_tables.specs.declared.table.Table.{Table}
use Rattle.px_trail.specs.Legal.{IsLegal}
use Rattle.px_trail.specs.Trail.{Base, acts_by}
use Rattle.px_trail.specs.declared.entry.Act.{Act}
use Rattle.px_trail.specs.declared.entry.Entry.{Entry}
use Rattle.px_calls.specs.Known.{Known, outline}
use Rattle.px_deleting.specs.Asking.{query_for}
use Rattle.px_deleting.specs.Deleting as deleting
use Rattle.px_gather.specs.Answers.{IsPointOfQuery}
use Rattle.px_plan.specs.Asked.{asked_of}
use Rattle.px_plan.specs.declared.plan.Asked.{Asked as Asks}
use Rattle.px_planned.specs.Queries.{query_of}
use Rattle.px_planned.specs.declared.planned.Planned.{Planned}
use Rattle.px_answers.specs.Selects.{IsSelectBy}
use Rattle.px_select.specs.Selecting.{IsSelectAnswer}
use Rattle.px_select.specs.declared.run.Selected.{Selected}
use Rattle.px_item.specs.Right as right
use Rattle.px_ast.specs.declared.statement.Statement.TheVariants as s
use Rattle.px_batch.specs.declared.batch.BatchFault.TheVariants as unmade
use Rattle.px_bind.specs.Queries.{delete_faults}
use Rattle.px_reply.specs.declared.refusal.Refusal.TheVariants as refusal
use Rattle.px_values.specs.declared.limit.Limit.{Limit}
use Rattle.px_calls.specs.declared.ticket.Receipt.{Receipt}
use Rattle.px_deleting.specs.declared.deleted.Removed.{Removed}
use Rattle.px_removals.specs.Removals.{AreRemovals}
use Rattle.px_item.specs.declared.answered.After.TheVariants as next_is
use Rattle.px_item.specs.declared.answered.Answered.{Answered}
use Rattle.px_item.specs.declared.answered.Settings.{Settings}
use Rattle.px_lex.specs.Script.{SeenPiece}
use Rattle.px_reply.specs.declared.reply.Reply.TheVariants as reply
use Rattle.px_values.specs.declared.name.TableId.{TableId}
use Rattle.px_values.specs.declared.print.CountWord.TheVariants.{Affected}
use Rattle.px_alone.specs.Alone.{tables_at}
use Rattle.px_alone.specs.Answers.{AreBatchesDone, ComesAlone, AreRowsFound, IsQueryAnswered, batches}
use Rattle.px_alone.specs.Answers as comes
use Rattle.px_alone.specs.Tables.{HasTable, after_all}
use Rattle.px_alone.proofs.Batching.{batches-made, changes-append, done-all, kept-made, paired-made, same-front, stamps-batches, stamps_told}
use Rattle.px_alone.proofs.Calm.{AreCalm, changed-tables, take-past, with_horizon}
use Rattle.px_alone.proofs.Limits.{refused-by}
use Rattle.px_alone.proofs.Finding.{catalogue-at, defs-changes, defs_in}
use Rattle.px_calls.specs.Causes.{LacksTable, batch_limit}
use Rattle.px_trail.specs.Trail.{Catalogue, catalogue_of, horizon_of}
use Rattle.px_alone.proofs.Forms.{DeletesRows, FindsRows, StopsRows, finds_point, point_table, some_current, stopped_defs}
use Rattle.px_alone.proofs.Rows.{AllDone}
use Rattle.px_alone.proofs.Standing.{OthersQuiet, acts_of, acts-append, is_change, changes-own, changes_in, outline-append, quiet-parts}
use Rattle.px_alone.proofs.Outcomes.{no-closing, no-device, no-memory, outcome_of, quiet-by, stamps_in}
use Rattle.px_trail.proofs.Growth.{legal-prefix}

take-front : (xs ys : List Entry) → take (length xs) (xs ++ ys) ≡ xs
take-front [] ys = refl
take-front (x ∷ xs) ys = ap (λ (l : List Entry). x ∷ l) (take-front xs ys)

-- an answer rests on the base and on what was seen alone
again : (sound : Type 0) (k k' : Known) (p : Planned) (scn : Option ℕ) (a : Selected) → k.base ≡ k'.base → k.seen ≡ k'.seen → IsSelectAnswer sound k p scn a → IsSelectAnswer sound k' p scn a
again sound k k' p scn a base seen h = record {
  point = h.point;
  is_point = subst (λ (l : List Entry). IsPointOfQuery k'.base l (query_of p) scn h.point) seen (subst (λ (b : Base). IsPointOfQuery b k.seen (query_of p) scn h.point) base h.is_point);
  at = h.at;
  path = h.path;
  chosen = h.chosen;
  taken = h.taken;
  answer = λ is. subst (λ (l : List Entry). IsSelectBy k'.base l p scn h.point.found h.path.by a.first a.last a.shown) seen (subst (λ (b : Base). IsSelectBy b k.seen p scn h.point.found h.path.by a.first a.last a.shown) base (h.answer is));
}

cancel-front : (pre xs ys : List Entry) → pre ++ xs ≡ pre ++ ys → xs ≡ ys
cancel-front [] xs ys h = h
cancel-front (e ∷ pre) xs ys h = cancel-front pre xs ys (let r : pre ++ xs ≡ pre ++ ys = cc in r)

both-none : {A : Type 0} (xs ys : List A) → xs ++ ys ≡ [] → (xs ≡ []) × (ys ≡ [])
both-none [] ys h = (refl, h)
both-none (x ∷ xs) ys h = cc

changes-parts : (xs ys : List Entry) → changes_in (acts_of (xs ++ ys)) ≡ changes_in (acts_of xs) ++ changes_in (acts_of ys)
changes-parts [] ys = refl
changes-parts (e ∷ xs) ys = elim (is_change e.act) as (λ v. (if v then e.act ∷ changes_in (acts_of (xs ++ ys)) else changes_in (acts_of (xs ++ ys))) ≡ (if v then e.act ∷ changes_in (acts_of xs) else changes_in (acts_of xs)) ++ changes_in (acts_of ys)) [ true ↦ ap (λ l. e.act ∷ l) (changes-parts xs ys) | false ↦ changes-parts xs ys ]

-- a query that was answered where nothing had changed yet
module _ (sound : Type 0) (is_sound : sound) (b : Base) (pre mid later : List Entry) (seat : ℕ) (damaged : ℕ → ℕ → Bool) (legal : IsLegal b (pre ++ (mid ++ later))) (done : AllDone pre) (quiet : OthersQuiet seat (mid ++ later)) (calm : AreCalm mid) where
  rows-at : (k : Known) → k.base ≡ b → (y : Delete) (f : Found) (first : ℕ) (own : List Act) (cs : List Change) → HasTable (tables_at b pre) f y.table → length pre ≤ first → (h : deleting.HasFoundRows sound (right.deletion_query f y) k first own cs) → h.past.seen ≡ pre ++ mid
      → (g : Found) × HasTable (tables_at b pre) g y.table × (g.table ≡ f.table) × AreRowsFound (tables_at b pre) g y cs
  rows-at k base y f first own cs finds from h seen =
      let past : Known = h.past in
      let ans : Selected = h.answer in
      let a : Asks = asked_of (query_for f.table (filter_of f.table.columns y.filter)) in
      let on : ans.first ≤ ans.last = h.outcome.2 in
      let low : length pre ≤ ans.first = (let e = h.opened in omega arith) in
      let quiet' : OthersQuiet seat mid = (quiet-parts seat mid later quiet).0 in
      let legal' : IsLegal b (pre ++ mid) = legal-prefix b (pre ++ mid) later (subst (λ (l : List Entry). IsLegal b l) (sym (append_assoc pre mid later)) legal) in
      let own' : List Act = outline (acts_by seat mid) in
      let none' : changes_in own' ≡ [] = sym (changes-own seat mid quiet') ∙ calm in
      let answer : IsSelectAnswer sound (record { seat = seat; base = b; damaged = damaged; alone = false; seen = pre ++ mid }) (record { table = f.table; asked = a }) None ans =
      again sound past (record { seat = seat; base = b; damaged = damaged; alone = false; seen = pre ++ mid }) (record { table = f.table; asked = a }) None ans (sym h.was.base ∙ base) seen h.outcome.0 in
      let same : answer.point.found.table ≡ f.table = point_table sound is_sound b pre mid seat damaged legal' done quiet' own' refl (record { table = f.table; asked = a }) None ans f y.table refl (ap defs_in none') low finds answer in
      let at : HasTable (tables_at b pre) answer.point.found answer.point.found.table.name = finds_point sound is_sound b pre mid seat damaged legal' done quiet' own' refl (record { table = f.table; asked = a }) None ans (ap defs_in none') low answer in
      let chosen : IsQueryAnswered (tables_at b pre) answer.point.found None a ans.shown.rows = some_current sound is_sound b pre mid seat damaged legal' done quiet' own' refl f a ans calm low on answer same in (
        answer.point.found,
        record { table = at.table; named = ap (λ (t : Table). t.name) same ∙ finds.named; indexes = at.indexes; rising = at.rising },
        same,
        record {
          keys = ans.shown.rows;
          selected = subst (λ (t : Table). IsQueryAnswered (tables_at b pre) answer.point.found None (asked_of (query_for t (filter_of t.columns y.filter))) ans.shown.rows) (sym same) chosen;
          removals = subst (λ (t : Table). AreRemovals t.key ans.shown.rows cs) (sym same) h.removals;
        },
      )

module _ (sound : Type 0) (is_sound : sound) (b : Base) (pre more : List Entry) (seat : ℕ) (damaged : ℕ → ℕ → Bool) (legal : IsLegal b (pre ++ more)) (done : AllDone pre) (quiet : OthersQuiet seat more) where
  abbrev k : Known
  k = record { seat = seat; base = b; damaged = damaged; alone = false; seen = pre ++ more }

  -- what was seen when the rows had been found, and what came behind it
  record Parts (seen later : List Entry) : Type 0 where
    pub mid : List Entry
    pub seen_is : seen ≡ pre ++ mid
    pub more_is : more ≡ mid ++ later

  parts : (seen later : List Entry) → length pre ≤ length seen → pre ++ more ≡ seen ++ later → Parts seen later
  parts seen later far is =
      let j : ℕ = length seen - length pre in
      let on : length seen ≡ length pre + j = omega arith in
      let front : seen ≡ pre ++ take j more = sym (take-front seen later) ∙ (ap (take (length seen)) (sym is) ∙ (ap (λ (n : ℕ). take n (pre ++ more)) on ∙ take-past pre more j)) in
      record {
        mid = take j more;
        seen_is = front;
        more_is = cancel-front pre more (take j more ++ later) (is ∙ (ap (λ (l : List Entry). l ++ later) front ∙ append_assoc pre (take j more) later));
      }

  far_of : (p : Planned) (first : ℕ) (own : List Act) (cs : List Change) → length pre ≤ first → (h : deleting.HasFoundRows sound p k first own cs) → length pre ≤ length h.past.seen
  far_of p first own cs from h = (let e = h.outcome.3 in let o = h.outcome.2 in let f = h.opened in omega arith)

  -- the rows, by the part up to which nothing had changed
  rows-by : (y : Delete) (f : Found) (first : ℕ) (own : List Act) (cs : List Change) → HasTable (tables_at b pre) f y.table → length pre ≤ first → (h : deleting.HasFoundRows sound (right.deletion_query f y) k first own cs) → (z : Parts h.past.seen h.was.more) → AreCalm z.mid
      → (g : Found) × HasTable (tables_at b pre) g y.table × (g.table ≡ f.table) × AreRowsFound (tables_at b pre) g y cs
  rows-by y f first own cs finds from h z calm =
      rows-at sound is_sound b pre z.mid h.was.more seat damaged (subst (λ (l : List Entry). IsLegal b (pre ++ l)) z.more_is legal) done (subst (OthersQuiet seat) z.more_is quiet) calm k refl y f first own cs finds from h z.seen_is

  pub rows-found : FindsRows sound is_sound b pre more seat damaged legal done quiet (outline (acts_by seat more)) refl
  rows-found y f first cs finds none from h =
      let z = parts h.past.seen h.was.more (far_of (right.deletion_query f y) first _ cs from h) h.was.seen in
      let calm : AreCalm more = changes-own seat more quiet ∙ none in
      rows-by y f first _ cs finds from h z ((both-none (changes_in (acts_of z.mid)) (changes_in (acts_of h.was.more)) (sym (changes-parts z.mid h.was.more) ∙ (ap (λ (l : List Entry). changes_in (acts_of l)) (sym z.more_is) ∙ calm))).0)

  -- the seat found the rows, and then did this
  calm_before : (p : Planned) (first : ℕ) (finding making : List Act) (cs : List Change) → outline (acts_by seat more) ≡ finding ++ making → (h : deleting.HasFoundRows sound p k first finding cs) → outline (acts_by seat h.was.more) ≡ making → (z : Parts h.past.seen h.was.more) → AreCalm z.mid
  calm_before p first finding making cs own h behind z =
      let both : outline (acts_by seat z.mid) ++ making ≡ finding ++ making =
      ap (λ (l : List Act). outline (acts_by seat z.mid) ++ l) (sym behind) ∙ (sym (outline-append (acts_by seat z.mid) (acts_by seat h.was.more)) ∙ (ap outline (sym (acts-append seat z.mid h.was.more)) ∙ (ap (λ (l : List Entry). outline (acts_by seat l)) (sym z.more_is) ∙ own))) in
      let did : outline (acts_by seat z.mid) ≡ finding = same-front (outline (acts_by seat z.mid)) finding making both in
      changes-own seat z.mid (quiet-parts seat z.mid h.was.more (subst (OthersQuiet seat) z.more_is quiet)).0 ∙ ap changes_in (did ∙ h.outcome.1)

  -- a DELETE all of whose batches were made
  pub deleted-form : (st : Settings) (p : SeenPiece) (a : Answered) (y : Delete) (f : Found) (rs : List Receipt) (m : Removed) → length pre ≤ m.first → right.IsReadItem p (Ok (s.Delete y)) → st.scn ≡ None → st.autocommit ≡ true → HasTable (tables_at b pre) f y.table → delete_faults f.table.columns y ≡ []
      → (h : deleting.HasRemoved sound (right.deletion_query f y) (outline (acts_by seat more)) k rs m) → a.reply ≡ reply.Count m.rows Affected → a.after ≡ next_is.Next st → ComesAlone (tables_at b pre) st p (outcome_of (outline (acts_by seat more)) a)
  deleted-form st p a y f rs m from read scn on finds fits h told still =
      let own : List Act = outline (acts_by seat more) in
      let t : TableId = f.table.id in
      let z = parts h.found.past.seen h.found.was.more (far_of (right.deletion_query f y) m.first h.finding h.changes from h.found) h.found.was.seen in
      let g = rows-by y f m.first h.finding h.changes finds from h.found z (calm_before (right.deletion_query f y) m.first h.finding h.making h.changes h.own_is h.found h.found_first z) in
      let only : changes_in own ≡ batches t h.parts (stamps_told rs) =
      ap changes_in h.own_is ∙ (changes-append h.finding h.making ∙ (ap (λ (l : List Act). changes_in l ++ changes_in h.making) h.found.outcome.1 ∙ batches-made sound k t h.parts rs h.making h.made)) in
      let paired = paired-made sound k t h.parts rs h.making h.made in
      let drew : stamps_in (changes_in own) ≡ stamps_told rs = ap stamps_in only ∙ stamps-batches t h.parts (stamps_told rs) paired in
      let dealt : AreBatchesDone (tables_at b pre) t h.parts (stamps_told rs) = done-all sound is_sound b pre more t h.parts (stamps_told rs) legal (kept-made sound k t h.parts rs h.making h.made) (changes-own seat more quiet ∙ only) in
      comes.is_deleted y g.0 h.changes h.parts (stamps_told rs) read scn on g.1 (subst (λ (w : Table). delete_faults w.columns y ≡ []) (sym g.2) fits) g.3 h.split
      (subst (λ (w : Table). AreBatchesDone (tables_at b pre) w.id h.parts (stamps_told rs)) (sym g.2) dealt)
      (λ i. record { stamps = drew i; reply = (told ∙ ap (λ (n : ℕ). reply.Count n Affected) h.rows) i; next = still i; acts = (only ∙ ap (λ (w : Table). batches w.id h.parts (stamps_told rs)) (sym g.2)) i })

  -- one that is stopped by a limit, where its rows were found behind the beginning
  pub stopped-form : (st : Settings) (p : SeenPiece) (a : Answered) (y : Delete) (f : Found) (rs : List Receipt) (which : Limit) (count : ℕ) → right.IsReadItem p (Ok (s.Delete y)) → st.scn ≡ None → st.autocommit ≡ true → HasTable (tables_at b pre) f y.table → delete_faults f.table.columns y ≡ []
      → (h : deleting.HasStopped sound (right.deletion_query f y) (outline (acts_by seat more)) k rs (unmade.Limit which count)) → length pre ≤ h.first → batch_limit sound f.table.id.0 (take 1000 h.rest) which k → a.reply ≡ reply.Refused (refusal.Limit which) → a.after ≡ next_is.Next st
      → ComesAlone (tables_at b pre) st p (outcome_of (outline (acts_by seat more)) a)
  stopped-form st p a y f rs which count read scn on finds fits h from limit told still =
      let own : List Act = outline (acts_by seat more) in
      let t : TableId = f.table.id in
      let nothing : h.stopping ≡ [] = elim h.outcome.1 [ inl e ↦ e | inr e ↦ absurd e.0 ] in
      let behind : outline (acts_by seat h.found.was.more) ≡ h.making = h.found_first ∙ (ap (λ (l : List Act). h.making ++ l) nothing ∙ append-nil h.making) in
      let own_is : own ≡ h.finding ++ h.making = h.own_is ∙ ap (λ (l : List Act). h.finding ++ l) (ap (λ (l : List Act). h.making ++ l) nothing ∙ append-nil h.making) in
      let z = parts h.found.past.seen h.found.was.more (far_of (right.deletion_query f y) h.first h.finding h.changes from h.found) h.found.was.seen in
      let g = rows-by y f h.first h.finding h.changes finds from h.found z (calm_before (right.deletion_query f y) h.first h.finding h.making h.changes own_is h.found behind z) in
      let only : changes_in own ≡ batches t h.parts (stamps_told rs) =
      ap changes_in own_is ∙ (changes-append h.finding h.making ∙ (ap (λ (l : List Act). changes_in l ++ changes_in h.making) h.found.outcome.1 ∙ batches-made sound k t h.parts rs h.making h.made)) in
      let paired = paired-made sound k t h.parts rs h.making h.made in
      let drew : stamps_in (changes_in own) ≡ stamps_told rs = ap stamps_in only ∙ stamps-batches t h.parts (stamps_told rs) paired in
      let dealt : AreBatchesDone (tables_at b pre) t h.parts (stamps_told rs) = done-all sound is_sound b pre more t h.parts (stamps_told rs) legal (kept-made sound k t h.parts rs h.making h.made) (changes-own seat more quiet ∙ only) in
      let over : comes.IsOfBatch (after_all (tables_at b pre) (batches t h.parts (stamps_told rs))) t.0 (take 1000 h.rest) which =
      refused-by sound is_sound k (after_all (tables_at b pre) (batches t h.parts (stamps_told rs))) (λ u. horizon_of b u (pre ++ more))
      (changed-tables b pre more ∙ ap (λ (l : List Act). with_horizon (after_all (tables_at b pre) l) (λ u. horizon_of b u (pre ++ more))) (changes-own seat more quiet ∙ only)) t.0 (take 1000 h.rest) which limit in
      comes.is_not_deleted y g.0 h.changes h.rest h.parts (stamps_told rs) which read scn on g.1 (subst (λ (w : Table). delete_faults w.columns y ≡ []) (sym g.2) fits) g.3 h.split h.some
      (subst (λ (w : Table). AreBatchesDone (tables_at b pre) w.id h.parts (stamps_told rs)) (sym g.2) dealt) (subst (λ (w : Table). comes.IsOfBatch (after_all (tables_at b pre) (batches w.id h.parts (stamps_told rs))) w.id.0 (take 1000 h.rest) which) (sym g.2) over)
      (λ i. record { stamps = drew i; reply = told i; next = still i; acts = (only ∙ ap (λ (w : Table). batches w.id h.parts (stamps_told rs)) (sym g.2)) i })

  stands_late : {A : Type 0} → (f : Found) (name : List ℕ) → defs_in (acts_of more) ≡ [] → HasTable (tables_at b pre) f name → LacksTable k f.table.id.0 → A
  stands_late f name none h lacks =
      let whole : take (length (pre ++ more)) (pre ++ more) ≡ pre ++ more = ap (take (length (pre ++ more))) (sym (append-nil (pre ++ more))) ∙ take-front (pre ++ more) [] in
      let far : length pre ≤ length (pre ++ more) = omega (arith, length-append pre more) in
      let same : catalogue_of b (pre ++ more) ≡ catalogue_of b pre = ap (catalogue_of b) (sym whole) ∙ catalogue-at b pre more none (length (pre ++ more)) far in
      (let e : ◌≡◌ {A = Option Table} (Some f.table) None = sym h.table ∙ (ap (λ (c : Catalogue). c.tables f.table.id.0) (sym same) ∙ lacks) in cc)

  pub deletes-rows : DeletesRows sound is_sound b pre more seat damaged legal done quiet (outline (acts_by seat more)) refl
  deletes-rows st p a y f m from read scn on finds fits h told still = deleted-form st p a y f a.receipts m from read scn on finds fits h told still

  pub stops-rows : StopsRows sound is_sound b pre more seat damaged legal done quiet (outline (acts_by seat more)) refl
  stops-rows st p a y f why q read scn on finds fits h from (inr lack) still = no-memory (quiet-by a.reply _ lack.0 q)
  stops-rows st p a y f unmade.NoTable q read scn on finds fits h from (inl told) still =
      let defs = stopped_defs sound is_sound b pre more seat damaged legal done quiet (outline (acts_by seat more)) refl (right.deletion_query f y) a.receipts unmade.NoTable y.table (quiet-by a.reply _ told q) h in
      stands_late f y.table (defs-changes (acts_of more) ∙ (ap defs_in (changes-own seat more quiet) ∙ defs)) finds h.outcome.0
  stops-rows st p a y f (unmade.Limit which count) q read scn on finds fits h from (inl told) still =
      stopped-form st p a y f a.receipts which count read scn on finds fits h from h.outcome.0.2 told still
  stops-rows st p a y f unmade.ReadFault q read scn on finds fits h from (inl told) still = no-device (quiet-by a.reply _ told q)
  stops-rows st p a y f unmade.WriteFault q read scn on finds fits h from (inl told) still = no-closing (quiet-by a.reply _ told q)
  stops-rows st p a y f (unmade.Damaged file place) q read scn on finds fits h from (inl told) still = no-device (quiet-by a.reply _ told q)
  stops-rows st p a y f (unmade.Closed call) q read scn on finds fits h from (inl told) still = no-closing (quiet-by a.reply _ told q)
  stops-rows st p a y f unmade.Memory q read scn on finds fits h from (inl told) still = no-memory (quiet-by a.reply _ told q)
