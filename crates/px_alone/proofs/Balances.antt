-- What a seat did for an item that isn't refused for the disk's sake is ended and closed.
use Rattle.std.proofs.Common.{ℕ, ◌≡◌, ◌⊎◌, true, List, [], ◌∷◌, ◌++◌, take, refl, sym, subst, inl, inr}
use Rattle.px_lex.specs.Script.{SeenPiece}
use Rattle.px_values.specs.declared.change.Change.{Change}
use Rattle.px_values.specs.declared.name.IndexId.{IndexId}
use Rattle.px_values.specs.declared.name.TableId.{TableId}
use Rattle.px_tables.specs.declared.index.IndexState.TheVariants.{Active, Disabled}
use Rattle.px_trail.specs.declared.entry.Act.{Act}
use Rattle.px_calls.specs.Calls.{act_of, index_id_made}
use Rattle.px_calls.specs.Known.{Known}
use Rattle.px_calls.specs.declared.definition.Definition.{Definition}
use Rattle.px_calls.specs.declared.definition.Definition.TheVariants as d
use Rattle.px_calls.specs.declared.definition.Made.{Made}
use Rattle.px_calls.specs.declared.ticket.Receipt.{Receipt}
use Rattle.px_batch.specs.Turns as batch
use Rattle.px_batch.specs.declared.batch.BatchFault.{BatchFault}
use Rattle.px_batch.specs.declared.batch.BatchFault.TheVariants as unmade
use Rattle.px_create.specs.Tables.{new_table}
use Rattle.px_deleting.specs.Deleting as deleting
use Rattle.px_gather.specs.Query.{Query}
use Rattle.px_planned.specs.Queries.{query_of}
use Rattle.px_planned.specs.declared.planned.Planned.{Planned}
use Rattle.px_scan.specs.Turns.{OpensAndCloses}
use Rattle.px_upkeep.specs.Turns as building
use Rattle.px_item.specs.Builds.{IsBuiltBehind}
use Rattle.px_item.specs.Right as right
use Rattle.px_item.specs.Right.{IsRight, one_change}
use Rattle.px_item.specs.declared.answered.Answered.{Answered}
use Rattle.px_item.specs.declared.answered.Settings.{Settings}
use Rattle.px_reply.specs.declared.reply.Reply.{Reply}
use Rattle.px_reply.specs.declared.reply.Reply.TheVariants as reply
use Rattle.px_alone.proofs.Balanced.{IsBalanced, balanced-append, balanced-batch, balanced-definition, balanced-none, balanced-point, balanced-state, balanced-tries, balanced-within}
use Rattle.px_alone.proofs.Outcomes.{Quiet, no-closing, quiet-by}

nothing : (own : List Act) → own ≡ [] → IsBalanced own
nothing own e = subst IsBalanced (sym e) balanced-none

found : (sound : Type 0) (p : Planned) (k : Known) (first : ℕ) (acts : List Act) (cs : List Change) → deleting.HasFoundRows sound p k first acts cs → IsBalanced acts
found sound p k first acts cs h = subst IsBalanced (sym h.outcome.1) (balanced-point _ _ _)

made : (sound : Type 0) (k : Known) (t : TableId) (parts : List (List Change)) (rs : List Receipt) (acts : List Act) → deleting.AreMade sound k t parts rs acts → IsBalanced acts
made sound k t [] [] acts m = subst IsBalanced (sym m) balanced-none
made sound k t [] (r ∷ rs) acts m = absurd m
made sound k t (cs ∷ parts) [] acts m = absurd m
made sound k t (cs ∷ parts) (r ∷ rs) acts m =
    subst IsBalanced (sym m.2) (balanced-append m.0 m.1 (subst IsBalanced (sym m.3.ended.one) (balanced-batch t r.stamp cs)) (made sound k t parts rs m.1 m.4))

tries : (t : TableId) (i : IndexId) (last own : List Act) → building.TriesThen t i last own → IsBalanced last → IsBalanced own
tries t i last own h b = subst IsBalanced (sym h.1) (balanced-append (building.acts_of_tries t i h.0) last (balanced-tries t i h.0) b)

tried : (t : TableId) (i : IndexId) (own : List Act) → building.HasTried t i own → IsBalanced own
tried t i own (inl h) = tries t i [] own h balanced-none
tried t i own (inr h) = tries t i _ own h.1 (balanced-state t i Disabled h.0)

behind : (n : ℕ) (e : Definition) (m : Made) (own rest : List Act) (k : Known) → IsBuiltBehind n e m own rest k → IsBalanced rest → IsBalanced own
behind n e m own rest k h b = subst IsBalanced (sym h.one) (balanced-append (act_of e m ∷ []) rest (balanced-definition e m) b)

-- a batch that isn't made
left : (name : List ℕ) (t : TableId) (cs : List Change) (why : BatchFault) (own : List Act) (k : Known) → batch.HasLeft t cs why own k → Quiet (reply.Refused (right.batch_refusal name why)) → IsBalanced own
left name t cs why own k (inl e) q = nothing own e
left name t cs unmade.WriteFault own k (inr h) q = no-closing q
left name t cs (unmade.Closed call) own k (inr h) q = no-closing q
left name t cs unmade.NoTable own k (inr h) q = absurd h.0
left name t cs (unmade.Limit which count) own k (inr h) q = absurd h.0
left name t cs unmade.ReadFault own k (inr h) q = absurd h.0
left name t cs (unmade.Damaged file place) own k (inr h) q = absurd h.0
left name t cs unmade.Memory own k (inr h) q = absurd h.0

left_by : (name : List ℕ) (t : TableId) (cs : List Change) (why : BatchFault) (own : List Act) (k : Known) (r : Reply) → batch.HasLeft t cs why own k → right.StopsDelete r name why → Quiet r → IsBalanced own
left_by name t cs why own k r h (inl e) q = left name t cs why own k h (quiet-by r _ e q)
left_by name t cs why own k r h (inr e) q = left name t cs why own k h (subst (λ (w : BatchFault). Quiet (reply.Refused (right.batch_refusal name w))) (sym e.1) (let z : Quiet (reply.Refused (right.batch_refusal name unmade.NoTable)) = refl in z))

point : (q : Query) (own : List Act) → (own ≡ []) ⊎ OpensAndCloses q own → IsBalanced own
point q own (inl e) = nothing own e
point q own (inr h) = subst IsBalanced (sym h.2) (balanced-point _ _ _)

pub balanced-form : (sound : Type 0) (k : Known) (before : ℕ) (own : List Act) (st : Settings) (p : SeenPiece) (a : Answered) → Quiet a.reply → IsRight sound k before own st p a → IsBalanced own
balanced-form sound k before own st p a q (right.is_at_once once none) = nothing own none
balanced-form sound k before own st p a q (right.is_unfound x read may lacking says none) = nothing own none
balanced-form sound k before own st p a q (right.is_closed x call read closed says none) = nothing own none
balanced-form sound k before own st p a q (right.is_wrong x f fault read may bound first says none) = nothing own none
balanced-form sound k before own st p a q (right.is_held u f st' read scn off bound fits holding says none) = nothing own none
balanced-form sound k before own st p a q (right.is_full u f read scn off bound fits full says none) = nothing own none
balanced-form sound k before own st p a q (right.is_committed again h rs held asks outcome says) = subst IsBalanced (sym outcome.2.one) (balanced-batch h.table outcome.0.stamp h.changes)
balanced-form sound k before own st p a q (right.is_not_committed again h fault held asks outcome since stops says) = left_by h.name h.table h.changes fault own k a.reply outcome.1 stops q
balanced-form sound k before own st p a q (right.is_counted name s read outcome says none) = nothing own none
balanced-form sound k before own st p a q (right.is_not_counted name fault read outcome since says none) = nothing own none
balanced-form sound k before own st p a q (right.is_ordered job read running says none) = nothing own none
balanced-form sound k before own st p a q (right.is_not_ordered job fault read is since says none) = nothing own none
balanced-form sound k before own st p a q (right.is_changed u f r read scn on bound fits ended says) = subst IsBalanced (sym ended.one) (balanced-batch f.table.id r.stamp (one_change f u))
balanced-form sound k before own st p a q (right.is_not_changed u f fault read scn on bound fits is since l says) = left u.table f.table.id (one_change f u) fault own k l (quiet-by a.reply _ says.0 q)
balanced-form sound k before own st p a q (right.is_defined x f m e read scn bound fits is none made says) = subst IsBalanced (sym made.one) (balanced-definition e m)
balanced-form sound k before own st p a q (right.is_not_defined x f fault e read scn bound fits is why since none says) = nothing own none
balanced-form sound k before own st p a q (right.is_created t m read one scn fits made says) = subst IsBalanced (sym made.one) (balanced-definition (d.Table (new_table t)) m)
balanced-form sound k before own st p a q (right.is_not_created t fault read one scn fits why since none says) = nothing own none
balanced-form sound k before own st p a q (right.is_index_built x f e t m c rest read scn bound fits is builds after built asked says) =
    behind a.first e m own rest k after (tries t (index_id_made m) _ rest built.1 (balanced-within t c.stamp true _ (balanced-state t (index_id_made m) Active c.stamp)))
balanced-form sound k before own st p a q (right.is_index_not_built x f e t m rest fault read scn bound fits is builds after built says) = behind a.first e m own rest k after (tried t (index_id_made m) rest built.1)
balanced-form sound k before own st p a q (right.is_index_absent i f read scn bound exists absent says none) = nothing own none
balanced-form sound k before own st p a q (right.is_selected y f x r read bound asked outcome shows) = subst IsBalanced (sym outcome.1) (balanced-point _ _ _)
balanced-form sound k before own st p a q (right.is_not_selected y f x fault read bound asked outcome since says) = point (query_of x) own outcome.1
balanced-form sound k before own st p a q (right.is_deleted x f m read scn on bound fits h first says) =
    subst IsBalanced (sym h.own_is) (balanced-append h.finding h.making (found sound (right.deletion_query f x) k m.first h.finding h.changes h.found) (made sound k f.table.id h.parts a.receipts h.making h.made))
balanced-form sound k before own st p a q (right.is_not_deleted x f fault read scn on bound fits h since stops says) =
    subst IsBalanced (sym h.own_is) (balanced-append h.finding (h.making ++ h.stopping) (found sound (right.deletion_query f x) k h.first h.finding h.changes h.found)
    (balanced-append h.making h.stopping (made sound k f.table.id h.parts a.receipts h.making h.made) (left_by x.table f.table.id (take 1000 h.rest) fault h.stopping k a.reply h.outcome.1 stops q)))
balanced-form sound k before own st p a q (right.is_not_found x f fault read scn bound fits outcome since says) = point (query_of (right.deletion_query f x)) own outcome.1
balanced-form sound k before own st p a q (right.are_held x f first cs st' read scn off bound fits h from holding says) = found sound (right.deletion_query f x) k first own cs h
balanced-form sound k before own st p a q (right.are_too_many x f first cs read scn off bound fits h from many says) = found sound (right.deletion_query f x) k first own cs h
balanced-form sound k before own st p a q (right.is_explained y f x read bound planned says none) = nothing own none
balanced-form sound k before own st p a q (right.is_not_explained y f read bound planned says none) = nothing own none
