-- What the definitions of indexes answer.
use Rattle.std.proofs.Common.{◌≡◌, ◌≤◌, ℕ, Some, List, [], ◌∷◌, ◌++◌, length, refl}
use Rattle.px_values.specs.Limits.{most_of}
use Rattle.px_values.specs.declared.limit.Limit.TheVariants as bound
use Rattle.px_values.specs.declared.name.IndexId.{IndexId}
use Rattle.px_values.specs.declared.name.TableId.{TableId}
use Rattle.px_tables.specs.declared.index.IndexState.TheVariants.{Active}
use Rattle.px_tables.specs.declared.index.NewIndex.{NewIndex}
use Rattle.px_trail.specs.Legal.{IsLegal}
use Rattle.px_trail.specs.declared.entry.Act.TheVariants.{Dropped, IndexMade, IndexState}
use Rattle.px_trail.specs.declared.entry.Entry.{Entry}
use Rattle.px_calls.specs.Calls.{DidDefine}
use Rattle.px_calls.specs.Known.{Known}
use Rattle.px_calls.specs.declared.definition.Definition.TheVariants as d
use Rattle.px_server.proofs.Seen.{one_more}

-- an index is made
pub did_make : (k : Known) → IsLegal k.base k.seen → (what : NewIndex) (i : IndexId) (s : ℕ) → s ≤ most_of bound.Stamps → (calls : ℕ) (then : List Entry) → then ≡ k.seen ++ record { seat = k.seat; calls = calls; act = IndexMade what.table i s what } ∷ [] → IsLegal k.base then → (n : ℕ) → n ≡ length then
    → DidDefine k (record k { seen = then }) (d.Index what) (record { number = i.0; stamp = s; at = n })
did_make k legal what i s most calls then is next n at = record { adds = one_more k then calls (IndexMade what.table i s what) legal is next; made = most; at = at }

-- an index is active, or dropped
pub did_activate : (k : Known) → IsLegal k.base k.seen → (t : TableId) (i : IndexId) (s calls : ℕ) (then : List Entry) → then ≡ k.seen ++ record { seat = k.seat; calls = calls; act = IndexState t i Active s } ∷ [] → IsLegal k.base then → (n : ℕ) → n ≡ length then
    → DidDefine k (record k { seen = then }) (d.Active t i) (record { number = i.0; stamp = s; at = n })
did_activate k legal t i s calls then is next n at = record { adds = one_more k then calls (IndexState t i Active s) legal is next; made = refl; at = at }

pub did_drop : (k : Known) → IsLegal k.base k.seen → (t : TableId) (i : IndexId) (calls : ℕ) (then : List Entry) → then ≡ k.seen ++ record { seat = k.seat; calls = calls; act = Dropped t (Some i) } ∷ [] → IsLegal k.base then → (n : ℕ) → n ≡ length then
    → DidDefine k (record k { seen = then }) (d.DropIndex t i) (record { number = i.0; stamp = 0; at = n })
did_drop k legal t i calls then is next n at = record { adds = one_more k then calls (Dropped t (Some i)) legal is next; made = (refl, refl); at = at }
