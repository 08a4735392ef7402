-- How a scan goes on, over plain variables.
use Rattle.std.proofs.Common.{ℕ, ◌≡◌, Bool, true, false, Option, None, Some, Ok, Err, List, [], ◌∷◌, ◌++◌, length, refl, sym, ◌∙◌, ap, subst}
use Rattle.std.specs.Prelude.{Vec}
use Rattle.std.specs.declared.alloc.Global.{Global}
use Rattle.px_trail.specs.declared.entry.Entry.{Entry}
use Rattle.px_trail.specs.Answers.{Given}
use Rattle.px_tables.specs.declared.found.Found.{Found}
use Rattle.px_calls.specs.declared.query.By.{By}
use Rattle.px_calls.specs.declared.query.Chunk.{Chunk}
use Rattle.px_calls.specs.declared.query.Doubt.{Doubt}
use Rattle.px_calls.specs.declared.query.FoundKey.{FoundKey}
use Rattle.px_calls.specs.declared.query.FoundKey.TheVariants.{Sure, InDoubt}
use Rattle.px_calls.specs.declared.query.FoundRow.{FoundRow}
use Rattle.px_calls.specs.declared.query.Path.{Path}
use Rattle.px_calls.specs.declared.query.Point.{Point}
use Rattle.px_calls.specs.Known.{Known}
use Rattle.px_calls.specs.Looks.{AreDoubtsOf, is_covered}
use Rattle.px_gather.specs.Gathered.{Ended, Frame, Gathered, Pending, is_full, kept, up_to}
use Rattle.px_gather.specs.Query.{IsPathFor, Query}
use Rattle.px_gather.proofs.Gathering as gathering
use Rattle.px_scan.specs.declared.answer.Placed.{Placed}
use Rattle.px_scan.specs.declared.answer.QueryFault.{QueryFault}
use Rattle.px_scan.specs.declared.answer.QueryFault.TheVariants as fault
use Rattle.px_scan.specs.declared.machine.QueryState.{QueryState}
use Rattle.px_scan.specs.declared.machine.QueryState.TheVariants as state
use Rattle.px_scan.specs.declared.machine.Rest.{Rest}
use Rattle.px_scan.specs.declared.machine.Scan.{Scan}
use Rattle.px_scan.specs.Turns.{GoesOn, IsNext, IsReadingAt, IsScanning, frame, frame_of, given_of}
use Rattle.px_scan.proofs.Turning.{fewer-doubts, goes-ended, goes-failed, goes-looking}

-- what was told of the rows as they are read is told of them
pub full-of : (f : Frame) (q : Query) (rows seen : List Placed) (v b : Bool) → f.query ≡ q → seen ≡ rows → v ≡ is_full q.limit (length (given_of seen)) → v ≡ b → is_full f.query.limit (length (given_of rows)) ≡ b
full-of f q rows seen v b e s h t = ap (λ (x : Query). is_full x.limit (length (given_of rows))) e ∙ (ap (λ (l : List Placed). is_full q.limit (length (given_of l))) (sym s) ∙ (sym h ∙ t))

-- a sure key, taken from the front
pub sure-on : (f : Frame) (es : List Entry) (at : ℕ) (next : Option (List ℕ)) (q : Query) (keys rest : List FoundKey) (key : FoundKey) (x : FoundRow) (rows rows' : List Given)
    → f.query ≡ q → IsPathFor f.query f.point f.path → Pending f es at keys next rows → keys ≡ key ∷ rest → key ≡ Sure x → is_full f.query.limit (length rows) ≡ false → rows' ≡ rows ++ kept q x.row at → Pending f es at rest next rows'
sure-on f es at next q keys rest key x rows rows' e path h items is free more =
    let one : Pending f es at (Sure x ∷ rest) next rows = subst (λ (k : FoundKey). Pending f es at (k ∷ rest) next rows) is (subst (λ (l : List FoundKey). Pending f es at l next rows) items h) in
    let two : Pending f es at rest next (rows ++ kept f.query x.row at) = gathering.pending-sure f es at x rest next rows path free one in
    subst (λ (l : List Given). Pending f es at rest next l) (sym (more ∙ ap (λ (w : Query). rows ++ kept w x.row at) (sym e))) two

pub doubt-on : (f : Frame) (es : List Entry) (at : ℕ) (next : Option (List ℕ)) (keys rest : List FoundKey) (key : FoundKey) (d : Doubt) (rows : List Given)
    → Pending f es at keys next rows → keys ≡ key ∷ rest → key ≡ InDoubt d → Pending f es at (InDoubt d ∷ rest) next rows
doubt-on f es at next keys rest key d rows h items is = subst (λ (k : FoundKey). Pending f es at (k ∷ rest) next rows) is (subst (λ (l : List FoundKey). Pending f es at l next rows) items h)

-- the keys ended
pub none-on : (f : Frame) (es : List Entry) (at : ℕ) (next : Option (List ℕ)) (keys : List FoundKey) (rows : List Given) → Pending f es at keys next rows → keys ≡ [] → Pending f es at [] next rows
none-on f es at next keys rows h items = subst (λ (l : List FoundKey). Pending f es at l next rows) items h

pub ended-on : (sound : Type 0) (k : Known) (q : Query) (scn : Option ℕ) (p : Point) (path : Path) (rows : Vec Placed Global) (new : QueryState) → new ≡ state.Closing p (Ok rows) → IsReadingAt k q scn p → IsPathFor q p path → (sound → Ended (frame_of q k p path) k.seen (given_of rows.items)) → GoesOn sound k q scn p new
ended-on sound k q scn p path rows new is h c e = subst (λ (n : QueryState). GoesOn sound k q scn p n) (sym is) (goes-ended sound k q scn p path rows h c e)

-- the path ended
pub all-on : (sound : Type 0) (k : Known) (q : Query) (scn : Option ℕ) (x : Scan) (at : ℕ) (next : Option (List ℕ)) (new : QueryState) → new ≡ state.Closing x.point (Ok x.rows) → next ≡ None → IsReadingAt k q scn x.point → IsPathFor q x.point x.path → (sound → Pending (frame q k x) k.seen at [] next (given_of x.rows.items)) → GoesOn sound k q scn x.point new
all-on sound k q scn x at next new is none h path p =
    ended-on sound k q scn x.point x.path x.rows new is h path
    (λ is_sound. gathering.ended-all (frame q k x) k.seen (given_of x.rows.items)
    (subst (λ (n : Option (List ℕ)). Gathered (frame q k x) k.seen (is_covered n) (given_of x.rows.items)) none (gathering.pending-end (frame q k x) k.seen at next (given_of x.rows.items) (p is_sound))))

pub full-on : (sound : Type 0) (k : Known) (q : Query) (scn : Option ℕ) (x : Scan) (at : ℕ) (next : Option (List ℕ)) (new : QueryState) → new ≡ state.Closing x.point (Ok x.rows) → is_full q.limit (length (given_of x.rows.items)) ≡ true → IsReadingAt k q scn x.point → IsPathFor q x.point x.path → (sound → Pending (frame q k x) k.seen at [] next (given_of x.rows.items)) → GoesOn sound k q scn x.point new
full-on sound k q scn x at next new is full h path p = ended-on sound k q scn x.point x.path x.rows new is h path (λ is_sound. gathering.pending-full (frame q k x) k.seen at [] next (given_of x.rows.items) (p is_sound) full)

pub more-on : (sound : Type 0) (k : Known) (q : Query) (scn : Option ℕ) (x : Scan) (at : ℕ) (next : Option (List ℕ)) (last : List ℕ) → next ≡ Some last → IsReadingAt k q scn x.point → IsPathFor q x.point x.path → (sound → Pending (frame q k x) k.seen at [] next (given_of x.rows.items)) → GoesOn sound k q scn x.point (state.Looking x (Some last))
more-on sound k q scn x at next last is h path p =
    goes-looking sound k q scn x (Some last) h path
    (λ is_sound. subst (λ (n : Option (List ℕ)). Gathered (frame q k x) k.seen (is_covered n) (given_of x.rows.items)) is (gathering.pending-end (frame q k x) k.seen at next (given_of x.rows.items) (p is_sound)))

pub no-memory-on : (sound : Type 0) (k : Known) (q : Query) (scn : Option ℕ) (p : Point) (new : QueryState) → new ≡ state.Closing p (Err fault.Memory) → IsReadingAt k q scn p → GoesOn sound k q scn p new
no-memory-on sound k q scn p new is h = subst (λ (n : QueryState). GoesOn sound k q scn p n) (sym is) (goes-failed sound k q scn p fault.Memory h tt tt)

pub next-ok : (p : Point) (rows : Vec Placed Global) (new : QueryState) → new ≡ state.Closing p (Ok rows) → IsNext new
next-ok p rows new is = subst IsNext (sym is) tt

pub next-err : (p : Point) (f : QueryFault) (new : QueryState) → new ≡ state.Closing p (Err f) → IsNext new
next-err p f new is = subst IsNext (sym is) tt

-- the path of a point that was just opened
pub follows : (sound : Type 0) (k : Known) (q : Query) (scn : Option ℕ) (p : Point) (path : Path) (rows : Vec Placed Global) → rows.items ≡ [] → IsReadingAt k q scn p → IsPathFor q p path → GoesOn sound k q scn p (state.Looking (record { point = p; path = path; rows = rows }) None)
follows sound k q scn p path rows none h c =
    goes-looking sound k q scn (record { point = p; path = path; rows = rows }) None h c
    (λ is_sound. subst (λ (l : List Placed). Gathered (frame_of q k p path) k.seen (up_to None) (given_of l)) (sym none) (gathering.gathered-none (frame_of q k p path) k.seen))

pub joined-on : (sound : Type 0) (k : Known) (q : Query) (scn : Option ℕ) (p : Point) → IsReadingAt k q scn p → q.joins p.found p.stamp ≡ true → GoesOn sound k q scn p (state.Closing p (Err fault.IndexJoin))
joined-on sound k q scn p h j = record { fits = (h, (j, tt)); going = tt; opened_is = refl; since = λ n le. le }

-- a chunk as it is left
pub rest-scanning : (sound : Type 0) (k : Known) (q : Query) (scn : Option ℕ) (x : Scan) (c : Chunk) (r : Rest) → r.keys.items ≡ c.found → r.next ≡ c.next → r.at ≡ c.at → IsScanning sound k q scn x c.found c.next c.at → IsScanning sound k q scn x r.keys.items r.next r.at
rest-scanning sound k q scn x c r keys next at h =
    subst (λ (l : List FoundKey). IsScanning sound k q scn x l r.next r.at) (sym keys)
    (subst (λ (n : Option (List ℕ)). IsScanning sound k q scn x c.found n r.at) (sym next) (subst (λ (m : ℕ). IsScanning sound k q scn x c.found c.next m) (sym at) h))

-- the doubts that are left where a key was taken from the front
pub sure-doubts : (f : Found) (w : By) (keys rest : List FoundKey) (key : FoundKey) → AreDoubtsOf f w keys → keys ≡ key ∷ rest → AreDoubtsOf f w rest
sure-doubts f w keys rest key h items = fewer-doubts f w key rest (subst (AreDoubtsOf f w) items h)

pub doubt-doubts : (f : Found) (w : By) (keys rest : List FoundKey) (key : FoundKey) (d : Doubt) → AreDoubtsOf f w keys → keys ≡ key ∷ rest → key ≡ InDoubt d → AreDoubtsOf f w (InDoubt d ∷ rest)
doubt-doubts f w keys rest key d h items is = subst (λ (k : FoundKey). AreDoubtsOf f w (k ∷ rest)) is (subst (AreDoubtsOf f w) items h)
