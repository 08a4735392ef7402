-- An act that defines: it is of one table, and leaves all others with their indexes.
use Rattle.std.proofs.Common.{◌≡◌, ◌≢◌, inl, inr, ℕ, Bool, true, false, Option, Some, None, List, [], ◌∷◌, ◌++◌, refl, sym, ap, ◌∙◌, arith}
use Rattle.std.specs.Prelude.{◌==◌, if◌then◌else◌}
use Rattle.std.proofs.lemmas.Bool.{cases_eq}
use Rattle.px_values.specs.declared.name.TableId.{TableId}
use Rattle.px_tables.specs.declared.index.Index.{Index}
use Rattle.px_tables.specs.declared.index.IndexState.{IndexState as BuildState}
use Rattle.px_tables.specs.declared.index.IndexState.TheVariants.{Building, Active, Disabled}
use Rattle.px_trail.specs.Lasting.{lasts_by}
use Rattle.px_trail.specs.Legal.{Follows, IsLegal, IsOf, MayCome}
use Rattle.px_trail.specs.Trail.{Base, Catalogue, IsCatalogue, IsRightBase, catalogue_of, catalogue_step, closing_step, index_of, made_index, made_table, of_others, set_number, table_of, with_state}
use Rattle.px_trail.specs.declared.entry.Act.{Act}
use Rattle.px_trail.specs.declared.entry.Act.TheVariants.{Made, IndexMade, IndexState, Dropped, Begun, Phase, Wrote, Ended, Opened, Released, Raised, Fixed, Based, Missed, Shut}
use Rattle.px_trail.specs.declared.entry.Entry.{Entry}
use Rattle.px_trail.proofs.Growth.{catalogue-snoc}
use Rattle.px_trail.proofs.Orders.{WritesNone}
use Rattle.px_trail.proofs.Standing.{catalogue-stands, set_number-other, set_number-same}
use Rattle.px_noting.specs.Apart.{IsApartFrom}
use Rattle.px_recovery.proofs.Drops.{others_stay}
use Rattle.px_server.specs.Kept.{tells_fault}
use Rattle.px_server.proofs.Built.{IsUnbased}

-- the act defines or drops the table, or an index of it
abbrev pub Defines : TableId → Act → Type 0
Defines t (Made u what) = u ≡ t
Defines t (IndexMade u i s what) = u ≡ t
Defines t (IndexState u i state s) = u ≡ t
Defines t (Dropped u i) = u ≡ t
Defines t act = ⊥

pub defines_lasts : (t : TableId) (act : Act) → Defines t act → lasts_by act ≡ true
defines_lasts t (Made u what) own = refl
defines_lasts t (IndexMade u i s what) own = refl
defines_lasts t (IndexState u i state s) own = refl
defines_lasts t (Dropped u i) own = refl
defines_lasts t (Begun u s cs) own = absurd own
defines_lasts t (Phase u s p) own = absurd own
defines_lasts t (Wrote u s rows) own = absurd own
defines_lasts t (Ended u s) own = absurd own
defines_lasts t (Opened u s scn) own = absurd own
defines_lasts t (Released u s) own = absurd own
defines_lasts t (Raised u h) own = absurd own
defines_lasts t (Fixed i key) own = absurd own
defines_lasts t (Based i rows) own = absurd own
defines_lasts t (Missed call) own = absurd own
defines_lasts t (Shut call) own = absurd own

lasts_quiet : (act : Act) → lasts_by act ≡ true → tells_fault act ≡ false
lasts_quiet (Made u what) is = refl
lasts_quiet (IndexMade u i s what) is = refl
lasts_quiet (IndexState u i state s) is = refl
lasts_quiet (Dropped u i) is = refl
lasts_quiet (Begun u s cs) is = refl
lasts_quiet (Phase u s p) is = refl
lasts_quiet (Wrote u s rows) is = refl
lasts_quiet (Ended u s) is = refl
lasts_quiet (Opened u s scn) is = refl
lasts_quiet (Released u s) is = refl
lasts_quiet (Raised u h) is = refl
lasts_quiet (Fixed i key) is = refl
lasts_quiet (Based i rows) is = refl
lasts_quiet (Missed call) is = absurd cc
lasts_quiet (Shut call) is = absurd cc

-- an entry that lasts tells of no fault, and closes nothing
pub defines_quiet : (t : TableId) (act : Act) → Defines t act → tells_fault act ≡ false
defines_quiet t act own = lasts_quiet act (defines_lasts t act own)

lasts_unshut : (act : Act) → lasts_by act ≡ true → closing_step None act ≡ None
lasts_unshut (Made u what) is = refl
lasts_unshut (IndexMade u i s what) is = refl
lasts_unshut (IndexState u i state s) is = refl
lasts_unshut (Dropped u i) is = refl
lasts_unshut (Begun u s cs) is = refl
lasts_unshut (Phase u s p) is = refl
lasts_unshut (Wrote u s rows) is = refl
lasts_unshut (Ended u s) is = refl
lasts_unshut (Opened u s scn) is = refl
lasts_unshut (Released u s) is = refl
lasts_unshut (Raised u h) is = refl
lasts_unshut (Fixed i key) is = refl
lasts_unshut (Based i rows) is = refl
lasts_unshut (Missed call) is = refl
lasts_unshut (Shut call) is = absurd cc

pub defines_unshut : (t : TableId) (act : Act) → Defines t act → closing_step None act ≡ None
defines_unshut t act own = lasts_unshut act (defines_lasts t act own)

differs : (t u : TableId) (q : ℕ) → u ≡ t → q ≢ t.0 → u.0 ≢ q
differs t u q own other same = other (sym same ∙ ap (λ (x : TableId). x.0) own)

-- it is of no other table
pub defines_apart : (t : TableId) (act : Act) → Defines t act → (q : TableId) → q.0 ≢ t.0 → IsApartFrom q act
defines_apart t (Made u what) own q other = differs t u q.0 own other
defines_apart t (IndexMade u i s what) own q other = differs t u q.0 own other
defines_apart t (IndexState u i state s) own q other = differs t u q.0 own other
defines_apart t (Dropped u i) own q other = differs t u q.0 own other
defines_apart t (Begun u s cs) own q other = absurd own
defines_apart t (Phase u s p) own q other = absurd own
defines_apart t (Wrote u s rows) own q other = absurd own
defines_apart t (Ended u s) own q other = absurd own
defines_apart t (Opened u s scn) own q other = absurd own
defines_apart t (Released u s) own q other = absurd own
defines_apart t (Raised u h) own q other = absurd own
defines_apart t (Fixed i key) own q other = tt
defines_apart t (Based i rows) own q other = tt
defines_apart t (Missed call) own q other = tt
defines_apart t (Shut call) own q other = tt

-- and writes no row
pub defines_unbased : (t : TableId) (act : Act) → Defines t act → (n : ℕ) → IsUnbased n act
defines_unbased t (Made u what) own n = tt
defines_unbased t (IndexMade u i s what) own n = tt
defines_unbased t (IndexState u i state s) own n = tt
defines_unbased t (Dropped u i) own n = tt
defines_unbased t (Begun u s cs) own n = absurd own
defines_unbased t (Phase u s p) own n = absurd own
defines_unbased t (Wrote u s rows) own n = absurd own
defines_unbased t (Ended u s) own n = absurd own
defines_unbased t (Opened u s scn) own n = absurd own
defines_unbased t (Released u s) own n = absurd own
defines_unbased t (Raised u h) own n = absurd own
defines_unbased t (Fixed i key) own n = absurd own
defines_unbased t (Based i rows) own n = absurd own
defines_unbased t (Missed call) own n = absurd own
defines_unbased t (Shut call) own n = absurd own

pub defines_none : (t : TableId) (act : Act) → Defines t act → WritesNone act
defines_none t (Made u what) own = tt
defines_none t (IndexMade u i s what) own = tt
defines_none t (IndexState u i state s) own = tt
defines_none t (Dropped u i) own = tt
defines_none t (Wrote u s rows) own = absurd own
defines_none t (Begun u s cs) own = tt
defines_none t (Phase u s p) own = tt
defines_none t (Ended u s) own = tt
defines_none t (Opened u s scn) own = tt
defines_none t (Released u s) own = tt
defines_none t (Raised u h) own = tt
defines_none t (Fixed i key) own = tt
defines_none t (Based i rows) own = tt
defines_none t (Missed call) own = tt
defines_none t (Shut call) own = tt

-- ---- what stands of other tables

some_is : (x y : Index) → Some x ≡ Some y → x ≡ y
some_is x y e = cc

state_table : (state : BuildState) (s n : ℕ) (x z : Index) → with_state state s n (Some x) ≡ Some z → z.table ≡ x.table
state_table Building s n x z is = ap (λ (i : Index). i.table) (sym (some_is (record x { state = Building; birth = s; region = n }) z is))
state_table Active s n x z is = ap (λ (i : Index). i.table) (sym (some_is (record x { state = Active }) z is))
state_table Disabled s n x z is = ap (λ (i : Index). i.table) (sym (some_is (record x { state = Disabled }) z is))

others_if : (x z : Index) (own : Bool) → (if own then None else Some x) ≡ Some z → Some x ≡ Some z
others_if x z true is = absurd cc
others_if x z false is = is

others_were : (t : ℕ) (o : Option Index) (z : Index) → of_others t o ≡ Some z → o ≡ Some z
others_were t None z is = is
others_were t (Some x) z is = others_if x z (x.table.0 == t) is

module _ (b : Base) (right : IsRightBase b) (es : List Entry) (legal : IsLegal b es) (t : TableId) where
  abbrev c : Catalogue
  c = catalogue_of b es

  stands : IsCatalogue c
  stands = catalogue-stands b es right.catalogue legal

  own_number : (u : TableId) → u ≡ t → u.0 ≡ t.0
  own_number u own = ap (λ (x : TableId). x.0) own

  tables_step : (seat calls : ℕ) (act : Act) → Defines t act → Follows b es seat calls act → (q : ℕ) → q ≢ t.0 → (catalogue_step c act).tables q ≡ c.tables q
  unfolding catalogue_step Follows
  tables_step seat calls (Made u what) own f q other = set_number-other u.0 (Some (made_table c.next u what)) c.tables q (differs t u q own other)
  tables_step seat calls (IndexMade u i s what) own f q other = refl
  tables_step seat calls (IndexState u i state s) own f q other = refl
  tables_step seat calls (Dropped u None) own f q other = set_number-other u.0 None c.tables q (differs t u q own other)
  tables_step seat calls (Dropped u (Some i)) own f q other = refl
  tables_step seat calls (Begun u s cs) own f q other = absurd own
  tables_step seat calls (Phase u s p) own f q other = absurd own
  tables_step seat calls (Wrote u s rows) own f q other = absurd own
  tables_step seat calls (Ended u s) own f q other = absurd own
  tables_step seat calls (Opened u s scn) own f q other = absurd own
  tables_step seat calls (Released u s) own f q other = absurd own
  tables_step seat calls (Raised u h) own f q other = absurd own
  tables_step seat calls (Fixed i key) own f q other = absurd own
  tables_step seat calls (Based i rows) own f q other = absurd own
  tables_step seat calls (Missed call) own f q other = absurd own
  tables_step seat calls (Shut call) own f q other = absurd own

  -- an index of another table has another number than the one that is defined
  not_of : (u : TableId) (i n : ℕ) (z : Index) → u ≡ t → IsOf b es u.0 i → c.indexes n ≡ Some z → z.table.0 ≢ t.0 → i ≢ n
  not_of u i n z own of at other same = other (ap (λ (x : Index). x.table.0) (some_is z of.index (sym at ∙ (ap (λ (m : ℕ). c.indexes m) (sym same) ∙ of.is))) ∙ (of.owner ∙ own_number u own))

  -- an index of another table stays
  on_step : (seat calls : ℕ) (act : Act) → Defines t act → Follows b es seat calls act → (n : ℕ) (z : Index) → z.table.0 ≢ t.0 → c.indexes n ≡ Some z → (catalogue_step c act).indexes n ≡ Some z
  unfolding catalogue_step Follows
  on_step seat calls (Made u what) own f n z other at = at
  on_step seat calls (IndexMade u i s what) own f n z other at = set_number-other i.0 (Some (made_index c.next i s what)) c.indexes n (λ same. (let low = (stands.indexes n z at).1 in let high = f.0 in omega (arith, low, high, same))) ∙ at
  on_step seat calls (IndexState u i state s) own f n z other at = set_number-other i.0 (with_state state s c.next (c.indexes i.0)) c.indexes n (not_of u i.0 n z own f.0 at other) ∙ at
  on_step seat calls (Dropped u None) own f n z other at = ap (of_others u.0) at ∙ others_stay u.0 z (λ same. other (same ∙ own_number u own))
  on_step seat calls (Dropped u (Some i)) own f n z other at = set_number-other i.0 None c.indexes n (not_of u i.0 n z own f.0 at other) ∙ at
  on_step seat calls (Begun u s cs) own f n z other at = absurd own
  on_step seat calls (Phase u s p) own f n z other at = absurd own
  on_step seat calls (Wrote u s rows) own f n z other at = absurd own
  on_step seat calls (Ended u s) own f n z other at = absurd own
  on_step seat calls (Opened u s scn) own f n z other at = absurd own
  on_step seat calls (Released u s) own f n z other at = absurd own
  on_step seat calls (Raised u h) own f n z other at = absurd own
  on_step seat calls (Fixed i key) own f n z other at = absurd own
  on_step seat calls (Based i rows) own f n z other at = absurd own
  on_step seat calls (Missed call) own f n z other at = absurd own
  on_step seat calls (Shut call) own f n z other at = absurd own

  -- and none comes
  here_of : (o : Option Index) (i n : ℕ) (z : Index) → ((x : Index) → o ≡ Some x → x.table.0 ≡ t.0) → z.table.0 ≢ t.0 → set_number i o c.indexes n ≡ Some z → c.indexes n ≡ Some z
  here_of o i n z of other at = elim (cases_eq i n) [
    | inl e ↦ absurd (other (of z (sym (set_number-same i o c.indexes) ∙ (ap (λ (m : ℕ). set_number i o c.indexes m) e ∙ at))))
    | inr e ↦ sym (set_number-other i o c.indexes n e) ∙ at
  ]

  back_step : (seat calls : ℕ) (act : Act) → Defines t act → Follows b es seat calls act → (n : ℕ) (z : Index) → z.table.0 ≢ t.0 → (catalogue_step c act).indexes n ≡ Some z → c.indexes n ≡ Some z
  unfolding catalogue_step Follows
  back_step seat calls (Made u what) own f n z other at = at
  back_step seat calls (IndexMade u i s what) own f n z other at = here_of (Some (made_index c.next i s what)) i.0 n z
      (λ x is. ap (λ (y : Index). y.table.0) (sym (some_is (made_index c.next i s what) x is)) ∙ (ap (λ (y : TableId). y.0) f.3 ∙ own_number u own)) other at
  back_step seat calls (IndexState u i state s) own f n z other at = here_of (with_state state s c.next (c.indexes i.0)) i.0 n z
      (λ x is. ap (λ (y : TableId). y.0) (state_table state s c.next f.0.index x (ap (with_state state s c.next) (sym f.0.is) ∙ is)) ∙ (f.0.owner ∙ own_number u own)) other at
  back_step seat calls (Dropped u None) own f n z other at = others_were u.0 (c.indexes n) z at
  back_step seat calls (Dropped u (Some i)) own f n z other at = here_of None i.0 n z (λ x is. absurd cc) other at
  back_step seat calls (Begun u s cs) own f n z other at = absurd own
  back_step seat calls (Phase u s p) own f n z other at = absurd own
  back_step seat calls (Wrote u s rows) own f n z other at = absurd own
  back_step seat calls (Ended u s) own f n z other at = absurd own
  back_step seat calls (Opened u s scn) own f n z other at = absurd own
  back_step seat calls (Released u s) own f n z other at = absurd own
  back_step seat calls (Raised u h) own f n z other at = absurd own
  back_step seat calls (Fixed i key) own f n z other at = absurd own
  back_step seat calls (Based i rows) own f n z other at = absurd own
  back_step seat calls (Missed call) own f n z other at = absurd own
  back_step seat calls (Shut call) own f n z other at = absurd own

  module _ (e : Entry) (own : Defines t e.act) (may : MayCome b es e) where
    now_is : catalogue_of b (es ++ e ∷ []) ≡ catalogue_step c e.act
    now_is = catalogue-snoc b es e

    pub table_other : (q : ℕ) → q ≢ t.0 → table_of b (es ++ e ∷ []) q ≡ table_of b es q
    table_other q other = ap (λ (x : Catalogue). x.tables q) now_is ∙ tables_step e.seat e.calls e.act own may.follows q other

    pub index_on : (n : ℕ) (z : Index) → z.table.0 ≢ t.0 → index_of b es n ≡ Some z → index_of b (es ++ e ∷ []) n ≡ Some z
    index_on n z other at = ap (λ (x : Catalogue). x.indexes n) now_is ∙ on_step e.seat e.calls e.act own may.follows n z other at

    pub index_back : (n : ℕ) (z : Index) → z.table.0 ≢ t.0 → index_of b (es ++ e ∷ []) n ≡ Some z → index_of b es n ≡ Some z
    index_back n z other at = back_step e.seat e.calls e.act own may.follows n z other (sym (ap (λ (x : Catalogue). x.indexes n) now_is) ∙ at)
