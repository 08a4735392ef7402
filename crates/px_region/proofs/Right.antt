-- What is left of cells, where exactly those at or below a horizon are kept that it sees.
use Rattle.std.proofs.Common.{◌≡◌, ◌∙◌, ◌+◌, ◌<◌, ℕ, Bool, true, List, [], ◌++◌, length, take, drop, get_or, Option, Some, None, sym, ap, subst, inl, inr, append_assoc}
use Rattle.std.specs.Prelude.{◌||◌, nat_lt}
use Rattle.std.proofs.lemmas.Bool.{lt-ltb}
use Rattle.std.proofs.lemmas.List.Elements.{filter-append}
use Rattle.px_cells.specs.CellData.{CellData}
use Rattle.px_cells.specs.Order.{GoesWith, IsAscending, IsCellList, Reads}
use Rattle.px_cells.specs.Visible.{IsView, IsVisible}
use Rattle.px_cells.proofs.Among.{all_has, ascending_left, has_all, has_from_reads, reads_from_has}
use Rattle.px_cells.proofs.Sights.{reads_one}
use Rattle.px_memstore.specs.Left.{cell_stays, has_place, left}
use Rattle.px_memstore.specs.Pieces.{ArePiecesApart, chained}
use Rattle.px_memstore.proofs.Chained.{chained_at, chained_next, front_below, less_not}
use Rattle.px_merge.specs.Kept.{IsKeptList, IsWanted}
use Rattle.px_forgetting.proofs.Parts.{kept_parts}
use Rattle.px_frozen.specs.FrozenData.{FrozenData}
use Rattle.px_region.specs.Forgetting.{IsKeptRight, MayName}
use Rattle.px_region.proofs.Left.{filter_from, filter_sorted, filter_to, or_true, place_of, place_some, stays_by}

-- ---- of cells that are seen

module _ (cells seen : List CellData) (h : ℕ) (list : IsCellList cells) (view : IsView cells h seen) where
  stays_sorted : IsAscending (left seen h cells)
  stays_sorted = filter_sorted (cell_stays seen h) cells list.ascending

  -- a cell at the place of one that is seen is that one
  seen_place : (c : CellData) → Reads cells c → has_place seen c ≡ true → IsVisible cells h c
  seen_place c r e =
      let k = place_some seen c e in
      let v = (view.exact k.0).0 (reads_from_has seen k.0 view.ascending k.1.0) in
      subst (λ (x : CellData). IsVisible cells h x) (reads_one cells k.0 c k.1.1 v.live.among r) v

  to : (c : CellData) → Reads (left seen h cells) c → Reads cells c × IsWanted cells h c
  to c r =
      let f = filter_from (cell_stays seen h) cells c (has_from_reads (left seen h cells) c r) in
      let o = reads_from_has cells c list.ascending f.0 in
      (o, elim (stays_by seen h c f.1) [ inl l ↦ inl l | inr e ↦ inr (seen_place c o e) ])

  wanted_stays : (c : CellData) → IsWanted cells h c → cell_stays seen h c ≡ true
  wanted_stays c (inl l) = ap (λ (b : Bool). b || has_place seen c) (lt-ltb h c.stamp l)
  wanted_stays c (inr v) = ap (λ (b : Bool). nat_lt h c.stamp || b) (place_of seen c (has_from_reads seen c ((view.exact c).1 v))) ∙ or_true (nat_lt h c.stamp)

  back : (c : CellData) → Reads cells c × IsWanted cells h c → Reads (left seen h cells) c
  back c w = reads_from_has (left seen h cells) c stays_sorted (filter_to (cell_stays seen h) cells c (has_from_reads cells c w.0) (wanted_stays c w.1))

  pub seen_kept : IsKeptList cells h (left seen h cells)
  seen_kept = record {
    list = record { ascending = stays_sorted; placed = has_all GoesWith (left seen h cells) (λ c has. all_has GoesWith cells c list.placed (filter_from (cell_stays seen h) cells c has).0) };
    exact = λ c. (to c, back c);
  }

  -- where others are kept exactly where they are seen
  pub alike_kept : (kept : List CellData) → left kept h cells ≡ left seen h cells → IsKeptList cells h (left kept h cells)
  alike_kept kept same = subst (λ (l : List CellData). IsKeptList cells h l) (sym same) seen_kept

-- ---- piece by piece

module _ (ps : List (List CellData)) (at h : ℕ) (kept : List CellData) (l : at < length ps) (apart : ArePiecesApart ps) (sorted : IsAscending (chained ps)) where
  abbrev before : List CellData
  before = chained (take at ps)

  abbrev piece : List CellData
  piece = get_or ps at []

  part_sorted : IsAscending (before ++ piece)
  part_sorted = ascending_left (before ++ piece) (chained (drop (at + 1) ps)) (subst IsAscending (chained_at ps at l ∙ sym (append_assoc before piece (chained (drop (at + 1) ps)))) sorted)

  pub piece_kept : IsKeptList before h (left kept h before) → IsKeptList piece h (left kept h piece) → IsKeptList (chained (take (at + 1) ps)) h (left kept h (chained (take (at + 1) ps)))
  piece_kept a b =
      let both : IsKeptList (before ++ piece) h (left kept h before ++ left kept h piece) = kept_parts before piece h part_sorted (λ m n x y same. less_not m.key n.key (front_below ps at l apart m n x y) same) (left kept h before) (left kept h piece) a b in
      subst (λ (c : List CellData). IsKeptList c h (left kept h c)) (sym (chained_next ps at l)) (subst (λ (c : List CellData). IsKeptList (before ++ piece) h c) (sym (filter-append (cell_stays kept h) before piece)) both)

-- ---- the step that names the file

pub may_name : (o : Option ℕ) (h : ℕ) (n : Option FrozenData) (cells : List CellData) → o ≡ Some h → IsKeptRight h n cells → MayName o n cells
may_name o h n cells is right = subst (λ (x : Option ℕ). MayName x n cells) (sym is) right

pub none_named : (o : Option ℕ) (n : Option FrozenData) (cells : List CellData) → o ≡ None → MayName o n cells
none_named o n cells is = subst (λ (x : Option ℕ). MayName x n cells) (sym is) tt

-- what is left once it is named is what the horizon keeps
pub named_kept : (o : Option ℕ) (n : Option FrozenData) (h : ℕ) (kept : FrozenData) (cells new : List CellData) → o ≡ Some h → n ≡ Some kept → new ≡ left kept.cells h cells → MayName o n cells → IsKeptList cells h new
named_kept o n h kept cells new some is thinned may =
    let right : IsKeptRight h n cells = subst (λ (x : Option ℕ). MayName x n cells) some may in
    subst (λ (l : List CellData). IsKeptList cells h l) (sym thinned) (subst (λ (x : Option FrozenData). IsKeptRight h x cells) is right)
