-- What sources give.
use Rattle.std.proofs.Common.{◌≡◌, ℕ, zero, suc, ◌+◌, ◌≤◌, ◌<◌, Some, None, List, [], ◌∷◌, length, get_or, drop, refl, sym, ap, subst, ◌∙◌, arith}
use Rattle.std.specs.Prelude.{Option, map}
use Rattle.std.proofs.Math.ListN.{set}
use Rattle.std.specs.Borrow.{Bor}
use Rattle.px_outside.specs.OnDisk.{Stays}
use Rattle.px_outside.specs.declared.disk.Disk.{Ghosts}
use Rattle.px_cells.specs.CellData.{CellData}
use Rattle.px_cells.specs.Order.{IsAscending, SamePlace}
use Rattle.px_merge.specs.Merged.{AreSorted}
use Rattle.px_merge.specs.Taking.{IsHead}
use Rattle.px_cursor.specs.Cursor.{cells_in_memory}
use Rattle.px_cursor.specs.declared.cursor.Cursor.{Cursor}
use Rattle.px_cursor.proofs.Cursors as cursor
use Rattle.px_sources.specs.Passed.{behind}
use Rattle.px_sources.specs.Sources.{AllBegin, AllGive, BeginsAs, Gives, shown_of}
use Rattle.px_sources.specs.declared.source.Source.{Source}
use Rattle.px_sources.specs.declared.source.Source.TheVariants.{Slice, File}
use Rattle.px_sources.proofs.Behind.{behind_at, behind_not, behind_sorted}

begins_itself : (cells : List CellData) → BeginsAs cells cells
begins_itself [] = refl
begins_itself (c ∷ cells) = (cells, refl)

module _ {D : Type 0} (d : Ghosts D) where
  begins_cursor : (c : Cursor) (disk : D) (left cells : List CellData) → cells ≡ cells_in_memory c → Gives d (File c) disk left → BeginsAs cells left
  begins_cursor c disk left [] is gives = cursor.begins_none d c disk left gives (sym is)
  begins_cursor c disk left (x ∷ cells) is gives = cursor.begins_some d c disk left x cells gives (sym is)

  pub source_begins : (s : Source) (disk : D) (left : List CellData) → Gives d s disk left → BeginsAs (shown_of s) left
  source_begins (Slice cells) disk left gives = subst (BeginsAs cells.now) (sym gives) (begins_itself cells.now)
  source_begins (File c) disk left gives = begins_cursor c disk left (cells_in_memory c) refl gives

  pub source_quiet : (s : Source) (old new : D) (left : List CellData) → Gives d s old left → Stays d old new → d.seen new ≡ d.seen old → Gives d s new left
  source_quiet (Slice cells) old new left gives stays same = gives
  source_quiet (File c) old new left gives stays same = cursor.gives_quiet d c old new left gives stays same

  pub all_quiet : (sources : List Source) (old new : D) (lists : List (List CellData)) → AllGive d sources old lists → Stays d old new → d.seen new ≡ d.seen old → AllGive d sources new lists
  all_quiet [] old new [] all stays same = tt
  all_quiet [] old new (l ∷ lists) all stays same = absurd all
  all_quiet (s ∷ sources) old new [] all stays same = absurd all
  all_quiet (s ∷ sources) old new (l ∷ lists) all stays same = (source_quiet s old new l all.0 stays same, (all.1.0, all_quiet sources old new lists all.1.1 stays same))

  pub all_begin : (sources : List Source) (disk : D) (lists : List (List CellData)) → AllGive d sources disk lists → AllBegin sources lists
  all_begin [] disk [] all = tt
  all_begin [] disk (l ∷ lists) all = absurd all
  all_begin (s ∷ sources) disk [] all = absurd all
  all_begin (s ∷ sources) disk (l ∷ lists) all = (source_begins s disk l all.0, all_begin sources disk lists all.1.1)

  pub all_sorted : (sources : List Source) (disk : D) (lists : List (List CellData)) → AllGive d sources disk lists → AreSorted lists
  all_sorted [] disk [] all = tt
  all_sorted [] disk (l ∷ lists) all = absurd all
  all_sorted (s ∷ sources) disk [] all = absurd all
  all_sorted (s ∷ sources) disk (l ∷ lists) all = (all.1.0, all_sorted sources disk lists all.1.1)

-- ---- the first of several

pub record FirstBegins (sources : List Source) (lists : List (List CellData)) (s : Source) : Type 0 where
  pub list : List CellData
  pub others : List (List CellData)
  pub is : lists ≡ list ∷ others
  pub begins : BeginsAs (shown_of s) list
  pub rest : AllBegin (drop 1 sources) others

pub first_begins : (sources : List Source) (lists : List (List CellData)) (s : Source) → 1 ≤ length sources → s ≡ get_or sources 0 s → AllBegin sources lists → FirstBegins sources lists s
first_begins [] lists s some is all = absurd (omega arith)
first_begins (x ∷ sources) [] s some is all = absurd all
first_begins (x ∷ sources) (l ∷ lists) s some is all = record { list = l; others = lists; is = refl; begins = subst (λ (y : Source). BeginsAs (shown_of y) l) (sym is) all.0; rest = all.1 }

pub none_begins : (sources : List Source) (lists : List (List CellData)) → length sources < 1 → AllBegin sources lists → lists ≡ []
none_begins [] [] none all = refl
none_begins [] (l ∷ lists) none all = absurd all
none_begins (s ∷ sources) lists none all = absurd (omega arith)

pub head_begins : (head : Option (Bor CellData)) (cells list : List CellData) → IsHead head cells → BeginsAs cells list → IsHead head list
head_begins None cells list none begins = (let b : BeginsAs [] list = subst (λ (l : List CellData). BeginsAs l list) none begins in b)
head_begins (Some c) cells list some begins = subst (λ (l : List CellData). BeginsAs l list) some.1 begins

-- ---- passing

module _ (place : CellData) (left : List CellData) where
  pub pass_none : (cells : List CellData) → BeginsAs cells left → cells ≡ [] → behind place left ≡ left
  pass_none [] begins none = ap (behind place) begins ∙ sym begins
  pass_none (c ∷ cells) begins none = cc

  pub pass_other : (c : CellData) (rest cells : List CellData) → BeginsAs cells left → cells ≡ c ∷ rest → (SamePlace place c → ⊥) → behind place left ≡ left
  pass_other c rest cells begins is other =
      let b : BeginsAs (c ∷ rest) left = subst (λ (l : List CellData). BeginsAs l left) is begins in
      ap (behind place) b.1 ∙ behind_not place c b.0 other ∙ sym b.1

  pub pass_same : (c : CellData) (rest cells : List CellData) → BeginsAs cells left → cells ≡ c ∷ rest → SamePlace place c → left ≡ c ∷ behind place left
  pass_same c rest cells begins is same =
      let b : BeginsAs (c ∷ rest) left = subst (λ (l : List CellData). BeginsAs l left) is begins in
      b.1 ∙ ap (λ (l : List CellData). c ∷ l) (sym (ap (behind place) b.1 ∙ behind_at place c b.0 same))

-- the lists of which the first i were passed
abbrev pub passed_to : CellData → ℕ → List (List CellData) → List (List CellData)
passed_to place zero lists = lists
passed_to place (suc i) [] = []
passed_to place (suc i) (l ∷ lists) = behind place l ∷ passed_to place i lists

module _ {D : Type 0} (d : Ghosts D) (place : CellData) where
  -- the source at a place of several, and what they give once it was passed
  pub record GiveAt (sources : List Source) (disk : D) (lists : List (List CellData)) (i : ℕ) (s : Source) : Type 0 where
    pub list : List CellData
    pub own : Gives d s disk list
    pub next : (after : Source) (new : D) → Gives d after new (behind place list) → Stays d disk new → d.seen new ≡ d.seen disk → AllGive d (set sources i after) new (passed_to place (i + 1) lists)

  pub give_at : (sources : List Source) (disk : D) (lists : List (List CellData)) (i : ℕ) (s : Source) → i < length sources → s ≡ get_or sources i s → AllGive d sources disk (passed_to place i lists) → GiveAt sources disk lists i s
  give_at [] disk lists i s lt is all = absurd (omega arith)
  give_at (x ∷ sources) disk [] zero s lt is all = absurd all
  give_at (x ∷ sources) disk (l ∷ lists) zero s lt is all = record {
    list = l;
    own = subst (λ (y : Source). Gives d y disk l) (sym is) all.0;
    next = λ after new gives stays same. (gives, (behind_sorted place l all.1.0, all_quiet d sources disk new lists all.1.1 stays same));
  }
  give_at (x ∷ sources) disk [] (suc i) s lt is all = absurd all
  give_at (x ∷ sources) disk (l ∷ lists) (suc i) s lt is all =
      let one = give_at sources disk lists i s (omega arith) is all.1.1 in
      let e : suc i + 1 ≡ suc (i + 1) = omega arith in
      record {
        list = one.list;
        own = one.own;
        next = λ after new gives stays same.
            subst (λ (n : ℕ). AllGive d (x ∷ set sources i after) new (passed_to place n (l ∷ lists))) (sym e) (source_quiet d x disk new (behind place l) all.0 stays same, (all.1.0, one.next after new gives stays same));
      }

  pub passed_all : (sources : List Source) (disk : D) (lists : List (List CellData)) (n : ℕ) → n ≡ length sources → AllGive d sources disk (passed_to place n lists) → AllGive d sources disk (map (behind place) lists)
  passed_all [] disk [] zero is all = all
  passed_all [] disk (l ∷ lists) zero is all = absurd all
  passed_all [] disk lists (suc n) is all = absurd (omega arith)
  passed_all (x ∷ sources) disk lists zero is all = absurd (omega arith)
  passed_all (x ∷ sources) disk [] (suc n) is all = absurd all
  passed_all (x ∷ sources) disk (l ∷ lists) (suc n) is all = (all.0, (all.1.0, passed_all sources disk lists n (omega arith) all.1.1))

  pub gives_one : (sources : List Source) (disk : D) (lists : List (List CellData)) (i : ℕ) (s : Source) → i < length sources → s ≡ get_or sources i s → AllGive d sources disk (passed_to place i lists) → (list : List CellData) × Gives d s disk list
  gives_one sources disk lists i s lt is all = (let one = give_at sources disk lists i s lt is all in (one.list, one.own))
