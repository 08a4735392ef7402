-- What a cursor gives.
use Rattle.std.proofs.Common.{◌≡◌, ◌≢◌, ◌⊎◌, ℕ, zero, suc, ◌+◌, ◌-◌, ◌<◌, ◌≤◌, List, [], ◌∷◌, ◌++◌, length, take, drop, get_or, refl, sym, ap, subst, ◌∙◌, arith, inl, inr, Some, None, drop-cons, add-one}
use Rattle.std.specs.Prelude.{Option, filter, IsTrue}
use Rattle.std.specs.Borrow.{Bor}
use Rattle.std.specs.Option.{option_copied}
use Rattle.std.specs.List.{AllByRecursion}
use Rattle.std.proofs.lemmas.Bool.{cases_lt}
use Rattle.std.proofs.lemmas.List.{drop-drop, drop_all, take-append-drop}
use Rattle.std.proofs.lemmas.List.Concat.{flat_map-append}
use Rattle.std.proofs.lemmas.List.Elements.{filter-append}
use Rattle.px_outside.specs.OnDisk.{Stays}
use Rattle.px_outside.specs.declared.disk.Disk.{Ghosts}
use Rattle.px_cells.specs.CellData.{CellData}
use Rattle.px_cells.specs.Order.{IsAscending}
use Rattle.px_cells.specs.Rows.{AreRows}
use Rattle.px_cells.specs.Scan.{no_cell}
use Rattle.px_block.specs.Block.{IsBlock}
use Rattle.px_file.specs.Format.{AreBlocks, cells_in}
use Rattle.px_file.specs.Files.{HasBlocks}
use Rattle.px_file.specs.Ranges.{BeginsBelow, IsFirstBlock}
use Rattle.px_file.specs.declared.region_file.RegionFile.{RegionFile}
use Rattle.px_file.proofs.Kept.{kept_quiet}
use Rattle.px_file.proofs.Ranges as file
use Rattle.px_cursor.specs.Range.{EndsAt, cells_within, is_within}
use Rattle.px_cursor.specs.Cursor.{CursorGives, IsAt, IsSameRange, cells_in_memory, within}
use Rattle.px_cursor.specs.declared.cursor.Cursor.{Cursor}
use Rattle.px_cursor.proofs.Ranges.{none_below, none_from, rows_are, rows_within}

-- ---- blocks

drop_block : (blocks : List (List CellData)) (i : ℕ) → i < length blocks → cells_in (drop i blocks) ≡ get_or blocks i [] ++ cells_in (drop (i + 1) blocks)
drop_block [] i lt = absurd (omega arith)
drop_block (b ∷ blocks) zero lt = refl
drop_block (b ∷ blocks) (suc i) lt = (let e : suc i + 1 ≡ suc (i + 1) = omega arith in drop_block blocks i (omega arith) ∙ ap (λ (n : ℕ). get_or blocks i [] ++ cells_in (drop n (b ∷ blocks))) (sym e))

cut_cells : (n : ℕ) (blocks : List (List CellData)) → cells_in blocks ≡ cells_in (take n blocks) ++ cells_in (drop n blocks)
cut_cells n blocks = ap cells_in (sym (take-append-drop n blocks)) ∙ flat_map-append (λ (b : List CellData). b) (take n blocks) (drop n blocks)

module _ (low : List ℕ) (high : Option (List ℕ)) where
  within_both : (xs ys : List CellData) → cells_within low high (xs ++ ys) ≡ cells_within low high xs ++ cells_within low high ys
  within_both xs ys = filter-append (λ (c : CellData). is_within low high c.key) xs ys

  within_block : (blocks : List (List CellData)) (i : ℕ) → i < length blocks → cells_within low high (cells_in (drop i blocks)) ≡ cells_within low high (get_or blocks i []) ++ cells_within low high (cells_in (drop (i + 1) blocks))
  within_block blocks i lt = ap (cells_within low high) (drop_block blocks i lt) ∙ within_both (get_or blocks i []) (cells_in (drop (i + 1) blocks))

  -- nothing of the range stands before its first block,
  within_first : (blocks : List (List CellData)) (first : ℕ) → IsFirstBlock blocks low first → cells_within low high (cells_in blocks) ≡ cells_within low high (cells_in (drop first blocks))
  within_first blocks first is =
      ap (cells_within low high) (cut_cells first blocks) ∙ within_both (cells_in (take first blocks)) (cells_in (drop first blocks))
      ∙ ap (λ (l : List CellData). l ++ cells_within low high (cells_in (drop first blocks))) (none_below low high (cells_in (take first blocks)) is.before)

-- and nothing behind the last
past_limit : (blocks : List (List CellData)) (low : List ℕ) (high : Option (List ℕ)) (limit next : ℕ) → AllByRecursion IsBlock blocks → EndsAt blocks high limit → limit ≤ next → cells_within low high (cells_in (drop next blocks)) ≡ []
past_limit blocks low None limit next each ends le = ap (λ (l : List (List CellData)). cells_within low None (cells_in l)) (drop_all next blocks (omega arith))
past_limit blocks low (Some high) limit next each ends le =
    let e : limit + (next - limit) ≡ next = omega arith in
    let same = drop-drop (next - limit) limit blocks ∙ ap (λ (n : ℕ). drop n blocks) e in
    let behind = subst (AllByRecursion (λ b. BeginsBelow high b → ⊥)) same (file.all_behind (λ b. BeginsBelow high b → ⊥) (drop limit blocks) (next - limit) ends.from) in
    none_from low high (cells_in (drop next blocks)) (file.none_below (drop next blocks) high (file.all_behind IsBlock blocks next each) behind)

-- ---- what is shown

shown_step : (block : List CellData) (at until : ℕ) (c : CellData) → at < until → until ≤ length block → take (until - at) (drop at block) ≡ get_or block at c ∷ take (until - (at + 1)) (drop (at + 1) block)
shown_step block at until c lt le =
    let more : until - at ≡ suc (until - (at + 1)) = omega arith in
    let here : at < length block = omega arith in
    let cut : drop at block ≡ get_or block at c ∷ drop (at + 1) block = rw (add-one, drop-cons block at c) refl in
    ap (λ (n : ℕ). take n (drop at block)) more ∙ ap (take (suc (until - (at + 1)))) cut

shown_none : (block : List CellData) (at until : ℕ) → until ≤ at → take (until - at) (drop at block) ≡ []
shown_none block at until le = (let e : until - at ≡ 0 = omega arith in ap (λ (n : ℕ). take n (drop at block)) e)

pub head_is : (block : List CellData) (at until : ℕ) (c : CellData) → at < until → until ≤ length block → c ≡ get_or block at c → (rest : List CellData) × (take (until - at) (drop at block) ≡ c ∷ rest)
head_is block at until c lt le is = (take (until - (at + 1)) (drop (at + 1) block), shown_step block at until c lt le ∙ ap (λ (x : CellData). x ∷ take (until - (at + 1)) (drop (at + 1) block)) (sym is))

pub no_head : (block : List CellData) (at until : ℕ) → until ≤ at → take (until - at) (drop at block) ≡ []
no_head = shown_none

tail_same : {c d : CellData} {xs ys : List CellData} → c ∷ xs ≡ d ∷ ys → xs ≡ ys
tail_same e = cc

module _ {D : Type 0} (d : Ghosts D) where
  -- a block was read
  pub at_loaded : (old new : Cursor) (disk disk' : D) (left block : List CellData) (at : IsAt d old disk left) → IsSameRange old new → new.next ≡ old.next + 1 → old.until ≤ old.at → old.next < old.limit → Stays d disk disk' → d.seen disk' ≡ d.seen disk
      → old.limit ≤ length at.blocks → block ≡ get_or at.blocks old.next [] → IsAscending block → AreRows block old.low.now (option_copied old.high) (cells_in_memory new) → IsAt d new disk' left
  at_loaded old new disk disk' left block at range next none more stays same inside block_is sorted part = record {
    tells = at.tells;
    blocks = at.blocks;
    has = subst (λ (f : Bor RegionFile). HasBlocks d f.now disk' at.blocks) (sym range.file) (kept_quiet d disk disk' old.file.now at.blocks stays same at.has);
    first = subst (λ (n : ℕ). IsFirstBlock at.blocks new.low.now n) (sym range.first) (subst (λ (l : Bor (List ℕ)). IsFirstBlock at.blocks l.now old.first) (sym range.low) at.first);
    limit = subst (λ (n : ℕ). EndsAt at.blocks (option_copied new.high) n) (sym range.limit) (subst (λ (h : Option (Bor (List ℕ))). EndsAt at.blocks (option_copied h) old.limit) (sym range.high) at.limit);
    left_is =
        at.left_is ∙ ap (λ (l : List CellData). l ++ within old (drop old.next at.blocks)) (shown_none old.block old.at old.until none)
        ∙ within_block old.low.now (option_copied old.high) at.blocks old.next (omega arith)
        ∙ ap (λ (l : List CellData). cells_within old.low.now (option_copied old.high) l ++ within old (drop (old.next + 1) at.blocks)) (sym block_is)
        ∙ ap (λ (l : List CellData). l ++ within old (drop (old.next + 1) at.blocks)) (sym (rows_are old.low.now (option_copied old.high) block (cells_in_memory new) sorted part))
        ∙ ap (λ (n : ℕ). cells_in_memory new ++ within old (drop n at.blocks)) (sym next)
        ∙ ap (λ (l : Bor (List ℕ)). cells_in_memory new ++ cells_within l.now (option_copied old.high) (cells_in (drop new.next at.blocks))) (sym range.low)
        ∙ ap (λ (h : Option (Bor (List ℕ))). cells_in_memory new ++ cells_within new.low.now (option_copied h) (cells_in (drop new.next at.blocks))) (sym range.high);
  }

  -- the first cell was passed
  pub at_stepped : (old new : Cursor) (disk : D) (c : CellData) (left : List CellData) → CursorGives d old disk (c ∷ left) → old.at < old.until → new.file ≡ old.file → new.low ≡ old.low → new.high ≡ old.high → new.first ≡ old.first → new.next ≡ old.next → new.limit ≡ old.limit
      → new.block ≡ old.block → new.at ≡ old.at + 1 → new.until ≡ old.until → IsAt d new disk left
  at_stepped old new disk c left gives lt file low high first next limit block at until = record {
    tells = gives.at.tells;
    blocks = gives.at.blocks;
    has = subst (λ (f : Bor RegionFile). HasBlocks d f.now disk gives.at.blocks) (sym file) gives.at.has;
    first = subst (λ (n : ℕ). IsFirstBlock gives.at.blocks new.low.now n) (sym first) (subst (λ (l : Bor (List ℕ)). IsFirstBlock gives.at.blocks l.now old.first) (sym low) gives.at.first);
    limit = subst (λ (n : ℕ). EndsAt gives.at.blocks (option_copied new.high) n) (sym limit) (subst (λ (h : Option (Bor (List ℕ))). EndsAt gives.at.blocks (option_copied h) old.limit) (sym high) gives.at.limit);
    left_is =
        tail_same (gives.at.left_is ∙ ap (λ (l : List CellData). l ++ within old (drop old.next gives.at.blocks)) (shown_step old.block old.at old.until no_cell lt old.within))
        ∙ ap (λ (l : List CellData). take (old.until - (old.at + 1)) (drop (old.at + 1) l) ++ within old (drop old.next gives.at.blocks)) (sym block)
        ∙ ap (λ (n : ℕ). take (old.until - n) (drop n new.block) ++ within old (drop old.next gives.at.blocks)) (sym at)
        ∙ ap (λ (n : ℕ). take (n - new.at) (drop new.at new.block) ++ within old (drop old.next gives.at.blocks)) (sym until)
        ∙ ap (λ (n : ℕ). cells_in_memory new ++ within old (drop n gives.at.blocks)) (sym next)
        ∙ ap (λ (l : Bor (List ℕ)). cells_in_memory new ++ cells_within l.now (option_copied old.high) (cells_in (drop new.next gives.at.blocks))) (sym low)
        ∙ ap (λ (h : Option (Bor (List ℕ))). cells_in_memory new ++ cells_within new.low.now (option_copied h) (cells_in (drop new.next gives.at.blocks))) (sym high);
  }

  -- where none is in memory, none is left
  pub none_left : (cursor : Cursor) (disk : D) (left : List CellData) → CursorGives d cursor disk left → cursor.until ≤ cursor.at → left ≡ []
  none_left cursor disk left gives none =
      gives.at.left_is ∙ ap (λ (l : List CellData). l ++ within cursor (drop cursor.next gives.at.blocks)) (shown_none cursor.block cursor.at cursor.until none)
      ∙ elim gives.ready [
        | inl some ↦ absurd (omega arith)
        | inr end ↦ past_limit gives.at.blocks cursor.low.now (option_copied cursor.high) cursor.limit cursor.next gives.at.has.right.each gives.at.limit end
      ]

  pub none_to_step : (cursor : Cursor) (disk : D) (c : CellData) (left : List CellData) → CursorGives d cursor disk (c ∷ left) → cursor.until ≤ cursor.at → ⊥
  none_to_step cursor disk c left gives none = (let e = none_left cursor disk (c ∷ left) gives none in cc)

  -- nothing was read yet
  pub at_first : (cursor : Cursor) (disk : D) (blocks : List (List CellData)) → IsTrue d.tells → HasBlocks d cursor.file.now disk blocks → IsFirstBlock blocks cursor.low.now cursor.first → EndsAt blocks (option_copied cursor.high) cursor.limit
      → cursor.next ≡ cursor.first → cursor.until ≤ cursor.at → IsAt d cursor disk (within cursor blocks)
  at_first cursor disk blocks tells has first limit next none = record {
    tells = tells;
    blocks = blocks;
    has = has;
    first = first;
    limit = limit;
    left_is =
        within_first cursor.low.now (option_copied cursor.high) blocks cursor.first first ∙ ap (λ (n : ℕ). within cursor (drop n blocks)) (sym next)
        ∙ ap (λ (l : List CellData). l ++ within cursor (drop cursor.next blocks)) (sym (shown_none cursor.block cursor.at cursor.until none));
  }

  pub first_rows : (cursor : Cursor) (blocks : List (List CellData)) → AreBlocks blocks → AreRows (cells_in blocks) cursor.low.now (option_copied cursor.high) (within cursor blocks)
  first_rows cursor blocks are = rows_within cursor.low.now (option_copied cursor.high) (cells_in blocks) are.written.listed.ascending

  -- calls that change nothing leave what it gives
  pub gives_quiet : (cursor : Cursor) (old new : D) (left : List CellData) → CursorGives d cursor old left → Stays d old new → d.seen new ≡ d.seen old → CursorGives d cursor new left
  gives_quiet cursor old new left gives stays same = record {
    at = record {
      tells = gives.at.tells;
      blocks = gives.at.blocks;
      has = kept_quiet d old new cursor.file.now gives.at.blocks stays same gives.at.has;
      first = gives.at.first;
      limit = gives.at.limit;
      left_is = gives.at.left_is;
    };
    ready = gives.ready;
  }

  -- what it gives begins with what it shows
  pub begins_none : (cursor : Cursor) (disk : D) (left : List CellData) → CursorGives d cursor disk left → cells_in_memory cursor ≡ [] → left ≡ []
  begins_none cursor disk left gives none = elim (cases_lt cursor.at cursor.until) [
    | inl lt ↦ absurd (let e = shown_step cursor.block cursor.at cursor.until no_cell lt cursor.within in let z = sym none ∙ e in cc)
    | inr le ↦ none_left cursor disk left gives le
  ]

  pub begins_some : (cursor : Cursor) (disk : D) (left : List CellData) (c : CellData) (rest : List CellData) → CursorGives d cursor disk left → cells_in_memory cursor ≡ c ∷ rest → (more : List CellData) × (left ≡ c ∷ more)
  begins_some cursor disk left c rest gives some =
      (rest ++ within cursor (drop cursor.next gives.at.blocks), gives.at.left_is ∙ ap (λ (l : List CellData). l ++ within cursor (drop cursor.next gives.at.blocks)) some)

  pub some_left : (cursor : Cursor) (disk : D) (left : List CellData) → CursorGives d cursor disk left → cursor.at < cursor.until → (c : CellData) × (more : List CellData) × (left ≡ c ∷ more)
  some_left cursor disk left gives lt =
      let b = begins_some cursor disk left (get_or cursor.block cursor.at no_cell) (take (cursor.until - (cursor.at + 1)) (drop (cursor.at + 1) cursor.block)) gives (shown_step cursor.block cursor.at cursor.until no_cell lt cursor.within) in
      (get_or cursor.block cursor.at no_cell, b.0, b.1)
