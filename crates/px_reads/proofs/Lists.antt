-- The lists of files, and of sources.
use Rattle.std.proofs.Common.{◌≡◌, ℕ, zero, suc, ◌+◌, ◌<◌, List, [], ◌∷◌, ◌++◌, length, take, get_or, refl, sym, ap, subst, ◌∙◌, arith}
use Rattle.px_outside.specs.OnDisk.{Stays}
use Rattle.px_outside.specs.declared.disk.Disk.{Ghosts}
use Rattle.px_cells.specs.CellData.{CellData}
use Rattle.px_cells.specs.Order.{IsAscending}
use Rattle.px_file.proofs.Kept.{kept_quiet}
use Rattle.px_merge.specs.Merged.{joined}
use Rattle.px_merge.specs.Parts.{ReadsPart}
use Rattle.px_sources.specs.Sources.{AllGive, Gives}
use Rattle.px_sources.specs.declared.source.Source.{Source}
use Rattle.px_reads.specs.Reads.{HasList, HaveLists}
use Rattle.px_reads.specs.declared.file.ReadFile.{ReadFile}

module _ {D : Type 0} (d : Ghosts D) where
  pub have_length : (files : List ReadFile) (disk : D) (lists : List (List CellData)) → HaveLists d files disk lists → length lists ≡ length files
  have_length [] disk [] have = refl
  have_length [] disk (l ∷ lists) have = absurd have
  have_length (f ∷ files) disk [] have = absurd have
  have_length (f ∷ files) disk (l ∷ lists) have = ap (λ (n : ℕ). suc n) (have_length files disk lists have.1)

  -- the list of the file at a place
  pub record ListAt (disk : D) (lists : List (List CellData)) (i : ℕ) (f : ReadFile) : Type 0 where
    pub list : List CellData
    pub has : HasList d f disk list
    pub taken : take (i + 1) lists ≡ take i lists ++ list ∷ []

  pub list_at : (files : List ReadFile) (disk : D) (lists : List (List CellData)) (i : ℕ) (f : ReadFile) → i < length files → f ≡ get_or files i f → HaveLists d files disk lists → ListAt disk lists i f
  list_at [] disk lists i f lt is have = absurd (omega arith)
  list_at (x ∷ files) disk [] i f lt is have = absurd have
  list_at (x ∷ files) disk (l ∷ lists) zero f lt is have = record { list = l; has = subst (λ (y : ReadFile). HasList d y disk l) (sym is) have.0; taken = refl }
  list_at (x ∷ files) disk (l ∷ lists) (suc i) f lt is have =
      let at = list_at files disk lists i f (omega arith) is have.1 in
      let e : suc i + 1 ≡ suc (i + 1) = omega arith in
      record { list = at.list; has = at.has; taken = ap (λ (n : ℕ). take n (l ∷ lists)) e ∙ ap (λ (r : List (List CellData)). l ∷ r) at.taken }

  pub list_quiet : (f : ReadFile) (old new : D) (list : List CellData) → Stays d old new → d.seen new ≡ d.seen old → HasList d f old list → HasList d f new list
  list_quiet f old new list stays same has = record { blocks = has.blocks; has = kept_quiet d old new f.file has.blocks stays same has.has; list_is = has.list_is; keys = has.keys }

  -- one source more
  pub give_push : (sources : List Source) (disk : D) (lists : List (List CellData)) (s : Source) (l : List CellData) → AllGive d sources disk lists → Gives d s disk l → IsAscending l → AllGive d (sources ++ s ∷ []) disk (lists ++ l ∷ [])
  give_push [] disk [] s l all gives sorted = (gives, (sorted, tt))
  give_push [] disk (x ∷ lists) s l all gives sorted = absurd all
  give_push (y ∷ sources) disk [] s l all gives sorted = absurd all
  give_push (y ∷ sources) disk (x ∷ lists) s l all gives sorted = (all.0, (all.1.0, give_push sources disk lists s l all.1.1 gives sorted))

  -- what sources give of a range: two lists, and parts of these
  pub record GiveParts (sources : List Source) (disk : D) (first second : List CellData) (keys : List ℕ → Type 0) (lists : List (List CellData)) : Type 0 where
    pub parts : List (List CellData)
    pub give : AllGive d sources disk (first ∷ second ∷ parts)
    pub part : ReadsPart keys (joined lists) (joined parts)
