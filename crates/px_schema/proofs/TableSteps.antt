-- How the readers of tables and indexes go on.
use Rattle.std.proofs.Common.{◌≡◌, ◌<◌, ◌+◌, ℕ, Bool, List, length, drop, get_or, map, Err, refl, sym, ap, subst, ◌∙◌, arith}
use Rattle.std.specs.Prelude.{◌==◌, if◌then◌else◌}
use Rattle.std.proofs.lemmas.List.{drop_more}
use Rattle.std.proofs.lemmas.Bool.{eq-eqb, ne_eqb}
use Rattle.px_tables.specs.declared.index.Index.{Index}
use Rattle.px_tables.specs.declared.index.IndexState.{IndexState}
use Rattle.px_tables.specs.declared.table.KeyPlace.{KeyPlace}
use Rattle.px_tables.specs.declared.table.Table.{Table}
use Rattle.px_tables.specs.declared.table.TableColumn.{TableColumn}
use Rattle.px_tables.specs.declared.table.TableRegion.{TableRegion}
use Rattle.px_pieces.specs.Pieces.{Piece, followed_by}
use Rattle.px_pieces.specs.Numbers.{number_piece, one_of_piece}
use Rattle.px_schema.specs.declared.standing.Standing.{Standing}
use Rattle.px_pieces.specs.Taking.{IsStoppedAt, IsTakenAt}
use Rattle.px_pieces.proofs.Takes.{stopped_as, stopped_first, stopped_second, taken_as, taken_then}
use Rattle.px_schema.specs.declared.fault.DefFault.{DefFault}
use Rattle.px_schema.specs.Outcomes.{ReadsPiece}
use Rattle.px_schema.specs.Parts.{id, state}
use Rattle.px_schema.specs.Format.{birth, built, called, column_count, covered, index, indexes_in, named, number_of_table, standing_piece, table, tables_in}
use Rattle.px_schema.proofs.Joins.{as_fault, behind_reads, first_reads}

abbrev TableParts : Type 0
TableParts = ℕ × (List ℕ × (List TableColumn × (List KeyPlace × List TableRegion)))

abbrev made_table : TableParts → Table
made_table x = record { id = record { 0 = x.0 }; name = x.1.0; columns = x.1.1.0; key = x.1.1.1.0; regions = x.1.1.1.1 }

abbrev table_parts : Table → TableParts
table_parts t = (t.id.0, (t.name, (t.columns, (t.key, t.regions))))

module _ (bytes : List ℕ) (at : ℕ) where
  pub table_first : (place : ℕ) → IsStoppedAt id bytes at place → IsStoppedAt table bytes at place
  unfolding table
  table_first place stopped = stopped_as bytes at made_table table_parts (followed_by id (λ n. named)) (λ x right. refl) place (stopped_first bytes at id (λ n. named) place stopped)

  pub table_second : (n : ℕ) (fault : DefFault) → IsTakenAt id bytes at n (at + 4) → ReadsPiece named bytes (at + 4) (Err fault) → ReadsPiece table bytes at (Err fault)
  unfolding table
  table_second n fault first is = as_fault made_table table_parts (followed_by id (λ n. named)) (λ x right. refl) bytes at fault (behind_reads id (λ n. named) bytes at n (at + 4) fault first is)

  pub table_taken : (n : ℕ) (m : List ℕ) (cs : List TableColumn) (ps : List KeyPlace) (rs : List TableRegion) (end : ℕ) → IsTakenAt id bytes at n (at + 4) → IsTakenAt named bytes (at + 4) (m, (cs, (ps, rs))) end
      → IsTakenAt table bytes at (record { id = record { 0 = n }; name = m; columns = cs; key = ps; regions = rs }) end
  unfolding table
  table_taken n m cs ps rs end first second = taken_as bytes at made_table table_parts (followed_by id (λ n. named)) (λ x right. refl) (n, (m, (cs, (ps, rs)))) end (taken_then bytes at id (λ n. named) n (m, (cs, (ps, rs))) (at + 4) end first second)

  -- ---- indexes

  module _ (w : ℕ) where
    abbrev regioned : Piece (ℕ × (List KeyPlace × List ℕ))
    regioned = followed_by id (λ r. covered w)

    abbrev bearing : Piece (ℕ × (ℕ × (List KeyPlace × List ℕ)))
    bearing = followed_by birth (λ b. regioned)

    pub built_state : (place : ℕ) → IsStoppedAt state bytes at place → IsStoppedAt (built w) bytes at place
    built_state place stopped = stopped_first bytes at state (λ s. bearing) place stopped

    module _ (s : IndexState) where
      pub built_birth : (place : ℕ) → IsTakenAt state bytes at s (at + 1) → IsStoppedAt birth bytes (at + 1) place → IsStoppedAt (built w) bytes at place
      built_birth place first stopped = stopped_second bytes at state (λ s. bearing) s (at + 1) place first (stopped_first bytes (at + 1) birth (λ b. regioned) place stopped)

      module _ (b : ℕ) where
        nine : at + 1 + 8 ≡ at + 9
        nine = omega arith

        birth_taken : IsTakenAt birth bytes (at + 1) b (at + 1 + 8) → IsTakenAt birth bytes (at + 1) b (at + 9)
        birth_taken taken = subst (λ (e : ℕ). IsTakenAt birth bytes (at + 1) b e) nine taken

        pub built_region : (place : ℕ) → IsTakenAt state bytes at s (at + 1) → IsTakenAt birth bytes (at + 1) b (at + 1 + 8) → IsStoppedAt id bytes (at + 9) place → IsStoppedAt (built w) bytes at place
        built_region place first second stopped =
            stopped_second bytes at state (λ s. bearing) s (at + 1) place first
            (stopped_second bytes (at + 1) birth (λ b. regioned) b (at + 9) place (birth_taken second) (stopped_first bytes (at + 9) id (λ r. covered w) place stopped))

        module _ (r : ℕ) where
          region_taken : IsTakenAt id bytes (at + 9) r (at + 9 + 4) → IsTakenAt id bytes (at + 9) r (at + 13)
          region_taken taken = subst (λ (e : ℕ). IsTakenAt id bytes (at + 9) r e) (let e : at + 9 + 4 ≡ at + 13 = omega arith in e) taken

          pub built_covered : (fault : DefFault) → IsTakenAt state bytes at s (at + 1) → IsTakenAt birth bytes (at + 1) b (at + 1 + 8) → IsTakenAt id bytes (at + 9) r (at + 9 + 4) → ReadsPiece (covered w) bytes (at + 13) (Err fault) → ReadsPiece (built w) bytes at (Err fault)
          built_covered fault first second third is =
              behind_reads state (λ s. bearing) bytes at s (at + 1) fault first
              (behind_reads birth (λ b. regioned) bytes (at + 1) b (at + 9) fault (birth_taken second) (behind_reads id (λ r. covered w) bytes (at + 9) r (at + 13) fault (region_taken third) is))

          pub built_taken : (c : List KeyPlace × List ℕ) (end : ℕ) → IsTakenAt state bytes at s (at + 1) → IsTakenAt birth bytes (at + 1) b (at + 1 + 8) → IsTakenAt id bytes (at + 9) r (at + 9 + 4) → IsTakenAt (covered w) bytes (at + 13) c end
              → IsTakenAt (built w) bytes at (s, (b, (r, c))) end
          built_taken c end first second third fourth =
              taken_then bytes at state (λ s. bearing) s (b, (r, c)) (at + 1) end first
              (taken_then bytes (at + 1) birth (λ b. regioned) b (r, c) (at + 9) end (birth_taken second) (taken_then bytes (at + 9) id (λ r. covered w) r c (at + 13) end (region_taken third) fourth))

abbrev IndexParts : Type 0
IndexParts = ℕ × (ℕ × (List ℕ × (IndexState × (ℕ × (ℕ × (List KeyPlace × List ℕ))))))

abbrev made_index : IndexParts → Index
made_index x = record {
  id = record { 0 = x.0 };
  table = record { 0 = x.1.0 };
  name = x.1.1.0;
  state = x.1.1.1.0;
  birth = x.1.1.1.1.0;
  region = x.1.1.1.1.1.0;
  parts = x.1.1.1.1.1.1.0;
  included = x.1.1.1.1.1.1.1;
}

abbrev index_parts : Index → IndexParts
index_parts i = (i.id.0, (i.table.0, (i.name, (i.state, (i.birth, (i.region, (i.parts, i.included)))))))

module _ (bytes : List ℕ) (at : ℕ) (tables : List Table) where
  abbrev one_table : Piece ℕ
  one_table = one_of_piece 4 (map number_of_table tables)

  abbrev behind_number : Piece (ℕ × (List ℕ × (IndexState × (ℕ × (ℕ × (List KeyPlace × List ℕ))))))
  behind_number = followed_by one_table (λ t. called (column_count tables t))

  pub index_number : (place : ℕ) → IsStoppedAt id bytes at place → IsStoppedAt (index tables) bytes at place
  unfolding index
  index_number place stopped = stopped_as bytes at made_index index_parts (followed_by id (λ n. behind_number)) (λ x right. refl) place (stopped_first bytes at id (λ n. behind_number) place stopped)

  module _ (n : ℕ) (first : IsTakenAt id bytes at n (at + 4)) where
    pub index_table : (place : ℕ) → IsStoppedAt one_table bytes (at + 4) place → IsStoppedAt (index tables) bytes at place
    unfolding index
    index_table place stopped = stopped_as bytes at made_index index_parts (followed_by id (λ n. behind_number)) (λ x right. refl) place
        (stopped_second bytes at id (λ n. behind_number) n (at + 4) place first (stopped_first bytes (at + 4) one_table (λ t. called (column_count tables t)) place stopped))

    module _ (t : ℕ) (second : IsTakenAt one_table bytes (at + 4) t (at + 4 + 4)) where
      here : IsTakenAt one_table bytes (at + 4) t (at + 8)
      here = subst (λ (e : ℕ). IsTakenAt one_table bytes (at + 4) t e) (let e : at + 4 + 4 ≡ at + 8 = omega arith in e) second

      pub index_called : (fault : DefFault) → ReadsPiece (called (column_count tables t)) bytes (at + 8) (Err fault) → ReadsPiece (index tables) bytes at (Err fault)
      unfolding index
      index_called fault is = as_fault made_index index_parts (followed_by id (λ n. behind_number)) (λ x right. refl) bytes at fault
          (behind_reads id (λ n. behind_number) bytes at n (at + 4) fault first (behind_reads one_table (λ t. called (column_count tables t)) bytes (at + 4) t (at + 8) fault here is))

      pub index_taken : (m : List ℕ) (s : IndexState) (b r : ℕ) (ps : List KeyPlace) (is : List ℕ) (end : ℕ) → IsTakenAt (called (column_count tables t)) bytes (at + 8) (m, (s, (b, (r, (ps, is))))) end
          → IsTakenAt (index tables) bytes at (made_index (n, (t, (m, (s, (b, (r, (ps, is)))))))) end
      unfolding index
      index_taken m s b r ps is end third = taken_as bytes at made_index index_parts (followed_by id (λ n. behind_number)) (λ x right. refl) (n, (t, (m, (s, (b, (r, (ps, is))))))) end
          (taken_then bytes at id (λ n. behind_number) n (t, (m, (s, (b, (r, (ps, is)))))) (at + 4) end first
          (taken_then bytes (at + 4) one_table (λ t. called (column_count tables t)) t (m, (s, (b, (r, (ps, is))))) (at + 8) end here third))

-- ---- the columns of a table by its number

module _ (tables : List Table) (n i : ℕ) (t : Table) (lt : i < length tables) (is : t ≡ get_or tables i t) where
  width_here : column_count (drop i tables) n ≡ (if t.id.0 == n then length t.columns else column_count (drop (i + 1) tables) n)
  width_here = ap (λ (l : List Table). column_count l n) (drop_more tables i t lt) ∙ ap (λ (u : Table). if u.id.0 == n then length u.columns else column_count (drop (i + 1) tables) n) (sym is)

  pub width_found : t.id.0 ≡ n → column_count tables n ≡ column_count (drop i tables) n → length t.columns ≡ column_count tables n
  width_found same before = sym (before ∙ width_here ∙ ap (λ (b : Bool). if b then length t.columns else column_count (drop (i + 1) tables) n) (eq-eqb t.id.0 n same))

  pub width_next : (t.id.0 ≡ n → ⊥) → column_count tables n ≡ column_count (drop i tables) n → column_count tables n ≡ column_count (drop (i + 1) tables) n
  width_next other before = before ∙ width_here ∙ ap (λ (b : Bool). if b then length t.columns else column_count (drop (i + 1) tables) n) (ne_eqb t.id.0 n other)

-- ---- a snapshot

abbrev behind_next : Piece (List Table × List Index)
behind_next = followed_by tables_in (λ tables. indexes_in tables)

abbrev made_standing : ℕ × (List Table × List Index) → Standing
made_standing x = record { next = x.0; tables = x.1.0; indexes = x.1.1 }

abbrev standing_parts : Standing → ℕ × (List Table × List Index)
standing_parts s = (s.next, (s.tables, s.indexes))

module _ (bytes : List ℕ) where
  pub standing_first : (place : ℕ) → IsStoppedAt (number_piece 4 4294967295) bytes 0 place → IsStoppedAt standing_piece bytes 0 place
  unfolding standing_piece
  standing_first place stopped = stopped_as bytes 0 made_standing standing_parts (followed_by (number_piece 4 4294967295) (λ n. behind_next)) (λ x right. refl) place (stopped_first bytes 0 (number_piece 4 4294967295) (λ n. behind_next) place stopped)

  module _ (n : ℕ) (first : IsTakenAt (number_piece 4 4294967295) bytes 0 n 4) where
    pub standing_tables : (fault : DefFault) → ReadsPiece tables_in bytes 4 (Err fault) → ReadsPiece standing_piece bytes 0 (Err fault)
    unfolding standing_piece
    standing_tables fault is = as_fault made_standing standing_parts (followed_by (number_piece 4 4294967295) (λ n. behind_next)) (λ x right. refl) bytes 0 fault
        (behind_reads (number_piece 4 4294967295) (λ n. behind_next) bytes 0 n 4 fault first (first_reads tables_in (λ tables. indexes_in tables) bytes 4 fault is))

    pub standing_indexes : (ts : List Table) (mid : ℕ) (fault : DefFault) → IsTakenAt tables_in bytes 4 ts mid → ReadsPiece (indexes_in ts) bytes mid (Err fault) → ReadsPiece standing_piece bytes 0 (Err fault)
    unfolding standing_piece
    standing_indexes ts mid fault second is = as_fault made_standing standing_parts (followed_by (number_piece 4 4294967295) (λ n. behind_next)) (λ x right. refl) bytes 0 fault
        (behind_reads (number_piece 4 4294967295) (λ n. behind_next) bytes 0 n 4 fault first (behind_reads tables_in (λ tables. indexes_in tables) bytes 4 ts mid fault second is))

    pub standing_taken : (ts : List Table) (mid : ℕ) (is : List Index) (end : ℕ) → IsTakenAt tables_in bytes 4 ts mid → IsTakenAt (indexes_in ts) bytes mid is end → IsTakenAt standing_piece bytes 0 (made_standing (n, (ts, is))) end
    unfolding standing_piece
    standing_taken ts mid is end second third = taken_as bytes 0 made_standing standing_parts (followed_by (number_piece 4 4294967295) (λ n. behind_next)) (λ x right. refl) (n, (ts, is)) end
        (taken_then bytes 0 (number_piece 4 4294967295) (λ n. behind_next) n (ts, is) 4 end first (taken_then bytes 4 tables_in (λ tables. indexes_in tables) ts is mid end second third))
