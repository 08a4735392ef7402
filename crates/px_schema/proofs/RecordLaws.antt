-- Records have one spelling.
use Rattle.std.proofs.Common.{◌≡◌, ℕ, Bool, true, false, List, length, map, Result, Ok, Err, refl, sym, ap, subst, ◌∙◌}
use Rattle.std.specs.Prelude.{◌==◌, if◌then◌else◌, nat_lt}
use Rattle.std.proofs.lemmas.Bool.{eqb-true, lt-ltb, ltb-true}
use Rattle.px_pieces.specs.Pieces.{Piece}
use Rattle.px_pieces.specs.Reading.{reading_of, reading_taken, reading_whole}
use Rattle.px_schema.specs.declared.item.CatalogItem.{CatalogItem}
use Rattle.px_schema.specs.declared.item.CatalogItem.TheVariants.{IndexGone, IndexIs, TableGone, TableIs}
use Rattle.px_schema.specs.declared.standing.Standing.{Standing}
use Rattle.px_schema.specs.Format.{greatest_count, index, number_of_index, number_of_table, standing_piece, table}
use Rattle.px_schema.specs.Records.{IsRightCatalogItem, definition_in_body, in_body, index_id, one_index, one_table, snapshot_in_body, table_id}
use Rattle.px_schema.specs.Spelled.{body_of, index_bytes, kind_of, standing_bytes, table_bytes}
use Rattle.px_schema.proofs.Spells.{index_spelled, one_spelled, standing_spelled, table_spelled}

body_read : {T U : Type 0} (f : T → U) (v : Piece T) (x : T) (body : List ℕ) → v.right x → v.spelled x ≡ body → in_body f (reading_of v body) ≡ Ok (f x)
body_read f v x body right is = ap (in_body f) (ap (reading_of v) (sym is) ∙ reading_whole v x right)

-- a snapshot that is written is read
pub snapshot_read : (s : Standing) → standing_piece.right s → snapshot_in_body 1 (standing_bytes s) ≡ Ok s
snapshot_read s right = body_read (λ s. s) standing_piece s (standing_bytes s) right (standing_spelled s)

-- a definition that is written is read
pub definition_read : (s : Standing) (d : CatalogItem) → IsRightCatalogItem s d → definition_in_body s (kind_of d) (body_of d) ≡ Ok d
definition_read s (TableIs t) right = ap (λ (b : Bool). if b then in_body TableIs (reading_of table (table_bytes t)) else Err 0) (lt-ltb (length s.tables) greatest_count right.1) ∙ body_read TableIs table t (table_bytes t) right.0 (table_spelled t)
definition_read s (IndexIs i) right =
    ap (λ (b : Bool). if b then in_body IndexIs (reading_of (index s.tables) (index_bytes i)) else Err 0) (lt-ltb (length s.indexes) greatest_count right.1) ∙ body_read IndexIs (index s.tables) i (index_bytes i) right.0 (index_spelled s.tables i)
definition_read s (TableGone n) right = body_read (λ n. TableGone (table_id n)) (one_table s) n.0 (body_of (TableGone n)) right (one_spelled (map number_of_table s.tables) n.0)
definition_read s (IndexGone n) right = body_read (λ n. IndexGone (index_id n)) (one_index s) n.0 (body_of (IndexGone n)) right (one_spelled (map number_of_index s.indexes) n.0)

-- ---- and nothing else is

body_taken : {T U : Type 0} (f : T → U) (v : Piece T) (body : List ℕ) (u : U) → in_body f (reading_of v body) ≡ Ok u → (x : T) × (u ≡ f x) × v.right x × (v.spelled x ≡ body)
body_taken {T} {U} f v body u is = by (reading_of v body) refl is
  where
    by : (r : Result T ℕ) → reading_of v body ≡ r → in_body f r ≡ Ok u → (x : T) × (u ≡ f x) × v.right x × (v.spelled x ≡ body)
    by (Ok x) a e = let t = reading_taken v body x a in (x, (let s : f x ≡ u = cc in sym s), t.0, t.1)
    by (Err p) a e = absurd cc

pub snapshot_taken : (kind : ℕ) (body : List ℕ) (s : Standing) → snapshot_in_body kind body ≡ Ok s → (kind ≡ 1) × standing_piece.right s × (body ≡ standing_bytes s)
snapshot_taken kind body s is = by (kind == 1) refl is
  where
    by : (b : Bool) → (kind == 1) ≡ b → (if b then in_body (λ s. s) (reading_of standing_piece body) else Err 0) ≡ Ok s → (kind ≡ 1) × standing_piece.right s × (body ≡ standing_bytes s)
    by true one e =
        let t = body_taken (λ s. s) standing_piece body s e in
        (eqb-true kind 1 one, subst standing_piece.right (sym t.1) t.2, sym t.3 ∙ standing_spelled t.0 ∙ ap standing_bytes (sym t.1))
    by false other e = absurd cc

-- a definition that is read was written so
pub definition_taken : (s : Standing) (kind : ℕ) (body : List ℕ) (d : CatalogItem) → definition_in_body s kind body ≡ Ok d → (kind ≡ kind_of d) × IsRightCatalogItem s d × (body ≡ body_of d)
definition_taken s kind body d is = two (kind == 2) refl is
  where
    five : (b : Bool) → (kind == 5) ≡ b → (if b then in_body (λ n. IndexGone (index_id n)) (reading_of (one_index s) body) else Err 0) ≡ Ok d → (kind ≡ kind_of d) × IsRightCatalogItem s d × (body ≡ body_of d)
    five true k e =
        let t = body_taken (λ n. IndexGone (index_id n)) (one_index s) body d e in
        subst (λ (d : CatalogItem). (kind ≡ kind_of d) × IsRightCatalogItem s d × (body ≡ body_of d)) (sym t.1) (eqb-true kind 5 k, t.2, sym t.3 ∙ one_spelled (map number_of_index s.indexes) t.0)
    five false k e = absurd cc

    four : (b : Bool) → (kind == 4) ≡ b → (if b then in_body (λ n. TableGone (table_id n)) (reading_of (one_table s) body) else (if kind == 5 then in_body (λ n. IndexGone (index_id n)) (reading_of (one_index s) body) else Err 0)) ≡ Ok d
        → (kind ≡ kind_of d) × IsRightCatalogItem s d × (body ≡ body_of d)
    four true k e =
        let t = body_taken (λ n. TableGone (table_id n)) (one_table s) body d e in
        subst (λ (d : CatalogItem). (kind ≡ kind_of d) × IsRightCatalogItem s d × (body ≡ body_of d)) (sym t.1) (eqb-true kind 4 k, t.2, sym t.3 ∙ one_spelled (map number_of_table s.tables) t.0)
    four false k e = five (kind == 5) refl e

    room_index : (b : Bool) → nat_lt (length s.indexes) greatest_count ≡ b → kind ≡ 3 → (if b then in_body IndexIs (reading_of (index s.tables) body) else Err 0) ≡ Ok d → (kind ≡ kind_of d) × IsRightCatalogItem s d × (body ≡ body_of d)
    room_index true r k e =
        let t = body_taken IndexIs (index s.tables) body d e in
        subst (λ (d : CatalogItem). (kind ≡ kind_of d) × IsRightCatalogItem s d × (body ≡ body_of d)) (sym t.1) (k, (t.2, ltb-true (length s.indexes) greatest_count r), sym t.3 ∙ index_spelled s.tables t.0)
    room_index false r k e = absurd cc

    three : (b : Bool) → (kind == 3) ≡ b
        → (if b then (if nat_lt (length s.indexes) greatest_count then in_body IndexIs (reading_of (index s.tables) body) else Err 0) else (if kind == 4 then in_body (λ n. TableGone (table_id n)) (reading_of (one_table s) body)
        else (if kind == 5 then in_body (λ n. IndexGone (index_id n)) (reading_of (one_index s) body) else Err 0))) ≡ Ok d → (kind ≡ kind_of d) × IsRightCatalogItem s d × (body ≡ body_of d)
    three true k e = room_index (nat_lt (length s.indexes) greatest_count) refl (eqb-true kind 3 k) e
    three false k e = four (kind == 4) refl e

    room_table : (b : Bool) → nat_lt (length s.tables) greatest_count ≡ b → kind ≡ 2 → (if b then in_body TableIs (reading_of table body) else Err 0) ≡ Ok d → (kind ≡ kind_of d) × IsRightCatalogItem s d × (body ≡ body_of d)
    room_table true r k e =
        let t = body_taken TableIs table body d e in
        subst (λ (d : CatalogItem). (kind ≡ kind_of d) × IsRightCatalogItem s d × (body ≡ body_of d)) (sym t.1) (k, (t.2, ltb-true (length s.tables) greatest_count r), sym t.3 ∙ table_spelled t.0)
    room_table false r k e = absurd cc

    two : (b : Bool) → (kind == 2) ≡ b
        → (if b then (if nat_lt (length s.tables) greatest_count then in_body TableIs (reading_of table body) else Err 0) else (if kind == 3 then (if nat_lt (length s.indexes) greatest_count then in_body IndexIs (reading_of (index s.tables) body) else Err 0)
        else (if kind == 4 then in_body (λ n. TableGone (table_id n)) (reading_of (one_table s) body) else (if kind == 5 then in_body (λ n. IndexGone (index_id n)) (reading_of (one_index s) body) else Err 0)))) ≡ Ok d
        → (kind ≡ kind_of d) × IsRightCatalogItem s d × (body ≡ body_of d)
    two true k e = room_table (nat_lt (length s.tables) greatest_count) refl (eqb-true kind 2 k) e
    two false k e = three (kind == 3) refl e
