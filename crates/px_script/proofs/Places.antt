-- The pieces of a text of n bytes stand in it.
use Rattle.std.proofs.Common.{◌≡◌, ℕ, ◌+◌, ◌<◌, ◌≤◌, List, [], ◌∷◌, ◌++◌, length, map, sym, ap, subst, arith, length-append}
use Rattle.std.proofs.lemmas.List.Elements.{All-from_recursion}
use Rattle.std.specs.List.{All, AllByRecursion}
use Rattle.px_lex.specs.declared.script.Part.{Part}
use Rattle.px_lex.specs.declared.script.Part.TheVariants as parts
use Rattle.px_lex.specs.declared.script.Piece.{Piece}
use Rattle.px_lex.specs.Script.{IsScript, Section, SeenPiece, combined, piece_of, pieces_from, seen_piece}

abbrev ends_within : ℕ → SeenPiece → Type 0
ends_within n p = p.place + length p.text ≤ n

one_more : (n : ℕ) (part : Part) (place : ℕ) (text : List ℕ) (rest : List SeenPiece) → place + length text ≤ n → AllByRecursion (ends_within n) rest → AllByRecursion (ends_within n) (piece_of part place text ++ rest)
one_more n (parts.Between form) place text rest bound all = all
one_more n parts.Statement place text rest bound all = (bound, all)
one_more n parts.Command place text rest bound all = (bound, all)

pieces_within : (n place : ℕ) (xs : List Section) → place + length (combined xs) ≤ n → AllByRecursion (ends_within n) (pieces_from place xs)
pieces_within n place [] bound = tt
pieces_within n place (x ∷ xs) bound =
    let both = length-append x.text (combined xs) in
    one_more n x.part place x.text (pieces_from (place + length x.text) xs) (omega arith) (pieces_within n (place + length x.text) xs (omega arith))

all_seen : (n : ℕ) (pieces : List Piece) → AllByRecursion (ends_within n) (map seen_piece pieces) → AllByRecursion (λ p. ends_within n (seen_piece p)) pieces
all_seen n [] all = tt
all_seen n (p ∷ pieces) all = (all.0, all_seen n pieces all.1)

below : (n most : ℕ) (pieces : List Piece) → n < most → AllByRecursion (λ p. ends_within n (seen_piece p)) pieces → AllByRecursion (λ p. p.place + length p.text.now < most) pieces
below n most [] short all = tt
below n most (p ∷ pieces) short all = (omega (arith, all.0, short), below n most pieces short all.1)

pub all_below : (text : List ℕ) (xs : List Section) (pieces : List Piece) (most : ℕ) → length text < most → IsScript text xs → map seen_piece pieces ≡ pieces_from 0 xs → All (λ piece. piece.place + length piece.text.now < most) pieces
all_below text xs pieces most short cut are =
    let whole = ap length cut.0 in
    let all : AllByRecursion (ends_within (length text)) (pieces_from 0 xs) = pieces_within (length text) 0 xs (omega arith) in
    All-from_recursion _ pieces (below (length text) most pieces short (all_seen (length text) pieces (subst (λ (l : List SeenPiece). AllByRecursion (ends_within (length text)) l) (sym are) all)))
