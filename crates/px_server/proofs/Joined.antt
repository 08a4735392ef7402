-- What a point sees of pieces of whole rows is what it sees of each.
use Rattle.std.proofs.Common.{◌≡◌, ◌<◌, ◌+◌, ◌++◌, ℕ, [], List, length, take, get_or, refl, sym, ◌∙◌, subst, inl, inr}
use Rattle.std.specs.Prelude.{◌↔◌}
use Rattle.px_cells.specs.Among.{Has}
use Rattle.px_cells.specs.CellData.{CellData}
use Rattle.px_cells.specs.Order.{GoesWith, IsCellList, Reads, SamePlace}
use Rattle.px_cells.specs.Sight.{IsPlainRegion}
use Rattle.px_cells.specs.Visible.{IsView, IsVisible}
use Rattle.px_cells.proofs.Among.{HasNone, ascending_join, has_all, has_from_reads, reads_append, reads_from_has, reads_left, reads_right}
use Rattle.px_cells.proofs.Orders.{below_from_order, by_key}
use Rattle.px_cells.proofs.Sights.{visible_like}
use Rattle.px_memstore.specs.Pieces.{ArePiecesApart, KeysApart, chained}
use Rattle.px_memstore.proofs.Chained.{chained_ascending, chained_next, front_below, has_piece, less_not, piece_ascending}

-- no cell of the list has the key of this one
abbrev Misses : List CellData → CellData → Type 0
Misses cells c = (x : CellData) → Has cells x → x.key ≡ c.key → ⊥

misses_up : (cells : List CellData) (m p : CellData) → Misses cells p → m.key ≡ p.key → Misses cells m
misses_up cells m p none same x has e = none x has (e ∙ same)

none_of : (cells : List CellData) (c : CellData) → Misses cells c → HasNone cells c
none_of cells c none = has_all (λ x. SamePlace x c → ⊥) cells (λ x has s. none x has s.key)

-- ---- two lists whose keys are apart

module _ (xs ys : List CellData) (apart : KeysApart xs ys) where
  left_misses : (c : CellData) → Has xs c → Misses ys c
  left_misses c has y there e = less_not c.key y.key (apart c y has there) (sym e)

  right_misses : (c : CellData) → Has ys c → Misses xs c
  right_misses c has x there e = less_not x.key c.key (apart x c there has) e

  left_reads : (c : CellData) → Misses ys c → Reads xs c ↔ Reads (xs ++ ys) c
  left_reads c none = (λ r. reads_left xs ys c r, λ r. elim (reads_append xs ys c r) [ inl a ↦ a | inr b ↦ absurd (none c (has_from_reads ys c b.1) refl) ])

  right_reads : (c : CellData) → Misses xs c → Reads ys c ↔ Reads (xs ++ ys) c
  right_reads c none = (λ r. reads_right xs ys c (none_of xs c none) r, λ r. elim (reads_append xs ys c r) [ inl a ↦ absurd (none c (has_from_reads xs c a) refl) | inr b ↦ b.1 ])

  module _ (x : ℕ) where
    left_seen : (p : CellData) → Misses ys p → IsVisible xs x p ↔ IsVisible (xs ++ ys) x p
    left_seen p none = (
      λ v. visible_like (Misses ys) x (λ m q u k l. misses_up ys m q u k) xs (xs ++ ys) (λ c u. left_reads c u) p none v,
      λ v. visible_like (Misses ys) x (λ m q u k l. misses_up ys m q u k) (xs ++ ys) xs (λ c u. ((left_reads c u).1, (left_reads c u).0)) p none v,
    )

    right_seen : (p : CellData) → Misses xs p → IsVisible ys x p ↔ IsVisible (xs ++ ys) x p
    right_seen p none = (
      λ v. visible_like (Misses xs) x (λ m q u k l. misses_up xs m q u k) ys (xs ++ ys) (λ c u. right_reads c u) p none v,
      λ v. visible_like (Misses xs) x (λ m q u k l. misses_up xs m q u k) (xs ++ ys) ys (λ c u. ((right_reads c u).1, (right_reads c u).0)) p none v,
    )

    module _ (a b : List CellData) (left : IsView xs x a) (right : IsView ys x b) where
      left_has : (c : CellData) → Reads a c → Has xs c
      left_has c r = has_from_reads xs c ((left.exact c).0 r).live.among

      right_has : (c : CellData) → Reads b c → Has ys c
      right_has c r = has_from_reads ys c ((right.exact c).0 r).live.among

      shown : (p : CellData) → Reads (a ++ b) p → IsVisible (xs ++ ys) x p
      shown p r = elim (reads_append a b p r) [
        | inl l ↦ (left_seen p (left_misses p (left_has p l))).0 ((left.exact p).0 l)
        | inr m ↦ (right_seen p (right_misses p (right_has p m.1))).0 ((right.exact p).0 m.1)
      ]

      -- what is seen of the first list has no cell with a key of the second
      beside : (p : CellData) → Has ys p → HasNone a p
      beside p has = has_all (λ z. SamePlace z p → ⊥) a (λ z there s. right_misses p has z (left_has z (reads_from_has a z left.ascending there)) s.key)

      told : (p : CellData) → IsVisible (xs ++ ys) x p → Reads (a ++ b) p
      told p v = elim (reads_append xs ys p v.live.among) [
        | inl l ↦ reads_left a b p ((left.exact p).1 ((left_seen p (left_misses p (has_from_reads xs p l))).1 v))
        | inr m ↦ (let has = has_from_reads ys p m.1 in reads_right a b p (beside p has) ((right.exact p).1 ((right_seen p (right_misses p has)).1 v)))
      ]

      pub view_join : IsView (xs ++ ys) x (a ++ b)
      view_join = record {
        ascending = ascending_join a b left.ascending right.ascending
            (λ m n h g. below_from_order m n (by_key (apart m n (left_has m (reads_from_has a m left.ascending h)) (right_has n (reads_from_has b n right.ascending g)))));
        exact = λ p. (shown p, told p);
      }

-- ---- the pieces of a region

pub view_none : (x : ℕ) → IsView [] x []
view_none x = record { ascending = tt; exact = λ p. (λ r. absurd r, λ v. absurd v.live.among) }

module _ (ps : List (List CellData)) (at : ℕ) (lt : at < length ps) (apart : ArePiecesApart ps) where
  pub view_next : (x : ℕ) (a b : List CellData) → IsView (chained (take at ps)) x a → IsView (get_or ps at []) x b → IsView (chained (take (at + 1) ps)) x (a ++ b)
  view_next x a b before here =
      subst (λ (cells : List CellData). IsView cells x (a ++ b)) (sym (chained_next ps at lt)) (view_join (chained (take at ps)) (get_or ps at []) (front_below ps at lt apart) x a b before here)

  -- a piece of a plain region is a list of cells
  pub piece_list : IsPlainRegion (chained ps) → IsCellList (get_or ps at [])
  piece_list plain = record {
    ascending = piece_ascending ps at lt apart;
    placed = has_all GoesWith (get_or ps at []) (λ c has. plain.placed c (reads_from_has (chained ps) c (chained_ascending ps apart) (has_piece ps at lt apart c has)));
  }
