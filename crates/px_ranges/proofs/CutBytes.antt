-- Cuts as bytes.
use Rattle.std.proofs.Common.{Bool, subst, ◌≡◌, ◌≢◌, ◌↔◌, ◌<◌, inl, inr, ℕ, true, false, List, [], append-nil, refl, sym, ap, ◌∙◌, Option, Some, None}
use Rattle.std.specs.List.{All}
use Rattle.std.specs.Cmp.Lexicographic.{slice_cmp}
use Rattle.std.specs.Ordering.{nat_cmp, ordering_reverse}
use Rattle.std.specs.declared.cmp.Ordering.{Ordering}
use Rattle.std.specs.declared.cmp.Ordering.TheVariants.{Less, Equal, Greater}
use Rattle.std.proofs.lemmas.Cmp.{nat_list_cmp_total}
use Rattle.px_values.specs.declared.row.Value.{Value}
use Rattle.px_keys.specs.Range.{IsBetween, IsPrefix}
use Rattle.px_keys.specs.Spelling.{spelled}
use Rattle.px_keys.specs.declared.parts.KeyColumn.{KeyColumn}
use Rattle.px_ranges.specs.inner.Cuts.{IsBelow, StandsBefore}

pub cut_before : (columns : List KeyColumn) (vs : List Value) (key : List ℕ) → IsBelow key (Some (spelled columns vs)) ↔ StandsBefore columns key (record { values = vs; behind = false })
cut_before columns vs key = (λ h. inl h, λ h. elim h [ inl e ↦ e | inr e ↦ (let z = e.0 in cc) ])

not_greater : (o p : Ordering) → o ≡ ordering_reverse p → p ≢ Less → o ≢ Greater
not_greater o Less e n g = n refl
not_greater o Equal e n g = let z : ◌≡◌ {A = Ordering} Greater Equal = sym g ∙ e in cc
not_greater o Greater e n g = let z : ◌≡◌ {A = Ordering} Greater Less = sym g ∙ e in cc

front_same : (front : List ℕ) → slice_cmp nat_cmp front front ≢ Greater
front_same front g =
    let t = nat_list_cmp_total.antisymm front front in
    let z : ◌≡◌ {A = Ordering} Greater Less = sym g ∙ t ∙ ap ordering_reverse g in cc

begins_itself : (front : List ℕ) → IsPrefix front front
begins_itself front = ([], sym (append-nil front))

from_between : (front : List ℕ) (high : Option (List ℕ)) (key : List ℕ) → IsBetween front high key → IsBelow key high
from_between front None key h = tt
from_between front (Some high) key h = h.1

to_between : (front : List ℕ) (high : Option (List ℕ)) (key : List ℕ) → slice_cmp nat_cmp front key ≢ Greater → IsBelow key high → IsBetween front high key
to_between front None key n h = n
to_between front (Some high) key n h = (n, h)

-- what is below the front is below the end of its range
below_front : (front : List ℕ) (high : Option (List ℕ)) (key : List ℕ) → IsBelow front high → slice_cmp nat_cmp key front ≡ Less → IsBelow key high
below_front front None key h l = tt
below_front front (Some high) key h l = nat_list_cmp_total.trans key front high l h

pub cut_behind : (columns : List KeyColumn) (vs : List Value) (high : Option (List ℕ)) → All (λ b. b < 256) (spelled columns vs) → ((bytes : List ℕ) → All (λ b. b < 256) bytes → IsBetween (spelled columns vs) high bytes ↔ IsPrefix (spelled columns vs) bytes) → (key : List ℕ) → All (λ b. b < 256) key → IsBelow key high ↔ StandsBefore columns key (record { values = vs; behind = true })
cut_behind columns vs high small range key bytes =
    let front = spelled columns vs in (
      λ h. by_order h (slice_cmp nat_cmp key front) refl,
      λ h. elim h [
        | inl l ↦ below_front front high key (from_between front high front ((range front small).1 (begins_itself front))) l
        | inr b ↦ from_between front high key ((range key bytes).1 b.1)
      ],
    )
  where
    by_order : IsBelow key high → (o : Ordering) → slice_cmp nat_cmp key (spelled columns vs) ≡ o → StandsBefore columns key (record { values = vs; behind = true })
    by_order h Less e = inl e
    by_order h Equal e = inr (refl, (range key bytes).0 (to_between (spelled columns vs) high key (not_greater _ _ (nat_list_cmp_total.antisymm (spelled columns vs) key) (λ l. let z : ◌≡◌ {A = Ordering} Equal Less = sym e ∙ l in cc)) h))
    by_order h Greater e = inr (refl, (range key bytes).0 (to_between (spelled columns vs) high key (not_greater _ _ (nat_list_cmp_total.antisymm (spelled columns vs) key) (λ l. let z : ◌≡◌ {A = Ordering} Greater Less = sym e ∙ l in cc)) h))

-- the bytes of code's places
pub bytes_before : (columns : List KeyColumn) (vs : List Value) (behind : Bool) (key front : List ℕ) → front ≡ spelled columns vs → behind ≡ false → IsBelow key (Some front) ↔ StandsBefore columns key (record { values = vs; behind = behind })
bytes_before columns vs behind key front e b =
    subst (λ (t : Bool). IsBelow key (Some front) ↔ StandsBefore columns key (record { values = vs; behind = t })) (sym b)
    (subst (λ (bytes : List ℕ). IsBelow key (Some bytes) ↔ StandsBefore columns key (record { values = vs; behind = false })) (sym e) (cut_before columns vs key))

pub bytes_behind : (columns : List KeyColumn) (vs : List Value) (behind : Bool) (front : List ℕ) (high : Option (List ℕ)) → front ≡ spelled columns vs → behind ≡ true → All (λ b. b < 256) front → ((bytes : List ℕ) → All (λ b. b < 256) bytes → IsBetween front high bytes ↔ IsPrefix front bytes) → (key : List ℕ) → All (λ b. b < 256) key → IsBelow key high ↔ StandsBefore columns key (record { values = vs; behind = behind })
bytes_behind columns vs behind front high e b small range key bytes =
    subst (λ (t : Bool). IsBelow key high ↔ StandsBefore columns key (record { values = vs; behind = t })) (sym b)
    (cut_behind columns vs high (subst (λ (x : List ℕ). All (λ b. b < 256) x) e small) (subst (λ (x : List ℕ). (bytes : List ℕ) → All (λ b. b < 256) bytes → IsBetween x high bytes ↔ IsPrefix x bytes) e range) key bytes)
