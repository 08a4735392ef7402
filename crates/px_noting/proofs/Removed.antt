-- A point that is taken out of the open ones.
use Rattle.std.proofs.Common.{ℕ, zero, suc, ◌≡◌, ◌<◌, ◌+◌, ◌-◌, ◌==◌, ◌&&◌, if◌then◌else◌, Bool, true, false, List, [], ◌∷◌, length, get_or, sym, ◌∙◌, ap, subst, arith}
use Rattle.std.specs.List.{remove, sum_by}
use Rattle.std.proofs.lemmas.List.Sums.{sum_by-cons}
use Rattle.px_group.specs.declared.group.OpenPoint.{OpenPoint}
use Rattle.px_group.specs.Group.{one_if, points_in}
use Rattle.px_noting.specs.Points.{no_point}

sum_removed : (f : OpenPoint → ℕ) (xs : List OpenPoint) (i : ℕ) → i < length xs → sum_by f (remove xs i) + f (get_or xs i no_point) ≡ sum_by f xs
sum_removed f [] i l = absurd (omega (arith, l))
sum_removed f (x ∷ xs) zero l = (let all = sum_by-cons f x xs in let e : sum_by f xs + f x ≡ f x + sum_by f xs = omega arith in e ∙ sym all)
sum_removed f (x ∷ xs) (suc i) l = (let
    k = sum_removed f xs i (omega (arith, l))
    in let
    all = sum_by-cons f x xs
    in let
    rest : sum_by f (x ∷ remove xs i) ≡ f x + sum_by f (remove xs i) = sum_by-cons f x (remove xs i)
    in ap (λ n. n + f (get_or xs i no_point)) rest ∙ ((let e : f x + sum_by f (remove xs i) + f (get_or xs i no_point) ≡ f x + sum_by f xs = omega (arith, k) in e) ∙ sym all))

less_one : (v : Bool) (n m : ℕ) → n + one_if v ≡ m → n ≡ (if v then m - 1 else m)
less_one true n m k = omega (arith, k)
less_one false n m k = omega (arith, k)

pub released_by : (seat s : ℕ) (xs : List OpenPoint) (i : ℕ) (ys : List OpenPoint) → i < length xs → (get_or xs i no_point).seat ≡ seat → (get_or xs i no_point).stamp ≡ s → ys ≡ remove xs i → (k u : ℕ) → points_in k u ys ≡ (if (seat == k) && (s == u) then points_in k u xs - 1 else points_in k u xs)
released_by seat s xs i ys l is_seat is_stamp is k u = ap (points_in k u) is ∙ less_one ((seat == k) && (s == u)) (points_in k u (remove xs i)) (points_in k u xs) (ap (λ v. points_in k u (remove xs i) + one_if v) (λ j. (sym is_seat j == k) && (sym is_stamp j == u)) ∙ sum_removed (λ p. one_if ((p.seat == k) && (p.stamp == u))) xs i l)

-- where the list that was looked through is the one that the place is taken out of
pub released_in : (seat s : ℕ) (xs zs : List OpenPoint) (i : ℕ) (ys : List OpenPoint) → zs ≡ xs → i < length zs → (get_or zs i no_point).seat ≡ seat → (get_or zs i no_point).stamp ≡ s → ys ≡ remove xs i → (k u : ℕ) → points_in k u ys ≡ (if (seat == k) && (s == u) then points_in k u xs - 1 else points_in k u xs)
released_in seat s xs zs i ys same l is_seat is_stamp is k u = released_by seat s xs i ys (subst (λ (l : List OpenPoint). i < length l) same l) (subst (λ (l : List OpenPoint). (get_or l i no_point).seat ≡ seat) same is_seat) (subst (λ (l : List OpenPoint). (get_or l i no_point).stamp ≡ s) same is_stamp) is k u
