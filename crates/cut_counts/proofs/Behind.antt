-- The part of a list from a place on, lent to a call and put back. Assumes nothing.
use Rattle.std.proofs.Common.{◌≡◌, ℕ, ◌-◌, ◌≤◌, List, ◌++◌, length, take, drop, ap, ◌∙◌, append-nil, arith, length-drop, take_all}
use lib.Seq.{drop-length}
use borrow.Rule.Slice.PartMut.{mid_of, put_mid, Post-is}

-- what is lent of xs from a on, and xs with ys put back
abbrev pub lent : ℕ → List ℕ → List ℕ
lent a xs = mid_of a (length xs - a) xs

abbrev pub put : ℕ → List ℕ → List ℕ → List ℕ
put a xs ys = put_mid a (length xs - a) xs ys

pub lent_is : (a : ℕ) (xs : List ℕ) → a ≤ length xs → lent a xs ≡ drop a xs
lent_is a xs h = take_all (length xs - a) (drop a xs) (omega (arith, length-drop a xs))

pub put_is : (a : ℕ) (xs ys : List ℕ) → a ≤ length xs → put a xs ys ≡ take a xs ++ ys
put_is a xs ys h = ap (λ (z : List ℕ). take a xs ++ (ys ++ z)) (Post-is a (length xs) xs h ∙ drop-length xs) ∙ ap (λ (z : List ℕ). take a xs ++ z) (append-nil ys)
