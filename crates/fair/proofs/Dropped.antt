-- A visit of a table is the model's sweep by place: of the rows of its part, those more than 8,000 ms older than the stamp. Two visits, the
-- second by the offsets that the first left, are one sweep. Assumes nothing.
use mathlib.Core.Path.{◌≡◌, refl, sym, ap, ◌∙◌}
use mathlib.Core.Bool.{Bool, true, false, cond}
use mathlib.Core.List.{List, [], ◌∷◌, ◌++◌, map}
use Prim.Native.Nat.{ℕ, ◌+◌, ◌-◌, ◌≤◌, ◌<◌}
use native.Mathlib.Omega.{arith}
use lib.Dec.{ltb}
use lib.ListN.{length, get_or, take, drop, length-append, length-drop}
use Rattle.std.proofs.lemmas.List.{map-append, take-map, drop-map, length-take-le}
use Rattle.store.specs.Store.{Record, use_at}
use Rattle.shifting.specs.Offsets.{«PARTS»}
use Rattle.shifting.proofs.Places.{from_behind}
use Rattle.parts.specs.Parts.{Rows, begin, end, gone, dropped, left}
use Rattle.parts.specs.Laws as laws
use Rattle.parts.specs.Laws.{Sound, without}
use Rattle.parts.proofs.Laws.{leave}
use Rattle.parts.proofs.Keeping.{fits_of, rise, inside, counts}
use Rattle.fair.specs.Store as model
use Rattle.fair.proofs.Places as places
use Rattle.fair.proofs.View.{Name, same, shares, R, listed, listed_length, listed_rows, row_of}

module _ (room : ℕ) where
  abbrev sweep : (ℕ → R room → Bool) → List (R room) → List (R room)
  sweep p rs = model.sweep Name same shares room p rs

  abbrev anywhere : (R room → Bool) → ℕ → R room → Bool
  anywhere q = places.anywhere Name same shares room q

  -- the rows from the place b up to the place e
  abbrev part : List (R room) → ℕ → ℕ → List (R room)
  part xs b e = places.part Name same shares room xs b e

  -- a row is more than 8,000 ms older than a stamp
  abbrev pub old : ℕ → R room → Bool
  old at_ms r = ltb (r.used.at_ms + 8000) at_ms

  -- of the rows from the place b up to the place e those
  abbrev pub old_within : ℕ → ℕ → ℕ → ℕ → R room → Bool
  old_within at_ms b e = places.within Name same shares room b e (old at_ms)

  old_row : (at_ms : ℕ) (r : Record) → old at_ms (row_of room r) ≡ laws.stale at_ms r
  unfolding row_of laws.stale use_at
  old_row at_ms r = refl

  one_more : (r : Record) (xs : List (R room)) (rs : List Record) (b c : Bool) → b ≡ c → xs ≡ map (row_of room) rs
      → cond b xs (row_of room r ∷ xs) ≡ map (row_of room) (cond c rs (r ∷ rs))
  one_more r xs rs b true q e = rw q e
  one_more r xs rs b false q e = rw q (ap (λ (l : List (R room)). row_of room r ∷ l) e)

  swept_rows : (at_ms : ℕ) (xs : List Record) → sweep (anywhere (old at_ms)) (map (row_of room) xs) ≡ map (row_of room) (without (laws.stale at_ms) xs)
  unfolding without
  swept_rows at_ms [] = refl
  swept_rows at_ms (r ∷ rs) = one_more r _ _ (old at_ms (row_of room r)) (laws.stale at_ms r) (old_row at_ms r) (swept_rows at_ms rs)

  -- the three parts of a list of records, as rows
  three : (at_ms : ℕ) (xs : List Record) (b e : ℕ) → map (row_of room) ((take b xs ++ without (laws.stale at_ms) (take (e - b) (drop b xs))) ++ drop e xs)
      ≡ (take b (map (row_of room) xs) ++ sweep (anywhere (old at_ms)) (part (map (row_of room) xs) b e)) ++ drop e (map (row_of room) xs)
  three at_ms xs b e =
      let row = row_of room in
      let ys = take (e - b) (drop b xs) in
      let zs = without (laws.stale at_ms) ys in
      map-append row (take b xs ++ zs) (drop e xs) ∙ ap (λ (l : List (R room)). l ++ map row (drop e xs)) (map-append row (take b xs) zs)
      ∙ rw (take-map row b xs, drop-map row e xs, drop-map row b xs, take-map row (e - b) (drop b xs), swept_rows at_ms ys) refl

  -- ---- one visit
  module _ (m : Rows) (n t at_ms : ℕ) (s : Sound m n) (h : t < «PARTS») where
    abbrev S : Rows
    S = dropped m n t at_ms

    abbrev N : ℕ
    N = left m n t at_ms

    abbrev b : ℕ
    b = begin m t

    abbrev e : ℕ
    e = end m t

    abbrev D : ℕ
    D = length (gone m t at_ms)

    parted : listed room S N ≡ (take b (listed room m n) ++ sweep (anywhere (old at_ms)) (part (listed room m n) b e)) ++ drop e (listed room m n)
    parted =
        listed_rows room S N ∙ ap (map (row_of room)) (leave m n t at_ms s h).list ∙ three at_ms (laws.listed m n) b e
        ∙ ap (λ (rs : List (R room)). (take b rs ++ sweep (anywhere (old at_ms)) (part rs b e)) ++ drop e rs) (sym (listed_rows room m n))

    -- THE VISIT: the model's sweep of the part
    pub listed_dropped : listed room S N ≡ sweep (old_within at_ms b e) (listed room m n)
    listed_dropped =
        let l : e ≤ length (listed room m n) = omega (arith, inside m n t at_ms (fits_of m n s) h, listed_length room m n) in
        parted ∙ sym (places.swept_within Name same shares room (old at_ms) b e (listed room m n) (rise m n t at_ms (fits_of m n s) h) l)

    -- how many rows of the part stay
    stay : D + length (sweep (anywhere (old at_ms)) (part (listed room m n) b e)) ≡ e - b
    stay =
        let xs = listed room m n in
        let k = sweep (anywhere (old at_ms)) (part xs b e) in
        let r = rise m n t at_ms (fits_of m n s) h in
        let i = inside m n t at_ms (fits_of m n s) h in
        let f = length-take-le b xs (omega (arith, listed_length room m n)) in
        let a = sym (listed_length room S N) ∙ ap length parted ∙ length-append (take b xs ++ k) (drop e xs) in
        omega (arith, counts m n t at_ms (fits_of m n s) h, listed_length room m n, a, length-append (take b xs) k, f, length-drop e xs)

    -- where the later parts begin then
    later : (u : ℕ) → t < u → u ≤ «PARTS» → get_or S.offsets u 0 ≡ get_or m.offsets u 0 - D
    unfolding dropped
    later u k l = let z = s.offsets in from_behind (λ (o : ℕ). o - D) m.offsets (t + 1) u (omega arith) (omega arith)

  -- ---- two visits
  module _ (m : Rows) (n t at_ms : ℕ) (s : Sound m n) (h : t + 1 < «PARTS») where
    abbrev first : Rows
    first = dropped m n t at_ms

    abbrev few : ℕ
    few = left m n t at_ms

    pub listed_twice : listed room (dropped first few (t + 1) at_ms) (left first few (t + 1) at_ms)
        ≡ sweep (old_within at_ms (begin m t) (end m (t + 1))) (listed room m n)
    listed_twice =
        let l : t < 64 = omega arith in
        let d = length (gone m t at_ms) in
        let j = end m t - d in
        let y = stay m n t at_ms s l in
        let r = rise m n t at_ms (fits_of m n s) l in
        let q = rise m n (t + 1) at_ms (fits_of m n s) h in
        let g : begin first (t + 1) ≡ j = later m n t at_ms s l (t + 1) (omega arith) (omega arith) in
        let f : end first (t + 1) ≡ j + (end m (t + 1) - end m t) = later m n t at_ms s l (t + 1 + 1) (omega arith) (omega arith) ∙ omega arith in
        let i : end m (t + 1) ≤ length (listed room m n) = omega (arith, inside m n (t + 1) at_ms (fits_of m n s) h, listed_length room m n) in
        let c : j ≡ begin m t + length (sweep (anywhere (old at_ms)) (part (listed room m n) (begin m t) (end m t))) = omega arith in
        listed_dropped first few (t + 1) at_ms (leave m n t at_ms s l).sound h
        ∙ ap (λ (x : ℕ). sweep (old_within at_ms x (end first (t + 1))) (listed room first few)) g
        ∙ ap (λ (x : ℕ). sweep (old_within at_ms j x) (listed room first few)) f
        ∙ ap (sweep (old_within at_ms j (j + (end m (t + 1) - end m t)))) (listed_dropped m n t at_ms s l)
        ∙ places.swept_next Name same shares room (old at_ms) (begin m t) (end m t) (end m (t + 1)) j (listed room m n) r q i c
