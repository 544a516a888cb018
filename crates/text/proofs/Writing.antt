-- Laws of `write`: when a text is written, when not, and that texts written one after the other are one text. Assumes nothing.
use mathlib.Core.Path.{◌≡◌, refl, sym, ap, ◌∙◌}
use mathlib.Core.Bool.{Bool, true, false, cond}
use lib.Dec.{leb}
use mathlib.Core.List.{List, [], ◌∷◌, ◌++◌, append_assoc}
use Prim.Native.Nat.{ℕ, ◌+◌, ◌≤◌, ◌<◌}
use native.Mathlib.Nat.{add-zero, zero-add, add_assoc}
use native.Mathlib.Omega.{arith}
use borrow.Author.Tests.{le-leb, lt-leb}
use lib.ListN.{length, take, drop, length-append, length-take, length-drop}
use lib.Seq.{paste, paste-zero, take-length, drop_at, take_at, drop-drop}
use Rattle.io.specs.Counts.{IsPrefixLen}
use Rattle.text.specs.Page.{Page, page, placed, write, writes, joined}

pub fits : (p : Page) (text : List ℕ) → p.at + length text ≤ length p.out → write p text ≡ placed p text
unfolding write
fits p text h = simp (le-leb _ _ h)

pub refused : (out : List ℕ) (at : ℕ) (text : List ℕ) → length out < at + length text → page out at ≡ write (page out at) text
unfolding write
refused out at text h = simp (lt-leb _ _ h)

-- what a copy of the whole text leaves is the text placed
pub copied : (out : List ℕ) (at : ℕ) (text now : List ℕ) → at + length text ≤ length out → now ≡ paste out at text (length text)
    → page now (at + length text) ≡ write (page out at) text
unfolding placed
copied out at text now h e =
    ap (λ (l : List ℕ). page l (at + length text))
    (e ∙ ap (λ (l : List ℕ). take at out ++ l ++ drop (at + length text) out) (take-length text))
    ∙ sym (fits (page out at) text h)

-- a placed text, and the text behind it
module _ (out : List ℕ) (at : ℕ) (a b : List ℕ) (h : at + length a + length b ≤ length out) where
  both : List ℕ
  both = take at out ++ a ++ drop (at + length a) out

  both_head : length (take at out ++ a) ≡ at + length a
  both_head = simp (length-append, length-take) (omega arith)

  both-length : length both ≡ length out
  unfolding both
  both-length = simp (length-append, length-take, length-drop) (omega arith)

  both_rest : drop (at + length a + length b) both ≡ drop (at + length a + length b) out
  unfolding both
  both_rest =
      sym (drop-drop (length b) (at + length a) both)
      ∙ ap (drop (length b)) (drop_at (take at out ++ a) (drop (at + length a) out) (at + length a) both_head)
      ∙ drop-drop (length b) (at + length a) out

  both_placed : placed (placed (page out at) a) b ≡ placed (page out at) (a ++ b)
  unfolding placed both
  both_placed =
      ap (λ (l : List ℕ). page (l ++ b ++ drop (at + length a + length b) both) (at + length a + length b))
      (take_at (take at out ++ a) (drop (at + length a) out) (at + length a) both_head)
      ∙ ap (λ (l : List ℕ). page (take at out ++ a ++ b ++ l) (at + length a + length b)) both_rest
      ∙ ap (λ (n : ℕ). page (take at out ++ a ++ b ++ drop n out) n) (add_assoc at (length a) (length b) ∙ ap (λ (n : ℕ). at + n) (sym (length-append a b)))
      ∙ ap (λ (l : List ℕ). page (l ++ drop (at + length (a ++ b)) out) (at + length (a ++ b))) (append_assoc (take at out) a b)

  both_written : write (write (page out at) a) b ≡ write (page out at) (a ++ b)
  unfolding placed both
  both_written =
      ap (λ (q : Page). write q b) (fits (page out at) a (omega arith))
      ∙ fits (placed (page out at) a) b (omega (arith, both-length))
      ∙ both_placed
      ∙ sym (fits (page out at) (a ++ b) (omega (arith, length-append a b)))

-- texts that fit, written one after the other, are their joined text written
pub write_write : (p : Page) (a b : List ℕ) → p.at + length (a ++ b) ≤ length p.out → write (write p a) b ≡ write p (a ++ b)
write_write p a b h = both_written p.out p.at a b (omega (arith, length-append a b))

-- a text of no bytes changes nothing
nothing : (p : Page) → p ≡ write p []
unfolding write placed
nothing p =
    either (leb (p.at + 0) (length p.out)) (placed p [])
    (ap (λ (n : ℕ). page p.out n) (sym (add-zero p.at)) ∙ ap (λ (l : List ℕ). page l (p.at + 0)) (paste-zero p.out p.at []))
  where
    either : (t : Bool) (q : Page) → p ≡ q → p ≡ cond t q p
    either true q e = e
    either false q e = refl

-- what is left fits behind the first text
more : (p : Page) (a b : List ℕ) → p.at + length (a ++ b) ≤ length p.out → (write p a).at + length b ≤ length (write p a).out
unfolding placed both
more p a b h =
    let g : p.at + length a + length b ≤ length p.out = omega (arith, length-append a b) in
    rw (fits p a (omega (arith, length-append a b))) (omega (arith, length-append a b, both-length p.out p.at a b g))

pub writes_joined : (p : Page) (ts : List (List ℕ)) → p.at + length (joined ts) ≤ length p.out → writes p ts ≡ write p (joined ts)
unfolding writes joined
writes_joined p [] h = nothing p
writes_joined p (t ∷ ts) h =
    writes_joined (write p t) ts (more p t (joined ts) h) ∙ write_write p t (joined ts) h

-- a text placed at the front of a buffer is its front part
module _ (out text after : List ℕ) (r : ℕ) (room : length text ≤ length out) (is : page after r ≡ write (page out 0) text) where
  whole : page after r ≡ page (text ++ drop (0 + length text) out) (0 + length text)
  unfolding placed
  whole = is ∙ fits (page out 0) text (omega arith)

  front_length : r ≡ length text
  front_length = ap (λ (p : Page). p.at) whole ∙ zero-add (length text)

  front_bytes : after ≡ text ++ drop (0 + length text) out
  front_bytes = ap (λ (p : Page). p.out) whole

  front_text : take r after ≡ text
  front_text = ap (take r) front_bytes ∙ take_at text (drop (0 + length text) out) r (sym front_length)

  front_count : r ≤ length after
  front_count = rw front_bytes (omega (arith, length-append text (drop (0 + length text) out), front_length))

  pub front : IsPrefixLen r after × (take r after ≡ text)
  front = ((front_count, front_length ∙ ap length (sym front_text)), front_text)
