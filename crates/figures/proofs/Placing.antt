-- The numbers of pivots laid out one after another.
use Prim.Native.Nat.{ℕ, zero, suc, ◌+◌, ◌/◌, ◌≤◌, ◌<◌}
use mathlib.Core.Path.{◌≡◌, refl, ap, ◌∙◌}
use mathlib.Core.Logic.{◌≢◌}
use mathlib.Core.List.{List, [], ◌∷◌}
use native.Mathlib.Omega.{arith}
use native.Mathlib.Decide.{ℕ_discrete}
use lib.ListN.{length, get_or, set, length-set}
use Rattle.rules.specs.Words.{At, at_first, at_later}
use Rattle.rules.specs.Pivots.{Pivot, pivots_of}
use Rattle.rules.proofs.Laws.Good.{at_same, at_below}
use Rattle.search.specs.declared.pivots.PivotNumbers.{PivotNumbers}
use Rattle.search.specs.Pivots.{numbers_over, PivotsLaid}
use Rattle.figures.specs.Pivots.{pivot_width, pivot_at}
use Rattle.figures.proofs.Pivoting.{pivots_at, length_pivots}

at_set : {A : Type 0} (xs : List A) (i : ℕ) (x y : A) → At xs i x → At (set xs i y) i y
at_set [] i x y a = elim a [ ]
at_set (x ∷ xs) zero z y at_first = at_first
at_set (x ∷ xs) (suc i) z y (at_later a) = at_later (at_set xs i z y a)

at_set_other : {A : Type 0} (xs : List A) (i j : ℕ) (x y : A) → j ≢ i → At xs j x → At (set xs i y) j x
at_set_other [] i j x y h a = elim a [ ]
at_set_other (x ∷ xs) zero zero z y h a = absurd (h refl)
at_set_other (x ∷ xs) (suc i) zero z y h at_first = at_first
at_set_other (x ∷ xs) zero (suc j) z y h (at_later a) = at_later a
at_set_other (x ∷ xs) (suc i) (suc j) z y h (at_later a) = at_later (at_set_other xs i j z y (λ e. h (ap suc e)) a)

pub at_get : {A : Type 0} (xs : List A) (i : ℕ) (d : A) → i < length xs → At xs i (get_or xs i d)
at_get [] i d h = absurd (omega arith)
at_get (x ∷ xs) zero d h = at_first
at_get (x ∷ xs) (suc i) d h = at_later (at_get xs i d (omega arith))

-- the numbers of the first i pivots are laid out, and the rest of the list is kept
pub record Laying (n : ℕ) (pivots : List ℕ) (onward into : Pivot → List ℕ) (i : ℕ) (old now : List PivotNumbers) : Type 0 where
  pub same_length : length now ≡ length old
  pub laid : (j : ℕ) (x : PivotNumbers) → j < i → At old j x → At now j (numbers_over n (onward (pivot_at pivots j)) (into (pivot_at pivots j)) x)
  pub kept : (j : ℕ) (x : PivotNumbers) → i ≤ j → At old j x → At now j x

module _ (n : ℕ) (pivots : List ℕ) (onward into : Pivot → List ℕ) where
  abbrev own : ℕ → PivotNumbers → PivotNumbers
  own i x = numbers_over n (onward (pivot_at pivots i)) (into (pivot_at pivots i)) x

  pub laying_more : (i : ℕ) (old now new : List PivotNumbers) (x : PivotNumbers) → At now i x → new ≡ set now i (own i x)
      → Laying n pivots onward into i old now → Laying n pivots onward into (i + 1) old new
  laying_more i old now new x here e before =
      record {
        same_length = ap length e ∙ (length-set now i (own i x) ∙ before.same_length);
        laid = λ j y l a. rw e (go j y l a (ℕ_discrete j i));
        kept = λ j y l a. rw e (at_set_other now i j y (own i x) (λ d. omega arith) (before.kept j y (omega arith) a));
      }
    where
      go : (j : ℕ) (y : PivotNumbers) → j < i + 1 → At old j y → Dec (j ≡ i) → At (set now i (own i x)) j (own j y)
      go j y l a (yes d) =
          let b : At now i y = before.kept i y (omega arith) (rw d at a) in
          rw (d, at_same b here) (at_set now i x (own i x) here)
      go j y l a (no d) = at_set_other now i j (own j y) (own i x) d (before.laid j y (omega arith) a)

  pub laying_end : (i : ℕ) (old now : List PivotNumbers) → i ≡ length pivots / pivot_width → Laying n pivots onward into i old now
      → PivotsLaid n (pivots_of pivots) onward into old now
  laying_end i old now e l =
      record {
        same_length = l.same_length;
        laid = λ j p x a b.
            let inside : j < length pivots / pivot_width = omega (arith, at_below a, length_pivots pivots) in
            rw (at_same a (pivots_at pivots j inside)) (l.laid j x (omega arith) b);
        kept = λ j x h a. l.kept j x (omega (arith, length_pivots pivots)) a;
      }
