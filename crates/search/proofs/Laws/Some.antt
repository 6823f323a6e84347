-- Whether a test holds of some of a list: it holds at a place, and one at which it holds is found.
use Rattle.std.specs.Prelude.{ℕ, zero, suc, ◌≡◌, refl, Bool, true, false, ◌||◌, List, [], ◌∷◌}
use Rattle.std.specs.List.{list_any}
use Rattle.rules.specs.Words.{At, at_first, at_later}
use Rattle.search.proofs.Laws.Greatest.{not_both}

pub some_yes : {A : Type 0} (test : A → Bool) (xs : List A) (i : ℕ) (x : A) → At xs i x → test x ≡ true → list_any test xs ≡ true
some_yes test [] i x m e = elim m [ ]
some_yes test (y ∷ xs) zero x at_first e = rw e
some_yes test (y ∷ xs) (suc i) x (at_later a) e = rw (some_yes test xs i x a e) (or_true (test y))
  where
    or_true : (b : Bool) → b || true ≡ true
    or_true true = refl
    or_true false = refl

pub of_some : {A : Type 0} (test : A → Bool) (xs : List A) → list_any test xs ≡ true → (i : ℕ) × (x : A) × At xs i x × (test x ≡ true)
of_some test [] e = not_both e refl
of_some {A} test (y ∷ xs) e = go (test y) refl e (of_some test xs)
  where
    go : (b : Bool) → test y ≡ b → b || list_any test xs ≡ true → (list_any test xs ≡ true → (i : ℕ) × (x : A) × At xs i x × (test x ≡ true))
        → (i : ℕ) × (x : A) × At (y ∷ xs) i x × (test x ≡ true)
    go true h k r = (0, y, at_first, h)
    go false h k r = let t = r k in (suc t.0, t.1, at_later t.2, t.3)
