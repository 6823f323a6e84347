-- Numbers of places, one after another, are read again at their places.
use Rattle.std.specs.Prelude.{ℕ, zero, suc, ◌+◌, ◌≤◌, ◌<◌, ◌≡◌, refl, List, ◌∷◌, ◌++◌, length, get_or, drop, map, fold}
use Rattle.std.specs.List.{zip, range_with_len}
use Rattle.std.proofs.Common.{arith, ap, ◌∙◌, drop-cons}
use Rattle.std.proofs.Math.ListN.{get_or-append}
use Rattle.std.proofs.lemmas.List.Folds.{fold-map}
use Rattle.rules.specs.Words.{things_from}
use Rattle.rules.proofs.Laws.Written.{length_things}

things_from_lem : (f : ℕ → ℕ) (k i j : ℕ) → j < k → get_or (things_from f k i) j 0 ≡ f (j + i)
unfolding things_from
things_from_lem f zero i j h = absurd (omega arith)
things_from_lem f (suc k) i zero h = let e : 0 + i ≡ i = omega arith in rw e
things_from_lem f (suc k) i (suc j) h = let e : suc j + i ≡ j + suc i = omega arith in rw e (things_from_lem f k (suc i) j (omega arith))

pub things_at : (f : ℕ → ℕ) (n j : ℕ) → j < n → get_or (things_from f n 0) j 0 ≡ f j
things_at f n j h = things_from_lem f n 0 j h ∙ (let e : j + 0 ≡ j = omega arith in rw e)

-- whatever stands behind them
pub things_before : (f : ℕ → ℕ) (n : ℕ) (t : List ℕ) (j : ℕ) → j < n → get_or (things_from f n 0 ++ t) j 0 ≡ f j
things_before f n t j h = get_or-append (things_from f n 0) t 0 j (omega (arith, length_things f n 0)) ∙ things_at f n j h

-- the first n places beside the numbers that stand there
module _ (xs : List ℕ) where
  zip_from : (k i : ℕ) → i + k ≤ length xs → zip (range_with_len i k) (drop i xs) ≡ map (λ j. (j, get_or xs j 0)) (range_with_len i k)
  zip_from zero i l = refl
  zip_from (suc k) i l =
      let e : i + 1 ≡ suc i = omega arith in
      rw (drop-cons xs i 0 (omega arith), ← e) (ap (λ (ys : List (ℕ × ℕ)). (i, get_or xs i 0) ∷ ys) (zip_from k (i + 1) (omega arith)))

  zip_places : (n : ℕ) → n ≤ length xs → zip (range_with_len 0 n) xs ≡ map (λ j. (j, get_or xs j 0)) (range_with_len 0 n)
  zip_places n l = zip_from n 0 (omega arith)

  pub fold_places : {X : Type 0} (step : X → ℕ × ℕ → X) (x : X) (n : ℕ) → n ≤ length xs
      → fold step x (zip (range_with_len 0 n) xs) ≡ fold (λ x j. step x (j, get_or xs j 0)) x (range_with_len 0 n)
  fold_places step x n l = ap (fold step x) (zip_places n l) ∙ fold-map step (λ j. (j, get_or xs j 0)) x (range_with_len 0 n)
