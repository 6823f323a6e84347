-- What holds after each step of a fold over places, one after another.
use Rattle.std.specs.Prelude.{ℕ, zero, suc, ◌+◌, ◌≡◌, fold}
use Rattle.std.specs.List.{range_with_len}
use Rattle.std.proofs.Common.{arith, subst, add-one}

-- what each step keeps holds at the end
pub scan_keeps : {X : Type 0} (P : ℕ → X → Type 0) (step : X → ℕ → X) → ((i : ℕ) (x : X) → P i x → P (suc i) (step x i))
    → (n k i : ℕ) (x : X) → i + k ≡ n → P i x → P n (fold step x (range_with_len i k))
scan_keeps P step keeps n zero i x e h = let s : i ≡ n = omega arith in subst (λ (j : ℕ). P j x) s h
scan_keeps P step keeps n (suc k) i x e h = rw (add-one i) (scan_keeps P step keeps n k (suc i) (step x i) (omega arith) (keeps i x h))
