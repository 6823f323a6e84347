-- Lists filled as a call fills them.
use Rattle.std.specs.Prelude.{ℕ, zero, suc, ◌+◌, ◌-◌, ◌≤◌, ◌<◌, ◌≡◌, refl, List, [], ◌∷◌, ◌++◌, length, get_or, drop}
use Rattle.std.proofs.Common.{ap, sym, ◌∙◌, subst, arith, length-append, length-drop, get_or-append-add, get_or-drop}
use Rattle.std.proofs.Math.ListN.{get_or-append}
use Rattle.rules.specs.Lent.{Fills, scratch_places, Wiped}

-- k places are written, the first with f i
unfoldable pub fill : (ℕ → ℕ) → (i k : ℕ) → List ℕ → List ℕ
fill f i zero xs = xs
fill f i (suc k) [] = []
fill f i (suc k) (x ∷ xs) = f i ∷ fill f (suc i) k xs

fill_length : (f : ℕ → ℕ) (i k : ℕ) (xs : List ℕ) → length (fill f i k xs) ≡ length xs
unfolding fill
fill_length f i zero xs = refl
fill_length f i (suc k) [] = refl
fill_length f i (suc k) (x ∷ xs) = ap suc (fill_length f (suc i) k xs)

fill_at : (f : ℕ → ℕ) (i k : ℕ) (xs : List ℕ) (j : ℕ) → j < k → k ≤ length xs → get_or (fill f i k xs) j 0 ≡ f (i + j)
unfolding fill
fill_at f i zero xs j l m = absurd (omega arith)
fill_at f i (suc k) [] j l m = absurd (omega arith)
fill_at f i (suc k) (x ∷ xs) zero l m = ap f (omega arith)
fill_at f i (suc k) (x ∷ xs) (suc j) l m = fill_at f (suc i) k xs j (omega arith) (omega arith) ∙ ap f (omega arith)

fill_kept : (f : ℕ → ℕ) (i k : ℕ) (xs : List ℕ) (j : ℕ) → k ≤ j → get_or (fill f i k xs) j 0 ≡ get_or xs j 0
unfolding fill
fill_kept f i zero xs j l = refl
fill_kept f i (suc k) [] j l = refl
fill_kept f i (suc k) (x ∷ xs) zero l = absurd (omega arith)
fill_kept f i (suc k) (x ∷ xs) (suc j) l = fill_kept f (suc i) k xs j (omega arith)

pub fills : (k : ℕ) (Right : ℕ → ℕ → Type 0) (f : ℕ → ℕ) (old : List ℕ) → k ≤ length old → ((i : ℕ) → i < k → Right i (f i)) → Fills k Right old (fill f 0 k old)
fills k Right f old l h =
    record {
      same_length = fill_length f 0 k old;
      right = λ i m. subst (Right i) (sym (fill_at f 0 k old i m l ∙ ap f (omega arith))) (h i m);
      kept = λ i m. fill_kept f 0 k old i m;
    }

pub wiped : (old : List ℕ) → scratch_places ≤ length old → Wiped old (fill (λ i. 0) 0 scratch_places old)
wiped old l = fills scratch_places (λ i x. x ≡ 0) (λ i. 0) old l (λ i m. refl)

-- as a contract's equation says it: the new places, and then what stood there
pub fills_front : (k : ℕ) (Right : ℕ → ℕ → Type 0) (xs old : List ℕ) → length xs ≡ k → k ≤ length old → ((i : ℕ) → i < k → Right i (get_or xs i 0))
    → Fills k Right old (xs ++ drop k old)
fills_front k Right xs old e l h =
    record {
      same_length = length-append xs (drop k old) ∙ omega (arith, length-drop k old);
      right = λ i m. subst (Right i) (sym (get_or-append xs (drop k old) 0 i (omega arith))) (h i m);
      kept = λ i m. beyond i m;
    }
  where
    beyond : (i : ℕ) → k ≤ i → get_or (xs ++ drop k old) i 0 ≡ get_or old i 0
    beyond i m =
        let a : length xs + (i - k) ≡ i = omega arith in
        let b : k + (i - k) ≡ i = omega arith in
        subst (λ (j : ℕ). get_or (xs ++ drop k old) j 0 ≡ get_or old i 0) a (get_or-append-add xs (drop k old) (i - k) 0 ∙ (get_or-drop k old (i - k) 0 ∙ ap (λ (j : ℕ). get_or old j 0) b))
