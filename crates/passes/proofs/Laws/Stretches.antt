-- Stretches of n places, one after another.
use Prim.Native.Nat.{ℕ, zero, suc, ◌+◌, ◌*◌, ◌-◌, ◌≤◌, ◌<◌}
use Rattle.std.proofs.Common.{suc-mul, add-one, ap, ◌∙◌, append_assoc, append-nil, length-drop, drop_of_length-le, take_at, drop_at, take_all, drop-drop, get_or-append-add}
use Rattle.std.proofs.Math.Nat.{mul-le-mul_right, zero-mul}
use native.Mathlib.Omega.{arith}
use Rattle.std.proofs.Math.Decide.{dec_lt}
use Rattle.std.specs.Prelude.{◌≡◌, List, ◌++◌, get_or, drop, take}
use Rattle.std.proofs.Math.Path.{sym}
use Rattle.std.proofs.Math.ListN.{length, length-append, get_or-append}
use Rattle.passes.specs.Forward.{stretches}

-- one stretch more is still within the square
pub square : (u n : ℕ) → u < n → u * n + n ≤ n * n
square u n h = rw suc-mul at (mul-le-mul_right n h)

pub next_times : (u n : ℕ) → (u + 1) * n ≡ u * n + n
next_times u n = rw (add-one u, suc-mul)

module _ (n : ℕ) (stretch : ℕ → List ℕ) (wide : (u : ℕ) → length (stretch u) ≡ n) where
  pub length_stretches : (k : ℕ) → length (stretches stretch k) ≡ k * n
  unfolding stretches
  length_stretches zero = sym (zero-mul n)
  length_stretches (suc k) = length-append (stretches stretch k) (stretch k) ∙ rw (length_stretches k, wide k, suc-mul)

  -- place u × n + v is place v of the stretch of u
  pub stretch_place : (k u v : ℕ) → u < k → v < n → get_or (stretches stretch k) (u * n + v) 0 ≡ get_or (stretch u) v 0
  unfolding stretches
  stretch_place zero u v l m = absurd (omega arith)
  stretch_place (suc k) u v l m = go (dec_lt u k) (λ d. stretch_place k u v d m)
    where
      within : u < k → u * n + v < length (stretches stretch k)
      within d = let e : u + 1 ≤ k = omega arith in omega (arith, length_stretches k, next_times u n, mul-le-mul_right n e)

      go : Dec (u < k) → (u < k → get_or (stretches stretch k) (u * n + v) 0 ≡ get_or (stretch u) v 0) → get_or (stretches stretch k ++ stretch k) (u * n + v) 0 ≡ get_or (stretch u) v 0
      go (yes d) rec = get_or-append (stretches stretch k) (stretch k) 0 (u * n + v) (within d) ∙ rec d
      go (no d) rec =
          let e : u ≡ k = omega arith in rw (e, sym (length_stretches k)) (get_or-append-add (stretches stretch k) (stretch k) v 0)

-- a stretch P is written at the start of what follows T
pub stretch_written : (T X P : List ℕ) (at n L : ℕ) → length T ≡ at → length X ≡ L - at → at ≤ L
    → take at (T ++ X) ++ ((P ++ drop n (take (L - at) (drop at (T ++ X)))) ++ drop (L - at) (drop at (T ++ X))) ≡ (T ++ P) ++ drop n X
stretch_written T X P at n L e f h =
    let g : length X ≤ L - at = omega arith in
    rw (take_at T X at e, drop_at T X at e, take_all (L - at) X g, drop_of_length-le X g) (simp (append-nil, append_assoc))

module _ (n : ℕ) (stretch : ℕ → List ℕ) (wide : (u : ℕ) → length (stretch u) ≡ n) (old : List ℕ) where
  pub table_none : old ≡ stretches stretch 0 ++ drop (0 * n) old
  unfolding stretches
  table_none = rw zero-mul

  pub table_length : (k : ℕ) (out : List ℕ) → k * n ≤ length old → out ≡ stretches stretch k ++ drop (k * n) old → length out ≡ length old
  table_length k out h e =
      ap length e ∙ (length-append (stretches stretch k) (drop (k * n) old) ∙ omega (arith, length_stretches n stretch wide k, length-drop (k * n) old))

  stretches_next : (k : ℕ) → stretches stretch (k + 1) ≡ stretches stretch k ++ stretch k
  unfolding stretches
  stretches_next k = rw (add-one k)

  pub table_more : (u L : ℕ) (out ys : List ℕ) → u * n + n ≤ length old → L ≡ length old → out ≡ stretches stretch u ++ drop (u * n) old
      → ys ≡ stretch u ++ drop n (take (L - u * n) (drop (u * n) out))
      → take (u * n) out ++ (ys ++ drop (L - u * n) (drop (u * n) out)) ≡ stretches stretch (u + 1) ++ drop ((u + 1) * n) old
  table_more u L out ys h l eo ey =
      let f : length (drop (u * n) old) ≡ L - u * n = omega (arith, length-drop (u * n) old) in
      rw (ey, eo)
      (stretch_written (stretches stretch u) (drop (u * n) old) (stretch u) (u * n) n L (length_stretches n stretch wide u) f (omega arith)
      ∙ rw (stretches_next, next_times, drop-drop))
