-- Words are spelt in one way, and every word is.
use Rattle.std.specs.Prelude.{ℕ, zero, suc, ◌+◌, ◌-◌, ◌^◌, ◌≤◌, ◌<◌, ◌≡◌, refl, List, [], ◌∷◌, ◌++◌}
use Rattle.std.proofs.Math.Decide.{dec_le, dec_lt}
use Rattle.std.proofs.Common.{pow-suc, arith, sym, ap, ◌∙◌, append_assoc}
use Rattle.std.proofs.Math.Nat.{pow-le-pow_right}
use Rattle.io.specs.Digits.{last_digits, IsDigitCount}
use Rattle.printing.specs.Lines.{Word, letters, numeral, Spelt, as_letters, in_decimal, space, newline, Spaced, last, more, LineOf}

pub few_digits : (x k m : ℕ) → x < 10 ^ m → 1 ≤ m → IsDigitCount 10 1 x k → k ≤ m
few_digits x k m h l f = go (dec_le k m)
  where
    go : Dec (k ≤ m) → k ≤ m
    go (yes e) = e
    go (no n) = let p : 10 ^ m ≤ 10 ^ (k - 1) = pow-le-pow_right {n = 10} (omega arith) (omega arith) in absurd (omega (arith, f.2 (omega arith)))

fewest_single : (x k m : ℕ) → IsDigitCount 10 1 x k → IsDigitCount 10 1 x m → k ≡ m
fewest_single x k m f g =
    let a = few_digits x k m g.1 g.0 f in
    let b = few_digits x m k f.1 f.0 g in
    omega arith

below_power : (x : ℕ) → x < 10 ^ x
below_power zero = omega arith
below_power (suc x) = let p = pow-suc 10 x in omega (arith, below_power x)

one_more : (x k : ℕ) → x < 10 ^ (k + 1) → (1 ≤ k → 10 ^ k ≤ x) → IsDigitCount 10 1 x (k + 1)
one_more x k h l = (omega arith, h, λ g. let e : k + 1 - 1 ≡ k = omega arith in rw e (l (omega arith)))

-- where k digits are too few, and k + 1 and some further ones suffice, there is a fewest
fewest_from : (x further k : ℕ) → x < 10 ^ (k + 1 + further) → (1 ≤ k → 10 ^ k ≤ x) → (m : ℕ) × IsDigitCount 10 1 x m
fewest_from x zero k h l = (k + 1, one_more x k (let e : k + 1 + 0 ≡ k + 1 = omega arith in rw e at h) l)
fewest_from x (suc further) k h l = go (dec_lt x (10 ^ (k + 1))) (λ g. fewest_from x further (k + 1) (let e : k + 1 + suc further ≡ k + 1 + 1 + further = omega arith in rw e at h) g)
  where
    go : Dec (x < 10 ^ (k + 1)) → ((1 ≤ k + 1 → 10 ^ (k + 1) ≤ x) → (m : ℕ) × IsDigitCount 10 1 x m) → (m : ℕ) × IsDigitCount 10 1 x m
    go (yes s) longer = (k + 1, one_more x k s l)
    go (no s) longer = longer (λ g. omega arith)

pub fewest : (x : ℕ) → (m : ℕ) × IsDigitCount 10 1 x m
fewest x =
    let p : 10 ^ x ≤ 10 ^ (0 + 1 + x) = pow-le-pow_right {n = 10} (omega arith) (omega arith) in
    fewest_from x x 0 (omega (arith, below_power x)) (λ g. absurd (omega arith))

spelt_single : (w : Word) (s t : List ℕ) → Spelt w s → Spelt w t → s ≡ t
spelt_single (letters s) _ _ as_letters as_letters = refl
spelt_single (numeral x) s t (in_decimal k f e) (in_decimal m g h) = e ∙ ap (λ (j : ℕ). last_digits 10 j x) (fewest_single x k m f g) ∙ sym h

pub spelt_exists : (w : Word) → (s : List ℕ) × Spelt w s
spelt_exists (letters s) = (s, as_letters)
spelt_exists (numeral x) = let f = fewest x in (last_digits 10 f.0 x, in_decimal f.0 f.1 refl)

spaced_single : (ws : List Word) (s t : List ℕ) → Spaced ws s → Spaced ws t → s ≡ t
spaced_single (w ∷ []) s t (last p) (last q) = spelt_single w s t p q
spaced_single (w ∷ v ∷ ws) _ _ (more {s = s} {rest = x} p ps) (more {s = t} {rest = y} q qs) =
    let a = spelt_single w s t p q in
    let b = spaced_single (v ∷ ws) x y ps qs in
    rw (a, b)
spaced_single [] s t x'' _ = elim x'' [ ]

spaced_exists : (w : Word) (ws : List Word) → (s : List ℕ) × Spaced (w ∷ ws) s
spaced_exists w [] = let p = spelt_exists w in (p.0, last p.1)
spaced_exists w (v ∷ ws) =
    let p = spelt_exists w in
    let r = spaced_exists v ws in
    (p.0 ++ (space ∷ r.0), more p.1 r.1)

-- one word more at the end
pub spaced_next : (ws : List Word) (before : List ℕ) (w : Word) (s : List ℕ) → Spaced ws before → Spelt w s → Spaced (ws ++ (w ∷ [])) (before ++ (space ∷ s))
spaced_next (v ∷ []) before w s (last p) q = more p (last q)
spaced_next (v ∷ u ∷ us) _ w s (more {s = x} {rest = y} p ps) q = rw (append_assoc x (space ∷ y) (space ∷ s)) (more p (spaced_next (u ∷ us) y w s ps q))
spaced_next [] before w s x'' q = elim x'' [ ]

-- words have one line, and there is one for any words
pub line_single : (ws : List Word) (s t : List ℕ) → LineOf ws s → LineOf ws t → s ≡ t
line_single ws s t p q = p.whole ∙ ap (λ (l : List ℕ). l ++ (newline ∷ [])) (spaced_single ws p.before q.before p.spaced q.spaced) ∙ sym q.whole

pub line_exists : (w : Word) (ws : List Word) → (s : List ℕ) × LineOf (w ∷ ws) s
line_exists w ws = let r = spaced_exists w ws in (r.0 ++ (newline ∷ []), record { before = r.0; spaced = r.1; whole = refl })
