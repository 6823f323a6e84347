-- Which bytes are digits.
use Rattle.std.specs.Prelude.{ℕ, ◌+◌, ◌-◌, ◌≤◌, ◌<◌, ◌≡◌, refl, Bool, true, false, cond, ◌&&◌, leb, ltb}
use Rattle.std.proofs.Common.{arith, inl, inr, ltb-true, ltb-false, leb-true, leb-false, le-leb, lt-ltb, le-ltb}
use Rattle.std.proofs.Math.Bool.{and-false}
use Rattle.std.proofs.lemmas.Bool.{lt-leb}
use Rattle.std.specs.Char.{IsAsciiHexdigit, IsNotAsciiHexdigit}
use Rattle.frames.specs.Parts.{DigitOf, IsDigit}

pub figure : (b : ℕ) → 48 ≤ b → b ≤ 57 → DigitOf b (b - 48)
figure b low high =
    let e : 48 + (b - 48) ≡ b = omega arith in
    record { below = omega arith; same = simp (lt-leb 65 b (omega arith), lt-ltb (b - 48) 10 (omega arith), e) }

pub capital : (b : ℕ) → 65 ≤ b → b ≤ 70 → DigitOf b (b - 65 + 10)
capital b low high =
    let e : 87 + (b - 65 + 10) ≡ b + 32 = omega arith in
    record { below = omega arith; same = simp (le-leb 65 b low, le-leb b 90 (omega arith), le-ltb (b - 65 + 10) 10 (omega arith), e) }

pub letter : (b : ℕ) → 97 ≤ b → b ≤ 102 → DigitOf b (b - 97 + 10)
letter b low high =
    let e : 87 + (b - 97 + 10) ≡ b = omega arith in
    record { below = omega arith; same = simp (lt-leb b 90 (omega arith), and-false, le-ltb (b - 97 + 10) 10 (omega arith), e) }

-- a digit's byte lies in one of the three ranges
pub record Ranges (b : ℕ) : Type 0 where
  pub first : 48 ≤ b
  pub second : 57 < b → 65 ≤ b
  pub third : 70 < b → 97 ≤ b
  pub last : b ≤ 102

pub ranges : (b : ℕ) → IsDigit b → Ranges b
ranges b (d, h) = go (leb 65 b) refl (leb b 90) refl (ltb d 10) refl h.same
  where
    go : (p : Bool) → leb 65 b ≡ p → (q : Bool) → leb b 90 ≡ q → (r : Bool) → ltb d 10 ≡ r → cond (p && q) (b + 32) b ≡ cond r (48 + d) (87 + d) → Ranges b
    go true e true f true g s = omega (arith, h.below, leb-true, leb-false, ltb-true, ltb-false)
    go true e true f false g s = omega (arith, h.below, leb-true, leb-false, ltb-true, ltb-false)
    go true e false f true g s = omega (arith, h.below, leb-true, leb-false, ltb-true, ltb-false)
    go true e false f false g s = omega (arith, h.below, leb-true, leb-false, ltb-true, ltb-false)
    go false e true f true g s = omega (arith, h.below, leb-true, leb-false, ltb-true, ltb-false)
    go false e true f false g s = omega (arith, h.below, leb-true, leb-false, ltb-true, ltb-false)
    go false e false f true g s = omega (arith, h.below, leb-true, leb-false, ltb-true, ltb-false)
    go false e false f false g s = omega (arith, h.below, leb-true, leb-false, ltb-true, ltb-false)

-- the library's class of bytes is that of the digits

pub digit_from_class : (b : ℕ) → IsAsciiHexdigit b → IsDigit b
digit_from_class b (inl (inl h)) = (_, figure b h.0 h.1)
digit_from_class b (inl (inr h)) = (_, capital b h.0 h.1)
digit_from_class b (inr h) = (_, letter b h.0 h.1)

pub no_digit : (b : ℕ) → IsNotAsciiHexdigit b → IsDigit b → ⊥
no_digit b h d = let r = ranges b d in omega arith
