-- Laws of digits.
use Rattle.std.specs.Prelude.{ℕ, zero, suc, ◌+◌, ◌/◌, ◌%◌, ◌^◌, ◌<◌, ◌≡◌, refl, Bool, true, false, cond, List, [], ◌∷◌, ◌++◌, ltb, length, take, drop}
use Rattle.std.proofs.Common.{pow-suc, arith, sym, ap, ◌∙◌, length-append, take_at, drop_at, ltb-true, ltb-false}
use Rattle.frames.specs.Text.{digit, digits}

pub digits_length : (k x : ℕ) → length (digits k x) ≡ k
unfolding digits
digits_length zero x = refl
digits_length (suc k) x = omega (arith, length-append (digits k (x / 16)) (digit (x % 16) ∷ []), digits_length k (x / 16))

-- two lists that begin with k things each
pub split_same : {p q r s : List ℕ} (k : ℕ) → length p ≡ k → length q ≡ k → p ++ r ≡ q ++ s → (p ≡ q) × (r ≡ s)
split_same {p} {q} {r} {s} k hp hq e =
    (sym (take_at p r k hp) ∙ ap (take k) e ∙ take_at q s k hq, sym (drop_at p r k hp) ∙ ap (drop k) e ∙ drop_at q s k hq)

pub digit_same : (d e : ℕ) → d < 16 → e < 16 → digit d ≡ digit e → d ≡ e
digit_same d e hd he = go (ltb d 10) refl (ltb e 10) refl
  where
    go : (a : Bool) → ltb d 10 ≡ a → (b : Bool) → ltb e 10 ≡ b → cond a (48 + d) (87 + d) ≡ cond b (48 + e) (87 + e) → d ≡ e
    go true p true q h = omega arith
    go true p false q h = omega (arith, ltb-true, ltb-false)
    go false p true q h = omega (arith, ltb-true, ltb-false)
    go false p false q h = omega arith

one_same : (x y : ℕ) → x ∷ [] ≡ y ∷ [] → x ≡ y
one_same x y e = cc

pub digits_same : (k x y : ℕ) → x < 16 ^ k → y < 16 ^ k → digits k x ≡ digits k y → x ≡ y
unfolding digits
digits_same zero x y hx hy e = omega arith
digits_same (suc k) x y hx hy e =
    let p = pow-suc 16 k in
    let s = split_same {r = digit (x % 16) ∷ []} {s = digit (y % 16) ∷ []} k (digits_length k (x / 16)) (digits_length k (y / 16)) e in
    let high = digits_same k (x / 16) (y / 16) (omega arith) (omega arith) s.0 in
    let low = digit_same (x % 16) (y % 16) (omega arith) (omega arith) (one_same _ _ s.1) in
    omega arith
