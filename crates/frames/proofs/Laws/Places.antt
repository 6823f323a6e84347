-- Numbers at places of a line.
use Rattle.std.specs.Prelude.{ℕ, ◌+◌, ◌-◌, ◌*◌, ◌/◌, ◌%◌, ◌^◌, ◌≤◌, ◌<◌, ◌≡◌, refl, List, map, length, get_or, take, drop}
use Rattle.std.proofs.Common.{pow-suc, add-one, arith, sym, ◌∙◌, length-drop, take-suc, get_or-drop}
use Rattle.std.proofs.Math.Nat.{pow-le-pow_right}
use Rattle.std.proofs.lemmas.List.{length-map, get_or-take}
use Rattle.std.proofs.Math.ListN.{get_or-map}
use Rattle.frames.specs.Text.{digit, digits, small}
use Rattle.frames.specs.Parts.{DigitOf, NumberAt}
use Rattle.frames.proofs.Laws.Digits.{digits_same}

pub number_none : (line : List ℕ) (at : ℕ) → NumberAt line at 0 0
unfolding digits
number_none line at = record { fits = omega arith; spelt = refl }

-- one digit more
pub number_more : (line : List ℕ) (at i x d : ℕ) → at + i < length line → NumberAt line at i x → DigitOf (get_or line (at + i) 0) d → NumberAt line at (i + 1) (x * 16 + d)
unfolding digits
number_more line at i x d h n g =
    let p = pow-suc 16 i in
    let high : (x * 16 + d) / 16 ≡ x = omega (arith, g.below) in
    let low : (x * 16 + d) % 16 ≡ d = omega (arith, g.below) in
    let in_part : i < length (drop at (map small line)) = simp length-drop (omega (arith, length-map line small)) in
    let byte : get_or (drop at (map small line)) i 0 ≡ digit d = get_or-drop at (map small line) i 0 ∙ get_or-map small line (at + i) 0 ∙ g.same in
    record {
      fits = rw add-one (omega (arith, n.fits, g.below));
      spelt = rw (add-one, take-suc (drop at (map small line)) i 0, n.spelt, byte, high, low);
    }

pub number_below : (line : List ℕ) (at i x m : ℕ) → NumberAt line at i x → i ≤ m → x < 16 ^ m
number_below line at i x m n h =
    let p : 16 ^ i ≤ 16 ^ m = pow-le-pow_right {n = 16} (omega arith) h in omega (arith, n.fits)

-- a number of fewer than eight digits has room for one more
pub number_room : {line : List ℕ} {at i x : ℕ} → NumberAt line at i x → i < 8 → x < 16 ^ 7
number_room {line} {at} {i} {x} n h = number_below line at i x 7 n (omega arith)

pub number_same : (line : List ℕ) (at k x y : ℕ) → NumberAt line at k x → NumberAt line at k y → x ≡ y
number_same line at k x y n m = digits_same k x y n.fits m.fits (sym n.spelt ∙ m.spelt)

-- a place of a part of a line is a place of the line
pub part_place : (line : List ℕ) (at k i : ℕ) → i < k → get_or (take (at + k - at) (drop at line)) i 0 ≡ get_or line (at + i) 0
part_place line at k i h = get_or-take (at + k - at) (drop at line) i 0 (omega arith) ∙ get_or-drop at line i 0
