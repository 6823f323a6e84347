-- What a caller learns of a sum and of a difference, by which answer came.
use Prim.Native.Nat.{ℕ, ◌-◌, ◌≤◌, ◌<◌}
use native.Mathlib.Omega.{arith}
use mathlib.Core.Path.{◌≡◌, refl}
use mathlib.Core.Bool.{Bool, true, false, cond}
use lib.Dec.{leb}
use borrow.Author.Tests.{leb-true, leb-false}
use Rattle.rules.specs.Clock.{horizon}
use Rattle.clock.specs.Time.{made_of, gap_of}
use Rattle.clock.specs.declared.Reading.{Reading}
use Rattle.clock.specs.declared.Length.{Length}
use Rattle.std.specs.Prelude.{Option, Some, None}

made_at_by : (b : Bool) (x : ℕ) (r : Reading) → leb x horizon ≡ b → cond {A = Option Reading} b (Some (record { 0 = x })) None ≡ Some r → (x ≤ horizon) × (r.0 ≡ x)
made_at_by true x r q p = (leb-true _ _ q, cc)
made_at_by false x r q p = let z : ◌≡◌ {A = ℕ} 0 1 = cc in omega arith

pub made_at : (x : ℕ) (r : Reading) → made_of x ≡ Some r → (x ≤ horizon) × (r.0 ≡ x)
made_at x r p = made_at_by (leb x horizon) x r refl p

made_past_by : (b : Bool) (x : ℕ) → leb x horizon ≡ b → cond {A = Option Reading} b (Some (record { 0 = x })) None ≡ None → horizon < x
made_past_by true x q p = let z : ◌≡◌ {A = ℕ} 0 1 = cc in omega arith
made_past_by false x q p = leb-false _ _ q

pub made_past : (x : ℕ) → made_of x ≡ None → horizon < x
made_past x p = made_past_by (leb x horizon) x refl p

gap_of_by : (b : Bool) (x y : ℕ) (l : Length) → leb y x ≡ b → cond {A = Option Length} b (Some (record { 0 = x - y })) None ≡ Some l → (y ≤ x) × (l.0 ≡ x - y)
gap_of_by true x y l q p = (leb-true _ _ q, cc)
gap_of_by false x y l q p = let z : ◌≡◌ {A = ℕ} 0 1 = cc in omega arith

pub gap_of_lem : (x y : ℕ) (l : Length) → gap_of x y ≡ Some l → (y ≤ x) × (l.0 ≡ x - y)
gap_of_lem x y l p = gap_of_by (leb y x) x y l refl p

gap_before_by : (b : Bool) (x y : ℕ) → leb y x ≡ b → cond {A = Option Length} b (Some (record { 0 = x - y })) None ≡ None → x < y
gap_before_by true x y q p = let z : ◌≡◌ {A = ℕ} 0 1 = cc in omega arith
gap_before_by false x y q p = leb-false _ _ q

pub gap_before : (x y : ℕ) → gap_of x y ≡ None → x < y
gap_before x y p = gap_before_by (leb y x) x y refl p
