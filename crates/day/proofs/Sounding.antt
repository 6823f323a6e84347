-- The test of a row is what the rules ask of it.
use Prim.Native.Nat.{ℕ}
use mathlib.Core.Path.{◌≡◌, refl}
use mathlib.Core.Bool.{Bool, true, false, ◌&&◌, not}
use native.Mathlib.Omega.{arith}
use lib.Dec.{eqb, leb, ltb}
use borrow.Author.Tests.{eqb-false, leb-true, ltb-true, not-true, lt-ltb, ne_eqb, le-leb}
use Rattle.rules.specs.Clock.{horizon}
use Rattle.rules.specs.Day.{Row, arrival, Sound}
use Rattle.day.specs.Rows.{soundb}

pub both : (a b : Bool) → a && b ≡ true → (a ≡ true) × (b ≡ true)
both true b e = (refl, e)
both false b e = let z : ◌≡◌ {A = ℕ} 0 1 = cc in absurd (omega arith)

pub not_both : {b : Bool} → b ≡ true → b ≡ false → ⊥
not_both e f = let z : ◌≡◌ {A = ℕ} 0 1 = cc in omega arith

pub sound_of : (n : ℕ) (r : Row) → soundb n r ≡ true → Sound n r
unfolding soundb
sound_of n r e =
    let b = both (ltb r.from n) _ e in
    let c = both (ltb r.to n) _ b.1 in
    let d = both (not (eqb r.from r.to)) _ c.1 in
    let f = both (leb 1 r.travel) (leb (arrival r) horizon) d.1 in
    record {
      from_below = ltb-true _ _ b.0;
      to_below = ltb-true _ _ c.0;
      differ = eqb-false _ _ (not-true _ d.0);
      travels = leb-true _ _ f.0;
      in_day = leb-true _ _ f.1;
    }

pub of_sound : (n : ℕ) (r : Row) → Sound n r → soundb n r ≡ true
unfolding soundb
of_sound n r h =
    rw (lt-ltb _ _ h.from_below, lt-ltb _ _ h.to_below, ne_eqb _ _ h.differ, le-leb _ _ h.travels, le-leb _ _ h.in_day)
