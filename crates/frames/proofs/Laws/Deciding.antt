-- What a test that turned out false, or true, tells of a property; and it turns out one way.
use Rattle.std.specs.Prelude.{◌≡◌, refl, Bool, true, false, not}
use Rattle.std.proofs.Common.{subst}
use Rattle.std.proofs.lemmas.Bool.{not-true, not-false}
use Rattle.frames.specs.Parts.{Decides}

pub so : (P : Type 0) (b : Bool) → Decides P b → not b ≡ false → P
so P b h e = subst (Decides P) (not-false b e) h

pub not_so : (P : Type 0) (b : Bool) → Decides P b → not b ≡ true → P → ⊥
not_so P b h e = subst (Decides P) (not-true b e) h

pub decides_single : (P : Type 0) (a b : Bool) → Decides P a → Decides P b → a ≡ b
decides_single P true true h g = refl
decides_single P true false h g = absurd (g h)
decides_single P false true h g = absurd (h g)
decides_single P false false h g = refl
