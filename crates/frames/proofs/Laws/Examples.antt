-- The text of day D's row from 0 to 2.
use Rattle.std.specs.Prelude.{◌≡◌, refl, [], ◌∷◌}
use Rattle.frames.specs.declared.frame.Frame.TheVariants.{Row}
use Rattle.frames.specs.Text.{digits, spell, text_of}

-- 02 0000 0002 00000082 0000000a 07
pub row_text : text_of (Row 0 2 130 10 7) ≡ 48 ∷ 50 ∷ 48 ∷ 48 ∷ 48 ∷ 48 ∷ 48 ∷ 48 ∷ 48 ∷ 50 ∷ 48 ∷ 48 ∷ 48 ∷ 48 ∷ 48 ∷ 48 ∷ 56 ∷ 50 ∷ 48 ∷ 48 ∷ 48 ∷ 48 ∷ 48 ∷ 48 ∷ 48 ∷ 97 ∷ 48 ∷ 55 ∷ []
unfolding digits spell
row_text = refl
