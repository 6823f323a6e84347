-- What a line of digits reads as, by its type and its length.
use Rattle.std.specs.Prelude.{ℕ, ◌+◌, ◌<◌, ◌≡◌, Some, None, List, length}
use Rattle.std.proofs.Common.{arith, subst}
use Rattle.frames.specs.declared.frame.Frame.{Frame}
use Rattle.frames.specs.declared.frame.Frame.TheVariants.{Stops, Row, Pivot, Ask}
use Rattle.frames.specs.Text.{type_of, ReadPromise}
use Rattle.frames.specs.Parts.{AllDigits, NumberAt}
use Rattle.frames.proofs.Laws.Places.{number_same}
use Rattle.frames.proofs.Laws.Texts.{Stand, stand_text, text_type, widths_for, total, text_length, text_digits}

module _ (line : List ℕ) where
  pub reads_stops : (n : ℕ) → {type : ℕ} → NumberAt line 0 2 type → type ≡ 1 → length line ≡ 6 → NumberAt line 2 4 n → ReadPromise line (Some (Stops n))
  unfolding ReadPromise Stand
  reads_stops n t k e a = stand_text (Stops n) line (subst (NumberAt line 0 2) k t) (a, e)

  pub reads_row : (from to start travel owner : ℕ) → {type : ℕ} → NumberAt line 0 2 type → type ≡ 2 → length line ≡ 28
      → NumberAt line 2 4 from → NumberAt line 6 4 to → NumberAt line 10 8 start → NumberAt line 18 8 travel → NumberAt line 26 2 owner
      → ReadPromise line (Some (Row from to start travel owner))
  unfolding ReadPromise Stand
  reads_row from to start travel owner t k e a b c d f = stand_text (Row from to start travel owner) line (subst (NumberAt line 0 2) k t) (a, (b, (c, (d, (f, e)))))

  pub reads_pivot : (stop reading : ℕ) → {type : ℕ} → NumberAt line 0 2 type → type ≡ 3 → length line ≡ 14 → NumberAt line 2 4 stop → NumberAt line 6 8 reading → ReadPromise line (Some (Pivot stop reading))
  unfolding ReadPromise Stand
  reads_pivot stop reading t k e a b = stand_text (Pivot stop reading) line (subst (NumberAt line 0 2) k t) (a, (b, e))

  pub reads_ask : (asker a w : ℕ) → {type : ℕ} → NumberAt line 0 2 type → type ≡ 4 → length line ≡ 20 → NumberAt line 2 2 asker → NumberAt line 4 8 a → NumberAt line 12 8 w → ReadPromise line (Some (Ask asker a w))
  unfolding ReadPromise Stand
  reads_ask asker a w t k e p q r = stand_text (Ask asker a w) line (subst (NumberAt line 0 2) k t) (p, (q, (r, e)))

  -- a line that is too short for any type, has a byte that is no digit, or has no type with its type's length

  pub too_short : length line < 2 → ReadPromise line None
  unfolding ReadPromise
  too_short h f t = omega (arith, text_length f line t)

  pub no_digits : (AllDigits line → ⊥) → ReadPromise line None
  unfolding ReadPromise
  no_digits h f t = h (text_digits f line t)

  pub no_type : (type : ℕ) → NumberAt line 0 2 type
      → (type ≡ 1 → length line ≡ 6 → ⊥) → (type ≡ 2 → length line ≡ 28 → ⊥) → (type ≡ 3 → length line ≡ 14 → ⊥) → (type ≡ 4 → length line ≡ 20 → ⊥)
      → ReadPromise line None
  unfolding ReadPromise widths_for total
  no_type type n a b c d f t = go f (number_same line 0 2 type (type_of f) n (text_type f line t)) (text_length f line t)
    where
      go : (f : Frame) → type ≡ type_of f → length line ≡ 2 + total (widths_for (type_of f)) → ⊥
      go (Stops x) = a
      go (Row from to start travel owner) = b
      go (Pivot stop reading) = c
      go (Ask asker x w) = d

pub ruleset outcomes = (reads_stops, reads_row, reads_pivot, reads_ask, too_short, no_digits, no_type)
