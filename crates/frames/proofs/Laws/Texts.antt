-- A frame's text by its fields' places.
use Rattle.std.specs.Prelude.{ℕ, zero, suc, ◌+◌, ◌/◌, ◌%◌, ◌<◌, ◌≡◌, refl, cond, List, [], ◌∷◌, ◌++◌, map, All, eqb, length, get_or, take, drop}
use Rattle.std.proofs.Common.{arith, sym, ap, ◌∙◌, length-append, take-append-drop, take_at, drop-drop}
use Rattle.std.proofs.lemmas.List.{length-map}
use Rattle.std.proofs.lemmas.List.Elements.{All-nil, All-push, All-append}
use Rattle.std.proofs.Math.ListN.{get_or-map}
use Rattle.std.proofs.Math.Seq.{drop-length}
use Rattle.frames.specs.declared.frame.Frame.{Frame}
use Rattle.frames.specs.declared.frame.Frame.TheVariants.{Stops, Row, Pivot, Ask}
use Rattle.frames.specs.Text.{digit, digits, Field, two, type_of, fields_of, spell, FieldsFit, text_of, small, IsTextOf}
use Rattle.frames.specs.Parts.{AllDigits, NumberAt}
use Rattle.frames.proofs.Laws.Digits.{digits_length}

-- the fields stand one after another from a place to the line's end
unfoldable pub Stand : (line : List ℕ) (at : ℕ) → List Field → Type 0
Stand line at [] = length line ≡ at
Stand line at (f ∷ fs) = NumberAt line at f.width f.number × Stand line (at + f.width) fs

pub stand_spelt : (line : List ℕ) (at : ℕ) (fs : List Field) → Stand line at fs → FieldsFit fs × (drop at (map small line) ≡ spell fs)
unfolding Stand FieldsFit spell
stand_spelt line at [] e = (tt, let n : at ≡ length (map small line) = sym e ∙ sym (length-map line small) in rw n (drop-length (map small line)))
stand_spelt line at (f ∷ fs) (n, rest) =
    let t = stand_spelt line (at + f.width) fs rest in
    let l = drop at (map small line) in
    let after : drop f.width l ≡ spell fs = drop-drop f.width at (map small line) ∙ t.1 in
    ((n.fits, t.0), sym (take-append-drop f.width l) ∙ ap (λ (p : List ℕ). p ++ drop f.width l) n.spelt ∙ ap (λ (q : List ℕ). digits f.width f.number ++ q) after)

-- a line that begins with a frame's type and goes on with its fields
pub stand_text : (f : Frame) (line : List ℕ) → NumberAt line 0 2 (type_of f) → Stand line 2 (fields_of f) → IsTextOf f line
unfolding Stand FieldsFit spell
stand_text f line n s =
    let t = stand_spelt line 0 (two (type_of f) ∷ fields_of f) (n, s) in
    record { fit = t.0.1; spelt = t.1 }

-- Three laws of any frame's text: it begins with the type, its length goes by the type, its bytes are digits.

type_below : (f : Frame) → type_of f < 256
type_below (Stops n) = omega arith
type_below (Row from to start travel owner) = omega arith
type_below (Pivot stop reading) = omega arith
type_below (Ask asker a w) = omega arith

pub text_type : (f : Frame) (line : List ℕ) → IsTextOf f line → NumberAt line 0 2 (type_of f)
unfolding spell
text_type f line t = record { fits = type_below f; spelt = ap (take 2) t.spelt ∙ take_at (digits 2 (type_of f)) (spell (fields_of f)) 2 (digits_length 2 (type_of f)) }

-- the widths of the fields after a type
unfoldable pub widths_for : (type : ℕ) → List ℕ
widths_for type =
    cond (eqb type 1) (4 ∷ [])
    (cond (eqb type 2) (4 ∷ 4 ∷ 8 ∷ 8 ∷ 2 ∷ [])
    (cond (eqb type 3) (4 ∷ 8 ∷ [])
    (cond (eqb type 4) (2 ∷ 8 ∷ 8 ∷ []) [])))

abbrev pub widths : List Field → List ℕ
widths fs = map (λ (f : Field). f.width) fs

pub frame_widths : (f : Frame) → widths (fields_of f) ≡ widths_for (type_of f)
unfolding widths_for
frame_widths (Stops n) = refl
frame_widths (Row from to start travel owner) = refl
frame_widths (Pivot stop reading) = refl
frame_widths (Ask asker a w) = refl

unfoldable pub total : List ℕ → ℕ
total [] = 0
total (x ∷ xs) = x + total xs

spell_length : (fs : List Field) → length (spell fs) ≡ total (widths fs)
unfolding spell total
spell_length [] = refl
spell_length (f ∷ fs) = simp length-append (omega (arith, digits_length f.width f.number, spell_length fs))

pub text_length : (f : Frame) (line : List ℕ) → IsTextOf f line → length line ≡ 2 + total (widths_for (type_of f))
unfolding total
text_length f line t =
    sym (length-map line small) ∙ ap length t.spelt ∙ spell_length (two (type_of f) ∷ fields_of f) ∙ ap (λ (ws : List ℕ). 2 + total ws) (frame_widths f)

abbrev Small : (b : ℕ) → Type 0
Small b = (d : ℕ) × (d < 16) × (b ≡ digit d)

digits_small : (k x : ℕ) → All Small (digits k x)
unfolding digits
digits_small zero x = All-nil Small
digits_small (suc k) x = All-push Small (digits k (x / 16)) (digit (x % 16)) (digits_small k (x / 16)) (x % 16, omega arith, refl)

spell_small : (fs : List Field) → All Small (spell fs)
unfolding spell
spell_small [] = All-nil Small
spell_small (f ∷ fs) = All-append Small (digits f.width f.number) (spell fs) (digits_small f.width f.number) (spell_small fs)

pub text_digits : (f : Frame) (line : List ℕ) → IsTextOf f line → AllDigits line
text_digits f line t i e h =
    let n : i < length (text_of f) = rw (sym t.spelt) (omega (arith, length-map line small)) in
    let d = spell_small (two (type_of f) ∷ fields_of f) i (small e) n in
    (d.0, record { below = d.1; same = sym (get_or-map small line i e) ∙ ap (λ (l : List ℕ). get_or l i (small e)) t.spelt ∙ d.2 })
