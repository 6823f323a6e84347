-- A line reads as one thing alone.
use Rattle.std.specs.Prelude.{ℕ, ◌^◌, ◌<◌, ◌≡◌, refl, ◌⊎◌, Option, Some, None, List, [], ◌∷◌}
use Rattle.std.proofs.Common.{arith, sym, ap, ◌∙◌, inl, inr}
use Rattle.frames.specs.declared.frame.Frame.{Frame}
use Rattle.frames.specs.declared.frame.Frame.TheVariants.{Stops, Row, Pivot, Ask}
use Rattle.frames.specs.Text.{digits, Field, type_of, fields_of, spell, FieldsFit, IsTextOf, ReadPromise}
use Rattle.frames.proofs.Laws.Digits.{digits_length, digits_same, split_same}
use Rattle.frames.proofs.Laws.Places.{number_same}
use Rattle.frames.proofs.Laws.Texts.{text_type, widths, widths_for, frame_widths}

heads : {x y : ℕ} {xs ys : List ℕ} → x ∷ xs ≡ y ∷ ys → (x ≡ y) × (xs ≡ ys)
heads e = (cc, cc)

field_same : (f g : Field) → f.width ≡ g.width → f.number < 16 ^ f.width → g.number < 16 ^ g.width → digits f.width f.number ≡ digits g.width g.number → f ≡ g
field_same f g w p q e =
    let n = digits_same f.width f.number g.number p (rw w q) (rw w (rw w at e)) in
    λ i. record { width = w i; number = n i }

-- fields of the same widths that are spelt alike
fields_same : (fs gs : List Field) → widths fs ≡ widths gs → FieldsFit fs → FieldsFit gs → spell fs ≡ spell gs → fs ≡ gs
unfolding FieldsFit spell
fields_same [] [] w p q e = refl
fields_same [] (g ∷ gs) w p q e = let z : ◌≡◌ {A = ℕ} 0 1 = cc in absurd (omega arith)
fields_same (f ∷ fs) [] w p q e = let z : ◌≡◌ {A = ℕ} 0 1 = cc in absurd (omega arith)
fields_same (f ∷ fs) (g ∷ gs) w (pf, pfs) (pg, pgs) e =
    let h = heads w in
    let lg : ◌≡◌ {A = ℕ} _ _ = digits_length g.width g.number ∙ sym h.0 in
    let s = split_same {r = spell fs} {s = spell gs} f.width (digits_length f.width f.number) lg e in
    let rest = fields_same fs gs h.1 pfs pgs s.1 in
    let one = field_same f g h.0 pf pg s.0 in
    rw (one, rest)

-- a frame by its fields alone
frame_of : List Field → Option Frame
frame_of [] = None
frame_of (n ∷ []) = Some (Stops n.number)
frame_of (stop ∷ reading ∷ []) = Some (Pivot stop.number reading.number)
frame_of (asker ∷ a ∷ w ∷ []) = Some (Ask asker.number a.number w.number)
frame_of (from ∷ to ∷ start ∷ travel ∷ []) = None
frame_of (from ∷ to ∷ start ∷ travel ∷ owner ∷ rest) = Some (Row from.number to.number start.number travel.number owner.number)

frame_of_lem : (f : Frame) → frame_of (fields_of f) ≡ Some f
unfolding frame_of
frame_of_lem (Stops n) = refl
frame_of_lem (Row from to start travel owner) = refl
frame_of_lem (Pivot stop reading) = refl
frame_of_lem (Ask asker a w) = refl

-- at most one frame fits a line
pub text_unique : (line : List ℕ) (f g : Frame) → IsTextOf f line → IsTextOf g line → f ≡ g
unfolding spell
text_unique line f g s t =
    let e = number_same line 0 2 (type_of f) (type_of g) (text_type f line s) (text_type g line t) in
    let w : widths (fields_of f) ≡ widths (fields_of g) = frame_widths f ∙ ap widths_for e ∙ sym (frame_widths g) in
    let after = split_same {p = digits 2 (type_of f)} {q = digits 2 (type_of g)} {r = spell (fields_of f)} {s = spell (fields_of g)} 2 (digits_length 2 (type_of f)) (digits_length 2 (type_of g)) (sym s.spelt ∙ t.spelt) in
    let same = fields_same (fields_of f) (fields_of g) w s.fit t.fit after.1 in
    let one : Some f ≡ Some g = sym (frame_of_lem f) ∙ ap frame_of same ∙ frame_of_lem g in cc

-- a promised outcome is none, or a frame whose text the line is
pub promised : (line : List ℕ) (r : Option Frame) → ReadPromise line r → ((r ≡ None) × ((f : Frame) → IsTextOf f line → ⊥)) ⊎ ((f : Frame) × (r ≡ Some f) × IsTextOf f line)
unfolding ReadPromise
promised line (Some f) h = inr (f, refl, h)
promised line None h = inl (refl, h)

-- a line has one promised outcome
pub read_unique : (line : List ℕ) (r s : Option Frame) → ReadPromise line r → ReadPromise line s → r ≡ s
unfolding ReadPromise
read_unique line (Some f) (Some g) p q = ap Some (text_unique line f g p q)
read_unique line (Some f) None p q = absurd (q f p)
read_unique line None (Some g) p q = absurd (p g q)
read_unique line None None p q = refl
