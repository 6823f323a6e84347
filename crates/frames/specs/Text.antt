-- The format: what a frame is written as, and when a line is its text.
use Rattle.std.specs.Prelude.{ℕ, zero, suc, ◌+◌, ◌/◌, ◌%◌, ◌^◌, ◌<◌, ◌≡◌, cond, ◌&&◌, Option, Some, None, List, [], ◌∷◌, ◌++◌, map, leb, ltb}
use Rattle.frames.specs.declared.frame.Frame.{Frame}
use Rattle.frames.specs.declared.frame.Frame.TheVariants.{Stops, Row, Pivot, Ask}

-- a hexadecimal digit as a byte: 0 to 9, then a to f
abbrev pub digit : ℕ → ℕ
digit d = cond (ltb d 10) (48 + d) (87 + d)

-- a number in k digits, the highest first
unfoldable pub digits : (k x : ℕ) → List ℕ
digits zero x = []
digits (suc k) x = digits k (x / 16) ++ (digit (x % 16) ∷ [])

-- a number and how many digits it has
pub record Field : Type 0 where
  pub width : ℕ
  pub number : ℕ

abbrev pub two : ℕ → Field
two x = record { width = 2; number = x }

abbrev pub four : ℕ → Field
four x = record { width = 4; number = x }

abbrev pub eight : ℕ → Field
eight x = record { width = 8; number = x }

-- a frame's type
abbrev pub type_of : Frame → ℕ
type_of (Stops n) = 1
type_of (Row from to start travel owner) = 2
type_of (Pivot stop reading) = 3
type_of (Ask asker a w) = 4

-- what follows the type
abbrev pub fields_of : Frame → List Field
fields_of (Stops n) = four n ∷ []
fields_of (Row from to start travel owner) = four from ∷ four to ∷ eight start ∷ eight travel ∷ two owner ∷ []
fields_of (Pivot stop reading) = four stop ∷ eight reading ∷ []
fields_of (Ask asker a w) = two asker ∷ eight a ∷ eight w ∷ []

-- fields one after another, no spaces
unfoldable pub spell : List Field → List ℕ
spell [] = []
spell (f ∷ fs) = digits f.width f.number ++ spell fs

-- each number is in the range of its digits
unfoldable pub FieldsFit : List Field → Type 0
FieldsFit [] = Unit
FieldsFit (f ∷ fs) = (f.number < 16 ^ f.width) × FieldsFit fs

-- the type and the fields, in small letters
abbrev pub text_of : Frame → List ℕ
text_of f = spell (two (type_of f) ∷ fields_of f)

-- a capital letter made small
abbrev pub small : ℕ → ℕ
small b = cond (leb 65 b && leb b 90) (b + 32) b

-- the line is the frame's text, in either case of letter, and each number is in the range of its digits
pub record IsTextOf (f : Frame) (line : List ℕ) : Type 0 where
  pub fit : FieldsFit (fields_of f)
  pub spelt : map small line ≡ text_of f

-- the frame whose text the line is, or none where it is no frame's text
unfoldable pub ReadPromise : (line : List ℕ) → Option Frame → Type 0
ReadPromise line (Some f) = IsTextOf f line
ReadPromise line None = (f : Frame) → IsTextOf f line → ⊥
