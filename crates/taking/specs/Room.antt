-- What the contracts cite: the desk in the code, and where the run stands by it.
use Rattle.std.specs.Prelude.{ℕ, ◌+◌, ◌*◌, ◌^◌, ◌≤◌, ◌<◌, ◌≡◌, Option, Some, None, List, [], ◌∷◌, ◌++◌, length, take, drop}
use Rattle.std.specs.Borrow.{Bor}
use Rattle.std.specs.declared.ops.ControlFlow.{ControlFlow}
use Rattle.std.specs.declared.ops.ControlFlow.TheVariants.{Continue, Break}
use Rattle.rules.specs.Day.{row_width}
use Rattle.frames.specs.declared.frame.Frame.{Frame}
use Rattle.printing.specs.Lines.{frame_words}
use Rattle.printing.specs.Parts.{line_room, Puts, PutsLine}
use Rattle.taking.specs.declared.state.Day.{Day}
use Rattle.taking.specs.declared.state.Desk.{Desk}
use Rattle.taking.specs.Known.{Known, pivot_width, Does, Tells, NoFrame}
use Rattle.taking.specs.Stream.{last_line, Prints}
use Rattle.taking.specs.Pieces.{Stand, Went, Halts}

-- the most bytes that are read at once
abbrev pub most_bytes : ℕ
most_bytes = 4096

-- the room for the lines that one piece prints: a line at most for each of its 4,096 bytes
abbrev pub out_room : ℕ
out_room = 344064

-- at first nothing is given, on line 1
pub record Begun (day : Day) : Type 0 where
  pub stops : day.stops ≡ None
  pub rows : day.rows ≡ 0
  pub pivots : day.pivots ≡ 0
  pub line : day.line ≡ 1
  pub len : day.len ≡ 0
  pub made : day.made ≡ 0

-- a piece of k bytes can be taken: it is short enough for the room, and each line that it ends has a number
pub record Ahead (k : ℕ) (day : Day) : Type 0 where
  pub numbers : day.line + k < 2 ^ 64
  pub few : k ≤ most_bytes

-- there is room for the lines that k more bytes may end, and a number for each
pub record Spare (k : ℕ) (day : Day) : Type 0 where
  pub numbers : day.line + k < 2 ^ 64
  pub lines : day.made + k * line_room ≤ out_room

-- what is known at a desk
abbrev pub known_of : Desk → Known
known_of d = record { stops = d.day.stops; rows = take (d.day.rows * row_width) d.list; pivots = take (d.day.pivots * pivot_width) d.pivots }

-- where the run stands at a desk
abbrev pub stand_of : Desk → Stand
stand_of d = record { line = d.day.line; known = known_of d; begun = take d.day.len d.line }

-- no row and no pivot goes, and the lists keep the places that those after the step do not need
pub record Keeps (d d' : Desk) : Type 0 where
  pub more_rows : d.day.rows ≤ d'.day.rows
  pub more_pivots : d.day.pivots ≤ d'.day.pivots
  pub list_kept : drop (d'.day.rows * row_width) d'.list ≡ drop (d'.day.rows * row_width) d.list
  pub pivots_kept : drop (d'.day.pivots * pivot_width) d'.pivots ≡ drop (d'.day.pivots * pivot_width) d.pivots

-- one thing more stands after the others, and the places after it are kept
pub record Added (width : ℕ) (numbers : List ℕ) (count : ℕ) (old : List ℕ) (count' : ℕ) (new : List ℕ) : Type 0 where
  pub one_more : count' ≡ count + 1
  pub front : take (count' * width) new ≡ take (count * width) old ++ numbers
  pub back : drop (count' * width) new ≡ drop (count' * width) old

-- or there are as many as may be, and nothing changes
abbrev pub PutMore : (width : ℕ) (numbers : List ℕ) (count most : ℕ) (old : List ℕ) → Option ℕ → (new : List ℕ) → Type 0
PutMore width numbers count most old (Some count') new = (count < most) × Added width numbers count old count' new
PutMore width numbers count most old None new = (most ≤ count) × (new ≡ old)

-- a frame is done, and the run stays on its line
pub record FrameDone (f : Frame) (d d' : Desk) : Type 0 where
  pub text : List ℕ
  pub does : Does (known_of d) f (known_of d') text
  pub puts : Puts d.day.made text d.out d'.day.made d'.out
  pub short : length text ≤ line_room
  pub same_line : d'.day.line ≡ d.day.line
  pub keeps : Keeps d d'

-- a frame that can't be done changes nothing
pub record FrameRefused (f : Frame) (d d' : Desk) : Type 0 where
  pub does_not : (t : Known) (text : List ℕ) → Does (known_of d) f t text → ⊥
  pub same_day : d'.day ≡ d.day
  pub same_list : d'.list ≡ d.list
  pub same_pivots : d'.pivots ≡ d.pivots
  pub same_out : d'.out ≡ d.out

abbrev pub FrameTaken : Frame → Desk → Option (Unit {0}) → Desk → Type 0
FrameTaken f d (Some u) d' = FrameDone f d d'
FrameTaken f d None d' = FrameRefused f d d'

-- a line is done, and the run stands at the start of the next
pub record LineDone (d d' : Desk) : Type 0 where
  pub text : List ℕ
  pub tells : Tells (known_of d) (take d.day.len d.line) (known_of d') text
  pub puts : Puts d.day.made text d.out d'.day.made d'.out
  pub short : length text ≤ line_room
  pub next_line : d'.day.line ≡ d.day.line + 1
  pub at_start : d'.day.len ≡ 0
  pub keeps : Keeps d d'

-- a line that is no frame is named, and the lists stay as they are
pub record LineNamed (d : Desk) (end : ℕ) (d' : Desk) : Type 0 where
  pub no_frame : NoFrame (known_of d) (take d.day.len d.line)
  pub named : PutsLine (frame_words d.day.line) d.day.made d.out end d'.out
  pub same_list : d'.list ≡ d.list
  pub same_pivots : d'.pivots ≡ d.pivots

abbrev pub LineTaken : Desk → ControlFlow ℕ (Unit {0}) → Desk → Type 0
LineTaken d (Continue u) d' = LineDone d d'
LineTaken d (Break end) d' = LineNamed d end d'

-- a piece is taken, and what it prints is put after what was made before
pub record PieceWent (piece : List ℕ) (at : ℕ) (d d' : Desk) : Type 0 where
  pub text : List ℕ
  pub went : Went (stand_of d) piece (stand_of d') text
  pub puts : Puts at text d.out d'.day.made d'.out
  pub few_lines : d'.day.line ≤ d.day.line + length piece
  pub few_bytes : length text ≤ length piece * line_room
  pub keeps : Keeps d d'

pub record PieceHalts (piece : List ℕ) (at : ℕ) (d : Desk) (end : ℕ) (out' : List ℕ) : Type 0 where
  pub text : List ℕ
  pub halts : Halts (stand_of d) piece text
  pub puts : Puts at text d.out end out'
  pub fits : end ≤ out_room

abbrev pub PieceTaken : (piece : List ℕ) (at : ℕ) → Desk → ControlFlow ℕ (Unit {0}) → Desk → Type 0
PieceTaken piece at d (Continue u) d' = PieceWent piece at d d'
PieceTaken piece at d (Break end) d' = PieceHalts piece at d end d'.out

-- the input ends: what was read of its last line is a line, if it is anything
pub record EndTaken (d : Desk) (end : ℕ) (out' : List ℕ) : Type 0 where
  pub text : List ℕ
  pub prints : Prints d.day.line (known_of d) (last_line (take d.day.len d.line)) text
  pub puts : Puts 0 text d.out end out'
  pub fits : end ≤ out_room

-- what the bytes of a read led to: there are none where the input ended, and else they are a piece
abbrev pub BytesTaken : (bytes : List ℕ) → Desk → ControlFlow ℕ (Unit {0}) → Desk → Type 0
BytesTaken [] d r d' = (end : ℕ) × (r ≡ Break end) × EndTaken d end d'.out
BytesTaken (b ∷ bs) d r d' = PieceTaken (b ∷ bs) 0 d r d'

-- what a read led to: it failed, nothing is printed, and the desk is as it was; or it read some bytes
abbrev pub ReadTaken : Option (Bor (List ℕ)) → Desk → ControlFlow ℕ (Unit {0}) → Desk → Type 0
ReadTaken None d r d' = (r ≡ Break 0) × (d' ≡ d)
ReadTaken (Some bytes) d r d' = BytesTaken bytes.now d r d'

-- where the run ends, the day is as it was
abbrev pub DayKept : Day → ControlFlow ℕ (Unit {0}) → Day → Type 0
DayKept day (Continue u) day' = Unit {0}
DayKept day (Break end) day' = day' ≡ day
