-- What the outcome of a read tells of what is to print, and of what comes after it.
use Rattle.std.specs.Prelude.{ℕ, ◌≤◌, ◌≡◌, refl, Option, Some, None, List, [], ◌∷◌, length}
use Rattle.std.specs.Borrow.{Bor}
use Rattle.std.specs.declared.ops.ControlFlow.{ControlFlow}
use Rattle.std.specs.declared.ops.ControlFlow.TheVariants.{Continue, Break}
use Rattle.std.proofs.Common.{subst, arith, ◌∙◌}
use Rattle.std.specs.Coded.{le_prop}
use Rattle.std.proofs.Math.Path.{sym, to_path_p}
use Rattle.rules.specs.Day.{most_rows}
use Rattle.rules.specs.Pivots.{most_pivots}
use Rattle.taking.specs.declared.state.Day.{Day}
use Rattle.taking.specs.declared.state.Desk.{Desk}
use Rattle.taking.specs.Pieces.{longest, start}
use Rattle.taking.specs.Room.{most_bytes, out_room, Begun, stand_of, PieceWent, PieceTaken, EndTaken, BytesTaken, ReadTaken}
use Rattle.taking.specs.Laws.Bytes.{anew_went, anew_halts, anew_end}

-- at first the run stands at the start
pub stands_at_start : (d : Desk) → Begun d.day → stand_of d ≡ start
stands_at_start d b = rw (b.stops, b.rows, b.pivots, b.line, b.len) refl

-- there is one such day
pub begun_single : (day day' : Day) → Begun day → Begun day' → day ≡ day'
begun_single day day' b b' =
    let stops : day.stops ≡ day'.stops = b.stops ∙ sym b'.stops in
    let rows : day.rows ≡ day'.rows = b.rows ∙ sym b'.rows in
    let pivots : day.pivots ≡ day'.pivots = b.pivots ∙ sym b'.pivots in
    let line : day.line ≡ day'.line = b.line ∙ sym b'.line in
    let len : day.len ≡ day'.len = b.len ∙ sym b'.len in
    let made : day.made ≡ day'.made = b.made ∙ sym b'.made in
    λ i. record {
      stops = stops i;
      rows = rows i;
      pivots = pivots i;
      line = line i;
      len = len i;
      made = made i;
      few_rows = to_path_p (λ j. rows j ≤ most_rows) {a = day.few_rows} (le_prop _ day'.few_rows) i;
      few_pivots = to_path_p (λ j. pivots j ≤ most_pivots) {a = day.few_pivots} (le_prop _ day'.few_pivots) i;
      short = to_path_p (λ j. len j ≤ longest) {a = day.short} (le_prop _ day'.short) i;
    }

-- the input ended
pub given_ended : (bytes : List ℕ) (d d₀ d' : Desk) (end : ℕ) → EndTaken d₀ end d'.out → length bytes ≡ 0 → stand_of d₀ ≡ stand_of d → d₀.out ≡ d.out → BytesTaken bytes d (Break end) d'
given_ended [] d d₀ d' end h none stand same_out = (end, refl, anew_end d d₀ stand same_out end d'.out h)
given_ended (b ∷ bs) d d₀ d' end h none stand same_out = absurd (omega arith)

pub read_ended : (read : Option (Bor (List ℕ))) (bytes : Bor (List ℕ)) (d d₀ d' : Desk) (end : ℕ) → EndTaken d₀ end d'.out → read ≡ Some bytes → length bytes.now ≡ 0 → stand_of d₀ ≡ stand_of d → d₀.out ≡ d.out
    → ReadTaken read d (Break end) d'
read_ended read bytes d d₀ d' end h is none stand same_out = rw is (given_ended bytes.now d d₀ d' end h none stand same_out)

-- some bytes came, and they are a piece
pub given_bytes : (bytes : List ℕ) (d : Desk) (r : ControlFlow ℕ (Unit {0})) (d' : Desk) → PieceTaken bytes 0 d r d' → 1 ≤ length bytes → BytesTaken bytes d r d'
given_bytes [] d r d' h more = absurd (omega arith)
given_bytes (b ∷ bs) d r d' h more = h

pub read_bytes : (read : Option (Bor (List ℕ))) (bytes : Bor (List ℕ)) (d : Desk) (r : ControlFlow ℕ (Unit {0})) (d' : Desk) → PieceTaken bytes.now 0 d r d' → read ≡ Some bytes → 1 ≤ length bytes.now
    → ReadTaken read d r d'
read_bytes read bytes d r d' h is more = rw is (given_bytes bytes.now d r d' h more)

-- and so where they were taken from a desk that stood the same, with nothing made
pub given_piece : (bytes : List ℕ) (d d₀ : Desk) (r : ControlFlow ℕ (Unit {0})) (d' : Desk) → PieceTaken bytes d₀.day.made d₀ r d' → 1 ≤ length bytes → d₀.day.made ≡ 0
    → stand_of d₀ ≡ stand_of d → d₀.out ≡ d.out → d₀.day.rows ≡ d.day.rows → d₀.day.pivots ≡ d.day.pivots → d₀.list ≡ d.list → d₀.pivots ≡ d.pivots → BytesTaken bytes d r d'
given_piece bytes d d₀ r d' h more made stand same_out rows pivots list same_pivots = given_bytes bytes d r d' (piece r (subst (λ (k : ℕ). PieceTaken bytes k d₀ r d') made h)) more
  where
    piece : (r : ControlFlow ℕ (Unit {0})) → PieceTaken bytes 0 d₀ r d' → PieceTaken bytes 0 d r d'
    piece (Continue u) h = anew_went bytes 0 d d₀ stand same_out d' rows pivots list same_pivots h
    piece (Break end) h = anew_halts bytes 0 d d₀ stand same_out end d'.out h

pub read_piece : (read : Option (Bor (List ℕ))) (bytes : Bor (List ℕ)) (d d₀ : Desk) (r : ControlFlow ℕ (Unit {0})) (d' : Desk) → PieceTaken bytes.now d₀.day.made d₀ r d' → read ≡ Some bytes → 1 ≤ length bytes.now
    → d₀.day.made ≡ 0 → stand_of d₀ ≡ stand_of d → d₀.out ≡ d.out → d₀.day.rows ≡ d.day.rows → d₀.day.pivots ≡ d.day.pivots → d₀.list ≡ d.list → d₀.pivots ≡ d.pivots
    → ReadTaken read d r d'
read_piece read bytes d d₀ r d' h is more made stand same_out rows pivots list same_pivots =
    rw is (given_piece bytes.now d d₀ r d' h more made stand same_out rows pivots list same_pivots)

module _ (d d' : Desk) where
  -- the run goes on only after a piece
  pub read_went : (read : Option (Bor (List ℕ))) → ReadTaken read d (Continue tt) d' → (bytes : Bor (List ℕ)) × (read ≡ Some bytes) × PieceWent bytes.now 0 d d'
  read_went None h = absurd (let e = h.0 in cc)
  read_went (Some bytes) h = (bytes, refl, go bytes.now h)
    where
      go : (bs : List ℕ) → BytesTaken bs d (Continue tt) d' → PieceWent bs 0 d d'
      go [] h = absurd (let e = h.1 in cc)
      go (b ∷ bs) h = h

  -- what is to print has its room
  pub went_fits : (bytes : List ℕ) → length bytes ≤ most_bytes → PieceWent bytes 0 d d' → d'.day.made ≤ out_room
  went_fits bytes l h = omega (arith, h.few_bytes, h.puts.after)

  pub stop_fits : (read : Option (Bor (List ℕ))) (end : ℕ) → ReadTaken read d (Break end) d' → end ≤ out_room
  stop_fits None end h = let e = h.0 in let same : end ≡ 0 = cc in omega arith
  stop_fits (Some bytes) end h = go bytes.now h
    where
      go : (bs : List ℕ) → BytesTaken bs d (Break end) d' → end ≤ out_room
      go [] h = let e = h.1 in let same : end ≡ h.0 = cc in omega (arith, h.2.fits)
      go (b ∷ bs) h = h.fits
