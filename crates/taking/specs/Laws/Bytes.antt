-- What the code makes of one byte, and of the bytes of a piece one after another.
use Rattle.std.specs.Prelude.{ℕ, ◌+◌, ◌-◌, ◌*◌, ◌≤◌, ◌<◌, ◌≡◌, ◌≢◌, List, [], ◌∷◌, ◌++◌, length, drop, set, get_or}
use native.Mathlib.Omega.{arith}
use borrow.Author.Tests.{eq-eqb, ne_eqb}
use Rattle.std.proofs.Common.{add-mul, add-one, ap, ◌∙◌, subst, append-nil, take-append-drop, take-suc, take-suc-set, drop-drop}
use Rattle.std.proofs.Math.Path.{refl, sym}
use Rattle.std.proofs.Math.ListN.{take, length-append}
use Rattle.std.proofs.Math.Seq.{length-take-le}
use Rattle.std.specs.declared.ops.ControlFlow.{ControlFlow}
use Rattle.std.specs.declared.ops.ControlFlow.TheVariants.{Continue, Break}
use Rattle.rules.specs.Day.{row_width}
use Rattle.printing.specs.Lines.{newline, frame_words}
use Rattle.printing.specs.Parts.{line_room, PutsLine}
use Rattle.printing.specs.Laws.Puts.{puts_none, puts_next}
use Rattle.taking.specs.declared.state.Desk.{Desk}
use Rattle.taking.specs.Known.{Known, pivot_width}
use Rattle.taking.specs.Stream.{ended, left, last_line, Taken, no_line, one_line, at_this, Prints, to_end, to_stop}
use Rattle.taking.specs.Pieces.{longest, Stand, Went, Halts, by_line, by_length}
use Rattle.taking.specs.Room.{Ahead, Spare, known_of, stand_of, Keeps, LineTaken, PieceWent, PieceHalts, PieceTaken, EndTaken}
use Rattle.taking.specs.Laws.Pieces.{went_went, went_halts, halts_more}

module _ (b : ℕ) (d d' : Desk) where
  -- a newline ends the line
  pub byte_ends : (r : ControlFlow ℕ (Unit {0})) → Spare 1 d.day → b ≡ newline → LineTaken d r d' → PieceTaken (b ∷ []) d.day.made d r d'
  unfolding ended left
  byte_ends (Continue u) s n h =
      let e = eq-eqb b newline n in
      record {
        text = h.text;
        went =
            record {
              line = rw e h.next_line;
              taken = rw (e, sym (append-nil h.text)) (one_line h.tells no_line);
              begun = rw (e, h.at_start) refl;
              short = rw e (omega arith);
            };
        puts = h.puts;
        few_lines = omega (arith, h.next_line);
        few_bytes = omega (arith, h.short);
        keeps = h.keeps;
      }
  byte_ends (Break end) s n h =
      let e = eq-eqb b newline n in
      record { text = h.named.text; halts = by_line (rw e (at_this h.no_frame h.named.line)); puts = h.named.puts; fits = omega (arith, s.lines, h.named.short, h.named.puts.after) }

  -- another byte is one more of the line
  pub byte_more : b ≢ newline → d.day.len < longest → d'.day.len ≡ d.day.len + 1 → d'.line ≡ set d.line d.day.len b → d'.day.line ≡ d.day.line → known_of d' ≡ known_of d
      → d'.day.made ≡ d.day.made → d'.out ≡ d.out → Keeps d d' → PieceWent (b ∷ []) d.day.made d d'
  unfolding ended left
  byte_more other l n w same k m o keeps =
      let e = ne_eqb b newline other in
      let long = d.line_long in
      let one : take (d.day.len + 1) (set d.line d.day.len b) ≡ take d.day.len d.line ++ (b ∷ []) = rw (add-one d.day.len) (take-suc-set d.line d.day.len b (omega arith)) in
      let begun : take d'.day.len d'.line ≡ take d.day.len d.line ++ (b ∷ []) = rw (n, w) one in
      record {
        text = [];
        went =
            record {
              line = rw e (omega arith);
              taken = rw e (subst (λ (t : Known). Taken (known_of d) [] t []) (sym k) no_line);
              begun = rw e begun;
              short = rw e (simp length-append (omega (arith, length-take-le d.day.len d.line (omega arith))));
            };
        puts = rw (m, o) (puts_none d.day.made d.out);
        few_lines = omega arith;
        few_bytes = omega arith;
        keeps = keeps;
      }

-- or one too many
pub byte_too_many : (b : ℕ) (d : Desk) (end : ℕ) (out' : List ℕ) → Spare 1 d.day → b ≢ newline → longest ≤ d.day.len → PutsLine (frame_words d.day.line) d.day.made d.out end out'
    → PieceHalts (b ∷ []) d.day.made d end out'
unfolding ended left
byte_too_many b d end out' s other l n =
    let e = ne_eqb b newline other in
    let long = d.line_long in
    let short = d.day.short in
    record {
      text = n.text;
      halts =
          by_length {t = known_of d} {before = []} {name = n.text} (rw e no_line) (rw e (simp length-append (omega (arith, length-take-le d.day.len d.line (omega arith)))))
          (rw e (let k : d.day.line + 0 ≡ d.day.line = omega arith in rw k n.line)) refl;
      puts = n.puts;
      fits = omega (arith, s.lines, n.short, n.puts.after);
    }

-- a piece that went by, and then another

-- what is kept from a place on is kept from a later one on
kept_later : (k m : ℕ) (xs ys : List ℕ) → k ≤ m → drop k xs ≡ drop k ys → drop m xs ≡ drop m ys
kept_later k m xs ys l e = let s : k + (m - k) ≡ m = omega arith in rw (sym s) (sym (drop-drop (m - k) k xs) ∙ (ap (drop (m - k)) e ∙ drop-drop (m - k) k ys))

keeps_next : {d d' d'' : Desk} → Keeps d d' → Keeps d' d'' → Keeps d d''
keeps_next {d} {d'} {d''} g h =
    record {
      more_rows = omega (arith, g.more_rows, h.more_rows);
      more_pivots = omega (arith, g.more_pivots, h.more_pivots);
      list_kept = h.list_kept ∙ kept_later (d'.day.rows * row_width) (d''.day.rows * row_width) d'.list d.list (omega (arith, h.more_rows)) g.list_kept;
      pivots_kept = h.pivots_kept ∙ kept_later (d'.day.pivots * pivot_width) (d''.day.pivots * pivot_width) d'.pivots d.pivots (omega (arith, h.more_pivots)) g.pivots_kept;
    }

pub piece_next : (p q : List ℕ) (at : ℕ) (d d' : Desk) (r : ControlFlow ℕ (Unit {0})) (d'' : Desk) → PieceWent p at d d' → PieceTaken q d'.day.made d' r d'' → PieceTaken (p ++ q) at d r d''
piece_next p q at d d' (Continue u) d'' g h =
    record {
      text = g.text ++ h.text;
      went = went_went g.went h.went;
      puts = puts_next g.puts h.puts;
      few_lines = omega (arith, g.few_lines, h.few_lines, length-append p q);
      few_bytes = rw (length-append g.text h.text, length-append p q, add-mul (length p) (length q) line_room) (omega (arith, g.few_bytes, h.few_bytes));
      keeps = keeps_next g.keeps h.keeps;
    }
piece_next p q at d d' (Break end) d'' g h = record { text = g.text ++ h.text; halts = went_halts g.went h.halts; puts = puts_next g.puts h.puts; fits = h.fits }

-- what comes after the end of the run changes nothing
pub piece_halted : {p : List ℕ} (q : List ℕ) {at : ℕ} {d : Desk} {end : ℕ} {out' : List ℕ} → PieceHalts p at d end out' → PieceHalts (p ++ q) at d end out'
piece_halted q h = record { text = h.text; halts = halts_more q h.halts; puts = h.puts; fits = h.fits }

-- the bytes of a piece, of which i are taken

module _ (bytes : List ℕ) (i : ℕ) (inside : i < length bytes) (at : ℕ) (d d' d'' : Desk) where
  with_byte : take (i + 1) bytes ≡ take i bytes ++ (get_or bytes i 0 ∷ [])
  with_byte = rw (add-one i) (take-suc bytes i 0 inside)

  -- what the next byte leads to
  after_byte : (r : ControlFlow ℕ (Unit {0})) → PieceWent (take i bytes) at d d' → PieceTaken (get_or bytes i 0 ∷ []) d'.day.made d' r d'' → PieceTaken (take (i + 1) bytes) at d r d''
  after_byte r g h =
      subst (λ (p : List ℕ). PieceTaken p at d r d'') (sym with_byte) (piece_next (take i bytes) (get_or bytes i 0 ∷ []) at d d' r d'' g h)

  pub bytes_more : PieceWent (take i bytes) at d d' → PieceWent (get_or bytes i 0 ∷ []) d'.day.made d' d'' → PieceWent (take (i + 1) bytes) at d d''
  bytes_more g h = after_byte (Continue tt) g h

  pub bytes_stop : (end : ℕ) → PieceWent (take i bytes) at d d' → PieceHalts (get_or bytes i 0 ∷ []) d'.day.made d' end d''.out → PieceHalts bytes at d end d''.out
  bytes_stop end g h =
      subst (λ (p : List ℕ). PieceHalts p at d end d''.out) (take-append-drop (i + 1) bytes) (piece_halted (drop (i + 1) bytes) (after_byte (Break end) g h))

-- at first none is taken
pub bytes_none : (d : Desk) → PieceWent [] d.day.made d d
unfolding ended left
bytes_none d =
    let long = d.line_long in
    let room = d.day.short in
    record {
      text = [];
      went = record { line = omega arith; taken = no_line; begun = refl; short = omega (arith, length-take-le d.day.len d.line (omega arith)) };
      puts = puts_none d.day.made d.out;
      few_lines = omega arith;
      few_bytes = omega arith;
      keeps = record { more_rows = omega arith; more_pivots = omega arith; list_kept = refl; pivots_kept = refl };
    }

-- how many bytes were made before does not tell
module _ (p : List ℕ) (at : ℕ) (d d₀ : Desk) (stand : stand_of d₀ ≡ stand_of d) (same_out : d₀.out ≡ d.out) where
  pub anew_went : (d' : Desk) → d₀.day.rows ≡ d.day.rows → d₀.day.pivots ≡ d.day.pivots → d₀.list ≡ d.list → d₀.pivots ≡ d.pivots → PieceWent p at d₀ d' → PieceWent p at d d'
  anew_went d' rows pivots list same_pivots h =
      let line : d₀.day.line ≡ d.day.line = λ i. (stand i).line in
      let k = h.keeps in
      record {
        text = h.text;
        went = subst (λ (s : Stand). Went s p (stand_of d') h.text) stand h.went;
        puts = rw same_out at h.puts;
        few_lines = omega (arith, h.few_lines);
        few_bytes = h.few_bytes;
        keeps = record { more_rows = rw rows at k.more_rows; more_pivots = rw pivots at k.more_pivots; list_kept = rw list at k.list_kept; pivots_kept = rw same_pivots at k.pivots_kept };
      }

  pub anew_halts : (end : ℕ) (out' : List ℕ) → PieceHalts p at d₀ end out' → PieceHalts p at d end out'
  anew_halts end out' h =
      record { text = h.text; halts = subst (λ (s : Stand). Halts s p h.text) stand h.halts; puts = rw same_out at h.puts; fits = h.fits }

-- within a piece there is room for what the next byte prints
pub spare_now : (bytes : List ℕ) (i : ℕ) (d d' : Desk) → i < length bytes → Ahead (length bytes) d.day → PieceWent (take i bytes) 0 d d' → Spare 1 d'.day
spare_now bytes i d d' l a h =
    let e = length-take-le i bytes (omega arith) in
    record { numbers = omega (arith, e, a.numbers, h.few_lines); lines = omega (arith, e, a.few, h.few_bytes, h.puts.after) }

-- and after what was made before, where there was room for the whole piece
pub spare_next : (bytes : List ℕ) (i : ℕ) (d d' : Desk) → i < length bytes → Spare (length bytes) d.day → PieceWent (take i bytes) d.day.made d d' → Spare 1 d'.day
spare_next bytes i d d' l a h =
    let e = length-take-le i bytes (omega arith) in
    record { numbers = omega (arith, e, a.numbers, h.few_lines); lines = omega (arith, e, a.lines, h.few_bytes, h.puts.after) }

-- the end of the input

pub end_empty : (d : Desk) → d.day.len ≡ 0 → EndTaken d 0 d.out
unfolding last_line
end_empty d e = record { text = []; prints = rw e (to_end no_line); puts = puts_none 0 d.out; fits = omega arith }

one_last : (bytes : List ℕ) → 1 ≤ length bytes → last_line bytes ≡ bytes ∷ []
unfolding last_line
one_last [] h = absurd (omega arith)
one_last (b ∷ bs) h = refl

-- how many bytes are to print after a step
abbrev pub made_by : ControlFlow ℕ (Unit {0}) → Desk → ℕ
made_by (Continue u) d = d.day.made
made_by (Break end) d = end

pub end_line : (d : Desk) (r : ControlFlow ℕ (Unit {0})) (d' : Desk) → d.day.made ≡ 0 → 1 ≤ d.day.len → LineTaken d r d' → EndTaken d (made_by r d') d'.out
end_line d r d' z l h = go r h
  where
    there : last_line (take d.day.len d.line) ≡ take d.day.len d.line ∷ []
    there = let long = d.line_long in let short = d.day.short in one_last (take d.day.len d.line) (omega (arith, length-take-le d.day.len d.line (omega arith)))

    go : (r : ControlFlow ℕ (Unit {0})) → LineTaken d r d' → EndTaken d (made_by r d') d'.out
    go (Continue u) h =
        record {
          text = h.text;
          prints = rw there (to_end (subst (λ (x : List ℕ). Taken (known_of d) (take d.day.len d.line ∷ []) (known_of d') x) (append-nil h.text) (one_line h.tells no_line)));
          puts = rw z at h.puts;
          fits = omega (arith, z, h.short, h.puts.after);
        }
    go (Break end) h =
        record { text = h.named.text; prints = rw there (to_stop (at_this h.no_frame h.named.line)); puts = rw z at h.named.puts; fits = omega (arith, z, h.named.short, h.named.puts.after) }

-- the run ends the same way, however many bytes were made before
pub anew_end : (d d₀ : Desk) → stand_of d₀ ≡ stand_of d → d₀.out ≡ d.out → (end : ℕ) (out' : List ℕ) → EndTaken d₀ end out' → EndTaken d end out'
anew_end d d₀ stand same_out end out' h =
    record {
      text = h.text;
      prints = subst (λ (s : Stand). Prints s.line s.known (last_line s.begun) h.text) stand h.prints;
      puts = rw same_out at h.puts;
      fits = h.fits;
    }

pub ruleset one_byte = (byte_ends, byte_more, byte_too_many)

pub ruleset bytes_so_far = (bytes_none, bytes_more, spare_next)
