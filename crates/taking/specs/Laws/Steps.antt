-- What the code makes of a frame, a line and a byte is what the definitions say.
use Rattle.std.specs.Prelude.{ℕ, ◌+◌, ◌*◌, ◌≤◌, ◌<◌, ◌≡◌, refl, Option, Some, None, List, [], ◌∷◌, length, get_or, take}
use Rattle.std.proofs.Common.{arith, sym, ◌∙◌, subst, length-take-le}
use Rattle.std.proofs.Math.Decide.{dec_lt}
use Rattle.rules.specs.Day.{most_rows, row_width, Ask}
use Rattle.rules.specs.Pivots.{most_pivots}
use Rattle.rules.specs.Lent.{scratch_places, Wiped}
use Rattle.figures.specs.declared.answers.Answer.{Answer}
use Rattle.figures.specs.declared.answers.Answer.TheVariants as answer
use Rattle.figures.specs.Promises.{ask, PivotDiameterPromise}
use Rattle.frames.specs.declared.frame.Frame.{Frame}
use Rattle.frames.specs.declared.frame.Frame.TheVariants as frame
use Rattle.frames.specs.Text.{type_of, ReadPromise}
use Rattle.frames.proofs.Laws.Unique.{text_unique}
use Rattle.printing.specs.Lines.{words_of, frame_words}
use Rattle.printing.specs.Parts.{PutsLine}
use Rattle.printing.specs.Laws.Puts.{puts_none}
use Rattle.taking.specs.declared.state.Desk.{Desk}
use Rattle.taking.specs.Known.{Known, pivot_width, Zeros, Does, stops, row, pivot, asks, NoFrame}
use Rattle.taking.specs.Room.{known_of, Keeps, Added, FrameDone, FrameRefused, LineDone, LineNamed}
use Rattle.taking.specs.Laws.Unique.{not_both}
use Rattle.taking.specs.Laws.Exists.{first, room_for_row, room_for_pivot, too_early}

known_same : {o o' : Option ℕ} {r r' p p' : List ℕ} → o ≡ o' → r ≡ r' → p ≡ p' → ◌≡◌ {A = Known} (record { stops = o; rows = r; pivots = p }) (record { stops = o'; rows = r'; pivots = p' })
known_same e f g = λ i. record { stops = e i; rows = f i; pivots = g i }

-- scratch of zeros comes back as zeros
pub wiped_zeros : (q : Ask) (pivots scratch : List ℕ) (r : Answer) (scratch' : List ℕ) → Zeros scratch_places scratch → PivotDiameterPromise q pivots scratch r scratch' → Zeros scratch_places scratch'
unfolding PivotDiameterPromise
wiped_zeros q pivots scratch r scratch' z = go r
  where
    all : Wiped scratch scratch' → Zeros scratch_places scratch'
    all w = record { long = w.same_length ∙ z.long; zeros = λ i. at i (dec_lt i scratch_places) }
      where
        at : (i : ℕ) → Dec (i < scratch_places) → get_or scratch' i 0 ≡ 0
        at i (yes l) = w.right i l
        at i (no l) = w.kept i (omega arith) ∙ z.zeros i

    go : (r : Answer) → PivotDiameterPromise q pivots scratch r scratch' → Zeros scratch_places scratch'
    go (answer.Value value from to visits) p = all p.2
    go (answer.Nothing visits) p = all p.2
    go (answer.Refused number place) p = subst (Zeros scratch_places) (sym p.1) z

module _ (d d' : Desk) (same_day : d'.day ≡ d.day) (same_list : d'.list ≡ d.list) (same_pivots : d'.pivots ≡ d.pivots) (same_out : d'.out ≡ d.out) where
  -- a frame that can't be done
  pub refuses : (f : Frame) → ((t : Known) (x : List ℕ) → Does (known_of d) f t x → ⊥) → FrameRefused f d d'
  refuses f h = record { does_not = h; same_day = same_day; same_list = same_list; same_pivots = same_pivots; same_out = same_out }

  pub stops_refused : (n : ℕ) {m : ℕ} → d.day.stops ≡ Some m → FrameRefused (frame.Stops n) d d'
  stops_refused n e = refuses (frame.Stops n) (λ t x g. not_both (first g) e)

  -- before the number of stops no other frame can be done
  pub early_refused : (f : Frame) → 2 ≤ type_of f → d.day.stops ≡ None → FrameRefused f d d'
  early_refused f h e = refuses f (λ t x g. too_early f h e t x g)

  pub row_refused : (from to start travel owner : ℕ) → most_rows ≤ d.day.rows → FrameRefused (frame.Row from to start travel owner) d d'
  row_refused from to start travel owner l =
      let long = d.list_long in
      refuses (frame.Row from to start travel owner) (λ t x g. omega (arith, length-take-le (d.day.rows * row_width) d.list (omega (arith, d.day.few_rows)), room_for_row g))

  pub pivot_refused : (stop reading : ℕ) → most_pivots ≤ d.day.pivots → FrameRefused (frame.Pivot stop reading) d d'
  pivot_refused stop reading l =
      let long = d.pivots_long in
      refuses (frame.Pivot stop reading) (λ t x g. omega (arith, length-take-le (d.day.pivots * pivot_width) d.pivots (omega (arith, d.day.few_pivots)), room_for_pivot g))

module _ (d : Desk) where
  module _ (d' : Desk) (same_line : d'.day.line ≡ d.day.line) where
    -- a frame that prints nothing
    quiet : (f : Frame) → Does (known_of d) f (known_of d') [] → Keeps d d' → d'.day.made ≡ d.day.made → d'.out ≡ d.out → FrameDone f d d'
    quiet f g k m o =
        record { text = []; does = g; puts = rw (m, o) (puts_none d.day.made d.out); short = omega arith; same_line = same_line; keeps = k }

    pub stops_done : (n : ℕ) → d.day.stops ≡ None → d'.day.stops ≡ Some n → d'.day.rows ≡ d.day.rows → d'.day.pivots ≡ d.day.pivots → d'.list ≡ d.list → d'.pivots ≡ d.pivots
        → d'.day.made ≡ d.day.made → d'.out ≡ d.out → FrameDone (frame.Stops n) d d'
    stops_done n e s r p l q m o =
        quiet (frame.Stops n)
        (subst (λ (t : Known). Does (known_of d) (frame.Stops n) t []) (known_same (sym s) (λ i. take (sym r i * row_width) (sym l i)) (λ i. take (sym p i * pivot_width) (sym q i))) (stops e))
        (record { more_rows = omega arith; more_pivots = omega arith; list_kept = rw l refl; pivots_kept = rw q refl }) m o

    pub row_done : (from to start travel owner : ℕ) {n : ℕ} → Added row_width (from ∷ to ∷ start ∷ travel ∷ owner ∷ []) d.day.rows d.list d'.day.rows d'.list → d.day.rows < most_rows
        → d.day.stops ≡ Some n → d'.day.stops ≡ d.day.stops → d'.day.pivots ≡ d.day.pivots → d'.pivots ≡ d.pivots
        → d'.day.made ≡ d.day.made → d'.out ≡ d.out → FrameDone (frame.Row from to start travel owner) d d'
    row_done from to start travel owner add few e s p q m o =
        let long = d.list_long in
        let before : length (take (d.day.rows * row_width) d.list) ≡ d.day.rows * row_width = length-take-le (d.day.rows * row_width) d.list (omega arith) in
        quiet (frame.Row from to start travel owner)
        (subst (λ (t : Known). Does (known_of d) (frame.Row from to start travel owner) t []) (known_same (sym s) (sym add.front) (λ i. take (sym p i * pivot_width) (sym q i))) (row e (omega arith)))
        (record { more_rows = omega (arith, add.one_more); more_pivots = omega arith; list_kept = add.back; pivots_kept = rw q refl }) m o

    pub pivot_done : (stop reading : ℕ) {n : ℕ} → Added pivot_width (stop ∷ reading ∷ []) d.day.pivots d.pivots d'.day.pivots d'.pivots → d.day.pivots < most_pivots
        → d.day.stops ≡ Some n → d'.day.stops ≡ d.day.stops → d'.day.rows ≡ d.day.rows → d'.list ≡ d.list
        → d'.day.made ≡ d.day.made → d'.out ≡ d.out → FrameDone (frame.Pivot stop reading) d d'
    pivot_done stop reading add few e s r l m o =
        let long = d.pivots_long in
        let before : length (take (d.day.pivots * pivot_width) d.pivots) ≡ d.day.pivots * pivot_width = length-take-le (d.day.pivots * pivot_width) d.pivots (omega arith) in
        quiet (frame.Pivot stop reading)
        (subst (λ (t : Known). Does (known_of d) (frame.Pivot stop reading) t []) (known_same (sym s) (λ i. take (sym r i * row_width) (sym l i)) (sym add.front)) (pivot e (omega arith)))
        (record { more_rows = omega arith; more_pivots = omega (arith, add.one_more); list_kept = rw l refl; pivots_kept = add.back }) m o

    -- an ask is answered, and its line is put after what was made before
    pub ask_done : (asker a w : ℕ) {n : ℕ} (answer : Answer) (scratch' : List ℕ) → d.day.stops ≡ Some n
        → PivotDiameterPromise (ask (take (d.day.rows * row_width) d.list) n asker a w) (take (d.day.pivots * pivot_width) d.pivots) d.scratch answer scratch'
        → PutsLine (words_of answer) d.day.made d.out d'.day.made d'.out → known_of d' ≡ known_of d → d'.day.rows ≡ d.day.rows → d'.day.pivots ≡ d.day.pivots → d'.list ≡ d.list
        → d'.pivots ≡ d.pivots → FrameDone (frame.Ask asker a w) d d'
    ask_done asker a w answer scratch' e h printed k r p l q =
        record {
          text = printed.text;
          does =
              subst (λ (t : Known). Does (known_of d) (frame.Ask asker a w) t printed.text) (sym k)
              (asks e (record { answer = answer; scratch = d.scratch; scratch' = scratch'; zeros = d.zeros; promised = h; line = printed.line }));
          puts = printed.puts;
          short = printed.short;
          same_line = same_line;
          keeps = record { more_rows = omega arith; more_pivots = omega arith; list_kept = rw l refl; pivots_kept = rw q refl };
        }

-- a line that is the text of a frame that was done
pub line_done : (f : Frame) (d m d' : Desk) → ReadPromise (take d.day.len d.line) (Some f) → FrameDone f d m → known_of d' ≡ known_of m → d'.day.made ≡ m.day.made → d'.out ≡ m.out
    → d'.day.line ≡ m.day.line + 1 → d'.day.len ≡ 0 → Keeps d d' → LineDone d d'
unfolding ReadPromise
line_done f d m d' p h k made out l z keeps =
    record {
      text = h.text;
      tells = record { frame = f; is_text = p; does = subst (λ (t : Known). Does (known_of d) f t h.text) (sym k) h.does };
      puts = rw (made, out) h.puts;
      short = h.short;
      next_line = l ∙ rw h.same_line refl;
      at_start = z;
      keeps = keeps;
    }

-- a line that is no frame's text, or that of one that can't be done

pub line_no_text : (t : Known) (line : List ℕ) → ReadPromise line None → NoFrame t line
unfolding ReadPromise
line_no_text t line p t' x s = p s.frame s.is_text

pub line_refused : (f : Frame) (t : Known) (line : List ℕ) → ReadPromise line (Some f) → ((t' : Known) (x : List ℕ) → Does t f t' x → ⊥) → NoFrame t line
unfolding ReadPromise
line_refused f t line p h t' x s = h t' x (subst (λ (g : Frame). Does t g t' x) (text_unique line s.frame f s.is_text p) s.does)

pub line_stopped : (f : Frame) (d m d' : Desk) (end : ℕ) → ReadPromise (take d.day.len d.line) (Some f) → FrameRefused f d m → PutsLine (frame_words m.day.line) m.day.made m.out end d'.out
    → d'.list ≡ m.list → d'.pivots ≡ m.pivots → LineNamed d end d'
line_stopped f d m d' end p h n l q =
    record {
      no_frame = line_refused f (known_of d) (take d.day.len d.line) p h.does_not;
      named = let e = h.same_day in let o = h.same_out in rw (e, o) at n;
      same_list = l ∙ h.same_list;
      same_pivots = q ∙ h.same_pivots;
    }
