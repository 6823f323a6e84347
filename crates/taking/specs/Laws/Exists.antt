-- Every line does something or is no frame, and every input has an output.
use Rattle.std.specs.Prelude.{ℕ, Option, Some, None, suc, ◌*◌, ◌≤◌, ◌<◌, ◌≡◌, refl, ◌⊎◌, List, [], ◌∷◌, ◌++◌, length, get_or, replicate}
use Rattle.std.proofs.Math.Decide.{dec_lt}
use Rattle.std.proofs.Common.{subst, inl, inr, arith}
use Rattle.std.proofs.lemmas.List.{length-replicate, get_or-replicate}
use Rattle.std.proofs.Math.ListN.{get_or-eq_default}
use Rattle.rules.specs.Day.{most_rows, row_width}
use Rattle.rules.specs.Pivots.{most_pivots}
use Rattle.rules.specs.Lent.{scratch_places}
use Rattle.figures.specs.declared.answers.Answer.{Answer}
use Rattle.figures.specs.declared.answers.Answer.TheVariants as answer
use Rattle.figures.specs.Promises.{ask}
use Rattle.figures.specs.Laws.Exists.{pivot_diameter_exists}
use Rattle.frames.specs.declared.frame.Frame.{Frame}
use Rattle.frames.specs.declared.frame.Frame.TheVariants as frame
use Rattle.frames.specs.Text.{type_of, IsTextOf, ReadPromise}
use Rattle.frames.proofs.Laws.Unique.{text_unique}
use Rattle.frames.proofs.Laws.Exists.{read_exists}
use Rattle.printing.specs.Lines.{LineOf, words_of}
use Rattle.printing.specs.Laws.Spelling.{line_exists}
use Rattle.taking.specs.Known.{Known, nothing, with_stops, with_row, with_pivot, pivot_width, Zeros, Answered, Does, stops, row, pivot, asks, Tells, NoFrame}
use Rattle.taking.specs.Stream.{lines_of, no_line, one_line, at_this, at_later, Prints, to_end, to_stop, Output}
use Rattle.taking.specs.Laws.Unique.{not_both}

pub zero_places : (k : ℕ) → Zeros k (replicate k 0)
zero_places k = record { long = length-replicate k 0; zeros = λ i. all i (dec_lt i k) }
  where
    all : (i : ℕ) → Dec (i < k) → ◌≡◌ {A = ℕ} (get_or (replicate k 0) i 0) 0
    all i (yes l) = get_or-replicate k i 0 0 l
    all i (no l) = get_or-eq_default (replicate k 0) 0 (omega (arith, length-replicate {A = ℕ} k 0))

answer_line : (r : Answer) → (s : List ℕ) × LineOf (words_of r) s
answer_line (answer.Value value from to visits) = line_exists _ _
answer_line (answer.Nothing visits) = line_exists _ _
answer_line (answer.Refused number place) = line_exists _ _

-- a frame does something, or it can't be done
abbrev Done : Known → Frame → Type 0
Done t f = ((t' : Known) × (text : List ℕ) × Does t f t' text) ⊎ ((t' : Known) (text : List ℕ) → Does t f t' text → ⊥)

answered : (t : Known) (n asker A W : ℕ) → (text : List ℕ) × Answered t n asker A W text
answered t n asker A W =
    let r = pivot_diameter_exists (ask t.rows n asker A W) t.pivots (replicate scratch_places 0) in
    let l = answer_line r.0 in
    (l.0, record { answer = r.0; scratch = replicate scratch_places 0; scratch' = r.1; zeros = zero_places scratch_places; promised = r.2; line = l.1 })

-- what each kind of frame asks for

pub first : {t t' : Known} {n : ℕ} {x : List ℕ} → Does t (frame.Stops n) t' x → t.stops ≡ None
first (stops e) = e

pub room_for_row : {t t' : Known} {a b c d o : ℕ} {x : List ℕ} → Does t (frame.Row a b c d o) t' x → length t.rows < most_rows * row_width
room_for_row (row e h) = h

pub room_for_pivot : {t t' : Known} {p s : ℕ} {x : List ℕ} → Does t (frame.Pivot p s) t' x → length t.pivots < most_pivots * pivot_width
room_for_pivot (pivot e h) = h

-- only a frame does anything, and every other than the number of stops comes after it
pub is_frame : {t t' : Known} {x : List ℕ} (f : Frame) → Does t f t' x → 1 ≤ type_of f
is_frame (frame.Stops n) (stops e) = omega arith
is_frame (frame.Row a b c d o) (row e r) = omega arith
is_frame (frame.Pivot p s) (pivot e r) = omega arith
is_frame (frame.Ask x a w) (asks e r) = omega arith

later : {t t' : Known} {x : List ℕ} (f : Frame) → 2 ≤ type_of f → Does t f t' x → (n : ℕ) × (t.stops ≡ Some n)
later (frame.Stops n) h (stops e) = absurd (omega arith)
later (frame.Row a b c d o) h (row {n} e r) = (n, e)
later (frame.Pivot p s) h (pivot {n} e r) = (n, e)
later (frame.Ask x a w) h (asks {n} e r) = (n, e)

pub only_first : {t t' : Known} {x : List ℕ} (f : Frame) → type_of f ≤ 1 → Does t f t' x → t.stops ≡ None
only_first (frame.Stops n) h (stops e) = e
only_first (frame.Row a b c d o) h (row e r) = absurd (omega arith)
only_first (frame.Pivot p s) h (pivot e r) = absurd (omega arith)
only_first (frame.Ask x a w) h (asks e r) = absurd (omega arith)

-- before the number of stops it can't be done
pub too_early : {t : Known} (f : Frame) → 2 ≤ type_of f → t.stops ≡ None → (t' : Known) (x : List ℕ) → Does t f t' x → ⊥
too_early f h e t' x d = not_both e (later f h d).1

done : (t : Known) (f : Frame) → Done t f
done t f = go f t.stops refl (dec_lt (length t.rows) (most_rows * row_width)) (dec_lt (length t.pivots) (most_pivots * pivot_width))
  where
    go : (f : Frame) (o : Option ℕ) → t.stops ≡ o → Dec (length t.rows < most_rows * row_width) → Dec (length t.pivots < most_pivots * pivot_width) → Done t f
    go (frame.Stops n) None e r p = inl (with_stops t n, [], stops e)
    go (frame.Stops n) (Some m) e r p = inr (λ t' x d. not_both (first d) e)
    go (frame.Row a b c d o) None e r p = inr (too_early (frame.Row a b c d o) (omega arith) e)
    go (frame.Row a b c d o) (Some m) e (yes r) p = inl (with_row t (a ∷ b ∷ c ∷ d ∷ o ∷ []), [], row e r)
    go (frame.Row a b c d o) (Some m) e (no r) p = inr (λ t' x g. r (room_for_row g))
    go (frame.Pivot q s) None e r p = inr (too_early (frame.Pivot q s) (omega arith) e)
    go (frame.Pivot q s) (Some m) e r (yes p) = inl (with_pivot t (q ∷ s ∷ []), [], pivot e p)
    go (frame.Pivot q s) (Some m) e r (no p) = inr (λ t' x g. p (room_for_pivot g))
    go (frame.Ask x a w) None e r p = inr (too_early (frame.Ask x a w) (omega arith) e)
    go (frame.Ask x a w) (Some m) e r p = let l = answered t m x a w in inl (t, l.0, asks e l.1)

-- what a line does, or that it is no frame
pub told : (t : Known) (line : List ℕ) → ((t' : Known) × (text : List ℕ) × Tells t line t' text) ⊎ NoFrame t line
unfolding ReadPromise
told t line = let r = read_exists line in go r.0 r.1
  where
    done_or_not : (f : Frame) → IsTextOf f line → Done t f → ((t' : Known) × (text : List ℕ) × Tells t line t' text) ⊎ NoFrame t line
    done_or_not f h (inl d) = inl (d.0, d.1, record { frame = f; is_text = h; does = d.2 })
    done_or_not f h (inr d) = inr (λ t' x s. d t' x (subst (λ (g : Frame). Does t g t' x) (text_unique line s.frame f s.is_text h) s.does))

    go : (r : Option Frame) → ReadPromise line r → ((t' : Known) × (text : List ℕ) × Tells t line t' text) ⊎ NoFrame t line
    go (Some f) h = done_or_not f h (done t f)
    go None h = inr (λ t' x s. h s.frame s.is_text)

-- what lines print, from number k on
pub prints_exists : (k : ℕ) (t : Known) (lines : List (List ℕ)) → (text : List ℕ) × Prints k t lines text
prints_exists k t [] = ([], to_end no_line)
prints_exists k t (l ∷ ls) = go (told t l) (λ t'. prints_exists (suc k) t' ls)
  where
    onward : (t' : Known) (x y : List ℕ) → Tells t l t' x → Prints (suc k) t' ls y → Prints k t (l ∷ ls) (x ++ y)
    onward t' x y h (to_end r) = to_end (one_line h r)
    onward t' x y h (to_stop r) = to_stop (at_later h r)

    go : ((t' : Known) × (text : List ℕ) × Tells t l t' text) ⊎ NoFrame t l → ((t' : Known) → (text : List ℕ) × Prints (suc k) t' ls text) → (text : List ℕ) × Prints k t (l ∷ ls) text
    go (inl h) rest = let r = rest h.0 in (h.1 ++ r.0, onward h.0 h.1 r.0 h.2 r.1)
    go (inr n) rest = let m = line_exists _ _ in (m.0, to_stop (at_this n m.1))

pub output_exists : (input : List ℕ) → (output : List ℕ) × Output input output
output_exists input =
    let h = line_exists _ _ in
    let r = prints_exists 1 nothing (lines_of input) in
    (h.0 ++ r.0, record { header = h.0; text = r.0; header_line = h.1; prints = r.1; whole = refl })
