-- Pieces one after another do what one piece of both does, so it does not matter how the input was cut.
use Rattle.std.specs.Prelude.{ℕ, suc, ◌+◌, ◌≤◌, ◌<◌, ◌≡◌, refl, ◌⊎◌, Bool, true, false, cond, List, [], ◌∷◌, ◌++◌, eqb, length}
use Rattle.std.proofs.Common.{arith, sym, ap, ◌∙◌, inl, inr, append-nil, append_assoc, length-append}
use Rattle.frames.specs.declared.frame.Frame.{Frame}
use Rattle.frames.specs.declared.frame.Frame.TheVariants as frame
use Rattle.frames.specs.Text.{type_of}
use Rattle.frames.proofs.Laws.Texts.{widths_for, total, text_length}
use Rattle.printing.specs.Lines.{newline, LineOf, frame_words}
use Rattle.taking.specs.Known.{Known, nothing, NoFrame}
use Rattle.taking.specs.Stream.{ended, left, last_line, lines_of, Taken, no_line, one_line, Stopped, at_this, at_later, Prints, to_end, to_stop}
use Rattle.taking.specs.Pieces.{longest, Stand, start, Went, Halts, by_line, by_length}

-- the lines of two pieces, and what they leave

pub ended_append : (begun p q : List ℕ) → ended begun (p ++ q) ≡ ended begun p ++ ended (left begun p) q
unfolding ended left
ended_append begun [] q = refl
ended_append begun (b ∷ bs) q = go (eqb b newline) (ended_append [] bs q) (ended_append (begun ++ (b ∷ [])) bs q)
  where
    go : (e : Bool)
        → ended [] (bs ++ q) ≡ ended [] bs ++ ended (left [] bs) q
        → ended (begun ++ (b ∷ [])) (bs ++ q) ≡ ended (begun ++ (b ∷ [])) bs ++ ended (left (begun ++ (b ∷ [])) bs) q
        → cond e (begun ∷ ended [] (bs ++ q)) (ended (begun ++ (b ∷ [])) (bs ++ q)) ≡ cond e (begun ∷ ended [] bs) (ended (begun ++ (b ∷ [])) bs) ++ ended (cond e (left [] bs) (left (begun ++ (b ∷ [])) bs)) q
    go true h g = ap (λ (ls : List (List ℕ)). begun ∷ ls) h
    go false h g = g

pub left_append : (begun p q : List ℕ) → left begun (p ++ q) ≡ left (left begun p) q
unfolding left
left_append begun [] q = refl
left_append begun (b ∷ bs) q = go (eqb b newline) (left_append [] bs q) (left_append (begun ++ (b ∷ [])) bs q)
  where
    go : (e : Bool)
        → left [] (bs ++ q) ≡ left (left [] bs) q
        → left (begun ++ (b ∷ [])) (bs ++ q) ≡ left (left (begun ++ (b ∷ [])) bs) q
        → cond e (left [] (bs ++ q)) (left (begun ++ (b ∷ [])) (bs ++ q)) ≡ left (cond e (left [] bs) (left (begun ++ (b ∷ [])) bs)) q
    go true h g = h
    go false h g = g

-- a piece ends no more lines than it has bytes
pub few_ended : (begun p : List ℕ) → length (ended begun p) ≤ length p
unfolding ended
few_ended begun [] = omega arith
few_ended begun (b ∷ bs) = go (eqb b newline) (few_ended [] bs) (few_ended (begun ++ (b ∷ [])) bs)
  where
    go : (e : Bool) → length (ended [] bs) ≤ length bs → length (ended (begun ++ (b ∷ [])) bs) ≤ length bs → length (cond e (begun ∷ ended [] bs) (ended (begun ++ (b ∷ [])) bs)) ≤ suc (length bs)
    go true h g = omega arith
    go false h g = omega arith

-- lines taken, and then others

pub taken_append : {t t' t'' : Known} (ls ms : List (List ℕ)) {x y : List ℕ} → Taken t ls t' x → Taken t' ms t'' y → Taken t (ls ++ ms) t'' (x ++ y)
taken_append [] ms no_line k = k
taken_append (l ∷ ls) ms {y = y} (one_line {text = a} {more = b} h r) k = rw (append_assoc a b y) (one_line h (taken_append ls ms r k))

pub taken_stopped : {t t' : Known} (k : ℕ) (ls ms : List (List ℕ)) {x y : List ℕ} → Taken t ls t' x → Stopped (k + length ls) t' ms y → Stopped k t (ls ++ ms) (x ++ y)
taken_stopped k [] ms {y = y} no_line s = let e : k + 0 ≡ k = omega arith in rw e at s
taken_stopped {t} {t'} k (l ∷ ls) ms {y = y} (one_line {text = a} {more = b} h r) s =
    let e : k + suc (length ls) ≡ suc k + length ls = omega arith in
    rw (append_assoc a b y) (at_later h (taken_stopped (suc k) ls ms r (rw e at s)))

-- nothing after the line that stops is read
pub stopped_more : {t : Known} (k : ℕ) (ls ms : List (List ℕ)) {x : List ℕ} → Stopped k t ls x → Stopped k t (ls ++ ms) x
stopped_more k (l ∷ ls) ms (at_this n h) = at_this n h
stopped_more k (l ∷ ls) ms (at_later h r) = at_later h (stopped_more (suc k) ls ms r)
stopped_more {t = t} k [] ms x3 = elim x3 [ ]

text_short : (f : Frame) → 2 + total (widths_for (type_of f)) ≤ longest
unfolding total widths_for
text_short (frame.Stops n) = omega arith
text_short (frame.Row from to start travel owner) = omega arith
text_short (frame.Pivot stop reading) = omega arith
text_short (frame.Ask asker a w) = omega arith

-- a line longer than any frame is none
pub too_long : (t : Known) (line : List ℕ) → longest < length line → NoFrame t line
too_long t line h t' text s = omega (arith, text_short s.frame, text_length s.frame line s.is_text)

module _ {s s' : Stand} {p q : List ℕ} {x y : List ℕ} where
  -- a piece, and then another
  pub went_went : {s'' : Stand} → Went s p s' x → Went s' q s'' y → Went s (p ++ q) s'' (x ++ y)
  went_went {s''} g h =
      let lines : ended s.begun (p ++ q) ≡ ended s.begun p ++ ended s'.begun q = rw g.begun (ended_append s.begun p q) in
      let rest : left s.begun (p ++ q) ≡ left s'.begun q = rw g.begun (left_append s.begun p q) in
      record {
        line = h.line ∙ rw (lines, length-append (ended s.begun p) (ended s'.begun q)) (omega (arith, g.line));
        taken = rw lines (taken_append (ended s.begun p) (ended s'.begun q) g.taken h.taken);
        begun = h.begun ∙ sym rest;
        short = rw rest h.short;
      }

  -- a piece, and then one that ends the run
  pub went_halts : Went s p s' x → Halts s' q y → Halts s (p ++ q) (x ++ y)
  went_halts g h = go h
    where
      lines : ended s.begun (p ++ q) ≡ ended s.begun p ++ ended s'.begun q
      lines = rw g.begun (ended_append s.begun p q)

      rest : left s.begun (p ++ q) ≡ left s'.begun q
      rest = rw g.begun (left_append s.begun p q)

      go : Halts s' q y → Halts s (p ++ q) (x ++ y)
      go (by_line h) = by_line (rw lines (taken_stopped s.line (ended s.begun p) (ended s'.begun q) g.taken (rw g.line at h)))
      go (by_length {t} {before = b} {name = m} r l n e) =
          by_length {t = t} {before = x ++ b} {name = m} (rw lines (taken_append (ended s.begun p) (ended s'.begun q) g.taken r)) (rw rest l)
          (let k : s.line + length (ended s.begun (p ++ q)) ≡ s'.line + length (ended s'.begun q) = rw (lines, length-append (ended s.begun p) (ended s'.begun q)) (omega (arith, g.line)) in rw k n)
          (ap (λ (z : List ℕ). x ++ z) e ∙ sym (append_assoc x b m))

-- a line that is longer than any frame stays so, whether the next piece ends it or not
long_still : (l q : List ℕ) → longest < length l
    → ((ended l q ≡ []) × (longest < length (left l q))) ⊎ ((m : List ℕ) × (ms : List (List ℕ)) × (ended l q ≡ m ∷ ms) × (longest < length m))
unfolding ended left
long_still l [] h = inl (refl, h)
long_still l (b ∷ bs) h = go (eqb b newline) (long_still (l ++ (b ∷ [])) bs (simp length-append (omega arith)))
  where
    go : (e : Bool)
        → ((ended (l ++ (b ∷ [])) bs ≡ []) × (longest < length (left (l ++ (b ∷ [])) bs))) ⊎ ((m : List ℕ) × (ms : List (List ℕ)) × (ended (l ++ (b ∷ [])) bs ≡ m ∷ ms) × (longest < length m))
        → ((cond e (l ∷ ended [] bs) (ended (l ++ (b ∷ [])) bs) ≡ []) × (longest < length (cond e (left [] bs) (left (l ++ (b ∷ [])) bs))))
        ⊎ ((m : List ℕ) × (ms : List (List ℕ)) × (cond e (l ∷ ended [] bs) (ended (l ++ (b ∷ [])) bs) ≡ m ∷ ms) × (longest < length m))
    go true g = inr (l, ended [] bs, refl, h)
    go false g = g

-- a run that ended is not changed by what comes after
pub halts_more : {s : Stand} {p x : List ℕ} (q : List ℕ) → Halts s p x → Halts s (p ++ q) x
halts_more {s} {p} {x} q (by_line h) = by_line (rw (ended_append s.begun p q) (stopped_more s.line (ended s.begun p) (ended (left s.begun p) q) h))
halts_more {s} {p} {x} q (by_length {t} {before = b} {name = m} r l n e) = go (long_still (left s.begun p) q l)
  where
    go : ((ended (left s.begun p) q ≡ []) × (longest < length (left (left s.begun p) q)))
        ⊎ ((m : List ℕ) × (ms : List (List ℕ)) × (ended (left s.begun p) q ≡ m ∷ ms) × (longest < length m)) → Halts s (p ++ q) x
    go (inl (f, g)) =
        let lines : ended s.begun (p ++ q) ≡ ended s.begun p = ended_append s.begun p q ∙ rw (f, append-nil (ended s.begun p)) in
        by_length {t = t} {before = b} {name = m} (rw lines r) (rw (left_append s.begun p q) g) (rw lines n) e
    go (inr f) =
        let lines : ended s.begun (p ++ q) ≡ ended s.begun p ++ (f.0 ∷ f.1) = ended_append s.begun p q ∙ ap (λ (ls : List (List ℕ)). ended s.begun p ++ ls) f.2 in
        by_line (rw (lines, e) (taken_stopped s.line (ended s.begun p) (f.0 ∷ f.1) r (at_this (too_long t f.0 f.3) n)))

-- the whole input: its pieces, and then its end
pub went_prints : {s : Stand} {input x y : List ℕ} → Went start input s x → Prints s.line s.known (last_line s.begun) y → Prints 1 nothing (lines_of input) (x ++ y)
went_prints {s} {input} {x} {y} g h = go h
  where
    lines : lines_of input ≡ ended [] input ++ last_line s.begun
    lines = ap (λ (l : List ℕ). ended [] input ++ last_line l) (sym g.begun)

    go : Prints s.line s.known (last_line s.begun) y → Prints 1 nothing (lines_of input) (x ++ y)
    go (to_end {t'} r) = to_end {t' = t'} (rw lines (taken_append (ended [] input) (last_line s.begun) g.taken r))
    go (to_stop r) = to_stop (rw lines (taken_stopped 1 (ended [] input) (last_line s.begun) g.taken (rw g.line at r)))

-- or its pieces up to one that ends the run, however the input goes on
pub halts_prints : {input x : List ℕ} → Halts start input x → Prints 1 nothing (lines_of input) x
unfolding last_line
halts_prints {input} (by_line h) = to_stop (stopped_more 1 (ended [] input) (last_line (left [] input)) h)
halts_prints {input} (by_length {t} r l n e) = to_stop (rw e (taken_stopped 1 (ended [] input) (last_line (left [] input)) r (whole (left [] input) l n)))
  where
    whole : {k : ℕ} {m : List ℕ} (line : List ℕ) → longest < length line → LineOf (frame_words k) m → Stopped k t (last_line line) m
    whole [] h n = absurd (omega arith)
    whole (b ∷ bs) h n = at_this (too_long t (b ∷ bs) h) n
