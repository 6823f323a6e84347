-- A line does one thing, an input has one output, and a piece leads to one outcome.
use Rattle.std.specs.Prelude.{ℕ, Option, Some, None, suc, ◌+◌, ◌≡◌, refl, List, [], ◌∷◌, length}
use Rattle.std.proofs.Common.{arith, sym, ◌∙◌, subst, ext_get_or}
use Rattle.figures.specs.declared.answers.Answer.{Answer}
use Rattle.figures.specs.Promises.{ask, PivotDiameterPromise}
use Rattle.figures.specs.Laws.Unique.{pivot_diameter_unique}
use Rattle.frames.specs.declared.frame.Frame.{Frame}
use Rattle.frames.specs.declared.frame.Frame.TheVariants as frame
use Rattle.frames.proofs.Laws.Unique.{text_unique}
use Rattle.printing.specs.Lines.{LineOf, header_words, words_of, frame_words}
use Rattle.printing.specs.Laws.Spelling.{line_single}
use Rattle.taking.specs.Known.{Known, Zeros, Answered, Does, stops, row, pivot, asks, Tells}
use Rattle.taking.specs.Stream.{ended, lines_of, Taken, no_line, one_line, Stopped, at_this, at_later, Prints, to_end, to_stop, Output}
use Rattle.taking.specs.Pieces.{Stand, Went, Halts, by_line, by_length}

pub zeros_single : {k : ℕ} {xs ys : List ℕ} → Zeros k xs → Zeros k ys → xs ≡ ys
zeros_single {xs = xs} {ys = ys} a b = ext_get_or 0 xs ys (a.long ∙ sym b.long) (λ i h. a.zeros i ∙ sym (b.zeros i))

some_same : {n m : ℕ} {o : Option ℕ} → o ≡ Some n → o ≡ Some m → n ≡ m
some_same e f = let g : ◌≡◌ {A = Option ℕ} _ _ = sym e ∙ f in cc

pub not_both : {n : ℕ} {o : Option ℕ} {P : Type 0} → o ≡ None → o ≡ Some n → P
not_both e f = absurd (subst shown (sym f ∙ e) tt)
  where
    shown : Option ℕ → Type 0
    shown None = ⊥
    shown (Some x) = Unit {0}

answered_single : (t : Known) (n asker A W : ℕ) (x y : List ℕ) → Answered t n asker A W x → Answered t n asker A W y → x ≡ y
answered_single t n asker A W x y a b =
    let z = zeros_single b.zeros a.zeros in
    let same : PivotDiameterPromise (ask t.rows n asker A W) t.pivots a.scratch b.answer b.scratch' =
    subst (λ (s : List ℕ). PivotDiameterPromise (ask t.rows n asker A W) t.pivots s b.answer b.scratch') z b.promised in
    let e = (pivot_diameter_unique (ask t.rows n asker A W) t.pivots a.scratch a.answer b.answer a.scratch' b.scratch' a.promised same).0 in
    line_single (words_of b.answer) x y (subst (λ (r : Answer). LineOf (words_of r) x) e a.line) b.line

does_single : (t : Known) (f : Frame) (t' t'' : Known) (x y : List ℕ) → Does t f t' x → Does t f t'' y → (t' ≡ t'') × (x ≡ y)
does_single t (frame.Stops n) _ _ _ _ (stops e) (stops f) = (refl, refl)
does_single t (frame.Row from to start travel owner) _ _ _ _ (row e h) (row f g) = (refl, refl)
does_single t (frame.Pivot stop reading) _ _ _ _ (pivot e h) (pivot f g) = (refl, refl)
does_single t (frame.Ask asker A W) _ _ x y (asks {n} e a) (asks {n = m} f b) =
    (refl, answered_single t n asker A W x y a (subst (λ (k : ℕ). Answered t k asker A W y) (some_same f e) b))

-- what a line does
pub tells_single : {t : Known} {line : List ℕ} {t' t'' : Known} {x y : List ℕ} → Tells t line t' x → Tells t line t'' y → (t' ≡ t'') × (x ≡ y)
tells_single {t} {line} {t'} {t''} {x} {y} a b =
    does_single t a.frame t' t'' x y a.does (subst (λ (f : Frame). Does t f t'' y) (text_unique line b.frame a.frame b.is_text a.is_text) b.does)

pub taken_single : {t : Known} (lines : List (List ℕ)) {t' t'' : Known} {x y : List ℕ} → Taken t lines t' x → Taken t lines t'' y → (t' ≡ t'') × (x ≡ y)
taken_single [] no_line no_line = (refl, refl)
taken_single (l ∷ ls) {t'} {t''} (one_line {text = a} {more = b} h r) (one_line {text = c} {more = d} g s) =
    let e = tells_single h g in
    let rest = taken_single ls {t' = t'} {t'' = t''} (subst (λ (k : Known). Taken k ls t' b) e.0 r) s in
    (rest.0, rw (e.1, rest.1))

pub stopped_single : (k : ℕ) {t : Known} (lines : List (List ℕ)) {x y : List ℕ} → Stopped k t lines x → Stopped k t lines y → x ≡ y
stopped_single k (l ∷ ls) {x} {y} (at_this n h) (at_this m g) = line_single (frame_words k) x y h g
stopped_single k (l ∷ ls) (at_this n h) (at_later g s) = absurd (n _ _ g)
stopped_single k (l ∷ ls) (at_later h r) (at_this m g) = absurd (m _ _ h)
stopped_single k (l ∷ ls) (at_later {text = a} {more = b} h r) (at_later {text = c} {more = d} g s) =
    let e = tells_single h g in
    let rest = stopped_single (suc k) ls (subst (λ (t : Known). Stopped (suc k) t ls b) e.0 r) s in
    rw (e.1, rest)
stopped_single k {t = t} [] {x = x} {y = y} x4 _ = elim x4 [ ]

pub taken_not_stopped : (k : ℕ) {t t' : Known} (lines : List (List ℕ)) {x y : List ℕ} → Taken t lines t' x → Stopped k t lines y → ⊥
taken_not_stopped k (l ∷ ls) (one_line h r) (at_this m g) = m _ _ h
taken_not_stopped k {t' = t'} (l ∷ ls) (one_line {more = b} h r) (at_later g s) =
    let e = tells_single h g in taken_not_stopped (suc k) {t' = t'} ls (subst (λ (t : Known). Taken t ls t' b) e.0 r) s
taken_not_stopped k {t = t} {t' = t'} [] {y = y} _ x5 = elim x5 [ ]

-- what an input prints
pub prints_single : (k : ℕ) {t : Known} (lines : List (List ℕ)) {x y : List ℕ} → Prints k t lines x → Prints k t lines y → x ≡ y
prints_single k lines (to_end r) (to_end s) = (taken_single lines r s).1
prints_single k lines (to_end r) (to_stop s) = absurd (taken_not_stopped k lines r s)
prints_single k lines (to_stop r) (to_end s) = absurd (taken_not_stopped k lines s r)
prints_single k lines (to_stop r) (to_stop s) = stopped_single k lines r s

pub output_unique : (input x y : List ℕ) → Output input x → Output input y → x ≡ y
output_unique input x y a b =
    let h = line_single header_words a.header b.header a.header_line b.header_line in
    let t = prints_single 1 (lines_of input) a.prints b.prints in
    a.whole ∙ rw (h, t) (sym b.whole)

-- what a piece leads to: it goes by with one text to one stand, or it ends the run with one text, and never both
module _ {s : Stand} {p : List ℕ} where
  pub went_single : {s' s'' : Stand} {x y : List ℕ} → Went s p s' x → Went s p s'' y → (s' ≡ s'') × (x ≡ y)
  went_single {s'} {s''} a b =
      let r = taken_single (ended s.begun p) a.taken b.taken in
      let line : s'.line ≡ s''.line = a.line ∙ sym b.line in
      let begun : s'.begun ≡ s''.begun = a.begun ∙ sym b.begun in
      (λ i. record { line = line i; known = r.0 i; begun = begun i }, r.1)

  pub halts_single : {x y : List ℕ} → Halts s p x → Halts s p y → x ≡ y
  halts_single (by_line a) (by_line b) = stopped_single s.line (ended s.begun p) a b
  halts_single (by_line a) (by_length r l n e) = absurd (taken_not_stopped s.line (ended s.begun p) r a)
  halts_single (by_length r l n e) (by_line b) = absurd (taken_not_stopped s.line (ended s.begun p) r b)
  halts_single (by_length {before = b} {name = m} r l n e) (by_length {before = c} {name = o} r' l' n' e') =
      let t = taken_single (ended s.begun p) r r' in
      let u = line_single (frame_words (s.line + length (ended s.begun p))) m o n n' in
      e ∙ rw (t.1, u) (sym e')

  pub went_not_halts : {s' : Stand} {x y : List ℕ} → Went s p s' x → Halts s p y → ⊥
  went_not_halts a (by_line b) = taken_not_stopped s.line (ended s.begun p) a.taken b
  went_not_halts a (by_length r l n e) = omega (arith, a.short)
