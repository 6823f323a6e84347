-- Every line has an outcome that the promise allows.
use Rattle.std.specs.Prelude.{ℕ, zero, suc, ◌+◌, ◌*◌, ◌≤◌, ◌<◌, ◌≡◌, Option, None, List, [], ◌∷◌, length}
use Rattle.std.proofs.Math.Decide.{dec_le, ℕ_discrete}
use Rattle.std.proofs.Common.{add-one, arith}
use Rattle.std.proofs.lemmas.List.Elements.{All-nil, All-cons, All-head, All-tail}
use Rattle.frames.specs.declared.frame.Frame.{Frame}
use Rattle.frames.specs.Text.{ReadPromise}
use Rattle.frames.specs.Parts.{IsDigit, AllDigits, NumberAt}
use Rattle.frames.proofs.Laws.Bytes.{figure, capital, letter, ranges}
use Rattle.frames.proofs.Laws.Places.{number_none, number_more}
use Rattle.frames.proofs.Laws.Outcomes.{reads_stops, reads_row, reads_pivot, reads_ask, too_short, no_digits, no_type}

decide_digit : (b : ℕ) → Dec (IsDigit b)
decide_digit b = go (dec_le 48 b) (dec_le b 57) (dec_le 65 b) (dec_le b 70) (dec_le 97 b) (dec_le b 102)
  where
    last : Dec (97 ≤ b) → Dec (b ≤ 102) → 70 < b → Dec (IsDigit b)
    last (no n) s h = no (λ d. n ((ranges b d).third h))
    last (yes l) (no n) h = no (λ d. n (ranges b d).last)
    last (yes l) (yes m) h = yes (_, letter b l m)

    go : Dec (48 ≤ b) → Dec (b ≤ 57) → Dec (65 ≤ b) → Dec (b ≤ 70) → Dec (97 ≤ b) → Dec (b ≤ 102) → Dec (IsDigit b)
    go (no n) p q r s t = no (λ d. n (ranges b d).first)
    go (yes l) (yes m) q r s t = yes (_, figure b l m)
    go (yes l) (no m) (no n) r s t = no (λ d. n ((ranges b d).second (omega arith)))
    go (yes l) (no m) (yes n) (yes o) s t = yes (_, capital b n o)
    go (yes l) (no m) (yes n) (no o) s t = last s t (omega arith)

decide_digits : (line : List ℕ) → Dec (AllDigits line)
decide_digits [] = yes (All-nil IsDigit)
decide_digits (b ∷ bs) = go (decide_digit b) (decide_digits bs)
  where
    go : Dec (IsDigit b) → Dec (AllDigits bs) → Dec (AllDigits (b ∷ bs))
    go (no n) r = no (λ h. n (All-head IsDigit b bs h))
    go (yes d) (no n) = no (λ h. n (All-tail IsDigit b bs h))
    go (yes d) (yes ds) = yes (All-cons IsDigit b bs d ds)

module _ (line : List ℕ) (all : AllDigits line) where
  number : (at k : ℕ) → at + k ≤ length line → (x : ℕ) × NumberAt line at k x
  number at zero h = (0, number_none line at)
  number at (suc k) h =
      let n = number at k (omega arith) in
      let d = all (at + k) 0 (omega arith) in
      (n.0 * 16 + d.0, rw (add-one k) at (number_more line at k n.0 d.0 (omega arith) n.1 d.1))

  abbrev Outcome : Type 0
  Outcome = (r : Option Frame) × ReadPromise line r

  stops : {type : ℕ} → NumberAt line 0 2 type → type ≡ 1 → length line ≡ 6 → Outcome
  stops t k e = let n = number 2 4 (omega arith) in (_, reads_stops line _ t k e n.1)

  row : {type : ℕ} → NumberAt line 0 2 type → type ≡ 2 → length line ≡ 28 → Outcome
  row t k e =
      let from = number 2 4 (omega arith) in
      let to = number 6 4 (omega arith) in
      let start = number 10 8 (omega arith) in
      let travel = number 18 8 (omega arith) in
      let owner = number 26 2 (omega arith) in
      (_, reads_row line _ _ _ _ _ t k e from.1 to.1 start.1 travel.1 owner.1)

  pivot : {type : ℕ} → NumberAt line 0 2 type → type ≡ 3 → length line ≡ 14 → Outcome
  pivot t k e =
      let stop = number 2 4 (omega arith) in
      let reading = number 6 8 (omega arith) in
      (_, reads_pivot line _ _ t k e stop.1 reading.1)

  ask : {type : ℕ} → NumberAt line 0 2 type → type ≡ 4 → length line ≡ 20 → Outcome
  ask t k e =
      let asker = number 2 2 (omega arith) in
      let a = number 4 8 (omega arith) in
      let w = number 12 8 (omega arith) in
      (_, reads_ask line _ _ _ t k e asker.1 a.1 w.1)

  -- whether the type and the length are two given ones
  is_shape : (type k m : ℕ) → Dec ((type ≡ k) × (length line ≡ m))
  is_shape type k m = go (ℕ_discrete type k) (ℕ_discrete (length line) m)
    where
      go : Dec (type ≡ k) → Dec (length line ≡ m) → Dec ((type ≡ k) × (length line ≡ m))
      go (no n) q = no (λ h. n h.0)
      go (yes e) (no n) = no (λ h. n h.1)
      go (yes e) (yes f) = yes (e, f)

  by_shape : (type : ℕ) → NumberAt line 0 2 type
      → Dec ((type ≡ 1) × (length line ≡ 6)) → Dec ((type ≡ 2) × (length line ≡ 28)) → Dec ((type ≡ 3) × (length line ≡ 14)) → Dec ((type ≡ 4) × (length line ≡ 20))
      → Outcome
  by_shape type n (yes e) q r s = stops n e.0 e.1
  by_shape type n (no a) (yes e) r s = row n e.0 e.1
  by_shape type n (no a) (no b) (yes e) s = pivot n e.0 e.1
  by_shape type n (no a) (no b) (no c) (yes e) = ask n e.0 e.1
  by_shape type n (no a) (no b) (no c) (no d) = (None, no_type line type n (λ p q. a (p, q)) (λ p q. b (p, q)) (λ p q. c (p, q)) (λ p q. d (p, q)))

pub read_exists : (line : List ℕ) → (r : Option Frame) × ReadPromise line r
read_exists line = go (dec_le 2 (length line)) (decide_digits line)
  where
    go : Dec (2 ≤ length line) → Dec (AllDigits line) → (r : Option Frame) × ReadPromise line r
    go (no n) d = (None, too_short line (omega arith))
    go (yes h) (no n) = (None, no_digits line n)
    go (yes h) (yes all) =
        let t = number line all 0 2 (omega arith) in
        by_shape line all t.0 t.1 (is_shape line all t.0 1 6) (is_shape line all t.0 2 28) (is_shape line all t.0 3 14) (is_shape line all t.0 4 20)
