-- What the first checks leave: the asker's own rows, which the rest of a call is over.
use Prim.Native.Nat.{ℕ, ◌*◌, ◌%◌, ◌≤◌}
use native.Mathlib.Omega.{arith}
use native.Mathlib.Decide.{ℕ_discrete, dec_le}
use mathlib.Core.Path.{◌≡◌, refl, sym, ap, ◌∙◌, subst}
use mathlib.Core.Logic.{inl, inr}
use mathlib.Core.List.{List}
use lib.ListN.{length, take}
use Rattle.rules.specs.Clock.{horizon}
use Rattle.rules.specs.Day.{most_stops, most_rows, row_width, rows_of, Faulty, Ask, asker's_rows}
use Rattle.rules.specs.Struck.{numbers, numbers_of}
use Rattle.rules.specs.Lent.{Copied}
use Rattle.rules.specs.Table.{check_1, check_2, Clear}
use Rattle.rules.proofs.Laws.Good.{none_if_no_least, faultless_good}
use Rattle.rules.proofs.Laws.Rows.{length_rows, length_numbers, rows_of_numbers}
use Rattle.rules.proofs.Laws.Isolated.{own_shorter}
use Rattle.rules.proofs.Laws.Written.{copied_front}
use Rattle.figures.specs.Parts.{first_checks, Ready}
use Rattle.figures.proofs.Judging.{few_rows}

-- a list that passes 1 and 2 has at most 10,240 numbers
pub list_fits : (list : List ℕ) → ((place : ℕ) → (check_1 list).given place → ⊥) → ((place : ℕ) → (check_2 list).given place → ⊥) → length list ≤ most_rows * row_width
list_fits list whole few = go (ℕ_discrete (length list % row_width) 0)
  where
    go : Dec (length list % row_width ≡ 0) → length list ≤ most_rows * row_width
    go (yes e) = omega (arith, few_rows list few)
    go (no e) = absurd (whole 0 (refl, e))

pub own_few : (q : Ask) → ((place : ℕ) → (check_2 q.list).given place → ⊥) → length (asker's_rows q) ≤ most_rows
own_few q few = omega (arith, own_shorter q.asker (rows_of q.list), length_rows q.list, few_rows q.list few)

pub ready : (q : Ask) → Clear (first_checks q) → Ready q.n q.A q.W (numbers_of (asker's_rows q))
ready q c =
    record {
      good = rw (rows_of_numbers (asker's_rows q)) (faultless_good q.n (asker's_rows q) (none_if_no_least (Faulty q.n (asker's_rows q)) c.1.1.1.1.1.0));
      some_stop = stops (dec_le 1 q.n);
      few_stops = most (dec_le q.n most_stops);
      few = omega (arith, own_few q c.1.0, length_numbers (asker's_rows q));
      in_order = order (dec_le q.A q.W);
      in_day = day (dec_le q.W horizon);
    }
  where
    stops : Dec (1 ≤ q.n) → 1 ≤ q.n
    stops (yes l) = l
    stops (no l) = absurd (c.1.1.0 0 (refl, inl (omega arith)))

    most : Dec (q.n ≤ most_stops) → q.n ≤ most_stops
    most (yes l) = l
    most (no l) = absurd (c.1.1.0 0 (refl, inr (omega arith)))

    order : Dec (q.A ≤ q.W) → q.A ≤ q.W
    order (yes l) = l
    order (no l) = absurd (c.1.1.1.1.0 0 (refl, inl (omega arith)))

    day : Dec (q.W ≤ horizon) → q.W ≤ horizon
    day (yes l) = l
    day (no l) = absurd (c.1.1.1.1.0 0 (refl, inr (omega arith)))

-- the front of the room, which holds the asker's rows
module _ (q : Ask) (few : (place : ℕ) → (check_2 q.list).given place → ⊥) (old : List ℕ) (k : ℕ) (new : List ℕ) (copied : Copied row_width numbers (asker's_rows q) old k new) where
  pub rows_few : k ≤ most_rows
  rows_few = omega (arith, copied.number, own_few q few)

  front : take (k * row_width) new ≡ numbers_of (asker's_rows q)
  front = copied_front row_width numbers (λ r. refl) copied (k * row_width) refl

  pub front_rows : rows_of (take (k * row_width) new) ≡ asker's_rows q
  front_rows = ap rows_of front ∙ rows_of_numbers (asker's_rows q)

  pub front_ready : Clear (first_checks q) → Ready q.n q.A q.W (take (k * row_width) new)
  front_ready clear = subst (Ready q.n q.A q.W) (sym front) (ready q clear)
