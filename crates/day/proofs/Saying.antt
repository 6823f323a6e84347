-- The scan for the first row of which something is said: its loop, and what it finds.
use Prim.Native.Nat.{ℕ, zero, suc, ◌+◌, ◌-◌, ◌≤◌, ◌<◌}
use native.Mathlib.Omega.{arith}
use mathlib.Core.Path.{◌≡◌, refl, sym}
use mathlib.Core.Logic.{◌⊎◌, inl, inr}
use mathlib.Core.List.{List, [], ◌∷◌}
use mathlib.Core.Option.{Option, none, some}
use Rattle.rules.specs.Words.{At, at_first, at_later, things_from}
use Rattle.rules.specs.Day.{Row, row_at}
use Rattle.rules.proofs.Laws.Good.{at_below}
use Rattle.rules.proofs.Laws.Written.{things_more, things_end}
use Rattle.day.specs.Verdicts.{Said, Says, first_said, said_or}

said_nothing : (o : Option ℕ) (place : ℕ) → none ≡ said_or o place none → o ≡ none
said_nothing none place e = refl
said_nothing (some k) place e = let z : ◌≡◌ {A = ℕ} 0 1 = cc in absurd (omega arith)

said_something : (o : Option ℕ) (place : ℕ) (x : Said) (rest : Option Said) → some x ≡ said_or o place none → said_or o place rest ≡ some x
said_something none place x rest e = let z : ◌≡◌ {A = ℕ} 0 1 = cc in absurd (omega arith)
said_something (some k) place x rest e = sym e

module _ (says : Says) (list : List ℕ) (m i last : ℕ) where
  pub said_next : (r : Row) → i < m → r ≡ row_at list i → none ≡ said_or (says last r) i none
      → first_said says last i (things_from (row_at list) (m - i) i) ≡ first_said says r.start (i + 1) (things_from (row_at list) (m - (i + 1)) (i + 1))
  unfolding first_said
  said_next r h e s = rw (things_more (row_at list) m i h, e, rw e at (said_nothing (says last r) i s))

  pub said_found : (r : Row) (x : Said) → i < m → r ≡ row_at list i → some x ≡ said_or (says last r) i none
      → first_said says last i (things_from (row_at list) (m - i) i) ≡ some x
  unfolding first_said
  said_found r x h e s = rw (things_more (row_at list) m i h) (said_something (says last (row_at list i)) i x _ (rw e at s))

  pub said_end : m ≤ i → first_said says last i (things_from (row_at list) (m - i) i) ≡ none
  unfolding first_said
  said_end h = rw (things_end (row_at list) m i h)

-- when the row before row i started; `last` before the first
unfoldable pub start_before : (last : ℕ) → List Row → (i : ℕ) → ℕ
start_before last rs zero = last
start_before last [] (suc i) = last
start_before last (r ∷ rs) (suc i) = start_before r.start rs i

-- of row i the number k is said
pub record SaidAt (says : Says) (last : ℕ) (rs : List Row) (i k : ℕ) : Type 0 where
  pub row : Row
  pub at : At rs i row
  pub said : says (start_before last rs i) row ≡ some k

-- and of no row before it
pub record FirstSaidAt (says : Says) (last : ℕ) (rs : List Row) (i k : ℕ) : Type 0 where
  pub here : SaidAt says last rs i k
  pub first : (j l : ℕ) → SaidAt says last rs j l → i ≤ j

abbrev pub Finds : (says : Says) (last place : ℕ) → List Row → Option Said → Type 0
Finds says last place rs none = (i k : ℕ) → SaidAt says last rs i k → ⊥
Finds says last place rs (some x) = (i : ℕ) × (x.place ≡ place + i) × FirstSaidAt says last rs i x.number

module _ (says : Says) where
  said_cases : {last k i : ℕ} {r q : Row} {rs : List Row} → At (r ∷ rs) i q → says (start_before last (r ∷ rs) i) q ≡ some k
      → ((i ≡ 0) × (says last r ≡ some k)) ⊎ ((j : ℕ) × (i ≡ suc j) × SaidAt says r.start rs j k)
  unfolding start_before
  said_cases at_first e = inl (refl, e)
  said_cases {q = q} (at_later {i = j} a) e = inr (j, refl, record { row = q; at = a; said = e })

  said_later : {last i k : ℕ} {r : Row} {rs : List Row} → SaidAt says r.start rs i k → SaidAt says last (r ∷ rs) (suc i) k
  unfolding start_before
  said_later s = record { row = s.row; at = at_later s.at; said = s.said }

  pub first_said_finds : (last place : ℕ) (rs : List Row) → Finds says last place rs (first_said says last place rs)
  unfolding first_said start_before
  first_said_finds last place [] = λ i k s. omega (arith, at_below s.at)
  first_said_finds last place (r ∷ rs) = go (says last r) refl (first_said says r.start (place + 1) rs) (first_said_finds r.start (place + 1) rs)
    where
      later : says last r ≡ none → (i k : ℕ) → SaidAt says last (r ∷ rs) i k → (j : ℕ) × (i ≡ suc j) × SaidAt says r.start rs j k
      later e i k s = elim (said_cases s.at s.said) [ inl x ↦ (let z : ◌≡◌ {A = ℕ} 0 1 = cc (x.1, e) in absurd (omega arith)) | inr y ↦ y ]

      go : (o : Option ℕ) → says last r ≡ o → (rest : Option Said) → Finds says r.start (place + 1) rs rest → Finds says last place (r ∷ rs) (said_or o place rest)
      go (some k) e rest h = (0, omega arith, record { here = record { row = r; at = at_first; said = e }; first = λ j l s. omega arith })
      go none e none h = λ i k s. let t = later e i k s in h t.0 k t.2
      go none e (some x) h = (suc h.0, omega arith, record { here = said_later h.2.here; first = λ j l s. let t = later e j l s in omega (arith, h.2.first t.0 l t.2) })
