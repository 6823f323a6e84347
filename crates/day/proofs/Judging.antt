-- What the scans find is what the table says: 6 for the first faulty row; in the office check 6, and 11.
use Prim.Native.Nat.{ℕ, zero, suc, ◌+◌, ◌<◌}
use native.Mathlib.Omega.{arith}
use mathlib.Core.Path.{◌≡◌, refl, sym, subst}
use mathlib.Core.Logic.{◌⊎◌, inl, inr}
use mathlib.Core.Bool.{Bool, true, false, cond, ◌&&◌, and-false}
use mathlib.Core.List.{List, [], ◌∷◌}
use mathlib.Core.Option.{Option, none, some}
use Rattle.std.specs.Prelude.{Result, Ok, Err}
use lib.Dec.{leb, ltb}
use borrow.Author.Tests.{leb-false, lt-leb, ltb-true, lt-ltb}
use Rattle.rules.specs.Words.{Least, At, at_first, at_later}
use Rattle.rules.specs.Day.{last_client, Row, Faulty, unsound, falls, Overowned, overowned}
use Rattle.rules.specs.Table.{row_fault, Check, Clear, Refuses, check_6, office_rows, FirstWrong}
use Rattle.rules.proofs.Laws.Single.{least_single}
use Rattle.rules.proofs.Laws.Good.{at_same}
use Rattle.day.specs.declared.refusal.Refusal.{Refusal}
use Rattle.day.specs.declared.refusal.Refusal.TheVariants as refusal
use Rattle.day.specs.Rows.{soundb, rightb}
use Rattle.day.specs.Verdicts.{Said, first_said, fault_says, office_number, office_says, told, Judges}
use Rattle.day.proofs.Sounding.{not_both, sound_of, of_sound}
use Rattle.day.proofs.Saying.{start_before, SaidAt, Finds, first_said_finds}

-- the row before row i + 1 is row i
before_next : (last : ℕ) {j : ℕ} {q : Row} {rs : List Row} → At rs j q → start_before last rs (suc j) ≡ q.start
unfolding start_before
before_next last at_first = refl
before_next last (at_later {x = x} a) = before_next x.start a

before_first : (rs : List Row) → start_before 0 rs 0 ≡ 0
unfolding start_before
before_first rs = refl

preceding : {j : ℕ} {r : Row} {rs : List Row} → At rs (suc j) r → (q : Row) × At rs j q
preceding {j} a = go j a refl
  where
    go : {i : ℕ} (j : ℕ) {r : Row} {rs : List Row} → At rs i r → i ≡ suc j → (q : Row) × At rs j q
    go j at_first e = absurd (omega arith)
    go zero (at_later {x = x} a) e = (x, at_first)
    go (suc j) (at_later {i = i} a) e = let f : i ≡ suc j = omega arith in let t = go j a f in (t.0, at_later t.1)

-- a row that fails the test
pub record Wrong (n : ℕ) (rs : List Row) (i : ℕ) : Type 0 where
  pub row : Row
  pub at : At rs i row
  pub fails : rightb n (start_before 0 rs i) row ≡ false

pub faulty_wrong : {n : ℕ} {rs : List Row} {i : ℕ} → Faulty n rs i → Wrong n rs i
faulty_wrong {n} {rs} {i} (unsound {r = r} a s) = record { row = r; at = a; fails = go (soundb n r) refl }
  where
    go : (b : Bool) → soundb n r ≡ b → leb (start_before 0 rs i) r.start && b ≡ false
    go true e = absurd (s (sound_of n r e))
    go false e = and-false (leb (start_before 0 rs i) r.start)
faulty_wrong {n} {rs} (falls {q = q} {r = r} {j = j} a b e l) =
    let at : start_before 0 rs (suc j) ≡ q.start = before_next 0 a in
    let next : suc j ≡ j + 1 = omega arith in
    record { row = r; at = b; fails = rw (e, sym next, at, lt-leb q.start r.start l) }

pub wrong_faulty : {n : ℕ} {rs : List Row} {i : ℕ} → Wrong n rs i → Faulty n rs i
wrong_faulty {n} {rs} {i} w = go (leb (start_before 0 rs i) w.row.start) refl (soundb n w.row) refl
  where
    fall : w.row.start < start_before 0 rs i → (k : ℕ) → i ≡ k → Faulty n rs i
    fall l zero e = let z : start_before 0 rs i ≡ 0 = rw e (before_first rs) in absurd (omega arith)
    fall l (suc j) e =
        let t = preceding (subst (λ (k : ℕ). At rs k w.row) e w.at) in
        let s : start_before 0 rs i ≡ t.0.start = rw e (before_next 0 t.1) in
        falls t.1 w.at (omega arith) (omega arith)

    go : (a : Bool) → leb (start_before 0 rs i) w.row.start ≡ a → (b : Bool) → soundb n w.row ≡ b → Faulty n rs i
    go a e false f = unsound w.at (λ s. not_both (of_sound n w.row s) f)
    go true e true f = absurd (not_both (simp (e, f)) w.fails)
    go false e true f = fall (leb-false _ _ e) i refl

-- what is said of a row by the ask's check

fault_said_by : (b : Bool) (k : ℕ) → cond b none (some row_fault) ≡ some k → (b ≡ false) × (k ≡ row_fault)
fault_said_by true k e = let z : ◌≡◌ {A = ℕ} 0 1 = cc in absurd (omega arith)
fault_said_by false k e = (refl, cc)

said_faulty : {n : ℕ} {rs : List Row} {i k : ℕ} → SaidAt (fault_says n) 0 rs i k → Faulty n rs i × (k ≡ row_fault)
said_faulty {n} {rs} {i} {k} s =
    let t = fault_said_by (rightb n (start_before 0 rs i) s.row) k s.said in (wrong_faulty (record { row = s.row; at = s.at; fails = t.0 }), t.1)

faulty_said : {n : ℕ} {rs : List Row} {i : ℕ} → Faulty n rs i → SaidAt (fault_says n) 0 rs i row_fault
faulty_said f = let w = faulty_wrong f in record { row = w.row; at = w.at; said = rw w.fails }

-- what is said is right
abbrev JudgesSaid : List Check → Option Said → Type 0
JudgesSaid cs none = Clear cs
JudgesSaid cs (some x) = Refuses cs x.number x.place

judges_told : (cs : List Check) (o : Option Said) (v : Result (Unit {0}) Refusal) → told v ≡ o → JudgesSaid cs o → Judges cs v
judges_told cs o v e h = go v (subst (JudgesSaid cs) (sym e) h)
  where
    go : (v : Result (Unit {0}) Refusal) → JudgesSaid cs (told v) → Judges cs v
    go (Ok x) k = k
    go (Err r) k = k

pub fault_judges : (n : ℕ) (rs : List Row) (v : Result (Unit {0}) Refusal) → told v ≡ first_said (fault_says n) 0 0 rs → Judges (check_6 n rs ∷ []) v
fault_judges n rs v e = judges_told (check_6 n rs ∷ []) _ v e (go (first_said (fault_says n) 0 0 rs) (first_said_finds (fault_says n) 0 0 rs))
  where
    go : (o : Option Said) → Finds (fault_says n) 0 0 rs o → JudgesSaid (check_6 n rs ∷ []) o
    go none h = (λ place f. h place row_fault (faulty_said f.holds), tt)
    go (some x) h =
        let t = said_faulty h.2.here in
        let e : h.0 ≡ x.place = omega (arith, h.1) in
        inl (t.1, record { holds = rw e at t.0; least = λ j f. omega (arith, h.2.first j row_fault (faulty_said f)) })

-- and for each list there is a result that says it
pub fault_told : (n : ℕ) (rs : List Row) → (v : Result (Unit {0}) Refusal) × (told v ≡ first_said (fault_says n) 0 0 rs)
fault_told n rs = go (first_said (fault_says n) 0 0 rs) (first_said_finds (fault_says n) 0 0 rs)
  where
    go : (o : Option Said) → Finds (fault_says n) 0 0 rs o → (v : Result (Unit {0}) Refusal) × (told v ≡ o)
    go none h = (Ok tt, refl)
    go (some x) h = let e = (said_faulty h.2.here).1 in (Err (refusal.Row x.place), λ i. some (record { number = sym e i; place = x.place }))

-- and by the office check's

abbrev Off : (n : ℕ) (rs : List Row) (i : ℕ) → Type 0
Off n rs i = Faulty n rs i ⊎ Overowned rs i

-- 6 for a fault; 11 for an owner above 255 where there is no fault
pub data Noted (n : ℕ) (rs : List Row) (i : ℕ) : (k : ℕ) → Type 0 where
  noted_fault : {k : ℕ} → k ≡ row_fault → Faulty n rs i → Noted n rs i k
  noted_owner : {k : ℕ} → k ≡ 11 → Overowned rs i → (Faulty n rs i → ⊥) → Noted n rs i k

right_faultless : {n : ℕ} {rs : List Row} {i : ℕ} {r : Row} → At rs i r → rightb n (start_before 0 rs i) r ≡ true → Faulty n rs i → ⊥
right_faultless {n} {rs} {i} {r} a e f =
    let w = faulty_wrong f in not_both e (subst (λ (q : Row). rightb n (start_before 0 rs i) q ≡ false) (at_same w.at a) w.fails)

said_noted : {n : ℕ} {rs : List Row} {i k : ℕ} → SaidAt (office_says n) 0 rs i k → Noted n rs i k
said_noted {n} {rs} {i} {k} s = go (rightb n (start_before 0 rs i) s.row) refl (ltb last_client s.row.owner) refl s.said
  where
    go : (a : Bool) → rightb n (start_before 0 rs i) s.row ≡ a → (b : Bool) → ltb last_client s.row.owner ≡ b → office_number a b ≡ some k → Noted n rs i k
    go false e b f p = noted_fault {k = k} (cc) (wrong_faulty (record { row = s.row; at = s.at; fails = e }))
    go true e true f p = noted_owner {k = k} (cc) (overowned s.at (ltb-true _ _ f)) (right_faultless s.at e)
    go true e false f p = let z : ◌≡◌ {A = ℕ} 0 1 = cc in absurd (omega arith)

off_said : {n : ℕ} {rs : List Row} {i : ℕ} → Off n rs i → (k : ℕ) × SaidAt (office_says n) 0 rs i k
off_said {n} {rs} {i} (inl f) = let w = faulty_wrong f in (row_fault, record { row = w.row; at = w.at; said = rw w.fails })
off_said {n} {rs} {i} (inr (overowned {r = r} a l)) = go (rightb n (start_before 0 rs i) r) refl
  where
    go : (b : Bool) → rightb n (start_before 0 rs i) r ≡ b → (k : ℕ) × SaidAt (office_says n) 0 rs i k
    go true e = (11, record { row = r; at = a; said = rw (e, lt-ltb last_client r.owner l) })
    go false e = (row_fault, record { row = r; at = a; said = rw e })

noted_off : {n : ℕ} {rs : List Row} {i k : ℕ} → Noted n rs i k → Off n rs i
noted_off (noted_fault e f) = inl f
noted_off (noted_owner e o f) = inr o

pub office_judges : (n : ℕ) (rs : List Row) (v : Result (Unit {0}) Refusal) → told v ≡ first_said (office_says n) 0 0 rs → Judges (office_rows n rs) v
office_judges n rs v says = judges_told (office_rows n rs) _ v says (go (first_said (office_says n) 0 0 rs) (first_said_finds (office_says n) 0 0 rs))
  where
    never : Finds (office_says n) 0 0 rs none → (P : ℕ → Type 0) (place : ℕ) → FirstWrong n rs P place → ⊥
    never h P place w = let s = off_said w.first.holds in h place s.0 s.1

    go : (o : Option Said) → Finds (office_says n) 0 0 rs o → JudgesSaid (office_rows n rs) o
    go none h = (never h (Faulty n rs), (never h (Overowned rs), tt))
    go (some x) h = note (subst (λ (i : ℕ). Noted n rs i x.number) e (said_noted h.2.here))
      where
        e : h.0 ≡ x.place
        e = omega (arith, h.1)

        least : Noted n rs x.place x.number → Least (Off n rs) x.place
        least m = record { holds = noted_off m; least = λ j f. let s = off_said f in omega (arith, h.2.first j s.0 s.1) }

        note : Noted n rs x.place x.number → JudgesSaid (office_rows n rs) (some x)
        note (noted_fault k f) = inl (k, record { first = least (noted_fault k f); wrong = f })
        note (noted_owner k o no_fault) =
            inr (
              λ p w. no_fault (subst (Faulty n rs) (least_single w.first (least (noted_owner k o no_fault))) w.wrong),
              inl (k, record { first = least (noted_owner k o no_fault); wrong = o }),
            )

-- and for each list there is a result that says it
pub office_told : (n : ℕ) (rs : List Row) → (v : Result (Unit {0}) Refusal) × (told v ≡ first_said (office_says n) 0 0 rs)
office_told n rs = go (first_said (office_says n) 0 0 rs) (first_said_finds (office_says n) 0 0 rs)
  where
    note : {i : ℕ} (x : Said) → Noted n rs i x.number → (v : Result (Unit {0}) Refusal) × (told v ≡ some x)
    note x (noted_fault e f) = (Err (refusal.Row x.place), λ i. some (record { number = sym e i; place = x.place }))
    note x (noted_owner e o f) = (Err (refusal.Owner x.place), λ i. some (record { number = sym e i; place = x.place }))

    go : (o : Option Said) → Finds (office_says n) 0 0 rs o → (v : Result (Unit {0}) Refusal) × (told v ≡ o)
    go none h = (Ok tt, refl)
    go (some x) h = note x (said_noted h.2.here)
