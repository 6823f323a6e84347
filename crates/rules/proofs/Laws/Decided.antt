-- Every check is decided: for any input the table is clear, or it refuses with a number and a place.
use Rattle.std.specs.Prelude.{ℕ, zero, suc, ◌+◌, ◌%◌, ◌≤◌, ◌<◌, ◌≡◌, refl, ◌⊎◌, length}
use Rattle.std.proofs.Common.{ap, subst, inl, inr, arith}
use mathlib.Core.List.{List, [], ◌∷◌, Memᴰ}
use Rattle.std.proofs.Math.Decide.{ℕ_discrete, dec_le, dec_lt}
use Rattle.rules.specs.Words.{Least, At, at_first, at_later, Any, any_here, any_later}
use Rattle.rules.specs.Clock.{horizon}
use Rattle.rules.specs.Day.{Row, rows_of, Sound, Faulty, unsound, falls, Overowned, overowned, Ask, asker's_rows}
use Rattle.rules.specs.Pivots.{Pivot, pivots_of, Astray, no_stop, too_early, too_late}
use Rattle.rules.specs.Table.{Check, when, check_at_first, Takes, FirstWrong, table, office_table, Clear, Refuses}
use Rattle.rules.proofs.Laws.Single.{least_single}
use Rattle.rules.proofs.Laws.Good.{none_if_no_least, faultless_good, decide_sound, at_same, at_below}
use Rattle.rules.specs.Faultless.{Good, Sits}
use Rattle.rules.proofs.Laws.Joined.{none_astray_sits, up_to10, clear_without_12, with_12}

abbrev pub Decided : Check → Type 0
Decided c = ((p : ℕ) × c.given p) ⊎ ((p : ℕ) → c.given p → ⊥)

abbrev pub AllDecided : List Check → Type 0
AllDecided [] = Unit {0}
AllDecided (c ∷ cs) = Decided c × AllDecided cs

abbrev pub Settled : List Check → Type 0
Settled cs = Clear cs ⊎ ((k : ℕ) × (p : ℕ) × Refuses cs k p)

pub settle : (cs : List Check) → AllDecided cs → Settled cs
settle [] d = inl tt
settle (c ∷ cs) d = go d.0 (settle cs d.1)
  where
    go : Decided c → Settled cs → Settled (c ∷ cs)
    go (inl x) r = inr (c.number, x.0, inl (refl, x.1))
    go (inr x) (inl y) = inl (x, y)
    go (inr x) (inr y) = inr (y.0, y.1, inr (x, y.2))

either : {P Q : Type 0} → Dec P → Dec Q → Dec (P ⊎ Q)
either (yes p) q = yes (inl p)
either (no p) (yes q) = yes (inr q)
either (no p) (no q) = no (λ x. elim x [ inl a ↦ p a | inr b ↦ q b ])

neither : {P : Type 0} → Dec P → Dec (P → ⊥)
neither (yes p) = no (λ f. f p)
neither (no p) = yes p

any_length : {A : Type 0} {P : A → Type 0} {xs : List A} → Any P xs → 0 < length xs
any_length (any_here p) = omega arith
any_length (any_later a) = omega arith

any_decided : {A : Type 0} (P : A → Type 0) → ((x : A) → Dec (P x)) → (xs : List A) → Dec (Any P xs)
any_decided P d [] = no (λ a. omega (arith, any_length a))
any_decided P d (x ∷ xs) = go (d x) (any_decided P d xs)
  where
    split : (P x → ⊥) → (Any P xs → ⊥) → Any P (x ∷ xs) → ⊥
    split a b (any_here p) = a p
    split a b (any_later p) = b p

    go : Dec (P x) → Dec (Any P xs) → Dec (Any P (x ∷ xs))
    go (yes p) r = yes (any_here p)
    go (no p) (yes r) = yes (any_later r)
    go (no p) (no r) = no (split p r)

when_decided : (k : ℕ) {P : Type 0} → Dec P → Decided (when k P)
when_decided k (yes p) = inl (0, (refl, p))
when_decided k (no p) = inr (λ place x. p x.1)

-- the first place, where P is decided and holds of no place from k on
least_decided : (P : ℕ → Type 0) → ((i : ℕ) → Dec (P i)) → (k : ℕ) → ((p : ℕ) × Least P p) ⊎ ((i : ℕ) → i < k → P i → ⊥)
least_decided P d zero = inr (λ i l p. omega arith)
least_decided P d (suc k) = go (least_decided P d k) (d k)
  where
    go : ((p : ℕ) × Least P p) ⊎ ((i : ℕ) → i < k → P i → ⊥) → Dec (P k) → ((p : ℕ) × Least P p) ⊎ ((i : ℕ) → i < suc k → P i → ⊥)
    go (inl x) e = inl x
    go (inr x) (yes e) = inl (k, record { holds = e; least = λ y p. above y p (dec_le k y) })
      where
        above : (y : ℕ) → P y → Dec (k ≤ y) → k ≤ y
        above y p (yes l) = l
        above y p (no l) = absurd (x y (omega arith) p)
    go (inr x) (no e) = inr (λ i l p. last i l p (ℕ_discrete i k))
      where
        last : (i : ℕ) → i < suc k → P i → Dec (i ≡ k) → ⊥
        last i l p (yes z) = e (subst P z p)
        last i l p (no z) = x i (omega arith) p

first_decided : (n : ℕ) (P : ℕ → Type 0) → ((i : ℕ) → Dec (P i)) → (k : ℕ) → ((i : ℕ) → P i → i < k) → Decided (check_at_first n P)
first_decided n P d k below = go (least_decided P d k)
  where
    go : ((p : ℕ) × Least P p) ⊎ ((i : ℕ) → i < k → P i → ⊥) → Decided (check_at_first n P)
    go (inl x) = inl x
    go (inr x) = inr (λ p l. x p (below p l.holds) l.holds)

tail_at : {A : Type 0} {x y : A} {xs : List A} {i j : ℕ} → j ≡ suc i → At (x ∷ xs) j y → At xs i y
tail_at e at_first = absurd (omega arith)
tail_at {i = i} e (at_later {i = k} a) = let same : k ≡ i = omega arith in rw same at a

lookup : {A : Type 0} (xs : List A) (i : ℕ) → ((x : A) × At xs i x) ⊎ ((x : A) → At xs i x → ⊥)
lookup [] i = inr (λ x a. omega (arith, at_below a))
lookup (x ∷ xs) zero = inl (x, at_first)
lookup {A} (x ∷ xs) (suc i) = go (lookup xs i)
  where
    go : ((y : A) × At xs i y) ⊎ ((y : A) → At xs i y → ⊥) → ((y : A) × At (x ∷ xs) (suc i) y) ⊎ ((y : A) → At (x ∷ xs) (suc i) y → ⊥)
    go (inl t) = inl (t.0, at_later t.1)
    go (inr t) = inr (λ y a. t y (tail_at refl a))

faulty_decided : (n : ℕ) (rs : List Row) (i : ℕ) → Dec (Faulty n rs i)
faulty_decided n rs i = go (lookup rs i)
  where
    nowhere : ((r : Row) → At rs i r → ⊥) → Faulty n rs i → ⊥
    nowhere h (unsound {r = r} a s) = h r a
    nowhere h (falls {r = r} a b e l) = h r b

    fine : (r : Row) → At rs i r → Sound n r → ((q : Row) (j : ℕ) → At rs j q → i ≡ j + 1 → r.start < q.start → ⊥) → Faulty n rs i → ⊥
    fine r a s h (unsound b t) = t (rw (at_same b a) s)
    fine r a s h (falls {q = q} {j = j} b c e l) = h q j b e (subst (λ (x : Row). x.start < q.start) (at_same c a) l)

    before : (r : Row) → At rs i r → Sound n r → (k : ℕ) → i ≡ k → Dec (Faulty n rs i)
    before r a s zero e = no (fine r a s (λ q j b f l. omega arith))
    before r a s (suc j) e = more (lookup rs j)
      where
        more : ((q : Row) × At rs j q) ⊎ ((q : Row) → At rs j q → ⊥) → Dec (Faulty n rs i)
        more (inr h) = no (fine r a s (λ q k b f l. let same : k ≡ j = omega arith in h q (rw same at b)))
        more (inl t) = last (dec_lt r.start t.0.start)
          where
            last : Dec (r.start < t.0.start) → Dec (Faulty n rs i)
            last (yes l) = yes (falls t.1 a (omega arith) l)
            last (no l) =
                no (fine r a s (λ q k b f m. let same : k ≡ j = omega arith in let c : At rs j q = rw same at b in l (subst (λ (x : Row). r.start < x.start) (at_same c t.1) m)))

    go : ((r : Row) × At rs i r) ⊎ ((r : Row) → At rs i r → ⊥) → Dec (Faulty n rs i)
    go (inr h) = no (nowhere h)
    go (inl t) = more (decide_sound n t.0)
      where
        more : Dec (Sound n t.0) → Dec (Faulty n rs i)
        more (no s) = yes (unsound t.1 s)
        more (yes s) = before t.0 t.1 s i refl

faulty_below : {n : ℕ} {rs : List Row} (i : ℕ) → Faulty n rs i → i < length rs
faulty_below i (unsound a s) = at_below a
faulty_below i (falls a b e l) = at_below b

astray_decided : (n A W : ℕ) (ps : List Pivot) (i : ℕ) → Dec (Astray n A W ps i)
astray_decided n A W ps i = go (lookup ps i)
  where
    nowhere : ((p : Pivot) → At ps i p → ⊥) → Astray n A W ps i → ⊥
    nowhere h (no_stop {p = p} a l) = h p a
    nowhere h (too_early {p = p} a l) = h p a
    nowhere h (too_late {p = p} a l) = h p a

    fine : (p : Pivot) → At ps i p → p.stop < n → A ≤ p.reading → p.reading ≤ W → Astray n A W ps i → ⊥
    fine p a x y z (no_stop b l) = omega (arith, ap (λ (q : Pivot). q.stop) (at_same a b))
    fine p a x y z (too_early b l) = omega (arith, ap (λ (q : Pivot). q.reading) (at_same a b))
    fine p a x y z (too_late b l) = omega (arith, ap (λ (q : Pivot). q.reading) (at_same a b))

    go : ((p : Pivot) × At ps i p) ⊎ ((p : Pivot) → At ps i p → ⊥) → Dec (Astray n A W ps i)
    go (inr h) = no (nowhere h)
    go (inl t) = more (dec_le n t.0.stop) (dec_lt t.0.reading A) (dec_lt W t.0.reading)
      where
        more : Dec (n ≤ t.0.stop) → Dec (t.0.reading < A) → Dec (W < t.0.reading) → Dec (Astray n A W ps i)
        more (yes l) b c = yes (no_stop t.1 l)
        more (no a) (yes l) c = yes (too_early t.1 l)
        more (no a) (no b) (yes l) = yes (too_late t.1 l)
        more (no a) (no b) (no c) = no (fine t.0 t.1 (omega arith) (omega arith) (omega arith))

astray_below : {n A W : ℕ} {ps : List Pivot} (i : ℕ) → Astray n A W ps i → i < length ps
astray_below i (no_stop a l) = at_below a
astray_below i (too_early a l) = at_below a
astray_below i (too_late a l) = at_below a

up_to_10_decided : (q : Ask) (t : Takes) → AllDecided (up_to10 q t)
up_to_10_decided q t = (
  when_decided 1 (neither (ℕ_discrete (length q.list % 5) 0)),
  (
    when_decided 2 (dec_lt 2048 (length (rows_of q.list))),
    (
      when_decided 3 (either (ℕ_discrete q.n 0) (dec_lt 256 q.n)),
      (
        when_decided 4 (dec_lt 255 q.asker),
        (
          when_decided 5 (either (dec_lt q.W q.A) (dec_lt horizon q.W)),
          (
            first_decided 6 (Faulty q.n (asker's_rows q)) (faulty_decided q.n (asker's_rows q)) (length (asker's_rows q)) faulty_below,
            (
              when_decided 7 (any_decided (λ stop. q.n ≤ stop) (λ stop. dec_le q.n stop) t.named),
              (
                when_decided 8 (either (neither (ℕ_discrete (length t.pivots % 2) 0)) (dec_lt 16 (length (pivots_of t.pivots)))),
                (
                  first_decided 9 (Astray q.n q.A q.W (pivots_of t.pivots)) (astray_decided q.n q.A q.W (pivots_of t.pivots)) (length (pivots_of t.pivots)) astray_below,
                  (
                    when_decided 10 (any_decided (λ room. room.has < room.wants) (λ room. dec_lt room.has room.wants) t.rooms),
                    tt,
                  ),
                ),
              ),
            ),
          ),
        ),
      ),
    ),
  ),
)

-- the first of the table that holds, if any
pub table_settled : (q : Ask) (t : Takes) → Settled (table q t)
table_settled q t = go (settle (up_to10 q t) (up_to_10_decided q t))
  where
    go : Settled (up_to10 q t) → Settled (table q t)
    go (inl x) = inl (clear_without_12 q t x)
    go (inr x) = inr (x.0, x.1, with_12 q t x.0 x.1 x.2)

overowned_decided : (rs : List Row) (i : ℕ) → Dec (Overowned rs i)
overowned_decided rs i = go (lookup rs i)
  where
    nowhere : ((r : Row) → At rs i r → ⊥) → Overowned rs i → ⊥
    nowhere h (overowned {r = r} a l) = h r a

    fine : (r : Row) → At rs i r → r.owner ≤ 255 → Overowned rs i → ⊥
    fine r a l (overowned b m) = omega (arith, ap (λ (x : Row). x.owner) (at_same a b))

    go : ((r : Row) × At rs i r) ⊎ ((r : Row) → At rs i r → ⊥) → Dec (Overowned rs i)
    go (inr h) = no (nowhere h)
    go (inl t) = more (dec_lt 255 t.0.owner)
      where
        more : Dec (255 < t.0.owner) → Dec (Overowned rs i)
        more (yes l) = yes (overowned t.1 l)
        more (no l) = no (fine t.0 t.1 (omega arith))

wrong_below : {n : ℕ} {rs : List Row} (i : ℕ) → Faulty n rs i ⊎ Overowned rs i → i < length rs
wrong_below i (inl f) = faulty_below i f
wrong_below i (inr (overowned a l)) = at_below a

wrong_decided : (k n : ℕ) (rs : List Row) (P : ℕ → Type 0) → ((i : ℕ) → Dec (P i)) → Decided (record { number = k; given = FirstWrong n rs P })
wrong_decided k n rs P d = go (least_decided (λ j. Faulty n rs j ⊎ Overowned rs j) (λ j. either (faulty_decided n rs j) (overowned_decided rs j)) (length rs))
  where
    go : ((p : ℕ) × Least (λ j. Faulty n rs j ⊎ Overowned rs j) p) ⊎ ((i : ℕ) → i < length rs → Faulty n rs i ⊎ Overowned rs i → ⊥)
        → Decided (record { number = k; given = FirstWrong n rs P })
    go (inr x) = inr (λ p w. x p (wrong_below p w.first.holds) w.first.holds)
    go (inl x) = more (d x.0)
      where
        more : Dec (P x.0) → Decided (record { number = k; given = FirstWrong n rs P })
        more (yes y) = inl (x.0, record { first = x.1; wrong = y })
        more (no y) = inr (λ p w. y (subst P (least_single w.first x.1) w.wrong))

pub office_settled : (list : List ℕ) (n : ℕ) → Settled (office_table list n)
office_settled list n =
    settle (office_table list n) (
      when_decided 1 (neither (ℕ_discrete (length list % 5) 0)),
      (
        when_decided 2 (dec_lt 2048 (length (rows_of list))),
        (
          when_decided 3 (either (ℕ_discrete n 0) (dec_lt 256 n)),
          (
            wrong_decided 6 n (rows_of list) (Faulty n (rows_of list)) (faulty_decided n (rows_of list)),
            (wrong_decided 11 n (rows_of list) (Overowned (rows_of list)) (overowned_decided (rows_of list)), tt),
          ),
        ),
      ),
    )

-- what a clear table says
pub record Accepted (q : Ask) (t : Takes) : Type 0 where
  pub good : Good q.n (asker's_rows q)
  pub some_stop : 1 ≤ q.n
  pub in_order : q.A ≤ q.W
  pub in_day : q.W ≤ horizon
  pub named_below : Any (λ stop. q.n ≤ stop) t.named → ⊥
  pub sit : (p : Pivot) → Memᴰ p (pivots_of t.pivots) → Sits q.n q.A q.W p
  pub roomy : Any (λ room. room.has < room.wants) t.rooms → ⊥

pub accepted : (q : Ask) (t : Takes) → Clear (table q t) → Accepted q t
accepted q t c =
    record {
      good = faultless_good q.n (asker's_rows q) (none_if_no_least (Faulty q.n (asker's_rows q)) c.1.1.1.1.1.0);
      some_stop = stops (dec_le 1 q.n);
      in_order = order (dec_le q.A q.W);
      in_day = day (dec_le q.W horizon);
      named_below = λ a. c.1.1.1.1.1.1.0 0 (refl, a);
      sit = none_astray_sits q.n q.A q.W (pivots_of t.pivots) (none_if_no_least (Astray q.n q.A q.W (pivots_of t.pivots)) c.1.1.1.1.1.1.1.1.0);
      roomy = λ a. c.1.1.1.1.1.1.1.1.1.0 0 (refl, a);
    }
  where
    stops : Dec (1 ≤ q.n) → 1 ≤ q.n
    stops (yes l) = l
    stops (no l) = absurd (c.1.1.0 0 (refl, inl (omega arith)))

    order : Dec (q.A ≤ q.W) → q.A ≤ q.W
    order (yes l) = l
    order (no l) = absurd (c.1.1.1.1.0 0 (refl, inl (omega arith)))

    day : Dec (q.W ≤ horizon) → q.W ≤ horizon
    day (yes l) = l
    day (no l) = absurd (c.1.1.1.1.0 0 (refl, inr (omega arith)))
