-- The fold over the legs gives the bounds.
use Rattle.std.specs.Prelude.{ℕ, zero, suc, ◌+◌, ◌-◌, ◌≤◌, ◌<◌, max, ◌≡◌, refl, ◌≢◌, ◌↔◌, Bool, true, false, cond, ◌&&◌, List, [], ◌∷◌, ◌++◌, eqb, leb, length, get_or, set, replicate}
use Rattle.std.proofs.Common.{ap, sym, ◌∙◌, arith, length-set, get_or-set_same, get_or-set_other, eq-eqb, ne_eqb, leb-true}
use Rattle.std.proofs.Math.Option.{Option, none, some}
use Rattle.std.proofs.Math.Decide.{ℕ_discrete}
use Rattle.std.proofs.lemmas.List.{length-replicate}
use Rattle.std.proofs.Math.ListN.{get_or-append}
use Rattle.std.proofs.lemmas.Bool.{eqb-false}
use Rattle.rules.specs.Clock.{horizon}
use Rattle.rules.specs.Day.{Row, arrival}
use Rattle.rules.specs.Diameter.{LatestEntry}
use Rattle.rules.specs.Faultless.{Good, good_more}
use Rattle.passes.specs.Forward.{nowhere}
use Rattle.passes.specs.Legs.{leg_of, legs_of}
use Rattle.passes.specs.Days.{rows_day}
use Rattle.passes.proofs.Laws.Legs.{legs_good}
use Rattle.search.specs.Bounds.{later_of, entered, entered_by, bounds_of}
use Rattle.search.proofs.Laws.Greatest.{greater, greatest_of, not_none, some_same}
use Rattle.search.proofs.Laws.Order.{TellsBounds, tells_same}
use Rattle.search.proofs.Laws.Pairs.{entry_of, bound_of, bounds_told}

-- a number of the list as a bound, or none
abbrev pub if_bound : ℕ → Option ℕ
if_bound x = cond (eqb x nowhere) none (some x)

-- the bound that stands at v
unfoldable pub bound_at : List ℕ → ℕ → Option ℕ
bound_at bs v = if_bound (get_or bs v 0)

if_bound_is : (x b : ℕ) → if_bound x ≡ some b → (x ≡ b) × (b ≢ nowhere)
if_bound_is x b h = go (eqb x nowhere) refl h
  where
    go : (t : Bool) → eqb x nowhere ≡ t → cond t none (some x) ≡ some b → (x ≡ b) × (b ≢ nowhere)
    go true e k = not_none refl k
    go false e k = let same : x ≡ b = some_same refl k in (same, λ y. eqb-false x nowhere e (same ∙ y))

-- the number at v is v's bound exactly where it is not nowhere
pub bound_at_lem : (bs : List ℕ) (v b : ℕ) → (bound_at bs v ≡ some b) ↔ ((get_or bs v 0 ≡ b) × (b ≢ nowhere))
unfolding bound_at
bound_at_lem bs v b = (if_bound_is (get_or bs v 0) b, λ h. rw (h.0, ne_eqb b nowhere h.1))

-- what a leg gives to the bound of v
abbrev into : (v : ℕ) → Row → Option ℕ
into v q = cond (eqb q.to v) (some (arrival q)) none

pub greater_none : (x : Option ℕ) → greater x none ≡ x
greater_none none = refl
greater_none (some x) = refl

pub greater_assoc : (x y z : Option ℕ) → greater (greater x y) z ≡ greater x (greater y z)
greater_assoc none y z = refl
greater_assoc (some x) none z = refl
greater_assoc (some x) (some y) none = refl
greater_assoc (some x) (some y) (some z) = ap some (omega arith)

pub later_bound : (old a : ℕ) → a ≢ nowhere → if_bound (later_of old a) ≡ greater (if_bound old) (some a)
later_bound old a ne = go (eqb old nowhere) refl
  where
    go : (t : Bool) → eqb old nowhere ≡ t → if_bound (cond t a (max old a)) ≡ greater (cond t none (some old)) (some a)
    go true e = rw (ne_eqb a nowhere ne)
    go false e = rw (ne_eqb (max old a) nowhere (omega (arith, ne, eqb-false old nowhere e)))

entered_at : (bs : List ℕ) (q : Row) (v : ℕ) → q.to < length bs → arrival q ≢ nowhere → bound_at (entered bs q) v ≡ greater (bound_at bs v) (into v q)
unfolding bound_at entered
entered_at bs q v l ne = go (ℕ_discrete q.to v)
  where
    y : ℕ
    y = later_of (get_or bs q.to 0) (arrival q)

    go : Dec (q.to ≡ v) → if_bound (get_or (set bs q.to y) v 0) ≡ greater (if_bound (get_or bs v 0)) (into v q)
    go (yes e) = rw (eq-eqb q.to v e, ← e, get_or-set_same bs q.to y 0 l) (later_bound (get_or bs q.to 0) (arrival q) ne)
    go (no e) = rw (ne_eqb q.to v e, get_or-set_other bs q.to v y 0 (λ x. e (sym x)), greater_none (if_bound (get_or bs v 0)))

pub entered_length : (bs : List ℕ) (q : Row) → length (entered bs q) ≡ length bs
unfolding entered
entered_length bs q = simp length-set

entered_by_at : (n : ℕ) (qs : List Row) (bs : List ℕ) (v : ℕ) → Good n qs → length bs ≡ n → bound_at (entered_by qs bs) v ≡ greater (bound_at bs v) (greatest_of (into v) qs)
unfolding entered_by greatest_of
entered_by_at n [] bs v g e = sym (greater_none (bound_at bs v))
entered_by_at n (q ∷ qs) bs v (good_more s up g) e =
    entered_by_at n qs (entered bs q) v g (entered_length bs q ∙ e)
    ∙ (ap (λ (x : Option ℕ). greater x (greatest_of (into v) qs)) (entered_at bs q v (omega (arith, s.to_below)) (omega (arith, s.in_day)))
    ∙ greater_assoc (bound_at bs v) (into v q) (greatest_of (into v) qs))

get_or_nowhere : (n v : ℕ) → v < n → get_or (replicate n nowhere) v 0 ≡ nowhere
get_or_nowhere zero v l = absurd (omega arith)
get_or_nowhere (suc n) zero l = refl
get_or_nowhere (suc n) (suc v) l = get_or_nowhere n v (omega arith)

-- the latest arrival of the legs that enter v
bounds_at : (n : ℕ) (qs : List Row) (v : ℕ) → Good n qs → v < n → bound_at (bounds_of n qs) v ≡ greatest_of (into v) qs
unfolding bound_at
bounds_at n qs v g l = entered_by_at n qs (replicate n nowhere) v g (length-replicate n nowhere) ∙ rw (get_or_nowhere n v l)

-- which is the latest entry of the rows that they come from
legs_bound : (A W : ℕ) (rs : List Row) (v : ℕ) → greatest_of (into v) (legs_of A W rs) ≡ bound_of rs A W v
unfolding greatest_of legs_of bound_of entry_of
legs_bound A W [] v = refl
legs_bound A W (r ∷ rs) v = go (eqb r.to v) (leb A r.start) (leb (arrival r) W) refl refl (legs_bound A W rs v)
  where
    rest : Option ℕ
    rest = greatest_of (entry_of A W v) rs

    go : (a b c : Bool) → eqb r.to v ≡ a → leb A r.start ≡ b → greatest_of (into v) (legs_of A W rs) ≡ rest
        → greatest_of (into v) (cond (b && c) (leg_of A r ∷ legs_of A W rs) (legs_of A W rs)) ≡ greater (cond (a && (b && c)) (some (arrival r - A)) none) rest
    go true true true e f h = let s : r.start - A + r.travel ≡ arrival r - A = omega (arith, leb-true A r.start f) in rw (e, h, s)
    go false true true e f h = rw (e, h)
    go true true false e f h = h
    go true false c e f h = h
    go false true false e f h = h
    go false false c e f h = h

entered_by_length : (qs : List Row) (bs : List ℕ) → length (entered_by qs bs) ≡ length bs
unfolding entered_by
entered_by_length [] bs = refl
entered_by_length (q ∷ qs) bs = entered_by_length qs (entered bs q) ∙ entered_length bs q

-- so the list that `bounds` writes tells the bounds of the diameter's targets, whatever stands behind them
pub entries_told : (rs : List Row) (A W n : ℕ) → Good n rs → A ≤ W → W ≤ horizon → (t : List ℕ)
    → TellsBounds n (bound_at (bounds_of n (legs_of A W rs) ++ t)) (LatestEntry (rows_day rs) A W)
unfolding bound_at
entries_told rs A W n g aw wh t = tells_same n (bound_of rs A W) (bound_at (bs ++ t)) same (bounds_told rs A W n g aw wh)
  where
    bs : List ℕ
    bs = bounds_of n (legs_of A W rs)

    long : length bs ≡ n
    long = entered_by_length (legs_of A W rs) (replicate n nowhere) ∙ length-replicate n nowhere

    same : (v : ℕ) → v < n → bound_at (bs ++ t) v ≡ bound_of rs A W v
    same v l = ap if_bound (get_or-append bs t 0 v (omega (arith, long))) ∙ (bounds_at n (legs_of A W rs) v (legs_good n A W rs g) l ∙ legs_bound A W rs v)

-- such a list holds v's bound at v, or nowhere where v has none
pub tells_number : {Bound : ℕ → ℕ → Type 0} (n : ℕ) (bs : List ℕ) → TellsBounds n (bound_at bs) Bound → (v b : ℕ) → v < n → Bound v b ↔ ((get_or bs v 0 ≡ b) × (b ≢ nowhere))
tells_number n bs t v b l = (λ h. (bound_at_lem bs v b).0 (t.told v b h).1, λ h. t.holds v b l ((bound_at_lem bs v b).1 h))
