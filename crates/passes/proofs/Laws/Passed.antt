-- The pass as the code makes it, by the least of two numbers, gives the distances.
use Rattle.std.specs.Prelude.{ℕ, ◌-◌, ◌≤◌, ◌<◌, min, ◌≡◌, refl, Bool, true, false, cond, ◌&&◌, eqb, leb, ltb, length, get_or, set, replicate}
use Rattle.std.proofs.Common.{ap, sym, ◌∙◌, arith, length-set, eqb-true, leb-true, ltb-true, ltb-false, le-leb}
use mathlib.Core.List.{List, [], ◌∷◌, ◌++◌, Memᴰ}
use Rattle.std.proofs.lemmas.List.{get_or_default, length-replicate, set-append_left, set-get_or}
use Rattle.std.proofs.Math.ListN.{get_or-append}
use Rattle.rules.specs.Clock.{horizon}
use Rattle.rules.specs.Day.{Row, arrival}
use Rattle.rules.specs.Routes.{Dist, in_numbers, Earliest}
use Rattle.rules.specs.Lent.{Stands}
use Rattle.rules.specs.Faultless.{Good, good_more}
use Rattle.passes.specs.Legs.{legs_of}
use Rattle.passes.specs.Forward.{nowhere, usable, step, pass, init, offered, relaxed, passed}
use Rattle.passes.specs.Days.{rows_day}
use Rattle.passes.proofs.Laws.Legs.{legs_good, legs_end, legs_distance}
use Rattle.passes.proofs.Laws.Distance.{since, dist, dist_right}

relaxed_length : (st : List ℕ) (f t s a : ℕ) → length (relaxed st f t s a) ≡ length st
relaxed_length st f t s a = length-set st t (offered (get_or st f 0) s a (get_or st t 0))

-- a leg taken is a step of the pass
relaxed_step : (W : ℕ) (r : Row) (st : List ℕ) → r.from < length st → r.to < length st → r.start < nowhere → arrival r ≤ W
    → relaxed st r.from r.to r.start (arrival r) ≡ step W r st
unfolding step usable
relaxed_step W r st fl tl sn aw =
    rw (sym (get_or_default st r.from 0 nowhere fl), sym (get_or_default st r.to 0 nowhere tl), le-leb (arrival r) W aw)
    (go (eqb x nowhere) (leb x r.start) (ltb (arrival r) y) refl refl refl)
  where
    x : ℕ
    x = get_or st r.from 0

    y : ℕ
    y = get_or st r.to 0

    same : (z : ℕ) → z ≡ y → set st r.to z ≡ st
    same z e = rw e (set-get_or st r.to 0)

    go : (a b c : Bool) → eqb x nowhere ≡ a → leb x r.start ≡ b → ltb (arrival r) y ≡ c
        → set st r.to (cond a y (cond b (min (arrival r) y) y)) ≡ cond (b && (true && c)) (set st r.to (arrival r)) st
    go true true c e f g = absurd (omega (arith, eqb-true x nowhere e, leb-true x r.start f))
    go true false c e f g = same y refl
    go false true true e f g = ap (set st r.to) (omega (arith, ltb-true (arrival r) y g))
    go false true false e f g = same (min (arrival r) y) (omega (arith, ltb-false (arrival r) y g))
    go false false c e f g = same y refl

abbrev pub EndBy : (W : ℕ) → List Row → Type 0
EndBy W rs = (q : Row) → Memᴰ q rs → arrival q ≤ W

pub passed_pass : (W n : ℕ) (rs : List Row) (st : List ℕ) → W ≤ horizon → Good n rs → EndBy W rs → length st ≡ n → passed rs st ≡ pass W rs st
unfolding passed pass
passed_pass W n [] st wh g ends e = refl
passed_pass W n (r ∷ rs) st wh (good_more s up g) ends e =
    let late : arrival r ≤ W = ends r (Memᴰ.head refl) in
    let one : relaxed st r.from r.to r.start (arrival r) ≡ step W r st = relaxed_step W r st (omega (arith, s.from_below)) (omega (arith, s.to_below)) (omega arith) late in
    passed_pass W n rs (relaxed st r.from r.to r.start (arrival r)) wh g (λ q m. ends q (Memᴰ.tail m)) (relaxed_length st _ _ _ _ ∙ e)
    ∙ ap (pass W rs) one

-- what stands beyond the stops stays
abbrev pub Inside : (n : ℕ) → List Row → Type 0
Inside n rs = (q : Row) → Memᴰ q rs → (q.from < n) × (q.to < n)

relaxed_append : (st t : List ℕ) (f u s a : ℕ) → f < length st → u < length st → relaxed (st ++ t) f u s a ≡ relaxed st f u s a ++ t
relaxed_append st t f u s a fl ul =
    rw (get_or-append st t 0 f fl, get_or-append st t 0 u ul) (set-append_left st t u (offered (get_or st f 0) s a (get_or st u 0)) ul)

pub passed_append : (n : ℕ) (rs : List Row) (st t : List ℕ) → Inside n rs → length st ≡ n → passed rs (st ++ t) ≡ passed rs st ++ t
unfolding passed
passed_append n [] st t h e = refl
passed_append n (r ∷ rs) st t h e =
    let k = h r (Memᴰ.head refl) in
    ap (passed rs) (relaxed_append st t r.from r.to r.start (arrival r) (omega (arith, k.0)) (omega (arith, k.1)))
    ∙ passed_append n rs (relaxed st r.from r.to r.start (arrival r)) t (λ q m. h q (Memᴰ.tail m)) (relaxed_length st _ _ _ _ ∙ e)

pub passed_length : (rs : List Row) (st : List ℕ) → length (passed rs st) ≡ length st
unfolding passed
passed_length [] st = refl
passed_length (r ∷ rs) st = passed_length rs (relaxed st r.from r.to r.start (arrival r)) ∙ relaxed_length st _ _ _ _

pub init_long : (a u n : ℕ) → length (init a u n) ≡ n
unfolding init
init_long a u n = length-set (replicate n nowhere) u a ∙ length-replicate n nowhere

-- the number that a distance since 0 is written as
number_since : (x : ℕ) → x ≡ in_numbers (since 0 x)
unfolding since
number_since x = go (eqb x nowhere) refl
  where
    go : (b : Bool) → eqb x nowhere ≡ b → x ≡ in_numbers (cond b Rattle.rules.specs.Routes.unreached (Rattle.rules.specs.Routes.after (x - 0)))
    go true e = eqb-true x nowhere e
    go false e = omega arith

-- place v of a pass over the legs, from u at 0, stands for the distance from u to v over the rows
pub passed_stands : (rs : List Row) (A W n u v : ℕ) → Good n rs → A ≤ W → W ≤ horizon → u < n → v < n
    → Stands (rows_day rs) A W u v (get_or (passed (legs_of A W rs) (init 0 u n)) v 0)
unfolding dist
passed_stands rs A W n u v g aw wh ul vl =
    record {
      distance = dist ls 0 (W - A) n u v;
      is = legs_distance A W rs u v aw (dist_right ls 0 (W - A) n u good ul (omega arith) (omega arith) v);
      as_number = same ∙ number_since (get_or (pass (W - A) ls (init 0 u n)) v nowhere);
    }
  where
    ls : List Row
    ls = legs_of A W rs

    good : Good n ls
    good = legs_good n A W rs g

    e : passed ls (init 0 u n) ≡ pass (W - A) ls (init 0 u n)
    e = passed_pass (W - A) n ls (init 0 u n) (omega arith) good (legs_end A W rs) (init_long 0 u n)

    same : get_or (passed ls (init 0 u n)) v 0 ≡ get_or (pass (W - A) ls (init 0 u n)) v nowhere
    same = get_or_default (passed ls (init 0 u n)) v 0 nowhere (omega (arith, passed_length ls (init 0 u n), init_long 0 u n)) ∙ ap (λ (st : List ℕ). get_or st v nowhere) e
