-- Legs have the routes of the rows that they come from, and so the same distances.
use Rattle.std.specs.Prelude.{ℕ, zero, suc, ◌+◌, ◌-◌, ◌≤◌, ◌<◌, ◌≡◌, refl, Bool, true, false, cond, ◌&&◌, leb, length, get_or}
use Rattle.std.proofs.Common.{ap, sym, ◌∙◌, arith, leb-true, le-leb}
use mathlib.Core.List.Memᴰ
use mathlib.Core.List.{List, [], ◌∷◌, ◌++◌, Memᴰ}
use Rattle.rules.specs.Day.{Row, arrival}
use Rattle.rules.specs.Routes.{Route, ride, onto, Compatible, Dist, Earliest, itself, reached, no_route}
use Rattle.rules.specs.Faultless.{Good, good_none, good_more}
use Rattle.rules.specs.Words.{written}
use Rattle.rules.proofs.Laws.Written.{length_written}
use Rattle.passes.specs.declared.legs.Leg as declared
use Rattle.passes.specs.Legs.{leg_of, legs_of, leg_day, alone, made_legs, legs_in, no_leg, Laid}
use Rattle.passes.proofs.Laws.Chains.{spans}
use Rattle.passes.specs.Days.{rows_day}

-- a leg and the row that it comes from
pub record From (A W : ℕ) (rs : List Row) (q : Row) : Type 0 where
  pub row : Row
  pub listed : Memᴰ row rs
  pub is : q ≡ leg_of A row
  pub begins : A ≤ row.start
  pub ends : arrival row ≤ W

-- what one more row does to the legs
data Legs (A W : ℕ) (r : Row) (rest : List Row) : List Row → Type 0 where
  one_more : A ≤ r.start → arrival r ≤ W → Legs A W r rest (leg_of A r ∷ rest)
  as_before : (A ≤ r.start → arrival r ≤ W → ⊥) → Legs A W r rest rest

legs_of_lem : (A W : ℕ) (r : Row) (rs : List Row) → Legs A W r (legs_of A W rs) (legs_of A W (r ∷ rs))
unfolding legs_of
legs_of_lem A W r rs = go (leb A r.start) (leb (arrival r) W) refl refl
  where
    go : (a b : Bool) → leb A r.start ≡ a → leb (arrival r) W ≡ b → Legs A W r (legs_of A W rs) (cond (a && b) (leg_of A r ∷ legs_of A W rs) (legs_of A W rs))
    go true true e f = one_more (leb-true _ _ e) (leb-true _ _ f)
    go true false e f = as_before (λ x y. clash (sym f ∙ le-leb _ _ y))
      where
        clash : false ≡ true → ⊥
        clash z = let w : ◌≡◌ {A = ℕ} 0 1 = cc in omega arith
    go false b e f = as_before (λ x y. clash (sym e ∙ le-leb _ _ x))
      where
        clash : false ≡ true → ⊥
        clash z = let w : ◌≡◌ {A = ℕ} 0 1 = cc in omega arith

pub leg_in : (A W : ℕ) (rs : List Row) (r : Row) → Memᴰ r rs → A ≤ r.start → arrival r ≤ W → Memᴰ (leg_of A r) (legs_of A W rs)
leg_in A W (q ∷ rs) r m a w = go (legs_of_lem A W q rs) m (λ n. leg_in A W rs r n a w)
  where
    go : {ls : List Row} → Legs A W q (legs_of A W rs) ls → Memᴰ r (q ∷ rs) → (Memᴰ r rs → Memᴰ (leg_of A r) (legs_of A W rs)) → Memᴰ (leg_of A r) ls
    go (one_more b e) (Memᴰ.head x) rec = Memᴰ.head (ap (leg_of A) x)
    go (one_more b e) (Memᴰ.tail n) rec = Memᴰ.tail (rec n)
    go (as_before h) (Memᴰ.head x) rec = absurd (h (rw x at a) (rw x at w))
    go (as_before h) (Memᴰ.tail n) rec = rec n
leg_in A W [] r m a w = absurd (Memᴰ.not-nil m)

pub leg_out : (A W : ℕ) (rs : List Row) (q : Row) → Memᴰ q (legs_of A W rs) → From A W rs q
unfolding legs_of
leg_out A W [] q m = absurd (Memᴰ.not-nil m)
leg_out A W (r ∷ rs) q m = go (legs_of_lem A W r rs) m (leg_out A W rs q)
  where
    later : From A W rs q → From A W (r ∷ rs) q
    later f = record { row = f.row; listed = Memᴰ.tail f.listed; is = f.is; begins = f.begins; ends = f.ends }

    go : {ls : List Row} → Legs A W r (legs_of A W rs) ls → Memᴰ q ls → (Memᴰ q (legs_of A W rs) → From A W rs q) → From A W (r ∷ rs) q
    go (one_more b e) (Memᴰ.head x) rec = record { row = r; listed = Memᴰ.head refl; is = x; begins = b; ends = e }
    go (one_more b e) (Memᴰ.tail n) rec = later (rec n)
    go (as_before h) n rec = later (rec n)

-- legs are good where the rows are
pub legs_good : (n A W : ℕ) (rs : List Row) → Good n rs → Good n (legs_of A W rs)
unfolding legs_of
legs_good n A W [] g = good_none
legs_good n A W (r ∷ rs) (good_more s up g) = go (legs_of_lem A W r rs) (legs_good n A W rs g)
  where
    go : {ls : List Row} → Legs A W r (legs_of A W rs) ls → Good n (legs_of A W rs) → Good n ls
    go (one_more b e) h =
        good_more {r = leg_of A r}
        (record { from_below = s.from_below; to_below = s.to_below; differ = s.differ; travels = s.travels; in_day = omega (arith, s.in_day) })
        (λ q m. let f = leg_out A W rs q m in let k : q.start ≡ f.row.start - A = ap (λ (x : Row). x.start) f.is in omega (arith, up f.row f.listed))
        h
    go (as_before x) h = h

-- there are no more legs than rows
pub legs_fewer : (A W : ℕ) (rs : List Row) → length (legs_of A W rs) ≤ length rs
unfolding legs_of
legs_fewer A W [] = omega arith
legs_fewer A W (r ∷ rs) = go (legs_of_lem A W r rs) (legs_fewer A W rs)
  where
    go : {ls : List Row} → Legs A W r (legs_of A W rs) ls → length (legs_of A W rs) ≤ length rs → length ls ≤ suc (length rs)
    go (one_more b e) h = omega arith
    go (as_before x) h = omega arith

-- every leg arrives within the interval
pub legs_end : (A W : ℕ) (rs : List Row) (q : Row) → Memᴰ q (legs_of A W rs) → arrival q ≤ W - A
legs_end A W rs q m = let f = leg_out A W rs q m in let k : arrival q ≡ arrival (leg_of A f.row) = ap arrival f.is in omega (arith, f.begins, f.ends)

module _ (A W : ℕ) (rs : List Row) where
  legs_route : {f l : Row} → Route (rows_day rs) f l → A ≤ f.start → arrival l ≤ W → Route (leg_day A W rs) (leg_of A f) (leg_of A l)
  legs_route (ride {r = r} m) a w = ride (leg_in A W rs r m a w)
  legs_route (onto {first = f} {q = q} m v p) a w =
      onto {q = leg_of A q} (leg_in A W rs f m a (omega (arith, v.waits, spans p))) (record { meets = v.meets; waits = omega (arith, v.waits) }) (legs_route p (omega (arith, v.waits)) w)

  -- a route's last row starts no earlier than its first
  rising : {f l : Row} → Route (rows_day rs) f l → f.start ≤ l.start
  rising (ride m) = omega arith
  rising (onto m v p) = omega (arith, v.waits, rising p)

  -- the route of rows behind a route of legs
  pub record Behind (f l : Row) : Type 0 where
    pub first : From A W rs f
    pub last : From A W rs l
    pub route : Route (rows_day rs) first.row last.row

  route_behind : {f l : Row} → Route (leg_day A W rs) f l → Behind f l
  route_behind (ride {r = r} m) = let t = leg_out A W rs r m in record { first = t; last = t; route = ride t.listed }
  route_behind (onto {first = f} {q = q} m v p) = go (route_behind p) (leg_out A W rs f m)
    where
      go : {l : Row} → Behind q l → From A W rs f → Behind f l
      go b t =
          let qs = b.first.is in
          let fs = t.is in
          let meet : b.first.row.from ≡ t.row.to = sym (ap (λ (x : Row). x.from) qs) ∙ (v.meets ∙ ap (λ (x : Row). x.to) fs) in
          let qstart : q.start ≡ b.first.row.start - A = ap (λ (x : Row). x.start) qs in
          let farr : arrival f ≡ t.row.start - A + t.row.travel = ap arrival fs in
          record { first = t; last = b.last; route = onto {q = b.first.row} t.listed (record { meets = meet; waits = omega (arith, v.waits, t.begins, b.first.begins) }) b.route }

  -- from x on and by y, within the interval; x' and y' are the same times as lengths since A
  module _ (x y x' y' : ℕ) (from_x : x ≡ A + x') (by_y : y ≡ A + y') (in_w : y ≤ W) (u v : ℕ) where
    pub legs_compatible : (t : Compatible (rows_day rs) x y u v) → (s : Compatible (leg_day A W rs) x' y' u v) × (arrival s.last ≡ arrival t.last - A)
    legs_compatible t = (
      record {
        first = leg_of A t.first;
        last = leg_of A t.last;
        route = legs_route t.route (omega (arith, t.begins)) (omega (arith, t.ends));
        leaves = t.leaves;
        enters = t.enters;
        begins = omega (arith, t.begins);
        ends = omega (arith, t.ends, late t);
      },
      omega (arith, late t),
    )
      where
        late : (t : Compatible (rows_day rs) x y u v) → A ≤ t.last.start
        late t = omega (arith, t.begins, rising t.route)

    pub compatible_behind : (t : Compatible (leg_day A W rs) x' y' u v) → (s : Compatible (rows_day rs) x y u v) × (arrival t.last ≡ arrival s.last - A)
    compatible_behind t =
        let h = route_behind t.route in
        let fs : t.first.start ≡ h.first.row.start - A = ap (λ (r : Row). r.start) h.first.is in
        let ls : arrival t.last ≡ h.last.row.start - A + h.last.row.travel = ap arrival h.last.is in (
          record {
            first = h.first.row;
            last = h.last.row;
            route = h.route;
            leaves = sym (ap (λ (r : Row). r.from) h.first.is) ∙ t.leaves;
            enters = sym (ap (λ (r : Row). r.to) h.last.is) ∙ t.enters;
            begins = omega (arith, t.begins, h.first.begins);
            ends = omega (arith, t.ends, h.last.begins);
          },
          omega (arith, h.last.begins),
        )

    -- the distance over the legs is the distance over the rows, in a part of the interval
    pub legs_distance_in : {d : Dist} → Earliest (leg_day A W rs) x' y' u v d → Earliest (rows_day rs) x y u v d
    legs_distance_in (itself e) = itself e
    legs_distance_in (no_route ne h) = no_route ne (λ t. h (legs_compatible t).0)
    legs_distance_in (reached {d = d} ne h) =
        reached ne (record { holds = there h.holds.0 h.holds.1; least = λ c k. below c k.0 k.1 })
      where
        there : (t : Compatible (leg_day A W rs) x' y' u v) → arrival t.last - x' ≡ d → (s : Compatible (rows_day rs) x y u v) × (arrival s.last - x ≡ d)
        there t e = let k = compatible_behind t in (k.0, omega (arith, k.1))

        below : (c : ℕ) (s : Compatible (rows_day rs) x y u v) → arrival s.last - x ≡ c → d ≤ c
        below c s e = let k = legs_compatible s in omega (arith, k.1, h.least (arrival k.0.last - x') (k.0, refl))

-- and in all of it
pub legs_distance : (A W : ℕ) (rs : List Row) (u v : ℕ) {d : Dist} → A ≤ W → Earliest (leg_day A W rs) 0 (W - A) u v d → Earliest (rows_day rs) A W u v d
legs_distance A W rs u v aw h = legs_distance_in A W rs A W 0 (W - A) (omega arith) (omega arith) (omega arith) u v h

-- what is laid out is read again
pub length_legs : (rs : List Row) → length (made_legs rs) ≡ length rs
length_legs rs = omega (arith, length_written 1 alone (λ r. refl) rs)

read_again : (rs : List Row) → ((r : Row) → Memᴰ r rs → r.owner ≡ 0) → legs_in (made_legs rs) ≡ rs
unfolding written
read_again [] h = refl
read_again (r ∷ rs) h =
    let s : arrival r - r.start ≡ r.travel = omega arith in
    rw (s, sym (h r (Memᴰ.head refl)), read_again rs (λ q m. h q (Memᴰ.tail m)))

pub legs_read : (A W : ℕ) (rs : List Row) → legs_in (made_legs (legs_of A W rs)) ≡ legs_of A W rs
legs_read A W rs = read_again (legs_of A W rs) (λ r m. ap (λ (q : Row). q.owner) (leg_out A W rs r m).is)

-- legs between stops below n, made of rows
pub legs_laid : (n : ℕ) (rs : List Row) → ((r : Row) → Memᴰ r rs → (r.from < n) × (r.to < n)) → Laid n (made_legs rs)
unfolding written
legs_laid n [] h = record { from_below = λ j l. absurd (omega arith); to_below = λ j l. absurd (omega arith); rises = λ j l. absurd (omega arith) }
legs_laid n (r ∷ rs) h = go (h r (Memᴰ.head refl)) (legs_laid n rs (λ q m. h q (Memᴰ.tail m)))
  where
    go : (r.from < n) × (r.to < n) → Laid n (made_legs rs) → Laid n (alone r ++ made_legs rs)
    go own rest =
        record {
          from_below = from_below own rest.from_below;
          to_below = to_below own rest.to_below;
          rises = rises rest.rises;
        }
      where
        leg : ℕ → declared.Leg
        leg j = get_or (made_legs rs) j no_leg

        more : ℕ → declared.Leg
        more j = get_or (alone r ++ made_legs rs) j no_leg

        from_below : (r.from < n) × (r.to < n) → ((j : ℕ) → j < length (made_legs rs) → (leg j).from < n) → (j : ℕ) → j < suc (length (made_legs rs)) → (more j).from < n
        from_below own rest zero l = own.0
        from_below own rest (suc j) l = rest j (omega arith)

        to_below : (r.from < n) × (r.to < n) → ((j : ℕ) → j < length (made_legs rs) → (leg j).to < n) → (j : ℕ) → j < suc (length (made_legs rs)) → (more j).to < n
        to_below own rest zero l = own.1
        to_below own rest (suc j) l = rest j (omega arith)

        rises : ((j : ℕ) → j < length (made_legs rs) → (leg j).start.0 ≤ (leg j).arrive.0) → (j : ℕ) → j < suc (length (made_legs rs)) → (more j).start.0 ≤ (more j).arrive.0
        rises rest zero l = omega arith
        rises rest (suc j) l = rest j (omega arith)
