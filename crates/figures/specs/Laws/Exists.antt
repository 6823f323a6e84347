-- Every input has an outcome that meets the promise; with Unique, exactly one.
use Rattle.std.specs.Prelude.{ℕ, ◌+◌, ◌*◌, ◌/◌, ◌%◌, ◌≤◌, ◌<◌, ◌≡◌, refl, Bool, true, false, cond, eqb, length, Some, None, Result, Ok, Err}
use Rattle.std.specs.Prelude as prelude
use Rattle.std.proofs.Common.{ap, sym, subst, ◌∙◌, inl, inr, arith, mod-eq_of_lt, eqb-true}
use mathlib.Core.List.{List, [], ◌∷◌}
use Rattle.std.proofs.Math.Option.{Option, none, some}
use Rattle.std.proofs.Math.Nat.{mul-add-div_right, div-eq_of_lt, mul-add-mod_self_right}
use Rattle.std.proofs.Math.Decide.{dec_le, dec_lt}
use Rattle.std.proofs.lemmas.Bool.{eqb-false}
use Rattle.rules.specs.Words.{Any, any_here, any_later}
use Rattle.rules.specs.Day.{Row, rows_of, Ask, asker's_rows}
use Rattle.rules.specs.Routes.{in_numbers}
use Rattle.rules.specs.Eccentricity.{Forward, Backward}
use Rattle.rules.specs.Pivots.{pivots_of}
use Rattle.rules.specs.Table.{Check, Takes, table, office_table, Clear, Refuses}
use Rattle.rules.specs.Lent.{Fills, scratch_places, Wiped}
use Rattle.rules.specs.Figures.{DistanceOf, TableOf, Pairs, Bounds, JoinedPairs, PivotBounds}
use Rattle.rules.proofs.Laws.Decided.{Settled, table_settled, office_settled, Accepted, accepted}
use Rattle.rules.proofs.Laws.Filled.{fill, fills, wiped}
use Rattle.passes.proofs.Laws.Distance.{dist, dist_right}
use Rattle.search.specs.Visits.{begun}
use Rattle.search.specs.declared.state.Search.{Search}
use Rattle.search.proofs.Laws.Greatest.{ecc_to, ecc_from, forward_right, backward_right}
use Rattle.search.proofs.Laws.Order.{order}
use Rattle.search.proofs.Laws.Pairs.{pair_of, pairs_told, bound_of, pivot_bound_of}
use Rattle.search.proofs.Laws.Visiting.{run}
use Rattle.search.specs.Found.{Right}
use Rattle.search.proofs.Laws.Bounded.{farthest_of, farthest_joined}
use Rattle.search.proofs.Laws.Searched.{diameter_visited, pivot_diameter_visited}
use Rattle.clock.specs.declared.Length.{Length}
use Rattle.day.specs.Refusals.{place_of}
use Rattle.day.specs.declared.refusal.Refusal.{Refusal}
use Rattle.figures.specs.Laws.Named.{AllNamed, told, table_named, office_named}
use Rattle.figures.specs.declared.answers.Answer.{Answer}
use Rattle.figures.specs.declared.answers.Answer.TheVariants as answer
use Rattle.figures.specs.Answered.{answer_of}
use Rattle.figures.specs.Promises.{room, takes, Filled, Eccentricity, Office, seconds, Fulfils, FulfilsEccentricity, FulfilsSearch, DistancesFromPromise, DistancesToPromise, TablePromise, ForwardEccentricityPromise, BackwardEccentricityPromise, DiameterPromise, PivotDiameterPromise, OfficePromise}

-- the first of a list that fails a test does not fail it
first_passes : {A : Type 0} {P : A → Type 0} (x : A) (xs : List A) → (Any P (x ∷ xs) → ⊥) → P x → ⊥
first_passes x xs h p = h (any_here p)

second_passes : {A : Type 0} {P : A → Type 0} (x y : A) (xs : List A) → (Any P (x ∷ y ∷ xs) → ⊥) → P y → ⊥
second_passes x y xs h p = h (any_later (any_here p))

not_less : (a b : ℕ) → (a < b → ⊥) → b ≤ a
not_less a b h = go (dec_lt a b)
  where
    go : Dec (a < b) → b ≤ a
    go (yes l) = absurd (h l)
    go (no l) = omega arith

not_most : (a b : ℕ) → (a ≤ b → ⊥) → b < a
not_most a b h = go (dec_le a b)
  where
    go : Dec (a ≤ b) → b < a
    go (yes l) = absurd (h l)
    go (no l) = omega arith

-- a length, if there is one
length_of : Option ℕ → prelude.Option Length
length_of none = None
length_of (some d) = Some (record { 0 = d })

ecc_fulfils : (cs : List Check) (Is : Option ℕ → Type 0) (X Y : Type 0) (o : Option ℕ) → Clear cs → Is o → X → FulfilsEccentricity cs Is X Y (Ok (length_of o))
unfolding length_of
ecc_fulfils cs Is X Y none c h x = (c, (h, x))
ecc_fulfils cs Is X Y (some d) c h x = (c, (h, x))

-- where a check is given, there is a refusal
refused : (cs : List Check) → AllNamed cs → {T Y : Type 0} (A : T → Type 0) (k p : ℕ) → Refuses cs k p → Y → (r : Result T Refusal) × Fulfils cs A Y r
refused cs named A k p h y =
    let t = told cs named k p h in (Err t.refusal, (subst (λ (i : ℕ). Refuses cs i (place_of t.refusal)) (sym t.number_is) (subst (Refuses cs k) (sym t.place_is) h), y))

pub search_fulfils : (cs : List Check) (Pair : ℕ → ℕ → ℕ → Type 0) (Bound : ℕ → ℕ → Type 0) (X Y : Type 0) (st : Search) → Clear cs → Right Pair Bound st → X
    → FulfilsSearch cs Pair Bound X Y (answer_of st)
search_fulfils cs Pair Bound X Y st c h x = go (eqb st.best 0) refl
  where
    go : (b : Bool) → eqb st.best 0 ≡ b
        → FulfilsSearch cs Pair Bound X Y (cond b (answer.Nothing st.visits) (answer.Value (record { 0 = st.best }) st.source st.target st.visits))
    go true e = (c, h.none_shown (eqb-true _ _ e), x)
    go false e = (c, h.shown (eqb-false _ _ e), x)

module _ (q : Ask) where
  abbrev rows : List Row
  rows = asker's_rows q

  -- the number that the pass gives stands for the distance
  number : (t : Takes) → Accepted q t → (u v : ℕ) → u < q.n → DistanceOf q u v (in_numbers (dist rows q.A q.W q.n u v))
  number t a u v l =
      record {
        distance = dist rows q.A q.W q.n u v;
        is = dist_right rows q.A q.W q.n u a.good l a.in_order a.in_day v;
        as_number = refl;
      }

  pub distances_from_exists : (source : ℕ) (out : List ℕ) → (r : Filled) × (o : List ℕ) × DistancesFromPromise q source out r o
  unfolding DistancesFromPromise
  distances_from_exists source out = go (table_settled q t)
    where
      t : Takes
      t = takes (source ∷ []) [] (room out q.n ∷ [])

      go : Settled (table q t) → (r : Filled) × (o : List ℕ) × DistancesFromPromise q source out r o
      go (inr x) = let e = refused (table q t) (table_named q t) (λ y. Fills q.n (DistanceOf q source) out out) x.0 x.1 x.2 refl in (e.0, out, e.1)
      go (inl c) =
          let a : Accepted q t = accepted q t c in
          let l : source < q.n = not_most q.n source (first_passes source [] a.named_below) in
          let m : q.n ≤ length out = not_less (length out) q.n (first_passes (room out q.n) [] a.roomy) in
          (Ok tt, fill (λ v. in_numbers (dist rows q.A q.W q.n source v)) 0 q.n out, (c, fills q.n (DistanceOf q source) _ out m (λ v b. number t a source v l)))

  pub distances_to_exists : (target : ℕ) (out scratch : List ℕ) → (r : Filled) × (o : List ℕ) × (s : List ℕ) × DistancesToPromise q target out scratch r o s
  unfolding DistancesToPromise
  distances_to_exists target out scratch = go (table_settled q t)
    where
      t : Takes
      t = takes (target ∷ []) [] (room out q.n ∷ room scratch scratch_places ∷ [])

      go : Settled (table q t) → (r : Filled) × (o : List ℕ) × (s : List ℕ) × DistancesToPromise q target out scratch r o s
      go (inr x) =
          let e = refused (table q t) (table_named q t) (λ y. Fills q.n (λ u. DistanceOf q u target) out out × Wiped scratch scratch) x.0 x.1 x.2 (refl, refl) in
          (e.0, out, scratch, e.1)
      go (inl c) =
          let a : Accepted q t = accepted q t c in
          let m : q.n ≤ length out = not_less (length out) q.n (first_passes (room out q.n) (room scratch scratch_places ∷ []) a.roomy) in
          let k : scratch_places ≤ length scratch = not_less (length scratch) scratch_places (second_passes (room out q.n) (room scratch scratch_places) [] a.roomy) in (
            Ok tt,
            fill (λ u. in_numbers (dist rows q.A q.W q.n u target)) 0 q.n out,
            fill (λ i. 0) 0 scratch_places scratch,
            (c, (fills q.n (λ u. DistanceOf q u target) _ out m (λ u b. number t a u target b), wiped scratch k)),
          )

  -- a place of the table, from its source's stretch
  place_source : (n u v : ℕ) → v < n → (u * n + v) / n ≡ u
  place_source n u v l = mul-add-div_right (omega arith) u v ∙ (ap (λ (x : ℕ). u + x) (div-eq_of_lt l) ∙ omega arith)

  place_stop : (n u v : ℕ) → v < n → (u * n + v) % n ≡ v
  place_stop n u v l = mul-add-mod_self_right u n v ∙ mod-eq_of_lt l

  pub table_exists : (out : List ℕ) → (r : Filled) × (o : List ℕ) × TablePromise q out r o
  unfolding TablePromise
  table_exists out = go (table_settled q t)
    where
      t : Takes
      t = takes [] [] (room out (q.n * q.n) ∷ [])

      go : Settled (table q t) → (r : Filled) × (o : List ℕ) × TablePromise q out r o
      go (inr x) = let e = refused (table q t) (table_named q t) (λ y. Fills (q.n * q.n) (TableOf q) out out) x.0 x.1 x.2 refl in (e.0, out, e.1)
      go (inl c) =
          let a : Accepted q t = accepted q t c in
          let m : q.n * q.n ≤ length out = not_less (length out) (q.n * q.n) (first_passes (room out (q.n * q.n)) [] a.roomy) in (
            Ok tt,
            fill (λ i. in_numbers (dist rows q.A q.W q.n (i / q.n) (i % q.n))) 0 (q.n * q.n) out,
            (
              c,
              fills (q.n * q.n) (TableOf q) _ out m
                  (λ i b u v ul vl e. rw (e, place_source q.n u v vl, place_stop q.n u v vl) (number t a u v ul)),
            ),
          )

  pub forward_exists : (source : ℕ) → (r : Eccentricity) × ForwardEccentricityPromise q source r
  unfolding ForwardEccentricityPromise
  forward_exists source = go (table_settled q t)
    where
      t : Takes
      t = takes (source ∷ []) [] []

      go : Settled (table q t) → (r : Eccentricity) × ForwardEccentricityPromise q source r
      go (inr x) = refused (table q t) (table_named q t) (λ d. Forward (Pairs q) source (seconds d) × Unit {0}) x.0 x.1 x.2 tt
      go (inl c) =
          let a : Accepted q t = accepted q t c in
          let l : source < q.n = not_most q.n source (first_passes source [] a.named_below) in (
            Ok (length_of (ecc_from (pair_of rows q.A q.W q.n) q.n source)),
            ecc_fulfils (table q t) (Forward (Pairs q) source) (Unit {0}) (Unit {0}) _ c
                (forward_right q.n (pair_of rows q.A q.W q.n) (pairs_told rows q.A q.W q.n a.good a.in_order a.in_day) source l)
                tt,
          )

  pub backward_exists : (target : ℕ) (scratch : List ℕ) → (r : Eccentricity) × (s : List ℕ) × BackwardEccentricityPromise q target scratch r s
  unfolding BackwardEccentricityPromise
  backward_exists target scratch = go (table_settled q t)
    where
      t : Takes
      t = takes (target ∷ []) [] (room scratch scratch_places ∷ [])

      go : Settled (table q t) → (r : Eccentricity) × (s : List ℕ) × BackwardEccentricityPromise q target scratch r s
      go (inr x) =
          let e = refused (table q t) (table_named q t) (λ d. Backward (Pairs q) target (seconds d) × Wiped scratch scratch) x.0 x.1 x.2 refl in
          (e.0, scratch, e.1)
      go (inl c) =
          let a : Accepted q t = accepted q t c in
          let l : target < q.n = not_most q.n target (first_passes target [] a.named_below) in
          let k : scratch_places ≤ length scratch = not_less (length scratch) scratch_places (first_passes (room scratch scratch_places) [] a.roomy) in (
            Ok (length_of (ecc_to (pair_of rows q.A q.W q.n) q.n target)),
            fill (λ i. 0) 0 scratch_places scratch,
            ecc_fulfils (table q t) (Backward (Pairs q) target) (Wiped scratch (fill (λ i. 0) 0 scratch_places scratch)) (fill (λ i. 0) 0 scratch_places scratch ≡ scratch) _ c
                (backward_right q.n (pair_of rows q.A q.W q.n) (pairs_told rows q.A q.W q.n a.good a.in_order a.in_day) target l)
                (wiped scratch k),
          )

  pub diameter_exists : (scratch : List ℕ) → (r : Answer) × (s : List ℕ) × DiameterPromise q scratch r s
  unfolding DiameterPromise
  diameter_exists scratch = go (table_settled q t)
    where
      t : Takes
      t = takes [] [] (room scratch scratch_places ∷ [])

      go : Settled (table q t) → (r : Answer) × (s : List ℕ) × DiameterPromise q scratch r s
      go (inr x) = (answer.Refused x.0 x.1, scratch, (x.2, refl))
      go (inl c) =
          let a : Accepted q t = accepted q t c in
          let k : scratch_places ≤ length scratch = not_less (length scratch) scratch_places (first_passes (room scratch scratch_places) [] a.roomy) in (
            answer_of (run (bound_of rows q.A q.W) (farthest_of rows q.A q.W q.n) (order (bound_of rows q.A q.W) q.n) begun),
            fill (λ i. 0) 0 scratch_places scratch,
            search_fulfils (table q t) (Pairs q) (Bounds q) (Wiped scratch (fill (λ i. 0) 0 scratch_places scratch)) (fill (λ i. 0) 0 scratch_places scratch ≡ scratch) _ c
                (diameter_visited rows q.A q.W q.n a.good a.in_order a.in_day) (wiped scratch k),
          )

  pub pivot_diameter_exists : (pivots scratch : List ℕ) → (r : Answer) × (s : List ℕ) × PivotDiameterPromise q pivots scratch r s
  unfolding PivotDiameterPromise
  pivot_diameter_exists pivots scratch = go (table_settled q t)
    where
      t : Takes
      t = takes [] pivots (room scratch scratch_places ∷ [])

      go : Settled (table q t) → (r : Answer) × (s : List ℕ) × PivotDiameterPromise q pivots scratch r s
      go (inr x) = (answer.Refused x.0 x.1, scratch, (x.2, refl))
      go (inl c) =
          let a : Accepted q t = accepted q t c in
          let k : scratch_places ≤ length scratch = not_less (length scratch) scratch_places (first_passes (room scratch scratch_places) [] a.roomy) in (
            answer_of
                (run (pivot_bound_of rows q.A q.W q.n (pivots_of pivots)) (farthest_joined rows q.A q.W q.n (pivots_of pivots)) (order (pivot_bound_of rows q.A q.W q.n (pivots_of pivots)) q.n) begun),
            fill (λ i. 0) 0 scratch_places scratch,
            search_fulfils (table q t) (JoinedPairs q pivots) (PivotBounds q pivots) (Wiped scratch (fill (λ i. 0) 0 scratch_places scratch)) (fill (λ i. 0) 0 scratch_places scratch ≡ scratch) _ c
                (pivot_diameter_visited rows q.A q.W q.n a.good a.in_order a.in_day (pivots_of pivots) a.sit) (wiped scratch k),
          )

pub office_exists : (list : List ℕ) (n : ℕ) → (r : Office) × OfficePromise list n r
unfolding OfficePromise
office_exists list n = go (office_settled list n)
  where
    go : Settled (office_table list n) → (r : Office) × OfficePromise list n r
    go (inr x) = refused (office_table list n) (office_named list n) (λ k. k ≡ length (rows_of list)) x.0 x.1 x.2 tt
    go (inl c) = (Ok (length (rows_of list)), (c, refl))
