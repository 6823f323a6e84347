-- The three demands, each stated once for any call and then of every call; the proofs at the end cite laws. The words are
-- those of `rules` and of Promises. That the code of a call keeps its promise is its contract in `src/`: none has a
-- `requires`, so a call takes any input and relies on no check made elsewhere.
use Rattle.std.specs.Prelude.{ℕ, ◌*◌, ◌≡◌, refl, ◌≢◌, ◌↔◌, List, [], ◌∷◌, length, Some, None, Ok}
use Rattle.std.proofs.Common.{subst}
use Rattle.std.proofs.Math.Path.{Σ_path}
use Rattle.clock.specs.declared.Length.{Length}
use Rattle.rules.specs.Words.{Greatest}
use Rattle.rules.specs.Day.{rows_of, Ask, asker's_day}
use Rattle.rules.specs.Routes.{Compatible}
use Rattle.rules.specs.Eccentricity.{Forward, Backward}
use Rattle.rules.specs.Diameter.{Shown, NoneShown}
use Rattle.rules.specs.Pivots.{pivots_of, Joined}
use Rattle.rules.specs.Table.{Check, table, office_table, Refuses}
use Rattle.rules.specs.Lent.{Fills, scratch_places, Wiped}
use Rattle.rules.specs.Figures.{DistanceOf, TableOf, Pairs, Bounds, JoinedPairs, PivotBounds}
use Rattle.rules.specs.Struck.{Fit, struck, SameToAsker}
use Rattle.rules.proofs.Laws.Single.{table_one_place}
use Rattle.figures.specs.declared.answers.Answer.{Answer}
use Rattle.figures.specs.declared.answers.Answer.TheVariants as answer
use Rattle.figures.specs.Promises.{Filled, Eccentricity, Office, IsRefusal, seconds, ask, room, takes, DistancesFromPromise, DistancesToPromise, TablePromise, ForwardEccentricityPromise, BackwardEccentricityPromise, DiameterPromise, PivotDiameterPromise, OfficePromise}
use Rattle.figures.specs.Laws.Unique.{distances_from_unique, distances_to_unique, table_unique, forward_unique, backward_unique, diameter_unique, pivot_diameter_unique, office_unique}
use Rattle.figures.specs.Laws.Exists.{distances_from_exists, distances_to_exists, table_exists, forward_exists, backward_exists, diameter_exists, pivot_diameter_exists, office_exists}
use Rattle.figures.specs.Laws.Isolated.{distances_from_isolated, distances_to_isolated, table_isolated, forward_isolated, backward_isolated, diameter_isolated, pivot_diameter_isolated, distances_from_struck, distances_to_struck, table_struck, forward_struck, backward_struck, diameter_struck, pivot_diameter_struck}
use Rattle.figures.specs.Laws.Outcome.{refused_kept, filled_refused, eccentricity_refused, search_refused, office_refused, filled_written, eccentricity_written, search_written, office_rows_lem}
use Rattle.figures.specs.Laws.None.{forward_none, backward_none, diameter_none, pivot_diameter_none}

-- A call with its input: what its lent lists hold before, the checks that it makes, which answers are a refusal, and what
-- it promises of its answer and of what the lent lists hold afterwards.
pub record Call (Reply Lists : Type 0) : Type 1 where
  pub before : Lists
  pub checks : List Check
  pub IsRefused : Reply → (number place : ℕ) → Type 0
  pub Promise : Reply → (after : Lists) → Type 0

-- the calls, in README's order
abbrev pub distances_from : Ask → (source : ℕ) (out : List ℕ) → Call Filled (List ℕ)
distances_from q source out =
    record {
      before = out;
      checks = table q (takes (source ∷ []) [] (room out q.n ∷ []));
      IsRefused = IsRefusal;
      Promise = DistancesFromPromise q source out;
    }

abbrev pub distances_to : Ask → (target : ℕ) (out scratch : List ℕ) → Call Filled (List ℕ × List ℕ)
distances_to q target out scratch =
    record {
      before = (out, scratch);
      checks = table q (takes (target ∷ []) [] (room out q.n ∷ room scratch scratch_places ∷ []));
      IsRefused = IsRefusal;
      Promise = λ r after. DistancesToPromise q target out scratch r after.0 after.1;
    }

abbrev pub whole_table : Ask → (out : List ℕ) → Call Filled (List ℕ)
whole_table q out =
    record {
      before = out;
      checks = table q (takes [] [] (room out (q.n * q.n) ∷ []));
      IsRefused = IsRefusal;
      Promise = TablePromise q out;
    }

abbrev pub forward_eccentricity : Ask → (source : ℕ) → Call Eccentricity (Unit {0})
forward_eccentricity q source =
    record {
      before = tt;
      checks = table q (takes (source ∷ []) [] []);
      IsRefused = IsRefusal;
      Promise = λ r after. ForwardEccentricityPromise q source r;
    }

abbrev pub backward_eccentricity : Ask → (target : ℕ) (scratch : List ℕ) → Call Eccentricity (List ℕ)
backward_eccentricity q target scratch =
    record {
      before = scratch;
      checks = table q (takes (target ∷ []) [] (room scratch scratch_places ∷ []));
      IsRefused = IsRefusal;
      Promise = BackwardEccentricityPromise q target scratch;
    }

abbrev pub plain_diameter : Ask → (scratch : List ℕ) → Call Answer (List ℕ)
plain_diameter q scratch =
    record {
      before = scratch;
      checks = table q (takes [] [] (room scratch scratch_places ∷ []));
      IsRefused = λ r number place. r ≡ answer.Refused number place;
      Promise = DiameterPromise q scratch;
    }

abbrev pub pivot_diameter : Ask → (pivots scratch : List ℕ) → Call Answer (List ℕ)
pivot_diameter q pivots scratch =
    record {
      before = scratch;
      checks = table q (takes [] pivots (room scratch scratch_places ∷ []));
      IsRefused = λ r number place. r ≡ answer.Refused number place;
      Promise = PivotDiameterPromise q pivots scratch;
    }

abbrev pub office_check : (list : List ℕ) (n : ℕ) → Call Office (Unit {0})
office_check list n =
    record {
      before = tt;
      checks = office_table list n;
      IsRefused = IsRefusal;
      Promise = λ r after. OfficePromise list n r;
    }

-- Demand 1: every call takes any input, and either answers or refuses by a number of the table, in its order, exactly when the
-- table says. A refusal writes nothing.
pub record Settles {Reply Lists : Type 0} (c : Call Reply Lists) : Type 0 where
  -- there is an outcome
  pub some_outcome : (r : Reply) × (after : Lists) × c.Promise r after
  -- and one only
  pub one_outcome : (r r' : Reply) (after after' : Lists) → c.Promise r after → c.Promise r' after' → (r ≡ r') × (after ≡ after')
  -- it is a refusal exactly where the checks refuse, by the first that is given, with its number and place
  pub refuses_exactly : (r : Reply) (after : Lists) → c.Promise r after → (number place : ℕ) → c.IsRefused r number place ↔ Refuses c.checks number place
  -- and then every lent list is as before
  pub refusal_writes_nothing : (r : Reply) (number place : ℕ) (after : Lists) → c.IsRefused r number place → c.Promise r after → after ≡ c.before

pub record Demand1 : Type 0 where
  pub distances_from_lem : (q : Ask) (source : ℕ) (out : List ℕ) → Settles (distances_from q source out)
  pub distances_to_lem : (q : Ask) (target : ℕ) (out scratch : List ℕ) → Settles (distances_to q target out scratch)
  pub whole_table_lem : (q : Ask) (out : List ℕ) → Settles (whole_table q out)
  pub forward_eccentricity_lem : (q : Ask) (source : ℕ) → Settles (forward_eccentricity q source)
  pub backward_eccentricity_lem : (q : Ask) (target : ℕ) (scratch : List ℕ) → Settles (backward_eccentricity q target scratch)
  pub diameter : (q : Ask) (scratch : List ℕ) → Settles (plain_diameter q scratch)
  pub pivot_diameter_lem : (q : Ask) (pivots scratch : List ℕ) → Settles (pivot_diameter q pivots scratch)
  pub office_check_lem : (list : List ℕ) (n : ℕ) → Settles (office_check list n)

-- Demand 2: distances, eccentricities, diameter and pivot-diameter equal document 01's definitions over the public rows and
-- the asker's own rows only, and visits are the number that it defines. An outcome that is no refusal tells the figure; every
-- figure of an ask (`DistanceOf`, `TableOf`, `Pairs`, `Bounds`, `JoinedPairs`, `PivotBounds`) is over `asker's_day`.
abbrev pub Tells : {Reply Lists : Type 0} → Call Reply Lists → (Figure : Reply → Lists → Type 0) → Type 0
Tells {Reply} {Lists} c Figure = (r : Reply) (after : Lists) → c.Promise r after → ((number place : ℕ) → c.IsRefused r number place → ⊥) → Figure r after

-- What there is to tell (`There` below) is a compatible route between different stops; under pivots, a pair that is joined.
abbrev pub Routed : Ask → (u v : ℕ) → Type 0
Routed q u v = (u ≢ v) × Compatible (asker's_day q) q.A q.W u v

-- an eccentricity: the greatest distance of the pairs that count, and none exactly if nothing is there
pub record IsEccentricity (Pair : (v d : ℕ) → Type 0) (There : (v : ℕ) → Type 0) (r : Eccentricity) : Type 0 where
  pub greatest : (value : Length) → r ≡ Ok (Some value) → Greatest (λ d. (v : ℕ) × Pair v d) value.0
  pub none : (r ≡ Ok None) ↔ ((v : ℕ) → There v → ⊥)

-- a diameter: the greatest distance over all pairs that count, whatever targets are skipped, with its pair and the visits; and
-- none exactly if nothing is there, with the visits
pub record IsDiameter (Pair : (u v d : ℕ) → Type 0) (Bound : (v b : ℕ) → Type 0) (There : (u v : ℕ) → Type 0) (r : Answer) : Type 0 where
  pub shown : (value : Length) (from to visits : ℕ) → r ≡ answer.Value value from to visits → Shown Pair Bound value.0 from to visits
  pub none : ((visits : ℕ) × (r ≡ answer.Nothing visits)) ↔ ((u v : ℕ) → There u v → ⊥)
  pub none_shown : (visits : ℕ) → r ≡ answer.Nothing visits → NoneShown Pair Bound visits

pub record Demand2 : Type 0 where
  pub distances_from_lem : (q : Ask) (source : ℕ) (out : List ℕ) → Tells (distances_from q source out) (λ r out'. Fills q.n (DistanceOf q source) out out')
  pub distances_to_lem : (q : Ask) (target : ℕ) (out scratch : List ℕ)
      → Tells (distances_to q target out scratch) (λ r after. Fills q.n (λ u. DistanceOf q u target) out after.0 × Wiped scratch after.1)
  pub whole_table_lem : (q : Ask) (out : List ℕ) → Tells (whole_table q out) (λ r out'. Fills (q.n * q.n) (TableOf q) out out')
  pub forward_eccentricity_lem : (q : Ask) (source : ℕ) → Tells (forward_eccentricity q source) (λ r after. IsEccentricity (Pairs q source) (Routed q source) r)
  pub backward_eccentricity_lem : (q : Ask) (target : ℕ) (scratch : List ℕ)
      → Tells (backward_eccentricity q target scratch) (λ r scratch'. IsEccentricity (λ u. Pairs q u target) (λ u. Routed q u target) r × Wiped scratch scratch')
  pub diameter : (q : Ask) (scratch : List ℕ)
      → Tells (plain_diameter q scratch) (λ r scratch'. IsDiameter (Pairs q) (Bounds q) (Routed q) r × Wiped scratch scratch')
  pub pivot_diameter_lem : (q : Ask) (pivots scratch : List ℕ)
      → Tells (pivot_diameter q pivots scratch)
      (λ r scratch'. IsDiameter (JoinedPairs q pivots) (PivotBounds q pivots) (Joined (asker's_day q) q.A q.W (pivots_of pivots)) r × Wiped scratch scratch')
  pub office_check_lem : (list : List ℕ) (n : ℕ) → Tells (office_check list n) (λ r after. r ≡ Ok (length (rows_of list)))

-- Demand 3: two day lists that agree on the public rows and on one client's rows give that client equal answers in
-- everything, and it is the answer for the list with the others' rows struck out. Lists are of whole rows, at most 2,048 of
-- them (`Fit`). The office check reads all rows, so it has no part in this.
pub record Isolates {Reply Lists : Type 0} (asker : ℕ) (call : (list : List ℕ) → Call Reply Lists) : Type 0 where
  -- equal answers: values, pairs, visits, refusals with their places; and equal lists afterwards
  pub equal : (list other : List ℕ) → SameToAsker asker list other → (r r' : Reply) (after after' : Lists)
      → (call list).Promise r after → (call other).Promise r' after' → (r ≡ r') × (after ≡ after')
  pub struck_out : (list : List ℕ) → Fit list → (r : Reply) (after : Lists) → (call list).Promise r after ↔ (call (struck asker list)).Promise r after

pub record Demand3 (n asker A W : ℕ) : Type 0 where
  pub distances_from_lem : (source : ℕ) (out : List ℕ) → Isolates asker (λ list. distances_from (ask list n asker A W) source out)
  pub distances_to_lem : (target : ℕ) (out scratch : List ℕ) → Isolates asker (λ list. distances_to (ask list n asker A W) target out scratch)
  pub whole_table_lem : (out : List ℕ) → Isolates asker (λ list. whole_table (ask list n asker A W) out)
  pub forward_eccentricity_lem : (source : ℕ) → Isolates asker (λ list. forward_eccentricity (ask list n asker A W) source)
  pub backward_eccentricity_lem : (target : ℕ) (scratch : List ℕ) → Isolates asker (λ list. backward_eccentricity (ask list n asker A W) target scratch)
  pub diameter : (scratch : List ℕ) → Isolates asker (λ list. plain_diameter (ask list n asker A W) scratch)
  pub pivot_diameter_lem : (pivots scratch : List ℕ) → Isolates asker (λ list. pivot_diameter (ask list n asker A W) pivots scratch)

-- The proofs: for each call the laws that it rests on.

pub demand_1 : Demand1
unfolding DistancesFromPromise DistancesToPromise TablePromise ForwardEccentricityPromise BackwardEccentricityPromise DiameterPromise PivotDiameterPromise
demand_1 =
    record {
      distances_from_lem =
          λ q source out.
          record {
            some_outcome = distances_from_exists q source out;
            one_outcome = distances_from_unique q source out;
            refuses_exactly = λ r after. filled_refused (table q (takes (source ∷ []) [] (room out q.n ∷ []))) (table_one_place q (takes (source ∷ []) [] (room out q.n ∷ []))) (Fills q.n (DistanceOf q source) out after) (after ≡ out) r;
            refusal_writes_nothing = λ r k p after. refused_kept (table q (takes (source ∷ []) [] (room out q.n ∷ []))) (λ x. Fills q.n (DistanceOf q source) out after) r k p;
          };
      distances_to_lem =
          λ q target out scratch.
          record {
            some_outcome = let e = distances_to_exists q target out scratch in (e.0, (e.1, e.2), e.3);
            one_outcome =
                λ r r' after after' h g.
                let e = distances_to_unique q target out scratch r r' after.0 after'.0 after.1 after'.1 h g in (e.0, Σ_path e.1.0 e.1.1);
            refuses_exactly = λ r after. filled_refused (table q (takes (target ∷ []) [] (room out q.n ∷ room scratch scratch_places ∷ []))) (table_one_place q (takes (target ∷ []) [] (room out q.n ∷ room scratch scratch_places ∷ []))) (Fills q.n (λ u. DistanceOf q u target) out after.0 × Wiped scratch after.1) ((after.0 ≡ out) × (after.1 ≡ scratch)) r;
            refusal_writes_nothing =
                λ r k p after e h.
                let y =
                refused_kept (table q (takes (target ∷ []) [] (room out q.n ∷ room scratch scratch_places ∷ [])))
                (λ x. Fills q.n (λ u. DistanceOf q u target) out after.0 × Wiped scratch after.1) r k p e h in
                Σ_path y.0 y.1;
          };
      whole_table_lem =
          λ q out.
          record {
            some_outcome = table_exists q out;
            one_outcome = table_unique q out;
            refuses_exactly = λ r after. filled_refused (table q (takes [] [] (room out (q.n * q.n) ∷ []))) (table_one_place q (takes [] [] (room out (q.n * q.n) ∷ []))) (Fills (q.n * q.n) (TableOf q) out after) (after ≡ out) r;
            refusal_writes_nothing = λ r k p after. refused_kept (table q (takes [] [] (room out (q.n * q.n) ∷ []))) (λ x. Fills (q.n * q.n) (TableOf q) out after) r k p;
          };
      forward_eccentricity_lem =
          λ q source.
          record {
            some_outcome = let e = forward_exists q source in (e.0, tt, e.1);
            one_outcome = λ r r' after after' h g. (forward_unique q source r r' h g, refl);
            refuses_exactly = λ r after. eccentricity_refused (table q (takes (source ∷ []) [] [])) (table_one_place q (takes (source ∷ []) [] [])) (Unit {0}) (Unit {0}) (Forward (Pairs q) source) r;
            refusal_writes_nothing = λ r k p after e h. refl;
          };
      backward_eccentricity_lem =
          λ q target scratch.
          record {
            some_outcome = backward_exists q target scratch;
            one_outcome = backward_unique q target scratch;
            refuses_exactly = λ r after. eccentricity_refused (table q (takes (target ∷ []) [] (room scratch scratch_places ∷ []))) (table_one_place q (takes (target ∷ []) [] (room scratch scratch_places ∷ []))) (Wiped scratch after) (after ≡ scratch) (Backward (Pairs q) target) r;
            refusal_writes_nothing = λ r k p after. refused_kept (table q (takes (target ∷ []) [] (room scratch scratch_places ∷ []))) (λ d. Backward (Pairs q) target (seconds d) × Wiped scratch after) r k p;
          };
      diameter =
          λ q scratch.
          record {
            some_outcome = diameter_exists q scratch;
            one_outcome = diameter_unique q scratch;
            refuses_exactly = λ r after. search_refused (table q (takes [] [] (room scratch scratch_places ∷ []))) (table_one_place q (takes [] [] (room scratch scratch_places ∷ []))) (Wiped scratch after) (after ≡ scratch) (Pairs q) (Bounds q) r;
            refusal_writes_nothing = λ r k p after e h. (subst (λ (x : Answer). DiameterPromise q scratch x after) e h).1;
          };
      pivot_diameter_lem =
          λ q pivots scratch.
          record {
            some_outcome = pivot_diameter_exists q pivots scratch;
            one_outcome = pivot_diameter_unique q pivots scratch;
            refuses_exactly = λ r after. search_refused (table q (takes [] pivots (room scratch scratch_places ∷ []))) (table_one_place q (takes [] pivots (room scratch scratch_places ∷ []))) (Wiped scratch after) (after ≡ scratch) (JoinedPairs q pivots) (PivotBounds q pivots) r;
            refusal_writes_nothing = λ r k p after e h. (subst (λ (x : Answer). PivotDiameterPromise q pivots scratch x after) e h).1;
          };
      office_check_lem =
          λ list n.
          record {
            some_outcome = let e = office_exists list n in (e.0, tt, e.1);
            one_outcome = λ r r' after after' h g. (office_unique list n r r' h g, refl);
            refuses_exactly = λ r after. office_refused list n r;
            refusal_writes_nothing = λ r k p after e h. refl;
          };
    }

pub demand_2 : Demand2
unfolding DistancesFromPromise DistancesToPromise TablePromise ForwardEccentricityPromise BackwardEccentricityPromise DiameterPromise PivotDiameterPromise
demand_2 =
    record {
      distances_from_lem = λ q source out r out'. filled_written (table q (takes (source ∷ []) [] (room out q.n ∷ []))) (Fills q.n (DistanceOf q source) out out') (out' ≡ out) r;
      distances_to_lem = λ q target out scratch r after. filled_written (table q (takes (target ∷ []) [] (room out q.n ∷ room scratch scratch_places ∷ []))) (Fills q.n (λ u. DistanceOf q u target) out after.0 × Wiped scratch after.1) ((after.0 ≡ out) × (after.1 ≡ scratch)) r;
      whole_table_lem = λ q out r out'. filled_written (table q (takes [] [] (room out (q.n * q.n) ∷ []))) (Fills (q.n * q.n) (TableOf q) out out') (out' ≡ out) r;
      forward_eccentricity_lem =
          λ q source r after h answered.
          record {
            greatest = λ d e. (subst (λ (x : Eccentricity). ForwardEccentricityPromise q source x) e h).1.0;
            none = forward_none q source r h answered;
          };
      backward_eccentricity_lem =
          λ q target scratch r scratch' h answered. (
            record {
              greatest = λ d e. (subst (λ (x : Eccentricity). BackwardEccentricityPromise q target scratch x scratch') e h).1.0;
              none = backward_none q target scratch r scratch' h answered;
            },
            eccentricity_written (table q (takes (target ∷ []) [] (room scratch scratch_places ∷ []))) (Wiped scratch scratch') (scratch' ≡ scratch) (Backward (Pairs q) target) r h answered,
          );
      diameter =
          λ q scratch r scratch' h answered. (
            record {
              shown = λ d u v visits e. (subst (λ (x : Answer). DiameterPromise q scratch x scratch') e h).1;
              none = diameter_none q scratch r scratch' h answered;
              none_shown = λ visits e. (subst (λ (x : Answer). DiameterPromise q scratch x scratch') e h).1;
            },
            search_written (table q (takes [] [] (room scratch scratch_places ∷ []))) (Wiped scratch scratch') (scratch' ≡ scratch) (Pairs q) (Bounds q) r h answered,
          );
      pivot_diameter_lem =
          λ q pivots scratch r scratch' h answered. (
            record {
              shown = λ d u v visits e. (subst (λ (x : Answer). PivotDiameterPromise q pivots scratch x scratch') e h).1;
              none = pivot_diameter_none q pivots scratch r scratch' h answered;
              none_shown = λ visits e. (subst (λ (x : Answer). PivotDiameterPromise q pivots scratch x scratch') e h).1;
            },
            search_written (table q (takes [] pivots (room scratch scratch_places ∷ []))) (Wiped scratch scratch') (scratch' ≡ scratch) (JoinedPairs q pivots) (PivotBounds q pivots) r h answered,
          );
      office_check_lem = λ list n r after. office_rows_lem list n r;
    }

pub demand_3 : (n asker A W : ℕ) → Demand3 n asker A W
demand_3 n asker A W =
    record {
      distances_from_lem = λ source out. record { equal = λ list other s. distances_from_isolated s n A W source out; struck_out = λ list f. distances_from_struck asker list f n A W source out };
      distances_to_lem =
          λ target out scratch.
          record {
            equal =
                λ list other s r r' after after' h g.
                let e = distances_to_isolated s n A W target out scratch r r' after.0 after'.0 after.1 after'.1 h g in (e.0, Σ_path e.1.0 e.1.1);
            struck_out = λ list f r after. distances_to_struck asker list f n A W target out scratch r after.0 after.1;
          };
      whole_table_lem = λ out. record { equal = λ list other s. table_isolated s n A W out; struck_out = λ list f. table_struck asker list f n A W out };
      forward_eccentricity_lem =
          λ source.
          record {
            equal = λ list other s r r' after after' h g. (forward_isolated s n A W source r r' h g, refl);
            struck_out = λ list f r after. forward_struck asker list f n A W source r;
          };
      backward_eccentricity_lem = λ target scratch. record { equal = λ list other s. backward_isolated s n A W target scratch; struck_out = λ list f. backward_struck asker list f n A W target scratch };
      diameter = λ scratch. record { equal = λ list other s. diameter_isolated s n A W scratch; struck_out = λ list f. diameter_struck asker list f n A W scratch };
      pivot_diameter_lem = λ pivots scratch. record { equal = λ list other s. pivot_diameter_isolated s n A W pivots scratch; struck_out = λ list f. pivot_diameter_struck asker list f n A W pivots scratch };
    }
