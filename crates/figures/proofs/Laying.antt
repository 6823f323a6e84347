-- The legs of own rows: how the front of a room holds them, and what a pass over them gives.
use Prim.Native.Nat.{ℕ, ◌*◌, ◌≤◌, ◌<◌}
use native.Mathlib.Omega.{arith}
use mathlib.Core.Path.{◌≡◌, refl, sym, ap, ◌∙◌, subst}
use mathlib.Core.List.{List, ◌++◌}
use lib.ListN.{length, get_or, take, drop}
use lib.Seq.{take_at}
use Rattle.rules.specs.Day.{most_rows, Row, rows_of}
use Rattle.rules.specs.Diameter.{LatestEntry}
use Rattle.rules.specs.Lent.{Fills, Stands, Copied}
use Rattle.rules.proofs.Laws.Good.{good_sound}
use Rattle.rules.specs.Faultless.{Good}
use Rattle.rules.proofs.Laws.Rows.{length_rows}
use Rattle.rules.proofs.Laws.Written.{copied_front}
use Rattle.rules.proofs.Laws.Filled.{fills_front}
use Rattle.passes.specs.declared.legs.Leg.{Leg}
use Rattle.passes.specs.Legs.{legs_of, alone, made_legs, legs_in}
use Rattle.passes.specs.Forward.{init, passed, stretches, stretch_of}
use Rattle.passes.specs.Backward.{distances_to}
use Rattle.passes.proofs.Laws.Links.{good_for_more}
use Rattle.passes.proofs.Laws.Backward.{length_distances, distances_right}
use Rattle.passes.specs.Days.{rows_day}
use Rattle.passes.proofs.Laws.Legs.{legs_good, legs_fewer, legs_read, legs_laid, length_legs}
use Rattle.passes.proofs.Laws.Passed.{passed_length, passed_stands, init_long}
use Rattle.passes.proofs.Laws.Stretches.{length_stretches, stretch_place}
use Rattle.search.specs.Farthest.{farthest_in}
use Rattle.search.specs.Bounds.{bounds_of}
use Rattle.search.specs.Targets.{before_all}
use Rattle.search.specs.Visits.{begun, searched}
use Rattle.search.specs.Found.{ReachedPairs, Right}
use Rattle.search.proofs.Laws.Visiting.{IsFar}
use Rattle.search.proofs.Laws.Order.{TellsBounds}
use Rattle.search.proofs.Laws.Entered.{bound_at, entries_told}
use Rattle.search.proofs.Laws.Searched.{diameter_searched}
use Rattle.search.proofs.Laws.Farthest.{farthest_is_far, distances_told, forward_told}
use Rattle.search.proofs.Laws.Bounded.{pair_positive}
use Rattle.figures.specs.Answered.{far_in}
use Rattle.figures.specs.Parts.{Ready, LegsLaid, Stretched}

-- the part that was written
pub front_part : (ds rest out : List ℕ) (n end : ℕ) → end ≡ n → length ds ≡ n → out ≡ ds ++ rest → take end out ≡ ds
front_part ds rest out n end e l h = rw (h, e) (take_at ds rest n l)

module _ (n A W : ℕ) (rows : List ℕ) (r : Ready n A W rows) where
  -- the farthest stop of a list that such a pass filled
  pub pass_far : (u : ℕ) (out' : List ℕ) → u < n → ((v : ℕ) → v < n → Stands (rows_day (rows_of rows)) A W u v (get_or out' v 0))
      → IsFar (λ v w d. ReachedPairs (rows_of rows) A W n w v d) u (farthest_in out' u n)
  pass_far u out' ul h =
      farthest_is_far n u out' (forward_told (rows_day (rows_of rows)) A W n u r.in_day ul out' h)
      (λ v d p. pair_positive (rows_of rows) A W n r.good r.in_order r.in_day u v d p)

  -- legs laid out in the front of a room
  module _ (old : List Leg) (m : ℕ) (new : List Leg) (copied : Copied 1 alone (legs_of A W (rows_of rows)) old m new) where
    pub legs_few : m ≤ most_rows
    legs_few = omega (arith, copied.number, legs_fewer A W (rows_of rows), length_rows rows, r.few)

    front : take m new ≡ made_legs (legs_of A W (rows_of rows))
    front = copied_front 1 alone (λ q. refl) copied m (omega arith)

    read : legs_in (take m new) ≡ legs_of A W (rows_of rows)
    read = ap legs_in front ∙ legs_read A W (rows_of rows)

    pub front_laid : LegsLaid n A W (rows_of rows) (take m new)
    front_laid =
        record {
          is = front;
          laid = rw front (legs_laid n (legs_of A W (rows_of rows)) (λ q l. let s = good_sound (legs_good n A W (rows_of rows) r.good) q l in (s.from_below, s.to_below)));
          orderly = record {
            few = omega (arith, ap length front, length_legs (legs_of A W (rows_of rows)), legs_fewer A W (rows_of rows), length_rows rows, r.few);
            good = rw read (good_for_more r.few_stops (legs_good n A W (rows_of rows) r.good));
          };
        }

  module _ (legs : List Leg) (laid : LegsLaid n A W (rows_of rows) legs) where
    pub own_legs : legs_in legs ≡ legs_of A W (rows_of rows)
    own_legs = ap legs_in laid.is ∙ legs_read A W (rows_of rows)

    -- a pass over them fills the first n places with distances
    pub pass_fills : (u : ℕ) (out out' : List ℕ) → u < n → n ≤ length out → out' ≡ passed (legs_in legs) (init 0 u n) ++ drop n out
        → Fills n (Stands (rows_day (rows_of rows)) A W u) out out'
    pass_fills u out out' ul l eq =
        subst (Fills n (Stands (rows_day (rows_of rows)) A W u) out) (sym (eq ∙ ap (λ (ls : List Row). passed ls (init 0 u n) ++ drop n out) own_legs))
        (fills_front n (Stands (rows_day (rows_of rows)) A W u) (passed (legs_of A W (rows_of rows)) (init 0 u n)) out
        (passed_length (legs_of A W (rows_of rows)) (init 0 u n) ∙ init_long 0 u n) l
        (λ v vl. passed_stands (rows_of rows) A W n u v r.good r.in_order r.in_day ul vl))

    -- and the passes of all sources fill the table
    pub table_fills : (out out' : List ℕ) → n * n ≤ length out → out' ≡ stretches (stretch_of n (legs_in legs)) n ++ drop (n * n) out
        → Fills (n * n) (Stretched (rows_of rows) n A W) out out'
    table_fills out out' l eq =
        subst (Fills (n * n) (Stretched (rows_of rows) n A W) out) (sym (eq ∙ ap (λ (ls : List Row). stretches (stretch_of n ls) n ++ drop (n * n) out) own_legs))
        (fills_front (n * n) (Stretched (rows_of rows) n A W) (stretches stretch n) out (length_stretches n stretch wide n) l
        (λ i il u v ul vl e.
        subst (Stands (rows_day (rows_of rows)) A W u v) (sym (ap (λ (j : ℕ). get_or (stretches stretch n) j 0) e ∙ stretch_place n stretch wide n u v ul vl))
        (passed_stands (rows_of rows) A W n u v r.good r.in_order r.in_day ul vl)))
      where
        stretch : ℕ → List ℕ
        stretch = stretch_of n (legs_of A W (rows_of rows))

        wide : (u : ℕ) → length (stretch u) ≡ n
        wide u = passed_length (legs_of A W (rows_of rows)) (init 0 u n) ∙ init_long 0 u n

    pub legs_are_good : Good n (legs_in legs)
    legs_are_good = rw own_legs (legs_good n A W (rows_of rows) r.good)

    -- the sweep to a target fills the first n places with distances
    pub sweep_fills : (v : ℕ) (out out' : List ℕ) → n ≤ length out → out' ≡ distances_to v (legs_in legs) n 0 ++ drop n out
        → Fills n (λ u. Stands (rows_day (rows_of rows)) A W u v) out out'
    sweep_fills v out out' l eq =
        subst (Fills n (λ u. Stands (rows_day (rows_of rows)) A W u v) out) (sym (eq ∙ ap (λ (ls : List Row). distances_to v ls n 0 ++ drop n out) own_legs))
        (fills_front n (λ u. Stands (rows_day (rows_of rows)) A W u v) (distances_to v (legs_of A W (rows_of rows)) n 0) out (length_distances v (legs_of A W (rows_of rows)) n 0) l
        (λ u ul. distances_right (rows_of rows) A W n v u r.good r.in_order r.in_day ul))

    -- and the farthest source found in them is the farthest
    pub sweep_far : (v : ℕ) → v < n → IsFar (ReachedPairs (rows_of rows) A W n) v (far_in (legs_in legs) n v)
    sweep_far v vl =
        subst (λ (ls : List Row). IsFar (ReachedPairs (rows_of rows) A W n) v (far_in ls n v)) (sym own_legs)
        (farthest_is_far n v (distances_to v (legs_of A W (rows_of rows)) n 0)
        (distances_told (rows_day (rows_of rows)) A W n v r.in_day vl (distances_to v (legs_of A W (rows_of rows)) n 0)
        (λ u ul. distances_right (rows_of rows) A W n v u r.good r.in_order r.in_day ul))
        (λ u d p. pair_positive (rows_of rows) A W n r.good r.in_order r.in_day u v d p))

    -- so the search over the bounds ends with the diameter
    pub search_right : (t bs : List ℕ) → bs ≡ bounds_of n (legs_in legs) ++ t
        → Right (ReachedPairs (rows_of rows) A W n) (LatestEntry (rows_day (rows_of rows)) A W) (searched (far_in (legs_in legs) n) bs n n before_all begun)
    search_right t bs e =
        diameter_searched (rows_of rows) A W n r.good r.in_order r.in_day bs
        (subst (λ (bs : List ℕ). TellsBounds n (bound_at bs) (LatestEntry (rows_day (rows_of rows)) A W)) (sym (e ∙ ap (λ (ls : List Row). bounds_of n ls ++ t) own_legs))
        (entries_told (rows_of rows) A W n r.good r.in_order r.in_day t))
        (far_in (legs_in legs) n) sweep_far
