-- The search among joined pairs: what the pivots' numbers tell, and how it ends.
use Prim.Native.Nat.{ℕ, zero, suc, ◌+◌, ◌<◌}
use native.Mathlib.Omega.{arith}
use mathlib.Core.Path.{◌≡◌, refl, ap, sym, subst}
use mathlib.Core.Bool.{cond}
use mathlib.Core.List.{List, [], ◌++◌, append-nil}
use lib.ListN.{length, get_or-append}
use Rattle.rules.specs.Words.{things_from}
use Rattle.rules.specs.Day.{Row, rows_of}
use Rattle.rules.specs.Pivots.{pivots_of, LatestUnder}
use Rattle.passes.specs.Forward.{nowhere}
use Rattle.passes.specs.Legs.{legs_of, legs_in}
use Rattle.passes.specs.declared.legs.Leg.{Leg}
use Rattle.search.specs.declared.pivots.PivotNumbers.{PivotNumbers}
use Rattle.passes.specs.Pivots.{onward_pivot, into_pivot}
use Rattle.passes.specs.Backward.{distances_to}
use Rattle.passes.specs.Days.{rows_day}
use Rattle.passes.proofs.Laws.Backward.{distances_right}
use Rattle.search.specs.Targets.{before_all}
use Rattle.search.specs.Visits.{begun, searched}
use Rattle.search.specs.Farthest.{farthest_in}
use Rattle.search.specs.Pivots.{LaidOut, bounds_under, joinedb, kept_at, kept_joined}
use Rattle.search.specs.Found.{ReachedJoined, Right}
use Rattle.search.proofs.Laws.Visiting.{IsFar}
use Rattle.search.proofs.Laws.Order.{TellsBounds}
use Rattle.search.proofs.Laws.Entered.{bound_at}
use Rattle.search.proofs.Laws.Pivoted.{bounds_under_told, farthest_kept}
use Rattle.search.proofs.Laws.Searched.{pivot_diameter_searched}
use Rattle.figures.specs.Answered.{far_kept}
use Rattle.figures.specs.Parts.{Ready, LegsLaid}
use Rattle.figures.specs.Pivots.{AllSit}
use Rattle.figures.proofs.Laying.{own_legs}

things_same : {A : Type 0} (f g : ℕ → A) (k i : ℕ) → ((j : ℕ) → j < i + k → f j ≡ g j) → things_from f k i ≡ things_from g k i
unfolding things_from
things_same f g zero i h = refl
things_same f g (suc k) i h = cc (h i (omega arith), things_same f g k (suc i) (λ j l. h j (omega arith)))

-- what stands beyond the stops does not count
pub kept_front : (pivots : List PivotNumbers) (n v : ℕ) (ds t : List ℕ) → length ds ≡ n → kept_joined pivots n v (ds ++ t) ≡ kept_joined pivots n v ds
kept_front pivots n v ds t e =
    things_same (kept_at pivots v (ds ++ t)) (kept_at pivots v ds) n 0
    (λ u l. ap (λ (x : ℕ). cond (joinedb pivots v u) x nowhere) (get_or-append ds t 0 u (omega arith)))

module _ (n A W : ℕ) (rows : List ℕ) (r : Ready n A W rows) (pivots : List ℕ) (sit : AllSit n A W pivots) (legs : List Leg) (laid : LegsLaid n A W (rows_of rows) legs)
    (list : List PivotNumbers) (out : LaidOut n (pivots_of pivots) (onward_pivot n A (legs_in legs)) (into_pivot n A (legs_in legs)) list) where
  abbrev rs : List Row
  rs = rows_of rows

  own_read : legs_in legs ≡ legs_of A W rs
  own_read = own_legs n A W rows r legs laid

  own_out : LaidOut n (pivots_of pivots) (onward_pivot n A (legs_of A W rs)) (into_pivot n A (legs_of A W rs)) list
  own_out = subst (λ (ls : List Row). LaidOut n (pivots_of pivots) (onward_pivot n A ls) (into_pivot n A ls) list) own_read out

  joined_far : (v : ℕ) → v < n → IsFar (ReachedJoined rs A W n (pivots_of pivots)) v (far_kept (legs_in legs) list n v)
  joined_far v vl =
      subst (λ (ls : List Row). IsFar (ReachedJoined rs A W n (pivots_of pivots)) v (far_kept ls list n v)) (sym own_read)
      (subst (λ (ds : List ℕ). IsFar (ReachedJoined rs A W n (pivots_of pivots)) v (farthest_in ds v n))
      (append-nil (kept_joined list n v (distances_to v (legs_of A W rs) n 0)))
      (farthest_kept rs A W n r.good r.in_order r.in_day (pivots_of pivots) sit list own_out v vl (distances_to v (legs_of A W rs) n 0) []
      (λ u ul. distances_right rs A W n v u r.good r.in_order r.in_day ul)))

  -- the search over the bounds under the pivots ends with the pivot-diameter
  pub joined_right : (t bs : List ℕ) → bs ≡ bounds_under list n ++ t
      → Right (ReachedJoined rs A W n (pivots_of pivots)) (LatestUnder (rows_day rs) A W (pivots_of pivots)) (searched (far_kept (legs_in legs) list n) bs n n before_all begun)
  joined_right t bs e =
      pivot_diameter_searched rs A W n r.good r.in_order r.in_day (pivots_of pivots) sit bs
      (subst (λ (bs : List ℕ). TellsBounds n (bound_at bs) (LatestUnder (rows_day rs) A W (pivots_of pivots))) (sym e)
      (bounds_under_told rs A W n r.good r.in_order r.in_day (pivots_of pivots) sit list own_out.count (λ i p x a b. (own_out.each i p x a b).onward) t))
      (far_kept (legs_in legs) list n) joined_far
