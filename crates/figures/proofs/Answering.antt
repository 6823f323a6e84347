-- What a farthest stop and the end of a search answer, and how an answer over own rows is one over the list.
use Prim.Native.Nat.{ℕ}
use mathlib.Core.Path.{◌≡◌, refl, subst}
use mathlib.Core.Logic.{◌≢◌}
use mathlib.Core.Bool.{Bool, true, false, cond}
use mathlib.Core.List.{List}
use lib.Dec.{eqb}
use borrow.Author.Tests.{eqb-true, eqb-false}
use Rattle.std.specs.Prelude.{Some, None, Result, Ok, Err}
use Rattle.rules.specs.Words.{Greatest, GreatestIfAny}
use Rattle.rules.specs.Day.{Ask}
use Rattle.rules.specs.Table.{Check, Takes, table, Refuses}
use Rattle.rules.proofs.Laws.Checks.{refuses_first, refuses_then, clear_both}
use Rattle.day.specs.Refusals.{number_of, place_of}
use Rattle.day.specs.declared.refusal.Refusal.{Refusal}
use Rattle.search.specs.declared.far.Far.{Far}
use Rattle.search.specs.declared.state.Search.{Search}
use Rattle.search.specs.Found.{Right}
use Rattle.figures.specs.declared.own.Own as declared
use Rattle.figures.specs.declared.answers.Answer.TheVariants as answer
use Rattle.figures.specs.Answered.{eccentricity_of, ended}
use Rattle.figures.specs.Parts.{first_checks}
use Rattle.figures.specs.Own.{Own, owned, own_of, Owns, own_table}
use Rattle.figures.specs.Promises.{seconds, Fulfils, FulfilsSearch}

-- 0 is none, and any other value is the greatest
pub far_right : (P : ℕ → Type 0) (x : Far) → (x.value ≡ 0 → (d : ℕ) → P d → ⊥) → (x.value ≢ 0 → Greatest P x.value) → GreatestIfAny P (seconds (eccentricity_of x))
far_right P x nobody greatest = go (eqb x.value 0) refl
  where
    go : (b : Bool) → eqb x.value 0 ≡ b → GreatestIfAny P (seconds (cond b None (Some (record { 0 = x.value }))))
    go true e = nobody (eqb-true _ _ e)
    go false e = greatest (eqb-false _ _ e)

-- the end of a search, or a refusal, as an answer
pub end_fulfils : (cs : List Check) (Pair : ℕ → ℕ → ℕ → Type 0) (Bound : ℕ → ℕ → Type 0) (X Y : Type 0) (r : Result Search Refusal)
    → Fulfils cs (λ st. Right Pair Bound st × X) Y r → FulfilsSearch cs Pair Bound X Y (ended r)
end_fulfils cs Pair Bound X Y (Err r) h = h
end_fulfils cs Pair Bound X Y (Ok st) h = go (eqb st.best 0) refl
  where
    go : (b : Bool) → eqb st.best 0 ≡ b
        → FulfilsSearch cs Pair Bound X Y (cond b (answer.Nothing st.visits) (answer.Value (record { 0 = st.best }) st.source st.target st.visits))
    go true e = (h.0, h.1.0.none_shown (eqb-true _ _ e), h.1.1)
    go false e = (h.0, h.1.0.shown (eqb-false _ _ e), h.1.1)

-- a refusal by the first checks is one by the table
pub first_refuses : (q : Ask) (t : Takes) (r : Refusal) → Refuses (first_checks q) (number_of r) (place_of r) → Refuses (table q t) (number_of r) (place_of r)
first_refuses q t r h = refuses_first (first_checks q) (own_table (own_of q) t) (number_of r) (place_of r) h

-- what is fulfilled over the asker's own rows is fulfilled over the list
pub then_fulfils : (q : Ask) (o : declared.Own) → Owns q (Ok o) → (t : Own → Takes) {T : Type 0} (Answered : Own → T → Type 0) (Unchanged : Type 0) (r : Result T Refusal)
    → Fulfils (own_table (owned o) (t (owned o))) (Answered (owned o)) Unchanged r → Fulfils (table q (t (own_of q))) (Answered (own_of q)) Unchanged r
then_fulfils q o h t {T} Answered Unchanged r f = go r (subst (λ (s : Own). Fulfils (own_table s (t s)) (Answered s) Unchanged r) h.1 f)
  where
    go : (r : Result T Refusal) → Fulfils (own_table (own_of q) (t (own_of q))) (Answered (own_of q)) Unchanged r → Fulfils (table q (t (own_of q))) (Answered (own_of q)) Unchanged r
    go (Ok x) f = (clear_both (first_checks q) (own_table (own_of q) (t (own_of q))) h.0 f.0, f.1)
    go (Err e) f = (refuses_then (first_checks q) (own_table (own_of q) (t (own_of q))) (number_of e) (place_of e) h.0 f.0, f.1)
