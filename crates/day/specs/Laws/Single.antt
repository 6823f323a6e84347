-- A row read, and a verdict, are one.
use Rattle.std.specs.Prelude.{ℕ, ◌≡◌, refl, cond, eqb, List, Result, Ok, Err}
use Rattle.std.proofs.Common.{ap, sym, ◌∙◌}
use Rattle.rules.specs.Table.{Check}
use Rattle.rules.proofs.Laws.Single.{clear_or_refused, OnePlace, refusal_single}
use Rattle.day.specs.declared.row.Row as declared
use Rattle.day.specs.declared.refusal.Refusal.{Refusal}
use Rattle.day.specs.declared.refusal.Refusal.TheVariants as refusal
use Rattle.day.specs.Rows.{row_of}
use Rattle.day.specs.Refusals.{number_of, place_of}
use Rattle.day.specs.Verdicts.{Judges}

-- two rows of the code that are one row of the rules are equal
pub row_single : (r s : declared.Row) → row_of r ≡ row_of s → r ≡ s
row_single r s e =
    λ i. record { from = (e i).from; to = (e i).to; start = record { 0 = (e i).start }; travel = record { 0 = (e i).travel }; owner = (e i).owner }

-- a refusal is known by its number and its place
abbrev named : (number place : ℕ) → Refusal
named number place =
    cond (eqb number 1) refusal.Width (
    cond (eqb number 2) refusal.Rows (
    cond (eqb number 3) refusal.Stops (
    cond (eqb number 4) refusal.Asker (
    cond (eqb number 5) refusal.Interval (
    cond (eqb number 6) (refusal.Row place) (
    cond (eqb number 7) refusal.Named (
    cond (eqb number 8) refusal.Pivots (
    cond (eqb number 9) (refusal.Pivot place) (
    cond (eqb number 10) refusal.Room (
    cond (eqb number 11) (refusal.Owner place) (
    refusal.Unrouted)))))))))))

named_back : (r : Refusal) → named (number_of r) (place_of r) ≡ r
named_back refusal.Width = refl
named_back refusal.Rows = refl
named_back refusal.Stops = refl
named_back refusal.Asker = refl
named_back refusal.Interval = refl
named_back (refusal.Row place) = refl
named_back refusal.Named = refl
named_back refusal.Pivots = refl
named_back (refusal.Pivot place) = refl
named_back refusal.Room = refl
named_back (refusal.Owner place) = refl
named_back refusal.Unrouted = refl

pub refusal_same : (r s : Refusal) → number_of r ≡ number_of s → place_of r ≡ place_of s → r ≡ s
refusal_same r s e f = sym (named_back r) ∙ (cc (e, f) ∙ named_back s)

pub judges_single : (cs : List Check) → OnePlace cs → (v v' : Result (Unit {0}) Refusal) → Judges cs v → Judges cs v' → v ≡ v'
judges_single cs one (Ok x) (Ok y) h g = refl
judges_single cs one (Ok x) (Err r) h g = absurd (clear_or_refused cs (number_of r) (place_of r) h g)
judges_single cs one (Err r) (Ok x) h g = absurd (clear_or_refused cs (number_of r) (place_of r) g h)
judges_single cs one (Err r) (Err s) h g =
    let e = refusal_single cs one (number_of r) (place_of r) (number_of s) (place_of s) h g in ap Err (refusal_same r s e.0 e.1)
