-- Each check of the table has its refusal: where it is given, there is a refusal with its number and that place.
use Rattle.std.specs.Prelude.{ℕ, ◌≡◌, refl, List, [], ◌∷◌}
use Rattle.std.proofs.Common.{sym, ◌∙◌, inl, inr}
use Rattle.rules.specs.Day.{Ask}
use Rattle.rules.specs.Table.{Check, when, Takes, table, office_table, Refuses}
use Rattle.day.specs.Refusals.{number_of, place_of}
use Rattle.day.specs.declared.refusal.Refusal.{Refusal}
use Rattle.day.specs.declared.refusal.Refusal.TheVariants as refusal

-- a refusal with a number and a place
pub record Told (number place : ℕ) : Type 0 where
  pub refusal : Refusal
  pub number_is : number_of refusal ≡ number
  pub place_is : place_of refusal ≡ place

abbrev Named : Check → Type 0
Named c = (place : ℕ) → c.given place → Told c.number place

abbrev pub AllNamed : List Check → Type 0
AllNamed [] = Unit {0}
AllNamed (c ∷ cs) = Named c × AllNamed cs

pub told : (cs : List Check) → AllNamed cs → (number place : ℕ) → Refuses cs number place → Told number place
told [] n k p h' = elim h' [ ]
told (c ∷ cs) n k p (inl x) = let t = n.0 p x.1 in record { refusal = t.refusal; number_is = t.number_is ∙ sym x.0; place_is = t.place_is }
told (c ∷ cs) n k p (inr x) = told cs n.1 k p x.1

at_none : (r : Refusal) (P : Type 0) → place_of r ≡ 0 → Named (when (number_of r) P)
at_none r P e place h = record { refusal = r; number_is = refl; place_is = e ∙ sym h.0 }

at_row : (place : ℕ) → Told 6 place
at_row place = record { refusal = refusal.Row place; number_is = refl; place_is = refl }

at_pivot : (place : ℕ) → Told 9 place
at_pivot place = record { refusal = refusal.Pivot place; number_is = refl; place_is = refl }

at_owner : (place : ℕ) → Told 11 place
at_owner place = record { refusal = refusal.Owner place; number_is = refl; place_is = refl }

pub table_named : (q : Ask) (t : Takes) → AllNamed (table q t)
table_named q t = (
  at_none refusal.Width _ refl,
  (
    at_none refusal.Rows _ refl,
    (
      at_none refusal.Stops _ refl,
      (
        at_none refusal.Asker _ refl,
        (
          at_none refusal.Interval _ refl,
          (
            (λ place h. at_row place),
            (
              at_none refusal.Named _ refl,
              (
                at_none refusal.Pivots _ refl,
                (
                  (λ place h. at_pivot place),
                  (
                    at_none refusal.Room _ refl,
                    (
                      at_none refusal.Unrouted _ refl,
                      tt,
                    ),
                  ),
                ),
              ),
            ),
          ),
        ),
      ),
    ),
  ),
)

pub office_named : (list : List ℕ) (n : ℕ) → AllNamed (office_table list n)
office_named list n = (
  at_none refusal.Width _ refl,
  (
    at_none refusal.Rows _ refl,
    (
      at_none refusal.Stops _ refl,
      (
        (λ place h. at_row place),
        (
          (λ place h. at_owner place),
          tt,
        ),
      ),
    ),
  ),
)
