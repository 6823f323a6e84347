-- The promises of functions that serve other modules of the crate leave one outcome too.
use Rattle.std.specs.Prelude.{ℕ, ◌≡◌, List, [], ◌∷◌, take, Result, Ok, Err}
use Rattle.std.proofs.Common.{ap, sym, ◌∙◌, subst, inl, inr}
use Rattle.rules.specs.Day.{Row, Ask}
use Rattle.rules.specs.Pivots.{pivots_of}
use Rattle.rules.specs.Table.{check_8, check_9, Refuses}
use Rattle.rules.proofs.Laws.Checks.{refuses_first, refuses_then}
use Rattle.rules.proofs.Laws.Single.{least_single, zero_place, clear_or_refused, OnePlace, refusal_single}
use Rattle.rules.proofs.Laws.Written.{copied_single}
use Rattle.day.specs.Refusals.{number_of, place_of}
use Rattle.day.specs.declared.refusal.Refusal.{Refusal}
use Rattle.day.specs.Laws.Single.{refusal_same}
use Rattle.day.specs.Verdicts.{Judges}
use Rattle.day.specs.Laws.Single.{judges_single}
use Rattle.rules.specs.Lent.{Copied}
use Rattle.passes.specs.declared.legs.Leg.{Leg}
use Rattle.passes.specs.declared.links.Links.{Links}
use Rattle.passes.specs.Legs.{alone, legs_of}
use Rattle.passes.specs.Links.{AllLinked}
use Rattle.passes.proofs.Laws.Single.{links_single}
use Rattle.figures.specs.Promises.{Filled}
use Rattle.figures.specs.Parts.{list_checks, plain_checks, own_check, first_checks, Prepares, LegsLaid, LegsLinked}

pub list_check_unique : (list : List ℕ) (n : ℕ) (v v' : Filled) → Judges (list_checks list n) v → Judges (list_checks list n) v' → v ≡ v'
list_check_unique list n = judges_single (list_checks list n) (zero_place, (zero_place, (zero_place, tt)))

pub plain_check_unique : (q : Ask) (v v' : Filled) → Judges (plain_checks q) v → Judges (plain_checks q) v' → v ≡ v'
plain_check_unique q = judges_single (plain_checks q) (zero_place, (zero_place, (zero_place, (zero_place, (zero_place, tt)))))

pub pivots_check_unique : (n A W : ℕ) (pivots : List ℕ) (v v' : Filled) → Judges (check_8 pivots ∷ check_9 n A W (pivots_of pivots) ∷ []) v
    → Judges (check_8 pivots ∷ check_9 n A W (pivots_of pivots) ∷ []) v' → v ≡ v'
pivots_check_unique n A W pivots = judges_single (check_8 pivots ∷ check_9 n A W (pivots_of pivots) ∷ []) (zero_place, (λ i j h k. least_single h k, tt))

module _ (q : Ask) (old : List ℕ) where
  first_one_place : OnePlace (first_checks q)
  first_one_place = (zero_place, (zero_place, (zero_place, (zero_place, (zero_place, (λ i j h k. least_single h k, tt))))))

  pub first_refused : (new : List ℕ) (r : Refusal) → Prepares q old (Err r) new → Refuses (first_checks q) (number_of r) (place_of r)
  first_refused new r (inl h) = refuses_first (plain_checks q) (own_check q) (number_of r) (place_of r) h.0
  first_refused new r (inr h) = refuses_then (plain_checks q) (own_check q) (number_of r) (place_of r) h.0 h.1

  room_single : (new new' : List ℕ) (r s : Refusal) → Prepares q old (Err r) new → Prepares q old (Err s) new' → new ≡ new'
  room_single new new' r s (inl h) (inl g) = h.1 ∙ sym g.1
  room_single new new' r s (inl h) (inr g) = absurd (clear_or_refused (plain_checks q) (number_of r) (place_of r) g.0 h.0)
  room_single new new' r s (inr h) (inl g) = absurd (clear_or_refused (plain_checks q) (number_of s) (place_of s) h.0 g.0)
  room_single new new' r s (inr h) (inr g) = (copied_single h.2.1 g.2.1).1

  pub prepares_unique : (r r' : Result ℕ Refusal) (new new' : List ℕ) → Prepares q old r new → Prepares q old r' new' → (r ≡ r') × (new ≡ new')
  prepares_unique (Ok k) (Ok k') new new' h g = let e = copied_single h.1 g.1 in (ap Ok e.0, e.1)
  prepares_unique (Ok i) (Err r) new new' h g = absurd (clear_or_refused (first_checks q) (number_of r) (place_of r) h.0 (first_refused new' r g))
  prepares_unique (Err r) (Ok i) new new' h g = absurd (clear_or_refused (first_checks q) (number_of r) (place_of r) g.0 (first_refused new r h))
  prepares_unique (Err r) (Err s) new new' h g =
      let e = refusal_single (first_checks q) first_one_place (number_of r) (place_of r) (number_of s) (place_of s) (first_refused new r h) (first_refused new' s g) in
      (ap Err (refusal_same r s e.0 e.1), room_single new new' r s h g)

pub legs_laid_unique : (n A W : ℕ) (rs : List Row) (l l' : List Leg) → LegsLaid n A W rs l → LegsLaid n A W rs l' → l ≡ l'
legs_laid_unique n A W rs l l' a b = a.is ∙ sym b.is

-- and so are a room for legs with its links: their number, the whole room, and all links
pub legs_linked_unique : (A W : ℕ) (rs : List Row) (room : List Leg) (old : Links) (count count' : ℕ) (l l' : List Leg) (new new' : Links)
    → Copied 1 alone (legs_of A W rs) room count l → AllLinked (take count l) old new
    → Copied 1 alone (legs_of A W rs) room count' l' → AllLinked (take count' l') old new'
    → (count ≡ count') × ((l ≡ l') × (new ≡ new'))
legs_linked_unique A W rs room old count count' l l' new new' c a d b =
    let e = copied_single c d in
    let same : take count l ≡ take count' l' = cc (e.0, e.1) in
    (e.0, (e.1, links_single (subst (λ (ls : List Leg). AllLinked ls old new) same a) b))

pub lay_legs_unique : (A W : ℕ) (rs : List Row) (room : List Leg) (old : Links) (count count' : ℕ) (l l' : List Leg) (new new' : Links)
    → LegsLinked A W rs room old count l new → LegsLinked A W rs room old count' l' new' → (count ≡ count') × ((l ≡ l') × (new ≡ new'))
lay_legs_unique A W rs room old count count' l l' new new' a b = legs_linked_unique A W rs room old count count' l l' new new' a.copied a.linked b.copied b.linked
