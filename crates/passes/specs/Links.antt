-- Links between legs. A leg goes by its number, one more than its place in the list; 0 stands for no leg.
use Rattle.std.specs.Prelude.{ℕ, suc, ◌-◌, ◌≤◌, ◌<◌, ◌≡◌, refl, cond, ◌&&◌, List, [], ◌∷◌, eqb, leb, length, get_or, drop, replicate}
use Rattle.rules.specs.Day.{Row, arrival, Sound, most_stops, most_rows}
use Rattle.rules.specs.Faultless.{Good, good_none, good_more}
use Rattle.passes.specs.Legs.{leg_at, legs_in}
use Rattle.passes.specs.declared.legs.Leg as declared
use Rattle.passes.specs.declared.links.Links.{Links}
use Rattle.std.specs.Coded.{le_prop}
use Rattle.std.proofs.Props.{props}

-- an array over the numbers of legs has a place for each, and one for none
abbrev pub link_places : ℕ
link_places = 2049

-- the leg with number k
abbrev pub leg_no : List declared.Leg → ℕ → Row
leg_no list k = leg_at list (k - 1)

-- the legs with numbers above k
abbrev pub legs_past : List declared.Leg → ℕ → List Row
legs_past list k = legs_in (drop k list)

-- a list of legs that can be linked
pub record Orderly (list : List declared.Leg) : Type 0 where
  pub few : length list ≤ most_rows
  pub good : Good most_stops (legs_in list)

-- of some legs, with numbers above k, the number of the first that leaves stop s at t or later
unfoldable pub first_of : (s t k : ℕ) → List Row → ℕ
first_of s t k [] = 0
first_of s t k (r ∷ rs) = let rest = first_of s t (suc k) rs in cond (eqb r.from s && leb t r.start) (suc k) rest

-- the first leg with a number above k that leaves stop s at t or later
abbrev pub first_past : List declared.Leg → (k s t : ℕ) → ℕ
first_past list k s t = first_of s t k (legs_past list k)

-- leg k, or the next one of its from-stop that starts at t or later
abbrev pub onward : List declared.Leg → (k t : ℕ) → ℕ
onward list k t = cond (eqb k 0) 0 (first_past list (k - 1) (leg_no list k).from t)

-- a leg with a number above k that leaves stop s, or none
pub record Leaving (list : List declared.Leg) (k s q : ℕ) : Type 0 where
  pub later : 1 ≤ q → k < q
  pub most : q ≤ length list
  pub leaves : 1 ≤ q → (leg_no list q).from ≡ s

-- a jump from leg k: to a later leg of the same from-stop, or to none
abbrev pub Jump : List declared.Leg → (k q : ℕ) → Type 0
Jump list k q = Leaving list k (leg_no list k).from q

-- the legs with numbers above k are in chains, one for each from-stop, with jumps along them
pub record Chained (list : List declared.Leg) (k : ℕ) (next jump : List ℕ) : Type 0 where
  pub nexts : (x : ℕ) → k < x → x ≤ length list → get_or next x 0 ≡ first_past list x (leg_no list x).from 0
  pub jumps : (x : ℕ) → k < x → x ≤ length list → Jump list x (get_or jump x 0)

-- a search for a start at t or later goes on to the leg that comes next, or far if that starts too early
pub data Farther (list : List declared.Leg) (near far t : ℕ) : ℕ → Type 0 where
  to_near : Farther list near far t near
  to_far : 1 ≤ far → (leg_no list far).start < t → Farther list near far t far

-- a jump goes to leg p itself, or as far as the second jump from there
pub data Twice (jump : List ℕ) (p : ℕ) : ℕ → Type 0 where
  to_next : Twice jump p p
  to_second : 1 ≤ p → 1 ≤ get_or jump p 0 → Twice jump p (get_or jump (get_or jump p 0) 0)

-- all numbers of a list are at most b
abbrev pub AllMost : (b : ℕ) → List ℕ → Type 0
AllMost b xs = (x : ℕ) → get_or xs x 0 ≤ b

-- after each leg with a number above k come the next one of its from-stop, and the first that may follow it
pub record Threaded (list : List declared.Leg) (k : ℕ) (next follow : List ℕ) : Type 0 where
  pub nexts : (x : ℕ) → k < x → x ≤ length list → get_or next x 0 ≡ first_past list x (leg_no list x).from 0
  pub follows : (x : ℕ) → k < x → x ≤ length list → get_or follow x 0 ≡ first_past list x (leg_no list x).to (arrival (leg_no list x))

-- the legs with numbers above k are linked: each stop has its first leg, and each leg what comes after it
pub record Linked (list : List declared.Leg) (k : ℕ) (head next follow : List ℕ) : Type 0 where
  pub heads : (u : ℕ) → u < most_stops → get_or head u 0 ≡ first_past list k u 0
  pub threads : Threaded list k next follow

-- an array over the numbers of legs is written at the legs' numbers above k alone
pub record Beside (list : List declared.Leg) (k : ℕ) (old new : List ℕ) : Type 0 where
  pub same_length : length new ≡ length old
  pub below : (x : ℕ) → x ≤ k → get_or new x 0 ≡ get_or old x 0
  pub beyond : (x : ℕ) → length list < x → get_or new x 0 ≡ get_or old x 0

-- no leg is linked
abbrev pub no_links : Links
no_links = record { head = replicate most_stops 0; next = replicate link_places 0; follow = replicate link_places 0 }

-- all legs are linked, and the places that belong to no leg are kept
pub record AllLinked (list : List declared.Leg) (old new : Links) : Type 0 where
  pub linked : Linked list 0 new.head new.next new.follow
  pub head_length : length new.head ≡ most_stops
  pub next_kept : Beside list 0 old.next new.next
  pub follow_kept : Beside list 0 old.follow new.follow

-- each of these facts has one proof
sound_prop : (n : ℕ) (r : Row) → IsProp (Sound n r)
sound_prop n r = Prim.hlevel props

pub good_prop : (n : ℕ) (rs : List Row) → IsProp (Good n rs)
good_prop n [] good_none good_none = refl
good_prop n (r ∷ rs) (good_more s up g) (good_more s' up' g') =
    λ i. good_more (sound_prop n r s s' i) (λ q m. le_prop (up q m) (up' q m) i) (good_prop n rs g g' i)

pub orderly_prop : (list : List declared.Leg) → IsProp (Orderly list)
orderly_prop list x y = λ i. record { few = le_prop x.few y.few i; good = good_prop most_stops (legs_in list) x.good y.good i }

pub linked_prop : (list : List declared.Leg) (k : ℕ) (head next follow : List ℕ) → IsProp (Linked list k head next follow)
linked_prop list k head next follow = Prim.hlevel props
