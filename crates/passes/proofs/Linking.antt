-- Legs linked one after another, from the last to the first.
use Prim.Native.Nat.{ℕ, zero, suc, ◌+◌, ◌-◌, ◌≤◌, ◌<◌}
use mathlib.Core.Path.{◌≡◌, refl, sym, ap, ◌∙◌}
use mathlib.Core.List.{List}
use native.Mathlib.Omega.{arith}
use native.Mathlib.Decide.{dec_lt, ℕ_discrete}
use lib.ListN.{length, get_or, set, replicate, length-set, length-replicate}
use lib.Seq.{get_or-set_same, get_or-set_other, set_out}
use Rattle.rules.specs.Day.{arrival, Sound, most_stops, most_rows}
use Rattle.passes.specs.Legs.{no_leg, LegRead}
use Rattle.passes.specs.declared.legs.Leg as declared
use Rattle.passes.specs.Links.{link_places, leg_no, Orderly, first_past, onward, Jump, Chained, Twice, to_next, to_second, AllMost, Linked, Beside}
use Rattle.passes.proofs.Laws.Links.{head_within, none_past, first_leaves, first_missed, first_hit, onward_first, leg_sound}

-- what holds at each number above k, and of what is stored at k, holds at each number above k - 1
pub stored : (P : ℕ → ℕ → Type 0) (m k v : ℕ) (xs : List ℕ) → k < length xs → ((x : ℕ) → k < x → x ≤ m → P x (get_or xs x 0)) → P k v → (x : ℕ) → k - 1 < x → x ≤ m → P x (get_or (set xs k v) x 0)
stored P m k v xs inside above here x l h = go (ℕ_discrete x k)
  where
    go : Dec (x ≡ k) → P x (get_or (set xs k v) x 0)
    go (yes e) = rw (e, get_or-set_same xs k v 0 inside) here
    go (no e) = rw (get_or-set_other xs k x v 0 e) (above x (omega arith) h)

-- an array that is written at k too
pub beside_one : (list : List declared.Leg) (k v : ℕ) (old xs : List ℕ) → 1 ≤ k → k ≤ length list → Beside list k old xs → Beside list (k - 1) old (set xs k v)
beside_one list k v old xs one within b =
    record {
      same_length = length-set xs k v ∙ b.same_length;
      below = λ x l. get_or-set_other xs k x v 0 (λ e. omega (arith, e)) ∙ b.below x (omega arith);
      beyond = λ x l. get_or-set_other xs k x v 0 (λ e. omega (arith, e)) ∙ b.beyond x l;
    }

pub beside_none : (list : List declared.Leg) (k : ℕ) (old : List ℕ) → Beside list k old old
beside_none list k old = record { same_length = refl; below = λ x l. refl; beyond = λ x l. refl }

pub all_most_set : (b c k v : ℕ) (xs : List ℕ) → b ≤ c → AllMost b xs → v ≤ c → AllMost c (set xs k v)
all_most_set b c k v xs le all most x = go (ℕ_discrete x k) (dec_lt k (length xs))
  where
    go : Dec (x ≡ k) → Dec (k < length xs) → get_or (set xs k v) x 0 ≤ c
    go (yes e) (yes d) = rw (e, get_or-set_same xs k v 0 d) most
    go (yes e) (no d) = rw (set_out xs k v (omega arith)) (omega (arith, all x))
    go (no e) d = rw (get_or-set_other xs k x v 0 e) (omega (arith, all x))

pub get_or_same : (n x a : ℕ) → get_or (replicate n a) x a ≡ a
get_or_same zero x a = refl
get_or_same (suc n) zero a = refl
get_or_same (suc n) (suc x) a = get_or_same n x a

pub jump_trans : {list : List declared.Leg} {k p q : ℕ} → 1 ≤ p → Jump list k p → Jump list p q → Jump list k q
jump_trans one a b =
    record { later = λ h. omega (arith, a.later one, b.later h); most = b.most; leaves = λ h. b.leaves h ∙ a.leaves one }

-- the legs with numbers above k are linked and have their jumps
pub record Linking (list : List declared.Leg) (k : ℕ) (head next follow jump depth : List ℕ) : Type 0 where
  pub linked : Linked list k head next follow
  pub jumps : (x : ℕ) → k < x → x ≤ length list → Jump list x (get_or jump x 0)
  pub jump_most : AllMost most_rows jump
  pub depth_most : AllMost (length list - k) depth
  pub head_long : length head ≡ most_stops
  pub next_long : length next ≡ link_places
  pub follow_long : length follow ≡ link_places
  pub jump_long : length jump ≡ link_places

pub linking_none : (list : List declared.Leg) (next follow : List ℕ) → length next ≡ link_places → length follow ≡ link_places
    → Linking list (length list) (replicate 256 0) next follow (replicate 2049 0) (replicate 2049 0)
linking_none list next follow n f =
    record {
      linked =
          record {
            heads = λ u l. get_or_same 256 u 0 ∙ sym (none_past list (length list) u 0 (omega arith));
            threads = record { nexts = λ x l h. absurd (omega arith); follows = λ x l h. absurd (omega arith) };
          };
      jumps = λ x l h. absurd (omega arith);
      jump_most = λ x. omega (arith, get_or_same 2049 x 0);
      depth_most = λ x. omega (arith, get_or_same 2049 x 0);
      head_long = length-replicate {A = ℕ} 256 0;
      next_long = n;
      follow_long = f;
      jump_long = length-replicate {A = ℕ} 2049 0;
    }

-- a leg that is read goes between stops
module _ (list : List declared.Leg) (k : ℕ) (leg : declared.Leg) (read : LegRead list (k - 1) leg) (fit : Orderly list) (one : 1 ≤ k) (within : k ≤ length list) where
  pub from_stop : leg.from < most_stops
  from_stop = rw read.is (leg_sound list fit (k - 1) (omega arith)).from_below

  pub to_stop : leg.to < most_stops
  to_stop = rw read.is (leg_sound list fit (k - 1) (omega arith)).to_below

-- the first leg of a stop so far is one of the legs, and may be searched from
module _ (list : List declared.Leg) (k : ℕ) (head next follow jump depth : List ℕ) (w : Linking list k head next follow jump depth) (u : ℕ) (stop : u < most_stops) where
  pub first_within : get_or head u 0 ≤ length list
  first_within = head_within list head next follow k u w.linked stop

  pub first_small : Orderly list → get_or head u 0 ≤ most_rows
  first_small fit = omega (arith, fit.few, first_within)

  pub first_chained : 1 ≤ get_or head u 0 → Chained list (get_or head u 0 - 1) next jump
  first_chained some =
      let e = w.linked.heads u stop in
      let past : k < get_or head u 0 = rw e ((first_leaves list k u 0).later (rw e at some)) in
      record {
        nexts = λ x l m. w.linked.threads.nexts x (omega arith) m;
        jumps = λ x l m. w.jumps x (omega arith) m;
      }

module _ (list : List declared.Leg) (fit : Orderly list) (k : ℕ) (one : 1 ≤ k) (within : k ≤ length list) (head next follow jump depth : List ℕ) (w : Linking list k head next follow jump depth) where
  own_leg : Sound most_stops (leg_no list k)
  own_leg = leg_sound list fit (k - 1) (omega arith)

  -- the number of the leg after number k - 1
  number : suc (k - 1) ≡ k
  number = omega arith

  head_step : (u : ℕ) → u < most_stops → get_or (set head (leg_no list k).from k) u 0 ≡ first_past list (k - 1) u 0
  head_step u h = go (ℕ_discrete u (leg_no list k).from)
    where
      go : Dec (u ≡ (leg_no list k).from) → get_or (set head (leg_no list k).from k) u 0 ≡ first_past list (k - 1) u 0
      go (yes e) =
          rw (e, get_or-set_same head (leg_no list k).from k 0 (omega (arith, own_leg.from_below, w.head_long)))
          (sym (first_hit list (k - 1) (leg_no list k).from 0 (omega arith) refl (omega arith) ∙ number))
      go (no e) =
          get_or-set_other head (leg_no list k).from u k 0 e
          ∙ (w.linked.heads u h ∙ sym (first_missed list (k - 1) u 0 (omega arith) (λ x y. e (sym x)) ∙ ap (λ (j : ℕ). first_past list j u 0) number))

  -- the next leg of the chain is a jump, and so is one twice as far
  twice_jump : {q : ℕ} → Twice jump (get_or head (leg_no list k).from 0) q → Jump list k q
  twice_jump t = go (get_or head (leg_no list k).from 0) (w.linked.heads (leg_no list k).from own_leg.from_below) t
    where
      next_jump : (p : ℕ) → p ≡ first_past list k (leg_no list k).from 0 → Jump list k p
      next_jump p e = rw e (first_leaves list k (leg_no list k).from 0)

      go : (p : ℕ) {q : ℕ} → p ≡ first_past list k (leg_no list k).from 0 → Twice jump p q → Jump list k q
      go p e to_next = next_jump p e
      go p e (to_second some more) =
          let a = next_jump p e in
          let b = w.jumps p (a.later some) a.most in
          let c = w.jumps (get_or jump p 0) (omega (arith, a.later some, b.later more)) b.most in
          jump_trans some a (jump_trans more b c)

  pub linking_step : (f q : ℕ) → f ≡ onward list (get_or head (leg_no list k).to 0) (arrival (leg_no list k)) → Twice jump (get_or head (leg_no list k).from 0) q
      → Linking list (k - 1) (set head (leg_no list k).from k) (set next k (get_or head (leg_no list k).from 0)) (set follow k f) (set jump k q) (set depth k (get_or depth (get_or head (leg_no list k).from 0) 0 + 1))
  linking_step f q found twice =
      let few = fit.few in
      let depths = w.depth_most in
      record {
        linked =
            record {
              heads = head_step;
              threads = record {
                nexts =
                    stored (λ (x v : ℕ). v ≡ first_past list x (leg_no list x).from 0) (length list) k (get_or head (leg_no list k).from 0) next (omega (arith, w.next_long)) w.linked.threads.nexts
                    (w.linked.heads (leg_no list k).from own_leg.from_below);
                follows =
                    stored (λ (x v : ℕ). v ≡ first_past list x (leg_no list x).to (arrival (leg_no list x))) (length list) k f follow (omega (arith, w.follow_long)) w.linked.threads.follows
                    (found
                    ∙ (ap (λ (p : ℕ). onward list p (arrival (leg_no list k))) (w.linked.heads (leg_no list k).to own_leg.to_below) ∙ onward_first list k (leg_no list k).to (arrival (leg_no list k))));
              };
            };
        jumps = stored (Jump list) (length list) k q jump (omega (arith, w.jump_long)) w.jumps (twice_jump twice);
        jump_most = all_most_set most_rows most_rows k q jump (omega arith) w.jump_most (omega (arith, (twice_jump twice).most));
        depth_most =
            all_most_set (length list - k) (length list - (k - 1)) k (get_or depth (get_or head (leg_no list k).from 0) 0 + 1) depth (omega arith) w.depth_most
            (omega (arith, depths (get_or head (leg_no list k).from 0)));
        head_long = length-set head (leg_no list k).from k ∙ w.head_long;
        next_long = length-set next k _ ∙ w.next_long;
        follow_long = length-set follow k f ∙ w.follow_long;
        jump_long = length-set jump k q ∙ w.jump_long;
      }

  -- the same with the leg as it was read
  pub link_one : (leg : declared.Leg) (f q : ℕ) → LegRead list (k - 1) leg → f ≡ onward list (get_or head leg.to 0) leg.arrive.0 → Twice jump (get_or head leg.from 0) q
      → Linking list (k - 1) (set head leg.from k) (set next k (get_or head leg.from 0)) (set follow k f) (set jump k q) (set depth k (get_or depth (get_or head leg.from 0) 0 + 1))
  link_one leg f q read found twice =
      let arrives : (get_or list (k - 1) no_leg).arrive.0 ≡ arrival (leg_no list k) = omega (arith, own_leg.travels) in
      rw read.is (linking_step f q (rw (read.is, arrives) at found) (rw read.is at twice))
