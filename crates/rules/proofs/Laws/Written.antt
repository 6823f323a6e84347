-- Lists of things: read from places, written as numbers, copied to the front of a list.
use Prim.Native.Nat.{ℕ, zero, suc, ◌+◌, ◌*◌, ◌-◌, ◌≤◌, ◌<◌}
use Rattle.std.specs.Prelude.{◌≡◌, Bool, true, false, cond, length, take, drop}
use Rattle.std.proofs.Math.Path.{refl, sym, ap}
use Rattle.std.proofs.Common.{◌∙◌, zero-mul, take-append-drop, length-take-le}
use mathlib.Core.List.Memᴰ
use mathlib.Core.List.{List, [], ◌∷◌, ◌++◌, append_assoc, append-nil, Memᴰ}
use native.Mathlib.Omega.{arith}
use Rattle.std.proofs.Math.Nat.{suc-mul}
use Rattle.std.proofs.Math.Numerals.{add-one}
use Rattle.std.proofs.Math.ListN.{length-append}
use Rattle.std.proofs.lemmas.List.Edits.{sets, sets-eq}
use Rattle.std.proofs.Math.Seq.{length-sets, take_at, drop_at, drop-drop}
use Rattle.rules.specs.Words.{things_from, written}
use Rattle.rules.specs.Lent.{Kept, Copied}

module _ {A : Type 0} (thing : ℕ → A) where
  pub length_things : (k i : ℕ) → length (things_from thing k i) ≡ k
  unfolding things_from
  length_things zero i = refl
  length_things (suc k) i = ap suc (length_things k (suc i))

  -- of m things those from thing i on: thing i, and then the rest
  pub things_more : (m i : ℕ) → i < m → things_from thing (m - i) i ≡ thing i ∷ things_from thing (m - (i + 1)) (i + 1)
  unfolding things_from
  things_more m i h = let e : m - i ≡ suc (m - (i + 1)) = omega arith in rw (e, add-one i)

  pub things_end : (m i : ℕ) → m ≤ i → things_from thing (m - i) i ≡ []
  unfolding things_from
  things_end m i h = let e : m - i ≡ 0 = omega arith in rw e

  -- each of them is a thing at its place
  pub things_member : (k i : ℕ) (x : A) → Memᴰ x (things_from thing k i) → (j : ℕ) × (i ≤ j) × (j < i + k) × (x ≡ thing j)
  unfolding things_from
  things_member zero i x m = absurd (Memᴰ.not-nil m)
  things_member (suc k) i x (Memᴰ.head e) = (i, omega arith, omega arith, e)
  things_member (suc k) i x (Memᴰ.tail m) = let t = things_member k (suc i) x m in (t.0, omega (arith, t.1), omega (arith, t.2), t.3)

  -- where each thing is the next of the others, so are the lists of them
  pub things_shift : (other : ℕ → A) → ((i : ℕ) → thing (suc i) ≡ other i) → (k i : ℕ) → things_from thing k (suc i) ≡ things_from other k i
  unfolding things_from
  things_shift other h zero i = refl
  things_shift other h (suc k) i = cc (h i, things_shift other h k (suc i))

module _ {A B : Type 0} (width : ℕ) (parts : A → List B) (wide : (x : A) → length (parts x) ≡ width) where
  pub length_written : (xs : List A) → length (written parts xs) ≡ length xs * width
  unfolding written
  length_written [] = sym (zero-mul width)
  length_written (x ∷ xs) = length-append (parts x) (written parts xs) ∙ omega (arith, wide x, length_written xs, suc-mul (length xs) width)

  -- what reads one thing, and the next past it, reads all that is written
  pub written_read : (at : List B → ℕ → A) → ((x : A) (list : List B) (i : ℕ) → at (parts x ++ list) (suc i) ≡ at list i)
      → (xs : List A) → ((x : A) → Memᴰ x xs → (list : List B) → at (parts x ++ list) 0 ≡ x) → things_from (at (written parts xs)) (length xs) 0 ≡ xs
  unfolding things_from written
  written_read at next [] first = refl
  written_read at next (x ∷ xs) first =
      cc (
        first x (Memᴰ.head refl) (written parts xs),
        things_shift (at (parts x ++ written parts xs)) (at (written parts xs)) (next x (written parts xs)) (length xs) 0,
        written_read at next xs (λ y m. first y (Memᴰ.tail m)),
      )

-- of the whole, `count` things are copied, and those left are yet to be
pub record Copying {A B : Type 0} (width : ℕ) (parts : A → List B) (whole left : List A) (old : List B) (count : ℕ) (new : List B) : Type 0 where
  pub front : take (count * width) new ++ written parts left ≡ written parts whole
  pub back : drop (count * width) new ≡ drop (count * width) old
  pub number : count + length left ≡ length whole
  pub long : length new ≡ length old

module _ {A B : Type 0} (width : ℕ) (parts : A → List B) (wide : (x : A) → length (parts x) ≡ width) where
  pub copy_none : (xs : List A) (old : List B) → Copying width parts xs xs old 0 old
  copy_none xs old = record { front = rw (zero-mul width); back = refl; number = omega arith; long = refl }

  copy_one : (whole xs : List A) (x : A) (old : List B) (count : ℕ) (new : List B) → count * width + width ≤ length new
      → Copying width parts whole (x ∷ xs) old count new → Copying width parts whole xs old (count + 1) (sets new (count * width) (parts x))
  unfolding written
  copy_one whole xs x old count new room h =
      record {
        front = rw (next, split, take_at front (drop (at + width) new) (at + width) fits) (append_assoc (take at new) (parts x) (written parts xs) ∙ h.front);
        back = rw (next, split, drop_at front (drop (at + width) new) (at + width) fits) (sym (drop-drop width at new) ∙ (ap (drop width) h.back ∙ drop-drop width at old));
        number = omega arith;
        long = length-sets new at (parts x) ∙ h.long;
      }
    where
      at : ℕ
      at = count * width

      front : List B
      front = take at new ++ parts x

      next : (count + 1) * width ≡ at + width
      next = rw (add-one count) (suc-mul count width)

      fits : length front ≡ at + width
      fits = length-append (take at new) (parts x) ∙ omega (arith, length-take-le at new (omega arith), wide x)

      split : sets new at (parts x) ≡ front ++ drop (at + width) new
      split = let e : at + length (parts x) ≤ length new = omega (arith, wide x) in rw (wide x) at (sets-eq (parts x) new at e)

  pub copy_step : (b : Bool) (whole xs : List A) (x : A) (old : List B) (count count' : ℕ) (new new' : List B) → count * width + width ≤ length new
      → Copying width parts whole (cond b (x ∷ xs) xs) old count new → Kept width parts b x count new count' new' → Copying width parts whole xs old count' new'
  copy_step true whole xs x old count count' new new' room h k = rw (k.number, k.list) (copy_one whole xs x old count new room h)
  copy_step false whole xs x old count count' new new' room h k = rw (k.number, k.list) h

  pub copy_end : (whole : List A) (old : List B) (count : ℕ) (new : List B) → Copying width parts whole [] old count new → Copied width parts whole old count new
  unfolding written
  copy_end whole old count new h =
      record {
        number = omega arith;
        list = sym (take-append-drop (count * width) new) ∙ rw (sym (append-nil (take (count * width) new)) ∙ h.front, h.back);
      }

-- what was copied stands at the front
pub copied_front : {A B : Type 0} (width : ℕ) (parts : A → List B) → ((x : A) → length (parts x) ≡ width) → {xs : List A} {old new : List B} {count : ℕ}
    → Copied width parts xs old count new → (end : ℕ) → end ≡ count * width → take end new ≡ written parts xs
copied_front width parts wide {xs} {old} {new} {count} c end e =
    let long : length (written parts xs) ≡ end = rw (sym c.number, sym e) at (length_written width parts wide xs) in
    rw c.list (take_at (written parts xs) (drop (count * width) old) end long)

pub kept_most : {A B : Type 0} {width : ℕ} {parts : A → List B} {b : Bool} {x : A} {count count' : ℕ} {new new' : List B} → Kept width parts b x count new count' new' → count' ≤ count + 1
kept_most {b = true} k = omega (arith, k.number)
kept_most {b = false} k = omega (arith, k.number)

-- a room has one content after the copying, and one count
pub copied_single : {A B : Type 0} {width : ℕ} {parts : A → List B} {xs : List A} {old new new' : List B} {count count' : ℕ}
    → Copied width parts xs old count new → Copied width parts xs old count' new' → (count ≡ count') × (new ≡ new')
copied_single {width = width} {parts = parts} {xs = xs} {old = old} h g =
    let e = h.number ∙ sym g.number in (e, h.list ∙ (ap (λ (k : ℕ). written parts xs ++ drop (k * width) old) e ∙ sym g.list))
