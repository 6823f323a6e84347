-- A list that is filled from the front, one place after another.
use Prim.Native.Nat.{ℕ, suc, ◌+◌, ◌<◌, ◌≤◌}
use mathlib.Core.Path.{◌≡◌, sym, ap, ◌∙◌}
use mathlib.Core.List.{List, [], ◌∷◌, ◌++◌, append_assoc, append-nil}
use native.Mathlib.Omega.{arith}
use native.Mathlib.Numerals.{add-one}
use lib.ListN.{length, get_or, set, take, drop}
use Rattle.std.proofs.Common.{drop_of_length-le}
use lib.Seq.{length-take-le, take-suc, take_all, drop-cons, set_at}

-- k places hold the new numbers, and the rest is kept
abbrev pub Filled : (new old : List ℕ) (k : ℕ) → List ℕ → Type 0
Filled new old k xs = xs ≡ take k new ++ drop k old

pub fill_one : (new old : List ℕ) (k v : ℕ) (xs : List ℕ) → k < length new → k < length old → Filled new old k xs → v ≡ get_or new k 0 → Filled new old (k + 1) (set xs k v)
fill_one new old k v xs a b h e =
    rw (h, e, drop-cons old k 0 b, set_at (take k new) (get_or old k 0) (drop (suc k) old) (get_or new k 0) k (length-take-le k new (omega arith)), add-one k, take-suc new k 0 a)
    (sym (append_assoc (take k new) (get_or new k 0 ∷ []) (drop (suc k) old)))

pub fill_end : (new old : List ℕ) (k : ℕ) (xs : List ℕ) → length new ≡ k → Filled new old k xs → xs ≡ new ++ drop k old
fill_end new old k xs e h = h ∙ ap (λ (l : List ℕ). l ++ drop k old) (take_all k new (omega arith))

-- a list of k places holds the new numbers alone
pub fill_whole : (new old : List ℕ) (k : ℕ) (xs : List ℕ) → length new ≡ k → length old ≡ k → Filled new old k xs → xs ≡ new
fill_whole new old k xs e f h =
    let b : length old ≤ k = omega arith in
    fill_end new old k xs e h ∙ (rw (drop_of_length-le old b) (append-nil new))
