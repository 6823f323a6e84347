-- A list that is filled from the front, one place after another.
use Rattle.std.specs.Prelude.{ℕ, zero, suc, ◌+◌, ◌<◌, ◌≡◌, refl, List, [], ◌∷◌, ◌++◌, length, get_or, set, take, drop}
use Rattle.std.proofs.Common.{arith, sym, ap, subst, ◌∙◌, append_assoc, drop-cons, add-one}
use Rattle.std.proofs.lemmas.List.{set-get_or, get_or-take}
use lib.Seq.{get_or-append-add, get_or-drop, set_at}
use Rattle.rules.specs.Words.{things_from}
use Rattle.rules.proofs.Laws.Written.{length_things}

-- k places hold the things, and the rest is kept
abbrev pub Filled : (thing : ℕ → ℕ) (old : List ℕ) (k : ℕ) → List ℕ → Type 0
Filled thing old k xs = xs ≡ things_from thing k 0 ++ drop k old

things_last : (thing : ℕ → ℕ) (k i : ℕ) → things_from thing (suc k) i ≡ things_from thing k i ++ thing (k + i) ∷ []
unfolding things_from
things_last thing zero i = let e : 0 + i ≡ i = omega arith in rw e
things_last thing (suc k) i = let e : suc k + i ≡ k + suc i = omega arith in rw e (ap (λ (xs : List ℕ). thing i ∷ xs) (things_last thing k (suc i)))

pub fill_none : (thing : ℕ → ℕ) (old : List ℕ) → Filled thing old 0 old
unfolding things_from
fill_none thing old = refl

module _ (thing : ℕ → ℕ) (old xs : List ℕ) (k : ℕ) (h : Filled thing old k xs) where
  pub fill_one : (x : ℕ) → k < length old → x ≡ thing k → Filled thing old (k + 1) (set xs k x)
  fill_one x l e =
      let z : k + 0 ≡ k = omega arith in
      rw (h, e, drop-cons old k 0 l, set_at (things_from thing k 0) (get_or old k 0) (drop (suc k) old) (thing k) k (length_things thing k 0), add-one k, things_last thing k 0, z)
      (sym (append_assoc (things_from thing k 0) (thing k ∷ []) (drop (suc k) old)))

  -- a place that holds its thing already
  pub fill_kept : k < length old → get_or xs k 0 ≡ thing k → Filled thing old (k + 1) xs
  fill_kept l e = subst (Filled thing old (k + 1)) (set-get_or xs k 0) (fill_one (get_or xs k 0) l e)

-- those not filled yet are as they were
pub fill_reads : (thing : ℕ → ℕ) (all xs : List ℕ) (n k : ℕ) → Filled thing (take n all) k xs → k < n → get_or xs k 0 ≡ get_or all k 0
fill_reads thing all xs n k h l =
    let e : length (things_from thing k 0) + 0 ≡ k = omega (arith, length_things thing k 0) in
    let z : k + 0 ≡ k = omega arith in
    rw h ((rw e at (get_or-append-add (things_from thing k 0) (drop k (take n all)) 0 0)) ∙ (get_or-drop k (take n all) 0 0 ∙ (rw z (get_or-take n all k 0 l))))
