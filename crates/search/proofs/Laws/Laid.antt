-- The numbers of pivots are laid out in one way.
use Rattle.std.specs.Prelude.{ℕ, suc, ◌<◌, ◌≡◌, refl, List, [], ◌∷◌, length, drop}
use Rattle.std.proofs.Common.{sym, ◌∙◌, arith}
use Rattle.std.proofs.Math.Decide.{dec_lt}
use mathlib.Core.List.{Memᴰ}
use Rattle.std.proofs.Math.ListN.{get_or-append}
use Rattle.rules.specs.Words.{At, at_first, at_later}
use Rattle.rules.specs.Pivots.{Pivot}
use Rattle.rules.proofs.Laws.Good.{at_member, at_below, at_same}
use Rattle.search.specs.declared.pivots.PivotNumbers.{PivotNumbers}
use Rattle.search.specs.Pivots.{LaidOut, PivotsLaid}
use Rattle.search.proofs.Laws.Pivoted.{pivot_at_lem}

-- lists of one length with the same at each place are one list
at_each : {A : Type 0} (xs ys : List A) → length xs ≡ length ys → ((i : ℕ) (x y : A) → At xs i x → At ys i y → x ≡ y) → xs ≡ ys
at_each [] [] e h = refl
at_each [] (y ∷ ys) e h = absurd (omega arith)
at_each (x ∷ xs) [] e h = absurd (omega arith)
at_each (x ∷ xs) (y ∷ ys) e h = cc (h 0 x y at_first at_first, at_each xs ys (omega arith) (λ i a b p q. h (suc i) a b (at_later p) (at_later q)))

module _ (n : ℕ) (pivots : List Pivot) (onward into : Pivot → List ℕ) where
  pub pivots_laid_single : (old new new' : List PivotNumbers) → PivotsLaid n pivots onward into old new → PivotsLaid n pivots onward into old new' → new ≡ new'
  pivots_laid_single old new new' h g = at_each new new' (h.same_length ∙ sym g.same_length) (λ i x y a b. go i x y a b (dec_lt i (length pivots)))
    where
      go : (i : ℕ) (x y : PivotNumbers) → At new i x → At new' i y → Dec (i < length pivots) → x ≡ y
      go i x y a b (yes l) =
          let p = pivot_at_lem pivots i l in
          let z = pivot_at_lem old i (omega (arith, h.same_length, at_below a)) in
          at_same a (h.laid i p.0 z.0 p.1 z.1) ∙ sym (at_same b (g.laid i p.0 z.0 p.1 z.1))
      go i x y a b (no l) =
          let z = pivot_at_lem old i (omega (arith, h.same_length, at_below a)) in
          at_same a (h.kept i z.0 (omega arith) z.1) ∙ sym (at_same b (g.kept i z.0 (omega arith) z.1))

  -- where there are no more numbers than pivots, each pivot's own stand in the list
  pub laid_out : (old new : List PivotNumbers) → PivotsLaid n pivots onward into old new → length old ≡ length pivots
      → ((p : Pivot) → Memᴰ p pivots → (length (onward p) ≡ n) × (length (into p) ≡ n)) → LaidOut n pivots onward into new
  laid_out old new h e long =
      record {
        count = h.same_length ∙ e;
        each =
            λ i p x a b.
            let z = pivot_at_lem old i (omega (arith, e, at_below a)) in
            let s = at_same b (h.laid i p z.0 a z.1) in
            rw s
            (record {
              onward = λ v l. get_or-append (onward p) (drop n (z.0).onward) 0 v (omega (arith, (long p (at_member a)).0));
              into = λ u l. get_or-append (into p) (drop n (z.0).into) 0 u (omega (arith, (long p (at_member a)).1));
            });
      }
