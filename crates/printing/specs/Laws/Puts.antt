-- Texts put one after another.
use Rattle.std.specs.Prelude.{ℕ, ◌+◌, ◌-◌, ◌≡◌, refl, List, [], ◌++◌, take, drop}
use Rattle.std.proofs.Common.{arith, sym, ap, ◌∙◌, append-nil, append_assoc, length-append, take-append-drop, drop-drop}
use Rattle.printing.specs.Parts.{Puts}

pub puts_none : (at : ℕ) (old : List ℕ) → Puts at [] old at old
puts_none at old = record { after = omega arith; holds = sym (append-nil (take at old)); kept = refl }

-- what one text keeps, the next that stands after it keeps too
pub puts_next : {at middle end : ℕ} {text more old between new : List ℕ} → Puts at text old middle between → Puts middle more between end new → Puts at (text ++ more) old end new
puts_next {at} {middle} {end} {text} {more} {old} {between} {new} p q =
    let e : middle + (end - middle) ≡ end = omega (arith, q.after) in
    let back : drop end between ≡ drop end old = rw (sym e) (sym (drop-drop (end - middle) middle between) ∙ ap (drop (end - middle)) p.kept ∙ drop-drop (end - middle) middle old) in
    record {
      after = omega (arith, p.after, q.after, length-append text more);
      holds = q.holds ∙ ap (λ (l : List ℕ). l ++ more) p.holds ∙ append_assoc (take at old) text more;
      kept = q.kept ∙ back;
    }

-- a place and a text leave one end and one content
pub puts_single : {at end end' : ℕ} {text old new new' : List ℕ} → Puts at text old end new → Puts at text old end' new' → (end ≡ end') × (new ≡ new')
puts_single {at} {end} {end'} {text} {old} {new} {new'} p q =
    let e : end ≡ end' = p.after ∙ sym q.after in
    let front : take end new ≡ take end' new' = p.holds ∙ sym q.holds in
    let back : drop end new ≡ drop end' new' = p.kept ∙ ap (λ (k : ℕ). drop k old) e ∙ sym q.kept in
    (e, sym (take-append-drop end new) ∙ ap (λ (l : List ℕ). l ++ drop end new) front ∙ ap (λ (l : List ℕ). take end' new' ++ l) back ∙ take-append-drop end' new')
