-- What holds of a call's answers holds of its replies.
use Rattle.std.specs.Prelude.{ℕ, ◌≡◌, refl, ◌↔◌, List}
use Rattle.std.proofs.Common.{ap, ◌∙◌}
use Rattle.std.proofs.Math.Path.{sym}
use Rattle.figures_c.specs.Reply.{Replied}

module _ {R : Type 0} (reply_of : R → List ℕ) (P P' : R → Type 0) where
  -- where two promises leave one answer, their replies are equal, and so is whatever else (`E`) follows
  pub replied_same : {E : Type 0} → ((r r' : R) → P r → P' r' → (r ≡ r') × E) → (x x' : List ℕ) → Replied reply_of P x → Replied reply_of P' x' → (x ≡ x') × E
  unfolding Replied
  replied_same one x x' h g = let e = one h.0 g.0 h.1 g.1 in (h.2 ∙ (ap reply_of e.0 ∙ sym g.2), e.1)

  pub replied_carries : ((r : R) → P r ↔ P' r) → (x : List ℕ) → Replied reply_of P x ↔ Replied reply_of P' x
  unfolding Replied
  replied_carries f x = (λ h. (h.0, (f h.0).0 h.1, h.2), λ h. (h.0, (f h.0).1 h.1, h.2))

pub replied : {R : Type 0} (reply_of : R → List ℕ) (P : R → Type 0) (r : R) → P r → Replied reply_of P (reply_of r)
unfolding Replied
replied reply_of P r h = (r, h, refl)
