-- Each byte that the test passes is a digit, and the one that it refuses is none.
use Rattle.std.proofs.Common.{ℕ, ◌<◌, Bool, true, false, List, length, MatchBool, refl, rules}
use Rattle.std.specs.List.{HoldsAt, AllWithin}
use Rattle.std.proofs.lemmas.Iterator.{cases_from_all, YieldsList-from_slice}
use Rattle.std.proofs.lemmas.List.Elements.{All-from_all_within}
use Rattle.frames.specs.Parts.{Decides, IsDigit, AllDigits}
use Rattle.frames.proofs.Laws.Bytes.{digit_from_class, no_digit}
use Rattle.frames.proofs.digits.all_digits.Goals as goal

abbrev IsNoDigit : ℕ → Type 0
IsNoDigit b = IsDigit b → ⊥

decided : (r : Bool) (line : List ℕ) → MatchBool r (AllWithin IsDigit line 0 (length line)) ((k : ℕ) × (k < length line) × HoldsAt IsNoDigit line k) → Decides (AllDigits line) r
decided true line h = All-from_all_within IsDigit line h
decided false line w = λ h. w.2 0 (h w.0 0 w.1)

pub returns : goal.returns
returns c = decided _ _ (cases_from_all _ _ _ IsDigit IsNoDigit c.all.ensures.ran (YieldsList-from_slice c.args.line.now (cc)) (λ x q k. (refl, digit_from_class x.now (search rules))) (λ x q k. no_digit x.now (search rules)))
