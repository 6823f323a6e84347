-- Bytes put one after another, and lines put together of such parts.
use Rattle.std.proofs.Common.{ℕ, ◌+◌, ◌≤◌, ◌≡◌, refl, List, [], ◌∷◌, ◌++◌, length, length-append, arith}
use Rattle.printing.specs.Lines.{Word, letters, numeral, as_letters, space, newline, Spaced, last, LineOf}
use Rattle.printing.specs.Parts.{line_room, Puts, PutsNumber, PutsLine}
use Rattle.printing.specs.Laws.Spelling.{spaced_next}
use Rattle.printing.specs.Laws.Puts.{puts_next}

-- some words are put at a place, in `most` bytes at most
pub record PutsWords (ws : List Word) (most at : ℕ) (old : List ℕ) (end : ℕ) (new : List ℕ) : Type 0 where
  pub text : List ℕ
  pub spaced : Spaced ws text
  pub short : length text ≤ most
  pub puts : Puts at text old end new

-- what one more part makes of the words before it

module _ {at end : ℕ} {old new : List ℕ} where
  pub number_first : {x : ℕ} → PutsNumber [] x at old end new → PutsWords (numeral x ∷ []) 20 at old end new
  number_first p = record { text = p.text; spaced = last p.spelt; short = p.short; puts = p.puts }

  pub letters_first : {text : List ℕ} → Puts at text old end new → PutsWords (letters text ∷ []) (length text) at old end new
  letters_first {text} p = record { text = text; spaced = last as_letters; short = omega arith; puts = p }

  pub field_next : {x most middle : ℕ} {between : List ℕ} {ws : List Word} → PutsWords ws most at old middle between → PutsNumber (space ∷ []) x middle between end new
      → PutsWords (ws ++ (numeral x ∷ [])) (most + 21) at old end new
  field_next {x} {ws = ws} p q =
      record {
        text = p.text ++ (space ∷ q.text);
        spaced = spaced_next ws p.text (numeral x) q.text p.spaced q.spelt;
        short = simp length-append (omega (arith, p.short, q.short));
        puts = puts_next p.puts q.puts;
      }

  -- a line that was put, in the room as it is then
  pub line_as_put : {text : List ℕ} {ws : List Word} {room : List ℕ} → LineOf ws text → length text ≤ line_room → Puts at text old end new → room ≡ new → PutsLine ws at old end room
  line_as_put {text} {ws} {room} l h p e = record { text = text; line = l; short = h; puts = rw e p }

  pub line_end : {most middle : ℕ} {between : List ℕ} {ws : List Word} {room : List ℕ} → PutsWords ws most at old middle between → Puts middle (newline ∷ []) between end new → most + 1 ≤ line_room → room ≡ new
      → PutsLine ws at old end room
  line_end p q h e =
      line_as_put (record { before = p.text; spaced = p.spaced; whole = refl }) (simp length-append (omega (arith, p.short))) (puts_next p.puts q) e

  -- a number put after bytes that were put
  pub number_after : {x : ℕ} {bytes : List ℕ} {middle : ℕ} {between : List ℕ} → Puts at bytes old middle between → PutsNumber [] x middle between end new → PutsNumber bytes x at old end new
  number_after p q = record { text = q.text; spelt = q.spelt; short = q.short; puts = puts_next p q.puts }
