-- What the table depends on: of the list, that it is fit, and the asker's rows.
use Rattle.std.specs.Prelude.{ℕ, suc, ◌%◌, ◌≤◌, ◌<◌, ◌≡◌, refl, ◌≢◌, Bool, true, false, cond, List, [], ◌∷◌, length}
use Rattle.std.proofs.Common.{sym, subst, inl, inr, arith}
use Rattle.rules.specs.Day.{most_rows, row_width, Row, rows_of, sees, own, Ask}
use Rattle.rules.specs.Table.{check_2, Takes, table_of_rows, table, Clear, Refuses}
use Rattle.rules.specs.Struck.{Fit, struck, SameToAsker}
use Rattle.rules.proofs.Laws.Rows.{rows_of_numbers, numbers_whole}

fit_not_1 : {l : List ℕ} → Fit l → (p : ℕ) → (p ≡ 0) × (length l % row_width ≢ 0) → ⊥
fit_not_1 f p x = x.1 f.whole

fit_not_2 : {l : List ℕ} → Fit l → (p : ℕ) → (p ≡ 0) × (most_rows < length (rows_of l)) → ⊥
fit_not_2 f p x = omega arith

module _ {asker : ℕ} {list other : List ℕ} (s : SameToAsker asker list other) (n A W : ℕ) (t : Takes) where
  abbrev one : Ask
  one = record { list = list; n = n; asker = asker; A = A; W = W }

  abbrev two : Ask
  two = record { list = other; n = n; asker = asker; A = A; W = W }

  pub clear_carries : Clear (table one t) → Clear (table two t)
  clear_carries h =
      (fit_not_1 s.other_fit, (fit_not_2 s.other_fit, subst (λ (rs : List Row). Clear (table_of_rows rs two t)) s.same_rows h.1.1))

  pub refusal_carries : (k p : ℕ) → Refuses (table one t) k p → Refuses (table two t) k p
  refusal_carries k p (inl x) = absurd (fit_not_1 s.fit p x.1)
  refusal_carries k p (inr x) = inr (fit_not_1 s.other_fit, go x.1)
    where
      go : Refuses (check_2 list ∷ table_of_rows (own asker (rows_of list)) one t) k p
          → Refuses (check_2 other ∷ table_of_rows (own asker (rows_of other)) two t) k p
      go (inl y) = absurd (fit_not_2 s.fit p y.1)
      go (inr y) = subst (λ (rs : List Row). Refuses (check_2 other ∷ table_of_rows rs two t) k p) s.same_rows (inr (fit_not_2 s.other_fit, y.1))

pub same_back : {asker : ℕ} {list other : List ℕ} → SameToAsker asker list other → SameToAsker asker other list
same_back s = record { fit = s.other_fit; other_fit = s.fit; same_rows = sym s.same_rows }

-- the struck list is fit, and has the same rows of the asker

pub own_shorter : (asker : ℕ) (rs : List Row) → length (own asker rs) ≤ length rs
unfolding own
own_shorter asker [] = omega arith
own_shorter asker (r ∷ rs) = go (sees asker r) (own_shorter asker rs)
  where
    go : (b : Bool) → length (own asker rs) ≤ length rs → length (cond b (r ∷ own asker rs) (own asker rs)) ≤ suc (length rs)
    go true h = omega arith
    go false h = omega arith

own_again : (asker : ℕ) (rs : List Row) → own asker (own asker rs) ≡ own asker rs
unfolding own
own_again asker [] = refl
own_again asker (r ∷ rs) = go (sees asker r) refl (own_again asker rs)
  where
    go : (b : Bool) → sees asker r ≡ b → own asker (own asker rs) ≡ own asker rs → own asker (cond b (r ∷ own asker rs) (own asker rs)) ≡ cond b (r ∷ own asker rs) (own asker rs)
    go true e h = rw (e, h)
    go false e h = h

-- the asker's rows of the struck-out list are the asker's rows
pub own_of_struck : (asker : ℕ) (list : List ℕ) → own asker (rows_of (struck asker list)) ≡ own asker (rows_of list)
own_of_struck asker list = rw (rows_of_numbers (own asker (rows_of list))) (own_again asker (rows_of list))

pub same_to_struck : (asker : ℕ) (list : List ℕ) → Fit list → SameToAsker asker list (struck asker list)
same_to_struck asker list f =
    record {
      fit = f;
      other_fit =
          record {
            whole = numbers_whole (own asker (rows_of list));
            few = rw (rows_of_numbers (own asker (rows_of list))) (omega (arith, own_shorter asker (rows_of list)));
          };
      same_rows = sym (own_of_struck asker list);
    }
