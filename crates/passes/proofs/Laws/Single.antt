-- A leg is read, and legs are linked, in one way.
use Rattle.std.specs.Prelude.{ℕ, ◌≤◌, ◌<◌, ◌≡◌, List, get_or, length}
use Rattle.std.proofs.Common.{sym, ◌∙◌, arith, ext_get_or}
use Rattle.std.proofs.Math.Decide.{dec_le}
use Rattle.passes.specs.declared.legs.Leg as declared
use Rattle.passes.specs.Legs.{LegRead}
use Rattle.passes.specs.Links.{Beside, AllLinked}
use Rattle.passes.specs.declared.links.Links.{Links}

pub leg_single : {list : List declared.Leg} {j : ℕ} (l m : declared.Leg) → LegRead list j l → LegRead list j m → l ≡ m
leg_single l m h g = h.is ∙ sym g.is

-- an array that is told at each leg, and kept beside, is one
beside_single : {list : List declared.Leg} {old new new' : List ℕ} → Beside list 0 old new → Beside list 0 old new' → ((x : ℕ) → 0 < x → x ≤ length list → get_or new x 0 ≡ get_or new' x 0) → new ≡ new'
beside_single {list} {old} {new} {new'} h g same = ext_get_or 0 new new' (h.same_length ∙ sym g.same_length) (λ x l. go x (dec_le x 0) (dec_le x (length list)))
  where
    go : (x : ℕ) → Dec (x ≤ 0) → Dec (x ≤ length list) → get_or new x 0 ≡ get_or new' x 0
    go x (yes l) d = h.below x l ∙ sym (g.below x l)
    go x (no l) (yes d) = same x (omega arith) d
    go x (no l) (no d) = h.beyond x (omega arith) ∙ sym (g.beyond x (omega arith))

pub links_single : {list : List declared.Leg} {old new new' : Links} → AllLinked list old new → AllLinked list old new' → new ≡ new'
links_single {new = new} {new' = new'} a b =
    let heads = ext_get_or 0 new.head new'.head (a.head_length ∙ sym b.head_length) (λ u l. a.linked.heads u (omega (arith, a.head_length)) ∙ sym (b.linked.heads u (omega (arith, a.head_length)))) in
    let nexts = beside_single a.next_kept b.next_kept (λ x l m. a.linked.threads.nexts x l m ∙ sym (b.linked.threads.nexts x l m)) in
    let follows = beside_single a.follow_kept b.follow_kept (λ x l m. a.linked.threads.follows x l m ∙ sym (b.linked.threads.follows x l m)) in
    λ i. record { head = heads i; next = nexts i; follow = follows i }
