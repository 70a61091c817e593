-- The queue of the open operations in the order of their begins stays one where one is begun, and where one is cut out: for BeginMoves.
use Rattle.std.proofs.Common.{◌≡◌, ◌≢◌, ℕ, ◌+◌, ◌<◌, ◌≤◌, inl, inr, Bool, true, false, nat_eq, eq-eqb, eqb-true, Option, Some, None, refl, sym, ap, subst, ◌∙◌, arith}
use Rattle.std.proofs.{lemmas.Bool.cases_eq, lemmas.Option.{same_Some, none-some}}
use Rattle.mt_table.specs.Queues.{queue_number, ComesNext, AreInOrder}
use Rattle.mt_table.proofs.QueueLaws.{same_queue, cut_queue, behind_queue}

-- the first of a queue has the least number
first_least : (rank : ℕ → ℕ) (h : ℕ) → ComesNext rank None (Some h) → (o : ℕ) → 0 < rank o → rank h ≤ rank o
first_least rank h f o open_one = elim (f.2 o) [
  | inl le ↦ absurd (omega (arith, le, open_one))
  | inr over ↦ over
]

module _ (births : ℕ → Option ℕ) (after before : Option ℕ → Option ℕ) (order : AreInOrder births after before) where
  -- so the first one's birth is the least
  pub first_born : (h b : ℕ) → after None ≡ Some h → births h ≡ Some b → (o c : ℕ) → births o ≡ Some c → b ≤ c
  first_born h b first is o c open_one =
      order.rises h o b c is open_one (first_least order.rank h (subst (ComesNext order.rank None) first (order.queue.afters None tt)) o (order.opened o c open_one))

  -- and where none is first, none is open
  pub none_born : after None ≡ None → (o c : ℕ) → births o ≡ Some c → ⊥
  none_born first o c open_one =
      let none : ComesNext order.rank None None = subst (ComesNext order.rank None) first (order.queue.afters None tt) in
      absurd (omega (arith, order.opened o c open_one, none.1 o))

  -- the same births with the same links
  pub same_order : (now : ℕ → Option ℕ) (after_now before_now : Option ℕ → Option ℕ) → ((o : ℕ) → now o ≡ births o) → ((s : Option ℕ) → after_now s ≡ after s)
      → ((s : Option ℕ) → before_now s ≡ before s) → AreInOrder now after_now before_now
  same_order now after_now before_now same afters befores = record {
    rank = order.rank;
    queue = same_queue order.rank order.rank after after_now before before_now (λ o. refl) (λ s here. afters s) (λ s here. befores s) order.queue;
    opened = λ o b is. order.opened o b (sym (same o) ∙ is);
    closed = λ o none. order.closed o (sym (same o) ∙ none);
    rises = λ o q b c is_o is_q le. order.rises o q b c (sym (same o) ∙ is_o) (sym (same q) ∙ is_q) le;
  }

-- with another number for one
pick : Bool → ℕ → ℕ → ℕ
pick true a b = a
pick false a b = b

pick_true : (c : Bool) (a b : ℕ) → c ≡ true → pick c a b ≡ a
unfolding pick
pick_true true a b e = refl
pick_true false a b e = absurd (cc)

pick_false : (c : Bool) (a b : ℕ) → c ≡ false → pick c a b ≡ b
unfolding pick
pick_false true a b e = absurd (cc)
pick_false false a b e = refl

with_rank : (ℕ → ℕ) → ℕ → ℕ → ℕ → ℕ
with_rank rank o r q = pick (nat_eq q o) r (rank q)

rank_here : (rank : ℕ → ℕ) (o r : ℕ) → with_rank rank o r o ≡ r
unfolding with_rank
rank_here rank o r = pick_true (nat_eq o o) r (rank o) (eq-eqb o o refl)

differs : (q o : ℕ) → q ≢ o → (b : Bool) → nat_eq q o ≡ b → nat_eq q o ≡ false
differs q o other true e = absurd (other (eqb-true q o e))
differs q o other false e = e

rank_there : (rank : ℕ → ℕ) (o r q : ℕ) → q ≢ o → with_rank rank o r q ≡ rank q
unfolding with_rank
rank_there rank o r q other = pick_false (nat_eq q o) r (rank q) (differs q o other (nat_eq q o) refl)

-- one that was not open is put behind all others, with a birth that is not below theirs
module _ (births now : ℕ → Option ℕ) (after after_now before before_now : Option ℕ → Option ℕ) (o b : ℕ) (order : AreInOrder births after before)
    (was : births o ≡ None) (is : now o ≡ Some b) (others : (q : ℕ) → q ≢ o → now q ≡ births q) (latest : (q c : ℕ) → births q ≡ Some c → c ≤ b)
    (goes : after_now (before None) ≡ Some o) (ends : after_now (Some o) ≡ None) (comes : before_now (Some o) ≡ before None) (last : before_now None ≡ Some o)
    (afters : (s : Option ℕ) → s ≢ Some o → s ≢ before None → after_now s ≡ after s) (befores : (s : Option ℕ) → s ≢ Some o → s ≢ None → before_now s ≡ before s) where
  top : ℕ
  top = queue_number order.rank (before None) + 1

  over : ℕ → ℕ
  over = with_rank order.rank o top

  here : over o ≡ top
  unfolding over
  here = rank_here order.rank o top

  there : (q : ℕ) → q ≢ o → over q ≡ order.rank q
  unfolding over
  there q other = rank_there order.rank o top q other

  under : (s : Option ℕ) → ComesNext order.rank s None → (q : ℕ) → order.rank q < queue_number order.rank s + 1
  under s f q = omega (arith, f.1 q)

  over_all : (q : ℕ) → order.rank q < over o
  unfolding top
  over_all q = omega (arith, here, under (before None) (order.queue.befores None tt) q)

  -- the queue with it
  pub order_begun : AreInOrder now after_now before_now
  unfolding top
  order_begun = record {
    rank = over;
    queue = behind_queue order.rank over after after_now before before_now o order.queue (order.closed o was) (omega (arith, here)) over_all there goes ends comes last afters befores;
    opened = λ q c is_q. elim (cases_eq q o) [
      | inl e ↦ omega (arith, ap over e, here)
      | inr other ↦ omega (arith, there q other, order.opened q c (sym (others q other) ∙ is_q))
    ];
    closed = λ q none. elim (cases_eq q o) [
      | inl e ↦ absurd (none-some b (sym none ∙ ap now e ∙ is))
      | inr other ↦ there q other ∙ order.closed q (sym (others q other) ∙ none)
    ];
    rises = λ p q c d is_p is_q le. elim (cases_eq q o) [
      | inl e ↦ elim (cases_eq p o) [
        | inl f ↦ omega (arith, same_Some c b (sym is_p ∙ ap now f ∙ is), same_Some d b (sym is_q ∙ ap now e ∙ is))
        | inr f ↦ omega (arith, latest p c (sym (others p f) ∙ is_p), same_Some d b (sym is_q ∙ ap now e ∙ is))
      ]
      | inr e ↦ elim (cases_eq p o) [
        | inl f ↦ absurd (omega (arith, le, ap over f, there q e, over_all q))
        | inr f ↦ order.rises p q c d (sym (others p f) ∙ is_p) (sym (others q e) ∙ is_q) (omega (arith, le, there p f, there q e))
      ]
    ];
  }

-- one that was open is cut out
module _ (births now : ℕ → Option ℕ) (after after_now before before_now : Option ℕ → Option ℕ) (o b : ℕ) (order : AreInOrder births after before)
    (was : births o ≡ Some b) (gone : now o ≡ None) (others : (q : ℕ) → q ≢ o → now q ≡ births q)
    (joins : after_now (before (Some o)) ≡ after (Some o)) (meets : before_now (after (Some o)) ≡ before (Some o))
    (afters : (s : Option ℕ) → s ≢ before (Some o) → s ≢ Some o → after_now s ≡ after s) (befores : (s : Option ℕ) → s ≢ after (Some o) → s ≢ Some o → before_now s ≡ before s) where
  without : ℕ → ℕ
  without = with_rank order.rank o 0

  out : without o ≡ 0
  unfolding without
  out = rank_here order.rank o 0

  stays : (q : ℕ) → q ≢ o → without q ≡ order.rank q
  unfolding without
  stays q other = rank_there order.rank o 0 q other

  -- the queue without it
  pub order_ended : AreInOrder now after_now before_now
  order_ended = record {
    rank = without;
    queue = cut_queue order.rank without after after_now before before_now o order.queue (order.opened o b was) out stays joins meets afters befores;
    opened = λ q c is_q. elim (cases_eq q o) [
      | inl e ↦ absurd (none-some c (sym gone ∙ ap now (sym e) ∙ is_q))
      | inr other ↦ omega (arith, stays q other, order.opened q c (sym (others q other) ∙ is_q))
    ];
    closed = λ q none. elim (cases_eq q o) [
      | inl e ↦ ap without e ∙ out
      | inr other ↦ stays q other ∙ order.closed q (sym (others q other) ∙ none)
    ];
    rises = λ p q c d is_p is_q le. elim (cases_eq q o) [
      | inl e ↦ absurd (none-some d (sym gone ∙ ap now (sym e) ∙ is_q))
      | inr e ↦ elim (cases_eq p o) [
        | inl f ↦ absurd (none-some c (sym gone ∙ ap now (sym f) ∙ is_p))
        | inr f ↦ order.rises p q c d (sym (others p f) ∙ is_p) (sym (others q e) ∙ is_q) (omega (arith, le, stays p f, stays q e))
      ]
    ];
  }
