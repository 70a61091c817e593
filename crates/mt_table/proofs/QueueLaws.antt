-- The queue of operations in the order of their first steps stays one where one is put behind all others, and where one is cut out: for TableMoves.
use Rattle.std.proofs.{Common.{◌≡◌, ◌≢◌, ℕ, ◌<◌, ◌≤◌, ◌⊎◌, inl, inr, Option, Some, None, refl, sym, ap, subst, ◌∙◌, arith}, lemmas.Bool.cases_eq}
use Rattle.std.proofs.lemmas.Option.{same_Some}
use Rattle.mt_table.specs.Queues.{IsInQueue, queue_number, ComesNext, IsQueue}

-- none is no operation
pub some_none : {o : ℕ} → ◌≡◌ {A = Option ℕ} (Some o) None → ⊥
some_none e = cc

-- two ends of links are one, or are not
pub one_link : (s t : Option ℕ) → (s ≡ t) ⊎ (s ≢ t)
one_link None None = inl refl
one_link None (Some q) = inr (λ e. some_none (sym e))
one_link (Some o) None = inr (λ e. some_none e)
one_link (Some o) (Some q) = elim (cases_eq o q) [
  | inl is ↦ inl (ap (λ n. Some n) is)
  | inr other ↦ inr (λ e. other (same_Some o q e))
]

-- what is behind the one is in the queue, and so is what it is behind
follows_in : (firsts : ℕ → ℕ) (s t : Option ℕ) → ComesNext firsts s t → IsInQueue firsts s
follows_in firsts s None f = f.0
follows_in firsts s (Some q) f = f.0

-- what comes after another is in the queue
pub in_follows : (firsts : ℕ → ℕ) (s t : Option ℕ) → ComesNext firsts s t → IsInQueue firsts t
in_follows firsts s None f = tt
in_follows firsts s (Some q) f = omega (arith, f.1)

-- two of the queue with one number are one
one_number : (firsts : ℕ → ℕ) → ((o q : ℕ) → 0 < firsts o → firsts o ≡ firsts q → o ≡ q) → (s t : Option ℕ) → IsInQueue firsts s → IsInQueue firsts t → queue_number firsts s ≡ queue_number firsts t → s ≡ t
one_number firsts apart None None a b same = refl
one_number firsts apart None (Some q) a b same = absurd (omega (arith, b, same))
one_number firsts apart (Some o) None a b same = absurd (omega (arith, a, same))
one_number firsts apart (Some o) (Some q) a b same = ap (λ n. Some n) (apart o q a same)

-- a number of the queue is at most that of what a third one follows, where it is below that third one
upto_before : (firsts : ℕ → ℕ) (s u t : Option ℕ) → ComesNext firsts s t → ComesNext firsts u t → queue_number firsts u ≤ queue_number firsts s
upto_before firsts s None t f g = omega arith
upto_before firsts s (Some o) None f g = f.1 o
upto_before firsts s (Some o) (Some q) f g = elim (f.2 o) [
  | inl le ↦ le
  | inr over ↦ absurd (omega (arith, over, g.1))
]

-- one alone is before another
pub one_before : (firsts : ℕ → ℕ) → ((o q : ℕ) → 0 < firsts o → firsts o ≡ firsts q → o ≡ q) → (s u t : Option ℕ) → ComesNext firsts s t → ComesNext firsts u t → s ≡ u
one_before firsts apart s u t f g =
    one_number firsts apart s u (follows_in firsts s t f) (follows_in firsts u t g) (omega (arith, upto_before firsts s u t f g, upto_before firsts u s t g f))

-- and one alone after it
pub one_after : (firsts : ℕ → ℕ) → ((o q : ℕ) → 0 < firsts o → firsts o ≡ firsts q → o ≡ q) → (s t u : Option ℕ) → ComesNext firsts s t → ComesNext firsts s u → t ≡ u
one_after firsts apart s None None f g = refl
one_after firsts apart s None (Some q) f g = absurd (omega (arith, f.1 q, g.1))
one_after firsts apart s (Some o) None f g = absurd (omega (arith, g.1 o, f.1))
one_after firsts apart s (Some o) (Some q) f g = elim (f.2 q) [
  | inl le ↦ absurd (omega (arith, le, g.1))
  | inr over ↦ elim (g.2 o) [
    | inl le ↦ absurd (omega (arith, le, f.1))
    | inr under ↦ ap (λ n. Some n) (apart o q (omega (arith, f.1)) (omega (arith, over, under)))
  ]
]

-- the queue of the same numbers, with the same links of those in it
pub same_queue : (firsts now : ℕ → ℕ) (after after_now before before_now : Option ℕ → Option ℕ) → ((q : ℕ) → now q ≡ firsts q) → ((s : Option ℕ) → IsInQueue firsts s → after_now s ≡ after s) → ((s : Option ℕ) → IsInQueue firsts s → before_now s ≡ before s)
    → IsQueue firsts after before → IsQueue now after_now before_now
same_queue firsts now after after_now before before_now same a b queue = record {
  apart = λ o q begun is. queue.apart o q (omega (arith, same o, begun)) (sym (same o) ∙ is ∙ same q);
  afters = λ s here. subst (ComesNext now s) (sym (a s (was s here))) (follows s (after s) (queue.afters s (was s here)));
  befores = λ s here. subst (λ t. ComesNext now t s) (sym (b s (was s here))) (follows (before s) s (queue.befores s (was s here)));
}
  where
    was : (s : Option ℕ) → IsInQueue now s → IsInQueue firsts s
    was None here = tt
    was (Some o) here = omega (arith, same o, here)

    is_in : (s : Option ℕ) → IsInQueue firsts s → IsInQueue now s
    is_in None here = tt
    is_in (Some o) here = omega (arith, same o, here)

    number : (s : Option ℕ) → queue_number now s ≡ queue_number firsts s
    number None = refl
    number (Some o) = same o

    follows : (s t : Option ℕ) → ComesNext firsts s t → ComesNext now s t
    follows s None f = (is_in s f.0, λ r. omega (arith, f.1 r, same r, number s))
    follows s (Some q) f = (
      is_in s f.0,
      omega (arith, f.1, same q, number s),
      λ r. elim (f.2 r) [
        | inl le ↦ inl (omega (arith, le, same r, number s))
        | inr over ↦ inr (omega (arith, over, same r, same q))
      ],
    )

-- one is cut out: it has made no step any more, and its neighbours are each other's
module _ (firsts now : ℕ → ℕ) (after after_now before before_now : Option ℕ → Option ℕ) (o : ℕ) (queue : IsQueue firsts after before) (begun : 0 < firsts o) (none : now o ≡ 0) (same : (q : ℕ) → q ≢ o → now q ≡ firsts q)
    (joins : after_now (before (Some o)) ≡ after (Some o)) (meets : before_now (after (Some o)) ≡ before (Some o))
    (afters : (s : Option ℕ) → s ≢ before (Some o) → s ≢ Some o → after_now s ≡ after s) (befores : (s : Option ℕ) → s ≢ after (Some o) → s ≢ Some o → before_now s ≡ before s) where
  -- what is in the queue now was in it, and is another
  other : (s : Option ℕ) → IsInQueue now s → s ≢ Some o
  other None here is = some_none (sym is)
  other (Some q) here is = absurd (omega (arith, here, none, ap now (same_Some q o is)))

  was : (s : Option ℕ) → IsInQueue now s → IsInQueue firsts s
  was None here = tt
  was (Some q) here = omega (arith, same q (λ is. other (Some q) here (ap (λ n. Some n) is)), here)

  kept_in : (s : Option ℕ) → s ≢ Some o → IsInQueue firsts s → IsInQueue now s
  kept_in None ne here = tt
  kept_in (Some q) ne here = omega (arith, same q (λ is. ne (ap (λ n. Some n) is)), here)

  number : (s : Option ℕ) → s ≢ Some o → queue_number now s ≡ queue_number firsts s
  number None ne = refl
  number (Some q) ne = same q (λ is. ne (ap (λ n. Some n) is))

  -- two others that were neighbours are so still
  kept : (s t : Option ℕ) → s ≢ Some o → t ≢ Some o → ComesNext firsts s t → ComesNext now s t
  kept s None ne_s ne_t f = (
    kept_in s ne_s f.0,
    λ r. elim (cases_eq r o) [
      | inl is ↦ omega (arith, none, ap now is)
      | inr apart ↦ omega (arith, f.1 r, same r apart, number s ne_s)
    ],
  )
  kept s (Some q) ne_s ne_t f = (
    kept_in s ne_s f.0,
    omega (arith, f.1, number s ne_s, number (Some q) ne_t),
    λ r. elim (cases_eq r o) [
      | inl is ↦ inl (omega (arith, none, ap now is))
      | inr apart ↦ elim (f.2 r) [
        | inl le ↦ inl (omega (arith, le, same r apart, number s ne_s))
        | inr over ↦ inr (omega (arith, over, same r apart, number (Some q) ne_t))
      ]
    ],
  )

  -- the neighbours of the one that is gone
  joined : (s t : Option ℕ) → s ≢ Some o → t ≢ Some o → ComesNext firsts s (Some o) → ComesNext firsts (Some o) t → ComesNext now s t
  joined s None ne_s ne_t f g = (
    kept_in s ne_s f.0,
    λ r. elim (cases_eq r o) [
      | inl is ↦ omega (arith, none, ap now is)
      | inr apart ↦ elim (f.2 r) [
        | inl le ↦ omega (arith, le, same r apart, number s ne_s)
        | inr over ↦ absurd (apart (sym (queue.apart o r begun (omega (arith, over, g.1 r)))))
      ]
    ],
  )
  joined s (Some q) ne_s ne_t f g = (
    kept_in s ne_s f.0,
    omega (arith, f.1, g.1, number s ne_s, number (Some q) ne_t),
    λ r. elim (cases_eq r o) [
      | inl is ↦ inl (omega (arith, none, ap now is))
      | inr apart ↦ elim (f.2 r) [
        | inl le ↦ inl (omega (arith, le, same r apart, number s ne_s))
        | inr over ↦ elim (g.2 r) [
          | inl under ↦ absurd (apart (sym (queue.apart o r begun (omega (arith, over, under)))))
          | inr beyond ↦ inr (omega (arith, beyond, same r apart, number (Some q) ne_t))
        ]
      ]
    ],
  )

  -- none is its own neighbour
  ahead : (s : Option ℕ) → ComesNext firsts s (Some o) → s ≢ Some o
  ahead s f is = absurd (omega (arith, f.1, ap (queue_number firsts) is))

  behind : (t : Option ℕ) → ComesNext firsts (Some o) t → t ≢ Some o
  behind None f is = some_none (sym is)
  behind (Some q) f is = absurd (omega (arith, f.1, ap firsts (same_Some q o is)))

  not_gone : (p : ℕ) → 0 < now p → p ≢ o
  not_gone p here is = absurd (omega (arith, here, none, ap now is))

  -- the queue without the one that is cut out
  pub cut_queue : IsQueue now after_now before_now
  cut_queue = record {
    apart = λ p q here is.
        let p_same = same p (not_gone p here) in
        queue.apart p q (omega (arith, here, p_same)) (sym p_same ∙ is ∙ same q (not_gone q (omega (arith, here, is))));
    afters = λ s here. elim (one_link s (before (Some o))) [
      | inl is ↦
          let f = queue.befores (Some o) begun in
          let g = queue.afters (Some o) begun in
          subst (ComesNext now s) (sym (ap after_now is ∙ joins)) (joined s (after (Some o)) (other s here) (behind (after (Some o)) g) (subst (λ t. ComesNext firsts t (Some o)) (sym is) f) g)
      | inr apart ↦
          let f = queue.afters s (was s here) in
          subst (ComesNext now s) (sym (afters s apart (other s here)))
          (kept s (after s) (other s here) (λ e. apart (one_before firsts queue.apart s (before (Some o)) (Some o) (subst (ComesNext firsts s) e f) (queue.befores (Some o) begun))) f)
    ];
    befores = λ s here. elim (one_link s (after (Some o))) [
      | inl is ↦
          let f = queue.befores (Some o) begun in
          let g = queue.afters (Some o) begun in
          subst (λ t. ComesNext now t s) (sym (ap before_now is ∙ meets)) (joined (before (Some o)) s (ahead (before (Some o)) f) (other s here) f (subst (ComesNext firsts (Some o)) (sym is) g))
      | inr apart ↦
          let f = queue.befores s (was s here) in
          subst (λ t. ComesNext now t s) (sym (befores s apart (other s here)))
          (kept (before s) s (λ e. apart (one_after firsts queue.apart (Some o) s (after (Some o)) (subst (λ t. ComesNext firsts t s) e f) (queue.afters (Some o) begun))) (other s here) f)
    ];
  }

-- one is put behind all others: it has made the latest first step
module _ (firsts now : ℕ → ℕ) (after after_now before before_now : Option ℕ → Option ℕ) (o : ℕ) (queue : IsQueue firsts after before) (still : firsts o ≡ 0) (begun : 0 < now o) (latest : (q : ℕ) → firsts q < now o) (same : (q : ℕ) → q ≢ o → now q ≡ firsts q)
    (goes : after_now (before None) ≡ Some o) (ends : after_now (Some o) ≡ None) (comes : before_now (Some o) ≡ before None) (last : before_now None ≡ Some o)
    (afters : (s : Option ℕ) → s ≢ Some o → s ≢ before None → after_now s ≡ after s) (befores : (s : Option ℕ) → s ≢ Some o → s ≢ None → before_now s ≡ before s) where
  old_last : ComesNext firsts (before None) None
  old_last = queue.befores None tt

  -- what was in the queue is another
  not_new : (s : Option ℕ) → IsInQueue firsts s → s ≢ Some o
  not_new None here is = some_none (sym is)
  not_new (Some q) here is = absurd (omega (arith, here, still, ap firsts (same_Some q o is)))

  same_number : (s : Option ℕ) → s ≢ Some o → queue_number now s ≡ queue_number firsts s
  same_number None ne = refl
  same_number (Some q) ne = same q (λ is. ne (ap (λ n. Some n) is))

  in_now : (s : Option ℕ) → IsInQueue firsts s → IsInQueue now s
  in_now None here = tt
  in_now (Some q) here = omega (arith, here, same q (λ is. not_new (Some q) here (ap (λ n. Some n) is)))

  in_old : (s : Option ℕ) → s ≢ Some o → IsInQueue now s → IsInQueue firsts s
  in_old None ne here = tt
  in_old (Some q) ne here = omega (arith, here, same q (λ is. ne (ap (λ n. Some n) is)))

  -- neighbours of before, none of which was the end
  stays : (s : Option ℕ) (q : ℕ) → ComesNext firsts s (Some q) → ComesNext now s (Some q)
  stays s q f =
      let here = follows_in firsts s (Some q) f in
      let q_same = same q (λ is. omega (arith, f.1, still, ap firsts is)) in (
        in_now s here,
        omega (arith, f.1, q_same, same_number s (not_new s here)),
        λ r. elim (cases_eq r o) [
          | inl is ↦ inr (omega (arith, latest q, q_same, ap now is))
          | inr apart ↦ elim (f.2 r) [
            | inl le ↦ inl (omega (arith, le, same r apart, same_number s (not_new s here)))
            | inr over ↦ inr (omega (arith, over, same r apart, q_same))
          ]
        ],
      )

  -- the old last one, and the new
  goes_new : ComesNext now (before None) (Some o)
  goes_new =
      let here = follows_in firsts (before None) None old_last in (
        in_now (before None) here,
        omega (arith, last_below (before None), same_number (before None) (not_new (before None) here)),
        λ r. elim (cases_eq r o) [
          | inl is ↦ inr (omega (arith, ap now is))
          | inr apart ↦ inl (omega (arith, old_last.1 r, same r apart, same_number (before None) (not_new (before None) here)))
        ],
      )
    where
      last_below : (s : Option ℕ) → queue_number firsts s < now o
      last_below None = begun
      last_below (Some q) = latest q

  ends_new : ComesNext now (Some o) None
  ends_new = (
    begun,
    λ r. elim (cases_eq r o) [
      | inl is ↦ omega (arith, ap now is)
      | inr apart ↦ omega (arith, latest r, same r apart)
    ],
  )

  follows_old : (s t : Option ℕ) → t ≢ None → ComesNext firsts s t → ComesNext now s t
  follows_old s None ne f = absurd (ne refl)
  follows_old s (Some q) ne f = stays s q f

  -- the queue with the new one behind all others
  pub behind_queue : IsQueue now after_now before_now
  behind_queue = record {
    apart = λ p q here is. elim (cases_eq p o) [
      | inl a ↦ elim (cases_eq q o) [
        | inl b ↦ a ∙ sym b
        | inr b ↦ absurd (omega (arith, latest q, same q b, is, ap now a))
      ]
      | inr a ↦ elim (cases_eq q o) [
        | inl b ↦ absurd (omega (arith, latest p, same p a, is, ap now b))
        | inr b ↦ queue.apart p q (omega (arith, here, same p a)) (sym (same p a) ∙ is ∙ same q b)
      ]
    ];
    afters = λ s here. elim (one_link s (Some o)) [
      | inl new ↦ subst (ComesNext now s) (sym (ap after_now new ∙ ends)) (subst (λ u. ComesNext now u None) (sym new) ends_new)
      | inr old ↦ elim (one_link s (before None)) [
        | inl at_end ↦ subst (ComesNext now s) (sym (ap after_now at_end ∙ goes)) (subst (λ u. ComesNext now u (Some o)) (sym at_end) goes_new)
        | inr within ↦
            let f = queue.afters s (in_old s old here) in
            subst (ComesNext now s) (sym (afters s old within)) (follows_old s (after s) (λ e. within (one_before firsts queue.apart s (before None) None (subst (ComesNext firsts s) e f) old_last)) f)
      ]
    ];
    befores = λ s here. elim (one_link s (Some o)) [
      | inl new ↦ subst (λ u. ComesNext now u s) (sym (ap before_now new ∙ comes)) (subst (ComesNext now (before None)) (sym new) goes_new)
      | inr old ↦ elim (one_link s None) [
        | inl at_end ↦ subst (λ u. ComesNext now u s) (sym (ap before_now at_end ∙ last)) (subst (ComesNext now (Some o)) (sym at_end) ends_new)
        | inr within ↦ subst (λ u. ComesNext now u s) (sym (befores s old within)) (follows_old (before s) s within (queue.befores s (in_old s old here)))
      ]
    ];
  }
