-- What follows for a store that serves a life: its pairs after each step, and what a crash then ends.
use Rattle.std.{proofs.{Common.{◌≡◌, ℕ, ◌≤◌, get_or, min, Ok, refl, sym, ap, ◌∙◌, arith, ⊎_elim}, lemmas.{Bool.cases_lt, List.Elements.All-contains_itself}}, specs.FinMap.{get, empty}}
use Rattle.mt_rows.{specs.{Accounts.Accounts, Tenants.{Contents, tenant_map}}, proofs.ContentLaws.{same_contents, get-tenant_map}}
use Rattle.mt_tape.{specs.Histories.contents_at, proofs.{EntryLaws.floor_upto_last, TapeLaws.contents_at-now}}
use Rattle.mt_runs.proofs.Order.{order_with_maps}
use Rattle.mt_state.specs.{Views.{StateView, contents_of, map_of, changed_at}, Histories.Names}
use Rattle.mt_crashes.specs.{Fronts.after_changes, Histories.{changes_of, pairs_upto}, Stores.Store}
use Rattle.mt_lives.{specs.{Lives.{Life, firsts, story_in, steps_in, past_of}, Holds.{quotas_of, Serves, IsDown}, Earlier.{AreTold, untidied}}, proofs.{Forward.told_by, Tapes.{tape_pairs, pairs_before, whole_since}}}

-- pairs of which each tenant has the same are the same
pub same_maps : (a b : Contents) → ((t : ℕ) → tenant_map t a ≡ tenant_map t b) → a ≡ b
same_maps a b same = same_contents a b (λ q. sym (get-tenant_map q.0 a q.1) ∙ ap (λ m. get m q.1) (same q.0) ∙ get-tenant_map q.0 b q.1)

module _ (accounts : Accounts) (life : Life) (s : Store) (v : StateView) (names : Names) (h : Serves accounts life s v names) where
  -- a change made each write of the tape, so a log may tell the change
  told : AreTold v.tape.entries
  told = λ k d lt.
      let e = get_or v.tape.entries k d in
      told_by e (h.right.written e (All-contains_itself v.tape.entries k d lt)).made

  pub last : steps_in life ≡ v.steps
  last = h.history.count

  -- the state as it would be if it had given up nothing of the life
  abbrev pub whole : StateView
  whole = untidied h.gone life.base v

  -- what was written before the tape left the pairs with which the tape begins
  left : after_changes empty (changes_of h.before) ≡ contents_at v.tape.entries (contents_of v) v.tape.floor
  left =
      sym (ap (pairs_upto v.tape.floor) h.holds ∙ pairs_before v.tape.floor h.before v.tape.entries h.ended h.right.tape.rises)
      ∙ h.pairs v.tape.floor h.floor (omega arith)
      ∙ whole_since v.tape.floor v.tape.floor h.gone v.tape.entries (contents_of v) h.given_up (omega arith)

  since_floor : (cutoff : ℕ) → v.tape.floor ≤ cutoff → pairs_upto cutoff s.history ≡ contents_at whole.tape.entries (contents_of v) cutoff
  since_floor cutoff le =
      ap (pairs_upto cutoff) h.holds
      ∙ tape_pairs v.tape.floor cutoff h.before v.tape.entries (contents_of v) (contents_at v.tape.entries (contents_of v) v.tape.floor) h.ended left refl h.right.tape.rises
      h.right.tape.legal told le
      ∙ sym (whole_since v.tape.floor cutoff h.gone v.tape.entries (contents_of v) h.given_up le)

  -- the pairs of the history up to a step of the life are those after that step
  pub pairs_at : (cutoff : ℕ) → life.base ≤ cutoff → pairs_upto cutoff s.history ≡ contents_at whole.tape.entries (contents_of v) cutoff
  pairs_at cutoff le = ⊎_elim (λ lt. h.pairs cutoff le (omega (arith, lt))) (λ ge. since_floor cutoff ge) (cases_lt cutoff v.tape.floor)

  pub floor_made : v.tape.floor ≤ v.steps
  floor_made = let low = floor_upto_last v.tape.floor v.tape.entries h.right.tape.rises in omega (arith, low, h.right.tape.made)

  -- from its last step on they are the pairs of now
  pub now_at : (cutoff : ℕ) → v.steps ≤ cutoff → contents_at whole.tape.entries (contents_of v) cutoff ≡ contents_of v
  now_at cutoff le =
      whole_since v.tape.floor cutoff h.gone v.tape.entries (contents_of v) h.given_up (omega (arith, floor_made, le))
      ∙ contents_at-now v.tape.floor cutoff v.tape.entries (contents_of v) h.right.tape.rises (omega (arith, h.right.tape.made, le))

  pub made_from : life.base ≤ v.steps
  made_from = omega (arith, last)

  pub now_pairs : (cutoff : ℕ) → v.steps ≤ cutoff → pairs_upto cutoff s.history ≡ contents_of v
  now_pairs cutoff le = pairs_at cutoff (omega (arith, made_from, le)) ∙ now_at cutoff le

  at_least : (cutoff : ℕ) → contents_at whole.tape.entries (contents_of v) cutoff ≡ contents_at whole.tape.entries (contents_of v) (min (steps_in life) cutoff)
  at_least cutoff = ⊎_elim
      (λ lt. ap (contents_at whole.tape.entries (contents_of v)) (omega (arith, lt)))
      (λ ge. now_at cutoff (omega (arith, ge, last)) ∙ sym (now_at (min (steps_in life) cutoff) (omega (arith, ge, last))))
      (cases_lt cutoff (steps_in life))

  -- what a crash ends
  pub ends : IsDown accounts (past_of (Ok life)) s
  ends = record {
    left = λ cutoff le.
        let order = order_with_maps (quotas_of accounts) (firsts life) (story_in life) (map_of whole) (changed_at whole) h.history.right in
        record {
          order = order.0;
          fits = order.1;
          legal = order.2;
          scans = order.3;
          maps = λ t.
              ap (tenant_map t) (pairs_at cutoff le ∙ at_least cutoff)
              ∙ order.4 t (min (steps_in life) cutoff) (omega (arith, le, made_from, last)) (omega arith);
        };
    reach = h.reach;
  }
