-- One get of a new state, step by step, each as it may be: for `a_get_of_a_new_state_is_told_of_no_row`.
use Rattle.std.proofs.Common.{◌≡◌, ◌≢◌, ℕ, zero, suc, ◌+◌, ◌<◌, slice_index, inl, inr, ◌⊎◌, Bool, true, false, cond, eqb, [], ◌∷◌, Option, Some, None, is_some, refl, sym, ap, ◌∙◌, arith}
use Rattle.std.proofs.{lemmas.Bool.ne_eqb, lemmas.Option.same_Some}
use Rattle.mt_rows.specs.{declared.tenants.Account.Account, declared.reply.Reply.TheVariants.{Absent, Found, NoMemory}, Accounts.{Accounts, account_of}}
use Rattle.mt_rows.specs.{Maps.{reply_of, is_get}, Tenants.tenant_map, declared.reply.Reply.Reply, Stamps.Stamped}
use Rattle.mt_runs.specs.{Runs.{Asked, story_of, first_of}, WrongRuns.{key_k, get_k}}
use Rattle.mt_slices.specs.Keys.{stored_key}
use Rattle.mt_border.proofs.ContentsKeys.{in_top_tree}
use Rattle.mt_arena.specs.{Accesses.new_arena, Idle.no_places}
use Rattle.mt_operation.specs.{declared.phase.Phase.TheVariants.{Search, Confirm, Done}, declared.outcome.Outcome.Outcome, Operations.OperationView}
use Rattle.mt_operation.specs.Phases.{is_done}
use Rattle.mt_descent.specs.KeptWalks.{GoesThrough}
use Rattle.mt_state.specs.{Views.{StateView, op_at, quota_of}, Steps.{HasMoved, change_in}, Notes.Notes, Promises.{IsAnswer, IsStep}, Refused.IsAdmissible}
use Rattle.mt_state.specs.{Begins.{new_state, begun, Begins, Takes}, Histories.{Names, no_names, BringsTo}, OneGet.one_get}
use Rattle.mt_state.proofs.{Still.nothing_changes, Growing.{makes_same, nothing_given, nothing_made, after_same}, HistoryStart.{content-new, tenant_map-empty}, HistoryGets.get_absent}
use Rattle.mt_state.proofs.HistoryNew.{nothing_found}

-- one name alone
abbrev pub alone : Option ℕ → Names
alone stands q = cond (eqb 1 q) (Some stands) None

alone_other : (stands : Option ℕ) (q : ℕ) → q ≢ 1 → alone stands q ≡ None
alone_other stands q ne = ap (λ b. cond b (Some stands) None) (ne_eqb 1 q (λ is. ne (sym is)))

-- its stored key goes through the top tree
k_bytes : (i : ℕ) → slice_index (stored_key 7 key_k) i < 256
k_bytes zero = omega arith
k_bytes (suc zero) = omega arith
k_bytes (suc (suc zero)) = omega arith
k_bytes (suc (suc (suc zero))) = omega arith
k_bytes (suc (suc (suc (suc zero)))) = omega arith
k_bytes (suc (suc (suc (suc (suc i))))) = omega arith

through_top : GoesThrough new_arena 0 0 (stored_key 7 key_k)
through_top = record {
  there = omega arith;
  unmade = λ q making. absurd (cc);
  of_tree = in_top_tree (stored_key 7 key_k) (record { has_tenant = omega arith; within = omega arith; are_bytes = k_bytes });
  begun = omega arith;
}

module _ (logs : ℕ) (accounts : Accounts) where
  -- a new state after so many steps of one operation
  abbrev reached : ℕ → OperationView → StateView
  reached n op = record {
    steps = n;
    answers = 0;
    logs = (new_state logs accounts).logs;
    accounts = accounts;
    arena = (new_state logs accounts).arena;
    tape = (new_state logs accounts).tape;
    table = Some op ∷ [];
  }

  step : (n : ℕ) (before after : OperationView) (done : Bool) → is_done before.phase ≡ false → HasMoved before after (n + 1)
      → Notes (reached n before) before before.phase after.phase after.outcome
      → change_in after ≡ change_in before → done ≡ is_done after.phase
      → (done ≡ true → (told : Outcome) × (after.outcome ≡ Some told) × IsAnswer (reached (n + 1) after) after told)
      → IsStep (reached n before) (reached (n + 1) after) 0 done
  step n before after done left moves notes same ends answer = record {
    before = before;
    after = after;
    there = refl;
    unfinished = left;
    moves = moves;
    notes = notes;
    table = refl;
    number = refl;
    answers = refl;
    logs = refl;
    grows = record { steps = omega arith; quotas = λ t. refl; maps = λ t m le. refl; changes = λ m le. refl };
    arena = record {
      mid = new_arena;
      gives = nothing_given (reached n before);
      step = nothing_changes 0 (new_state logs accounts).arena;
      retires = λ birth born. after_same birth no_places;
      last = nothing_made (reached n before) new_arena refl refl;
    };
    touches = λ k within. inl refl;
    effect = inl (record { contents = refl; entries = refl; change = same });
    ends = ends;
    answer = answer;
    present = λ t. refl;
    floor = refl;
    makes = makes_same (new_state logs accounts).arena (new_state logs accounts).arena refl refl;
  }

  abbrev at_first : OperationView
  at_first = begun 0 7 get_k 0

  abbrev searching : OperationView
  searching = record at_first { first = 1; last = 1; phase = Search; walk = record at_first.walk { first = 1; phase = Search } }

  abbrev absent : Outcome
  absent = record { reply = Absent; at = 2 }

  abbrev confirming : OperationView
  confirming = record searching { last = 2; phase = Confirm; outcome = Some absent; walk = record searching.walk { right_at = 2; phase = Confirm } }

  abbrev ended : OperationView
  ended = record confirming { last = 3; phase = Done; walk = record confirming.walk { phase = Done } }

  -- the key is nowhere
  right : IsAnswer (reached 3 ended) ended absent
  right = record {
    begun = omega arith;
    since = omega arith;
    upto = omega arith;
    lawful = tt;
    placed = λ real plain. record {
      changes = λ e. absurd (cc);
      looks =
          λ e. sym (ap (reply_of (quota_of (reached 3 ended) 7) get_k) (ap (tenant_map 7) content-new ∙ tenant_map-empty 7) ∙ get_absent (quota_of (reached 3 ended) 7) get_k refl);
    };
  }

  begins_so : Begins (new_state logs accounts) (reached 0 at_first) 0 0 7 get_k
  begins_so = record { free = refl; there = refl; others = others; stands = refl }
    where
      others : (q : ℕ) → q ≢ 0 → op_at (Some at_first ∷ []) q ≡ op_at [] q
      others zero ne = absurd (ne refl)
      others (suc q) ne = refl

  -- nothing refuses it, where its tenant is there
  admissible : (a : Account) → account_of accounts 7 ≡ Some a → IsAdmissible (new_state logs accounts) 7 get_k
  admissible a there = record {
    there = ap is_some there;
    taken = record { key = omega arith; columns = record { below = λ i d within. absurd (omega (arith, within)); rising = λ i within. absurd (omega (arith, within)) }; short = tt; count = tt };
    numbered = λ e. absurd (cc);
  }

  step_1 : IsStep (reached 0 at_first) (reached 1 searching) 0 false
  step_1 =
      step 0 at_first searching false refl (record { asked = record { worker = refl; tenant = refl; command = refl }; birth = refl; first = refl; last = refl; follows = tt }) (refl, refl) refl refl (λ e. absurd (cc))

  step_2 : IsStep (reached 1 searching) (reached 2 confirming) 0 false
  step_2 =
      step 1 searching confirming false refl (record { asked = record { worker = refl; tenant = refl; command = refl }; birth = refl; first = refl; last = refl; follows = tt })
      (record { says = refl; lacks = record { through = through_top; there = omega arith; tree_is = refl; border = refl; from = omega arith; missing = λ slot has. omega (arith, has.in_slot.in_range) } })
      refl refl (λ e. absurd (cc))

  step_3 : IsStep (reached 2 confirming) (reached 3 ended) 0 true
  step_3 =
      step 2 confirming ended true refl (record { asked = record { worker = refl; tenant = refl; command = refl }; birth = refl; first = refl; last = refl; follows = tt }) refl refl refl
      (λ e. (absent, refl, right))

  abbrev pub left : StateView
  left = record (reached 3 ended) { answers = 1; table = None ∷ [] }

  takes : Takes (reached 3 ended) left 0 (record { command = get_k; reply = Absent; first = 1; at = 2; last = 3 })
  takes = record { op = ended; there = refl; told = record { finished = refl; told = refl; command = refl; first = refl; last = refl }; right = right; gone = refl }

  pub get_told : (a : Account) → account_of accounts 7 ≡ Some a
      → BringsTo no_names (new_state logs accounts) (one_get Absent) (alone None) left
  get_told a there = (
    alone (Some 0),
    reached 0 at_first,
    (0, refl, record { here = refl; others = alone_other (Some 0) }, begins_so, admissible a there),
    (
      alone (Some 0),
      reached 1 searching,
      (0, refl, refl, step_1),
      (
        alone (Some 0),
        reached 2 confirming,
        (0, refl, refl, step_2),
        (
          alone None,
          left,
          (0, reached 3 ended, refl, record { here = refl; others = λ q ne. alone_other None q ne ∙ sym (alone_other (Some 0) q ne) }, step_3, takes),
          (refl, refl),
        ),
      ),
    ),
  )

-- its one command is a get
only_gets : (reply : Reply) (q : ℕ) (w : Asked) → (story_of 0 (one_get reply)).asked q ≡ Some w → is_get w.command ≡ true
only_gets reply q w e = by (eqb 1 q) e
  where
    by : (b : Bool) → first_of (cond b (Some (record { tenant = 7; command = get_k })) None) None ≡ Some w → is_get w.command ≡ true
    by true h = ap (λ (x : Asked). is_get x.command) (sym (same_Some _ w h))
    by false h = absurd (cc)

-- no row is right
pub row_refused : (logs : ℕ) (accounts : Accounts) (row : Stamped) (names : Names) (v : StateView)
    → BringsTo no_names (new_state logs accounts) (one_get (Found row)) names v → ⊥
row_refused logs accounts row names v leads =
    never (nothing_found logs accounts (one_get (Found row)) names v leads (only_gets (Found row)) 1 (record { command = get_k; reply = Found row; first = 1; at = 2; last = 3 }) (3, refl))
  where
    never : (Found row ≡ Absent) ⊎ (Found row ≡ NoMemory) → ⊥
    never (inl e) = cc
    never (inr e) = cc
