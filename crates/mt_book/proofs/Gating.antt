-- Before each step of a call its gate was called: for `stepped`, `ran` and `call`.
use Rattle.std.{proofs.Common.{◌≡◌, ℕ, List, [], ◌∷◌, Option, Some, None, Result, Err, sym, subst, inl}, specs.List.AllByRecursion}
use Rattle.mt_rows.specs.declared.refusal.Refusal.{Refusal}
use Rattle.mt_runs.specs.declared.event.Answer.{Answer}
use Rattle.mt_operation.specs.declared.phase.Phase.{Phase}
use Rattle.mt_state.specs.declared.moves.Move.{Move}
use Rattle.mt_core.specs.{declared.answers.Ticket.Ticket, Admitted.OpeningView}
use Rattle.mt_book.specs.{declared.calls.CallFault.CallFault, declared.gates.Turned.Turned}
use Rattle.mt_book.specs.Periods.{Deed, Looked, Began, Rested, Stepped, Took, Kept, Period, Chain, step_deed}
use Rattle.mt_book.specs.Calls.{Asked, IsOpeningOf, IsBeforeBy, IsBefore, Opens, IsRestBy, IsRest, IsTaken, Calls, Led, IsCalled, Gated}
use Rattle.mt_book.specs.declared.calls.CallFault.TheVariants as faults
use Rattle.mt_book.proofs.Chains.{all_snoc}

module _ (called : ℕ → Phase → Type 0) where
  -- ---- which deeds are no steps

  before_deed : (seen worker steps : ℕ) (deed : Deed) → IsBeforeBy seen worker steps deed → IsCalled called deed
  before_deed seen worker steps (Looked logs) h = tt
  before_deed seen worker steps (Began opening logs told next) h = tt
  before_deed seen worker steps (Rested ticket) h = tt
  before_deed seen worker steps (Stepped ticket turned made next) h = absurd h
  before_deed seen worker steps (Took ticket room answer) h = tt
  before_deed seen worker steps (Kept ticket) h = tt

  rest_deed : (seen ticket steps : ℕ) (deed : Deed) → IsRestBy seen ticket steps deed → IsCalled called deed
  rest_deed seen ticket steps (Looked logs) h = tt
  rest_deed seen ticket steps (Began opening logs told next) h = tt
  rest_deed seen ticket steps (Rested t) h = tt
  rest_deed seen ticket steps (Stepped t turned made next) h = absurd h
  rest_deed seen ticket steps (Took t room answer) h = tt
  rest_deed seen ticket steps (Kept t) h = tt

  all_before : (seen worker : ℕ) (ps : List Period) → AllByRecursion (IsBefore seen worker) ps → AllByRecursion (λ p. IsCalled called p.deed) ps
  all_before seen worker [] all = tt
  all_before seen worker (p ∷ ps) all = (before_deed seen worker p.steps p.deed all.0, all_before seen worker ps all.1)

  all_rest : (seen ticket : ℕ) (ps : List Period) → AllByRecursion (IsRest seen ticket) ps → AllByRecursion (λ p. IsCalled called p.deed) ps
  all_rest seen ticket [] all = tt
  all_rest seen ticket (p ∷ ps) all = (rest_deed seen ticket p.steps p.deed all.0, all_rest seen ticket ps all.1)

  -- a step for which it was called
  pub step_called : (ticket : ℕ) (turned : Turned) (made : Option Move) (next : Option Phase) (op : ℕ) (phase : Phase) → turned.op ≡ op → turned.phase ≡ phase → called op phase
      → IsCalled called (step_deed ticket turned made next)
  step_called ticket turned None next op phase is_op is_phase h = tt
  step_called ticket turned (Some made) next op phase is_op is_phase h = subst (λ (o : ℕ). called o turned.phase) (sym is_op) (subst (λ (p : Phase). called op p) (sym is_phase) h)

  module _ {S : Type 0} (does : S → Period → S → Type 0) where
    gated_chain : (old new : S) (ps : List Period) → AllByRecursion (λ p. IsCalled called p.deed) ps → Chain does old ps new → Chain (Gated does called) old ps new
    gated_chain old new [] all same = same
    gated_chain old new (p ∷ ps) all (mid, d, rest) = (mid, (d, all.0), gated_chain mid new ps all.1 rest)

    ungated_chain : (old new : S) (ps : List Period) → Chain (Gated does called) old ps new → Chain does old ps new
    ungated_chain old new [] same = same
    ungated_chain old new (p ∷ ps) (mid, d, rest) = (mid, d.0, ungated_chain mid new ps rest)

    -- a begin makes no step
    gated_opens : (old new : S) (seen worker : ℕ) (opening : OpeningView) (told : Result Ticket Refusal) (next : Option Phase) (shown : ℕ) (ps : List Period)
        → Opens seen worker opening told next ps shown → Chain does old ps new → Chain (Gated does called) old ps new
    gated_opens old new seen worker opening told next shown ps opens chain =
        gated_chain old new ps
        (subst (AllByRecursion (λ p. IsCalled called p.deed)) (sym opens.parts)
        (all_snoc (λ p. IsCalled called p.deed) opens.before (record { steps = shown; deed = Began opening opens.logs told next }) (all_before seen worker opens.before opens.early) tt))
        chain

    pub gated_begin : (old new : S) (seen worker : ℕ) (opening : OpeningView) (told : Result Ticket Refusal) (next : Option Phase) (shown : ℕ)
        → Led does old new (λ ps. Opens seen worker opening told next ps shown) → Led (Gated does called) old new (λ ps. Opens seen worker opening told next ps shown)
    gated_begin old new seen worker opening told next shown (ps, chain, opens) = (ps, gated_opens old new seen worker opening told next shown ps opens chain, opens)

    -- nor does a take
    pub gated_take : (old new : S) (seen ticket : ℕ) (answer : Answer) → Led does old new (IsTaken seen ticket answer) → Led (Gated does called) old new (IsTaken seen ticket answer)
    gated_take old new seen ticket answer (ps, chain, taken) = (
      ps,
      gated_chain old new ps
          (subst (AllByRecursion (λ p. IsCalled called p.deed)) (sym taken.parts)
          (all_snoc (λ p. IsCalled called p.deed) taken.rests (record { steps = taken.steps; deed = Took ticket taken.room answer }) (all_rest seen ticket taken.rests taken.early) tt))
          chain,
      taken,
    )

    -- a call that its begin refused
    pub call_refused : (old new : S) (seen : ℕ) (asked : Asked) (opening : OpeningView) → IsOpeningOf asked opening → (refusal : Refusal)
        → Led does old new (λ ps. (shown : ℕ) × Opens seen asked.worker opening (Err refusal) None ps shown)
        → Calls (Gated does called) old new seen asked (Err (faults.Refused refusal))
    call_refused old new seen asked opening made refusal (ps, chain, (shown, opens)) = record {
      periods = ps;
      chain = gated_opens old new seen asked.worker opening (Err refusal) None shown ps opens chain;
      tells = inl (record { opening = opening; shown = shown; made = made; opens = opens });
    }

    -- what a call did, without its gate
    pub ungated : (old new : S) (seen : ℕ) (asked : Asked) (result : Result Answer CallFault) → Calls (Gated does called) old new seen asked result → Calls does old new seen asked result
    ungated old new seen asked result calls = record { periods = calls.periods; chain = ungated_chain old new calls.periods calls.chain; tells = calls.tells }
