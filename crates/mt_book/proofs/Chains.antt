-- Chains of periods, put together: for calls.
use Rattle.std.{proofs.Common.{ℕ, true, false, List, [], ◌∷◌, ◌++◌, Some, Ok, Err, refl, subst}, specs.List.AllByRecursion}
use Rattle.mt_runs.specs.declared.event.Answer.{Answer}
use Rattle.mt_operation.specs.declared.phase.Phase.{Phase}
use Rattle.mt_core.specs.{declared.answers.Ticket.Ticket, Admitted.OpeningView}
use Rattle.mt_book.specs.{Periods.{Period, Chain}, Calls.{Asked, IsOpeningOf, IsTurnBy, AreTurns, Opens, Ends, IsTaken, Calls, Led}}
use Rattle.mt_book.specs.declared.calls.CallFault.TheVariants as faults

module _ {S : Type 0} (does : S → Period → S → Type 0) where
  -- two chains in a row are one
  pub chain_append : (old mid new : S) (ps qs : List Period) → Chain does old ps mid → Chain does mid qs new → Chain does old (ps ++ qs) new
  chain_append old mid new [] qs a b = subst (λ s. Chain does s qs new) a b
  chain_append old mid new (p ∷ ps) qs (s, d, rest) b = (s, d, chain_append s mid new ps qs rest b)

  -- a period more
  pub led_more : (old mid new : S) (p : Period) (P Q : List Period → Type 0) → ((ps : List Period) → P ps → Q (ps ++ p ∷ [])) → Led does old mid P → does mid p new → Led does old new Q
  led_more old mid new p P Q h (ps, chain, holds) d = (ps ++ p ∷ [], chain_append old mid new ps (p ∷ []) chain (new, d, refl), h ps holds)

-- what holds of all periods and of one more holds of these
pub all_snoc : (P : Period → Type 0) (ps : List Period) (p : Period) → AllByRecursion P ps → P p → AllByRecursion P (ps ++ p ∷ [])
all_snoc P [] p a h = (h, tt)
all_snoc P (q ∷ ps) p a h = (a.0, all_snoc P ps p a.1 h)

turns_append : (seen ticket shown : ℕ) (next : Phase) (mid : ℕ) (between : Phase) (last : ℕ) (left : Phase) (ps qs : List Period)
    → AreTurns seen ticket shown next ps mid between → AreTurns seen ticket mid between qs last left → AreTurns seen ticket shown next (ps ++ qs) last left
turns_append seen ticket shown next mid between last left [] qs a b =
    subst (λ (n : ℕ). AreTurns seen ticket n next qs last left) a.0 (subst (λ (phase : Phase). AreTurns seen ticket mid phase qs last left) a.1 b)
turns_append seen ticket shown next mid between last left (p ∷ ps) qs (phase, turn, rest) b = (phase, turn, turns_append seen ticket p.steps phase mid between last left ps qs rest b)

-- a turn more
pub turns_snoc : (seen ticket shown : ℕ) (next : Phase) (mid : ℕ) (between : Phase) (ps : List Period) (p : Period) (left : Phase)
    → AreTurns seen ticket shown next ps mid between → IsTurnBy seen ticket mid between p.steps p.deed left → AreTurns seen ticket shown next (ps ++ p ∷ []) p.steps left
turns_snoc seen ticket shown next mid between ps p left a h = turns_append seen ticket shown next mid between p.steps left ps (p ∷ []) a (left, h, (refl, refl))

module _ {S : Type 0} (does : S → Period → S → Type 0) (old new : S) (seen : ℕ) (asked : Asked) (opening : OpeningView) (made : IsOpeningOf asked opening) where
  -- a call that ends with an answer
  pub call_answered : (begun stepped : S) (ticket : Ticket) (shown : ℕ) (next : Phase) (answer : Answer) → Led does old begun (λ ps. Opens seen asked.worker opening (Ok ticket) (Some next) ps shown)
      → Led does begun stepped (Ends seen ticket.id shown next true)
      → Led does stepped new (IsTaken seen ticket.id answer) → Calls does old new seen asked (Ok answer)
  call_answered begun stepped ticket shown next answer (opened, chain, opens) (steps, walk, ends) (back, end, taken) = record {
    periods = (opened ++ steps) ++ back;
    chain = chain_append does old stepped new (opened ++ steps) back (chain_append does old begun stepped opened steps chain walk) end;
    tells = record {
      ticket = ticket;
      front = opened ++ steps;
      back = back;
      parts = refl;
      runs = record { opening = opening; opened = opened; shown = shown; next = next; stepped = steps; parts = refl; made = made; opens = opens; ends = ends };
      taken = taken;
    };
  }

  -- a call that ends since all numbers are given
  pub call_spent : (begun : S) (ticket : Ticket) (shown : ℕ) (next : Phase) → Led does old begun (λ ps. Opens seen asked.worker opening (Ok ticket) (Some next) ps shown)
      → Led does begun new (Ends seen ticket.id shown next false)
      → Calls does old new seen asked (Err (faults.Spent ticket))
  call_spent begun ticket shown next (opened, chain, opens) (steps, walk, ends) = record {
    periods = opened ++ steps;
    chain = chain_append does old begun new opened steps chain walk;
    tells = record { opening = opening; opened = opened; shown = shown; next = next; stepped = steps; parts = refl; made = made; opens = opens; ends = ends };
  }
