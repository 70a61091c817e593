-- One run has all that was told of a legal history: for the law.
use Rattle.std.proofs.{Common.{◌≡◌, ℕ, zero, suc, ◌<◌, List, [], ◌∷◌, length, Option, Some, None, slice_get, refl, ap, arith}, lemmas.Option.same_Some}
use Rattle.mt_state.specs.Views.{StateView}
use Rattle.mt_history.specs.Legal.{Along}
use Rattle.mt_book.specs.{Happens.{Happening, Happens, Leads}, OneRun.{AreTold, HasAll}}

no_value : {A : Type 0} {a : A} → ◌≡◌ {A = Option A} None (Some a) → ⊥
no_value e = cc

-- what led to a state: what was told of it, if something was
pub record First (told : Option Happening) (s t : StateView) : Type 0 where
  pub what : Happening
  pub happens : Happens s what t
  pub is : (h : Happening) → told ≡ Some h → what ≡ h

first_of : (told : Option Happening) (s t : StateView) → Leads s t → ((h : Happening) → told ≡ Some h → Happens s h t) → First told s t
first_of None s t leads all = record { what = leads.what; happens = leads.happens; is = λ h e. absurd (no_value e) }
first_of (Some g) s t leads all = record { what = g; happens = all g refl; is = λ h e. same_Some g h e }

stands_at : (told : ℕ → Option Happening) (log : List StateView) (what : Happening) (run : List Happening) → ((h : Happening) → told 0 ≡ Some h → what ≡ h)
    → ((k : ℕ) (h : Happening) → k < length log → told (suc k) ≡ Some h → slice_get run k ≡ Some h)
    → (k : ℕ) (h : Happening) → k < suc (length log) → told k ≡ Some h → slice_get (what ∷ run) k ≡ Some h
stands_at told log what run is rest zero h lt e = ap (λ x. Some x) (is h e)
stands_at told log what run is rest (suc k) h lt e = rest k h (omega (arith, lt)) e

pub one_run : (told : ℕ → Option Happening) (s : StateView) (log : List StateView) → Along Leads s log → AreTold told s log → HasAll told s log
one_run told s [] legal all = record { run = []; through = tt; stands = λ k h lt e. absurd (omega (arith, lt)) }
one_run told s (t ∷ log) legal all =
    let first = first_of (told 0) s t legal.0 all.0 in
    let rest = one_run (λ k. told (suc k)) t log legal.1 all.1 in
    record { run = first.what ∷ rest.run; through = (first.happens, rest.through); stands = stands_at told log first.what rest.run first.is rest.stands }
