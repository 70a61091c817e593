-- The clerks of a book come back, and its history is known whole: for `gather`.
use Rattle.std.{proofs.Common.{◌≡◌, ℕ, ◌+◌, List, [], ◌∷◌, length, sym, ap, subst, ◌∙◌, arith}, specs.List.{AllByRecursion, sum_by}}
use mathlib.Core.List.{IsPrefix}
use Rattle.mt_state.specs.Views.{StateView}
use Rattle.mt_history.{specs.{Legal.{IsLegal, EndsWith}, Views.MarkView}, proofs.Fronts.prefix_trans}
use Rattle.mt_book.specs.{Happens.Leads, Keeping.{BeginsUnasked, IsWhole}}

module _ {C : Type 0} (mark_of : C → MarkView StateView) where
  -- if all that are left have seen beginnings of what the history becomes, all have
  abbrev pub AllHaveSeen : List C → List C → List StateView → Type 0
  AllHaveSeen all left log =
      (final : List StateView) → IsPrefix log final → AllByRecursion (λ c. IsPrefix (mark_of c).log final) left → AllByRecursion (λ c. IsPrefix (mark_of c).log final) all

  -- one more comes back
  pub one_back : (all rest left : List C) (c : C) (old new : List StateView) → AllHaveSeen all rest old → rest ≡ c ∷ left → IsPrefix old new → IsPrefix (mark_of c).log new
      → AllHaveSeen all left new
  one_back all rest left c old new so goes upto seen final front more =
      so final (prefix_trans old new final upto front)
      (subst (AllByRecursion (λ d. IsPrefix (mark_of d).log final)) (sym goes) (prefix_trans (mark_of c).log new final seen front, more))

  -- the history of which all came back
  pub whole_of : (clerks : List C) (log : List StateView) (state : StateView) (answers all : ℕ) → IsLegal Leads log → BeginsUnasked log → EndsWith log state
      → length log ≡ all + 1 → all ≡ sum_by (λ c. (mark_of c).made) clerks + length clerks → AllByRecursion (λ c. IsPrefix (mark_of c).log log) clerks
      → state.answers ≡ answers → IsWhole mark_of clerks answers
  whole_of clerks [] state answers all legal begins ends long sum seen taken = absurd legal
  whole_of clerks (s ∷ log) state answers all legal begins ends long sum seen taken = record {
    first = s;
    log = log;
    unasked = begins;
    legal = legal;
    seen = seen;
    added = omega (arith, long, sum);
    taken = ap (λ (v : StateView). v.answers) ends ∙ taken;
  }
