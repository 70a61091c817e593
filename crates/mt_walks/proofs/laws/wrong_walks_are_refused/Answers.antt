use Rattle.std.proofs.{Common.{◌≡◌, inl, inr, Some, sym, ◌∙◌}, lemmas.List.Elements.All-contains}
use Rattle.mt_rows.specs.{Rows.Bytes, Stamps.Stamped}
use Rattle.std.specs.FinMap as pairs
use Rattle.mt_walks.proofs.laws.wrong_walks_are_refused.Goals as goal

pub returns-clause-missed : goal.returns-clause-missed
returns-clause-missed c = λ m passed reached seen key row ahead upto there missing s. elim (s.whole key ahead upto) [
  | inl has ↦ missing has
  | inr absent ↦ let both = sym there ∙ absent in cc
]

pub returns-clause-not_there : goal.returns-clause-not_there
returns-clause-not_there c = λ m passed reached seen p has other s. other (All-contains (λ (q : Bytes × Stamped). pairs.get m q.0 ≡ Some q.1) seen p s.real has)

pub returns-clause-passed_by : goal.returns-clause-passed_by
returns-clause-passed_by c = λ maps first last from after columns passed ps key row walked done stayed missing w. elim (w.whole key walked done) [
  | inl has ↦ missing has
  | inr absent ↦ let both = sym (stayed absent.0 absent.1) ∙ absent.2 in cc
]
