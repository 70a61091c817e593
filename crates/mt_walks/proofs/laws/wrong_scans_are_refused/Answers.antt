use Rattle.mt_walks.{specs.Walked.IsWithin, proofs.Walks.not_twice}
use Rattle.std.proofs.{Common.{◌≡◌, ℕ, [], Some, IsSome, refl, sym, ap, subst, ◌∙◌, arith, true}, lemmas.List.Elements.All-contains}
use Rattle.mt_rows.specs.{Rows.Bytes, Maps.is_walked, Stamps.{Stamped, as_shown}}
use Rattle.std.specs.FinMap as pairs
use Rattle.mt_walks.proofs.laws.wrong_scans_are_refused.Goals as goal

pub returns-clause-too_many : goal.returns-clause-too_many
returns-clause-too_many c = λ maps first last from after count columns ps more h. omega (arith, more, h.few)

pub returns-clause-key_twice : goal.returns-clause-key_twice
returns-clause-key_twice c = λ maps first last from after count columns front back key row other h. not_twice front back key row other h.rises

pub returns-clause-before_its_start : goal.returns-clause-before_its_start
returns-clause-before_its_start c = λ maps first last from after count columns ps p has no h. let yes = All-contains (λ (q : Bytes × Stamped). is_walked from after q.0 ≡ true) ps p h.walked has in let both = sym no ∙ yes in cc

pub returns-clause-not_there : goal.returns-clause-not_there
returns-clause-not_there c = λ maps first last from after count ps p has never h.
    let w = All-contains (λ (q : Bytes × Stamped). (m : ℕ) × IsWithin first last m × ((row : Stamped) × (pairs.get (maps m) q.0 ≡ Some row) × (q.1 ≡ as_shown [] row))) ps p h.real has in
    never w.0 w.1 (w.2.1 ∙ ap Some (sym w.2.2))

pub returns-clause-skipped : goal.returns-clause-skipped
returns-clause-skipped c = λ maps first last from after count columns ps key row walked fewer stayed missing h.
    missing (h.whole key walked (λ as_many. absurd (omega (arith, fewer, as_many))) (λ m between. subst IsSome (sym (stayed m between)) refl))
