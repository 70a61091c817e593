-- A worker has begun the next generation, and nothing was done.
use Rattle.std.proofs.Common.{◌≡◌, Bool, true, false, List, inr, refl, sym, ◌∙◌, ap}
use Rattle.std.{specs.List.list_any, proofs.lemmas.{Bool.true≢false, List.Folds.list_any_none}}
use Rattle.mt_store_logs.specs.Leaves.{NoneBegun}
use Rattle.mt_store_logs.proofs.recovering.leave_one.Goals as goal

some_begun : (p : Bool → Bool) (begun : List Bool) → list_any p begun ≡ true → p false ≡ false → ¬ NoneBegun begun
some_begun p begun some is none = true≢false (sym some ∙ list_any_none p begun (λ k d within. ap p (none k d within) ∙ is))

pub returns-then-contains-clause-ok : goal.returns-then-contains-clause-ok
returns-then-contains-clause-ok g c = inr (some_begun _ c.args.begun.now (sym c.contains.ensures.value ∙ c.if-contains.true) refl, refl)
