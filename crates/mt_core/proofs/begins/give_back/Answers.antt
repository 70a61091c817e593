-- What is taken out without a step, for `give_back`.
use Rattle.std.{proofs.Common.{◌≡◌, Box, Global, Option, Some, None, refl, ◌∙◌}, specs.{Prelude.{OnSome, slice_set}, Option.option_map, Box.box_value}}
use Rattle.mt_operation.specs.declared.operation.Operation.{Operation}
use Rattle.mt_core.proofs.begins.give_back.Goals as goal

-- what holds where a box is given holds where its operation is
given : (r : Option (Box Operation Global)) (op : Operation) (P : Type 0) → option_map box_value r ≡ Some op → OnSome r P → P
given None op P e h = absurd (cc)
given (Some made) op P e h = h

pub returns-clause-gone : goal.returns-clause-gone
returns-clause-gone c = λ yes.
    let still = c.if-not-is_still.ensures.yes refl in
    (still.0, still.1, still.2, given c.remove.result still.0 (c.remove.new.self ≡ slice_set c.args.operations.now c.args.id None) (c.remove.ensures.value ∙ still.1) c.remove.ensures.gone)
