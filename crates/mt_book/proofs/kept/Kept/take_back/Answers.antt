use Rattle.std.proofs.Common.{List, ◌∷◌, [], sym, ap, subst}
use mathlib.Core.List.{IsPrefix}
use Rattle.mt_state.specs.Views.{StateView}
use Rattle.mt_book.specs.{Happens.{Acted}, Periods.{look_period}, Keeping.KeptView}
use Rattle.mt_book.proofs.{Keeping.{leads_on, ends_now, begins_now}, Seats.{born_kept, stay_same}}
use Rattle.mt_book.proofs.kept.Kept.take_back.Goals as goal

pub add-requires : goal.add-requires
add-requires g c = leads_on c.self.inside.tip c.self.inside.book.state c.state.result.now c.look.new.self.state c.self.invariant.0 c.facts.ensures.state (Acted (look_period c.look.result)) c.look.ensures c.state.ensures

pub returns-clause-upto : goal.returns-clause-upto
returns-clause-upto g c = subst (λ (log : List StateView). IsPrefix log c.add.new.self) (ap (λ (k : KeptView). k.log) c.self.view_is) (c.state.result.now ∷ [], sym c.add.ensures.adds)

pub invariant_of-self : goal.invariant_of-self
invariant_of-self g c =
    let was = c.self.inside.book.state in
    let now = c.look.new.self.state in
    (ends_now c.self.inside.tip c.add.new.self c.state.result.now now c.add.ensures.adds c.state.ensures, begins_now c.self.inside.tip c.add.new.self c.state.result.now c.add.ensures.adds c.self.invariant.1, c.self.invariant.2, c.self.invariant.3, c.self.invariant.4, born_kept was.table now.table c.self.inside.births.items (stay_same was now c.look.ensures.1.0) c.self.invariant.5)
