-- What a removal leaves that gives its locks back, by whether it has left a layer empty.
use Rattle.std.proofs.Common.{rules, Some, sym, subst}
use Rattle.mt_operation.specs.declared.removal.Removal.{Removal}
use Rattle.mt_remove.{specs.KeptRemovals.IsCleaning, proofs.Leaving.{holds_none, enters_top, goes_to_link}}
use Rattle.mt_remove.proofs.phases.unlock.unlock.Goals as goal

pub returns-then-cleans : goal.returns-then-cleans
returns-then-cleans c =
    let v = c.args.arena.now in
    let d = c.give_back_all.new.arena in
    let w = c.args.walk.now in
    let r = c.args.removal.now in
    let back = c.give_back_all.ensures.is in
    record {
      is = back;
      cleans = λ empties. search rules;
      ends = λ other. absurd (other (c.empties_layer-cleans.ensures.yes c.if-cleans.true));
      keeps = record { same = search rules; guarantee = c.give_back_all.ensures.step; contents = c.give_back_all.ensures.contents };
      kept = λ key kept empties. (
        enters_top v d c.args.operation w r back key c.facts.ensures.arena kept,
        subst (λ (x : Removal). IsCleaning d key (record x { cleans = Some w.place.tree })) (sym c.new.ensures) (goes_to_link v d c.args.operation w r back key c.facts.ensures.arena kept),
      );
      nothing = holds_none v d c.args.operation w r back;
    }

pub returns-else-cleans : goal.returns-else-cleans
returns-else-cleans c =
    let v = c.args.arena.now in
    let d = c.give_back_all.new.arena in
    let w = c.args.walk.now in
    let r = c.args.removal.now in
    let back = c.give_back_all.ensures.is in
    record {
      is = back;
      cleans = λ empties. absurd (c.empties_layer-cleans.ensures.no c.if-cleans.false empties);
      ends = λ other. search rules;
      keeps = record { same = search rules; guarantee = c.give_back_all.ensures.step; contents = c.give_back_all.ensures.contents };
      kept = λ key kept empties. absurd (c.empties_layer-cleans.ensures.no c.if-cleans.false empties);
      nothing = holds_none v d c.args.operation w r back;
    }
