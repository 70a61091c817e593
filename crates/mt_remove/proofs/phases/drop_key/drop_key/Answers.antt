-- That the holder may take its key's pair out, what that is for contents and tape, and what is kept then.
use Rattle.std.proofs.Common.{rules, ℕ, sym, ap, subst, ◌∙◌}
use Rattle.mt_rows.specs.Rows.{Bytes}
use Rattle.mt_border.specs.{Contents.row_of, declared.entry.Entry.Entry, Entries.without}
use Rattle.mt_tape.specs.declared.entry.Entry.{Entry as Write}
use Rattle.mt_arena.specs.{Edits.{with_slots, cells_without}, Arena.{ArenaView, content_of}, Accesses.{at, with_node}}
use Rattle.mt_operation.specs.{declared.removal.Removal.Removal, declared.walk.Walk.Walk}
use Rattle.mt_descent.specs.{KeptWalks.walk_place, WalkMoves.Continues}
use Rattle.mt_held.{specs.{Holds.HoldsOnly, Taping.pushed, Moves.walk_at}, proofs.Places.{row_here, may_store}}
use Rattle.mt_remove.specs.KeptRemovals.{IsEmptyChild, IsUnburdened, KeptRemoval}
use Rattle.mt_remove.proofs.{Dropping.{dropped_kept, dropped_only}, GoingOn.{emptied_walk, emptied_either, emptied_child}}
use Rattle.std.specs.FinMap as finite
use Rattle.mt_remove.proofs.phases.drop_key.drop_key.Goals as goal

pub let_go-requires : goal.let_go-requires
let_go-requires c =
    let kept = c.requires.kept in
    record { may = (c.args.task.now.key, kept.pair, may_store c.args.arena.now c.args.operation c.args.task.now.key c.args.walk.now c.facts.ensures.arena kept.holds c.args.walk.now.slot kept.pair kept.in_slot kept.stable) }

pub returns : goal.returns
returns c =
    let v = c.args.arena.now in
    let u = c.let_go.new.self in
    let o = c.args.operation in
    let key = c.args.task.now.key in
    let w = c.args.walk.now in
    let k : ℕ = w.place.node in
    let after = c.go_on_emptied.new.walk in
    let r = c.args.removal.now in
    let t = c.go_on_emptied.new.removal in
    let arena = c.facts.ensures.arena in
    let kept = c.requires.kept in
    let is = c.let_go.ensures.is in
    let goes = c.go_on_emptied.ensures in
    let walk = emptied_walk u w after r t goes in
    let free : IsUnburdened t = record {
      left = ap (λ (x : Removal). x.left) goes.removal ∙ c.requires.free.left;
      parent = ap (λ (x : Removal). x.parent) goes.removal ∙ c.requires.free.parent;
      below = ap (λ (x : Removal). x.below) goes.removal ∙ c.requires.free.below;
    } in
    record {
      is = is;
      row = row_of kept.pair;
      places = record {
        was_there = row_here v o key w arena kept.holds w.slot kept.pair kept.in_slot kept.stable;
        contents = c.let_go.ensures.contents key kept.pair (may_store v o key w arena kept.holds w.slot kept.pair kept.in_slot kept.stable)
            ∙ ap (λ (q : ℕ × Bytes). finite.remove (content_of v) q) c.requires.removal.owner;
        tape_is = c.push_write.ensures ∙ ap (λ (e : Write). pushed c.args.tape.now (record e { step = c.args.step })) (c.into_write.ensures ∙ kept.ready);
      };
      count = c.count_removed.ensures.counted;
      others = c.count_removed.ensures.others;
      goes = goes;
      same = subst (λ (x : Walk). Continues w x) (sym walk) (search rules);
      guarantee = c.let_go.ensures.step;
      kept = subst (λ (x : Walk). KeptRemoval after.phase u o key x t) (sym walk)
          (subst (λ (a : ArenaView). KeptRemoval after.phase a o key (walk_at after.phase w) t) (sym is)
          (dropped_kept v o (walk_place v w) key w arena kept.holds t free after.phase (emptied_either u w after r t goes)
          (λ prev. subst (λ (a : ArenaView). IsEmptyChild (at a k)) is (emptied_child u w after r t goes prev))));
      holds = λ only. subst (λ (x : Walk). HoldsOnly u o x.place.node) (sym walk)
          (subst (λ (a : ArenaView). HoldsOnly a o k) (sym is) (dropped_only v o (walk_place v w) key w arena kept.holds only));
    }
