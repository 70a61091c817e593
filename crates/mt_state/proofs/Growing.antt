-- If no node and no tree is made, none is taken out, and no place is given out: for the phases that do nothing of it.
use Rattle.std.proofs.{Common.{◌≡◌, ℕ, zero, suc, ◌+◌, ◌<◌, inl, List, [], ◌∷◌, length, refl, sym, subst, arith}, lemmas.List.length-set}
use Rattle.mt_arena.specs.{declared.retired.Retired.Retired, NodeView.NodeView, Idle.{RetiredPlaces, with_retired, with_border, with_interior, with_tree}}
use Rattle.mt_arena.{specs.{Given.{AreOutUpTo, StepsFrom, step_of_idle}, Arena.{ArenaView, Guarantee}, Accesses.with_node}, proofs.Out.upto_later}
use Rattle.mt_descent.{specs.KeptBack.{ListsAfter, RetiresAfter}, proofs.KeptBack.{lists_same, lists_more}}
use Rattle.mt_state.specs.{Growth.MakesFew, KeptBack.Retires, Given.{GivesPlaces, MakesLast, ChangesArena}, Views.{StateView, Core, shown}}

-- as many nodes and trees as before
pub makes_same : (old new : ArenaView) → length new.nodes ≡ length old.nodes → length new.trees ≡ length old.trees → MakesFew old new
makes_same old new nodes trees = record {
  nodes_stay = omega (arith, nodes);
  one_node = omega (arith, nodes);
  trees_stay = omega (arith, trees);
  one_tree = omega (arith, trees);
}

-- one node in the place of another
pub makes_set : (v : ArenaView) (k : ℕ) (n : NodeView) → MakesFew v (with_node v k n)
makes_set v k n = makes_same v (with_node v k n) (length-set v.nodes k n) refl

-- lists that stay are listed after each birth
pub after_same : (birth : ℕ) (gone : RetiredPlaces) → RetiresAfter birth gone gone
after_same birth gone = record { borders = lists_same birth gone.borders; interiors = lists_same birth gone.interiors; trees = lists_same birth gone.trees }

-- so are those with one more, of a later step
abbrev one : ℕ → ℕ → Retired
one place step = record { place = place; step = step }

later_one : (birth place step : ℕ) → birth < step → (i : ℕ) → i < length (one place step ∷ []) → birth < step_of_idle (one place step ∷ []) i
later_one birth place step later zero lt = later
later_one birth place step later (suc i) lt = absurd (omega (arith, lt))

more_after : (birth : ℕ) (gone : List Retired) (place step : ℕ) → birth < step → ListsAfter birth gone (with_retired gone place step)
more_after birth gone place step later = lists_more birth gone (one place step ∷ []) (later_one birth place step later)

pub after_border : (birth : ℕ) (gone : RetiredPlaces) (node step : ℕ) → birth < step → RetiresAfter birth gone (with_border gone node step)
after_border birth gone node step later =
    record { borders = more_after birth gone.borders node step later; interiors = lists_same birth gone.interiors; trees = lists_same birth gone.trees }

pub after_interior : (birth : ℕ) (gone : RetiredPlaces) (node step : ℕ) → birth < step → RetiresAfter birth gone (with_interior gone node step)
after_interior birth gone node step later =
    record { borders = lists_same birth gone.borders; interiors = more_after birth gone.interiors node step later; trees = lists_same birth gone.trees }

pub after_layer : (birth : ℕ) (gone : RetiredPlaces) (node tree step : ℕ) → birth < step → RetiresAfter birth gone (with_tree (with_border gone node step) tree step)
after_layer birth gone node tree step later = record {
  borders = more_after birth gone.borders node step later;
  interiors = lists_same birth gone.interiors;
  trees = more_after birth gone.trees tree step later;
}

-- all that is out was taken out before, so that the next step is later
pub retires_none : (steps : ℕ) (gone : RetiredPlaces) → AreOutUpTo steps gone → Retires steps gone gone
retires_none steps gone late = record {
  upto = upto_later steps (steps + 1) gone (omega arith) late;
  after = λ birth born. after_same birth gone;
}

pub retires_same : (c : Core) (arena : ArenaView) → AreOutUpTo c.steps c.arena.retired → arena.retired ≡ c.arena.retired
    → Retires c.steps c.arena.retired arena.retired
retires_same c arena late same = subst (Retires c.steps c.arena.retired) (sym same) (retires_none c.steps c.arena.retired late)

-- no place is given out
pub nothing_given : (v : StateView) → GivesPlaces v v.arena
nothing_given v = record {
  least = 0;
  before = λ q op there. omega arith;
  given = record {
    gives = record { count = refl; tree_count = refl; nodes = λ k within. inl refl; trees = λ t within. inl refl };
    nodes = λ k out. refl;
    trees = λ t out. refl;
  };
  contents = refl;
  lists = λ birth born. after_same birth v.arena.retired;
}

-- none is made
pub nothing_made : (v : StateView) (new : ArenaView) → length new.nodes ≡ length v.arena.nodes → length new.trees ≡ length v.arena.trees → MakesLast v new
nothing_made v new nodes trees = record { nodes = λ k from lt. absurd (omega (arith, from, lt, nodes)); trees = λ more. absurd (omega (arith, more, trees)) }

-- so does a step that makes no node and gives no place out
pub changes_on : (c : Core) (o : ℕ) (arena : ArenaView) → length arena.nodes ≡ length c.arena.nodes → length arena.trees ≡ length c.arena.trees → Guarantee o c.arena arena
    → Retires c.steps c.arena.retired arena.retired → ChangesArena (shown c) o arena
changes_on c o arena nodes trees step out =
    record { mid = c.arena; gives = nothing_given (shown c); step = step; retires = out.after; last = nothing_made (shown c) arena nodes trees }
