-- What an operation is bound for stays under its own steps: for the steps of one that holds nothing, or is to judge.
use Rattle.std.proofs.Common.{◌≢◌, ◌≡◌, ℕ, ◌+◌, ◌<◌, true, false, List, length, Option, Some, None, refl, sym, ap, subst, ◌∙◌, arith}
use Rattle.mt_rows.specs.{declared.command.Command.Command, declared.command.Command.TheVariants.{Get, Put, PutIf, Remove, Scan}, Rows.Bytes, Maps.is_get}
use Rattle.mt_border.specs.Contents.{IsOfTree}
use Rattle.mt_arena.specs.{declared.tree.Tree.Tree, Forests.tree_at, Arena.ArenaView}
use Rattle.mt_descent.specs.KeptWalks.{GoesThrough}
use Rattle.mt_operation.specs.{declared.walk.Walk.Walk, declared.removal.Removal.Removal, declared.outcome.Outcome.Outcome, declared.prepared.Prepared.Prepared}
use Rattle.mt_operation.specs.{declared.splits.Splits.Splits, declared.operation.Operation.Operation, Tasks.{ask, aim_of}, Operations.view_of}
use Rattle.mt_insert.specs.Puts.{is_put}
use Rattle.mt_remove.specs.{Writes.is_remove, KeptRemovals.IsCleaning}
use Rattle.mt_walks.specs.Walked.{IsWithin}
use Rattle.mt_state.specs.{Views.{Core, shown, map_of, KeepsPast}, Promises.IsAnswer, KeptOperations.{IsOpenOperation, HasAnswer, IsBound}}
use Rattle.mt_state.proofs.{Lawful.lawful_more, Rely.answer_stays, Moved.{went_on, first_begun, first_same}}
use Rattle.mt_operation.specs.declared.walk.Aim.TheVariants as aims

-- a get removes nothing, nor does a put
pub get_no_remove : (command : Command) → is_get command ≡ true → is_remove command ≡ false
get_no_remove (Get key columns) e = refl
get_no_remove (Put key change) e = absurd (cc)
get_no_remove (PutIf key stamp change) e = absurd (cc)
get_no_remove (Remove key) e = absurd (cc)
get_no_remove (Scan from after count columns) e = absurd (cc)

pub remove_writes : (command : Command) → is_remove command ≡ true → aim_of command ≡ aims.Write
remove_writes (Get key columns) e = absurd (cc)
remove_writes (Put key change) e = absurd (cc)
remove_writes (PutIf key stamp change) e = absurd (cc)
remove_writes (Remove key) e = refl
remove_writes (Scan from after count columns) e = absurd (cc)

pub put_no_remove : (command : Command) → is_put command ≡ true → is_remove command ≡ false
put_no_remove (Get key columns) e = absurd (cc)
put_no_remove (Put key change) e = refl
put_no_remove (PutIf key stamp change) e = refl
put_no_remove (Remove key) e = absurd (cc)
put_no_remove (Scan from after count columns) e = absurd (cc)

-- what doesn't write is told nothing before it looks
pub look_untold : (told : Option Outcome) (c : Core) (op : Operation) → aim_of (ask op.task) ≢ aims.Write → IsBound told c op → told ≡ None
look_untold None c op looks bound = refl
look_untold (Some outcome) c op looks bound = absurd (looks (remove_writes (ask op.task) bound.removes))

-- a get is told nothing before it looks
pub get_untold : (told : Option Outcome) (c : Core) (op : Operation) → is_get (ask op.task) ≡ true → IsBound told c op → told ≡ None
get_untold None c op gets bound = refl
get_untold (Some outcome) c op gets bound = absurd (let no = sym (get_no_remove (ask op.task) gets) ∙ bound.removes in cc)

-- a key goes through a tree as long as the trees are the same
through_same : (v u : ArenaView) (t layer : ℕ) (key : Bytes) → u.trees ≡ v.trees → GoesThrough v t layer key → GoesThrough u t layer key
through_same v u t layer key same g = record {
  there = subst (λ (trees : List Tree). t < length trees) (sym same) g.there;
  unmade = λ q made. g.unmade q (ap (λ (trees : List Tree). (tree_at trees t).standing) (sym same) ∙ made);
  of_tree = subst (λ (trees : List Tree). IsOfTree (tree_at trees t).prefix layer key) (sym same) g.of_tree;
  begun = g.begun;
}

cleaning_same : (v u : ArenaView) (key : Bytes) (r : Removal) → u.trees ≡ v.trees → IsCleaning v key r → IsCleaning u key r
cleaning_same v u key r same h = record {
  tree = h.tree;
  layer = h.layer;
  cleans = h.cleans;
  through = through_same v u h.tree h.layer key same h.through;
  no_left = h.no_left;
  no_above = h.no_above;
  no_below = h.no_below;
}

-- an operation that makes its next step, with another arena and the past as it was
module _ (c new : Core) (op : Operation) (k : IsOpenOperation c op) (grows : KeepsPast (shown c) (shown new)) (w : Walk) (prepared : Option Prepared) (s : Splits) (r : Removal) where
  abbrev after : Operation
  after = went_on op (c.steps + 1) w op.outcome prepared s r

  -- its answer stays right
  pub answer_goes_on : (told : Outcome) → IsAnswer (shown c) (view_of op) told → IsAnswer (shown new) (view_of after) told
  answer_goes_on told right =
      let stays = answer_stays (shown c) (shown new) grows (view_of op) told k.made right in
      let first = first_same c op k w stays.begun in
      record {
        begun = first_begun c op k w;
        since = omega (arith, first, stays.since);
        upto = omega (arith, stays.upto, k.made);
        placed = stays.placed;
        lawful = lawful_more (map_of (shown new) op.task.tenant) (IsWithin op.walk.first op.last) (IsWithin after.walk.first after.last)
            (λ m between. (let since = between.0 in omega (arith, first, since), let upto = between.1 in omega (arith, upto, k.made))) (ask op.task) told.reply stays.lawful;
      }

  pub answered_on : prepared ≡ None → HasAnswer c op → HasAnswer new after
  answered_on none h = record { outcome = h.outcome; told = h.told; right = answer_goes_on h.outcome h.right; unprepared = none }

-- and what it is bound for, in the same trees
pub bound_on : (c new : Core) (op : Operation) (k : IsOpenOperation c op) → KeepsPast (shown c) (shown new) → (w : Walk) → op.prepared ≡ None
    → new.arena.trees ≡ c.arena.trees
    → (told : Option Outcome) → IsBound told c op → IsBound told new (went_on op (c.steps + 1) w op.outcome op.prepared op.splits op.removal)
bound_on c new op k grows w unprepared same None h = h
bound_on c new op k grows w unprepared same (Some told) h = record {
  removes = h.removes;
  answer = answered_on c new op k grows w op.prepared op.splits op.removal unprepared h.answer;
  cleans = cleaning_same c.arena new.arena op.task.key op.removal same h.cleans;
}
