-- How each step brings a removal on that nobody is in the way of: for `Inner::lock_onward`, `judge_put`, and for the methods of `removals.rt`.
use Rattle.std.proofs.Common.{◌≡◌, ◌≢◌, ℕ, zero, suc, ◌+◌, ◌*◌, ◌<◌, ◌≤◌, inl, inr, Bool, true, false, cond, List, [], ◌∷◌, length, set, Option, Some, None, refl, sym, ap, subst, ◌∙◌, arith}
use Rattle.std.proofs.{lemmas.Option.same_Some, Math.Nat.{add-mul, min-eq_left, min-eq_right, min-le_left, min-le_right, mul-le-mul_right}}
use Rattle.std.proofs.{lemmas.Bool.{cases_eq, cases_lt, both_ways}, lemmas.List.length-set}
use Rattle.std.specs.Prelude.{if◌then◌else◌, nat_lt, min, slice_index, ◌-◌}
use Rattle.mt_version.specs.Parts.{Parts}
use Rattle.mt_slices.specs.{Keys.IsStoredKey, Slices.slice_of}
use Rattle.mt_rows.specs.Rows.{Bytes}
use Rattle.mt_arena.specs.{declared.tree.Tree.Tree, declared.tree.Standing.Standing, declared.tree.Standing.TheVariants.{Dead, Live, Made}}
use Rattle.mt_arena.specs.{NodeView.{NodeView, node_at}, Edits.{locked, unlocked}, Forests.{layer_of, tree_at}, Contents.is_live}
use Rattle.mt_arena.specs.{Arena.{ArenaView, IsArena, live_count}, Accesses.{at, with_node}, RootLevels.{levels_above, levels_among, levels_if, levels_of}}
use Rattle.mt_arena.proofs.{Elsewhere.layer_is, Heights.any_below_live, RootLevels.{above_few, above_live}}
use Rattle.mt_operation.specs.{Phases.{Kind, row, IsDescent, IsRemovalPhase, MayFollow, is_done}, declared.phase.Phase.Phase}
use Rattle.mt_operation.specs.declared.phase.Phase.TheVariants.{CleanLayer, Collapse, Done, DropKey, FixNext, Forward, Judge, Lock, LockAbove, LockPrev, Unlink, Unlock}
use Rattle.mt_operation.specs.{declared.walk.Walk.Walk, declared.outcome.Outcome.Outcome, declared.removal.Removal.Removal, Operations.SplitsView}
use Rattle.mt_operation.proofs.Phases.{IsBehindBy, behind_removal, by_descent, by_removal, few_ranks}
use Rattle.mt_core.proofs.{WalkBounds.{IsWayKind, few_walked, walk_kind}, Points.{removed_at, rounds_at}}
use Rattle.mt_core.specs.Points.{RemovedBy, RoundsBy, HasRemoved, HasRounds, IsRemovalAt, RoundsAt, before_round, round_budget}
use Rattle.mt_core.specs.Budgets.{Budget, IsBudget, IsLiveTree, WalksBy, astray, behind, until}
use Rattle.mt_descent.specs.{Seen.{IsOutdated, IsRemembered}, KeptWalks.{GoesThrough, IsAtBorder}, WalkMoves.{Locks, after_change, walk_anew, walk_into}}
use Rattle.mt_remove.{specs.{Ways.IsLockWay, RemovalEdits.{GoesOnEmptied, after_unlink, for_rest}}, proofs.GoingOn.unlinks_or_not}
use Rattle.mt_held.specs.Moves.{walk_at}
use Rattle.mt_interior.specs.Places.{place_of}
use Rattle.mt_descent.proofs.Decides.{outdated_or_not}
use Rattle.mt_state.{specs.Phases.{LeadsTo, ScanStep}, proofs.RemovalBy.child_before}
use Rattle.mt_operation.specs.Phases as kinds

-- nodes of the same levels make the same levels of trees
same_levels : (old new : List NodeView) → ((k : ℕ) → (node_at new k).level ≡ (node_at old k).level) → (trees : List Tree) (layer count : ℕ)
    → levels_among new trees layer count ≡ levels_among old trees layer count
same_levels old new same trees layer zero = refl
same_levels old new same trees layer (suc t) =
    let tree = tree_at trees t in
    let one : levels_if new layer tree ≡ levels_if old layer tree = ap (λ l. if is_live tree.standing then (if nat_lt (layer_of tree.prefix) layer then l + 1 else 0) else 0) (same tree.root) in
    omega (arith, one, same_levels old new same trees layer t)

-- where one node is another of its level, each level stays; and where it was as live, as many are live
level_set : (xs : List NodeView) (i : ℕ) (y : NodeView) → y.level ≡ (node_at xs i).level → (k : ℕ) → (node_at (set xs i y) k).level ≡ (node_at xs k).level
level_set [] i y e k = refl
level_set (x ∷ xs) zero y e zero = e
level_set (x ∷ xs) zero y e (suc k) = refl
level_set (x ∷ xs) (suc i) y e zero = refl
level_set (x ∷ xs) (suc i) y e (suc k) = level_set xs i y e k

-- no more nodes are live where none that was taken out is live again
pub live_fewer : (xs ys : List NodeView) → length ys ≡ length xs → ((k : ℕ) → k < length xs → (node_at xs k).version.deleted ≡ true → (node_at ys k).version.deleted ≡ true)
    → live_count ys ≤ live_count xs
live_fewer [] [] size gone = omega arith
live_fewer [] (y ∷ ys) size gone = absurd (omega (arith, size))
live_fewer (x ∷ xs) [] size gone = absurd (omega (arith, size))
live_fewer (x ∷ xs) (y ∷ ys) size gone =
    omega (arith, one x.version.deleted y.version.deleted (gone 0 (omega arith)), live_fewer xs ys (omega (arith, size)) (λ k lt. gone (suc k) (omega (arith, lt))))
  where
    one : (a b : Bool) → (a ≡ true → b ≡ true) → (if b then 0 else 1) ≤ (if a then 0 else 1)
    one true b gone = let is = ap {B = ℕ} (λ c. if c then 0 else 1) (gone refl) in omega (arith, is)
    one false true gone = omega arith
    one false false gone = omega arith

live_set : (xs : List NodeView) (i : ℕ) (y : NodeView) → y.version.deleted ≡ (node_at xs i).version.deleted → live_count (set xs i y) ≤ live_count xs
live_set xs i y alike = live_fewer xs (set xs i y) (length-set xs i y) (λ k lt gone. deleted_set xs i y alike k ∙ gone)
  where
    deleted_set : (zs : List NodeView) (j : ℕ) (z : NodeView) → z.version.deleted ≡ (node_at zs j).version.deleted → (k : ℕ)
        → (node_at (set zs j z) k).version.deleted ≡ (node_at zs k).version.deleted
    deleted_set [] j z e k = refl
    deleted_set (x ∷ zs) zero z e zero = e
    deleted_set (x ∷ zs) zero z e (suc k) = refl
    deleted_set (x ∷ zs) (suc j) z e zero = refl
    deleted_set (x ∷ zs) (suc j) z e (suc k) = deleted_set zs j z e k

-- the bounds of a round hold of its way
pub round_law : (v : ArenaView) (height round : ℕ) → IsArena v.nodes v.trees → live_count v.nodes ≤ height → IsBudget v (round_budget height round v)
round_law v height round arena live = record {
  begins = λ layer. omega arith;
  under = λ k there alive layer t. let low = any_below_live v.nodes arena.nodes arena.ranged k there alive in omega (arith, low, live);
  roots = λ t there stands.
      let r = (tree_at v.trees t).root in
      let lr = (arena.forest.each t there).root_there in
      let home = (arena.forest.homes r t lr there).root_is refl (λ dead. absurd (let no = sym stands ∙ dead in cc)) in
      let low = any_below_live v.nodes arena.nodes arena.ranged r lr home.live in
      below_both (at v r).level (levels_of v.nodes (tree_at v.trees t)) height (omega arith) (omega (arith, low, live));
}
  where
    below_both : (x a b : ℕ) → x < a → x < b → x < min a b
    below_both x a b small low = elim (cases_lt a b) [
      | inl less ↦ let is : min a b ≡ a = min-eq_left (omega (arith, less)) in omega (arith, is, small)
      | inr more ↦ let is : min a b ≡ b = min-eq_right more in omega (arith, is, low)
    ]

-- a round that came to a node of a live tree of its layer is within its end
module _ (v : ArenaView) (height round : ℕ) (arena : IsArena v.nodes v.trees) (live : live_count v.nodes ≤ height) (w : Walk) (there : w.place.tree < length v.trees)
    (stands : IsLiveTree v w.place.tree) (of : layer_of (tree_at v.trees w.place.tree).prefix ≡ w.layer) where
  levels : levels_above v.nodes v.trees w.layer + levels_of v.nodes (tree_at v.trees w.place.tree) ≤ levels_above v.nodes v.trees (w.layer + 1)
  levels = above_live v.nodes v.trees w.layer w.place.tree there stands of

  pub round_ends : until (round_budget height round v) w + 32 ≤ before_round height (round + 1)
  round_ends =
      let all = above_few v.nodes v.trees arena (w.layer + 1) in
      let tall = min-le_left (levels_of v.nodes (tree_at v.trees w.place.tree)) height in
      let upper = min-le_right w.layer 31 in
      let below = min-le_left (levels_above v.nodes v.trees w.layer) height in
      let more = add-mul round 1 (3 * height + 404) in
      omega (arith, levels, all, tall, upper, below, live, more)

  -- and so is a step into the next layer within what the layers above it may take
  pub round_deeper : w.layer + 1 < 32 → until (round_budget height round v) w + 12 ≤ (round_budget height round v).enters (w.layer + 1)
  round_deeper shallow =
      let tall = min-le_left (levels_of v.nodes (tree_at v.trees w.place.tree)) height in
      let here : min w.layer 31 ≡ w.layer = min-eq_left (omega (arith, shallow)) in
      let next : min (w.layer + 1) 31 ≡ w.layer + 1 = min-eq_left (omega (arith, shallow)) in
      let below = min-le_left (levels_above v.nodes v.trees w.layer) height in
      let deeper : min (levels_above v.nodes v.trees (w.layer + 1)) height ≡ levels_above v.nodes v.trees (w.layer + 1) = min-eq_left (let all = above_few v.nodes v.trees arena (w.layer + 1) in omega (arith, all, live)) in
      omega (arith, levels, tall, here, next, below, deeper)

-- what a removal knows of its node's tree
module _ (v : ArenaView) (arena : IsArena v.nodes v.trees) (key : Bytes) (w : Walk) (through : GoesThrough v w.place.tree w.layer key)
    (there : w.place.node < length v.nodes) (of : (at v w.place.node).tree ≡ w.place.tree) (alive : (at v w.place.node).version.deleted ≡ false) where
  pub tree_stands : IsLiveTree v w.place.tree
  tree_stands = by (tree_at v.trees w.place.tree).standing refl
    where
      by : (standing : Standing) → (tree_at v.trees w.place.tree).standing ≡ standing → standing ≡ Live
      by (Made q) e = absurd (through.unmade q e)
      by Live e = refl
      by Dead e = absurd ((arena.forest.homes w.place.node w.place.tree there through.there).standing of alive e)

  pub tree_layer : layer_of (tree_at v.trees w.place.tree).prefix ≡ w.layer
  tree_layer = layer_is (tree_at v.trees w.place.tree).prefix key w.layer through.of_tree

-- a stored key reaches at most 32 layers
pub shallow_layer : (layer : ℕ) (key : Bytes) → IsStoredKey key → 8 * layer < length key → layer ≤ 31
shallow_layer layer key stored begun = omega (arith, stored.within, begun)

-- the arena with another node in the place of one, of the same level and as live: the bounds of a round stay
module _ (v : ArenaView) (k : ℕ) (m : NodeView) (level : m.level ≡ (at v k).level) (alike : m.version.deleted ≡ (at v k).version.deleted) where
  upper_stays : (layer : ℕ) → levels_above (set v.nodes k m) v.trees layer ≡ levels_above v.nodes v.trees layer
  upper_stays layer = same_levels v.nodes (set v.nodes k m) (level_set v.nodes k m level) v.trees layer (length v.trees)

  tree_stays : (t : ℕ) → levels_of (set v.nodes k m) (tree_at v.trees t) ≡ levels_of v.nodes (tree_at v.trees t)
  tree_stays t = ap (λ l. l + 1) (level_set v.nodes k m level (tree_at v.trees t).root)

  pub until_stays : (height round : ℕ) (w : Walk) → until (round_budget height round (with_node v k m)) w ≡ until (round_budget height round v) w
  until_stays height round w =
      let tall = ap (λ x. min x height) (tree_stays w.place.tree) in let upper = ap (λ x. min x height) (upper_stays w.layer) in omega (arith, upper, tall)

  pub enters_stays : (height round layer : ℕ) → (round_budget height round (with_node v k m)).enters layer ≡ (round_budget height round v).enters layer
  enters_stays height round layer = let upper = ap (λ x. min x height) (upper_stays layer) in omega (arith, upper)

  pub live_stays : (height : ℕ) → live_count v.nodes ≤ height → live_count (set v.nodes k m) ≤ height
  live_stays height live = omega (arith, live_set v.nodes k m alike, live)

-- the rounds are those of the trees
rounds_same : (told : Option Outcome) (round : ℕ) (v u : ArenaView) (r : Removal) → u.trees ≡ v.trees → HasRounds told round v r → HasRounds told round u r
rounds_same None round v u r same left = left
rounds_same (Some had) round v u r same left = λ t is. subst (λ (ts : List Tree). round + layer_of (tree_at ts t).prefix ≤ 32) (sym same) (left t is)

-- the walk of a removal that takes its lock, that goes on to the next node, or that begins anew where its own was deleted
module _ (o : ℕ) (v arena : ArenaView) (x w : Walk) (told : Option Outcome) (r : Removal) (at_lock : x.phase ≡ Lock) (undeleted : x.place.seen.deleted ≡ false) (locks : Locks o v arena x w)
    (height n : ℕ) (point : IsRemovalAt height n v x told r) where
  so_far : WalksBy Lock (round_budget height point.round v) n v x
  so_far = removed_at height n v x told r Lock at_lock point

  rounds : HasRounds told point.round v r
  rounds = rounds_at height n v x told r Lock at_lock point

  upto : n ≤ until (round_budget height point.round v) x
  upto = elim so_far [ inl now ↦ now.1 | inr strays ↦ omega (arith, strays) ]

  lock_onward : IsOutdated (at v x.place.node) x.place.seen → n + (3 + behind v x.place.node) ≤ astray height → IsRemovalAt height (n + 1) arena w told r
  lock_onward outdated strays = subst (λ (a : ArenaView). IsRemovalAt height (n + 1) a w told r) (sym (locks.leaves outdated))
      (subst (λ (y : Walk). IsRemovalAt height (n + 1) v y told r) (sym (locks.goes_on outdated)) (by (at v x.place.node).version.deleted))
    where
      by : (deleted : Bool)
          → IsRemovalAt height (n + 1) v (cond deleted (walk_anew x) (record x { place = record x.place { seen = (at v x.place.node).version }; next = (at v x.place.node).next; phase = Forward })) told r
      by true = record { round = point.round; most = point.most; live = point.live; rounds = rounds; few = inr (omega (arith, strays)) }
      by false = record { round = point.round; most = point.most; live = point.live; rounds = rounds; few = inl (refl, omega (arith, strays)) }

  lock_takes : ¬ IsOutdated (at v x.place.node) x.place.seen → IsRemovalAt height (n + 1) arena w told r
  lock_takes stands = subst (λ (a : ArenaView). IsRemovalAt height (n + 1) a w told r) (sym (locks.takes stands))
      (subst (λ (y : Walk). IsRemovalAt height (n + 1) (with_node v k held) y told r) (sym (locks.judges stands)) (record {
        round = point.round;
        most = point.most;
        live = live_stays v k held refl refl height point.live;
        rounds = rounds_same told point.round v (with_node v k held) r refl rounds;
        few = let same = until_stays v k held refl refl height point.round x in omega (arith, upto, same);
      }))
    where
      k : ℕ
      k = x.place.node

      held : NodeView
      held = locked (at v k) o

  pub lock_removal : IsRemovalAt height (n + 1) arena w told r
  lock_removal = elim (outdated_or_not (at v x.place.node) x.place.seen) [
    | inl outdated ↦ elim so_far [
      | inl now ↦ absurd (elim outdated [
        | inl deleted ↦ both_ways _ undeleted (ap (λ (p : Parts). p.deleted) now.0 ∙ deleted)
        | inr split ↦ split (ap (λ (p : Parts). p.splits) (sym now.0))
      ])
      | inr strays ↦ lock_onward outdated strays
    ]
    | inr stands ↦ lock_takes stands
  ]

-- a walk that goes on from its node does not judge it
not_judge : (w : Walk) (now : Parts) (next : Option ℕ) → (after_change w now next).phase ≢ Judge
not_judge w now next = by now.deleted
  where
    by : (deleted : Bool) → (cond deleted (walk_anew w) (record w { place = record w.place { seen = now }; next = next; phase = Forward })).phase ≢ Judge
    by true e = absurd (cc)
    by false e = absurd (cc)

-- and so on the way back, where its link comes next in the layer above the tree that it cleans
pub back_lock : (o : ℕ) (key : Bytes) (v arena : ArenaView) (x w : Walk) (told : Option Outcome) (r : Removal) → x.phase ≡ Lock → IsArena v.nodes v.trees → IsAtBorder v key x → told ≢ None
    → IsLockWay o key v arena x w r → (height n : ℕ) → IsRemovalAt height n v x told r → IsRemovalAt height (n + 1) arena w told r
back_lock o key v arena x w told r at_lock is_arena border some t height n point = elim (outdated_or_not (at v x.place.node) x.place.seen) [
  | inl outdated ↦ as_put (t.goes (λ judges. absurd (not_judge x (at v x.place.node).version (at v x.place.node).next (ap (λ (y : Walk). y.phase) (sym (t.locks.locks.goes_on outdated)) ∙ judges))))
  | inr stands ↦ elim (cases_eq (layer_of (tree_at v.trees t.tree).prefix) (x.layer + 1)) [
    | inl below ↦ at_link stands below
    | inr other ↦ as_put (t.goes (λ judges. other))
  ]
]
  where
    remembered : IsRemembered v x.place.tree x.place.node x.place.seen (slice_of key x.layer)
    remembered = border.covers.remembered

    on : IsRemovalAt height (n + 1) arena t.reached told r
    on = lock_removal o v arena x t.reached told r at_lock remembered.undeleted t.locks.locks height n point

    as_put : w ≡ t.reached → IsRemovalAt height (n + 1) arena w told r
    as_put same = subst (λ (y : Walk). IsRemovalAt height (n + 1) arena y told r) (sym same) on

    left_upto : (had : Option Outcome) → had ≢ None → HasRounds had point.round v r → point.round + layer_of (tree_at v.trees t.tree).prefix ≤ 32
    left_upto None none left = absurd (none refl)
    left_upto (Some had) none left = left t.tree t.cleans_is

    alive_by : (deleted : Bool) → ¬ (deleted ≡ true) → deleted ≡ false
    alive_by false never = refl
    alive_by true never = absurd (never refl)

    at_link : ¬ IsOutdated (at v x.place.node) x.place.seen → layer_of (tree_at v.trees t.tree).prefix ≡ x.layer + 1 → IsRemovalAt height (n + 1) arena w told r
    at_link stands below =
        let k = x.place.node in
        let alive : (at v k).version.deleted ≡ false = alive_by (at v k).version.deleted (λ gone. stands (inl gone)) in
        let live = tree_stands v is_arena key x border.through remembered.there remembered.tree_is alive in
        let of = tree_layer v is_arena key x border.through remembered.there remembered.tree_is alive in
        let made : n ≤ until (round_budget height point.round v) x = upto o v arena x t.reached told r at_lock remembered.undeleted t.locks.locks height n point in
        let ends = round_ends v height point.round is_arena point.live x border.through.there live of in
        let left = left_upto told some (rounds_at height n v x told r Lock at_lock point) in
        let reached = t.locks.locks.judges stands in
        subst (λ (a : ArenaView). IsRemovalAt height (n + 1) a w told r) (sym (t.locks.locks.takes stands))
        (subst (λ (y : Walk). IsRemovalAt height (n + 1) (with_node v k (locked (at v k) o)) y told r) (sym (t.cleans (ap (λ (y : Walk). y.phase) reached) below ∙ ap (walk_at CleanLayer) reached)) (record {
          round = point.round;
          most = point.most;
          live = live_stays v k (locked (at v k) o) refl refl height point.live;
          rounds = omega (arith, left, below);
          few = omega (arith, made, ends);
        }))

-- one that follows a link
pub link_removal : (v : ArenaView) (key : Bytes) (tree : ℕ) (w x : Walk) (told : Option Outcome) (r : Removal) → w ≡ walk_into x tree (x.layer + 1) → x.phase ≡ Judge
    → IsArena v.nodes v.trees → x.place.tree < length v.trees → IsLiveTree v x.place.tree → layer_of (tree_at v.trees x.place.tree).prefix ≡ x.layer
    → x.layer + 1 < 32 → IsLiveTree v tree
    → (height n : ℕ) → IsRemovalAt height n v x told r → IsRemovalAt height (n + 1) (with_node v x.place.node (unlocked (at v x.place.node))) w told r
link_removal v key tree w x told r goes at_judge is_arena there stands of shallow live height n point =
    let k = x.place.node in
    let m = unlocked (at v k) in
    subst (λ (y : Walk). IsRemovalAt height (n + 1) (with_node v k m) y told r) (sym goes) (record {
      round = point.round;
      most = point.most;
      live = live_stays v k m refl refl height point.live;
      rounds = rounds_same told point.round v (with_node v k m) r refl (rounds_at height n v x told r Judge at_judge point);
      few =
          let made = removed_at height n v x told r Judge at_judge point in
          let deeper = round_deeper v height point.round is_arena point.live x there stands of shallow in
          inl (live, (let same = enters_stays v k m refl refl height point.round (x.layer + 1) in omega (arith, made, deeper, same)));
    })

-- one that has made all ready to take its pair out
pub ready_removal : (v : ArenaView) (x w : Walk) (slot : ℕ) (r : Removal) → w ≡ record x { slot = slot; phase = DropKey } → x.phase ≡ Judge
    → IsArena v.nodes v.trees → x.place.tree < length v.trees → IsLiveTree v x.place.tree → layer_of (tree_at v.trees x.place.tree).prefix ≡ x.layer
    → x.layer ≤ 31
    → (height n : ℕ) → IsRemovalAt height n v x None r → IsRemovalAt height (n + 1) v w None r
ready_removal v x w slot r goes at_judge is_arena there stands of shallow height n point = subst (λ (y : Walk). IsRemovalAt height (n + 1) v y None r) (sym goes) (record {
  round = point.round;
  most = point.most;
  live = point.live;
  rounds = let none : point.round ≡ 0 = rounds_at height n v x None r Judge at_judge point in omega (arith, none, shallow);
  few = let made = removed_at height n v x None r Judge at_judge point in
      let ends = round_ends v height point.round is_arena point.live x there stands of in omega (arith, made, ends);
})

-- one behind a slot that was taken out
pub emptied_removal : (u : ArenaView) (x w : Walk) (s t : Removal) (told : Option Outcome) (height made round : ℕ) → GoesOnEmptied u x w s t → told ≢ None
    → live_count u.nodes ≤ height → round + x.layer ≤ 31 → made + 9 ≤ before_round height (round + 1) → IsRemovalAt height made u w told t
emptied_removal u x w s t told height made round goes some live left few = elim (unlinks_or_not u x.place.node) [
  | inl is ↦ subst (λ (y : Walk). IsRemovalAt height made u y told t) (sym (goes.unlinks is)) (record { round = round; most = omega (arith, left); live = live; rounds = left; few = omega (arith, few) })
  | inr other ↦ subst (λ (y : Walk). IsRemovalAt height made u y told t) (sym (goes.returns other)) (record { round = round; most = omega (arith, left); live = live; rounds = (left, some); few = omega (arith, few) })
]

-- a step that takes an empty node or an empty layer out leaves the walk where it is, but for the phase
module _ (o step : ℕ) (key : Bytes) (v u : ArenaView) (x w : Walk) (s : Removal) where
  at_walk : (phase : Phase) → w ≡ walk_at phase x → w ≡ walk_at w.phase x
  at_walk phase is = is ∙ ap (λ (p : Phase). walk_at p x) (sym (ap (λ (y : Walk). y.phase) is))

  pub taken_walk : (p : Phase) → IsRemovalPhase p → (told : Option Outcome) (splits : SplitsView) (g : ScanStep) → LeadsTo p v u o step key told splits s g x w → w ≡ walk_at w.phase x
  taken_walk LockPrev i told splits g l = at_walk LockAbove l.goes
  taken_walk LockAbove i told splits g l =
      let place = place_of (at v l.parent).separators (at v x.place.node).low in
      elim (child_before place s.left (Some (slice_index (at v l.parent).children (place - 1)))) [
        | inl is ↦ at_walk Unlink (l.unlinks is)
        | inr other ↦ at_walk Unlock (l.returns other)
      ]
  taken_walk Unlink i told splits g l = at_walk (after_unlink (at v x.place.node).next (at u l.0)) l.2
  taken_walk FixNext i told splits g l = at_walk (for_rest (at v l.0)) l.2
  taken_walk Collapse i told splits g l = at_walk Unlock l
  taken_walk CleanLayer i told splits g l = elim l.2 [
    | inl none ↦ at_walk Unlock none.goes
    | inr (inl full) ↦ at_walk Unlock full.goes
    | inr (inr drops) ↦ elim (unlinks_or_not u x.place.node) [
      | inl is ↦ at_walk LockPrev (drops.goes.unlinks is)
      | inr other ↦ at_walk Unlock (drops.goes.returns other)
    ]
  ]
  taken_walk _ i told splits g l = absurd i

-- so the number of steps after it, and the rounds
taken_few : (p q : Phase) → IsRemovalPhase p → MayFollow p q → (height round n : ℕ) (v u : ArenaView) (x w : Walk) → HasRemoved p height round n v x
    → HasRemoved q height round (n + 1) u w
taken_few p q i follows height round n v u x w few =
    let on = behind_removal p q i follows in behind (row q).kind on.0 (by_removal (λ p. HasRemoved p height round n v x → n + 12 ≤ before_round height (round + 1) + (row p).rank)
    (λ k. k) (λ k. k) (λ k. k) (λ k. k) (λ k. k) (λ k. k) p i few) on.1
  where
    behind : (k : Kind) → IsBehindBy k → n + 12 ≤ before_round height (round + 1) + (row p).rank → (row p).rank < (row q).rank → RemovedBy k q height round (n + 1) u w
    behind kinds.Unlinks is upto on = omega (arith, upto, on)
    behind kinds.Returns is upto on = omega (arith, upto, on)
    behind _ is upto on = absurd is

left_before : (p : Phase) → IsRemovalPhase p → (told : Option Outcome) (round : ℕ) (v : ArenaView) (x : Walk) (r : Removal) → RoundsAt p told round v x r
    → round + x.layer ≤ 31
left_before p i told round v x r = by_removal (λ p. RoundsAt p told round v x r → round + x.layer ≤ 31) (λ k. k) (λ k. k) (λ k. k) (λ k. k) (λ k. k) (λ k. k) p i

left_behind : (p q : Phase) → IsRemovalPhase p → MayFollow p q → (told : Option Outcome) → told ≢ None → (round : ℕ) (v : ArenaView) (w : Walk) (r : Removal)
    → round + w.layer ≤ 31 → RoundsAt q told round v w r
left_behind p q i follows told some round v w r left = behind (row q).kind (behind_removal p q i follows).0
  where
    behind : (k : Kind) → IsBehindBy k → RoundsBy k told round v w r
    behind kinds.Unlinks is = left
    behind kinds.Returns is = (left, some)
    behind _ is = absurd is

pub taken_removal : (p : Phase) → IsRemovalPhase p → (v u : ArenaView) (x w : Walk) (told : Option Outcome) (s t : Removal) → x.phase ≡ p → MayFollow p w.phase
    → w ≡ walk_at w.phase x → told ≢ None → live_count u.nodes ≤ live_count v.nodes
    → (height n : ℕ) → IsRemovalAt height n v x told s → IsRemovalAt height (n + 1) u w told t
taken_removal p i v u x w told s t at_p follows goes some fewer height n point = record {
  round = point.round;
  most = point.most;
  live = omega (arith, fewer, point.live);
  rounds = left_behind p w.phase i follows told some point.round u w t
      (let left = left_before p i told point.round v x s (rounds_at height n v x told s p at_p point) in let same = ap (λ (y : Walk). y.layer) goes in omega (arith, left, same));
  few = taken_few p w.phase i follows height point.round n v u x w (removed_at height n v x told s p at_p point);
}

-- once all locks were given back it goes back to the link of the layer that it has left empty
pub back_removal : (v u : ArenaView) (x w : Walk) (told : Option Outcome) (s t : Removal) → x.phase ≡ Unlock → w ≡ walk_into x 0 0 → t.cleans ≡ Some x.place.tree
    → IsArena v.nodes v.trees → u.trees ≡ v.trees → layer_of (tree_at v.trees x.place.tree).prefix ≡ x.layer → live_count u.nodes ≤ live_count v.nodes
    → (height n : ℕ) → IsRemovalAt height n v x told s → IsRemovalAt height (n + 1) u w told t
back_removal v u x w told s t at_unlock goes cleans is_arena trees of fewer height n point = subst (λ (y : Walk). IsRemovalAt height (n + 1) u y told t) (sym goes) (record {
  round = point.round + 1;
  most = omega (arith, left);
  live = omega (arith, fewer, point.live);
  rounds = rounds_back told (rounds_at height n v x told s Unlock at_unlock point).1;
  few =
      let made = removed_at height n v x told s Unlock at_unlock point in
      inl (subst (λ (ts : List Tree). (tree_at ts 0).standing ≡ Live) (sym trees) is_arena.forest.top.live, omega (arith, made));
})
  where
    left : point.round + x.layer ≤ 31
    left = (rounds_at height n v x told s Unlock at_unlock point).0

    rounds_back : (had : Option Outcome) → had ≢ None → HasRounds had (point.round + 1) u t
    rounds_back None some = absurd (some refl)
    rounds_back (Some had) some = λ k is.
        let same : x.place.tree ≡ k = same_Some x.place.tree k (sym cleans ∙ is) in
        let layer : layer_of (tree_at u.trees k).prefix ≡ x.layer = ap (λ (ts : List Tree). layer_of (tree_at ts k).prefix) trees ∙ ap (λ j. layer_of (tree_at v.trees j).prefix) (sym same) ∙ of in
        omega (arith, left, layer)

-- a step down brings it on too
walks_removed : (q : Phase) (height round made : ℕ) (v : ArenaView) (w : Walk) → WalksBy q (round_budget height round v) made v w → HasRemoved q height round made v w
walks_removed p height round made v w few = by (row p).kind (walk_kind p (round_budget height round v) made v w few)
  where
    by : (k : Kind) → IsWayKind k → RemovedBy k p height round made v w
    by kinds.Descends is = few
    by kinds.Reads is = few
    by kinds.Scans is = few
    by kinds.Locks is = few
    by _ is = absurd is

removed_walks : (p : Phase) → IsDescent p → (height round made : ℕ) (v : ArenaView) (w : Walk) → HasRemoved p height round made v w → WalksBy p (round_budget height round v) made v w
removed_walks p i height round made v w = by_descent (λ p. HasRemoved p height round made v w → WalksBy p (round_budget height round v) made v w) (λ k. k) (λ k. k) (λ k. k) (λ k. k) (λ k. k) p i

rounds_walk : (q : Phase) (b : Budget) (made : ℕ) (v : ArenaView) (w : Walk) (told : Option Outcome) (round : ℕ) (r : Removal) → WalksBy q b made v w → HasRounds told round v r
    → RoundsAt q told round v w r
rounds_walk q b made v w told round r few left = by (row q).kind (walk_kind q b made v w few)
  where
    by : (k : Kind) → IsWayKind k → RoundsBy k told round v w r
    by kinds.Descends is = left
    by kinds.Reads is = left
    by kinds.Scans is = left
    by kinds.Locks is = left
    by _ is = absurd is

descent_rounds : (p : Phase) → IsDescent p → (told : Option Outcome) (round : ℕ) (v : ArenaView) (w : Walk) (r : Removal) → RoundsAt p told round v w r → HasRounds told round v r
descent_rounds p i told round v w r = by_descent (λ p. RoundsAt p told round v w r → HasRounds told round v r) (λ k. k) (λ k. k) (λ k. k) (λ k. k) (λ k. k) p i

pub descent_removal : (v : ArenaView) (w x : Walk) (told : Option Outcome) (r : Removal) → IsArena v.nodes v.trees → IsDescent w.phase
    → ((b : Budget) → IsBudget v b → (made : ℕ) → WalksBy w.phase b made v w → WalksBy x.phase b (made + 1) v x)
    → (height made : ℕ) → IsRemovalAt height made v w told r → IsRemovalAt height (made + 1) v x told r
descent_removal v w x told r arena descent nears height made point =
    let b = round_budget height point.round v in
    let few = nears b (round_law v height point.round arena point.live) made (removed_walks w.phase descent height point.round made v w point.few) in
    record {
      round = point.round;
      most = point.most;
      live = point.live;
      rounds = rounds_walk x.phase b (made + 1) v x told point.round r few (descent_rounds w.phase descent told point.round v w r point.rounds);
      few = walks_removed x.phase height point.round (made + 1) v x few;
    }

-- in no round has it made many steps
few_round : (height round : ℕ) → round ≤ 32 → before_round height round ≤ 4 * height + 16 + 32 * (3 * height + 404)
few_round height round most = let rounds = mul-le-mul_right (3 * height + 404) most in omega (arith, rounds)

few_removed : (p : Phase) (height round made : ℕ) (v : ArenaView) (w : Walk) → round ≤ 32 → HasRemoved p height round made v w → made < 256 * (height + 64)
few_removed p height round made v w most few = by (row p).kind few
  where
    here : before_round height round ≤ 4 * height + 16 + 32 * (3 * height + 404)
    here = few_round height round most

    next : before_round height (round + 1) ≡ before_round height round + (3 * height + 404)
    next = let more = add-mul round 1 (3 * height + 404) in omega (arith, more)

    enters : (round_budget height round v).enters w.layer ≤ before_round height round + 3 * height + 372
    enters = let upper = min-le_right (levels_above v.nodes v.trees w.layer) height in let layers = min-le_right w.layer 31 in omega (arith, upper, layers)

    tall : (round_budget height round v).tall w.place.tree ≤ height
    tall = min-le_right (levels_of v.nodes (tree_at v.trees w.place.tree)) height

    walked : WalksBy p (round_budget height round v) made v w → made < 256 * (height + 64)
    walked few = elim (few_walked p (round_budget height round v) made v w few) [ inl now ↦ omega (arith, now, here, enters, tall) | inr strays ↦ omega (arith, strays) ]

    ranked : made + 12 ≤ before_round height (round + 1) + (row p).rank → made < 256 * (height + 64)
    ranked few = omega (arith, few, here, next, few_ranks p)

    by : (k : Kind) → RemovedBy k p height round made v w → made < 256 * (height + 64)
    by kinds.Descends few = walked few
    by kinds.Reads few = walked few
    by kinds.Scans few = walked few
    by kinds.Locks few = walked few
    by kinds.Judges few = omega (arith, few, here, enters, tall, few_ranks p)
    by kinds.Drops few = ranked few
    by kinds.Unlinks few = ranked few
    by kinds.Cleans few = ranked few
    by kinds.Returns few = ranked few
    by _ few = absurd few

pub few_removal : (height made : ℕ) (v : ArenaView) (w : Walk) (told : Option Outcome) (r : Removal) → IsRemovalAt height made v w told r → made < 256 * (height + 64)
few_removal height made v w told r point = few_removed w.phase height point.round made v w point.most point.few

-- and it is not done
pub removal_left : (p : Phase) (height round made : ℕ) (v : ArenaView) (w : Walk) → HasRemoved p height round made v w → is_done p ≡ false
removal_left Done height round made v w few = absurd few
removal_left _ height round made v w few = refl
