-- What each step of a split leaves of all nodes, and what is told of it by that: no pair moves, and a version counts at most one change.
use Rattle.std.proofs.Common.{List, None, Some, [], ap, arith, cond, false, inl, inr, length, length-append, refl, set, subst, sym, true, ℕ, ◌++◌, ◌+◌, ◌<◌, ◌∙◌, ◌∷◌, ◌≡◌, ◌≤◌, ◌⊎◌}
use Rattle.std.proofs.lemmas.Bool.{cases_eq, cases_lt, both_ways}
use Rattle.mt_arena.specs.{declared.tree.Tree.Tree, declared.tree.Standing.Standing, NodeView.{NodeView, node_at}, Forests.tree_at}
use Rattle.mt_arena.specs.{Contents.{counts, is_live}, Arena.{ArenaView, content_of}, Accesses.at}
use Rattle.mt_arena.proofs.Pairs.{before as as_before, here, last as as_pushed, there}
use Rattle.mt_state.specs.{Invariant.{IsCountedUpTo, StateInvariant, DeletedAreEmpty}, Growth.MakesFew, KeptBack.{Retires, TakesLive}}
use Rattle.mt_state.specs.{Given.ChangesArena, Views.{Core, shown}}
use Rattle.mt_state.proofs.{Quiet.{HasPairsOf, same_slots}, Giving.{GivesFirsts, MakesUnchosen, gives_none, makes_none, retires_given}}

-- the same pairs, tree, level and version's counts, and a lock is taken of a live node alone
pub record Stays (o : ℕ) (x y : NodeView) : Type 0 where
  pub slots : y.slots ≡ x.slots
  pub tree : y.tree ≡ x.tree
  pub level : y.level ≡ x.level
  pub deleted : y.version.deleted ≡ x.version.deleted
  pub inserts : y.version.inserts ≡ x.version.inserts
  pub splits : y.version.splits ≡ x.version.splits
  pub taken : y.holder ≡ Some o → (x.holder ≡ Some o) ⊎ (x.version.deleted ≡ false)

pub stays_same : (o : ℕ) (x : NodeView) → Stays o x x
stays_same o x = record { slots = refl; tree = refl; level = refl; deleted = refl; inserts = refl; splits = refl; taken = λ held. inl held }

-- a node that was taken out and that nobody held, and a live one without pairs in its place, which counts one split more
pub record ComesAgain (x y : NodeView) : Type 0 where
  pub out : x.version.deleted ≡ true
  pub free : x.holder ≡ None
  pub slots : y.slots ≡ []
  pub live : y.version.deleted ≡ false
  pub inserts : y.version.inserts ≡ x.version.inserts
  pub splits : y.version.splits ≡ x.version.splits + 1

-- a new node, without pairs
pub record IsBare (n : NodeView) : Type 0 where
  pub slots : n.slots ≡ []
  pub live : n.version.deleted ≡ false
  pub inserts : n.version.inserts ≡ 0
  pub splits : n.version.splits ≡ 0

-- all nodes stay so, or one comes in the place of one that was taken out; those that were added are new, the trees are as they were but for their roots, and
-- none is taken out
pub record LeavesNodes (least o : ℕ) (old new : ArenaView) : Type 0 where
  pub more : length old.nodes ≤ length new.nodes
  pub each : (k : ℕ) → k < length old.nodes → Stays o (at old k) (at new k) ⊎ ComesAgain (at old k) (at new k)
  pub fresh : (k : ℕ) → length old.nodes ≤ k → k < length new.nodes → IsBare (at new k)
  pub trees : length new.trees ≡ length old.trees
  pub prefix : (t : ℕ) → (tree_at new.trees t).prefix ≡ (tree_at old.trees t).prefix
  pub standing : (t : ℕ) → (tree_at new.trees t).standing ≡ (tree_at old.trees t).standing
  pub one : length new.nodes ≤ length old.nodes + 1
  pub retired : GivesFirsts old.retired new.retired
  pub last : MakesUnchosen least old new

-- what holds of each node and its number, where one node is another
pub each_set : (P : ℕ → NodeView → Type 0) (xs : List NodeView) (i : ℕ) (y : NodeView) → ((j : ℕ) → j < length xs → P j (node_at xs j)) → P i y
    → (j : ℕ) → j < length xs → P j (node_at (set xs i y) j)
each_set P xs i y all new j lt = elim (cases_eq j i) [
  | inl is ↦ subst (λ k. P k (node_at (set xs i y) k)) (sym is) (subst (P i) (sym (here xs i y (subst (λ k. k < length xs) is lt))) new)
  | inr other ↦ subst (P j) (sym (there xs i j y other)) (all j lt)
]

-- and so of those that were there before one more came
pub each_pushed : (P : ℕ → NodeView → Type 0) (count : ℕ) (xs : List NodeView) (y : NodeView) → length xs ≡ count → ((j : ℕ) → j < count → P j (node_at xs j))
    → (j : ℕ) → j < count → P j (node_at (xs ++ y ∷ []) j)
each_pushed P count xs y size all j lt = subst (P j) (sym (as_before xs y j (omega (arith, lt, size)))) (all j lt)

-- that one is behind them
pub pushed_at : (xs : List NodeView) (y : NodeView) (count k : ℕ) → length xs ≡ count → count ≤ k → k < length (xs ++ y ∷ []) → node_at (xs ++ y ∷ []) k ≡ y
pushed_at xs y count k size from lt =
    ap (node_at (xs ++ y ∷ [])) {x = k} {y = length xs} (omega (arith, size, from, lt, length-append xs (y ∷ []))) ∙ as_pushed xs y

-- the nodes of another list in the same trees
pub leaves_set : (least o : ℕ) (old : ArenaView) (ys : List NodeView) → length ys ≡ length old.nodes
    → ((k : ℕ) → k < length old.nodes → Stays o (at old k) (node_at ys k)) → LeavesNodes least o old (record old { nodes = ys })
leaves_set least o old ys size each = record {
  more = omega (arith, size);
  each = λ k lt. inl (each k lt);
  fresh = λ k from lt. absurd (omega (arith, from, lt, size));
  trees = refl;
  prefix = λ t. refl;
  standing = λ t. refl;
  one = omega (arith, size);
  retired = gives_none old.retired;
  last = makes_none least old (record old { nodes = ys }) size refl;
}

-- a node of the same tree counts as before
same_counts : (was now : List Tree) (n m : NodeView) → m.version.deleted ≡ n.version.deleted → m.tree ≡ n.tree
    → (tree_at now n.tree).standing ≡ (tree_at was n.tree).standing
    → counts now m ≡ counts was n
same_counts was now n m deleted tree standing =
    ap (λ d. cond d false (is_live (tree_at now m.tree).standing)) deleted ∙ ap (λ t. cond n.version.deleted false (is_live (tree_at now t).standing)) tree
    ∙ ap (λ (st : Standing). cond n.version.deleted false (is_live st)) standing

module _ (least o : ℕ) (old new : ArenaView) (l : LeavesNodes least o old new) where
  -- a live node stays
  pub stays_live : (k : ℕ) → k < length old.nodes → (at old k).version.deleted ≡ false → Stays o (at old k) (at new k)
  stays_live k lt live = elim (l.each k lt) [
    | inl stays ↦ stays
    | inr again ↦ absurd (let both = sym again.out ∙ live in cc)
  ]

  pub makes : MakesFew old new
  makes = record { nodes_stay = l.more; one_node = l.one; trees_stay = omega (arith, l.trees); one_tree = omega (arith, l.trees) }

  pub stood : (k : ℕ) → k < length new.nodes → counts new.trees (at new k) ≡ true → HasPairsOf old new k ⊎ ((at new k).slots ≡ [])
  stood k within counted = elim (cases_lt k (length old.nodes)) [
    | inl was ↦ elim (l.each k was) [
      | inl n ↦ inl (record {
        there = was;
        counted = sym (same_counts old.trees new.trees (at old k) (at new k) n.deleted n.tree (l.standing (at old k).tree)) ∙ counted;
        prefix = ap (λ t. (tree_at new.trees t).prefix) n.tree ∙ l.prefix (at old k).tree;
        slots = same_slots (at old k) (at new k) n.slots;
      })
      | inr again ↦ inr again.slots
    ]
    | inr late ↦ inr (l.fresh k late within).slots
  ]

  pub takes : TakesLive o old new
  takes k within holds = elim (cases_lt k (length old.nodes)) [
    | inl was ↦ elim (l.each k was) [
      | inl n ↦ inl (was, n.taken holds)
      | inr again ↦ inr again.live
    ]
    | inr late ↦ inr (l.fresh k late within).live
  ]

  pub versions : (steps : ℕ) → ((k : ℕ) → k < length old.nodes → IsCountedUpTo steps (at old k)) → (k : ℕ) → k < length new.nodes
      → IsCountedUpTo (steps + 1) (at new k)
  versions steps were k within = elim (cases_lt k (length old.nodes)) [
    | inl was ↦ let c = were k was in elim (l.each k was) [
      | inl n ↦ record { inserts = omega (arith, n.inserts, c.inserts); splits = omega (arith, n.splits, c.splits) }
      | inr again ↦ record { inserts = omega (arith, again.inserts, c.inserts); splits = omega (arith, again.splits, c.splits) }
    ]
    | inr late ↦ let n = l.fresh k late within in record { inserts = omega (arith, n.inserts); splits = omega (arith, n.splits) }
  ]

  pub deleted : DeletedAreEmpty old → DeletedAreEmpty new
  deleted all k within gone = elim (cases_lt k (length old.nodes)) [
    | inl was ↦ elim (l.each k was) [
      | inl n ↦ n.slots ∙ all k was (sym n.deleted ∙ gone)
      | inr again ↦ again.slots
    ]
    | inr late ↦ absurd (both_ways _ (l.fresh k late within).live gone)
  ]

-- what a step of a split makes of all nodes: no pair moves, and a version counts at most one change
pub record MovesNoPair (c : Core) (o : ℕ) (arena : ArenaView) : Type 0 where
  pub changes : ChangesArena (shown c) o arena
  pub contents : content_of arena ≡ content_of c.arena
  pub stood : (k : ℕ) → k < length arena.nodes → counts arena.trees (at arena k) ≡ true → HasPairsOf c.arena arena k ⊎ ((at arena k).slots ≡ [])
  pub versions : (k : ℕ) → k < length arena.nodes → IsCountedUpTo (c.steps + 1) (at arena k)
  pub deleted : DeletedAreEmpty arena
  pub taken_out : Retires c.steps c.arena.retired arena.retired
  pub takes : TakesLive o c.arena arena
  pub makes : MakesFew c.arena arena

-- so by what is left of the nodes
pub moves_by : (c : Core) (least o : ℕ) (arena : ArenaView) → StateInvariant c → LeavesNodes least o c.arena arena → ChangesArena (shown c) o arena
    → content_of arena ≡ content_of c.arena → MovesNoPair c o arena
moves_by c least o arena h leaves changes contents = record {
  changes = changes;
  contents = contents;
  stood = stood least o c.arena arena leaves;
  versions = versions least o c.arena arena leaves c.steps h.versions;
  deleted = deleted least o c.arena arena leaves h.deleted;
  taken_out = retires_given c.steps c.arena.retired arena.retired h.late leaves.retired;
  takes = takes least o c.arena arena leaves;
  makes = makes least o c.arena arena leaves;
}
