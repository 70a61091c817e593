-- What an operation keeps of the nodes that it holds stays when places are given out beside it: for the laws.
use Rattle.std.proofs.Common.{◌≡◌, ℕ, ◌<◌, Bool, length, Option, Some, false, sym, ap, subst, ◌∙◌, inl, inr, arith}
use Rattle.mt_rows.specs.Rows.{Bytes}
use Rattle.mt_arena.specs.{declared.tree.Tree.Tree, NodeView.NodeView, Forests.tree_at}
use Rattle.mt_arena.specs.{Settled.IsSettled, Lags.{Follows, IsUnder, AreFollowers, AreChildren, IsFollowedBy}, Arena.ArenaView}
use Rattle.mt_arena.specs.{Accesses.{at, tree_of, IsHeld, IsOpen}, Given.{GivesOut, GivesOutBeside}}
use Rattle.mt_operation.specs.declared.walk.Walk.{Walk}
use Rattle.mt_descent.specs.{Seen.RangeStands, KeptWalks.HoldsNothing}
use Rattle.mt_descent.proofs.Given.{border_given}
use Rattle.mt_held.specs.Holds.{IsStillBut, HoldsNode, HoldsBy, IsAtUnlock, HoldsOnly, MayReturn}

-- what places given out leave, whoever holds a node
module _ (old new : ArenaView) (g : GivesOut old new) where
  -- a live node is as it was, and so is one that somebody holds
  pub live_same : (k : ℕ) → k < length old.nodes → (at old k).version.deleted ≡ false → at new k ≡ at old k
  live_same k there live = elim (g.nodes k there) [
    | inl same ↦ same
    | inr given ↦ absurd (let out = given.out in cc)
  ]

  pub held_same : (k o : ℕ) → IsHeld old k o → at new k ≡ at old k
  held_same k o h = elim (g.nodes k h.there) [
    | inl same ↦ same
    | inr given ↦ absurd (let free = given.free in let holder = h.holder in cc)
  ]

  -- nobody comes to hold a node
  pub holder_given : (k o : ℕ) → k < length new.nodes → (at new k).holder ≡ Some o → IsHeld old k o
  holder_given k o within holds =
      let there : k < length old.nodes = omega (arith, within, g.count) in
      elim (g.nodes k there) [
        | inl same ↦ record { there = there; holder = ap (λ (n : NodeView). n.holder) (sym same) ∙ holds }
        | inr given ↦ absurd (let free = given.blank.free in cc)
      ]

  -- a blank node names nobody: who names a node named it before
  pub follows_given : (i k : ℕ) → Follows new.nodes i k → Follows old.nodes i k
  follows_given i k is =
      let there : k < length old.nodes = omega (arith, is.0, g.count) in
      elim (g.nodes k there) [
        | inl same ↦ (there, ap (λ (n : NodeView). n.previous) (sym same) ∙ is.1, ap (λ (n : NodeView). n.version.deleted) (sym same) ∙ is.2)
        | inr given ↦ absurd (let none = given.blank.previous in let named = is.1 in cc)
      ]

  pub under_given : (i k : ℕ) → IsUnder new.nodes i k → IsUnder old.nodes i k
  under_given i k is =
      let there : k < length old.nodes = omega (arith, is.0, g.count) in
      elim (g.nodes k there) [
        | inl same ↦ (there, ap (λ (n : NodeView). n.parent) (sym same) ∙ is.1, ap (λ (n : NodeView). n.version.deleted) (sym same) ∙ is.2)
        | inr given ↦ absurd (let none = given.blank.parent in let named = is.1 in cc)
      ]

  -- so nothing comes to lag behind a node
  pub followers_given : (i : ℕ) (next : Option ℕ) → AreFollowers old.nodes i next → AreFollowers new.nodes i next
  followers_given i next followers k is = followers k (follows_given i k is)

  pub children_given : (i : ℕ) (x : NodeView) → AreChildren old.nodes i x → AreChildren new.nodes i x
  children_given i x children k is = children k (under_given i k is)

  pub settled_given : (i : ℕ) (x : NodeView) → IsSettled old.nodes i x → IsSettled new.nodes i x
  settled_given i x h = record {
    previous = λ k within is live. let was = follows_given i k (within, is, live) in h.previous k was.0 was.1 was.2;
    previous_live = λ k within is live. let was = follows_given i k (within, is, live) in h.previous_live k was.0 was.1 was.2;
    parent = λ k within is live. let was = under_given i k (within, is, live) in h.parent k was.0 was.1 was.2;
    reach = h.reach;
    stable = h.stable;
    rooted = h.rooted;
  }

  pub followed_given : (i : ℕ) (x : NodeView) (named : Option ℕ) → IsFollowedBy old.nodes i x named → IsFollowedBy new.nodes i x named
  followed_given i x named h = record {
    followers = followers_given i named h.followers;
    children = children_given i x h.children;
    reach = h.reach;
    stable = h.stable;
    rooted = h.rooted;
  }

  -- the operation holds no other nodes than before
  pub only_given : (o k : ℕ) → HoldsOnly old o k → HoldsOnly new o k
  only_given o k only j within holds = let was = holder_given j o within holds in only j was.there was.holder

  pub nothing_given : (o : ℕ) → HoldsNothing old o → HoldsNothing new o
  nothing_given o nothing k within holds = let was = holder_given k o within holds in nothing k was.there was.holder

-- what they leave of the nodes that operation o holds
module _ (o : ℕ) (old new : ArenaView) (g : GivesOutBeside o old new) where
  pub held_given : (k : ℕ) → IsHeld old k o → IsHeld new k o
  held_given k h = record { there = omega (arith, h.there, g.gives.count); holder = ap (λ (n : NodeView). n.holder) (held_same old new g.gives k o h) ∙ h.holder }

  -- the tree of such a node
  pub tree_given : (k : ℕ) → IsHeld old k o → tree_of new k ≡ tree_of old k
  tree_given k h = ap (λ (n : NodeView). tree_at new.trees n.tree) (held_same old new g.gives k o h) ∙ g.trees k h.there h.holder

  pub tree_there_given : (k : ℕ) → IsHeld old k o → (at old k).tree < length old.trees → (at new k).tree < length new.trees
  tree_there_given k h there = subst (λ (n : NodeView). n.tree < length new.trees) (sym (held_same old new g.gives k o h)) (omega (arith, there, g.gives.tree_count))

  pub open_given : (k : ℕ) → IsHeld old k o → IsOpen old k o → IsOpen new k o
  open_given k h mine q made = mine q (ap (λ (t : Tree). t.standing) (sym (tree_given k h)) ∙ made)

  -- nothing lags behind it
  pub settled_held : (k : ℕ) → IsHeld old k o → IsSettled old.nodes k (at old k) → IsSettled new.nodes k (at new k)
  settled_held k h settled = subst (λ (n : NodeView). IsSettled new.nodes k n) (sym (held_same old new g.gives k o h)) (settled_given old new g.gives k (at old k) settled)

  -- at Judge: the walk's tree is that of its node
  pub node_given : (marked : Bool) (key : Bytes) (w : Walk) → HoldsNode marked old o key w → HoldsNode marked new o key w
  node_given marked key w h =
      let k = w.place.node in
      let same = held_same old new g.gives k o h.held in
      let same_tree : tree_at new.trees w.place.tree ≡ tree_at old.trees w.place.tree
      = subst (λ (t : ℕ). tree_at new.trees t ≡ tree_at old.trees t) h.at_border.covers.remembered.tree_is (g.trees k h.held.there h.held.holder) in
      record {
        at_border = border_given old new g.gives.count g.gives.tree_count key w same same_tree h.at_border;
        held = held_given k h.held;
        still = subst (λ (n : NodeView). IsStillBut marked n.version) (sym same) h.still;
        stands = subst (λ (n : NodeView). RangeStands n w.place.seen) (sym same) h.stands;
      }

  pub judge_given : {marked : Bool} → (key : Bytes) (w : Walk) → HoldsBy marked old o key w → HoldsBy marked new o key w
  judge_given {marked} key w h =
      record { judged = node_given marked key w h.judged; settled = settled_held w.place.node h.judged.held h.settled }

  -- the walk's node
  pub same_node : {marked : Bool} → (key : Bytes) (w : Walk) → HoldsBy marked old o key w → at new w.place.node ≡ at old w.place.node
  same_node {marked} key w h = held_same old new g.gives w.place.node o h.judged.held

  -- at Unlock
  pub unlock_given : (w : Walk) → IsAtUnlock old o w → IsAtUnlock new o w
  unlock_given w h =
      let k = w.place.node in
      record {
        held = held_given k h.held;
        tree_there = tree_there_given k h.held h.tree_there;
        mine = open_given k h.held h.mine;
        settled = settled_held k h.held h.settled;
      }

  -- what may be given back
  pub return_given : (level k : ℕ) → MayReturn old o level k → MayReturn new o level k
  return_given level k h = record {
    held = held_given k h.held;
    level_is = ap (λ (n : NodeView). n.level) (held_same old new g.gives k o h.held) ∙ h.level_is;
    tree_there = tree_there_given k h.held h.tree_there;
    mine = open_given k h.held h.mine;
    settled = settled_held k h.held h.settled;
  }
