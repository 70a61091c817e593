-- No pair gets another stamp as a layer is made: for `make_layer`, `mark_unstable`, `link` and `mark_layer`.
use Rattle.std.proofs.Common.{◌≡◌, ◌≢◌, ℕ, ◌<◌, List, [], ◌∷◌, length, get_or, set, Bool, true, false, if◌then◌else◌, Some, refl, sym, ap, subst, ◌∙◌, inl, inr, arith}
use Rattle.std.proofs.{lemmas.Bool.cases_eq, lemmas.Option.{none-some, same_Some}, lemmas.List.{length-set, get_or-set_same, get_or-set_other}}
use Rattle.mt_rows.specs.Rows.{Bytes}
use Rattle.mt_border.specs.{declared.entry.Entry.Entry, Held.Pair, Held.Held, Held.{Unstable, Link}}
use Rattle.mt_border.specs.{Entry.pair_of, Contents.{HasKey, owned, key_at}}
use Rattle.mt_border.proofs.{Edits.{any_entry, replaced_at}, ContentsKeys.owned_at}
use Rattle.mt_arena.specs.{declared.tree.Tree.Tree, declared.tree.Standing.Standing, declared.tree.Standing.TheVariants.{Made, Live}, NodeView.NodeView, Contents.{counts, is_live}}
use Rattle.mt_arena.specs.{Forests.{tree_at, no_tree, layer_of}, Layers.slot_at, Arena.{ArenaView, IsArena}, Accesses.{at, tree_of}}
use Rattle.mt_arena.specs.{Layering.{layer_tree, tree_number, border_number, with_held, with_layer_at, with_slot, with_link}, Idle.{AreRetired, chosen}, Given.AreForgotten}
use Rattle.mt_arena.proofs.{Pairs.{here, there}, LayerIn.{RootIn, TreeIn, root_in, tree_in}}
use Rattle.mt_operation.specs.declared.walk.Walk.{Walk}
use Rattle.mt_descent.specs.KeptWalks.{walk_place}
use Rattle.mt_layer.specs.{KeptLayers.MakesLayer, NewLayers.{HasStamp, KeepsStamps, entry_below}}

-- an entry has the slice and the mark of another one, and no pair but the other one's
record IsLike (was now : Entry) : Type 0 where
  slice : now.slice ≡ was.slice
  mark : now.mark ≡ was.mark
  pair : (pair : Pair) → pair_of now.held ≡ Some pair → pair_of was.held ≡ Some pair

-- as each entry has itself
itself : (e : Entry) → IsLike e e
itself e = record { slice = refl; mark = refl; pair = λ pair is. is }

-- a slot's pair is as it was, where its node counts as it did
as_was : (v w : ArenaView) (k i : ℕ) (owner : ℕ × Bytes) (stamp : ℕ) → k < length v.nodes → counts w.trees (at w k) ≡ counts v.trees (at v k)
    → (tree_of w k).prefix ≡ (tree_of v k).prefix
    → length (at w k).slots ≡ length (at v k).slots → IsLike (slot_at (at v k) i) (slot_at (at w k) i) → HasStamp w k i owner stamp → HasStamp v k i owner stamp
as_was v w k i owner stamp within counted prefix size like h = record {
  there = within;
  counted = sym counted ∙ h.counted;
  in_range = omega (arith, size, h.in_range);
  pair = h.pair;
  is = like.pair h.pair h.is;
  owner_is = (λ a. owned (key_at (sym prefix a) (record (slot_at (at w k) i) { slice = sym like.slice a; mark = sym like.mark a }) h.pair)) ∙ h.owner_is;
  stamp_is = h.stamp_is;
}

-- so it is in a node that is as it was
node_as_was : (v w : ArenaView) (k i : ℕ) (owner : ℕ × Bytes) (stamp : ℕ) → k < length v.nodes → at w k ≡ at v k → tree_at w.trees (at v k).tree ≡ tree_of v k
    → HasStamp w k i owner stamp → HasStamp v k i owner stamp
node_as_was v w k i owner stamp within same same_tree =
    let n = at v k in
    as_was v w k i owner stamp within
    (ap (counts w.trees) same ∙ ap (λ (t : Tree). if n.version.deleted then false else is_live t.standing) same_tree)
    (ap (λ (x : NodeView). (tree_at w.trees x.tree).prefix) same ∙ ap (λ (t : Tree). t.prefix) same_tree)
    (ap (λ (x : NodeView). length x.slots) same)
    (subst (λ (x : NodeView). IsLike (slot_at n i) (slot_at x i)) (sym same) (itself (slot_at n i)))

-- a node that counts is live, and so is its tree
counts_live : (trees : List Tree) (n : NodeView) → counts trees n ≡ true → n.version.deleted ≡ false
counts_live trees n = by n.version.deleted
  where
    by : (d : Bool) → (if d then false else is_live (tree_at trees n.tree).standing) ≡ true → d ≡ false
    by true counted = absurd (cc)
    by false counted = refl

made_counts : (trees : List Tree) (n : NodeView) (op : ℕ) → (tree_at trees n.tree).standing ≡ Made op → counts trees n ≡ true → ⊥
made_counts trees n op made counted = by n.version.deleted (sym (ap (λ (s : Standing). if n.version.deleted then false else is_live s) made) ∙ counted)
  where
    by : (d : Bool) → (if d then false else false) ≡ true → ⊥
    by true is = absurd (cc)
    by false is = absurd (cc)

-- a tree is made, whose pairs do not count
pub layer_keeps : (v : ArenaView) (prefix : Bytes) (e : Entry) (least op : ℕ) → IsArena v.nodes v.trees → AreRetired v.nodes v.trees v.retired → AreForgotten least v
    → KeepsStamps v (with_layer_at v prefix e least op)
layer_keeps v prefix e least op arena listed forgotten j m owner stamp has =
    let t = tree_number least v in
    let h = border_number least v in
    let w : ArenaView = with_layer_at v prefix e least op in
    let root_made : RootIn v op least t e (chosen v.retired.borders least) = root_in v op least e arena.nodes listed forgotten t in
    let tree_made : TreeIn v op least (layer_tree prefix h op) (chosen v.retired.trees least) = tree_in v op least e arena.nodes listed forgotten (layer_tree prefix h op) refl in
    elim (cases_eq j h) [
      | inl same ↦
          let of_tree : (at w j).tree ≡ t = ap (λ j. (at w j).tree) same ∙ ap (λ (n : NodeView). n.tree) root_made.node.is in
          absurd (made_counts w.trees (at w j) op (ap (λ s. (tree_at w.trees s).standing) of_tree ∙ ap (λ (u : Tree). u.standing) tree_made.tree.is) has.counted)
      | inr other ↦
          let was = root_made.node.others j has.there other in
          elim (cases_eq (at v j).tree t) [
            | inl of_tree ↦
                let same : (at w j).tree ≡ t = ap (λ (n : NodeView). n.tree) was.1 ∙ of_tree in
                absurd (made_counts w.trees (at w j) op (ap (λ s. (tree_at w.trees s).standing) same ∙ ap (λ (u : Tree). u.standing) tree_made.tree.is) has.counted)
            | inr apart ↦
                let tree_same = (tree_made.tree.others (at v j).tree (omega (arith, arena.forest.tree_there j was.0, tree_made.tree.more)) apart).1 in
                (j, m, node_as_was v w j m owner stamp was.0 was.1 tree_same has)
          ]
    ]

-- a slot holds something else
module _ (v : ArenaView) (k i : ℕ) (held : Held) (arena : IsArena v.nodes v.trees) (within : k < length v.nodes) (in_range : i < length (at v k).slots)
    (goes_on : (pair : Pair) → pair_of held ≡ Some pair → pair_of (slot_at (at v k) i).held ≡ Some pair) where
  abbrev n : NodeView
  n = at v k

  abbrev e : Entry
  e = slot_at n i

  abbrev after : Entry
  after = record e { held = held }

  abbrev y : NodeView
  y = with_held n i held

  slots_are : y.slots ≡ set n.slots i after
  slots_are = replaced_at n.slots i after any_entry (arena.nodes.each k within).slots.border.rising in_range refl

  size : length y.slots ≡ length n.slots
  size = ap length slots_are ∙ length-set n.slots i after

  slot_here : slot_at y i ≡ after
  slot_here = ap (λ (es : List Entry). get_or es i any_entry) slots_are ∙ get_or-set_same n.slots i after any_entry in_range

  slot_there : (m : ℕ) → m ≢ i → slot_at y m ≡ slot_at n m
  slot_there m other = ap (λ (es : List Entry). get_or es m any_entry) slots_are ∙ get_or-set_other n.slots i m after any_entry other

  like : (m : ℕ) → IsLike (slot_at n m) (slot_at y m)
  like m = elim (cases_eq m i) [
    | inl same ↦ subst (λ m. IsLike (slot_at n m) (slot_at y m)) (sym same) (subst (IsLike e) (sym slot_here) (record { slice = refl; mark = refl; pair = goes_on }))
    | inr other ↦ subst (IsLike (slot_at n m)) (sym (slot_there m other)) (itself (slot_at n m))
  ]

  -- its node has no pair that it had not, also where other trees change
  node_keeps : (w : ArenaView) (m : ℕ) (owner : ℕ × Bytes) (stamp : ℕ) → at w k ≡ y → tree_at w.trees n.tree ≡ tree_of v k
      → HasStamp w k m owner stamp → HasStamp v k m owner stamp
  node_keeps w m owner stamp now same_tree =
      as_was v w k m owner stamp within
      (ap (counts w.trees) now ∙ ap (λ (t : Tree). if n.version.deleted then false else is_live t.standing) same_tree)
      (ap (λ (x : NodeView). (tree_at w.trees x.tree).prefix) now ∙ ap (λ (t : Tree). t.prefix) same_tree)
      (ap (λ (x : NodeView). length x.slots) now ∙ size)
      (subst (λ (x : NodeView). IsLike (slot_at n m) (slot_at x m)) (sym now) (like m))

  -- and no pair gets another stamp
  pub slot_keeps : KeepsStamps v (with_slot v k i held)
  slot_keeps j m owner stamp h =
      let w = with_slot v k i held in
      elim (cases_eq j k) [
        | inl same ↦ (k, m, node_keeps w m owner stamp (here v.nodes k y within) refl (subst (λ j. HasStamp w j m owner stamp) same h))
        | inr other ↦
            let inside : j < length v.nodes = omega (arith, h.there, length-set v.nodes k y) in
            (j, m, node_as_was v w j m owner stamp inside (there v.nodes k j y other) refl h)
      ]

-- the operation's slot holds its pair otherwise
pub held_keeps : (v : ArenaView) (op : ℕ) (key : Bytes) (w : Walk) (t : ℕ) (what held : Held) (pair : Pair) → IsArena v.nodes v.trees
    → ((p : Pair) → pair_of held ≡ Some p → pair_of what ≡ Some p)
    → MakesLayer v op key w t what pair → KeepsStamps v (with_slot v w.place.node (walk_place v w) held)
held_keeps v op key w t what held pair arena goes_on m =
    let slot = m.layer.slot in
    slot_keeps v w.place.node (walk_place v w) held arena slot.held.there slot.in_range (λ p is. ap pair_of slot.is ∙ goes_on p is)

-- the slot is a link, and the tree has its pair from now on
module _ (v : ArenaView) (op : ℕ) (key : Bytes) (walk : Walk) (t : ℕ) (pair : Pair) (arena : IsArena v.nodes v.trees) (makes : MakesLayer v op key walk t (Unstable pair (Some t)) pair) where
  abbrev k : ℕ
  k = walk.place.node

  abbrev i : ℕ
  i = walk_place v walk

  abbrev old : NodeView
  old = at v k

  abbrev tree : Tree
  tree = tree_at v.trees t

  abbrev w : ArenaView
  w = with_link v k i t

  abbrev written : NodeView
  written = with_held old i (Link t)

  within : k < length v.nodes
  within = makes.layer.slot.held.there

  -- other trees are as they were
  tree_there : (u : ℕ) → u ≢ t → tree_at w.trees u ≡ tree_at v.trees u
  tree_there u other = get_or-set_other v.trees t u (record tree { standing = Live }) no_tree other

  prefix_is : (tree_at w.trees t).prefix ≡ tree.prefix
  prefix_is = ap (λ (x : Tree). x.prefix) (get_or-set_same v.trees t (record tree { standing = Live }) no_tree makes.goes_on.there)

  -- the node's tree is another one
  apart : old.tree ≢ t
  apart same = absurd (
      let mine : tree.standing ≡ Made op = makes.layer.layer.mine in
      let both : Live ≡ Made op = sym makes.layer.slot.tree_live ∙ ap (λ u. (tree_at v.trees u).standing) same ∙ mine in
      cc)

  -- the new tree's pair is the one that the slot had
  pair_below : (es : List Entry) (m : ℕ) (owner : ℕ × Bytes) (stamp : ℕ) (p : Pair) → es ≡ entry_below pair ∷ [] → m < length es
      → pair_of (get_or es m any_entry).held ≡ Some p
      → owned (key_at tree.prefix (get_or es m any_entry) p) ≡ owner → p.stamp ≡ stamp → HasStamp v k i owner stamp
  pair_below es m owner stamp p are lt is owner_is stamp_is =
      let slot = makes.layer.slot in
      let made = makes.layer.layer.made in
      let only : m ≡ 0 = omega (arith, lt, ap length are) in
      let entry : get_or es m any_entry ≡ entry_below pair = (λ a. get_or (are a) (only a) any_entry) in
      let same : made.slot ≡ entry_below pair = ap (λ (es : List Entry). get_or es 0 any_entry) (sym made.slots ∙ makes.first) in
      let has : HasKey tree.prefix (layer_of tree.prefix) (get_or es m any_entry) makes.other = subst (λ (x : Entry). HasKey tree.prefix (layer_of tree.prefix) x makes.other) (same ∙ sym entry) made.has in
      let was : pair_of (slot_at old i).held ≡ Some pair = ap pair_of slot.is in
      record {
        there = within;
        counted = ap (λ b. if b then false else is_live (tree_of v k).standing) slot.live ∙ ap is_live slot.tree_live;
        in_range = slot.in_range;
        pair = pair;
        is = was;
        owner_is = owned_at (tree_of v k).prefix (layer_of (tree_of v k).prefix) (slot_at old i) makes.other pair makes.layer.has was
            ∙ sym (owned_at tree.prefix (layer_of tree.prefix) (get_or es m any_entry) makes.other p has is) ∙ owner_is;
        stamp_is = ap (λ (q : Pair). q.stamp) (same_Some _ _ (ap (λ (x : Entry). pair_of x.held) (sym entry) ∙ is)) ∙ stamp_is;
      }

  pub link_keeps : KeepsStamps v w
  link_keeps j m owner stamp h = elim (cases_eq j k) [
    | inl same ↦ (k, m, node_keeps v k i (Link t) arena within makes.layer.slot.in_range (λ p is. absurd (none-some p is)) w m owner stamp (here v.nodes k written within) (tree_there old.tree apart) (subst (λ j. HasStamp w j m owner stamp) same h))
    | inr other ↦
        let inside : j < length v.nodes = omega (arith, h.there, length-set v.nodes k written) in
        let now : at w j ≡ at v j = there v.nodes k j written other in
        elim (cases_eq (at v j).tree t) [
          | inl of_tree ↦
              let root : j ≡ tree.root = makes.layer.layer.made.alone j inside of_tree (ap (λ (x : NodeView). x.version.deleted) (sym now) ∙ counts_live w.trees (at w j) h.counted) in
              let tree_is : (tree_of w j).prefix ≡ tree.prefix = ap (λ (x : NodeView). (tree_at w.trees x.tree).prefix) now ∙ ap (λ u. (tree_at w.trees u).prefix) of_tree ∙ prefix_is in (
                k,
                i,
                pair_below (at w j).slots m owner stamp h.pair (ap (λ (x : NodeView). x.slots) now ∙ ap (λ j. (at v j).slots) root ∙ makes.first) h.in_range h.is
                    (ap (λ (p : Bytes). owned (key_at p (slot_at (at w j) m) h.pair)) (sym tree_is) ∙ h.owner_is) h.stamp_is,
              )
          | inr apart_from ↦ (j, m, node_as_was v w j m owner stamp inside now (tree_there (at v j).tree apart_from) h)
        ]
  ]
