-- How all that name a node come to name it rightly again, from the split of a border node to the insert of its right half: for the proofs
-- of whole splits.
use Rattle.std.proofs.Common.{◌≡◌, ◌≢◌, ◌⊎◌, ℕ, ◌+◌, ◌-◌, ◌<◌, ◌≤◌, List, [], ◌∷◌, ◌++◌, length, get_or, Option, Some, None, false, true, set, refl, sym, ap, subst, ◌∙◌, inl, inr, arith, length-append, length-drop}
use Rattle.std.proofs.{lemmas.Bool.{cases_eq, cases_lt}, lemmas.Option.same_Some, lemmas.List.{length-set, length-take, get_or-take, get_or-drop}}
use Rattle.std.proofs.lemmas.List.Edits.{length-insert, get_or-insert_below, get_or-insert_at, get_or-insert_above}
use Rattle.std.specs.List.{All}
use Rattle.mt_interior.{specs.Places.place_of, proofs.CallerLemmas.place_of-le-length}
use Rattle.mt_arena.specs.{declared.tree.Tree.Tree, NodeView.{NodeView, node_at}, Nodes.{AreNodes, HasChild}, NodeFacts.IsUnstable, Settled.IsSettled}
use Rattle.mt_arena.specs.{Guarantee.{NodesGuarantee, PointsOnly}, Lags.{Follows, IsUnder, AreFollowers, AreFollowersBut, AreChildren, AreChildrenBut}}
use Rattle.mt_arena.specs.{Edits.{splitting, pointed, fresh_half}, Splits.{Inserts, with_child, exact, inner_left, inner_right}}
use Rattle.mt_arena.proofs.{Pairs.{here, there, last, before}, Settled.alive}

-- other operations let no node name one that this operation holds
not_theirs : (op q : ℕ) (old new : List NodeView) (were are : List Tree) (i : ℕ) → NodesGuarantee op old new were are → q ≢ op → i < length old
    → (node_at old i).holder ≡ Some q → (node_at new i).holder ≢ Some op
not_theirs op q old new were are i guarantee other within holder e =
    other (same_Some _ _ (sym (((guarantee.nodes i within).held q other holder).holder ∙ holder) ∙ e))

-- who names a held node after a step of another operation named it before
pub follows_before : (op q : ℕ) (old new : List NodeView) (were are : List Tree) (i k : ℕ) → NodesGuarantee op old new were are
    → PointsOnly op old new → q ≢ op → i < length old → (node_at old i).holder ≡ Some q
    → Follows new i k → Follows old i k
follows_before op q old new were are i k guarantee points other within holder is = elim (cases_lt k (length old)) [
  | inl was ↦ (was, points.previous k i was within is.1 (not_theirs op q old new were are i guarantee other within holder), alive _ _ (guarantee.nodes k was).ages.deleted is.2)
  | inr new_one ↦ absurd (not_theirs op q old new were are i guarantee other within holder (points.new_previous k i (omega (arith, new_one)) is.0 within is.1))
]

-- a node that names a held one as its parent after another's step did so before
pub under_before : (op q : ℕ) (old new : List NodeView) (were are : List Tree) (i k : ℕ) → NodesGuarantee op old new were are → PointsOnly op old new
    → q ≢ op → i < length old → (node_at old i).holder ≡ Some q
    → IsUnder new i k → IsUnder old i k
under_before op q old new were are i k guarantee points other within holder is = elim (cases_lt k (length old)) [
  | inl was ↦ (was, points.parent k i was within is.1 (not_theirs op q old new were are i guarantee other within holder), alive _ _ (guarantee.nodes k was).ages.deleted is.2)
  | inr new_one ↦ absurd (not_theirs op q old new were are i guarantee other within holder (points.new_parent k i (omega (arith, new_one)) is.0 within is.1))
]

-- a live node in a list where one node is another
pub follows_in : (xs : List NodeView) (i k b : ℕ) (y : NodeView) → b < length xs → Follows (set xs b y) i k
    → ((k ≡ b) × (y.previous ≡ Some i)) ⊎ ((k ≢ b) × Follows xs i k)
follows_in xs i k b y within is = elim (cases_eq k b) [
  | inl same ↦ inl (same, sym (ap (λ (n : NodeView). n.previous) (ap (node_at (set xs b y)) same ∙ here xs b y within)) ∙ is.1)
  | inr other ↦
      let old = there xs b k y other in
      inr (other, (omega (arith, is.0, length-set xs b y), sym (ap (λ (n : NodeView). n.previous) old) ∙ is.1, sym (ap (λ (n : NodeView). n.version.deleted) old) ∙ is.2))
]

-- who names a parent in changed nodes: the changed one, or one that did so before
pub under_in : (xs : List NodeView) (i k b : ℕ) (y : NodeView) → b < length xs → IsUnder (set xs b y) i k
    → ((k ≡ b) × (y.parent ≡ Some i) × (y.version.deleted ≡ false)) ⊎ ((k ≢ b) × IsUnder xs i k)
under_in xs i k b y within is = elim (cases_eq k b) [
  | inl same ↦
      let new = ap (node_at (set xs b y)) same ∙ here xs b y within in
      inl (same, sym (ap (λ (n : NodeView). n.parent) new) ∙ is.1, sym (ap (λ (n : NodeView). n.version.deleted) new) ∙ is.2)
  | inr other ↦
      let old = there xs b k y other in
      inr (other, (omega (arith, is.0, length-set xs b y), sym (ap (λ (n : NodeView). n.parent) old) ∙ is.1, sym (ap (λ (n : NodeView). n.version.deleted) old) ∙ is.2))
]

-- as the one behind names the right half, it alone does
pub right_again : (xs : List NodeView) (j b : ℕ) (parent : Option ℕ) → b < length xs → AreFollowers xs j None
    → AreFollowers (set xs b (pointed (node_at xs b) (Some j) parent)) j (Some b)
right_again xs j b parent lb followers k is = elim (follows_in xs j k b (pointed (node_at xs b) (Some j) parent) lb is) [
  | inl behind ↦ ap (λ (c : ℕ). Some c) (sym behind.0)
  | inr other ↦ absurd (let none = followers k other.1 in cc)
]

-- what was a child is one among one more
child_more : (p : NodeView) (separator q k : ℕ) → length p.children ≡ length p.separators + 1 → HasChild p k → HasChild (with_child p separator q) k
child_more p separator q k size c =
    let a : ℕ = place_of p.separators separator + 1 in
    let within : a ≤ length p.children = omega (arith, place_of-le-length p.separators separator, size) in
    let more = length-insert p.children a q within in
    elim (cases_lt c.place a) [
      | inl below ↦ record { live = c.live; place = c.place; in_range = omega (arith, more, c.in_range); is = get_or-insert_below p.children a q 0 c.place below within ∙ c.is }
      | inr above ↦ record { live = c.live; place = c.place + 1; in_range = omega (arith, more, c.in_range); is = get_or-insert_above p.children a q 0 c.place above within ∙ c.is }
    ]

-- the new child is one
new_child : (p : NodeView) (separator q : ℕ) → length p.children ≡ length p.separators + 1 → p.version.deleted ≡ false → HasChild (with_child p separator q) q
new_child p separator q size live =
    let a : ℕ = place_of p.separators separator + 1 in
    let within : a ≤ length p.children = omega (arith, place_of-le-length p.separators separator, size) in
    let more = length-insert p.children a q within in
    record { live = live; place = a; in_range = omega (arith, within, more); is = get_or-insert_at p.children a q 0 within }

-- once the right half stands in the parent, all that name the parent are its children
pub children_again : (xs : List NodeView) (i j q : ℕ) → AreNodes xs → Inserts xs i j q → AreChildrenBut xs i (node_at xs i) q
    → AreChildren (set (set xs i (with_child (node_at xs i) (node_at xs q).low q)) j (exact (node_at xs j))) i (with_child (node_at xs i) (node_at xs q).low q)
children_again xs i j q nodes f children k is =
    let p = node_at xs i in
    let y = with_child p (node_at xs q).low q in
    let size : length p.children ≡ length p.separators + 1 = omega (arith, (nodes.each i f.parent_there).children.interior.between, f.child.in_range) in
    let before : IsUnder xs i k = elim (under_in (set xs i y) i k j (exact (node_at xs j)) (omega (arith, f.left_there, length-set xs i y)) is) [
      | inl left ↦ subst (λ c. IsUnder xs i c) (sym left.0) (f.left_there, left.1, left.2)
      | inr other ↦ elim (under_in xs i k i y f.parent_there other.1) [
        | inl own ↦ subst (λ c. IsUnder xs i c) (sym own.0) (f.parent_there, own.1, own.2)
        | inr old ↦ old.1
      ]
    ] in
    elim (cases_eq k q) [
      | inl same ↦ subst (λ c. HasChild y c) (sym same) (new_child p (node_at xs q).low q size f.parent_live)
      | inr nq ↦ child_more p (node_at xs q).low q k size (children k nq before)
    ]

-- how the words speak of a settled node
pub followers_of : (xs : List NodeView) (i : ℕ) (x : NodeView) → IsSettled xs i x → AreFollowers xs i x.next
followers_of xs i x settled k is = settled.previous k is.0 is.1 is.2

-- and how a settled node is made of the words
pub settled_of : (xs : List NodeView) (i : ℕ) (x : NodeView) → AreFollowers xs i x.next → ((k : ℕ) → Follows xs i k → x.version.deleted ≡ false)
    → AreChildren xs i x → x.reach ≡ x.high → All (λ e. ¬ IsUnstable e.held) x.slots
    → (x.version.deleted ≡ false → x.parent ≡ None → x.version.root ≡ true) → IsSettled xs i x
settled_of xs i x followers followed children reach stable rooted = record {
  previous = λ k lt e live. followers k (lt, e, live);
  previous_live = λ k lt e live. followed k (lt, e, live);
  parent = λ k lt e live. children k (lt, e, live);
  reach = reach;
  stable = stable;
  rooted = rooted;
}

-- nobody names a new right half, and it alone comes to name its left half
pub fresh_followers : (xs : List NodeView) (x : NodeView) (i low op : ℕ) → AreNodes xs → i < length xs
    → AreFollowers (xs ++ fresh_half x i low op ∷ []) (length xs) None
fresh_followers xs x i low op nodes within k is =
    let y = fresh_half x i low op in
    let size : length (xs ++ y ∷ []) ≡ length xs + 1 = length-append xs (y ∷ []) in
    elim (cases_eq k (length xs)) [
      | inl same ↦ absurd (omega (arith, within, same_Some _ _ (sym (ap (λ (n : NodeView). n.previous) (ap (node_at (xs ++ y ∷ [])) same ∙ last xs y)) ∙ is.1)))
      | inr other ↦
          let lt : k < length xs = omega (arith, is.0, size) in
          let old = sym (ap (λ (n : NodeView). n.previous) (before xs y k lt)) ∙ is.1 in
          absurd (omega (arith, (nodes.each k lt).names.previous (length xs) old))
    ]

-- the new right half alone comes to name its left half
pub half_followers : (xs : List NodeView) (x : NodeView) (i low op : ℕ) (next : Option ℕ) → AreFollowers xs i next
    → AreFollowersBut (xs ++ fresh_half x i low op ∷ []) i next (length xs)
half_followers xs x i low op next followers k nk is =
    let y = fresh_half x i low op in
    let lt : k < length xs = omega (arith, is.0, length-append xs (y ∷ []), nk) in
    followers k (lt, sym (ap (λ (n : NodeView). n.previous) (before xs y k lt)) ∙ is.1, sym (ap (λ (n : NodeView). n.version.deleted) (before xs y k lt)) ∙ is.2)

-- as a split begins: all that name the left node as the one before are the half and the one that was next, and none names the half
pub begun_left : (xs : List NodeView) (i low op : ℕ) (next : Option ℕ) → i < length xs → AreFollowers xs i next
    → AreFollowersBut (set xs i (splitting (node_at xs i)) ++ fresh_half (node_at xs i) i low op ∷ []) i next (length xs)
begun_left xs i low op next within followers =
    let x = node_at xs i in
    let ys = set xs i (splitting x) in
    subst (AreFollowersBut (ys ++ fresh_half x i low op ∷ []) i next) (length-set xs i (splitting x)) (half_followers ys x i low op next (λ k is. elim (follows_in xs i k i (splitting x) within is) [
      | inl own ↦ followers k (subst (λ c. Follows xs i c) (sym own.0) (within, own.1, sym (ap (λ (n : NodeView). n.version.deleted) (ap (node_at ys) own.0 ∙ here xs i (splitting x) within)) ∙ is.2))
      | inr other ↦ followers k other.1
    ]))

-- nobody names a right half that was just made as the one before
pub begun_right : (xs : List NodeView) (i low op : ℕ) → i < length xs → AreNodes (set xs i (splitting (node_at xs i)))
    → AreFollowers (set xs i (splitting (node_at xs i)) ++ fresh_half (node_at xs i) i low op ∷ []) (length xs) None
begun_right xs i low op within nodes =
    let x = node_at xs i in
    let ys = set xs i (splitting x) in
    let size = length-set xs i (splitting x) in
    subst (λ c. AreFollowers (ys ++ fresh_half x i low op ∷ []) c None) size (fresh_followers ys x i low op nodes (omega (arith, within, size)))

-- nobody names a node that was just added as its parent
pub fresh_children : (xs : List NodeView) (y n : NodeView) → AreNodes xs → y.parent ≡ None → AreChildren (xs ++ y ∷ []) (length xs) n
fresh_children xs y n nodes none k is =
    let size : length (xs ++ y ∷ []) ≡ length xs + 1 = length-append xs (y ∷ []) in
    elim (cases_eq k (length xs)) [
      | inl same ↦
          let own = sym (ap (λ (n : NodeView). n.parent) (ap (node_at (xs ++ y ∷ [])) same ∙ last xs y)) ∙ is.1 in
          absurd (cc)
      | inr other ↦
          let lt : k < length xs = omega (arith, is.0, size) in
          let old = sym (ap (λ (n : NodeView). n.parent) (before xs y k lt)) ∙ is.1 in
          absurd (omega (arith, (nodes.each k lt).names.parent (length xs) old))
    ]

-- a child of a node that is parted is one of a half
pub child_parted : (wide : NodeView) (op k : ℕ) → HasChild wide k → HasChild (inner_left wide) k ⊎ HasChild (inner_right wide op) k
child_parted wide op k c = elim (cases_lt c.place 9) [
  | inl low ↦ inl (record {
    live = c.live;
    place = c.place;
    in_range = omega (arith, length-take 9 wide.children, low, c.in_range);
    is = get_or-take 9 wide.children c.place 0 low ∙ c.is;
  })
  | inr high ↦ inr (record {
    live = refl;
    place = c.place - 9;
    in_range = omega (arith, length-drop 9 wide.children, high, c.in_range);
    is = get_or-drop 9 wide.children (c.place - 9) 0 ∙ ap (λ b. get_or wide.children b 0) {x = 9 + (c.place - 9)} {y = c.place} (omega arith) ∙ c.is;
  })
]
