-- What lags behind a node while an operation makes a layer at one of its slots: for the laws.
use Rattle.std.proofs.Common.{◌≡◌, ◌≢◌, ℕ, zero, suc, ◌<◌, List, [], ◌∷◌, length, get_or, set, true, false, Some, None, refl, sym, ap, subst, ◌∙◌, inl, inr, arith}
use Rattle.std.proofs.{lemmas.Bool.cases_eq, lemmas.List.{length-set, get_or-set_same, get_or-set_other}, lemmas.List.Elements.All-from_get_or}
use Rattle.std.specs.List.{All, remove}
use Rattle.mt_version.specs.Parts.{Parts}
use Rattle.mt_border.{specs.{declared.entry.Entry.Entry, Held.Held}, proofs.Edits.{any_entry, All-remove, replaced_at}}
use Rattle.mt_arena.specs.{declared.tree.Tree.Tree, NodeView.{NodeView, node_at}, NodeFacts.IsUnstable, Nodes.AreNodes, Layers.slot_at}
use Rattle.mt_arena.specs.{Guarantee.{NodesGuarantee, PointsOnly}, Arena.ArenaView, Accesses.at, Settled.IsSettled, Lags.{Follows, IsUnder}}
use Rattle.mt_arena.specs.Layering.{IsSettledBut, tree_number, border_number, with_held, with_layer_at}
use Rattle.mt_arena.specs.{Idle.{AreRetired, chosen}, Given.AreForgotten}
use Rattle.mt_arena.proofs.{Pairs.{here, there}, Settled.was_none, SlotPlaces.at_still, Lags.{follows_before, under_before}}
use Rattle.mt_arena.proofs.LayerIn.{RootIn, root_in}
use Rattle.mt_rows.specs.Rows.{Bytes}

abbrev IsCalm : Entry → Type 0
IsCalm e = ¬ IsUnstable e.held

-- what the slots are but for one, where that one changes
remove_set : (es : List Entry) (i : ℕ) (e : Entry) → remove (set es i e) i ≡ remove es i
remove_set [] i e = refl
remove_set (d ∷ es) zero e = refl
remove_set (d ∷ es) (suc i) e = ap (λ ds. d ∷ ds) (remove_set es i e)

-- where no other slot is unstable, nor is the new one, none is
all_calm : (es : List Entry) (i : ℕ) (e : Entry) → i < length es → All IsCalm (remove es i) → IsCalm e → All IsCalm (set es i e)
all_calm es i e within others one = All-from_get_or IsCalm (set es i e) any_entry (λ j lt. elim (cases_eq j i) [
  | inl is ↦ subst (λ k. IsCalm (get_or (set es i e) k any_entry)) (sym is) (subst IsCalm (sym (get_or-set_same es i e any_entry within)) one)
  | inr other ↦
      let still = at_still es i j within (omega (arith, lt, length-set es i e)) other in
      subst IsCalm (still.same ∙ sym (get_or-set_other es i j e any_entry other)) (others still.place any_entry still.in_range)
])

pub settled_but : (nodes : List NodeView) (k i : ℕ) → IsSettled nodes k (node_at nodes k) → IsSettledBut nodes k i
settled_but nodes k i settled = record {
  previous = settled.previous;
  previous_live = settled.previous_live;
  parent = λ j lt is live. let c = settled.parent j lt is live in record { live = c.live; place = c.place; in_range = c.in_range; is = c.is };
  reach = settled.reach;
  stable = All-remove IsCalm (node_at nodes k).slots i settled.stable;
  rooted = settled.rooted;
}

-- what a node keeps of whom it leads to
record LeadsAsBefore (x y : NodeView) : Type 0 where
  pub next : y.next ≡ x.next
  pub children : y.children ≡ x.children
  pub deleted : y.version.deleted ≡ x.version.deleted
  pub high : y.high ≡ x.high
  pub reach : y.reach ≡ x.reach
  pub rooted : (x.version.deleted ≡ false → x.parent ≡ None → x.version.root ≡ true) → y.version.deleted ≡ false → y.parent ≡ None → y.version.root ≡ true

-- nothing comes to lag behind a node that leads where it did and that no more nodes name
settled_as : (xs ys : List NodeView) (k : ℕ) (x y : NodeView) → ((j : ℕ) → Follows ys k j → Follows xs k j)
    → ((j : ℕ) → IsUnder ys k j → IsUnder xs k j) → LeadsAsBefore x y → All IsCalm y.slots → IsSettled xs k x → IsSettled ys k y
settled_as xs ys k x y follows under same calm settled = record {
  previous = λ j lt is live. let was = follows j (lt, is, live) in same.next ∙ settled.previous j was.0 was.1 was.2;
  previous_live = λ j lt is live. let was = follows j (lt, is, live) in same.deleted ∙ settled.previous_live j was.0 was.1 was.2;
  parent = λ j lt is live.
      let was = under j (lt, is, live) in
      let c = settled.parent j was.0 was.1 was.2 in
      record { live = same.deleted ∙ c.live; place = c.place; in_range = subst (λ cs. c.place < length cs) (sym same.children) c.in_range; is = ap (λ cs. get_or cs c.place 0) same.children ∙ c.is };
  reach = same.reach ∙ settled.reach ∙ sym same.high;
  stable = calm;
  rooted = same.rooted settled.rooted;
}

-- while others go on
pub settled_but_stays : (op q : ℕ) (old new : List NodeView) (were are : List Tree) (k i : ℕ) → NodesGuarantee op old new were are
    → PointsOnly op old new → q ≢ op → k < length old → (node_at old k).holder ≡ Some q
    → IsSettledBut old k i → IsSettledBut new k i
settled_but_stays op q old new were are k i guarantee points other within holder settled =
    let kept = (guarantee.nodes k within).held q other holder in
    let n = node_at old k in
    let m = node_at new k in
    settled_as old new k (record n { slots = remove n.slots i }) (record m { slots = remove m.slots i })
    (λ j is. follows_before op q old new were are k j guarantee points other within holder is)
    (λ j is. under_before op q old new were are k j guarantee points other within holder is)
    (record {
      next = kept.next;
      children = kept.children;
      deleted = ap (λ (v : Parts). v.deleted) kept.version;
      high = kept.high;
      reach = kept.reach;
      rooted =
          λ was live none. ap (λ (v : Parts). v.root) kept.version ∙ was (sym (ap (λ (v : Parts). v.deleted) kept.version) ∙ live) (was_none n.parent m.parent kept.parented none);
    })
    (subst (λ (es : List Entry). All IsCalm (remove es i)) (sym kept.slots) settled.stable)
    settled

-- as a tree is made
pub settled_but_made : (v : ArenaView) (prefix : Bytes) (e : Entry) (least op k i : ℕ) → AreNodes v.nodes → AreRetired v.nodes v.trees v.retired
    → AreForgotten least v → k < length v.nodes → (at v k).version.deleted ≡ false → IsSettledBut v.nodes k i
    → IsSettledBut (with_layer_at v prefix e least op).nodes k i
settled_but_made v prefix e least op k i nodes listed forgotten within live settled =
    let xs = v.nodes in
    let ys : List NodeView = (with_layer_at v prefix e least op).nodes in
    let n = node_at xs k in
    let h = border_number least v in
    let made : RootIn v op least (tree_number least v) e (chosen v.retired.borders least) = root_in v op least e nodes listed forgotten (tree_number least v) in
    let same : node_at ys k ≡ n = (made.node.others k (omega (arith, within, made.node.more)) (made.node.kept k within live)).1 in
    subst (λ (m : NodeView). IsSettled ys k (record m { slots = remove m.slots i })) (sym same)
    (settled_as xs ys k (record n { slots = remove n.slots i }) (record n { slots = remove n.slots i })
    (λ j is. elim (cases_eq j h) [
      | inl own ↦ absurd (let none = ap (λ (m : NodeView). m.previous) (sym made.node.is) ∙ ap (λ j. (node_at ys j).previous) (sym own) ∙ is.1 in cc)
      | inr other ↦ let was = made.node.others j is.0 other in (was.0, ap (λ (m : NodeView). m.previous) (sym was.1) ∙ is.1, ap (λ (m : NodeView). m.version.deleted) (sym was.1) ∙ is.2)
    ])
    (λ j is. elim (cases_eq j h) [
      | inl own ↦ absurd (let none = ap (λ (m : NodeView). m.parent) (sym made.node.is) ∙ ap (λ j. (node_at ys j).parent) (sym own) ∙ is.1 in cc)
      | inr other ↦ let was = made.node.others j is.0 other in (was.0, ap (λ (m : NodeView). m.parent) (sym was.1) ∙ is.1, ap (λ (m : NodeView). m.version.deleted) (sym was.1) ∙ is.2)
    ])
    (record { next = refl; children = refl; deleted = refl; high = refl; reach = refl; rooted = λ was. was }) settled.stable settled)

-- as the slot holds something else
module _ (v : ArenaView) (k i : ℕ) (held : Held) (nodes : AreNodes v.nodes) (within : k < length v.nodes) (inside : i < length (at v k).slots) (settled : IsSettledBut v.nodes k i) where
  abbrev xs : List NodeView
  xs = v.nodes

  abbrev n : NodeView
  n = at v k

  abbrev e : Entry
  e = record (slot_at n i) { held = held }

  abbrev y : NodeView
  y = with_held n i held

  abbrev ys : List NodeView
  ys = set xs k y

  slots_are : y.slots ≡ set n.slots i e
  slots_are = replaced_at n.slots i e any_entry (nodes.each k within).slots.border.rising inside refl

  follows : (j : ℕ) → Follows ys k j → Follows xs k j
  follows j is = elim (cases_eq j k) [
    | inl same ↦
        let now = ap (node_at ys) same ∙ here xs k y within in
        subst (Follows xs k) (sym same) (within, ap (λ (m : NodeView). m.previous) (sym now) ∙ is.1, ap (λ (m : NodeView). m.version.deleted) (sym now) ∙ is.2)
    | inr other ↦
        let now = there xs k j y other in
        (omega (arith, is.0, length-set xs k y), ap (λ (m : NodeView). m.previous) (sym now) ∙ is.1, ap (λ (m : NodeView). m.version.deleted) (sym now) ∙ is.2)
  ]

  under : (j : ℕ) → IsUnder ys k j → IsUnder xs k j
  under j is = elim (cases_eq j k) [
    | inl same ↦
        let now = ap (node_at ys) same ∙ here xs k y within in
        subst (IsUnder xs k) (sym same) (within, ap (λ (m : NodeView). m.parent) (sym now) ∙ is.1, ap (λ (m : NodeView). m.version.deleted) (sym now) ∙ is.2)
    | inr other ↦
        let now = there xs k j y other in
        (omega (arith, is.0, length-set xs k y), ap (λ (m : NodeView). m.parent) (sym now) ∙ is.1, ap (λ (m : NodeView). m.version.deleted) (sym now) ∙ is.2)
  ]

  pub settled_but_held : IsSettledBut ys k i
  settled_but_held = subst (λ (m : NodeView). IsSettled ys k (record m { slots = remove m.slots i })) (sym (here xs k y within))
      (settled_as xs ys k (record n { slots = remove n.slots i }) (record y { slots = remove y.slots i }) follows under
      (record { next = refl; children = refl; deleted = refl; high = refl; reach = refl; rooted = λ was. was })
      (subst (All IsCalm) (sym (ap (λ es. remove es i) slots_are ∙ remove_set n.slots i e)) settled.stable) settled)

  -- and that is not unstable
  pub settled_again : ¬ IsUnstable held → IsSettled ys k (node_at ys k)
  settled_again calm = subst (IsSettled ys k) (sym (here xs k y within))
      (settled_as xs ys k (record n { slots = remove n.slots i }) y follows under
      (record { next = refl; children = refl; deleted = refl; high = refl; reach = refl; rooted = λ was. was })
      (subst (All IsCalm) (sym slots_are) (all_calm n.slots i e inside settled.stable calm)) settled)
