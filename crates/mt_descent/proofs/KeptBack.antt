-- What a walk remembers is kept back: through looks, through steps, and if places are given out.
use Rattle.std.proofs.Common.{◌≡◌, ℕ, suc, ◌+◌, ◌-◌, ◌<◌, ◌≤◌, ◌⊎◌, inl, inr, Bool, true, false, List, ◌∷◌, ◌++◌, length, Option, refl, sym, ap, subst, ◌∙◌, arith, length-append}
use Rattle.std.proofs.{lemmas.Bool.cases_lt, lemmas.List.{get_or_append_left, get_or-append_right, get_or_past}}
use Rattle.std.specs.Prelude.{◌==◌, ◌&&◌, not}
use Rattle.mt_version.specs.Parts.{Parts}
use Rattle.mt_rows.specs.{Rows.Bytes, Stamps.Stamped}
use Rattle.mt_arena.specs.{declared.retired.Retired.Retired, declared.tree.Standing.TheVariants.Live, NodeView.{NodeView, no_node, place_at}}
use Rattle.mt_arena.specs.{Forests.{tree_at, no_tree}, Idle.{RetiredPlaces, AreRetired, is_idle_border, is_idle_interior, is_idle_tree, has_ended}}
use Rattle.mt_arena.specs.{Arena.{ArenaView, IsArena}, Accesses.{at, with_node}, Edits.locked, Guarantee.{NodesGuarantee, LoseHeld}}
use Rattle.mt_arena.specs.Given.{step_of_idle, IsOutFrom, IsNodeOutFrom, IsTreeOutFrom, NamesNode, IsNamedLate}
use Rattle.mt_operation.specs.{declared.phase.Phase.Phase, declared.phase.Phase.TheVariants.{Load, Confirm, Lock, Judge, Done}}
use Rattle.mt_operation.specs.{declared.walk.Aim.Aim, declared.walk.Walk.Walk, Walks.walk_from_top}
use Rattle.mt_descent.specs.{Seen.Stands, Pasts.{Past, ExtendsPast, KeepsRows}, KeptWalks.{IsAtLoad, KeptAt, IsKept}, WalkMoves.{walk_onto, walk_into, Locks}}
use Rattle.mt_descent.specs.Remembered.{StandsHere, LeadsIn, RemembersTree, IsGivenElsewhere, Learns}
use Rattle.mt_descent.specs.KeptBack.{RemembersKept, ListsAfter, RetiresAfter, GivesOutBefore}
use Rattle.mt_descent.proofs.{Rely.{stood, same_keys, whole_before, kept_stays}, Given.kept_given, Decides.outdated_or_not, Learning.{arrived_node, arrived_tree, learns_lock}, Listing.{listed, unlisted}}

-- a list that stays, grows at its end by later ones, or loses its first one; and two such changes
pub lists_same : (birth : ℕ) (gone : List Retired) → ListsAfter birth gone gone
lists_same birth gone = λ i lt. inl (record { index = i; within = lt; place_is = refl; step_is = refl })

pub lists_more : (birth : ℕ) (gone more : List Retired) → ((i : ℕ) → i < length more → birth < step_of_idle more i) → ListsAfter birth gone (gone ++ more)
lists_more birth gone more later = λ i lt. elim (cases_lt i (length gone)) [
  | inl before ↦
      let same = get_or_append_left gone more (record { place = 0; step = 0 }) i before in
      inl (record { index = i; within = before; place_is = ap (λ (r : Retired). r.place) (sym same); step_is = ap (λ (r : Retired). r.step) (sym same) })
  | inr from ↦
      let same = get_or-append_right gone more (length gone) i (record { place = 0; step = 0 }) refl from in
      inr (omega (arith, later (i - length gone) (omega (arith, lt, from, length-append gone more)), ap (λ (r : Retired). r.step) same))
]

pub lists_rest : (birth : ℕ) (first : Retired) (rest : List Retired) → ListsAfter birth (first ∷ rest) rest
lists_rest birth first rest = λ i lt. inl (record { index = suc i; within = omega (arith, lt); place_is = refl; step_is = refl })

pub lists_twice : (birth : ℕ) (old mid new : List Retired) → ListsAfter birth old mid → ListsAfter birth mid new → ListsAfter birth old new
lists_twice birth old mid new f g = λ i lt. elim (g i lt) [
  | inr later ↦ inr later
  | inl was ↦ elim (f was.index was.within) [
    | inr later ↦ inr (omega (arith, later, was.step_is))
    | inl first ↦ inl (record { index = first.index; within = first.within; place_is = first.place_is ∙ was.place_is; step_is = first.step_is ∙ was.step_is })
  ]
]

-- what was taken out after the birth, or not at all, still is so
out_stays : (birth : ℕ) (old new : List Retired) (place : ℕ) → ListsAfter birth old new → IsOutFrom (birth + 1) old place → IsOutFrom (birth + 1) new place
out_stays birth old new place lists h = λ i lt is. elim (lists i lt) [
  | inr later ↦ omega (arith, later)
  | inl was ↦ omega (arith, h was.index was.within (was.place_is ∙ is), was.step_is)
]

pub node_stays_out : (birth : ℕ) (old new : RetiredPlaces) (k : ℕ) → RetiresAfter birth old new → IsNodeOutFrom (birth + 1) old k → IsNodeOutFrom (birth + 1) new k
node_stays_out birth old new k lists h = record {
  border = out_stays birth old.borders new.borders k lists.borders h.border;
  interior = out_stays birth old.interiors new.interiors k lists.interiors h.interior;
}

pub tree_stays_out : (birth : ℕ) (old new : RetiredPlaces) (t : ℕ) → RetiresAfter birth old new → IsTreeOutFrom (birth + 1) old t → IsTreeOutFrom (birth + 1) new t
tree_stays_out birth old new t lists h = out_stays birth old.trees new.trees t lists.trees h

-- from a later step on is from an earlier one on
out_from : (step from : ℕ) (gone : RetiredPlaces) (k : ℕ) → step ≤ from → IsNodeOutFrom from gone k → IsNodeOutFrom step gone k
out_from step from gone k upto h = record {
  border = λ i lt is. omega (arith, upto, h.border i lt is);
  interior = λ i lt is. omega (arith, upto, h.interior i lt is);
}

module _ (v : ArenaView) (retired : AreRetired v.nodes v.trees v.retired) where
  -- a live node is in no list, nor is a live tree
  pub live_node_out : (step k : ℕ) → (at v k).version.deleted ≡ false → IsNodeOutFrom step v.retired k
  live_node_out step k live = record {
    border = λ i lt is. absurd (unlisted is_idle_border no_node v.nodes v.retired.borders retired.of_borders i k lt is (ap (λ b. b && ((at v k).level == 0)) live));
    interior = λ i lt is. absurd (unlisted is_idle_interior no_node v.nodes v.retired.interiors retired.of_interiors i k lt is (ap (λ b. b && not ((at v k).level == 0)) live));
  }

  pub live_tree_out : (step t : ℕ) → (tree_at v.trees t).standing ≡ Live → IsTreeOutFrom step v.retired t
  live_tree_out step t live = λ i lt is. absurd (unlisted is_idle_tree no_tree v.trees v.retired.trees retired.of_trees i t lt is (ap has_ended live))

  module _ (arena : IsArena v.nodes v.trees) (late : IsNamedLate v.nodes v.trees v.retired) (birth : ℕ) where
    -- what a live node names is live
    named_by_live : (from k : ℕ) → from < length v.nodes → (at v from).version.deleted ≡ false → NamesNode (at v from) k → (at v k).version.deleted ≡ false
    named_by_live from k within live names =
        let node = arena.nodes.each from within in
        elim names [
          | inl is ↦ ((arena.nodes.pairs from k within (node.names.next k is)).next live is).live live
          | inr child ↦
              ((arena.nodes.pairs from k within (subst (λ x. x < length v.nodes) child.2 (node.names.children child.0 child.1))).child child.0 child.1 child.2 live).live
        ]

    -- what one names that was taken out was taken out no earlier
    named_by_idle : (from k : ℕ) → from < length v.nodes → (at v from).version.deleted ≡ true → NamesNode (at v from) k → IsNodeOutFrom (birth + 1) v.retired from
        → IsNodeOutFrom (birth + 1) v.retired k
    named_by_idle from k within dead names kept = by ((at v from).level == 0) refl
      where
        by : (b : Bool) → ((at v from).level == 0) ≡ b → IsNodeOutFrom (birth + 1) v.retired k
        by true border =
            let s = listed is_idle_border no_node v.nodes v.retired.borders retired.of_borders from within (ap (λ b. b && ((at v from).level == 0)) dead ∙ border) in
            out_from (birth + 1) (step_of_idle v.retired.borders s.index) v.retired k (kept.border s.index s.within s.is)
            (late.of_borders s.index k s.within (subst (λ x. NamesNode (at v x) k) (sym s.is) names))
        by false interior =
            let s = listed is_idle_interior no_node v.nodes v.retired.interiors retired.of_interiors from within (ap (λ b. b && not ((at v from).level == 0)) dead ∙ ap not interior) in
            out_from (birth + 1) (step_of_idle v.retired.interiors s.index) v.retired k (kept.interior s.index s.within s.is)
            (late.of_interiors s.index k s.within (subst (λ x. NamesNode (at v x) k) (sym s.is) names))

    -- no node past the last one names any
    names_none : (k : ℕ) → NamesNode no_node k → ⊥
    names_none k names = elim names [
      | inl next ↦ absurd (cc)
      | inr child ↦ absurd (omega (arith, child.1))
    ]

    -- so what a node names is kept back if the node is
    pub named_out : (from k : ℕ) → NamesNode (at v from) k → IsNodeOutFrom (birth + 1) v.retired from → IsNodeOutFrom (birth + 1) v.retired k
    named_out from k names kept = elim (cases_lt from (length v.nodes)) [
      | inr past ↦ absurd (names_none k (subst (λ (n : NodeView). NamesNode n k) (get_or_past v.nodes from no_node past) names))
      | inl within ↦ by within (at v from).version.deleted refl
    ]
      where
        by : from < length v.nodes → (b : Bool) → (at v from).version.deleted ≡ b → IsNodeOutFrom (birth + 1) v.retired k
        by within true dead = named_by_idle from k within dead names kept
        by within false live = live_node_out (birth + 1) k (named_by_live from k within live names)

    -- so a look keeps back all that it comes to remember
    pub kept_by_look : (before after : Walk) → Learns v before after → RemembersKept birth v before → RemembersKept birth v after
    kept_by_look before after learns h = record {
      nodes = λ k r. elim (learns.nodes k r) [
        | inl live ↦ live_node_out (birth + 1) k live
        | inr may ↦ elim may [
          | inl remembered ↦ h.nodes k remembered
          | inr named ↦ named_out named.0 k named.2 (h.nodes named.0 named.1)
        ]
      ];
      trees = λ t r. elim (learns.trees t r) [
        | inl live ↦ live_tree_out (birth + 1) t live
        | inr remembered ↦ h.trees t remembered
      ];
    }

  -- a walk at the top remembers the top tree alone
  pub kept_at_top : (birth : ℕ) (aim : Aim) (first : ℕ) → (tree_at v.trees 0).standing ≡ Live → RemembersKept birth v (walk_from_top aim first)
  kept_at_top birth aim first live = record {
    nodes = λ k r. absurd r;
    trees = λ t r. live_tree_out (birth + 1) t (subst (λ u. (tree_at v.trees u).standing ≡ Live) (sym r) live);
  }

-- a walk that comes to a node, and one that begins at a tree
pub kept_onto : (birth : ℕ) (v : ArenaView) (w : Walk) (k : ℕ) (seen : Parts) → IsNodeOutFrom (birth + 1) v.retired k → IsTreeOutFrom (birth + 1) v.retired w.place.tree
    → RemembersKept birth v (walk_onto w k seen)
kept_onto birth v w k seen node tree = record {
  nodes = λ j r. subst (λ i. IsNodeOutFrom (birth + 1) v.retired i) (sym (arrived_node seen.border w.aim (walk_onto w k seen) j r)) node;
  trees = λ t r. subst (λ i. IsTreeOutFrom (birth + 1) v.retired i) (sym (arrived_tree seen.border w.aim v (walk_onto w k seen) t r)) tree;
}

pub kept_into : (birth : ℕ) (v : ArenaView) (w : Walk) (t layer : ℕ) → IsTreeOutFrom (birth + 1) v.retired t → RemembersKept birth v (walk_into w t layer)
kept_into birth v w t layer tree = record { nodes = λ k r. absurd r; trees = λ u r. subst (λ i. IsTreeOutFrom (birth + 1) v.retired i) (sym r) tree }

-- a step of Lock keeps back what it comes to remember: it changes at most the node of the walk
pub kept_by_lock : (birth op : ℕ) (old new : ArenaView) (w after : Walk) → IsArena old.nodes old.trees → AreRetired old.nodes old.trees old.retired
    → IsNamedLate old.nodes old.trees old.retired → w.phase ≡ Lock → Locks op old new w after → RemembersKept birth old w → RemembersKept birth new after
kept_by_lock birth op old new w after arena retired late phase f h =
    let here : RemembersKept birth old after = kept_by_look old retired arena late birth w after (learns_lock op old new w after phase f) h in
    elim (outdated_or_not (at old w.place.node) w.place.seen) [
      | inl outdated ↦ subst (λ (x : ArenaView). RemembersKept birth x after) (sym (f.leaves outdated)) here
      | inr whole ↦
          let now : ArenaView = with_node old w.place.node (locked (at old w.place.node) op) in
          let judging : RemembersKept birth old (record w { phase = Judge }) = subst (λ (x : Walk). RemembersKept birth old x) (f.judges whole) here in
          subst (λ (x : ArenaView). RemembersKept birth x after) (sym (f.takes whole))
          (subst (λ (x : Walk). RemembersKept birth now x) (sym (f.judges whole)) (record { nodes = judging.nodes; trees = judging.trees }))
    ]

-- the trees that a walk remembers after a step, by its phase
module _ (op birth : ℕ) (old new : ArenaView) (e : NodesGuarantee op old.nodes new.nodes old.trees new.trees) (lost : LoseHeld old.nodes new.nodes)
    (arena : IsArena new.nodes new.trees) (retired : AreRetired new.nodes new.trees new.retired) (lists : RetiresAfter birth old.retired new.retired) where
  -- the tree to which the slot leads that was found: it led there before, or that one is live
  module _ (past : Past) (key : Bytes) (w : Walk) (h : IsAtLoad old past key w) where
    abbrev k : ℕ
    k = w.place.node

    abbrev n : NodeView
    n = at old k

    abbrev m : NodeView
    m = at new k

    led : (t : ℕ) → StandsHere new w → LeadsIn m w.slot t → ((tree_at new.trees t).standing ≡ Live) ⊎ (StandsHere old w × LeadsIn n w.slot t)
    led t stands leads =
        let within = h.at_border.covers.remembered.there in
        let was = h.at_border.covers.remembered.was in
        let c = e.nodes k within in
        let before = stood op n m c w.place.seen was stands in
        let keeps = (same_keys op n m c w.place.seen was stands).slots w.slot h.within in
        elim leads [
          | inl live ↦ inl (arena.layers.links k (omega (arith, within, e.count)) stands.in_range.live (place_at m w.slot) t live.0 live.1).live
          | inr free ↦ inr (
            before,
            elim (h.found before) [
              | inl l ↦ elim (keeps.live l.has.in_slot.in_range) [
                | inl live ↦ absurd (free.0 live)
                | inr gone ↦
                    let left = lost k within (whole_before op n m c w.place.seen was stands.in_range) w.slot l.has.in_slot.in_range gone.1 in
                    inl (l.has.in_slot.in_range, sym left.0 ∙ free.1)
              ]
              | inr d ↦ inr (d.free, sym (keeps.free d.free d.flag).1 ∙ free.1)
            ],
          )
        ]

  trees_stay : (p : Phase) (past : Past) (key : Bytes) (row : Option Stamped) (w : Walk) → KeptAt p old past key row w
      → ((t : ℕ) → RemembersTree p old w t → IsTreeOutFrom (birth + 1) old.retired t) → (t : ℕ) → RemembersTree p new w t → IsTreeOutFrom (birth + 1) new.retired t
  trees_stay Load past key row w h kept t r = elim r [
    | inl own ↦ tree_stays_out birth old.retired new.retired t lists (kept t (inl own))
    | inr link ↦ elim (led past key w h t link.0 link.1) [
      | inl live ↦ live_tree_out new retired (birth + 1) t live
      | inr before ↦ tree_stays_out birth old.retired new.retired t lists (kept t (inr before))
    ]
  ]
  trees_stay Confirm past key row w h kept t r = elim r [
    | inl own ↦ tree_stays_out birth old.retired new.retired t lists (kept t (inl own))
    | inr link ↦
        let remembered = h.at_border.covers.remembered in
        let before = stood op (at old w.place.node) (at new w.place.node) (e.nodes w.place.node remembered.there) w.place.seen remembered.was link.0 in
        tree_stays_out birth old.retired new.retired t lists (kept t (inr (before, link.1)))
  ]
  trees_stay Done past key row w h kept t r = absurd r
  trees_stay _ past key row w h kept t r = tree_stays_out birth old.retired new.retired t lists (kept t r)

  -- so a step of any operation keeps back what the walk remembers
  pub kept_by_step : (past : Past) (key : Bytes) (row : Option Stamped) (w : Walk) → IsKept old past key row w → RemembersKept birth old w → RemembersKept birth new w
  kept_by_step past key row w kept h = record {
    nodes = λ k r. node_stays_out birth old.retired new.retired k lists (h.nodes k r);
    trees = trees_stay w.phase past key row w kept h.trees;
  }

-- a walk remembers the same trees if its node is as it was
trees_before : (old new : ArenaView) (w : Walk) (p : Phase) → IsGivenElsewhere old new p w → (t : ℕ) → RemembersTree p new w t → RemembersTree p old w t
trees_before old new w Load g t r = elim r [
  | inl own ↦ inl own
  | inr link ↦
      let same = g.nodes w.place.node refl in
      inr (subst (λ (n : NodeView). Stands n w.place.seen) same link.0, subst (λ (n : NodeView). LeadsIn n w.slot t) same link.1)
]
trees_before old new w Confirm g t r = elim r [
  | inl own ↦ inl own
  | inr link ↦ inr (subst (λ (n : NodeView). Stands n w.place.seen) (g.nodes w.place.node refl) link.0, link.1)
]
trees_before old new w Done g t r = absurd r
trees_before old new w _ g t r = r

-- if places are given out elsewhere, what the walk remembers is kept back as before
pub kept_where_given : (birth : ℕ) (old new : ArenaView) (w : Walk) → IsGivenElsewhere old new w.phase w → RetiresAfter birth old.retired new.retired
    → RemembersKept birth old w → RemembersKept birth new w
kept_where_given birth old new w g lists h = record {
  nodes = λ k r. node_stays_out birth old.retired new.retired k lists (h.nodes k r);
  trees = λ t r. tree_stays_out birth old.retired new.retired t lists (h.trees t (trees_before old new w w.phase g t r));
}

-- and nothing of it is given out if only earlier places are
pub spared : (birth : ℕ) (old new : ArenaView) (w : Walk) → GivesOutBefore birth old new → RemembersKept birth old w → IsGivenElsewhere old new w.phase w
spared birth old new w g h = record { gives = g.gives; nodes = λ k r. g.nodes k (h.nodes k r); trees = λ t r. g.trees t (h.trees t r) }

-- so all stays through the giving out and then any step
pub kept_through : (op birth : ℕ) (old mid new : ArenaView) (before after : Past) (key : Bytes) (row : Option Stamped) (w : Walk) → GivesOutBefore birth old mid
    → RetiresAfter birth old.retired mid.retired → NodesGuarantee op mid.nodes new.nodes mid.trees new.trees → KeepsRows mid new after
    → AreRetired new.nodes new.trees new.retired → RetiresAfter birth mid.retired new.retired → ExtendsPast w.first before after → IsKept old before key row w
    → RemembersKept birth old w → IsKept new after key row w × RemembersKept birth new w
kept_through op birth old mid new before after key row w gives first e rows retired then past kept h =
    let g = spared birth old mid w gives h in
    let kept_mid : IsKept mid before key row w = kept_given old mid before key row w w.phase g kept in (
      kept_stays op mid new e before after key row w w.phase past (λ loads. rows) kept_mid,
      kept_by_step op birth mid new e rows.lost rows.sound retired then before key row w kept_mid (kept_where_given birth old mid w g first h),
    )
