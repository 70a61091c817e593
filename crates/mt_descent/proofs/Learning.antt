-- What a look comes to remember is live, or it remembered it, or a node names it that it remembered, phase by phase.
use Rattle.std.proofs.Common.{◌≡◌, ◌≢◌, ℕ, ◌+◌, ◌<◌, inl, inr, Bool, true, false, length, Option, Some, refl, sym, ap, subst, ◌∙◌}
use Rattle.std.specs.Prelude.{if◌then◌else◌, nat_le}
use Rattle.mt_version.specs.{Parts.Parts}
use Rattle.mt_interior.specs.Places.{place_of}
use Rattle.mt_rows.specs.{Rows.Bytes, Stamps.Stamped}
use Rattle.mt_border.specs.{declared.entry.Find.Find, declared.entry.FoundKind.TheVariants.{ThisKey, OtherLong, Link as ToTree}, Slots.held_in}
use Rattle.mt_arena.specs.{declared.tree.Standing.Standing, declared.tree.Standing.TheVariants.{Made, Live, Dead}, NodeView.{NodeView, place_at}}
use Rattle.mt_arena.specs.{Forests.tree_at, Arena.{ArenaView, IsArena}, Accesses.at}
use Rattle.mt_operation.specs.declared.phase.Phase.{Phase}
use Rattle.mt_operation.specs.declared.phase.Phase.TheVariants.{Pick, Child, Verify, Search, Load, Confirm, Forward, Lock, Done}
use Rattle.mt_operation.specs.{declared.walk.Aim.Aim, declared.walk.Taken.Taken, declared.walk.Walk.Walk}
use Rattle.mt_descent.specs.{Seen.{child_for}, Pasts.Past, KeptWalks.{slice_in, IsAtPick, IsAtBorder, IsAtLoad}}
use Rattle.mt_descent.specs.WalkMoves.{arrival, arrival_at, walk_onto, walk_into, walk_anew, walk_reseen, walk_here, walk_to_next, after_enter, after_pick, after_child}
use Rattle.mt_descent.specs.WalkMoves.{Verifies, FindsIn, after_search, TakesOut, IsShownAt, Loads, after_confirm, after_change, Confirms, after_forward, Locks}
use Rattle.mt_descent.specs.Remembered.{StandsHere, LeadsIn, RemembersNode, RemembersTree, MayLearnNode, MayLearnTree, Learns}
use Rattle.mt_descent.proofs.{Ways.{has_child, same_stands}, Decides.{same_or_not, outdated_or_not}}
use Rattle.mt_border.specs.Held as helds
use Rattle.mt_border.specs.declared.entry.Find.TheVariants as finds
use Rattle.mt_operation.specs.declared.walk.Aim.TheVariants as aims
use Rattle.mt_operation.specs.declared.walk.Taken.TheVariants as takens

-- a walk that has come to a node remembers that node and its tree
pub arrived_node : (b : Bool) (a : Aim) (w : Walk) (k : ℕ) → RemembersNode (arrival_at b a) w k → k ≡ w.place.node
arrived_node true aims.Read w k r = r
arrived_node true aims.Write w k r = r
arrived_node true aims.Scan w k r = r
arrived_node false a w k r = r

pub arrived_tree : (b : Bool) (a : Aim) (v : ArenaView) (w : Walk) (t : ℕ) → RemembersTree (arrival_at b a) v w t → t ≡ w.place.tree
arrived_tree true aims.Read v w t r = r
arrived_tree true aims.Write v w t r = r
arrived_tree true aims.Scan v w t r = r
arrived_tree false a v w t r = r

-- so does one that stays at its node
stayed_node : (a : Aim) (w : Walk) (k : ℕ) → RemembersNode (arrival a) w k → k ≡ w.place.node
stayed_node aims.Read w k r = r
stayed_node aims.Write w k r = r
stayed_node aims.Scan w k r = r

stayed_tree : (a : Aim) (v : ArenaView) (w : Walk) (t : ℕ) → RemembersTree (arrival a) v w t → t ≡ w.place.tree
stayed_tree aims.Read v w t r = r
stayed_tree aims.Write v w t r = r
stayed_tree aims.Scan v w t r = r

-- a walk remembers its tree at every phase but the last
pub own_tree : (p : Phase) (v : ArenaView) (w : Walk) → p ≢ Done → RemembersTree p v w w.place.tree
own_tree Load v w going = inl refl
own_tree Confirm v w going = inl refl
own_tree Done v w going = absurd (going refl)
own_tree _ v w going = refl

-- a phase that is another one is not the last one
pub going : (w : Walk) (p : Phase) → p ≢ Done → w.phase ≡ p → w.phase ≢ Done
going w p other is done = other (sym is ∙ done)

module _ (v : ArenaView) (w : Walk) (on : w.phase ≢ Done) where
  here_tree : (t : ℕ) → t ≡ w.place.tree → MayLearnTree v w t
  here_tree t is = inr (subst (λ u. RemembersTree w.phase v w u) (sym is) (own_tree w.phase v w on))

  -- to a node that is live, or that it remembers
  onto : (k : ℕ) (seen : Parts) → MayLearnNode v w k → Learns v w (walk_onto w k seen)
  onto k seen may = record {
    nodes = λ j r. subst (λ i. MayLearnNode v w i) (sym (arrived_node seen.border w.aim (walk_onto w k seen) j r)) may;
    trees = λ t r. here_tree t (arrived_tree seen.border w.aim v (walk_onto w k seen) t r);
  }

  -- into a tree
  into : (t layer : ℕ) → MayLearnTree v w t → Learns v w (walk_into w t layer)
  into t layer may = record {
    nodes = λ k r. absurd r;
    trees = λ u r. subst (λ i. MayLearnTree v w i) (sym r) may;
  }

  -- anew in its tree
  pub learns_anew : Learns v w (walk_anew w)
  learns_anew = record { nodes = λ k r. absurd r; trees = here_tree }

  -- Enter: the root of a tree that is not dead is live, and so is the top tree
  pub learns_enter : IsArena v.nodes v.trees → w.place.tree < length v.trees
      → Learns v w (after_enter (tree_at v.trees w.place.tree).standing w (tree_at v.trees w.place.tree).root (at v (tree_at v.trees w.place.tree).root).version)
  learns_enter arena there = by (tree_at v.trees w.place.tree).standing refl
    where
      t : ℕ
      t = w.place.tree

      r : ℕ
      r = (tree_at v.trees t).root

      live : (tree_at v.trees t).standing ≢ Dead → (at v r).version.deleted ≡ false
      live stands = ((arena.forest.homes r t (arena.forest.each t there).root_there there).root_is refl stands).live

      by : (s : Standing) → (tree_at v.trees t).standing ≡ s → Learns v w (after_enter s w r (at v r).version)
      by (Made q) is = onto r (at v r).version (inl (live (λ dead. absurd (let both = sym is ∙ dead in cc))))
      by Live is = onto r (at v r).version (inl (live (λ dead. absurd (let both = sym is ∙ dead in cc))))
      by Dead is = into 0 0 (inl arena.forest.top.live)

  -- a border node that has changed: its next one, which it names
  pub learns_change : (now : Parts) → RemembersNode w.phase w w.place.node → Learns v w (after_change w now (at v w.place.node).next)
  learns_change now node = by now.deleted
    where
      by : (b : Bool) → Learns v w (if b then walk_anew w else record w { place = record w.place { seen = now }; next = (at v w.place.node).next; phase = Forward })
      by true = learns_anew
      by false = record {
        nodes = λ k r. elim r [
          | inl is ↦ inr (inl (subst (λ i. RemembersNode w.phase w i) (sym is) node))
          | inr next ↦ inr (inr (w.place.node, node, inl next))
        ];
        trees = here_tree;
      }

-- Pick: the child, which the node names
pub learns_pick : (v : ArenaView) (w : Walk) (key : Bytes) → IsArena v.nodes v.trees → w.phase ≡ Pick → IsAtPick v key w
    → Learns v w (after_pick w (child_for (at v w.place.node) (slice_in key w)))
learns_pick v w key arena phase h = record {
  nodes = λ k r. elim r [
    | inl node ↦ inr (inl (subst (λ p. RemembersNode p w k) (sym phase) node))
    | inr child ↦
        let n = at v w.place.node in
        let one = arena.nodes.each w.place.node h.covers.remembered.there in
        inr (inr (
          w.place.node,
          subst (λ p. RemembersNode p w w.place.node) (sym phase) refl,
          inr (place_of n.separators (slice_in key w), has_child (length v.nodes) n (slice_in key w) one (h.covers.remembered.peopled h.interior), sym child),
        ))
  ];
  trees = here_tree v w (going w Pick (λ e. cc) phase);
}

-- Child: nothing new
pub learns_child : (v : ArenaView) (w : Walk) (seen : Parts) → w.phase ≡ Child → Learns v w (after_child w seen)
learns_child v w seen phase = record {
  nodes = λ k r. inr (inl (subst (λ p. RemembersNode p w k) (sym phase) r));
  trees = here_tree v w (going w Child (λ e. cc) phase);
}

-- Verify: to the child, or back to the node, or anew
module _ (v : ArenaView) (w : Walk) (phase : w.phase ≡ Verify) where
  on_verify : w.phase ≢ Done
  on_verify = going w Verify (λ e. cc) phase

  child_learned : Learns v w (walk_onto w w.child w.child_seen)
  child_learned = onto v w on_verify w.child w.child_seen (inr (inl (subst (λ p. RemembersNode p w w.child) (sym phase) (inr refl))))

  again_learned : (now : Parts) → Learns v w (walk_reseen w now)
  again_learned now = record { nodes = λ k r. inr (inl (subst (λ p. RemembersNode p w k) (sym phase) (inl r))); trees = here_tree v w on_verify }

  pub learns_verify : (after : Walk) → Verifies (at v w.place.node) w after → Learns v w after
  learns_verify after f =
      let n = at v w.place.node in
      elim (same_or_not n.version w.place.seen) [
        | inl same ↦ subst (λ (x : Walk). Learns v w x) (sym (f.same same)) child_learned
        | inr other ↦ elim (outdated_or_not n w.place.seen) [
          | inl outdated ↦ subst (λ (x : Walk). Learns v w x) (sym (f.outdated other outdated)) (learns_anew v w on_verify)
          | inr whole ↦ subst (λ (x : Walk). Learns v w x) (sym (f.changed other whole)) (again_learned n.version)
        ]
      ]

-- Search: as long as the version stands, the tree of the link that was found is live
module _ (v : ArenaView) (w : Walk) (key : Bytes) (step : ℕ) (arena : IsArena v.nodes v.trees) (phase : w.phase ≡ Search) (h : IsAtBorder v key w) where
  on_search : w.phase ≢ Done
  on_search = going w Search (λ e. cc) phase

  searched_node : (k : ℕ) → k ≡ w.place.node → MayLearnNode v w k
  searched_node k is = inr (inl (subst (λ p. RemembersNode p w k) (sym phase) is))

  missed : Learns v w (record w { taken = takens.Missing; right_at = step; phase = Confirm })
  missed = record {
    nodes = searched_node;
    trees = λ t r. elim r [
      | inl own ↦ here_tree v w on_search t own
      | inr link ↦ absurd (let none = link.1 in cc)
    ];
  }

  found_in : (slot : ℕ) → place_at (at v w.place.node) slot < length (at v w.place.node).slots → Learns v w (record w { slot = slot; right_at = step; phase = Load })
  found_in slot live = record {
    nodes = searched_node;
    trees = λ t r. elim r [
      | inl own ↦ here_tree v w on_search t own
      | inr link ↦ elim link.1 [
        | inl held ↦ inl (arena.layers.links w.place.node h.covers.remembered.there link.0.in_range.live (place_at (at v w.place.node) slot) t live held.1).live
        | inr free ↦ absurd (free.0 live)
      ]
    ];
  }

  pub learns_search : (f : Find) → FindsIn (at v w.place.node) key w.layer f → Learns v w (after_search f w step)
  learns_search finds.Missing missing = missed
  learns_search (finds.Slot slot OtherLong) f = missed
  learns_search (finds.Slot slot ThisKey) f = found_in slot f.in_range
  learns_search (finds.Slot slot ToTree) f = found_in slot f.in_range

-- the tree of a link that was taken
abbrev link_of : Taken → ℕ
link_of (takens.Link u) = u
link_of _ = 0

-- Load: the tree of the link, to which the slot leads as long as the version stands
module _ (v : ArenaView) (w : Walk) (past : Past) (key : Bytes) (phase : w.phase ≡ Load) (h : IsAtLoad v past key w) where
  abbrev n : NodeView
  n = at v w.place.node

  leads_there : (u : ℕ) → IsShownAt n w.slot → held_in n.cells.helds w.slot ≡ helds.Link u → StandsHere v w → LeadsIn n w.slot u
  leads_there u shown is stands = elim (h.found stands) [
    | inl l ↦ inl (l.has.in_slot.in_range, sym (shown l.has.in_slot.in_range) ∙ is)
    | inr d ↦ inr (d.free, is)
  ]

  taken_tree : (taken : Taken) (right t : ℕ) (row : Option Stamped) → TakesOut n w row taken right → IsShownAt n w.slot → StandsHere v w → taken ≡ takens.Link t → LeadsIn n w.slot t
  taken_tree takens.Missing right t row takes shown stands is = absurd takes
  taken_tree takens.Row right t row takes shown stands is = absurd (cc)
  taken_tree (takens.Link u) right t row takes shown stands is = leads_there t shown (takes.0 ∙ ap (λ (x : Taken). helds.Link (link_of x)) is) stands
  taken_tree takens.Nothing right t row takes shown stands is = absurd (cc)

  pub learns_load : (after : Walk) (row : Option Stamped) → Loads n w after row → Learns v w after
  learns_load after row l = subst (λ (x : Walk). Learns v w x) (sym l.is) (record {
    nodes = λ k r. inr (inl (subst (λ p. RemembersNode p w k) (sym phase) r));
    trees = λ t r. elim r [
      | inl own ↦ here_tree v w (going w Load (λ e. cc) phase) t own
      | inr link ↦ inr (subst (λ p. RemembersTree p v w t) (sym phase) (inr (link.0, taken_tree after.taken after.right_at t row l.takes l.shown link.0 link.1)))
    ];
  })

-- Confirm: into the tree of the link that was taken, or done, or on from a node that has changed
module _ (v : ArenaView) (w : Walk) (key : Bytes) (phase : w.phase ≡ Confirm) (h : IsAtBorder v key w) where
  finished : StandsHere v w → (taken : Taken) → w.taken ≡ taken → Learns v w (after_confirm taken w)
  finished stands (takens.Link u) is =
      into v w (going w Confirm (λ e. cc) phase) u (w.layer + 1) (inr (subst (λ p. RemembersTree p v w u) (sym phase) (inr (stands, is))))
  finished stands takens.Missing is = record { nodes = λ k r. absurd r; trees = λ t r. absurd r }
  finished stands takens.Row is = record { nodes = λ k r. absurd r; trees = λ t r. absurd r }
  finished stands takens.Nothing is = record { nodes = λ k r. absurd r; trees = λ t r. absurd r }

  pub learns_confirm : (after : Walk) → Confirms (at v w.place.node) w after → Learns v w after
  learns_confirm after f =
      let m = at v w.place.node in
      elim (same_or_not m.version w.place.seen) [
        | inl same ↦ subst (λ (x : Walk). Learns v w x) (sym (f.same same)) (finished (same_stands m w.place.seen h.covers.remembered.undeleted same) w.taken refl)
        | inr other ↦ subst (λ (x : Walk). Learns v w x) (sym (f.changed other))
            (learns_change v w (going w Confirm (λ e. cc) phase) m.version (subst (λ p. RemembersNode p w w.place.node) (sym phase) refl))
      ]

-- Forward: to the next node, and the one after it, which that one names
module _ (v : ArenaView) (w : Walk) (phase : w.phase ≡ Forward) where
  on_forward : w.phase ≢ Done
  on_forward = going w Forward (λ e. cc) phase

  forward_node : RemembersNode w.phase w w.place.node
  forward_node = subst (λ p. RemembersNode p w w.place.node) (sym phase) (inl refl)

  -- it stays at its node
  pub learns_here : Learns v w (walk_here w)
  learns_here = record {
    nodes = λ k r. inr (inl (subst (λ i. RemembersNode w.phase w i) (sym (stayed_node w.aim (walk_here w) k r)) forward_node));
    trees = λ t r. here_tree v w on_forward t (stayed_tree w.aim v (walk_here w) t r);
  }

  pub learns_forward : (slice j : ℕ) → w.next ≡ Some j → Learns v w (after_forward w slice j (at v j))
  learns_forward slice j next = by (at v j).version.deleted (nat_le (at v j).low slice)
    where
      there : RemembersNode w.phase w j
      there = subst (λ p. RemembersNode p w j) (sym phase) (inr next)

      by : (b c : Bool) → Learns v w (if b then walk_anew w else (if c then walk_to_next w j (at v j) else walk_here w))
      by true c = learns_anew v w on_forward
      by false true = record {
        nodes = λ k r. elim r [
          | inl is ↦ inr (inl (subst (λ i. RemembersNode w.phase w i) (sym is) there))
          | inr after ↦ inr (inr (j, there, inl after))
        ];
        trees = here_tree v w on_forward;
      }
      by false false = learns_here

-- Lock: it holds its node, or goes on from a node that has changed
pub learns_lock : (op : ℕ) (old new : ArenaView) (w after : Walk) → w.phase ≡ Lock → Locks op old new w after → Learns old w after
learns_lock op old new w after phase f =
    let n = at old w.place.node in
    let node : RemembersNode w.phase w w.place.node = subst (λ p. RemembersNode p w w.place.node) (sym phase) refl in
    let on = going w Lock (λ e. cc) phase in
    elim (outdated_or_not n w.place.seen) [
      | inl outdated ↦ subst (λ (x : Walk). Learns old w x) (sym (f.goes_on outdated)) (learns_change old w on n.version node)
      | inr whole ↦ subst (λ (x : Walk). Learns old w x) (sym (f.judges whole)) (record {
        nodes = λ k r. inr (inl (subst (λ i. RemembersNode w.phase w i) (sym r) node));
        trees = λ t r. here_tree old w on t r;
      })
    ]
