-- Snap, Check and Hop: what a scan comes to remember is live, or it remembered it, or a node names it that it remembered.
use Rattle.std.proofs.Common.{◌≡◌, ℕ, ◌<◌, Bool, true, false, cond, List, [], length, Some, inl, inr, refl, sym, ap, subst, ◌∙◌, arith}
use Rattle.std.specs.{Ordering.{nat_cmp, is_lt}, Cmp.Lexicographic.slice_cmp}
use Rattle.mt_version.specs.Parts.{Parts}
use Rattle.mt_slices.specs.Fences.{least_through}
use Rattle.mt_rows.specs.Rows.{Bytes}
use Rattle.mt_border.specs.declared.entry.Entry.{Entry}
use Rattle.mt_arena.specs.{declared.tree.Standing.TheVariants.Live, NodeView.NodeView, Forests.tree_at, Arena.{ArenaView, IsArena}, Accesses.at}
use Rattle.mt_operation.specs.{declared.phase.Phase.Phase, declared.phase.Phase.TheVariants.{Forward, Snap, Check, Hop, Done}, declared.walk.Aim.Aim}
use Rattle.mt_operation.specs.{declared.walk.Walk.Walk, declared.scan.Stop.Stop, Operations.ScanView}
use Rattle.mt_descent.specs.{KeptWalks.IsAtBorder, WalkMoves.{arrival_at, walk_onto, walk_into, walk_anew, after_change}}
use Rattle.mt_scan.specs.{Snaps.{StopsAtLink, StopsAt, next_for, IsSnap}, Checks.{at_fence, walk_to, GoesBehind}, Hops.{after_next, HopsTo}}
use Rattle.mt_scan.specs.Remembered.{RemembersNode, RemembersTree, MayLearnNode, MayLearnTree, Learns}
use Rattle.mt_scan.proofs.Snapping.{place, leads_to}
use Rattle.mt_operation.specs.declared.walk.Aim.TheVariants as aims
use Rattle.mt_operation.specs.declared.scan.Stop.TheVariants as stops

-- after Snap: the link's tree, or the next node
module _ (v : ArenaView) (w : Walk) (s : ScanView) (arena : IsArena v.nodes v.trees) (h : IsAtBorder v s.fence w) (at_snap : w.phase ≡ Snap)
    (empty : (at v w.place.node).version.deleted ≡ true → (at v w.place.node).slots ≡ []) where
  abbrev n : NodeView
  n = at v w.place.node

  own_node : RemembersNode w.phase w s.stop w.place.node
  own_node = subst (λ (p : Phase). RemembersNode p w s.stop w.place.node) (sym at_snap) refl

  own_tree : RemembersTree w.phase w s.stop w.place.tree
  own_tree = subst (λ (p : Phase). RemembersTree p w s.stop w.place.tree) (sym at_snap) refl

  here_node : (k : ℕ) → k ≡ w.place.node → MayLearnNode v w s.stop k
  here_node k is = inr (inl (subst (λ j. RemembersNode w.phase w s.stop j) (sym is) own_node))

  here_tree : (t : ℕ) → t ≡ w.place.tree → MayLearnTree v w s.stop t
  here_tree t is = inr (subst (λ u. RemembersTree w.phase w s.stop u) (sym is) own_tree)

  -- a deleted node has no link
  link_live : (slice tree : ℕ) → StopsAtLink n s w.layer slice tree → (tree_at v.trees tree).standing ≡ Live
  link_live slice tree at_link = by n.version.deleted refl
    where
      by : (b : Bool) → n.version.deleted ≡ b → (tree_at v.trees tree).standing ≡ Live
      by false live = (leads_to v s w arena h slice tree at_link live).live
      by true dead =
          let p = place v s w arena h slice tree at_link in
          let inside = subst (λ (es : List Entry). p.0 < length es) (empty dead) p.1 in
          absurd (omega (arith, inside))

  abbrev at_check : Stop → Walk
  at_check end = record w { next = next_for n end; phase = Check }

  snapped_nodes : (end : Stop) (k : ℕ) → RemembersNode Check (at_check end) end k → MayLearnNode v w s.stop k
  snapped_nodes (stops.Next slice) k (inl is) = here_node k is
  snapped_nodes (stops.Next slice) k (inr next) = inr (inr (w.place.node, own_node, inl next))
  snapped_nodes (stops.Link slice tree) k (inl is) = here_node k is
  snapped_nodes (stops.Link slice tree) k (inr none) = absurd none
  snapped_nodes stops.Tree k (inl is) = here_node k is
  snapped_nodes stops.Tree k (inr none) = absurd none
  snapped_nodes stops.Tenant k (inl is) = here_node k is
  snapped_nodes stops.Tenant k (inr none) = absurd none

  snapped_trees : (end : Stop) → StopsAt n s w.layer end → (t : ℕ) → RemembersTree Check (at_check end) end t → MayLearnTree v w s.stop t
  snapped_trees (stops.Link slice tree) at_link t (inl is) = here_tree t is
  snapped_trees (stops.Link slice tree) at_link t (inr is) = inl (subst (λ u. (tree_at v.trees u).standing ≡ Live) (sym is) (link_live slice tree at_link))
  snapped_trees (stops.Next slice) ends t (inl is) = here_tree t is
  snapped_trees (stops.Next slice) ends t (inr none) = absurd none
  snapped_trees stops.Tree ends t (inl is) = here_tree t is
  snapped_trees stops.Tree ends t (inr none) = absurd none
  snapped_trees stops.Tenant ends t (inl is) = here_tree t is
  snapped_trees stops.Tenant ends t (inr none) = absurd none

  pub learns_snap : (x : Walk) (is : ScanView) → IsSnap v w x s is → Learns v w x s.stop is.stop
  learns_snap x is snap = subst (λ (y : Walk). Learns v w y s.stop is.stop) (sym snap.walk) (record {
    nodes = snapped_nodes is.stop;
    trees = snapped_trees is.stop snap.stops;
  })

-- after Check: no more at Hop, nothing if it is done, and the next node if its node has changed
pub learns_end : (v : ArenaView) (w : Walk) (was is : Stop) → Learns v w (walk_to Done w) was is
learns_end v w was is = record { nodes = λ k r. absurd r; trees = λ t r. absurd r }

module _ (v : ArenaView) (w : Walk) (at_check : w.phase ≡ Check) where
  hop_nodes : (stop : Stop) (k : ℕ) → RemembersNode Hop (walk_to Hop w) stop k → MayLearnNode v w stop k
  hop_nodes (stops.Next slice) k next = inr (inl (subst (λ (p : Phase). RemembersNode p w (stops.Next slice) k) (sym at_check) (inr next)))
  hop_nodes (stops.Link slice tree) k none = absurd none
  hop_nodes stops.Tree k none = absurd none
  hop_nodes stops.Tenant k none = absurd none

  hop_trees : (stop : Stop) (t : ℕ) → RemembersTree Hop (walk_to Hop w) stop t → MayLearnTree v w stop t
  hop_trees (stops.Next slice) t is = inr (subst (λ (p : Phase). RemembersTree p w (stops.Next slice) t) (sym at_check) (inl is))
  hop_trees (stops.Link slice tree) t is = inr (subst (λ (p : Phase). RemembersTree p w (stops.Link slice tree) t) (sym at_check) (inr is))
  hop_trees stops.Tree t none = absurd none
  hop_trees stops.Tenant t none = absurd none

  goes_on : (was is : Stop) (x : Walk) → is ≡ was → x ≡ walk_to Hop w → Learns v w x was is
  goes_on was is x same hops =
      subst (λ (y : Walk). Learns v w y was is) (sym hops)
      (subst (λ (end : Stop). Learns v w (walk_to Hop w) was end) (sym same) (record { nodes = hop_nodes was; trees = hop_trees was }))

  ended : (was is : Stop) (x : Walk) → x ≡ walk_to Done w → Learns v w x was is
  ended was is x ends = subst (λ (y : Walk). Learns v w y was is) (sym ends) (learns_end v w was is)

  pub learns_behind : (prefix : Bytes) (s is : ScanView) (x : Walk) → GoesBehind prefix s.stop s is w x → Learns v w x s.stop is.stop
  learns_behind prefix s is x goes = by s.stop goes
    where
      same_stop : (fence : Bytes) (ahead : Bool) → (cond ahead (at_fence s fence) s).stop ≡ s.stop
      same_stop fence true = refl
      same_stop fence false = refl

      by : (stop : Stop) → GoesBehind prefix stop s is w x → Learns v w x s.stop is.stop
      by (stops.Link slice tree) g = goes_on s.stop is.stop x (ap (λ (y : ScanView). y.stop) g.0 ∙ same_stop (least_through prefix slice) (is_lt (slice_cmp nat_cmp s.fence (least_through prefix slice)))) g.1
      by (stops.Next slice) g = goes_on s.stop is.stop x (ap (λ (y : ScanView). y.stop) g.0) g.1
      by stops.Tree (inl g) = goes_on s.stop is.stop x (ap (λ (y : ScanView). y.stop) g.0.at) g.1
      by stops.Tree (inr g) = ended s.stop is.stop x g.2
      by stops.Tenant g = ended s.stop is.stop x g.1

  own_node_there : (was : Stop) → RemembersNode w.phase w was w.place.node
  own_node_there was = subst (λ (p : Phase). RemembersNode p w was w.place.node) (sym at_check) (inl refl)

  own_tree_there : (was : Stop) (t : ℕ) → t ≡ w.place.tree → MayLearnTree v w was t
  own_tree_there was t is = inr (subst (λ (p : Phase). RemembersTree p w was t) (sym at_check) (inl is))

  pub learns_changed : (now : Parts) (was is : Stop) → Learns v w (after_change w now (at v w.place.node).next) was is
  learns_changed now was is = by now.deleted
    where
      by : (b : Bool) → Learns v w (cond b (walk_anew w) (record w { place = record w.place { seen = now }; next = (at v w.place.node).next; phase = Forward })) was is
      by true = record { nodes = λ k r. absurd r; trees = own_tree_there was }
      by false = record {
        nodes = λ k r. elim r [
          | inl same ↦ inr (inl (subst (λ j. RemembersNode w.phase w was j) (sym same) (own_node_there was)))
          | inr next ↦ inr (inr (w.place.node, own_node_there was, inl next))
        ];
        trees = own_tree_there was;
      }

-- a scan that comes to a node remembers that node and its tree
arrived_node : (b : Bool) (a : Aim) (w : Walk) (stop : Stop) (k : ℕ) → RemembersNode (arrival_at b a) w stop k → k ≡ w.place.node
arrived_node true aims.Read w stop k r = r
arrived_node true aims.Write w stop k r = r
arrived_node true aims.Scan w stop k r = r
arrived_node false a w stop k r = r

arrived_tree : (b : Bool) (a : Aim) (w : Walk) (stop : Stop) (t : ℕ) → RemembersTree (arrival_at b a) w stop t → t ≡ w.place.tree
arrived_tree true aims.Read w stop t r = r
arrived_tree true aims.Write w stop t r = r
arrived_tree true aims.Scan w stop t r = r
arrived_tree false a w stop t r = r

-- after Hop: the tree or the node to which it goes, or the top tree, which is live
module _ (v : ArenaView) (w : Walk) (arena : IsArena v.nodes v.trees) (at_hop : w.phase ≡ Hop) where
  to_top : (stop : Stop) → Learns v w (walk_into w 0 0) stop stop
  to_top stop = record {
    nodes = λ k r. absurd r;
    trees = λ t is. inl (subst (λ u. (tree_at v.trees u).standing ≡ Live) (sym is) arena.forest.top.live);
  }

  module _ (slice j : ℕ) (next : w.next ≡ Some j) where
    abbrev end : Stop
    end = stops.Next slice

    abbrev onto : Walk
    onto = walk_onto w j (at v j).version

    known : RemembersNode w.phase w end j
    known = subst (λ (p : Phase). RemembersNode p w end j) (sym at_hop) next

    to_next_by : (deleted : Bool) → Learns v w (cond deleted (walk_into w 0 0) onto) end end
    to_next_by true = to_top end
    to_next_by false = record {
      nodes = λ k r. inr (inl (subst (λ i. RemembersNode w.phase w end i) (sym (arrived_node (at v j).version.border w.aim onto end k r)) known));
      trees = λ t r. inr (subst (λ (p : Phase). RemembersTree p w end t) (sym at_hop) (arrived_tree (at v j).version.border w.aim onto end t r));
    }

    to_next : Learns v w (after_next w j (at v j)) end end
    to_next = to_next_by (at v j).version.deleted

  pub learns_hop : (stop : Stop) (x : Walk) → HopsTo v stop w x → Learns v w x stop stop
  learns_hop (stops.Link slice tree) x goes =
      subst (λ (y : Walk). Learns v w y (stops.Link slice tree) (stops.Link slice tree)) (sym goes) (record {
        nodes = λ k r. absurd r;
        trees = λ t is. inr (subst (λ (p : Phase). RemembersTree p w (stops.Link slice tree) t) (sym at_hop) is);
      })
  learns_hop (stops.Next slice) x goes =
      subst (λ (y : Walk). Learns v w y (stops.Next slice) (stops.Next slice)) (sym goes.3) (to_next slice goes.0 goes.1)
  learns_hop stops.Tree x goes = subst (λ (y : Walk). Learns v w y stops.Tree stops.Tree) (sym goes) (to_top stops.Tree)
  learns_hop stops.Tenant x goes = subst (λ (y : Walk). Learns v w y stops.Tenant stops.Tenant) (sym goes) (to_top stops.Tenant)
