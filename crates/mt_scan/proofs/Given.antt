-- What a scan keeps at Check and at Hop stays when places are given out that it does not remember.
use Rattle.std.proofs.Common.{◌≡◌, ℕ, ◌+◌, ◌≤◌, length, inl, inr, refl, sym, ap, subst, ◌∙◌, arith}
use Rattle.mt_slices.specs.{Fences.least_from, Slices.slice_of}
use Rattle.mt_rows.specs.Rows.{Bytes}
use Rattle.mt_arena.specs.{declared.tree.Tree.Tree, NodeView.NodeView, Forests.tree_at, Arena.ArenaView, Accesses.at}
use Rattle.mt_operation.specs.{declared.phase.Phase.TheVariants.{Check, Hop}, declared.walk.Walk.Walk, declared.scan.Stop.Stop}
use Rattle.mt_descent.specs.Seen.{Stands}
use Rattle.mt_descent.proofs.Given.{through_given, border_given}
use Rattle.mt_scan.specs.{Snaps.prefix_in, Hops.{IsNextFrom, LeadsBelow, LeadsNext, KnowsEnd, IsAtCheck, KeptHop}, Remembered.IsGivenElsewhere}
use Rattle.mt_operation.specs.declared.scan.Stop.TheVariants as stops

-- What a scan keeps.
module _ (old new : ArenaView) (count : length new.nodes ≡ length old.nodes) (tree_count : length new.trees ≡ length old.trees) where
  -- where a link leads, and which node is the next one
  leads_given : (prefix : Bytes) (slice tree : ℕ) → tree_at new.trees tree ≡ tree_at old.trees tree → LeadsBelow old prefix slice tree → LeadsBelow new prefix slice tree
  leads_given prefix slice tree same h = record {
    there = omega (arith, h.there, tree_count);
    unmade = λ q e. h.unmade q (ap (λ (x : Tree). x.standing) (sym same) ∙ e);
    prefix_is = ap (λ (x : Tree). x.prefix) same ∙ h.prefix_is;
  }

  next_given : (tree slice x : ℕ) → at new x ≡ at old x → IsNextFrom old tree slice x → IsNextFrom new tree slice x
  next_given tree slice x same h = record {
    there = omega (arith, h.there, count);
    tree_is = ap (λ (n : NodeView). n.tree) same ∙ h.tree_is;
    border = ap (λ (n : NodeView). n.level) same ∙ h.border;
    begins = ap (λ (n : NodeView). n.low) same ∙ h.begins;
  }

  next_leads_given : (w : Walk) (slice : ℕ) (h : LeadsNext old w slice) → at new h.node ≡ at old h.node → tree_at new.trees w.place.tree ≡ tree_at old.trees w.place.tree
      → LeadsNext new w slice
  next_leads_given w slice h same same_tree = record {
    fits = h.fits;
    node = h.node;
    is = h.is;
    begins = next_given w.place.tree slice h.node same h.begins;
    short = subst (λ (x : Tree). length (least_from x.prefix slice) ≤ 255) (sym same_tree) h.short;
    whole = subst (λ (x : Tree). 4 ≤ length (least_from x.prefix slice)) (sym same_tree) h.whole;
  }

-- at Check
pub check_given : (old new : ArenaView) (key : Bytes) (w : Walk) (stop : Stop) → IsGivenElsewhere old new Check w stop → IsAtCheck old key w stop → IsAtCheck new key w stop
check_given old new key w stop g h = record { at_border = border_given old new g.count g.tree_count key w same same_tree h.at_border; end = by stop g h.end }
  where
    same : at new w.place.node ≡ at old w.place.node
    same = g.nodes w.place.node (inl refl)

    same_tree : tree_at new.trees w.place.tree ≡ tree_at old.trees w.place.tree
    same_tree = g.trees w.place.tree (inl refl)

    was : Stands (at new w.place.node) w.place.seen → Stands (at old w.place.node) w.place.seen
    was stands = subst (λ (n : NodeView). Stands n w.place.seen) same stands

    by : (end : Stop) → IsGivenElsewhere old new Check w end → KnowsEnd old key w end → KnowsEnd new key w end
    by (stops.Link slice tree) f k = record {
      fits = k.fits;
      from = k.from;
      short = subst (λ (x : Tree). length x.prefix ≤ 246) (sym same_tree) k.short;
      leads = λ stands. subst (λ (x : Tree). LeadsBelow new x.prefix slice tree) (sym same_tree)
          (leads_given old new f.count f.tree_count (prefix_in old w) slice tree (f.trees tree (inr refl)) (k.leads (was stands)));
    }
    by (stops.Next slice) f k = λ stands. let next = k (was stands) in next_leads_given old new f.count f.tree_count w slice next (f.nodes next.node (inr next.is)) same_tree
    by stops.Tree f k = tt
    by stops.Tenant f k = tt

-- at Hop
pub kept_hop_given : (old new : ArenaView) (key : Bytes) (w : Walk) (stop : Stop) → IsGivenElsewhere old new Hop w stop → KeptHop old key w stop → KeptHop new key w stop
kept_hop_given old new key w (stops.Link slice tree) g k = through_given old new g.count g.tree_count tree (w.layer + 1) key (g.trees tree refl) k
kept_hop_given old new key w (stops.Next slice) g k = (
  k.0,
  k.1,
  record {
    through = through_given old new g.count g.tree_count w.place.tree w.layer key (g.trees w.place.tree refl) k.2.through;
    next = next_given old new g.count g.tree_count w.place.tree (slice_of key w.layer) k.0 (g.nodes k.0 k.1) k.2.next;
  },
)
kept_hop_given old new key w stops.Tree g k = k
kept_hop_given old new key w stops.Tenant g k = k
