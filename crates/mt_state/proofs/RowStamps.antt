-- The stamp of a row that the contents have, by the stamps of the slots: for `a_row_has_its_steps_stamp` and the crates above.
use Rattle.std.proofs.Common.{◌≡◌, ℕ, suc, ◌<◌, Bool, true, false, cond, List, [], ◌∷◌, ◌++◌, length, Option, Some, None, sym, refl, ap, subst, ◌∙◌, arith}
use Rattle.std.proofs.lemmas.Option.{none-some, same_Some}
use Rattle.std.specs.{Prelude.filter_map, List.{flat_map, cons_option}, Option.{option_map, option_or}, Ordering.eq_by_cmp, FinMap.{get, get-empty, get-insert}}
use Rattle.mt_rows.{specs.{Rows.Bytes, Stamps.Stamped, Tenants.{owned_cmp, Contents}}, proofs.ContentLaws.owned_total}
use Rattle.mt_border.specs.{Held.Pair, declared.entry.Entry.Entry, Entry.pair_of, Contents.{owned, key_at, pair_in, row_of, AllStamped}}
use Rattle.mt_border.proofs.Edits.{any_entry}
use Rattle.mt_arena.specs.{declared.tree.Tree.Tree, NodeView.{NodeView, node_at}, Forests.tree_at, Contents.{counts, live_pairs}, Arena.content_of}
use Rattle.mt_arena.proofs.{Joins.{Pairs, map_of, tied_owner, get-append}, Counted.content-is}
use Rattle.mt_state.specs.{Views.Core, Invariant.{IsStampOf, AreStamps}}

module _ (P : ℕ × Bytes → ℕ → Type 0) where
  -- P holds of the owner and the stamp of each row
  abbrev Tells : Contents → Type 0
  Tells m = (q : ℕ × Bytes) (row : Stamped) → get m q ≡ Some row → P q row.stamp

  -- of no pairs
  tells_none : Tells (map_of [])
  tells_none q row some = absurd (none-some row (sym (get-empty owned_cmp q) ∙ some))

  -- of one more
  tells_more : (p : (ℕ × Bytes) × Stamped) (ps : Pairs) → P p.0 p.1.stamp → Tells (map_of ps) → Tells (map_of (p ∷ ps))
  tells_more p ps known rest q row some = by (eq_by_cmp owned_cmp q p.0) refl (sym (get-insert owned_total (map_of ps) p.0 p.1 q) ∙ some)
    where
      by : (b : Bool) → eq_by_cmp owned_cmp q p.0 ≡ b → cond b (Some p.1) (get (map_of ps) q) ≡ Some row → P q row.stamp
      by true tied is = subst (λ (r : Stamped). P q r.stamp) (same_Some p.1 row is) (subst (λ (x : ℕ × Bytes). P x p.1.stamp) (sym (tied_owner q p.0 tied)) known)
      by false apart is = rest q row is

  -- of those in two lists
  tells_both : (ps qs : Pairs) → Tells (map_of ps) → Tells (map_of qs) → Tells (map_of (ps ++ qs))
  tells_both ps qs first second q row some = by (get (map_of ps) q) refl (sym (get-append ps qs q) ∙ some)
    where
      by : (x : Option Stamped) → get (map_of ps) q ≡ x → option_or x (get (map_of qs) q) ≡ Some row → P q row.stamp
      by None none is = second q row is
      by (Some r) said is = first q row (said ∙ is)

  -- of the pairs of a node's slots
  tells_slot : (prefix : Bytes) (e : Entry) (es : List Entry) → ((pair : Pair) → pair_of e.held ≡ Some pair → P (owned (key_at prefix e pair)) pair.stamp)
      → Tells (map_of (filter_map (pair_in prefix) es)) → (o : Option Pair) → pair_of e.held ≡ o
      → Tells (map_of (cons_option (option_map (λ (pair : Pair). (owned (key_at prefix e pair), row_of pair)) o) (filter_map (pair_in prefix) es)))
  tells_slot prefix e es known rest None is = rest
  tells_slot prefix e es known rest (Some pair) is = tells_more (owned (key_at prefix e pair), row_of pair) (filter_map (pair_in prefix) es) (known pair is) rest

  tells_slots : (prefix : Bytes) (es : List Entry) → AllStamped P prefix es → Tells (map_of (filter_map (pair_in prefix) es))
  tells_slots prefix [] stamped = tells_none
  tells_slots prefix (e ∷ es) stamped = tells_slot prefix e es (λ pair is. stamped 0 any_entry (omega arith) pair is)
      (tells_slots prefix es (λ k d within. stamped (suc k) d (omega (arith, within)))) (pair_of e.held) refl

  -- of a node's pairs, where they count
  tells_node : (trees : List Tree) (n : NodeView) → (counts trees n ≡ true → AllStamped P (tree_at trees n.tree).prefix n.slots) → Tells (map_of (live_pairs trees n))
  tells_node trees n stamped = by (counts trees n) refl
    where
      by : (b : Bool) → counts trees n ≡ b → Tells (map_of (cond b (filter_map (pair_in (tree_at trees n.tree).prefix) n.slots) []))
      by true counted = tells_slots (tree_at trees n.tree).prefix n.slots (stamped counted)
      by false uncounted = tells_none

  -- and of those of all nodes
  pub tells_nodes : (trees : List Tree) (nodes : List NodeView)
      → ((k : ℕ) → k < length nodes → counts trees (node_at nodes k) ≡ true → AllStamped P (tree_at trees (node_at nodes k).tree).prefix (node_at nodes k).slots)
      → Tells (map_of (flat_map (live_pairs trees) nodes))
  tells_nodes trees [] stamped = tells_none
  tells_nodes trees (n ∷ nodes) stamped = tells_both (live_pairs trees n) (flat_map (live_pairs trees) nodes)
      (tells_node trees n (stamped 0 (omega arith))) (tells_nodes trees nodes (λ k within. stamped (suc k) (omega (arith, within))))

-- a row of the contents has the stamp of the step that placed it
pub row_stamp : (c : Core) → AreStamps c → (q : ℕ × Bytes) (row : Stamped) → get (content_of c.arena) q ≡ Some row → IsStampOf c.steps c.tape q row.stamp
row_stamp c stamps q row some = tells_nodes (IsStampOf c.steps c.tape) c.arena.trees c.arena.nodes stamps q row
    (ap (λ (m : Contents). get m q) (sym (content-is c.arena.trees c.arena.nodes)) ∙ some)
