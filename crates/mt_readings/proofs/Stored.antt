-- Each pair of the contents is that of a stored key.
use Rattle.std.proofs.{Common.{◌≡◌, ℕ, Bool, true, false, List, [], ◌∷◌, Option, Some, None, refl, sym, ap, subst, ◌∙◌}, lemmas.List.get_or_default}
use Rattle.std.proofs.lemmas.List.Elements.{All-append, All-nil, All-cons, All-head, All-tail}
use Rattle.std.specs.{Prelude.{filter_map, if◌then◌else◌, cond}, List.{All, flat_map, cons_option}, Option.option_map, Ordering.eq_by_cmp}
use Rattle.std.specs.FinMap.{get, get-empty, get-insert}
use Rattle.mt_slices.specs.Keys.{IsStoredKey}
use Rattle.mt_rows.{specs.{Rows.Bytes, Stamps.Stamped, Tenants.owned_cmp}, proofs.ContentLaws.owned_total}
use Rattle.mt_border.specs.{Held.Pair, declared.entry.Entry.Entry, Entry.pair_of, Contents.{owned, key_at, pair_in, HasKey, AreKeys, row_of}}
use Rattle.mt_border.proofs.ContentsKeys.{owned_at}
use Rattle.mt_arena.specs.{declared.tree.Tree.Tree, NodeView.{NodeView, node_at, no_node}, Forests.{tree_at, layer_of, HaveKeys}}
use Rattle.mt_arena.specs.{Contents.{counts, live_pairs, content}, Arena.IsArena}
use Rattle.mt_arena.proofs.{Joins.{Pairs, map_of, tied_owner}, Counted.content-is}
use Rattle.mt_readings.specs.Tenancies.{HasStoredKeys}

-- an owner of a stored key
abbrev IsOwner : ℕ × Bytes → Type 0
IsOwner q = (key : Bytes) × IsStoredKey key × (owned key ≡ q)

abbrev AreOwned : Pairs → Type 0
AreOwned ps = All (λ p. IsOwner p.0) ps

owned_by : (p : (ℕ × Bytes) × Stamped) (ps : Pairs) → IsOwner p.0 → (q : ℕ × Bytes) (row : Stamped) (b : Bool) → eq_by_cmp owned_cmp q p.0 ≡ b → cond b (Some p.1) (get (map_of ps) q) ≡ Some row → (get (map_of ps) q ≡ Some row → IsOwner q) → IsOwner q
owned_by p ps w q row true tied e rest = (w.0, w.1, w.2 ∙ sym (tied_owner q p.0 tied))
owned_by p ps w q row false other e rest = rest e

owned_get : (ps : Pairs) → AreOwned ps → (q : ℕ × Bytes) (row : Stamped) → get (map_of ps) q ≡ Some row → IsOwner q
owned_get [] all q row is = absurd (let none = get-empty owned_cmp q in let both = sym none ∙ is in cc)
owned_get (p ∷ ps) all q row is = owned_by p ps (All-head (λ p. IsOwner p.0) p ps all) q row (eq_by_cmp owned_cmp q p.0) refl (sym (get-insert owned_total (map_of ps) p.0 p.1 q) ∙ is)
    (λ e. owned_get ps (All-tail (λ p. IsOwner p.0) p ps all) q row e)

slots_owned : (prefix : Bytes) (layer : ℕ) (es : List Entry) → AreKeys prefix layer es → AreOwned (filter_map (pair_in prefix) es)
slots_owned prefix layer [] keys = All-nil (λ p. IsOwner p.0)
slots_owned prefix layer (e ∷ es) keys = by (pair_of e.held) refl (slots_owned prefix layer es (All-tail (λ x. (key : Bytes) × HasKey prefix layer x key) e es keys))
  where
    by : (o : Option Pair) → pair_of e.held ≡ o → AreOwned (filter_map (pair_in prefix) es) → AreOwned (cons_option (option_map (λ pair. (owned (key_at prefix e pair), row_of pair)) o) (filter_map (pair_in prefix) es))
    by None is rest = rest
    by (Some pair) is rest =
        let w = All-head (λ x. (key : Bytes) × HasKey prefix layer x key) e es keys in
        All-cons (λ p. IsOwner p.0) (owned (key_at prefix e pair), row_of pair) (filter_map (pair_in prefix) es) (w.0, w.1.of_tree.stored, sym (owned_at prefix layer e w.0 pair w.1 is)) rest

node_owned : (trees : List Tree) (n : NodeView) → HaveKeys (tree_at trees n.tree).prefix n.slots → AreOwned (live_pairs trees n)
node_owned trees n has = by (counts trees n)
  where
    by : (b : Bool) → AreOwned (if b then filter_map (pair_in (tree_at trees n.tree).prefix) n.slots else [])
    by true = slots_owned (tree_at trees n.tree).prefix (layer_of (tree_at trees n.tree).prefix) n.slots has.keys
    by false = All-nil (λ p. IsOwner p.0)

nodes_owned : (trees : List Tree) (ns : List NodeView) → All (λ n. HaveKeys (tree_at trees n.tree).prefix n.slots) ns → AreOwned (flat_map (live_pairs trees) ns)
nodes_owned trees [] all = All-nil (λ p. IsOwner p.0)
nodes_owned trees (n ∷ ns) all = All-append (λ p. IsOwner p.0) (live_pairs trees n) (flat_map (live_pairs trees) ns)
    (node_owned trees n (All-head (λ n. HaveKeys (tree_at trees n.tree).prefix n.slots) n ns all))
    (nodes_owned trees ns (All-tail (λ n. HaveKeys (tree_at trees n.tree).prefix n.slots) n ns all))

pub stored_keys : (nodes : List NodeView) (trees : List Tree) → IsArena nodes trees → HasStoredKeys (content trees nodes)
stored_keys nodes trees arena q row is =
    owned_get (flat_map (live_pairs trees) nodes)
    (nodes_owned trees nodes (λ k d lt. subst (λ (n : NodeView). HaveKeys (tree_at trees n.tree).prefix n.slots) (get_or_default nodes k no_node d lt) ((arena.forest.homes k (node_at nodes k).tree lt (arena.forest.tree_there k lt)).keys refl)))
    q row (ap (λ c. get c q) (sym (content-is trees nodes)) ∙ is)
