-- Where all nodes are renumbered, all that holds of an arena holds again, and the contents are the same but for the stamps: for `renumber`.
use Rattle.std.proofs.Common.{◌≡◌, ◌≢◌, ℕ, zero, suc, ◌<◌, List, [], ◌∷◌, ◌++◌, map, length, Option, Some, Bool, cond, true, false, refl, sym, ap, subst, ◌∙◌, arith}
use Rattle.std.proofs.lemmas.List.{length-map, map-append}
use Rattle.std.specs.{Prelude.filter_map, Ordering.eq_by_cmp, Option.option_map, FinMap.{get, get-empty, get-insert}, List.flat_map}
use Rattle.mt_slices.specs.declared.mark.Mark.TheVariants.{Short, Long}
use Rattle.mt_rows.{specs.{Rows.Bytes, Stamps.restamped_row, Tenants.owned_cmp}, proofs.ContentLaws.owned_total}
use Rattle.mt_border.specs.{declared.entry.Entry.Entry, Held.{Held, Stable, Unstable, Link}, Restamps.{with_stamps, restamped, all_restamped, restamped_pair}, Contents.pair_in}
use Rattle.mt_border.proofs.Restamping.{each-restamped, border-restamped, slices-restamped, length-restamped, keys-restamped, pairs-restamped}
use Rattle.mt_arena.specs.Idle.{RetiredPlaces, Rooms, AreRetired, AreListed, all_out_at, is_idle_border, is_idle_interior, place_of_idle, count_of, one_if}
use Rattle.mt_arena.specs.{declared.tree.Tree.Tree, declared.retired.Retired.Retired, NodeView.{NodeView, node_at, no_node}, NodeFacts.{IsUnstable, FitsSlots}}
use Rattle.mt_arena.specs.{Nodes.{AreNodes, IsNode, IsPair}, Ranges.{AreRanged, IsRanged, AreTied}}
use Rattle.mt_arena.specs.{Forests.{IsForest, IsHome, IsTree, AllBegin, BeginsAtKey, tree_at, layer_of}, Layers.{AreLayered, AreLinks, HasLink, slot_at}}
use Rattle.mt_arena.specs.{Contents.{live_pairs, counts, content}, Invariant.ArenaInvariant, Arena.IsArena}
use Rattle.mt_arena.specs.Renumbers.{renumbered, all_renumbered, AreRestamped}
use Rattle.mt_arena.proofs.{Joins.{Pairs, map_of}, Counted.content-is, Out.retired_anew, NamedLate.named_anew}

-- the node of a number
pub at-renumbered : (f : ℕ → ℕ) (nodes : List NodeView) (k : ℕ) → node_at (all_renumbered f nodes) k ≡ renumbered f (node_at nodes k)
at-renumbered f [] k = refl
at-renumbered f (n ∷ nodes) zero = refl
at-renumbered f (n ∷ nodes) (suc k) = at-renumbered f nodes k

pub size-renumbered : (f : ℕ → ℕ) (nodes : List NodeView) → length (all_renumbered f nodes) ≡ length nodes
size-renumbered f nodes = length-map nodes (renumbered f)

-- what holds of each, and of each two
each : (P Q : NodeView → Type 0) (f : ℕ → ℕ) (nodes : List NodeView) → ((n : NodeView) → P n → Q (renumbered f n)) → ((k : ℕ) → k < length nodes → P (node_at nodes k))
    → (k : ℕ) → k < length (all_renumbered f nodes) → Q (node_at (all_renumbered f nodes) k)
each P Q f nodes so all k lt = subst Q (sym (at-renumbered f nodes k)) (so (node_at nodes k) (all k (omega (arith, lt, size-renumbered f nodes))))

both : (R : ℕ → NodeView → ℕ → NodeView → Type 0) (f : ℕ → ℕ) (nodes : List NodeView) → ((k j : ℕ) (n m : NodeView) → R k n j m → R k (renumbered f n) j (renumbered f m)) → ((k j : ℕ) → k < length nodes → j < length nodes → R k (node_at nodes k) j (node_at nodes j))
    → (k j : ℕ) → k < length (all_renumbered f nodes) → j < length (all_renumbered f nodes) → R k (node_at (all_renumbered f nodes) k) j (node_at (all_renumbered f nodes) j)
both R f nodes so all k j lt lt_j =
    subst (λ n. R k n j (node_at (all_renumbered f nodes) j)) (sym (at-renumbered f nodes k))
    (subst (λ m. R k (renumbered f (node_at nodes k)) j m) (sym (at-renumbered f nodes j))
    (so k j (node_at nodes k) (node_at nodes j) (all k j (omega (arith, lt, size-renumbered f nodes)) (omega (arith, lt_j, size-renumbered f nodes)))))

-- an entry is unstable where it was
stable_stamped : (f : ℕ → ℕ) (held : Held) → ¬ IsUnstable held → ¬ IsUnstable (with_stamps f held)
stable_stamped f (Stable pair) h u = h u
stable_stamped f (Unstable pair tree) h u = h u
stable_stamped f (Link tree) h u = h u

-- a node's slots fit
slots_fit : (f : ℕ → ℕ) (level low : ℕ) (high : Option ℕ) (es : List Entry) → FitsSlots level low high es → FitsSlots level low high (all_restamped f es)
slots_fit f level low high es h = record {
  border = border-restamped f es h.border;
  within = λ i lt.
      let was = h.within i (omega (arith, lt, length-restamped f es)) in
      rw (slices-restamped f es) was;
  slotless = λ above. ap (all_restamped f) (h.slotless above);
}

node_so : (f : ℕ → ℕ) (count : ℕ) (n : NodeView) → IsNode count n → IsNode count (renumbered f n)
node_so f count n h = record {
  names = h.names;
  lock = record {
    locked = h.lock.locked;
    inserting = h.lock.inserting;
    splitting = h.lock.splitting;
    stable = λ free. each-restamped (λ e. ¬ IsUnstable e.held) (λ e. ¬ IsUnstable e.held) f n.slots (λ e. stable_stamped f e.held) (h.lock.stable free);
  };
  kind = h.kind;
  slots = slots_fit f n.level n.low n.high n.slots h.slots;
  children = h.children;
  reach = h.reach;
  chain = h.chain;
  rooted = h.rooted;
}

pair_so : (f : ℕ → ℕ) (k j : ℕ) (n m : NodeView) → IsPair k n j m → IsPair k (renumbered f n) j (renumbered f m)
pair_so f k j n m h = record { next = h.next; named = h.named; child = h.child; apart = h.apart }

nodes_so : (f : ℕ → ℕ) (nodes : List NodeView) → AreNodes nodes → AreNodes (all_renumbered f nodes)
nodes_so f nodes h = record {
  each = subst (λ count. (k : ℕ) → k < length (all_renumbered f nodes) → IsNode count (node_at (all_renumbered f nodes) k)) (sym (size-renumbered f nodes))
      (each (IsNode (length nodes)) (IsNode (length nodes)) f nodes (node_so f (length nodes)) h.each);
  pairs = both IsPair f nodes (pair_so f) h.pairs;
}

ranged_one : (f : ℕ → ℕ) (n : NodeView) → IsRanged n → IsRanged (renumbered f n)
ranged_one f n h = record { next = h.next; parent = h.parent; unmarked = h.unmarked; interior = h.interior; named = h.named; fits = h.fits }

tied_so : (f : ℕ → ℕ) (k j : ℕ) (n m : NodeView) → AreTied k n j m → AreTied k (renumbered f n) j (renumbered f m)
tied_so f k j n m h = record {
  next = h.next;
  left = λ e waits.
      let l = h.left e waits in
      record { live = l.live; range = l.range; marked = l.marked; tree = l.tree; level = l.level; holder = l.holder };
}

ranged_so : (f : ℕ → ℕ) (nodes : List NodeView) → AreRanged nodes → AreRanged (all_renumbered f nodes)
ranged_so f nodes h = record { each = each IsRanged IsRanged f nodes (ranged_one f) h.each; ties = both AreTied f nodes (tied_so f) h.ties }

home_so : (f : ℕ → ℕ) (k t : ℕ) (n : NodeView) (tree : Tree) → IsHome k n t tree → IsHome k (renumbered f n) t tree
home_so f k t n tree h = record {
  root_tree = h.root_tree;
  root_is = λ e standing.
      let r = h.root_is e standing in
      record { live = r.live; flag = r.flag; parentless = r.parentless; low = r.low; reach = r.reach };
  root_named = h.root_named;
  standing = h.standing;
  keys = λ e.
      let has = h.keys e in
      record {
        keys = keys-restamped f tree.prefix (layer_of tree.prefix) n.slots has.keys;
        begun = each-restamped (λ e. e.mark ≢ Short 0) (λ e. e.mark ≢ Short 0) f n.slots (λ e some. some) has.begun;
      };
}

-- a border node begins where it did
begins_so : (f : ℕ → ℕ) (nodes : List NodeView) (trees : List Tree) → AllBegin nodes trees → AllBegin (all_renumbered f nodes) trees
unfolding AllBegin
begins_so f nodes trees h = λ k lt.
    subst (λ (n : NodeView). BeginsAtKey (tree_at trees n.tree).prefix n) (sym (at-renumbered f nodes k)) (h k (omega (arith, lt, size-renumbered f nodes)))

forest_so : (f : ℕ → ℕ) (nodes : List NodeView) (trees : List Tree) → IsForest nodes trees → IsForest (all_renumbered f nodes) trees
forest_so f nodes trees h = record {
  tree_there = each (λ n. n.tree < length trees) (λ n. n.tree < length trees) f nodes (λ n lt. lt) h.tree_there;
  homes = λ k t lt lt_t. subst (λ n. IsHome k n t (tree_at trees t)) (sym (at-renumbered f nodes k))
      (home_so f k t (node_at nodes k) (tree_at trees t) (h.homes k t (omega (arith, lt, size-renumbered f nodes)) lt_t));
  each = λ t lt. subst (λ count. IsTree count (tree_at trees t)) (sym (size-renumbered f nodes)) (h.each t lt);
  begins = begins_so f nodes trees h.begins;
  emptied = λ k lt. subst (λ (n : NodeView). n.version.deleted ≡ true → n.slots ≡ []) (sym (at-renumbered f nodes k))
      (λ out. ap (all_restamped f) (h.emptied k (omega (arith, lt, size-renumbered f nodes)) out));
  peers = h.peers;
  top = h.top;
}

-- a slot holds a link where it did
slot-restamped : (f : ℕ → ℕ) (es : List Entry) (i : ℕ) (d : Entry) → d ≡ record { slice = 0; mark = Long; held = Link 0 } → slot_at (record no_node { slots = all_restamped f es }) i ≡ restamped f (slot_at (record no_node { slots = es }) i)
slot-restamped f [] i d is = refl
slot-restamped f (e ∷ es) zero d is = refl
slot-restamped f (e ∷ es) (suc i) d is = slot-restamped f es i d is

slot_so : (f : ℕ → ℕ) (n : NodeView) (i : ℕ) → slot_at (renumbered f n) i ≡ restamped f (slot_at n i)
slot_so f n i = slot-restamped f n.slots i _ refl

link_so : (f : ℕ → ℕ) (held : Held) (u : ℕ) → with_stamps f held ≡ Link u → held ≡ Link u
link_so f (Stable pair) u e = absurd (cc)
link_so f (Unstable pair tree) u e = absurd (cc)
link_so f (Link tree) u e = e

links_so : (f : ℕ → ℕ) (trees : List Tree) (n : NodeView) → AreLinks trees n → AreLinks trees (renumbered f n)
links_so f trees n h live i u inside is =
    let same = slot_so f n i in
    let l = h live i u (omega (arith, inside, length-restamped f n.slots)) (link_so f (slot_at n i).held u (sym (ap (λ (e : Entry). e.held) same) ∙ is)) in
    record { from = l.from; there = l.there; live = l.live; prefix = rw (ap (λ (e : Entry). e.slice) same) l.prefix }

has_so : (f : ℕ → ℕ) (nodes : List NodeView) (u : ℕ) → HasLink nodes u → HasLink (all_renumbered f nodes) u
has_so f nodes u h = record {
  node = h.node;
  slot = h.slot;
  there = omega (arith, h.there, size-renumbered f nodes);
  live = subst (λ (n : NodeView). n.version.deleted ≡ false) (sym (at-renumbered f nodes h.node)) h.live;
  in_range = subst (λ (n : NodeView). h.slot < length n.slots) (sym (at-renumbered f nodes h.node)) (omega (arith, h.in_range, length-restamped f (node_at nodes h.node).slots));
  is = subst (λ (n : NodeView). (slot_at n h.slot).held ≡ Link u) (sym (at-renumbered f nodes h.node))
      (ap (λ (e : Entry). e.held) (slot_so f (node_at nodes h.node) h.slot) ∙ ap (with_stamps f) h.is);
}

layers_so : (f : ℕ → ℕ) (nodes : List NodeView) (trees : List Tree) → AreLayered nodes trees → AreLayered (all_renumbered f nodes) trees
layers_so f nodes trees h = record {
  links = each (AreLinks trees) (AreLinks trees) f nodes (links_so f trees) h.links;
  linked = λ u lt live deep. has_so f nodes u (h.linked u lt live deep);
}

-- an arena is one still
pub arena_so : (f : ℕ → ℕ) (nodes : List NodeView) (trees : List Tree) → IsArena nodes trees → IsArena (all_renumbered f nodes) trees
arena_so f nodes trees h = record { nodes = nodes_so f nodes h.nodes; ranged = ranged_so f nodes h.ranged; forest = forest_so f nodes trees h.forest; layers = layers_so f nodes trees h.layers }

-- the list of idle nodes stands, since none changes its deleted mark or its level
listed_so : (idle : NodeView → Bool) (f : ℕ → ℕ) (nodes : List NodeView) (gone : List Retired) → ((n : NodeView) → idle (renumbered f n) ≡ idle n)
    → AreListed idle no_node nodes gone → AreListed idle no_node (all_renumbered f nodes) gone
listed_so idle f nodes gone same h = record {
  there = λ i lt. omega (arith, h.there i lt, size-renumbered f nodes);
  idle_there = λ i lt. ap idle (at-renumbered f nodes (place_of_idle gone i)) ∙ same (node_at nodes (place_of_idle gone i)) ∙ h.idle_there i lt;
  once = h.once;
  counted = count nodes ∙ h.counted;
}
  where
    count : (ns : List NodeView) → count_of idle (all_renumbered f ns) ≡ count_of idle ns
    count [] = refl
    count (n ∷ ns) = let first = ap one_if (same n) in let rest = count ns in omega (arith, first, rest)

retired_so : (f : ℕ → ℕ) (nodes : List NodeView) (trees : List Tree) (gone : RetiredPlaces) → AreRetired nodes trees gone → AreRetired (all_renumbered f nodes) trees gone
retired_so f nodes trees gone h = record {
  of_borders = listed_so is_idle_border f nodes gone.borders (λ n. refl) h.of_borders;
  of_interiors = listed_so is_idle_interior f nodes gone.interiors (λ n. refl) h.of_interiors;
  of_trees = h.of_trees;
}

-- with all that is kept inside, where one step took out all
pub sound_so : (step : ℕ) (f : ℕ → ℕ) (nodes : List NodeView) (trees : List Tree) (gone : RetiredPlaces) (room : Rooms) → ArenaInvariant nodes trees gone room
    → ArenaInvariant (all_renumbered f nodes) trees (all_out_at step gone) room
sound_so step f nodes trees gone room h = record {
  arena = arena_so f nodes trees h.arena;
  retired = retired_anew step (all_renumbered f nodes) trees gone (retired_so f nodes trees gone h.retired);
  named = named_anew step (all_renumbered f nodes) trees gone;
  enough = omega (arith, size-renumbered f nodes, h.enough);
  trees_enough = h.trees_enough;
}

-- the contents are the same but for the stamps
get-restamped : (f : ℕ → ℕ) (ps : Pairs) (q : ℕ × Bytes) → get (map_of (map (restamped_pair f) ps)) q ≡ option_map (restamped_row f) (get (map_of ps) q)
get-restamped f [] q = get-empty owned_cmp q ∙ ap (option_map (restamped_row f)) (sym (get-empty owned_cmp q))
get-restamped f (p ∷ ps) q =
    get-insert owned_total (map_of (map (restamped_pair f) ps)) p.0 (restamped_row f p.1) q
    ∙ by (get-restamped f ps q) (eq_by_cmp owned_cmp q p.0)
    ∙ ap (option_map (restamped_row f)) (sym (get-insert owned_total (map_of ps) p.0 p.1 q))
  where
    by : get (map_of (map (restamped_pair f) ps)) q ≡ option_map (restamped_row f) (get (map_of ps) q) → (b : Bool)
        → cond b (Some (restamped_row f p.1)) (get (map_of (map (restamped_pair f) ps)) q) ≡ option_map (restamped_row f) (cond b (Some p.1) (get (map_of ps) q))
    by rest true = refl
    by rest false = rest

live_pairs-renumbered : (f : ℕ → ℕ) (trees : List Tree) (n : NodeView) → live_pairs trees (renumbered f n) ≡ map (restamped_pair f) (live_pairs trees n)
live_pairs-renumbered f trees n = by (counts trees n)
  where
    by : (b : Bool) → cond b (filter_map (pair_in (tree_at trees n.tree).prefix) (all_restamped f n.slots)) [] ≡ map (restamped_pair f) (cond b (filter_map (pair_in (tree_at trees n.tree).prefix) n.slots) [])
    by true = pairs-restamped f (tree_at trees n.tree).prefix n.slots
    by false = refl

all_pairs : (f : ℕ → ℕ) (trees : List Tree) (nodes : List NodeView) → flat_map (live_pairs trees) (all_renumbered f nodes) ≡ map (restamped_pair f) (flat_map (live_pairs trees) nodes)
all_pairs f trees [] = refl
all_pairs f trees (n ∷ nodes) =
    (λ i. live_pairs-renumbered f trees n i ++ all_pairs f trees nodes i)
    ∙ sym (map-append (restamped_pair f) (live_pairs trees n) (flat_map (live_pairs trees) nodes))

pub content-renumbered : (f : ℕ → ℕ) (trees : List Tree) (nodes : List NodeView) → AreRestamped f (content trees nodes) (content trees (all_renumbered f nodes))
content-renumbered f trees nodes q =
    ap (λ c. get c q) (content-is trees (all_renumbered f nodes) ∙ ap map_of (all_pairs f trees nodes))
    ∙ get-restamped f (flat_map (live_pairs trees) nodes) q
    ∙ ap (λ c. option_map (restamped_row f) (get c q)) (sym (content-is trees nodes))
