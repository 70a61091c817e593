-- Which changes of nodes and trees leave the contents as they are: for the clause `contents` of most calls, and for the laws.
use Rattle.std.proofs.Common.{◌≡◌, ℕ, zero, suc, ◌<◌, List, [], ◌∷◌, ◌++◌, length, get_or, set, Option, None, refl, sym, ap, ◌∙◌, inl, inr, arith}
use Rattle.std.proofs.{lemmas.Bool.cases_eq, lemmas.List.{append-nil, get_or_append_left, get_or-set_same, get_or-set_other}}
use Rattle.std.proofs.lemmas.List.Concat.{flat_map-append}
use Rattle.std.specs.{Prelude.{filter_map, if◌then◌else◌, false, true, ◌⊎◌}, List.{flat_map, cons_option, remove}, Option.option_map}
use Rattle.mt_rows.specs.{Rows.Bytes, Stamps.Stamped}
use Rattle.mt_border.{specs.{Held.{Pair, Held, Link}, declared.entry.Entry.Entry, Entry.pair_of, Contents.{owned, key_at, pair_in, row_of}}, proofs.Edits.any_entry}
use Rattle.mt_arena.specs.{declared.tree.Tree.Tree, NodeView.{NodeView, node_at, no_node}, Forests.{tree_at, no_tree}, Layers.slot_at}
use Rattle.mt_arena.specs.{Contents.{is_live, live_pairs, content}, Arena.IsArena, Ways.HasSlots}
use Rattle.mt_arena.proofs.{Joins.map_of, Counted.{content-is, pairs-nil, pairs-gone, pairs-other}}

-- lists of which one place changes, and of which each place has the same
module _ {X Y : Type 0} (d : X) where
  flat_set : (f : X → List Y) (xs : List X) (i : ℕ) (y : X) → f y ≡ f (get_or xs i d) → flat_map f (set xs i y) ≡ flat_map f xs
  flat_set f [] i y same = refl
  flat_set f (x ∷ xs) zero y same = ap (λ ps. ps ++ flat_map f xs) same
  flat_set f (x ∷ xs) (suc i) y same = ap (λ ps. f x ++ ps) (flat_set f xs i y same)

  flat_agree : (f g : X → List Y) (xs : List X) → ((k : ℕ) → k < length xs → f (get_or xs k d) ≡ g (get_or xs k d)) → flat_map f xs ≡ flat_map g xs
  flat_agree f g [] same = refl
  flat_agree f g (x ∷ xs) same = (λ a. same 0 (omega arith) a ++ flat_agree f g xs (λ k lt. same (suc k) (omega arith)) a)

-- a change of a node that leaves its pairs
pub content-set : (trees : List Tree) (nodes : List NodeView) (i : ℕ) (y : NodeView) → live_pairs trees y ≡ live_pairs trees (node_at nodes i)
    → content trees (set nodes i y) ≡ content trees nodes
content-set trees nodes i y same =
    content-is trees (set nodes i y) ∙ ap map_of (flat_set no_node (live_pairs trees) nodes i y same) ∙ sym (content-is trees nodes)

-- a node that changes but for its slots, whether it is deleted, and its tree
pub stands_unchanged : (trees : List Tree) (nodes : List NodeView) (i : ℕ) (y : NodeView) → HasSlots (node_at nodes i) y (node_at nodes i).slots
    → content trees (set nodes i y) ≡ content trees nodes
stands_unchanged trees nodes i y same = content-set trees nodes i y
    (λ a. if (if same.deleted a then false else is_live (tree_at trees (same.tree a)).standing) then filter_map (pair_in (tree_at trees (same.tree a)).prefix) (same.slots a) else [])

-- a node without slots, whatever becomes of it
pub stands_without_slots : (trees : List Tree) (nodes : List NodeView) (i : ℕ) (y : NodeView) → (node_at nodes i).slots ≡ [] → y.slots ≡ []
    → content trees (set nodes i y) ≡ content trees nodes
stands_without_slots trees nodes i y were are = content-set trees nodes i y (pairs-nil trees y are ∙ sym (pairs-nil trees (node_at nodes i) were))

-- one more node of which no pair counts
pub content-pushed : (trees : List Tree) (nodes : List NodeView) (y : NodeView) → live_pairs trees y ≡ [] → content trees (nodes ++ y ∷ []) ≡ content trees nodes
content-pushed trees nodes y none =
    content-is trees (nodes ++ y ∷ [])
    ∙ ap map_of (flat_map-append (live_pairs trees) nodes (y ∷ []) ∙ ap (λ ps. flat_map (live_pairs trees) nodes ++ (ps ++ [])) none ∙ append-nil (flat_map (live_pairs trees) nodes))
    ∙ sym (content-is trees nodes)

-- one more node without slots
pub stands_pushed : (trees : List Tree) (nodes : List NodeView) (y : NodeView) → y.slots ≡ [] → content trees (nodes ++ y ∷ []) ≡ content trees nodes
stands_pushed trees nodes y none = content-pushed trees nodes y (pairs-nil trees y none)

-- other trees, of which each node has the same pairs
pub content-agree : (are were : List Tree) (nodes : List NodeView) → ((k : ℕ) → k < length nodes → live_pairs are (node_at nodes k) ≡ live_pairs were (node_at nodes k))
    → content are nodes ≡ content were nodes
content-agree are were nodes same = content-is are nodes ∙ ap map_of (flat_agree no_node (live_pairs are) (live_pairs were) nodes same) ∙ sym (content-is were nodes)

-- trees of which those that nodes name have the same prefix and standing
pub stands_of_trees : (were are : List Tree) (nodes : List NodeView)
    → ((k : ℕ) → k < length nodes → (tree_at are (node_at nodes k).tree).prefix ≡ (tree_at were (node_at nodes k).tree).prefix)
    → ((k : ℕ) → k < length nodes → (tree_at are (node_at nodes k).tree).standing ≡ (tree_at were (node_at nodes k).tree).standing)
    → content are nodes ≡ content were nodes
stands_of_trees were are nodes prefixes standings =
    content-is are nodes
    ∙ ap map_of (flat_agree no_node (live_pairs are) (live_pairs were) nodes (λ k lt a.
    if (if (node_at nodes k).version.deleted then false else is_live (standings k lt a)) then filter_map (pair_in (prefixes k lt a)) (node_at nodes k).slots else []))
    ∙ sym (content-is were nodes)

-- one more tree
pub stands_tree_pushed : (trees : List Tree) (nodes : List NodeView) (tree : Tree) → IsArena nodes trees
    → content (trees ++ tree ∷ []) nodes ≡ content trees nodes
stands_tree_pushed trees nodes tree arena =
    let same : (k : ℕ) → k < length nodes → tree_at (trees ++ tree ∷ []) (node_at nodes k).tree ≡ tree_at trees (node_at nodes k).tree =
    λ k lt. get_or_append_left trees (tree ∷ []) no_tree (node_at nodes k).tree (arena.forest.tree_there k lt) in
    stands_of_trees trees (trees ++ tree ∷ []) nodes (λ k lt. ap (λ (t : Tree). t.prefix) (same k lt)) (λ k lt. ap (λ (t : Tree). t.standing) (same k lt))

-- a tree with another root
pub stands_tree_set : (trees : List Tree) (nodes : List NodeView) (t : ℕ) (tree : Tree) → t < length trees → tree.prefix ≡ (tree_at trees t).prefix
    → tree.standing ≡ (tree_at trees t).standing → content (set trees t tree) nodes ≡ content trees nodes
stands_tree_set trees nodes t tree there prefix standing =
    stands_of_trees trees (set trees t tree) nodes (λ k lt. by (λ (u : Tree). u.prefix) prefix (node_at nodes k).tree) (λ k lt. by (λ (u : Tree). u.standing) standing (node_at nodes k).tree)
  where
    by : {A : Type 0} (f : Tree → A) → f tree ≡ f (tree_at trees t) → (u : ℕ) → f (tree_at (set trees t tree) u) ≡ f (tree_at trees u)
    by f same u = elim (cases_eq u t) [
      | inl is ↦ ap (λ v. f (tree_at (set trees t tree) v)) is ∙ ap f (get_or-set_same trees t tree no_tree there) ∙ same ∙ ap (λ v. f (tree_at trees v)) (sym is)
      | inr differ ↦ ap f (get_or-set_other trees t u tree no_tree differ)
    ]

-- an entry with the same pair in the place of one, and one without a pair taken out
module _ (h : Entry → Option ((ℕ × Bytes) × Stamped)) where
  filter_map-set : (es : List Entry) (i : ℕ) (e : Entry) → h e ≡ h (get_or es i any_entry) → filter_map h (set es i e) ≡ filter_map h es
  filter_map-set [] i e same = refl
  filter_map-set (x ∷ es) zero e same = ap (λ o. cons_option o (filter_map h es)) same
  filter_map-set (x ∷ es) (suc i) e same = ap (cons_option (h x)) (filter_map-set es i e same)

  filter_map-remove : (es : List Entry) (i : ℕ) → h (get_or es i any_entry) ≡ None → filter_map h (remove es i) ≡ filter_map h es
  filter_map-remove [] zero none = refl
  filter_map-remove [] (suc i) none = refl
  filter_map-remove (x ∷ es) zero none = ap (λ o. cons_option o (filter_map h es)) (sym none)
  filter_map-remove (x ∷ es) (suc i) none = ap (cons_option (h x)) (filter_map-remove es i none)

-- a node whose new slots have the same pairs
pub stands_same_pairs : (trees : List Tree) (nodes : List NodeView) (k : ℕ) (y : NodeView) (entries : List Entry) → HasSlots (node_at nodes k) y entries
    → filter_map (pair_in (tree_at trees (node_at nodes k).tree).prefix) entries ≡ filter_map (pair_in (tree_at trees (node_at nodes k).tree).prefix) (node_at nodes k).slots
    → content trees (set nodes k y) ≡ content trees nodes
stands_same_pairs trees nodes k y entries has same = content-set trees nodes k y
    ((λ a. if (if has.deleted a then false else is_live (tree_at trees (has.tree a)).standing) then filter_map (pair_in (tree_at trees (has.tree a)).prefix) (has.slots a) else [])
    ∙ ap (λ ps. if (if (node_at nodes k).version.deleted then false else is_live (tree_at trees (node_at nodes k).tree).standing) then ps else []) same)

-- a slot that holds the same pair otherwise
pub stands_held : (trees : List Tree) (nodes : List NodeView) (k i : ℕ) (y : NodeView) (held : Held)
    → pair_of held ≡ pair_of (slot_at (node_at nodes k) i).held
    → HasSlots (node_at nodes k) y (set (node_at nodes k).slots i (record (slot_at (node_at nodes k) i) { held = held }))
    → content trees (set nodes k y) ≡ content trees nodes
stands_held trees nodes k i y held same has =
    let n = node_at nodes k in
    let begins = (tree_at trees n.tree).prefix in
    stands_same_pairs trees nodes k y _ has (filter_map-set (pair_in begins) n.slots i (record (slot_at n i) { held = held })
    (ap (option_map (λ (p : Pair). (owned (key_at begins (slot_at n i) p), row_of p))) same))

-- a link that is taken out
pub stands_unlinked : (trees : List Tree) (nodes : List NodeView) (k i u : ℕ) (y : NodeView) → (slot_at (node_at nodes k) i).held ≡ Link u
    → HasSlots (node_at nodes k) y (remove (node_at nodes k).slots i) → content trees (set nodes k y) ≡ content trees nodes
stands_unlinked trees nodes k i u y link has =
    let n = node_at nodes k in
    let begins = (tree_at trees n.tree).prefix in
    stands_same_pairs trees nodes k y _ has (filter_map-remove (pair_in begins) n.slots i (ap (λ held. option_map (λ (p : Pair). (owned (key_at begins (slot_at n i) p), row_of p)) (pair_of held)) link))

-- a tree whose nodes are deleted or have no slots, whatever becomes of it
pub stands_tree_left : (trees : List Tree) (nodes : List NodeView) (t : ℕ) (tree : Tree)
    → ((l : ℕ) → l < length nodes → (node_at nodes l).tree ≡ t → ((node_at nodes l).version.deleted ≡ true) ⊎ ((node_at nodes l).slots ≡ []))
    → content (set trees t tree) nodes ≡ content trees nodes
stands_tree_left trees nodes t tree left =
    content-is (set trees t tree) nodes
    ∙ ap map_of (flat_agree no_node (live_pairs (set trees t tree)) (live_pairs trees) nodes (λ l lt. elim (cases_eq (node_at nodes l).tree t) [
      | inl is ↦ elim (left l lt is) [
        | inl gone ↦ pairs-gone (set trees t tree) (node_at nodes l) gone ∙ sym (pairs-gone trees (node_at nodes l) gone)
        | inr none ↦ pairs-nil (set trees t tree) (node_at nodes l) none ∙ sym (pairs-nil trees (node_at nodes l) none)
      ]
      | inr differ ↦ pairs-other trees t tree (node_at nodes l) differ
    ]))
    ∙ sym (content-is trees nodes)
