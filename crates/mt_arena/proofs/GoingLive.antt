-- What the contents have where a slot becomes a link to the tree that was made for its key: for the law of that name.
use Rattle.std.proofs.Common.{◌≡◌, ◌≢◌, ℕ, zero, suc, ◌<◌, Bool, true, false, cond, List, [], ◌∷◌, length, get_or, set, Option, Some, None, sym, refl, ap, subst, ◌∙◌, inl, inr, arith}
use Rattle.std.proofs.{lemmas.Bool.cases_eq, lemmas.Option.none-some, lemmas.List.{length-set, get_or-set_same, get_or-set_other}}
use Rattle.std.proofs.lemmas.List.Elements.{All-from_get_or}
use Rattle.std.specs.{Prelude.filter_map, List.{flat_map, cons_option}, Ordering.eq_by_cmp, FinMap.{get, insert, get-empty, get-insert}}
use Rattle.mt_rows.{specs.{Rows.Bytes, Stamps.Stamped, Tenants.owned_cmp}, proofs.ContentLaws.{same_contents, owned_total}}
use Rattle.mt_border.specs.{Held.Pair, declared.entry.Entry.Entry, Entry.pair_of, Contents.{owned, pair_in, contents_of, AreKeys, row_of}}
use Rattle.mt_border.proofs.{Edits.any_entry, ContentsMaps.{at_owner, at_other}, ContentsKeys.{IsApart, owned_at, order_of_key}}
use Rattle.mt_border.proofs.{ContentsLists.{get-apart, get-other, insert-this}, ContentsFinds.apart_beside}
use Rattle.mt_arena.specs.{declared.tree.Tree.Tree, declared.tree.Standing.TheVariants.{Made, Live}, NodeView.{NodeView, node_at, no_node}}
use Rattle.mt_arena.specs.{Forests.{tree_at, no_tree}, Layers.slot_at, Contents.{live_pairs, content}, Arena.IsArena}
use Rattle.mt_arena.specs.Ways.{AreBegun, StandsFor, HasSlots, IsMadeFor}
use Rattle.mt_arena.proofs.{Joins.{Pairs, map_of, tied_owner, same_owner, only_at, agree_by}, Counted.{content-is, pairs-live, pairs-made, pairs-other, pairs-gone}}
use Rattle.mt_arena.proofs.Owners.{keys_of, others, found}

-- an entry without a pair of that owner stands for no other key's either
pairless : (prefix : Bytes) (q : ℕ × Bytes) (e : Entry) → pair_of e.held ≡ None → IsApart prefix q e
pairless prefix q e none pair is = absurd (none-some pair (sym none ∙ is))

-- one pair more before two maps that say the same of an owner
more : (o : Option ((ℕ × Bytes) × Stamped)) (ps qs : Pairs) (q : ℕ × Bytes) → get (map_of ps) q ≡ get (map_of qs) q
    → get (map_of (cons_option o ps)) q ≡ get (map_of (cons_option o qs)) q
more None ps qs q same = same
more (Some p) ps qs q same =
    get-insert owned_total (map_of ps) p.0 p.1 q ∙ ap (cond (eq_by_cmp owned_cmp q p.0) (Some p.1)) same ∙ sym (get-insert owned_total (map_of qs) p.0 p.1 q)

more_of : (prefix : Bytes) (e : Entry) (es new : List Entry) (q : ℕ × Bytes) → get (contents_of prefix es) q ≡ get (contents_of prefix new) q
    → get (contents_of prefix (e ∷ es)) q ≡ get (contents_of prefix (e ∷ new)) q
unfolding contents_of
more_of prefix e es new q same = more (pair_in prefix e) (filter_map (pair_in prefix) es) (filter_map (pair_in prefix) new) q same

-- an entry in the place of another one, both of other keys, leaves what is read
get-set : (prefix : Bytes) (q : ℕ × Bytes) (es : List Entry) (i : ℕ) (e : Entry) → i < length es → IsApart prefix q e
    → IsApart prefix q (get_or es i any_entry) → get (contents_of prefix (set es i e)) q ≡ get (contents_of prefix es) q
get-set prefix q [] i e within new old = absurd (omega arith)
get-set prefix q (x ∷ es) zero e within new old = get-other prefix q e es new ∙ sym (get-other prefix q x es old)
get-set prefix q (x ∷ es) (suc i) e within new old = more_of prefix x (set es i e) es q (get-set prefix q es i e (omega arith) new old)

module _ (nodes : List NodeView) (trees : List Tree) (arena : IsArena nodes trees) (begun : AreBegun nodes) (key : Bytes) (layer k i : ℕ) (pair : Pair) (at : StandsFor nodes trees key layer k i pair)
    (low t r : ℕ) (made : IsMadeFor nodes trees key low t r (row_of pair)) (tree : Tree) (prefix : tree.prefix ≡ (tree_at trees t).prefix) (standing : tree.standing ≡ Live)
    (y : NodeView) (e : Entry) (none : pair_of e.held ≡ None) (has : HasSlots (node_at nodes k) y (set (node_at nodes k).slots i e)) where
  abbrev n : NodeView
  n = node_at nodes k

  abbrev begins : Bytes
  begins = (tree_at trees n.tree).prefix

  abbrev are : List Tree
  are = set trees t tree

  abbrev new : List NodeView
  new = set nodes k y

  -- the made tree is another one than the node's
  tree_differs : n.tree ≢ t
  tree_differs same = let bad : Live ≡ Made made.maker = sym at.tree_live ∙ ap (λ u. (tree_at trees u).standing) same ∙ made.made in absurd (cc)

  node_differs : r ≢ k
  node_differs same = tree_differs (ap (λ l. (node_at nodes l).tree) (sym same) ∙ made.tree)

  tree_there : t < length trees
  tree_there = subst (λ u. u < length trees) made.tree (arena.forest.tree_there r made.there)

  tree_is : tree_at are t ≡ tree
  tree_is = get_or-set_same trees t tree no_tree tree_there

  new_k : node_at new k ≡ y
  new_k = get_or-set_same nodes k y no_node at.there

  new_l : (l : ℕ) → l ≢ k → node_at new l ≡ node_at nodes l
  new_l l differ = get_or-set_other nodes k l y no_node differ

  size : length new ≡ length nodes
  size = length-set nodes k y

  keys : AreKeys begins layer n.slots
  keys = keys_of nodes trees arena begun key layer k at.there at.has.of_tree

  -- the pairs of the node, before and after, and of the made tree's
  k_was : map_of (live_pairs trees n) ≡ contents_of begins n.slots
  k_was = pairs-live trees n at.live at.tree_live

  k_is : map_of (live_pairs are y) ≡ contents_of begins (set n.slots i e)
  k_is = ap map_of (pairs-other trees t tree y (λ same. tree_differs (sym has.tree ∙ same)))
      ∙ pairs-live trees y (has.deleted ∙ at.live) (ap (λ u. (tree_at trees u).standing) has.tree ∙ at.tree_live)
      ∙ (λ a. contents_of (tree_at trees (has.tree a)).prefix (has.slots a))

  r_was : live_pairs trees (node_at nodes r) ≡ []
  r_was = pairs-made trees (node_at nodes r) made.maker (ap (λ u. (tree_at trees u).standing) made.tree ∙ made.made)

  -- the made tree's record, as its node names it
  r_tree : tree_at are (node_at nodes r).tree ≡ tree
  r_tree = ap (tree_at are) made.tree ∙ tree_is

  r_prefix : (tree_at are (node_at nodes r).tree).prefix ≡ (tree_at trees t).prefix
  r_prefix = ap (λ (u : Tree). u.prefix) r_tree ∙ prefix

  r_is : map_of (live_pairs are (node_at nodes r)) ≡ insert (contents_of (tree_at trees t).prefix []) (owned key) (row_of made.pair)
  r_is =
      pairs-live are (node_at nodes r) made.live (ap (λ (u : Tree). u.standing) r_tree ∙ standing)
      ∙ (λ a. contents_of (r_prefix a) (made.slots a))
      ∙ insert-this (tree_at trees t).prefix (owned key) made.slot [] made.pair made.pair_is (owned_at (tree_at trees t).prefix low made.slot key made.pair made.has made.pair_is)

  empty_at : (q : ℕ × Bytes) → get (contents_of (tree_at trees t).prefix []) q ≡ None
  empty_at q = get-apart (tree_at trees t).prefix q [] (λ j d within. absurd (omega arith))

  -- any other node is of another tree
  others_same : (l : ℕ) → l < length nodes → l ≢ r → live_pairs are (node_at nodes l) ≡ live_pairs trees (node_at nodes l)
  others_same l lt differ = by (node_at nodes l).version.deleted refl
    where
      by : (d : _) → (node_at nodes l).version.deleted ≡ d → live_pairs are (node_at nodes l) ≡ live_pairs trees (node_at nodes l)
      by true out = pairs-gone are (node_at nodes l) out ∙ sym (pairs-gone trees (node_at nodes l) out)
      by false live = pairs-other trees t tree (node_at nodes l) (λ same. differ (made.alone l lt same live))

  -- the key's pair is in the made tree's node alone
  key_none : (l : ℕ) → l < length new → l ≢ r → get (map_of (live_pairs are (node_at new l))) (owned key) ≡ None
  key_none l lt not_r = elim (cases_eq l k) [
    | inl is_k ↦ ap (λ m. get (map_of (live_pairs are (node_at new m))) (owned key)) is_k ∙ ap (λ m. get (map_of (live_pairs are m)) (owned key)) new_k ∙ ap (λ c. get c (owned key)) k_is
        ∙ get-apart begins (owned key) (set n.slots i e) (All-from_get_or (IsApart begins (owned key)) (set n.slots i e) any_entry slots_apart)
    | inr not_k ↦ ap (λ m. get (map_of (live_pairs are m)) (owned key)) (new_l l not_k) ∙ ap (λ ps. get (map_of ps) (owned key)) (others_same l (omega (arith, size)) not_r)
        ∙ others nodes trees arena begun key layer k i pair at l (omega (arith, size)) not_k
  ]
    where
      slots_apart : (j : ℕ) → j < length (set n.slots i e) → IsApart begins (owned key) (get_or (set n.slots i e) j any_entry)
      slots_apart j inside = elim (cases_eq j i) [
        | inl is_i ↦ subst (λ m. IsApart begins (owned key) (get_or (set n.slots i e) m any_entry)) (sym is_i)
            (subst (IsApart begins (owned key)) (sym (get_or-set_same n.slots i e any_entry at.in_range)) (pairless begins (owned key) e none))
        | inr not_i ↦ let long = length-set n.slots i e in subst (IsApart begins (owned key)) (sym (get_or-set_other n.slots i j e any_entry not_i))
            (apart_beside begins layer n.slots key i (arena.nodes.each k at.there).slots.border keys at.has.of_tree at.in_range (order_of_key begins layer (slot_at n i) key at.has) j any_entry (omega (arith, long)) not_i)
      ]

  key_at_r : get (map_of (live_pairs are (node_at new r))) (owned key) ≡ Some (row_of pair)
  key_at_r =
      ap (λ m. get (map_of (live_pairs are m)) (owned key)) (new_l r node_differs) ∙ ap (λ c. get c (owned key)) r_is
      ∙ at_owner (contents_of (tree_at trees t).prefix []) (owned key) (row_of made.pair) ∙ ap Some made.row_is

  here : get (map_of (flat_map (live_pairs are) new)) (owned key) ≡ get (map_of (flat_map (live_pairs trees) nodes)) (owned key)
  here =
      only_at (live_pairs are) (owned key) no_node new r (omega (arith, size, made.there)) key_none ∙ key_at_r
      ∙ sym (ap (λ c. get c (owned key)) (sym (content-is trees nodes)) ∙ found nodes trees arena begun key layer k i pair at)

  -- and of other keys each node says what it said
  elsewhere : (q : ℕ × Bytes) → q ≢ owned key → (l : ℕ) → l < length new
      → get (map_of (live_pairs are (node_at new l))) q ≡ get (map_of (live_pairs trees (node_at nodes l))) q
  elsewhere q differ l lt = elim (cases_eq l k) [
    | inl is_k ↦ ap (λ m. get (map_of (live_pairs are (node_at new m))) q) is_k ∙ ap (λ m. get (map_of (live_pairs are m)) q) new_k ∙ ap (λ c. get c q) k_is
        ∙ get-set begins q n.slots i e at.in_range (pairless begins q e none) slot_apart
        ∙ sym (ap (λ m. get (map_of (live_pairs trees (node_at nodes m))) q) is_k ∙ ap (λ c. get c q) k_was)
    | inr not_k ↦ elim (cases_eq l r) [
      | inl is_r ↦ ap (λ m. get (map_of (live_pairs are m)) q) (new_l l not_k) ∙ ap (λ m. get (map_of (live_pairs are (node_at nodes m))) q) is_r ∙ ap (λ c. get c q) r_is
          ∙ at_other (contents_of (tree_at trees t).prefix []) (owned key) q (row_of made.pair) differ ∙ empty_at q
          ∙ sym (ap (λ m. get (map_of (live_pairs trees (node_at nodes m))) q) is_r ∙ ap (λ ps. get (map_of ps) q) r_was ∙ get-empty owned_cmp q)
      | inr not_r ↦ ap (λ m. get (map_of (live_pairs are m)) q) (new_l l not_k) ∙ ap (λ ps. get (map_of ps) q) (others_same l (omega (arith, size)) not_r)
    ]
  ]
    where
      slot_apart : IsApart begins q (slot_at n i)
      slot_apart p is same = differ (sym same ∙ owned_at begins layer (slot_at n i) key p at.has is)

  by_tie : (q : ℕ × Bytes) (b : Bool) → eq_by_cmp owned_cmp q (owned key) ≡ b
      → get (map_of (flat_map (live_pairs are) new)) q ≡ get (map_of (flat_map (live_pairs trees) nodes)) q
  by_tie q true tied = let one = tied_owner q (owned key) tied in
      ap (get (map_of (flat_map (live_pairs are) new))) one ∙ here ∙ ap (get (map_of (flat_map (live_pairs trees) nodes))) (sym one)
  by_tie q false apart = agree_by (live_pairs are) (live_pairs trees) q no_node new nodes size
      (elsewhere q (λ same. let bad : false ≡ true = sym apart ∙ ap (λ p. eq_by_cmp owned_cmp p (owned key)) same ∙ same_owner (owned key) in absurd (cc)))

  -- a slot that becomes a link, as its tree goes live, leaves the contents as they are
  pub layered : content are new ≡ content trees nodes
  layered = content-is are new ∙ same_contents _ _ (λ q. by_tie q (eq_by_cmp owned_cmp q (owned key)) refl) ∙ sym (content-is trees nodes)
