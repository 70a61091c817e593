-- What the contents have where the slots of one node are parted among two: for `Halving` and the laws.
use Rattle.std.proofs.Common.{◌≡◌, ◌≢◌, ℕ, suc, ◌+◌, ◌<◌, ◌≤◌, Bool, true, false, cond, List, [], ◌∷◌, ◌++◌, length, get_or, set, Option, Some, None, sym, refl, ap, subst, ◌∙◌, inl, inr, arith, length-append}
use Rattle.std.proofs.{lemmas.Bool.cases_eq, lemmas.Option.none-some}
use Rattle.std.proofs.lemmas.List.{length-set, get_or-set_same, get_or-set_other, get_or_append_left, get_or-append-add}
use Rattle.std.proofs.lemmas.List.Elements.{filter_map-append, All-from_get_or}
use Rattle.std.specs.{Prelude.filter_map, List.{All, flat_map, cons_option}, Option.{option_map, option_or}, Ordering.eq_by_cmp}
use Rattle.std.specs.FinMap.{get, insert, get-empty, get-insert}
use Rattle.mt_slices.specs.Slices.{slice_of}
use Rattle.mt_rows.{specs.{Rows.Bytes, Stamps.Stamped, Tenants.owned_cmp}, proofs.ContentLaws.{same_contents, owned_total}}
use Rattle.mt_border.specs.{Held.Pair, declared.entry.Entry.Entry, Entry.pair_of, Entries.{IsMissing, with_entry}, Split.IsParted}
use Rattle.mt_border.specs.Contents.{owned, key_at, pair_in, contents_of, HasKey, AreKeys, row_of}
use Rattle.mt_border.proofs.{Edits.any_entry, ContentsKeys.{IsApart, owned_at, owned_once, missing_key}, ContentsLists.get-apart}
use Rattle.mt_border.proofs.ContentsEdits.{each-publish, keys-publish}
use Rattle.mt_arena.specs.{declared.tree.Tree.Tree, declared.tree.Standing.TheVariants.Live, NodeView.{NodeView, node_at, no_node}, Forests.tree_at}
use Rattle.mt_arena.specs.{Contents.{live_pairs, content}, Arena.IsArena, Ways.{AreBegun, BelongsIn, StandsFor, HasSlots, IsUnfilled}}
use Rattle.mt_arena.proofs.Joins.{map_of, tied_owner, get-append, or_none, or_none_right, only_at, agree_by}
use Rattle.mt_arena.proofs.{Counted.{HasNone, content-is, contents_of-is, pairs-live, pairs-nil}, Owners.{keys_of, nodes_missing, others, published}}
use Rattle.mt_arena.proofs.ContentQuiet.{stands_unchanged}

-- what holds of each of two joined lists
All-left : (P : Entry → Type 0) (xs ys : List Entry) → All P (xs ++ ys) → All P xs
All-left P xs ys all k d lt = subst P (get_or_append_left xs ys d k lt) (all k d (omega (arith, length-append xs ys)))

All-right : (P : Entry → Type 0) (xs ys : List Entry) → All P (xs ++ ys) → All P ys
All-right P xs ys all k d lt = subst P (get_or-append-add xs ys k d) (all (length xs + k) d (omega (arith, length-append xs ys)))

-- an owner that is in the map of some entries is that of one of them
record Owns (prefix : Bytes) (es : List Entry) (q : ℕ × Bytes) : Type 0 where
  place : ℕ
  within : place < length es
  pair : Pair
  is : pair_of (get_or es place any_entry).held ≡ Some pair
  owner : owned (key_at prefix (get_or es place any_entry) pair) ≡ q

owns_later : (prefix : Bytes) (e : Entry) (es : List Entry) (q : ℕ × Bytes) → Owns prefix es q → Owns prefix (e ∷ es) q
owns_later prefix e es q o = record { place = suc o.place; within = omega (arith, o.within); pair = o.pair; is = o.is; owner = o.owner }

-- of one entry more, by what it holds
module _ (prefix : Bytes) (e : Entry) (es : List Entry) (q : ℕ × Bytes) (row : Stamped) (rest : get (map_of (filter_map (pair_in prefix) es)) q ≡ Some row → Owns prefix es q) where
  owns_here : (pair : Pair) → pair_of e.held ≡ Some pair → (b : Bool) → eq_by_cmp owned_cmp q (owned (key_at prefix e pair)) ≡ b
      → cond b (Some (row_of pair)) (get (map_of (filter_map (pair_in prefix) es)) q) ≡ Some row → Owns prefix (e ∷ es) q
  owns_here pair is true tied said = record { place = 0; within = omega arith; pair = pair; is = is; owner = sym (tied_owner q (owned (key_at prefix e pair)) tied) }
  owns_here pair is false apart said = owns_later prefix e es q (rest said)

  owns_by : (o : Option Pair) → pair_of e.held ≡ o
      → get (map_of (cons_option (option_map (λ (pair : Pair). (owned (key_at prefix e pair), row_of pair)) o) (filter_map (pair_in prefix) es))) q ≡ Some row
      → Owns prefix (e ∷ es) q
  owns_by None is said = owns_later prefix e es q (rest said)
  owns_by (Some pair) is said = owns_here pair is (eq_by_cmp owned_cmp q (owned (key_at prefix e pair))) refl
      (sym (get-insert owned_total (map_of (filter_map (pair_in prefix) es)) (owned (key_at prefix e pair)) (row_of pair) q) ∙ said)

owns : (prefix : Bytes) (es : List Entry) (q : ℕ × Bytes) (row : Stamped) → get (map_of (filter_map (pair_in prefix) es)) q ≡ Some row → Owns prefix es q
owns prefix [] q row some = absurd (none-some row (sym (get-empty owned_cmp q) ∙ some))
owns prefix (e ∷ es) q row some = owns_by prefix e es q row (owns prefix es q row) (pair_of e.held) refl some

-- the pairs of a node in two nodes
module _ (trees : List Tree) (nodes : List NodeView) (k j : ℕ) (x y z : NodeView) (differ : k ≢ j) (there : k < length nodes) (also : j < length nodes)
    (whole : (q : ℕ × Bytes) → get (map_of (live_pairs trees z)) q ≡ option_or (get (map_of (live_pairs trees x)) q) (get (map_of (live_pairs trees y)) q))
    (empty : (q : ℕ × Bytes) → HasNone trees nodes q j)
    (left_none : (q : ℕ × Bytes) (row : Stamped) → get (map_of (live_pairs trees y)) q ≡ Some row → get (map_of (live_pairs trees x)) q ≡ None)
    (others_none : (q : ℕ × Bytes) (row : Stamped) → get (map_of (live_pairs trees y)) q ≡ Some row → (l : ℕ) → l < length nodes → l ≢ k → HasNone trees nodes q l) where
  abbrev two : List NodeView
  two = set (set nodes k x) j y

  abbrev one : List NodeView
  one = set nodes k z

  abbrev at : (ℕ × Bytes) → NodeView → Option Stamped
  at q n = get (map_of (live_pairs trees n)) q

  two_j : node_at two j ≡ y
  two_j = let size = length-set nodes k x in get_or-set_same (set nodes k x) j y no_node (omega (arith, size))

  two_k : node_at two k ≡ x
  two_k = get_or-set_other (set nodes k x) j k y no_node differ ∙ get_or-set_same nodes k x no_node there

  two_l : (l : ℕ) → l ≢ k → l ≢ j → node_at two l ≡ node_at nodes l
  two_l l not_k not_j = get_or-set_other (set nodes k x) j l y no_node not_j ∙ get_or-set_other nodes k l x no_node not_k

  one_k : node_at one k ≡ z
  one_k = get_or-set_same nodes k z no_node there

  one_l : (l : ℕ) → l ≢ k → node_at one l ≡ node_at nodes l
  one_l l not_k = get_or-set_other nodes k l z no_node not_k

  long : length two ≡ length one
  long = length-set (set nodes k x) j y ∙ length-set nodes k x ∙ sym (length-set nodes k z)

  size : length one ≡ length nodes
  size = length-set nodes k z

  -- where the second half has nothing, each node says the same
  without : (q : ℕ × Bytes) → at q y ≡ None → (l : ℕ) → at q (node_at two l) ≡ at q (node_at one l)
  without q none l = elim (cases_eq l j) [
    | inl is_j ↦ ap (λ m. at q (node_at two m)) is_j ∙ ap (at q) two_j ∙ none ∙ sym (empty q) ∙ sym (ap (at q) (one_l j (λ same. differ (sym same)))) ∙ ap (λ m. at q (node_at one m)) (sym is_j)
    | inr not_j ↦ elim (cases_eq l k) [
      | inl is_k ↦ ap (λ m. at q (node_at two m)) is_k ∙ ap (at q) two_k ∙ sym (whole q ∙ ap (option_or (at q x)) none ∙ or_none_right (at q x)) ∙ sym (ap (at q) one_k) ∙ ap (λ m. at q (node_at one m)) (sym is_k)
      | inr not_k ↦ ap (at q) (two_l l not_k not_j ∙ sym (one_l l not_k))
    ]
  ]

  -- where it has something, no other node has
  two_none : (q : ℕ × Bytes) (row : Stamped) → at q y ≡ Some row → (l : ℕ) → l < length two → l ≢ j → at q (node_at two l) ≡ None
  two_none q row some l lt not_j = elim (cases_eq l k) [
    | inl is_k ↦ ap (λ m. at q (node_at two m)) is_k ∙ ap (at q) two_k ∙ left_none q row some
    | inr not_k ↦ ap (at q) (two_l l not_k not_j) ∙ others_none q row some l (omega (arith, long, size)) not_k
  ]

  one_none : (q : ℕ × Bytes) (row : Stamped) → at q y ≡ Some row → (l : ℕ) → l < length one → l ≢ k → at q (node_at one l) ≡ None
  one_none q row some l lt not_k = ap (at q) (one_l l not_k) ∙ others_none q row some l (omega (arith, size)) not_k

  parted_at : (q : ℕ × Bytes) (o : Option Stamped) → at q y ≡ o
      → get (map_of (flat_map (live_pairs trees) two)) q ≡ get (map_of (flat_map (live_pairs trees) one)) q
  parted_at q None none = agree_by (live_pairs trees) (live_pairs trees) q no_node two one long (λ l lt. without q none l)
  parted_at q (Some row) some =
      only_at (live_pairs trees) q no_node two j (omega (arith, long, size)) (two_none q row some)
      ∙ ap (at q) two_j
      ∙ sym (only_at (live_pairs trees) q no_node one k (omega (arith, size)) (one_none q row some) ∙ ap (at q) one_k ∙ whole q ∙ or_none (at q x) (at q y) (left_none q row some))

  pub parted : content trees two ≡ content trees one
  parted = content-is trees two ∙ same_contents _ _ (λ q. parted_at q (at q y) refl) ∙ sym (content-is trees one)

-- a node whose slots are parted, where no other node has the owner of any of them
module _ (nodes : List NodeView) (trees : List Tree) (layer k j : ℕ) (within : k < length nodes) (live : (node_at nodes k).version.deleted ≡ false) (tree_live : (tree_at trees (node_at nodes k).tree).standing ≡ Live) (half : IsUnfilled nodes k j) where
  abbrev parted_one : NodeView
  parted_one = node_at nodes k

  abbrev bytes : Bytes
  bytes = (tree_at trees parted_one.tree).prefix

  -- the owner of an entry is in no other node
  abbrev IsAlone : Entry → Type 0
  IsAlone d = (p : Pair) → pair_of d.held ≡ Some p → (l : ℕ) → l < length nodes → l ≢ k → HasNone trees nodes (owned (key_at bytes d p)) l

  module _ (x y : NodeView) (left right : List Entry) (separator : ℕ) (all_keys : AreKeys bytes layer (left ++ right)) (all_alone : All IsAlone (left ++ right)) (below : All (λ e. e.slice < separator) left) (above : All (λ e. separator ≤ e.slice) right)
      (first : HasSlots parted_one x left) (second : HasSlots (node_at nodes j) y right) where
    abbrev joined_one : NodeView
    joined_one = record parted_one { slots = left ++ right }

    -- the pairs of the three nodes
    x_is : map_of (live_pairs trees x) ≡ map_of (filter_map (pair_in bytes) left)
    x_is = pairs-live trees x (first.deleted ∙ live) (ap (λ t. (tree_at trees t).standing) first.tree ∙ tree_live)
        ∙ (λ a. contents_of (tree_at trees (first.tree a)).prefix (first.slots a)) ∙ contents_of-is bytes left

    y_is : map_of (live_pairs trees y) ≡ map_of (filter_map (pair_in bytes) right)
    y_is = pairs-live trees y (second.deleted ∙ half.live) (ap (λ t. (tree_at trees t).standing) (second.tree ∙ half.tree) ∙ tree_live)
        ∙ (λ a. contents_of (tree_at trees ((second.tree ∙ half.tree) a)).prefix (second.slots a)) ∙ contents_of-is bytes right

    z_is : map_of (live_pairs trees joined_one) ≡ map_of (filter_map (pair_in bytes) left ++ filter_map (pair_in bytes) right)
    z_is = pairs-live trees joined_one live tree_live ∙ contents_of-is bytes (left ++ right) ∙ ap map_of (filter_map-append (pair_in bytes) left right)

    whole : (q : ℕ × Bytes)
        → get (map_of (live_pairs trees joined_one)) q ≡ option_or (get (map_of (live_pairs trees x)) q) (get (map_of (live_pairs trees y)) q)
    whole q =
        ap (λ c. get c q) z_is ∙ get-append (filter_map (pair_in bytes) left) (filter_map (pair_in bytes) right) q ∙ (λ a. option_or (get (sym x_is a) q) (get (sym y_is a) q))

    empty : (q : ℕ × Bytes) → HasNone trees nodes q j
    empty q = ap (λ ps. get (map_of ps) q) (pairs-nil trees (node_at nodes j) half.empty) ∙ get-empty owned_cmp q

    right_owns : (q : ℕ × Bytes) (row : Stamped) → get (map_of (live_pairs trees y)) q ≡ Some row → Owns bytes right q
    right_owns q row some = owns bytes right q row (ap (λ c. get c q) (sym y_is) ∙ some)

    -- entries of the left half have other slices, and so other owners
    left_apart : (q : ℕ × Bytes) → Owns bytes right q → All (IsApart bytes q) left
    left_apart q o = All-from_get_or (IsApart bytes q) left any_entry (λ i inside p some same.
        let this = All-left (λ d. (k : Bytes) × HasKey bytes layer d k) left right all_keys i any_entry inside in
        let that = All-right (λ d. (k : Bytes) × HasKey bytes layer d k) left right all_keys o.place any_entry o.within in
        let one : this.0 ≡ that.0 = owned_once this.0 that.0 this.1.of_tree.stored that.1.of_tree.stored
        (sym (owned_at bytes layer (get_or left i any_entry) this.0 p this.1 some) ∙ same ∙ sym o.owner ∙ owned_at bytes layer (get_or right o.place any_entry) that.0 o.pair that.1 o.is) in
        let slices : (get_or left i any_entry).slice ≡ (get_or right o.place any_entry).slice = this.1.slice ∙ ap (λ k. slice_of k layer) one ∙ sym that.1.slice in
        omega (arith, slices, below i any_entry inside, above o.place any_entry o.within))

    left_none : (q : ℕ × Bytes) (row : Stamped) → get (map_of (live_pairs trees y)) q ≡ Some row → get (map_of (live_pairs trees x)) q ≡ None
    left_none q row some = ap (λ c. get c q) (x_is ∙ sym (contents_of-is bytes left)) ∙ get-apart bytes q left (left_apart q (right_owns q row some))

    others_none : (q : ℕ × Bytes) (row : Stamped) → get (map_of (live_pairs trees y)) q ≡ Some row → (l : ℕ) → l < length nodes → l ≢ k
        → HasNone trees nodes q l
    others_none q row some l lt differ =
        let o = right_owns q row some in
        subst (λ r. HasNone trees nodes r l) o.owner (All-right IsAlone left right all_alone o.place any_entry o.within o.pair o.is l lt differ)

    -- to part the slots is for the contents as if they stood in one node
    pub as_one : content trees (set (set nodes k x) j y) ≡ content trees (set nodes k joined_one)
    as_one = parted trees nodes k j x y joined_one half.other within half.there whole empty left_none others_none

-- a node of a live tree that is parted
module _ (nodes : List NodeView) (trees : List Tree) (arena : IsArena nodes trees) (begun : AreBegun nodes) (layer k j : ℕ) (within : k < length nodes) (live : (node_at nodes k).version.deleted ≡ false)
    (tree_live : (tree_at trees (node_at nodes k).tree).standing ≡ Live) (half : IsUnfilled nodes k j) (keys : AreKeys (tree_at trees (node_at nodes k).tree).prefix layer (node_at nodes k).slots) where
  abbrev was : NodeView
  was = node_at nodes k

  abbrev start : Bytes
  start = (tree_at trees was.tree).prefix

  old_alone : All (IsAlone nodes trees layer k j within live tree_live half) was.slots
  old_alone = All-from_get_or (IsAlone nodes trees layer k j within live tree_live half) was.slots any_entry (λ i inside p some l lt differ.
      let own = keys i any_entry inside in
      let at : StandsFor nodes trees own.0 layer k i p = record { there = within; live = live; tree_live = tree_live; in_range = inside; has = own.1; pair_is = some } in
      subst (λ q. HasNone trees nodes q l) (sym (owned_at start layer (get_or was.slots i any_entry) own.0 p own.1 some)) (others nodes trees arena begun own.0 layer k i p at l lt differ))

  module _ (x y : NodeView) (left right : List Entry) (separator : ℕ) (first : HasSlots was x left) (second : HasSlots (node_at nodes j) y right) where
    -- without a new key the contents stay
    pub parted_as_were : IsParted was.slots left right separator → content trees (set (set nodes k x) j y) ≡ content trees nodes
    parted_as_were parts =
        as_one nodes trees layer k j within live tree_live half x y left right separator (subst (AreKeys start layer) (sym parts.joined) keys) (subst (All (IsAlone nodes trees layer k j within live tree_live half)) (sym parts.joined) old_alone) parts.below parts.above first second
        ∙ stands_unchanged trees nodes k (record was { slots = left ++ right }) (record { slots = parts.joined; deleted = refl; tree = refl })

-- a node that is parted and has one key more
module _ (nodes : List NodeView) (trees : List Tree) (arena : IsArena nodes trees) (begun : AreBegun nodes) (key : Bytes) (layer k j : ℕ) (in_k : BelongsIn nodes trees key layer k) (half : IsUnfilled nodes k j) where
  abbrev n : NodeView
  n = node_at nodes k

  abbrev begins : Bytes
  begins = (tree_at trees n.tree).prefix

  module _ (x y : NodeView) (left right : List Entry) (separator : ℕ) (e : Entry) (pair : Pair) (has : HasKey begins layer e key) (missing : IsMissing n.slots e.slice e.mark) (is : pair_of e.held ≡ Some pair)
      (parts : IsParted (with_entry n.slots e) left right separator) (first : HasSlots n x left) (second : HasSlots (node_at nodes j) y right) where
    abbrev z : NodeView
    z = record n { slots = left ++ right }

    keys : AreKeys begins layer n.slots
    keys = keys_of nodes trees arena begun key layer k in_k.border.there in_k.of_tree

    abbrev IsOnly : Entry → Type 0
    IsOnly = IsAlone nodes trees layer k j in_k.border.there in_k.border.live in_k.tree_live half

    new_alone : IsOnly e
    new_alone p some l lt differ =
        subst (λ q. HasNone trees nodes q l) (sym (owned_at begins layer e key p has some))
        (nodes_missing nodes trees arena begun key layer k in_k (missing_key begins layer n.slots e key has missing) l lt)

    -- to part a node with the key's entry in one of the halves inserts its pair
    pub halved : content trees (set (set nodes k x) j y) ≡ insert (content trees nodes) (owned key) (row_of pair)
    halved =
        as_one nodes trees layer k j in_k.border.there in_k.border.live in_k.tree_live half x y left right separator
        (subst (AreKeys begins layer) (sym parts.joined) (keys-publish begins layer n.slots e key keys has))
        (subst (All IsOnly) (sym parts.joined) (each-publish IsOnly n.slots e (old_alone nodes trees arena begun layer k j in_k.border.there in_k.border.live in_k.tree_live half keys) new_alone))
        parts.below parts.above first second
        ∙ published nodes trees arena begun key layer k in_k z e pair has missing is (record { slots = parts.joined; deleted = refl; tree = refl })
