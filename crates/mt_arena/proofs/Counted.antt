-- What one node adds to the contents, and what a change of that node makes of them: for `Owners` and `ContentQuiet`.
use Rattle.std.proofs.Common.{◌≡◌, ◌≢◌, ℕ, suc, ◌+◌, ◌<◌, Bool, true, false, List, [], ◌∷◌, ◌++◌, length, get_or, set, take, drop, drop-cons, Option, Some, None, sym, refl, ap, subst, ◌∙◌, arith, take-append-drop}
use Rattle.std.proofs.{lemmas.List.{length-drop, get_or-drop, get_or-set_other}, lemmas.List.Elements.{All-from_get_or, filter_map-append}}
use Rattle.std.specs.{Prelude.{filter_map, if◌then◌else◌, cond}, List.{All, flat_map, cons_option, remove as remove_at_place}, Option.option_map}
use Rattle.std.specs.{Ordering.eq_by_cmp, FinMap.{get, insert, remove, get-empty, get-insert, get-remove}}
use Rattle.mt_slices.specs.Slices.{slice_of, mark_of}
use Rattle.mt_rows.{specs.{Rows.Bytes, Stamps.Stamped, Tenants.{owned_cmp, Contents}}, proofs.ContentLaws.{same_contents, owned_total}}
use Rattle.mt_border.specs.{Held.Pair, declared.entry.Entry.Entry, Entry.{pair_of, order_at, order_of}, Entries.IsBorder}
use Rattle.mt_border.specs.Contents.{owned, key_at, pair_in, contents_of, HasKey, AreKeys, IsOfTree, row_of}
use Rattle.mt_border.proofs.{Edits.any_entry, ContentsKeys.{IsApart, owned_at, owned_once}, ContentsLists.get-apart, ContentsFinds.apart_beside}
use Rattle.mt_arena.specs.{declared.tree.Tree.Tree, declared.tree.Standing.Standing, declared.tree.Standing.TheVariants.{Made, Live, Dead}}
use Rattle.mt_arena.specs.{NodeView.{NodeView, node_at, no_node}, Forests.{tree_at, no_tree, layer_of}, Layers.slot_at, Contents.{is_live, live_pairs, content}}
use Rattle.mt_arena.specs.{Arena.IsArena, Ways.{StandsFor, HasSlots}}
use Rattle.mt_arena.proofs.Joins.{Pairs, map_of, all_none, some_at, insert_at, remove_at, remove-second, tied_owner}

-- the contents as the map of a list
pub content-is : (trees : List Tree) (nodes : List NodeView) → content trees nodes ≡ map_of (flat_map (live_pairs trees) nodes)
unfolding content
content-is trees nodes = refl

-- the map of a border node's entries is that of their pairs
pub contents_of-is : (prefix : Bytes) (entries : List Entry) → contents_of prefix entries ≡ map_of (filter_map (pair_in prefix) entries)
unfolding contents_of
contents_of-is prefix entries = refl

-- a node's pairs, by whether it is deleted and how its tree stands
abbrev counted : Bool → Standing → Pairs → Pairs
counted deleted standing ps = if (if deleted then false else is_live standing) then ps else []

counted-live : (deleted : Bool) (standing : Standing) (ps : Pairs) → deleted ≡ false → standing ≡ Live → counted deleted standing ps ≡ ps
counted-live true standing ps live tree = absurd (cc)
counted-live false (Made by) ps live tree = absurd (cc)
counted-live false Live ps live tree = refl
counted-live false Dead ps live tree = absurd (cc)

counted-none : (deleted : Bool) (standing : Standing) (ps : Pairs) (q : ℕ × Bytes) → (deleted ≡ false → standing ≡ Live → get (map_of ps) q ≡ None)
    → get (map_of (counted deleted standing ps)) q ≡ None
counted-none true standing ps q none = get-empty owned_cmp q
counted-none false (Made by) ps q none = get-empty owned_cmp q
counted-none false Live ps q none = none refl refl
counted-none false Dead ps q none = get-empty owned_cmp q

counted-nil : (deleted : Bool) (standing : Standing) → counted deleted standing [] ≡ []
counted-nil true standing = refl
counted-nil false (Made by) = refl
counted-nil false Live = refl
counted-nil false Dead = refl

-- the pairs of a live node of a live tree
pub pairs-live : (trees : List Tree) (n : NodeView) → n.version.deleted ≡ false → (tree_at trees n.tree).standing ≡ Live
    → map_of (live_pairs trees n) ≡ contents_of (tree_at trees n.tree).prefix n.slots
pairs-live trees n live tree =
    ap map_of (counted-live n.version.deleted (tree_at trees n.tree).standing _ live tree) ∙ sym (contents_of-is (tree_at trees n.tree).prefix n.slots)

-- a node without slots has none
pub pairs-nil : (trees : List Tree) (n : NodeView) → n.slots ≡ [] → live_pairs trees n ≡ []
pairs-nil trees n none =
    ap (λ es. counted n.version.deleted (tree_at trees n.tree).standing (filter_map (pair_in (tree_at trees n.tree).prefix) es)) none ∙ counted-nil n.version.deleted (tree_at trees n.tree).standing

-- nor has a deleted one
pub pairs-gone : (trees : List Tree) (n : NodeView) → n.version.deleted ≡ true → live_pairs trees n ≡ []
pairs-gone trees n gone = ap (λ b. counted b (tree_at trees n.tree).standing (filter_map (pair_in (tree_at trees n.tree).prefix) n.slots)) gone

-- nor has a node of a tree that is being made
pub pairs-made : (trees : List Tree) (n : NodeView) (maker : ℕ) → (tree_at trees n.tree).standing ≡ Made maker → live_pairs trees n ≡ []
pairs-made trees n maker made = ap (λ s. counted n.version.deleted s (filter_map (pair_in (tree_at trees n.tree).prefix) n.slots)) made ∙ by n.version.deleted
  where
    by : (b : Bool) → counted b (Made maker) (filter_map (pair_in (tree_at trees n.tree).prefix) n.slots) ≡ []
    by true = refl
    by false = refl

-- what becomes of one tree leaves the pairs of another's nodes
pub pairs-other : (trees : List Tree) (t : ℕ) (tree : Tree) (n : NodeView) → n.tree ≢ t → live_pairs (set trees t tree) n ≡ live_pairs trees n
pairs-other trees t tree n differ =
    ap (λ (u : Tree). counted n.version.deleted u.standing (filter_map (pair_in u.prefix) n.slots)) (get_or-set_other trees t n.tree tree no_tree differ)

-- nor does what becomes of all trees but its own
pub pairs-of_tree : (are were : List Tree) (n : NodeView) → tree_at are n.tree ≡ tree_at were n.tree → live_pairs are n ≡ live_pairs were n
pairs-of_tree are were n same = ap (λ (u : Tree). counted n.version.deleted u.standing (filter_map (pair_in u.prefix) n.slots)) same

-- the entry of one place taken out of a list, behind and before entries of other keys
remove_again : (c : Contents) (q : ℕ × Bytes) (row : Stamped) → get c q ≡ None → c ≡ remove (insert c q row) q
remove_again c q row none = same_contents _ _ (λ r. sym (
    get-remove owned_total (insert c q row) q r
    ∙ ap (cond (eq_by_cmp owned_cmp r q) None) (get-insert owned_total c q row r)
    ∙ by (eq_by_cmp owned_cmp r q) (get c r) (λ tied. ap (get c) (tied_owner r q tied) ∙ none)))
  where
    by : (b : Bool) (x : Option Stamped) → (b ≡ true → x ≡ None) → cond b None (cond b (Some row) x) ≡ x
    by true x none = sym (none refl)
    by false x none = refl

-- without an entry whose key no other entry has, the map loses that key
pub contents-remove : (prefix : Bytes) (q : ℕ × Bytes) (es : List Entry) (at : ℕ) (pair : Pair) → at < length es
    → pair_of (get_or es at any_entry).held ≡ Some pair → owned (key_at prefix (get_or es at any_entry) pair) ≡ q
    → All (IsApart prefix q) (take at es) → All (IsApart prefix q) (drop (suc at) es)
    → contents_of prefix (remove_at_place es at) ≡ remove (contents_of prefix es) q
contents-remove prefix q es at pair within is here before behind =
    let front = filter_map (pair_in prefix) (take at es) in
    let back = filter_map (pair_in prefix) (drop (suc at) es) in
    let e = get_or es at any_entry in
    let paired : pair_in prefix e ≡ Some (q, row_of pair) = ap (option_map (λ (p : Pair). (owned (key_at prefix e p), row_of p))) is ∙ ap (λ (k : ℕ × Bytes). Some (k, row_of pair)) here in
    let split : es ≡ take at es ++ e ∷ drop (suc at) es = sym (take-append-drop at es) ∙ ap (λ rest. take at es ++ rest) (drop-cons es at any_entry within) in
    let listed : filter_map (pair_in prefix) es ≡ front ++ (q, row_of pair) ∷ back =
    ap (filter_map (pair_in prefix)) split ∙ filter_map-append (pair_in prefix) (take at es) (e ∷ drop (suc at) es) ∙ ap (λ o. front ++ cons_option o back) paired in
    let none_front : get (map_of front) q ≡ None = ap (λ c. get c q) (sym (contents_of-is prefix (take at es))) ∙ get-apart prefix q (take at es) before in
    let none_back : get (map_of back) q ≡ None = ap (λ c. get c q) (sym (contents_of-is prefix (drop (suc at) es))) ∙ get-apart prefix q (drop (suc at) es) behind in
    contents_of-is prefix (remove_at_place es at)
    ∙ ap map_of (filter_map-append (pair_in prefix) (take at es) (drop (suc at) es))
    ∙ remove-second front ((q, row_of pair) ∷ back) back q none_front (remove_again (map_of back) q (row_of pair) none_back)
    ∙ ap (λ c. remove c q) (sym (contents_of-is prefix es ∙ ap map_of listed))

-- the other entries of a border than the key's stand for other keys
pub apart_behind : (prefix : Bytes) (layer : ℕ) (es : List Entry) (key : Bytes) (slot : ℕ) → IsBorder es → AreKeys prefix layer es
    → IsOfTree prefix layer key → slot < length es → order_of (get_or es slot any_entry) ≡ order_at (slice_of key layer) (mark_of key layer)
    → All (IsApart prefix (owned key)) (drop (suc slot) es)
apart_behind prefix layer es key slot border keys of_tree live place k d inside =
    let size = length-drop (suc slot) es in
    subst (IsApart prefix (owned key)) (sym (get_or-drop (suc slot) es k d)) (apart_beside prefix layer es key slot border keys of_tree live place (suc slot + k) d (omega (arith, size, inside)) (omega arith))

-- where one node changes
module _ (trees : List Tree) (nodes : List NodeView) (q : ℕ × Bytes) where
  -- it has no pair of that owner
  abbrev pub HasNone : ℕ → Type 0
  HasNone k = get (map_of (live_pairs trees (node_at nodes k))) q ≡ None

  -- where no node has the key, the contents have none
  pub content-none : ((k : ℕ) → k < length nodes → HasNone k) → get (content trees nodes) q ≡ None
  content-none none = ap (λ c. get c q) (content-is trees nodes) ∙ all_none (live_pairs trees) q no_node nodes none

  module _ (i : ℕ) (there : i < length nodes) (live : (node_at nodes i).version.deleted ≡ false) (tree_live : (tree_at trees (node_at nodes i).tree).standing ≡ Live)
      (none : (k : ℕ) → k < length nodes → k ≢ i → HasNone k) where
    abbrev prefix : Bytes
    prefix = (tree_at trees (node_at nodes i).tree).prefix

    here : map_of (live_pairs trees (node_at nodes i)) ≡ contents_of prefix (node_at nodes i).slots
    here = pairs-live trees (node_at nodes i) live tree_live

    pub content-some : (row : Stamped) → get (contents_of prefix (node_at nodes i).slots) q ≡ Some row → get (content trees nodes) q ≡ Some row
    content-some row some =
        ap (λ c. get c q) (content-is trees nodes) ∙ some_at (live_pairs trees) q no_node nodes i row there none (ap (λ c. get c q) here ∙ some)

    module _ (y : NodeView) (entries : List Entry) (has : HasSlots (node_at nodes i) y entries) where
      changed : map_of (live_pairs trees y) ≡ contents_of prefix entries
      changed =
          pairs-live trees y (has.deleted ∙ live) (ap (λ t. (tree_at trees t).standing) has.tree ∙ tree_live)
          ∙ (λ a. contents_of (tree_at trees (has.tree a)).prefix (has.slots a))

      pub content-insert : (row : Stamped) → contents_of prefix entries ≡ insert (contents_of prefix (node_at nodes i).slots) q row
          → content trees (set nodes i y) ≡ insert (content trees nodes) q row
      content-insert row is =
          content-is trees (set nodes i y)
          ∙ insert_at (live_pairs trees) q no_node nodes i y row there none (changed ∙ is ∙ ap (λ c. insert c q row) (sym here))
          ∙ ap (λ c. insert c q row) (sym (content-is trees nodes))

      pub content-remove : contents_of prefix entries ≡ remove (contents_of prefix (node_at nodes i).slots) q
          → content trees (set nodes i y) ≡ remove (content trees nodes) q
      content-remove is =
          content-is trees (set nodes i y)
          ∙ remove_at (live_pairs trees) q no_node nodes i y there none (changed ∙ is ∙ ap (λ c. remove c q) (sym here))
          ∙ ap (λ c. remove c q) (sym (content-is trees nodes))

-- a node in which no slot stands for the key has no pair of its owner
module _ (nodes : List NodeView) (trees : List Tree) (arena : IsArena nodes trees) (top : Bytes) (low : ℕ) (key : Bytes) (of_tree : IsOfTree top low key)
    (k : ℕ) (there : k < length nodes) (no : (layer j : ℕ) (pair : Pair) → StandsFor nodes trees key layer k j pair → ⊥) where
  abbrev n : NodeView
  n = node_at nodes k

  abbrev begins : Bytes
  begins = (tree_at trees n.tree).prefix

  apart : n.version.deleted ≡ false → (tree_at trees n.tree).standing ≡ Live → (j : ℕ) → j < length n.slots → IsApart begins (owned key) (slot_at n j)
  apart live tree_live j inside pair is same =
      let has = ((arena.forest.homes k n.tree there (arena.forest.tree_there k there)).keys refl).keys j any_entry inside in
      let one : has.0 ≡ key = owned_once has.0 key has.1.of_tree.stored of_tree.stored (sym (owned_at begins (layer_of begins) (slot_at n j) has.0 pair has.1 is) ∙ same) in
      no (layer_of begins) j pair (record {
        there = there;
        live = live;
        tree_live = tree_live;
        in_range = inside;
        has = subst (HasKey begins (layer_of begins) (slot_at n j)) one has.1;
        pair_is = is;
      })

  -- a node in whose slots the key is missing has none
  pub none_at : HasNone trees nodes (owned key) k
  none_at = counted-none n.version.deleted (tree_at trees n.tree).standing _ (owned key) (λ live tree_live.
      ap (λ c. get c (owned key)) (sym (contents_of-is begins n.slots))
      ∙ get-apart begins (owned key) n.slots (All-from_get_or (IsApart begins (owned key)) n.slots any_entry (λ j inside. apart live tree_live j inside)))
