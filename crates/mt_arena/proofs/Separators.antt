-- The slice at which the keys of a node and one more are parted is that of a stored key of their tree: for the calls of `begin_split`,
-- also in the crates above.
use Rattle.std.proofs.{Common.{ℕ, ◌<◌, List, ◌∷◌, length, take, drop, sym, ap, subst, arith}, lemmas.List.{length-map, get_or-map}}
use Rattle.std.proofs.lemmas.List.Elements.{All-append, All-cons, All-take, All-drop}
use Rattle.std.specs.List.{All, insert}
use Rattle.mt_slices.specs.Slices.{slice_of, mark_of}
use Rattle.mt_rows.specs.Rows.{Bytes}
use Rattle.mt_border.specs.{declared.entry.Entry.Entry, Entry.order_at, Entries.{slices, place_in}, Split.{IsSeparator, slices_with}}
use Rattle.mt_border.specs.Contents.{AreKeys, IsOfTree}
use Rattle.mt_border.proofs.Edits.{any_entry}
use Rattle.mt_arena.specs.{declared.tree.Tree.Tree, NodeView.{NodeView, node_at}, Forests.{IsForest, HasSlice, layer_of, tree_at}}
use Rattle.mt_arena.proofs.{Elsewhere.layer_is, Steps.keys_of}

-- what holds of all numbers of a list and of one more
All-insert : (P : ℕ → Type 0) (xs : List ℕ) (at x : ℕ) → All P xs → P x → All P (insert xs at x)
All-insert P xs at x all one = All-append P (take at xs) (x ∷ drop at xs) (All-take P at xs all) (All-cons P x (drop at xs) one (All-drop P at xs all))

-- a key of the tree has its slice there
own_slice : (prefix key : Bytes) (layer : ℕ) → IsOfTree prefix layer key → HasSlice prefix (slice_of key layer)
own_slice prefix key layer of_tree =
    let here = layer_is prefix key layer of_tree in
    record { key = key; of_tree = subst (λ l. IsOfTree prefix l key) (sym here) of_tree; is = ap (slice_of key) (sym here) }

-- and so has each entry that stands for one
slices_begin : (prefix : Bytes) (es : List Entry) → AreKeys prefix (layer_of prefix) es → All (HasSlice prefix) (slices es)
slices_begin prefix es keys k d lt =
    let inside : k < length es = omega (arith, lt, length-map es (λ (e : Entry). e.slice)) in
    let own = keys k any_entry inside in
    subst (HasSlice prefix) (sym (get_or-map (λ (e : Entry). e.slice) es k any_entry d inside)) (record { key = own.0; of_tree = own.1.of_tree; is = own.1.slice })

-- so has the separator of a node's keys and one more
pub separator_begins : (nodes : List NodeView) (trees : List Tree) (k : ℕ) (key : Bytes) (layer low : ℕ) → IsForest nodes trees → k < length nodes
    → IsOfTree (tree_at trees (node_at nodes k).tree).prefix layer key
    → IsSeparator (slices_with (node_at nodes k).slots (slice_of key layer) (mark_of key layer)) low
    → HasSlice (tree_at trees (node_at nodes k).tree).prefix low
separator_begins nodes trees k key layer low forest there of_tree separator =
    let prefix = (tree_at trees (node_at nodes k).tree).prefix in
    let es = (node_at nodes k).slots in
    let slice = slice_of key layer in
    let all = slices_begin prefix es (keys_of nodes trees k there forest).keys in
    let own = own_slice prefix key layer of_tree in
    let sixteen = All-insert (HasSlice prefix) (slices es) (place_in es (order_at slice (mark_of key layer))) slice all own in
    subst (HasSlice prefix) (sym separator.is) (sixteen separator.cut 0 separator.is_cut.boundary.in_range)
