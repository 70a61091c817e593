-- A link at a key's slice and mark leads to the tree in which the key's way goes on: for the laws of descents.
use Rattle.std.proofs.{Common.{◌≡◌, ℕ, ◌+◌, ◌*◌, ◌<◌, ◌≤◌, List, ◌++◌, length, take, replicate, refl, sym, ap, subst, ◌∙◌, inl, inr, arith}, Math.Seq.take-add}
use Rattle.std.proofs.{lemmas.Bool.cases_lt, lemmas.List.{length-drop, take-append-le}}
use Rattle.std.specs.Int.{w64, to_be_bytes}
use Rattle.mt_slices.specs.{declared.mark.Mark.TheVariants.{Short, Long}, Keys.IsStoredKey, Slices.{rest_of, slice_of, mark_of}}
use Rattle.mt_slices.proofs.{Bytes.{AreBytes, bytes-drop}, Padding.slice_bytes}
use Rattle.mt_rows.specs.Rows.{Bytes}
use Rattle.mt_border.{specs.{Held.Link, Contents.IsOfTree}, proofs.Edits.any_entry}
use Rattle.mt_arena.specs.{declared.tree.Tree.Tree, NodeView.{NodeView, node_at}, Nodes.Holds, Forests.tree_at, Layers.{slot_at, LeadsTo}, Arena.IsArena}
use Rattle.mt_arena.specs.{Stands.{IsLiveBorder, StandsAt}, Ways.{BelongsIn, GoesOn}}
use Rattle.mt_arena.proofs.{Links.long_link, Elsewhere.mark_short}

-- a key with the long mark reaches below the next layer
pub long_below : (key : Bytes) (layer : ℕ) → mark_of key layer ≡ Long → 8 * (layer + 1) < length key
long_below key layer is =
    let size = length-drop (8 * layer) key in
    elim (cases_lt 8 (length (rest_of key layer))) [
      | inl below ↦ omega (arith, size, below)
      | inr short ↦ let bad : Short (length (rest_of key layer)) ≡ Long = sym (mark_short (length (rest_of key layer)) short) ∙ is in absurd (cc)
    ]

-- a prefix and the next slice are the prefix of the next layer
pub next_prefix : (prefix key : Bytes) (layer slice : ℕ) → AreBytes key → 8 * (layer + 1) ≤ length key → prefix ≡ take (8 * layer) key
    → slice ≡ slice_of key layer → prefix ++ to_be_bytes w64 slice ≡ take (8 * (layer + 1)) key
next_prefix prefix key layer slice bytes reaches begins is =
    let rest = rest_of key layer in
    let more : 8 * layer + 8 ≡ 8 * (layer + 1) = omega arith in
    (λ a. begins a ++ to_be_bytes w64 (is a))
    ∙ ap (λ xs. take (8 * layer) key ++ xs) (slice_bytes rest (bytes-drop (8 * layer) key bytes) ∙ take-append-le 8 rest (replicate 8 0) (omega (arith, length-drop (8 * layer) key, reaches)))
    ∙ sym (take-add (8 * layer) 8 key)
    ∙ ap (λ m. take m key) more

-- the tree of a link at the key's slice and mark is live, and the key is one of it
pub goes_on : (nodes : List NodeView) (trees : List Tree) (key : Bytes) (layer k i u : ℕ) → IsArena nodes trees → BelongsIn nodes trees key layer k
    → StandsAt nodes (node_at nodes k).tree (slice_of key layer) (mark_of key layer) k i → (slot_at (node_at nodes k) i).held ≡ Link u
    → GoesOn trees key (layer + 1) u
goes_on nodes trees key layer k i u arena in_k at link =
    let e = slot_at (node_at nodes k) i in
    let leads : LeadsTo trees (node_at nodes k) i u = arena.layers.links k at.border.there at.border.live i u at.in_range link in
    let mark = long_link e.mark e u ((arena.nodes.each k at.border.there).slots.border.each i any_entry at.in_range).held link in
    let below = long_below key layer (sym at.mark_is ∙ mark) in
    record {
      there = leads.there;
      live = leads.live;
      of_tree = record {
        stored = in_k.of_tree.stored;
        reaches = omega (arith, below);
        begins =
            leads.prefix ∙ next_prefix (tree_at trees (node_at nodes k).tree).prefix key layer e.slice in_k.of_tree.stored.are_bytes (omega (arith, below)) in_k.of_tree.begins at.slice_is;
      };
      begun = below;
    }

-- a key is one of the top tree
pub goes_on_top : (nodes : List NodeView) (trees : List Tree) (key : Bytes) → IsArena nodes trees → IsStoredKey key → GoesOn trees key 0 0
goes_on_top nodes trees key arena stored = record {
  there = arena.forest.top.there;
  live = arena.forest.top.live;
  of_tree = record { stored = stored; reaches = omega arith; begins = arena.forest.top.prefix };
  begun = omega (arith, stored.has_tenant);
}

-- where the descent ends, in the live border node that has the slice in its range, the key belongs
pub belongs_here : (nodes : List NodeView) (trees : List Tree) (key : Bytes) (layer u k : ℕ) → GoesOn trees key layer u → IsLiveBorder nodes u k
    → Holds (node_at nodes k) (slice_of key layer) → BelongsIn nodes trees key layer k
belongs_here nodes trees key layer u k goes border holds = record {
  border = record { there = border.there; live = border.live; level = border.level; tree_is = refl };
  tree_live = ap (λ t. (tree_at trees t).standing) border.tree_is ∙ goes.live;
  of_tree = subst (λ t. IsOfTree (tree_at trees t).prefix layer key) (sym border.tree_is) goes.of_tree;
  begun = goes.begun;
  holds = holds;
}
