-- The entry of a key in the next layer is one of the tree that a longer key's slot leads to: for the laws of making a layer.
use Rattle.std.proofs.{Common.{◌≡◌, ◌≢◌, ℕ, zero, suc, ◌+◌, ◌*◌, ◌<◌, [], ◌∷◌, length, get_or, refl, sym, subst, ◌∙◌, arith}, lemmas.List.length-append}
use Rattle.std.specs.Int.{w64, to_be_bytes}
use Rattle.mt_slices.specs.declared.mark.Mark.TheVariants.{Short}
use Rattle.mt_rows.specs.Rows.{Bytes, Columns}
use Rattle.mt_border.{specs.{declared.entry.Entry.Entry, Held.Pair, Contents.{HasKey, IsOfTree}}, proofs.ContentsKeys.{new_has_key, is_mark_of, is_rest_of}}
use Rattle.mt_arena.specs.{Layers.slot_at, Forests.layer_of, Arena.{ArenaView, IsArena}, Accesses.{at, tree_of}}
use Rattle.mt_arena.specs.Layering.{MayMakeLayer, MayUnsettle, HasKeyAt, entry_of, prefix_below}
use Rattle.mt_arena.proofs.{Down.{long_below, next_prefix}, Slots.begun_mark, NoLayer.link_would_be_here}

-- what is alone is all
pub only : {X : Type 0} (P : X → Type 0) (x d : X) (k : ℕ) → k < 1 → P x → P (get_or (x ∷ []) k d)
only P x d zero lt one = one
only P x d (suc k) lt one = absurd (omega arith)

module _ (v : ArenaView) (node i op : ℕ) (pair : Pair) (key : Bytes) (row : Columns) (stamp : ℕ) (arena : IsArena v.nodes v.trees) (may : MayUnsettle v node i op pair) (has : HasKeyAt v node i key) where
  abbrev above : Bytes
  above = (tree_of v node).prefix

  abbrev layer : ℕ
  layer = layer_of above

  abbrev prefix : Bytes
  prefix = prefix_below v node i

  abbrev e : Entry
  e = entry_of key (layer + 1) row stamp

  ln : node < length v.nodes
  ln = may.held.there

  whole_above : 8 * layer ≡ length above
  whole_above = (arena.forest.each (at v node).tree (arena.forest.tree_there node ln)).whole

  long : length prefix ≡ length above + 8
  long =
      let eight : length (to_be_bytes w64 (slot_at (at v node) i).slice) ≡ 8 = refl in omega (arith, length-append above (to_be_bytes w64 (slot_at (at v node) i).slice), eight)

  layer_is : layer_of prefix ≡ layer + 1
  layer_is = omega (arith, long, whole_above)

  below : 8 * (layer + 1) < length key
  below = long_below key layer (sym has.mark ∙ may.long)

  of_tree : IsOfTree prefix (layer + 1) key
  of_tree = record {
    stored = has.of_tree.stored;
    reaches = omega (arith, below);
    begins = next_prefix above key layer (slot_at (at v node) i).slice has.of_tree.stored.are_bytes (omega (arith, below)) has.of_tree.begins has.slice;
  }

  pub has_below : HasKey prefix (layer_of prefix) e key
  has_below = subst (λ l. HasKey prefix l e key) (sym layer_is) (new_has_key prefix (layer + 1) key row stamp of_tree)

  pub may_make : MayMakeLayer v prefix e
  may_make = record {
    prefix_is = record {
      whole = omega (arith, long, whole_above, layer_is);
      fresh = λ u lu live same. link_would_be_here v.nodes v.trees (at v node).tree (slot_at (at v node) i).slice node i arena may.tree_live (record {
        border = record { there = ln; live = may.live; level = may.border; tree_is = refl };
        in_range = may.in_range;
        slice_is = refl;
        mark_is = may.long;
      }) (λ w is. absurd (let both = sym may.is ∙ is in cc)) u live same;
    };
    entry = record { mark = is_mark_of key (layer + 1); held = is_rest_of key (layer + 1) };
    stable = tt;
    keys = record {
      keys = λ k d lt. only (λ d. (key : Bytes) × HasKey prefix (layer_of prefix) d key) e d k lt (key, has_below);
      begun = λ k d lt. only (λ (d : Entry). d.mark ≢ Short 0) e d k lt (begun_mark key (layer + 1) below);
    };
  }
