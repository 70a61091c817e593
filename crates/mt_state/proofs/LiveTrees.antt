-- Each pair in a slot of a tree that nobody is making stands for a key: for a get that loads.
use Rattle.std.proofs.Common.{◌≡◌, ◌≢◌, ℕ, ◌<◌, length, Some, refl, Bool, true, false, List, ap, arith}
use Rattle.mt_rows.specs.Rows.{Bytes}
use Rattle.mt_border.{specs.{Held.Pair, Entry.pair_of, declared.entry.Entry.Entry}, proofs.Edits.any_entry}
use Rattle.mt_arena.specs.{declared.tree.Standing.Standing, declared.tree.Standing.TheVariants.{Made, Live, Dead}, Forests.layer_of, Layers.slot_at}
use Rattle.mt_arena.specs.{Arena.{ArenaView, IsArena}, Accesses.{at, tree_of}, Ways.StandsFor}
use Rattle.mt_state.specs.Invariant.{DeletedAreEmpty}

-- a tree is live, where it is neither being made nor dead
still_live : (standing : Standing) → ((q : ℕ) → standing ≢ Made q) → standing ≢ Dead → standing ≡ Live
still_live (Made q) unmade alive = absurd (unmade q refl)
still_live Live unmade alive = refl
still_live Dead unmade alive = absurd (alive refl)

-- a node that has a slot is live
pub slot_lives : (v : ArenaView) → DeletedAreEmpty v → (k : ℕ) → k < length v.nodes → (i : ℕ) → i < length (at v k).slots
    → (at v k).version.deleted ≡ false
slot_lives v deleted k there i within = by (at v k).version.deleted refl
  where
    by : (b : Bool) → (at v k).version.deleted ≡ b → b ≡ false
    by false e = refl
    by true e = absurd (let none = ap (λ (s : List Entry). length s) (deleted k there e) in omega (arith, within, none))

module _ (v : ArenaView) (arena : IsArena v.nodes v.trees) (deleted : DeletedAreEmpty v) (k : ℕ) (there : k < length v.nodes) (unmade : (q : ℕ) → (tree_of v k).standing ≢ Made q) where
  -- where the node is live its tree is
  pub live_tree : (at v k).version.deleted ≡ false → (tree_of v k).standing ≡ Live
  live_tree live =
      still_live (tree_of v k).standing unmade ((arena.forest.homes k (at v k).tree there (arena.forest.tree_there k there)).standing refl live)

  -- a slot of it stands for a key
  pub slot_key : (i : ℕ) (pair : Pair) → i < length (at v k).slots → pair_of (slot_at (at v k) i).held ≡ Some pair
      → (key : Bytes) × StandsFor v.nodes v.trees key (layer_of (tree_of v k).prefix) k i pair
  slot_key i pair within is =
      let keys = ((arena.forest.homes k (at v k).tree there (arena.forest.tree_there k there)).keys refl).keys in
      let key = keys i any_entry within in
      let live = slot_lives v deleted k there i within in
      (key.0, record { there = there; live = live; tree_live = live_tree live; in_range = within; has = key.1; pair_is = is })
