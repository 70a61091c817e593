-- A stored key of its tree goes on with the slice at which a next node begins.
use Rattle.std.proofs.Common.{◌≡◌, ℕ, ◌<◌, ◌≤◌, false, length, Some, sym, subst}
use Rattle.mt_slices.{specs.Fences.least_from, proofs.Short.short}
use Rattle.mt_arena.{specs.{Forests.{HasSlice, tree_at, layer_of}, Arena.{ArenaView, IsArena}, Accesses.at}, proofs.NextBegins.next_begins}
use Rattle.mt_rows.specs.Rows.{Bytes}

-- the least such key may be stored
least_fits : (prefix : Bytes) (slice : ℕ) → HasSlice prefix slice → (4 ≤ length (least_from prefix slice)) × (length (least_from prefix slice) ≤ 255)
least_fits prefix slice h =
    subst (λ m. (4 ≤ length (least_from prefix m)) × (length (least_from prefix m) ≤ 255)) (sym h.is)
    (short h.key prefix (layer_of prefix) h.of_tree.stored h.of_tree.reaches h.of_tree.begins)

pub next_key_fits : (v : ArenaView) (tree k x : ℕ) → IsArena v.nodes v.trees → k < length v.nodes → (at v k).tree ≡ tree → (at v k).version.deleted ≡ false → (at v k).level ≡ 0
    → (at v k).next ≡ Some x → (4 ≤ length (least_from (tree_at v.trees tree).prefix (at v x).low))
    × (length (least_from (tree_at v.trees tree).prefix (at v x).low) ≤ 255)
next_key_fits v tree k x arena there tree_is live border next =
    let begins = (next_begins v.nodes v.trees k arena there live border x next).1 in
    least_fits (tree_at v.trees tree).prefix (at v x).low (subst (λ t. HasSlice (tree_at v.trees t).prefix (at v x).low) tree_is begins)
