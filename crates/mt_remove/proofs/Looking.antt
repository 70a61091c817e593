-- What a removal finds in the border node that it holds, and what it makes ready of that: for `judge`.
use Rattle.std.{proofs.Common.{◌≡◌, ℕ, List, Option, Some, None, IsSomeAnd, refl, subst}, specs.FinMap.get}
use Rattle.mt_slices.specs.Slices.{suffix_of}
use Rattle.mt_rows.specs.Rows.{Bytes}
use Rattle.mt_border.specs.{declared.border.Border.{Border as BorderNode}, declared.entry.Entry.Entry, Held.Pair}
use Rattle.mt_border.specs.{declared.entry.FoundKind.TheVariants.{ThisKey, OtherLong}, Entry.pair_of, Node.entry_at, Contents.owned}
use Rattle.mt_arena.specs.{NodeView.{NodeView, place_at, border_view}, Layers.slot_at, Arena.{ArenaView, IsArena, content_of}, Accesses.at}
use Rattle.mt_operation.specs.declared.walk.Walk.{Walk}
use Rattle.mt_descent.{specs.KeptWalks.IsInSlot, proofs.Looks.no_other}
use Rattle.mt_held.specs.Holds.{HoldsBorder}

-- some pair is one
some_pair : (pair : Option Pair) (P : Pair → Type 0) → IsSomeAnd pair P → (p : Pair) × (pair ≡ Some p)
some_pair None P some = absurd some
some_pair (Some p) P some = (p, refl)

-- a border node's slot that has the key has a pair
pub pair_there : (n : NodeView) (b : BorderNode) (tree level : ℕ) (reach holder : Option ℕ) (slot : ℕ) (key : Bytes) (layer : ℕ) → n ≡ border_view b tree level reach holder → IsInSlot n slot key layer ThisKey
    → (pair : Pair) × (pair_of (entry_at b slot).held ≡ Some pair)
pair_there n b tree level reach holder slot key layer same f =
    some_pair (pair_of (entry_at b slot).held) (λ pair. pair.suffix ≡ suffix_of key layer) (subst (λ (m : NodeView). IsInSlot m slot key layer ThisKey) same f).kind_is

-- where another long key stands in its place, the key is missing
pub none_beside : (v : ArenaView) (op : ℕ) (key : Bytes) (w : Walk) → IsArena v.nodes v.trees → HoldsBorder v op key w → (slot : ℕ)
    → IsInSlot (at v w.place.node) slot key w.layer OtherLong → get (content_of v) (owned key) ≡ None
none_beside v op key w arena h slot f =
    no_other v key w arena h.judged.at_border slot (pair_of (slot_at (at v w.place.node) (place_at (at v w.place.node) slot)).held) h.judged.stands f refl f.kind_is.1
