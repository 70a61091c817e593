-- What a load of a border node's slot takes out of its view: for the phase Load.
use Rattle.std.proofs.Common.{◌≡◌, ℕ, max, Option, Some, None, refl}
use Rattle.mt_rows.specs.Stamps.{Stamped}
use Rattle.mt_border.specs.{Held.Pair, Contents.row_of, Slots.held_in, Node.{Node as BorderNode, IsLive, held_at}}
use Rattle.mt_arena.specs.{NodeFacts.IsUnstable, NodeView.{NodeView, border_view}}
use Rattle.mt_operation.specs.{declared.walk.Walk.Walk, declared.walk.Taken.TheVariants.{Row, Link, Nothing}}
use Rattle.mt_descent.specs.WalkMoves.{Loads, IsShownAt, after_load}
use Rattle.mt_border.specs.Held as helds

module _ (n : NodeView) (b : BorderNode) (tree level : ℕ) (reach holder : Option ℕ) (w after : Walk) (row : Option Stamped) (same : n ≡ border_view b tree level reach holder) where
  -- what a border node holds in a live slot, its view shows
  pub shown_at : (IsLive b w.slot → held_in b.slots.helds w.slot ≡ held_at b w.slot) → IsShownAt n w.slot
  shown_at shown = rw same shown

  module _ (shown : IsLive b w.slot → held_in b.slots.helds w.slot ≡ held_at b w.slot) where
    -- a pair's row with its stamp
    pub loads_pair : (pair : Pair) (at : ℕ) → held_in b.slots.helds w.slot ≡ helds.Stable pair → row ≡ Some (row_of pair) → at ≡ max w.first pair.stamp → after ≡ after_load w Row at → Loads n w after row
    loads_pair pair at is row_is at_is after_is = rw (same, after_is) (record { takes = (pair, is, row_is, at_is); shown = shown; is = refl })

    -- a link's tree
    pub loads_link : (u : ℕ) → held_in b.slots.helds w.slot ≡ helds.Link u → row ≡ None → after ≡ after_load w (Link u) w.right_at → Loads n w after row
    loads_link u is row_is after_is = rw (same, after_is) (record { takes = (is, row_is, refl); shown = shown; is = refl })

    -- and nothing, where the slot is free and unstable
    pub loads_nothing : ¬ IsLive b w.slot → IsUnstable (held_in b.slots.helds w.slot) → row ≡ None → after ≡ after_load w Nothing w.right_at → Loads n w after row
    loads_nothing gone unstable row_is after_is = rw (same, after_is) (record { takes = (gone, unstable, row_is, refl); shown = shown; is = refl })
