-- the entries that were passed stand before the key
use Rattle.std.proofs.Common.{ℕ, ◌<◌, get_or}
use Rattle.mt_border.specs.{Entry.order_at, Entries.orders, Slots.listed}
use Rattle.mt_border.proofs.places.place_of.Given as goal

abbrev pub invariant-loop-place : goal.invariant-loop-place
invariant-loop-place l = (k : ℕ) → k < l.place → get_or (orders (listed l.slots)) k 0 < order_at l.slice l.mark
