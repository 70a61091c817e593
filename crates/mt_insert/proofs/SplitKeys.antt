-- The key of a put at SplitMove belongs in the left half, which misses it: so the contents have no row at the key.
use Rattle.std.{proofs.Common.{◌≡◌, ℕ, None, refl, subst}, specs.FinMap.get}
use Rattle.mt_slices.specs.Slices.{slice_of, mark_of}
use Rattle.mt_border.specs.Contents.{owned}
use Rattle.mt_arena.{specs.{Ways.BelongsIn, Arena.{ArenaView, IsArena, content_of}, Accesses.at, Several.MaySplit}, proofs.{Homes.begun, Owners.none_elsewhere}}
use Rattle.mt_operation.specs.{declared.walk.Walk.Walk, declared.task.Task.Task, declared.prepared.Prepared.Prepared, declared.splits.Splits.Splits}
use Rattle.mt_descent.proofs.Ways.{live_tree}
use Rattle.mt_insert.specs.KeptSplits.{last_of, IsAtSplitMove}

module _ (v : ArenaView) (op : ℕ) (task : Task) (prepared : Prepared) (w : Walk) (s : Splits) (arena : IsArena v.nodes v.trees) (h : IsAtSplitMove v op task prepared w s) where
  -- the walk's node is the one that is split
  may_here : MaySplit v w.place.node (last_of s).right op (slice_of task.key w.layer) (mark_of task.key w.layer)
  may_here = subst (λ (k : ℕ). MaySplit v k (last_of s).right op (slice_of task.key w.layer) (mark_of task.key w.layer)) h.border h.may

  -- the key belongs in it
  pub belongs_in_left : BelongsIn v.nodes v.trees task.key w.layer w.place.node
  belongs_in_left =
      let half = may_here.half in
      record {
        border = record { there = half.held.there; live = half.live; level = may_here.border; tree_is = refl };
        tree_live = live_tree v (at v w.place.node).tree w.layer w.place.node task.key arena h.through half.held.there refl half.live;
        of_tree = h.through.of_tree;
        begun = h.through.begun;
        holds = h.belongs;
      }

  -- and it misses the key
  pub none_in_halves : get (content_of v) (owned task.key) ≡ None
  none_in_halves = none_elsewhere v.nodes v.trees arena (begun v.nodes v.trees arena.forest) task.key w.layer w.place.node belongs_in_left may_here.missing
