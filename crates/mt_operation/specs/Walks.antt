-- A walk before its first step.
use Rattle.std.specs.Prelude.{ℕ, true, false, None}
use Rattle.mt_version.specs.Parts.{fresh_parts}
use Rattle.mt_operation.specs.{declared.phase.Phase.TheVariants.Enter, declared.walk.Taken.TheVariants.Missing, declared.walk.Aim.Aim, declared.walk.Walk.Walk}

-- a walk that begins: at the top tree, with nothing seen
abbrev pub walk_from_top : Aim → ℕ → Walk
walk_from_top aim first = record {
  phase = Enter;
  aim = aim;
  first = first;
  layer = 0;
  place = record { tree = 0; node = 0; seen = fresh_parts false true };
  child = 0;
  child_seen = fresh_parts false true;
  next = None;
  slot = 0;
  taken = Missing;
  right_at = 0;
}
