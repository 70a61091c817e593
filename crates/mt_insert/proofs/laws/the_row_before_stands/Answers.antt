-- What the contents have at the key of a put that holds its border node, for the law of it.
use Rattle.std.{proofs.Common.{◌≡◌, ℕ, sym, ap, ◌∙◌}, specs.FinMap.get}
use Rattle.mt_border.specs.Contents.{owned}
use Rattle.mt_tape.specs.declared.entry.Entry.{Entry as Write}
use Rattle.mt_arena.specs.Arena.{ArenaView, IsArena, content_of}
use Rattle.mt_operation.specs.{declared.phase.Phase.Phase, declared.phase.Phase.TheVariants.{Store, Fill, SplitStart}, declared.walk.Walk.Walk}
use Rattle.mt_operation.specs.{declared.task.Task.Task, declared.prepared.Prepared.Prepared}
use Rattle.mt_insert.specs.KeptPuts.{KeptReady}
use Rattle.mt_held.proofs.Places.{row_here, none_here}
use Rattle.mt_insert.proofs.laws.the_row_before_stands.Goals as goal

pub returns-clause-store : goal.returns-clause-store
returns-clause-store c = λ v op task prepared w arena kept. row_here v op task.key w arena kept.holds w.slot kept.pair kept.in_slot kept.stable

pub returns-clause-fill : goal.returns-clause-fill
returns-clause-fill c = λ v op task prepared w arena kept. none_here v op task.key w arena kept.holds kept.missing

pub returns-clause-publish : goal.returns-clause-publish
returns-clause-publish c = λ v op task prepared w arena kept. none_here v op task.key w arena kept.holds kept.missing

by_phase : (v : ArenaView) (op : ℕ) (task : Task) (prepared : Prepared) (w : Walk) (phase : Phase) → IsArena v.nodes v.trees
    → KeptReady phase v op task prepared w → get (content_of v) (owned task.key) ≡ prepared.write.before
by_phase v op task prepared w Store arena kept =
    row_here v op task.key w arena kept.holds w.slot kept.pair kept.in_slot kept.stable ∙ sym (ap (λ (e : Write). e.before) kept.ready.write)
by_phase v op task prepared w Fill arena kept = none_here v op task.key w arena kept.holds kept.missing ∙ sym (ap (λ (e : Write). e.before) kept.ready.write)
by_phase v op task prepared w SplitStart arena kept =
    none_here v op task.key w arena kept.holds kept.missing ∙ sym (ap (λ (e : Write). e.before) kept.ready.write)
by_phase v op task prepared w _ arena kept = absurd kept

pub returns-clause-write : goal.returns-clause-write
returns-clause-write c = by_phase
