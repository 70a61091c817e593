-- A step that is no look: the lemmas of the steps, at what the body made of the operation.
use Rattle.std.proofs.Common.{◌+◌, refl, sym, ap, subst, ◌∙◌}
use Rattle.mt_table.specs.declared.steps.Made.TheVariants.{Step, Blocked, NoMemory, Nothing}
use Rattle.mt_operation.specs.{declared.operation.Operation.Operation, Phases.IsNoLook}
use Rattle.mt_core.specs.{States.core_of, Writes.{parts, MayWrite}, Nexts.ending}
use Rattle.mt_core.proofs.ReadSteps.{are_before}
use Rattle.mt_core.proofs.WriteSteps.{may_write, write_unfinished, write_first, write_birth, write_keeps, write_leaves, write_comes, write_blocked, write_grown, write_none, write_there, write_told}
use Rattle.mt_core.proofs.inner.Inner.write.Goals as goal

pub least_birth-least-requires : goal.least_birth-least-requires
least_birth-least-requires c = λ q op there. (c.self.invariant.ops q op there).always.born

pub step_by-stepped-requires-clause-later : goal.step_by-stepped-requires-clause-later
step_by-stepped-requires-clause-later c = are_before (core_of c.self.inside) c.self.invariant

pub step_by-stepped-requires-clause-may : goal.step_by-stepped-requires-clause-may
step_by-stepped-requires-clause-may c =
    λ op there p e. subst (λ (x : Operation). MayWrite x.walk.phase c.args.id (c.self.inside.steps + 1) c.least_birth-least.result (parts (core_of c.self.inside).arena (core_of c.self.inside).tape (core_of c.self.inside).accounts) x) (sym e)
    (may_write (core_of c.self.inside) _ c.args.id c.self.view_is c.self.invariant c.requires.few op there _ c.least_birth-least.ensures (record { arena = c.facts.ensures.arena; retired = c.facts.ensures.retired; named = c.facts.ensures.named }) op.walk.phase refl)

pub step_by-stepped-requires-clause-moves : goal.step_by-stepped-requires-clause-moves
step_by-stepped-requires-clause-moves c =
    λ left op after there e. write_unfinished (core_of c.self.inside) _ c.args.id c.self.view_is c.self.invariant c.requires.few op there _ c.least_birth-least.ensures op.walk.phase refl _ after
    (write_told (core_of c.self.inside) _ c.args.id c.self.view_is c.self.invariant c.requires.few op there _ c.least_birth-least.ensures _ Step _ _ after e.shows e.leaves e.called.met.1)

pub step_by-stepped-requires-clause-first : goal.step_by-stepped-requires-clause-first
step_by-stepped-requires-clause-first c =
    λ left op after there e. write_first (core_of c.self.inside) _ c.args.id c.self.view_is c.self.invariant c.requires.few op there _ c.least_birth-least.ensures c.facts.ensures.arena op.walk.phase refl _ after
    (write_told (core_of c.self.inside) _ c.args.id c.self.view_is c.self.invariant c.requires.few op there _ c.least_birth-least.ensures _ Step _ _ after e.shows e.leaves e.called.met.1)

pub step_by-stepped-requires-clause-birth : goal.step_by-stepped-requires-clause-birth
step_by-stepped-requires-clause-birth c =
    λ left op after made there e. write_birth (core_of c.self.inside) _ c.args.id c.self.view_is c.self.invariant c.requires.few op there _ c.least_birth-least.ensures _ made after
    (write_told (core_of c.self.inside) _ c.args.id c.self.view_is c.self.invariant c.requires.few op there _ c.least_birth-least.ensures _ made _ _ after e.shows e.leaves e.called.met.1)

pub step_by-stepped-requires-clause-keeps : goal.step_by-stepped-requires-clause-keeps
step_by-stepped-requires-clause-keeps c =
    λ left op after there e. write_keeps (core_of c.self.inside) _ c.args.id c.self.view_is c.self.invariant c.requires.few op there _ c.least_birth-least.ensures _ after
    (write_told (core_of c.self.inside) _ c.args.id c.self.view_is c.self.invariant c.requires.few op there _ c.least_birth-least.ensures _ NoMemory _ _ after e.shows e.leaves e.called.met.1)

pub step_by-stepped-requires-clause-leaves : goal.step_by-stepped-requires-clause-leaves
step_by-stepped-requires-clause-leaves c =
    λ left op after made other granted there e. write_leaves (core_of c.self.inside) _ c.args.id c.self.view_is c.self.invariant c.requires.few op there _ c.least_birth-least.ensures _ made after other granted
    (write_told (core_of c.self.inside) _ c.args.id c.self.view_is c.self.invariant c.requires.few op there _ c.least_birth-least.ensures _ made _ _ after e.shows e.leaves e.called.met.1)

pub invariant_of-self : goal.invariant_of-self
invariant_of-self c =
    let s = c.in-To.ensures.steps in
    (write_comes (core_of c.self.inside) _ c.args.id c.self.view_is c.self.invariant c.requires.few s.op s.there _ c.least_birth-least.ensures (record { arena = c.facts.ensures.arena; retired = c.facts.ensures.retired; named = c.facts.ensures.named }) s.op.walk.phase refl _ c.facts-2.ensures.arena s.after
    (write_told (core_of c.self.inside) _ c.args.id c.self.view_is c.self.invariant c.requires.few s.op s.there _ c.least_birth-least.ensures _ Step _ _ s.after s.makes.shows s.makes.leaves s.makes.called.met.1) c.step_by-stepped.new.self s.table c.ending.result (c.ending.ensures ∙ ap ending s.phase_is)).0
    (record { arena = c.facts.ensures.arena; retired = c.facts.ensures.retired; named = c.facts.ensures.named })
    (record { arena = c.facts-2.ensures.arena; retired = c.facts-2.ensures.retired; named = c.facts-2.ensures.named })

pub returns-in-To : goal.returns-in-To
returns-in-To c =
    let s = c.in-To.ensures.steps in
    (write_comes (core_of c.self.inside) _ c.args.id c.self.view_is c.self.invariant c.requires.few s.op s.there _ c.least_birth-least.ensures (record { arena = c.facts.ensures.arena; retired = c.facts.ensures.retired; named = c.facts.ensures.named }) s.op.walk.phase refl _ c.facts-2.ensures.arena s.after
    (write_told (core_of c.self.inside) _ c.args.id c.self.view_is c.self.invariant c.requires.few s.op s.there _ c.least_birth-least.ensures _ Step _ _ s.after s.makes.shows s.makes.leaves s.makes.called.met.1) c.step_by-stepped.new.self s.table c.ending.result (c.ending.ensures ∙ ap ending s.phase_is)).1

pub invariant_of-self-in-Blocked : goal.invariant_of-self-in-Blocked
invariant_of-self-in-Blocked c =
    let s = c.in-Blocked.ensures.steps.0 in
    (write_blocked (core_of c.self.inside) _ c.args.id c.self.view_is c.self.invariant c.requires.few s.op s.there _ c.least_birth-least.ensures _ c.in-Blocked.holder s.op
    (write_told (core_of c.self.inside) _ c.args.id c.self.view_is c.self.invariant c.requires.few s.op s.there _ c.least_birth-least.ensures _ (Blocked c.in-Blocked.holder) _ _ s.op s.makes.shows s.makes.leaves s.makes.called.met.1) _ c.in-Blocked.ensures.steps.1 c.again.result c.again.ensures).0

pub returns-in-Blocked : goal.returns-in-Blocked
returns-in-Blocked c =
    let s = c.in-Blocked.ensures.steps.0 in
    (write_blocked (core_of c.self.inside) _ c.args.id c.self.view_is c.self.invariant c.requires.few s.op s.there _ c.least_birth-least.ensures _ c.in-Blocked.holder s.op
    (write_told (core_of c.self.inside) _ c.args.id c.self.view_is c.self.invariant c.requires.few s.op s.there _ c.least_birth-least.ensures _ (Blocked c.in-Blocked.holder) _ _ s.op s.makes.shows s.makes.leaves s.makes.called.met.1) _ c.in-Blocked.ensures.steps.1 c.again.result c.again.ensures).1

pub invariant_of-self-in-NoMemory : goal.invariant_of-self-in-NoMemory
invariant_of-self-in-NoMemory c =
    let s = c.in-NoMemory.ensures.steps in
    (write_grown (core_of c.self.inside) _ c.args.id c.self.view_is c.self.invariant c.requires.few s.op s.there _ c.least_birth-least.ensures _ s.after
    (write_told (core_of c.self.inside) _ c.args.id c.self.view_is c.self.invariant c.requires.few s.op s.there _ c.least_birth-least.ensures _ NoMemory _ _ s.after s.makes.shows s.makes.leaves s.makes.called.met.1) _ s.table).0

pub returns-in-NoMemory : goal.returns-in-NoMemory
returns-in-NoMemory c =
    let s = c.in-NoMemory.ensures.steps in
    (write_grown (core_of c.self.inside) _ c.args.id c.self.view_is c.self.invariant c.requires.few s.op s.there _ c.least_birth-least.ensures _ s.after
    (write_told (core_of c.self.inside) _ c.args.id c.self.view_is c.self.invariant c.requires.few s.op s.there _ c.least_birth-least.ensures _ NoMemory _ _ s.after s.makes.shows s.makes.leaves s.makes.called.met.1) _ s.table).1

pub invariant_of-self-in-Left : goal.invariant_of-self-in-Left
invariant_of-self-in-Left c =
    let s = c.in-Left.ensures.steps.0 in
    (write_none (core_of c.self.inside) _ c.args.id c.self.view_is c.self.invariant c.requires.few s.op s.there _ c.least_birth-least.ensures c.requires.others _ s.op
    (write_told (core_of c.self.inside) _ c.args.id c.self.view_is c.self.invariant c.requires.few s.op s.there _ c.least_birth-least.ensures _ Nothing _ _ s.op s.makes.shows s.makes.leaves s.makes.called.met.1) _ c.in-Left.ensures.steps.1).0

pub returns-in-Left : goal.returns-in-Left
returns-in-Left c =
    let s = c.in-Left.ensures.steps.0 in
    (write_none (core_of c.self.inside) _ c.args.id c.self.view_is c.self.invariant c.requires.few s.op s.there _ c.least_birth-least.ensures c.requires.others _ s.op
    (write_told (core_of c.self.inside) _ c.args.id c.self.view_is c.self.invariant c.requires.few s.op s.there _ c.least_birth-least.ensures _ Nothing _ _ s.op s.makes.shows s.makes.leaves s.makes.called.met.1) _ c.in-Left.ensures.steps.1).1

pub unreachable-requires : goal.unreachable-requires
unreachable-requires c = write_there (core_of c.self.inside) _ c.args.id IsNoLook c.self.view_is c.requires.others c.in-Absent.ensures.steps.0
