-- A step that is a look, or is none: the lemmas of the steps, at what the body made of it.
use Rattle.std.proofs.Common.{◌+◌, refl, sym, ap, subst, ◌∙◌}
use Rattle.mt_table.specs.declared.steps.Made.TheVariants.{Step, Blocked, NoMemory, Nothing}
use Rattle.mt_operation.specs.{declared.operation.Operation.Operation, Tables.{Table, op_at as operation_at}}
use Rattle.mt_state.specs.Views.{Core}
use Rattle.mt_core.specs.{States.core_of, Looks.MayLook, Nexts.ending, Points.StepsOn}
use Rattle.mt_core.proofs.ReadSteps.{are_before, may_look, look_unfinished, look_first, look_birth, look_leaves, look_granted, look_comes, look_blocked, look_left, look_told}
use Rattle.mt_core.proofs.inner.Inner.look.Goals as goal

pub step_by-stepped-requires-clause-later : goal.step_by-stepped-requires-clause-later
step_by-stepped-requires-clause-later c = are_before (core_of c.self.inside) c.self.invariant

pub step_by-stepped-requires-clause-may : goal.step_by-stepped-requires-clause-may
step_by-stepped-requires-clause-may c =
    λ op there p e. subst (λ (x : Operation). MayLook x.walk.phase (core_of c.self.inside).arena x) (sym e) (may_look (core_of c.self.inside) _ c.args.id c.self.view_is c.self.invariant c.requires.few op there op.walk.phase refl)

pub step_by-stepped-requires-clause-moves : goal.step_by-stepped-requires-clause-moves
step_by-stepped-requires-clause-moves c =
    λ left op after there e. look_unfinished (core_of c.self.inside) _ c.args.id c.self.view_is c.self.invariant c.requires.few op there op.walk.phase refl (c.self.inside.steps + 1) after
    (look_told (core_of c.self.inside) _ c.args.id c.self.view_is c.self.invariant c.requires.few op there (c.self.inside.steps + 1) Step _ _ after e.shows e.leaves e.called.met.1)

pub step_by-stepped-requires-clause-first : goal.step_by-stepped-requires-clause-first
step_by-stepped-requires-clause-first c =
    λ left op after there e. look_first (core_of c.self.inside) _ c.args.id c.self.view_is c.self.invariant c.requires.few op there op.walk.phase (c.self.inside.steps + 1) after
    (look_told (core_of c.self.inside) _ c.args.id c.self.view_is c.self.invariant c.requires.few op there (c.self.inside.steps + 1) Step _ _ after e.shows e.leaves e.called.met.1)

pub step_by-stepped-requires-clause-birth : goal.step_by-stepped-requires-clause-birth
step_by-stepped-requires-clause-birth c =
    λ left op after made there e. look_birth (core_of c.self.inside) _ c.args.id c.self.view_is c.self.invariant c.requires.few op there op.walk.phase (c.self.inside.steps + 1) made after
    (look_told (core_of c.self.inside) _ c.args.id c.self.view_is c.self.invariant c.requires.few op there (c.self.inside.steps + 1) made _ _ after e.shows e.leaves e.called.met.1)

pub step_by-stepped-requires-clause-keeps : goal.step_by-stepped-requires-clause-keeps
step_by-stepped-requires-clause-keeps c =
    λ left op after there e. absurd (look_granted (core_of c.self.inside) _ c.args.id c.self.view_is c.self.invariant c.requires.few op there op.walk.phase (c.self.inside.steps + 1) after
    (look_told (core_of c.self.inside) _ c.args.id c.self.view_is c.self.invariant c.requires.few op there (c.self.inside.steps + 1) NoMemory _ _ after e.shows e.leaves e.called.met.1))

pub step_by-stepped-requires-clause-leaves : goal.step_by-stepped-requires-clause-leaves
step_by-stepped-requires-clause-leaves c =
    λ left op after made other granted there e. look_leaves (core_of c.self.inside) _ c.args.id c.self.view_is c.self.invariant c.requires.few op there op.walk.phase (c.self.inside.steps + 1) made after other
    (look_told (core_of c.self.inside) _ c.args.id c.self.view_is c.self.invariant c.requires.few op there (c.self.inside.steps + 1) made _ _ after e.shows e.leaves e.called.met.1)

pub invariant_of-self : goal.invariant_of-self
invariant_of-self c =
    let s = c.in-To.ensures.steps in
    (look_comes (core_of c.self.inside) _ c.args.id c.self.view_is c.self.invariant c.requires.few s.op s.there c.facts.ensures.arena s.op.walk.phase refl s.after
    (look_told (core_of c.self.inside) _ c.args.id c.self.view_is c.self.invariant c.requires.few s.op s.there (c.self.inside.steps + 1) Step _ _ s.after s.makes.shows s.makes.leaves s.makes.called.met.1) c.step_by-stepped.new.self s.table c.ending.result (c.ending.ensures ∙ ap ending s.phase_is)).0
    (record { arena = c.facts.ensures.arena; retired = c.facts.ensures.retired; named = c.facts.ensures.named })
    (record { arena = c.facts.ensures.arena; retired = c.facts.ensures.retired; named = c.facts.ensures.named })

pub returns-in-To-clause-looks : goal.returns-in-To-clause-looks
returns-in-To-clause-looks c =
    let s = c.in-To.ensures.steps in
    (look_comes (core_of c.self.inside) _ c.args.id c.self.view_is c.self.invariant c.requires.few s.op s.there c.facts.ensures.arena s.op.walk.phase refl s.after
    (look_told (core_of c.self.inside) _ c.args.id c.self.view_is c.self.invariant c.requires.few s.op s.there (c.self.inside.steps + 1) Step _ _ s.after s.makes.shows s.makes.leaves s.makes.called.met.1) c.step_by-stepped.new.self s.table c.ending.result (c.ending.ensures ∙ ap ending s.phase_is)).1

pub returns-in-Blocked-clause-looks : goal.returns-in-Blocked-clause-looks
returns-in-Blocked-clause-looks c =
    let s = c.in-Blocked.ensures.steps.0 in
    subst (λ (x : Core). StepsOn c.args.self.now x c.args.id c.again.result) (sym (ap (λ (t : Table). record (core_of c.self.inside) { table = t }) c.in-Blocked.ensures.steps.1 ∙ c.self.view_is))
    (look_blocked (core_of c.self.inside) _ c.args.id c.self.view_is c.self.invariant c.requires.few s.op s.there s.op.walk.phase refl (c.self.inside.steps + 1) c.in-Blocked.holder s.op
    (look_told (core_of c.self.inside) _ c.args.id c.self.view_is c.self.invariant c.requires.few s.op s.there (c.self.inside.steps + 1) (Blocked c.in-Blocked.holder) _ _ s.op s.makes.shows s.makes.leaves s.makes.called.met.1) c.again.result c.again.ensures)

pub unreachable-requires : goal.unreachable-requires
unreachable-requires c =
    let s = c.in-NoMemory.ensures.steps in
    look_granted (core_of c.self.inside) _ c.args.id c.self.view_is c.self.invariant c.requires.few s.op s.there s.op.walk.phase (c.self.inside.steps + 1) s.after
    (look_told (core_of c.self.inside) _ c.args.id c.self.view_is c.self.invariant c.requires.few s.op s.there (c.self.inside.steps + 1) NoMemory _ _ s.after s.makes.shows s.makes.leaves s.makes.called.met.1)

pub returns-in-Left : goal.returns-in-Left
returns-in-Left c =
    let s = c.in-Left.ensures.steps.0 in record {
      looks = tt;
      others = (
        s.op,
        ap (λ (x : Core). operation_at x.table c.args.id) (sym c.self.view_is) ∙ s.there,
        look_left (core_of c.self.inside) _ c.args.id c.self.view_is c.self.invariant c.requires.few s.op s.there s.op.walk.phase (c.self.inside.steps + 1) s.op
            (look_told (core_of c.self.inside) _ c.args.id c.self.view_is c.self.invariant c.requires.few s.op s.there (c.self.inside.steps + 1) Nothing _ _ s.op s.makes.shows s.makes.leaves s.makes.called.met.1),
      );
      unchanged = ap (λ (t : Table). record (core_of c.self.inside) { table = t }) c.in-Left.ensures.steps.1 ∙ c.self.view_is;
    }
