-- Where a step goes that comes to a root, compares the version of the interior node, or reads the next border node, for `go_down`; and how each brings on.
use Rattle.std.proofs.Common.{sym, ◌∙◌}
use Rattle.mt_arena.specs.Accesses.{at}
use Rattle.mt_descent.specs.KeptWalks.{slice_in}
use Rattle.mt_core.proofs.LookSteps.{enter_goes, verify_goes, forward_goes, enter_leads, pick_leads, child_leads, verify_leads, forward_leads, enter_way, child_way, verify_way, forward_way}
use Rattle.mt_core.proofs.LookPoints.{enter_nears, pick_nears, child_nears, verify_nears, forward_nears}
use Rattle.mt_core.proofs.looks.go_down.Goals as goal

pub returns-in-Enter-clause-goes : goal.returns-in-Enter-clause-goes
returns-in-Enter-clause-goes c = enter_goes c.enter.result c.args.arena.now _ _ (sym c.requires.phase ∙ c.in-Enter.is) c.enter.ensures.is c.enter.ensures.same

pub returns-in-Enter-clause-nears : goal.returns-in-Enter-clause-nears
returns-in-Enter-clause-nears c =
    enter_nears c.args.arena.now c.facts.ensures.arena c.args.key.now c.requires.kept.0 _ _ c.requires.kept.1 c.enter.result (sym c.requires.phase ∙ c.in-Enter.is) c.enter.ensures.is

pub returns-in-Verify-clause-goes : goal.returns-in-Verify-clause-goes
returns-in-Verify-clause-goes c = verify_goes c.verify.result _ _ _ (sym c.requires.phase ∙ c.in-Verify.is) c.verify.ensures.is c.verify.ensures.same

pub returns-in-Verify-clause-nears : goal.returns-in-Verify-clause-nears
returns-in-Verify-clause-nears c =
    verify_nears c.args.arena.now c.facts.ensures.arena c.args.key.now c.requires.kept.0 _ _ c.requires.kept.1 c.verify.result (sym c.requires.phase ∙ c.in-Verify.is) c.verify.ensures.is

pub returns-in-Forward-clause-goes : goal.returns-in-Forward-clause-goes
returns-in-Forward-clause-goes c =
    forward_goes c.forward.result (slice_in c.args.key.now c.args.walk.now) (at c.args.arena.now) _ _ (sym c.requires.phase ∙ c.in-Forward.is) c.forward.ensures.last c.forward.ensures.is c.forward.ensures.same

pub returns-in-Enter-clause-leads : goal.returns-in-Enter-clause-leads
returns-in-Enter-clause-leads c =
    enter_leads c.enter.result c.args.arena.now c.args.key.now _ _ (sym c.requires.phase ∙ c.in-Enter.is) c.enter.ensures.again c.enter.ensures.is

pub returns-in-Pick-clause-leads : goal.returns-in-Pick-clause-leads
returns-in-Pick-clause-leads c = pick_leads c.args.arena.now c.args.key.now _ _ (sym c.requires.phase ∙ c.in-Pick.is) c.pick.ensures.is

pub returns-in-Child-clause-leads : goal.returns-in-Child-clause-leads
returns-in-Child-clause-leads c =
    child_leads c.child.result c.args.arena.now c.args.key.now _ _ (sym c.requires.phase ∙ c.in-Child.is) c.child.ensures.again c.child.ensures.is

pub returns-in-Verify-clause-leads : goal.returns-in-Verify-clause-leads
returns-in-Verify-clause-leads c =
    verify_leads c.verify.result c.args.arena.now c.args.key.now _ _ (sym c.requires.phase ∙ c.in-Verify.is) c.verify.ensures.again c.verify.ensures.is

pub returns-in-Forward-clause-leads : goal.returns-in-Forward-clause-leads
returns-in-Forward-clause-leads c =
    forward_leads c.forward.result c.args.arena.now c.args.key.now _ _ (sym c.requires.phase ∙ c.in-Forward.is) c.forward.ensures.again c.forward.ensures.last c.forward.ensures.is

pub returns-in-Enter-clause-again : goal.returns-in-Enter-clause-again
returns-in-Enter-clause-again c s rem g =
    enter_way c.args.arena.now c.facts.ensures.arena c.requires.kept.0 c.args.key.now _ _ c.requires.kept.1 s rem g c.enter.result (sym c.requires.phase ∙ c.in-Enter.is) c.enter.ensures.again

pub returns-in-Child-clause-again : goal.returns-in-Child-clause-again
returns-in-Child-clause-again c s rem g =
    child_way c.args.arena.now c.facts.ensures.arena c.requires.kept.0 c.args.key.now _ _ c.requires.kept.1 s rem g c.child.result (sym c.requires.phase ∙ c.in-Child.is) c.child.ensures.again

pub returns-in-Verify-clause-again : goal.returns-in-Verify-clause-again
returns-in-Verify-clause-again c s rem g =
    verify_way c.args.arena.now c.facts.ensures.arena c.requires.kept.0 c.args.key.now _ _ c.requires.kept.1 s rem g c.verify.result (sym c.requires.phase ∙ c.in-Verify.is) c.verify.ensures.again

pub returns-in-Forward-clause-again : goal.returns-in-Forward-clause-again
returns-in-Forward-clause-again c s rem g =
    forward_way c.args.arena.now c.facts.ensures.arena c.requires.kept.0 c.args.key.now _ _ c.requires.kept.1 s rem g c.forward.result (sym c.requires.phase ∙ c.in-Forward.is) c.forward.ensures.again c.forward.ensures.last

pub returns-in-Pick-clause-nears : goal.returns-in-Pick-clause-nears
returns-in-Pick-clause-nears c = pick_nears c.args.arena.now _ _ _ (sym c.requires.phase ∙ c.in-Pick.is) c.pick.ensures.is

pub returns-in-Child-clause-nears : goal.returns-in-Child-clause-nears
returns-in-Child-clause-nears c = child_nears c.args.arena.now _ _ c.child.result (sym c.requires.phase ∙ c.in-Child.is) c.child.ensures.is

pub returns-in-Forward-clause-nears : goal.returns-in-Forward-clause-nears
returns-in-Forward-clause-nears c =
    forward_nears c.args.arena.now c.facts.ensures.arena c.args.key.now c.requires.kept.0 _ _ c.requires.kept.1 c.forward.result (slice_in c.args.key.now c.args.walk.now) (sym c.requires.phase ∙ c.in-Forward.is) c.forward.ensures.last c.forward.ensures.is
