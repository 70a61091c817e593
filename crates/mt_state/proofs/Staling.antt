-- The step of a put that finds another stamp than the one that it asks for: it changes no pair, and gives its lock back.
use Rattle.std.proofs.Common.{◌≡◌, ℕ, ◌+◌, ◌<◌, inr, true, Option, Some, None, refl, sym, ap, subst, ◌∙◌, arith}
use Rattle.std.specs.{Prelude.{◌^◌}, FinMap.get}
use Rattle.mt_rows.specs.{declared.reply.Reply.TheVariants.Stale, Commands.key_of, Stamps.stamp_in, Maps.reply_of, Tenants.{Contents, tenant_map}}
use Rattle.mt_rows.proofs.ContentLaws.{get-tenant_map}
use Rattle.mt_tape.specs.Histories.{contents_at}
use Rattle.mt_arena.specs.Arena.{ArenaView, content_of}
use Rattle.mt_operation.specs.{declared.phase.Phase.Phase, declared.phase.Phase.TheVariants.{Judge, Done}, declared.walk.Walk.Walk}
use Rattle.mt_operation.specs.{declared.outcome.Outcome.Outcome, declared.operation.Operation.Operation, Tasks.ask, Operations.{view_of, IsUnsplit}}
use Rattle.mt_operation.specs.{Phases.has_splits, Tables.{op_at as operation_at}}
use Rattle.mt_insert.specs.{Puts.{IsPut, MeetsStamp}, Judge.FindsStale}
use Rattle.mt_state.specs.{Views.{Core, shown, quota_of, map_of}, Steps.told_change, Notes.{Says, EndsJudging, TellsStale, stamp_there}}
use Rattle.mt_state.specs.{KeptOperations.{IsOpenOperation, IsJudging, HasAnswer, IsKeptAt}, Invariant.StateInvariant, Writes.wrote}
use Rattle.mt_state.proofs.{Telling.{Gives, map_now}, Moved.{went, first_begun, first_upto}, OneNode.holds_here, LayerSteps.back_gives}
use Rattle.mt_state.proofs.{Replies.put_stale, Lawful.{put_no_scan, scan_free}}
use Rattle.mt_walks.specs.Walked.{IsWithin}

module _ (c : Core) (o : ℕ) (h : StateInvariant c) (few : c.steps < 2 ^ 59) (op : Operation) (there : operation_at c.table o ≡ Some op) (at_judge : op.walk.phase ≡ Judge) where
  always : IsOpenOperation c op
  always = (h.ops o op there).always

  judging : IsJudging c o op
  judging = subst (λ (p : Phase). IsKeptAt p c o op) at_judge (h.ops o op there).kept

  unsplit : IsUnsplit op.splits
  unsplit = (h.ops o op there).unsplit (ap has_splits at_judge)

  module _ (put : IsPut op.task) (arena : ArenaView) (w : Walk) (stamp : ℕ) (t : FindsStale o op.task stamp c.arena arena op.walk w) where
    abbrev told : Option Outcome
    told = Some (record { reply = Stale stamp; at = c.steps + 1 })

    abbrev after : Operation
    after = went op (c.steps + 1) w told op.prepared

    abbrev new : Core
    new = wrote c arena c.tape c.accounts o op w told op.prepared

    -- the stamp that it is told stands at its key, in the contents and in its tenant's map
    stamp_is : stamp_there (shown c) (view_of op) ≡ stamp
    stamp_is = ap (λ q. stamp_in (get (content_of c.arena) q)) (sym put.owner) ∙ t.standing

    standing : stamp_in (get (tenant_map op.task.tenant (content_of c.arena)) (key_of (ask op.task))) ≡ stamp
    standing = ap stamp_in (get-tenant_map op.task.tenant (content_of c.arena) (key_of (ask op.task))) ∙ stamp_is

    -- the step leaves that map
    stands : map_of (shown new) op.task.tenant (c.steps + 1) ≡ tenant_map op.task.tenant (content_of c.arena)
    stands = ap (λ (all : Contents). tenant_map op.task.tenant (contents_at c.tape.entries all (c.steps + 1))) t.unlocks.keeps.contents
        ∙ map_now c h.tape op.task.tenant (c.steps + 1) (omega arith)

    answer : HasAnswer new after
    answer = record {
      outcome = record { reply = Stale stamp; at = c.steps + 1 };
      told = refl;
      right = record {
        begun = first_begun c op always w;
        since = first_upto c op always w;
        upto = omega arith;
        lawful = scan_free (map_of (shown new) op.task.tenant) (IsWithin after.walk.first after.last) (ask op.task) (Stale stamp) (put_no_scan (ask op.task) put.put_is);
        placed = λ real plain. record {
          changes = λ e. absurd (cc);
          looks = λ e. put_stale (quota_of (shown c) op.task.tenant) op.task.request (tenant_map op.task.tenant (content_of c.arena)) stamp t.stale standing
              ∙ ap (reply_of (quota_of (shown c) op.task.tenant) (ask op.task)) (sym stands);
        };
      };
      unprepared = judging.unprepared;
    }

    tells : TellsStale (shown c) (view_of op) told
    tells = record {
      stale = subst (λ (s : ℕ). ¬ MeetsStamp (ask op.task) s) (sym stamp_is) t.stale;
      says = subst (λ (s : ℕ). Says told (Stale s) (c.steps + 1)) (sym stamp_is) refl;
    }

    -- its lock is given back in the same step, and it is told the stamp that stands there
    pub judge_stale : op.outcome ≡ None → Gives (shown c) new o true
    judge_stale untold =
        back_gives c o h few op there arena w told t.unlocks.is t.unlocks.keeps judging.judges.judged.held (holds_here c (shown c) o refl h few op there Judge at_judge)
        Judge Done at_judge (ap (λ (x : Walk). x.phase) t.unlocks.walk) refl tt tt tt t.unlocks.keeps.same.aim tt (sym (ap told_change untold))
        (subst (λ had. EndsJudging had (shown c) (view_of op) told) (sym untold) (inr (inr tells)))
        answer (λ facts. tt) unsplit
