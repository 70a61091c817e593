-- What holds of every state, by its invariant: for `Inner::facts`.
use Rattle.std.{proofs.{Common.{◌≡◌, ℕ, ◌-◌, ◌<◌, Some, ap, subst, ◌∙◌, arith}, lemmas.List.Elements.All-contains}, specs.{Prelude.not, List.Contains}}
use Rattle.mt_rows.proofs.ContentLaws.{get-tenant_map}
use Rattle.mt_tape.{specs.{declared.entry.Entry.{Entry as TapeEntry}, Histories.contents_at}, proofs.{EntryLaws.rises_all, TapeLaws.get-contents_at_before}}
use Rattle.mt_arena.specs.Arena.{content_of}
use Rattle.mt_operation.specs.{declared.operation.Operation.Operation, Operations.view_of, Tables.{op_at as operation_at}}
use Rattle.mt_state.specs.{Views.{Core, StateView, shown}, Written.{IsMadeByChange, IsWritten}, Invariant.StateInvariant}
use Rattle.mt_state.proofs.Shown.{inside_of, shown_there}
use Rattle.mt_core.{specs.Rights.{IsRightOperation, IsRightState}, proofs.{Following.holder_open, Taking.{done_answer, ended_done}}}

module _ (c : Core) (h : StateInvariant c) where
  right_inside : (o : ℕ) (op : Operation) → operation_at c.table o ≡ Some op → IsRightOperation (shown c) (view_of op)
  right_inside o op there = record {
    floor = λ begun. (h.ops o op there).always.floor begun;
    answer = λ done. let a = done_answer c o op h there (ended_done op (ap not done)) in (a.outcome, a.told, a.right);
    placed = λ m is. let once = (h.ops o op there).placed m is in record {
      entry = once.entry;
      there = once.there;
      step_is = once.step_is;
      worker = once.worker;
      tenant = once.tenant;
      key_is = once.key_is;
      makes = once.makes;
      keeps = once.keeps;
      was = once.was;
      met = once.met;
    };
  }

  -- each entry has the row that its key had just before, and the one that a change made of it
  written_inside : (e : TapeEntry) → Contains c.tape.entries e → IsWritten (shown c) e
  written_inside e has =
      let over : c.tape.floor < e.step = All-contains (λ x. c.tape.floor < x.step) c.tape.entries e (rises_all c.tape.floor c.tape.entries h.tape.rises) has in
      record {
        made = All-contains IsMadeByChange c.tape.entries e h.written has;
        before = get-tenant_map e.tenant (contents_at c.tape.entries (content_of c.arena) (e.step - 1)) e.key
            ∙ get-contents_at_before c.tape.floor (e.step - 1) c.tape.entries (content_of c.arena) e h.tape.rises has (omega (arith, over));
      }

  right_shown : IsRightState (shown c)
  right_shown = record {
    answers = h.answered;
    tape = record { rises = h.tape.rises; made = h.tape.made; legal = h.tape.legal; keys = h.tape.keys; logs = h.tape.logs };
    operations = λ o view there. let w = inside_of c.table o view there in subst (IsRightOperation (shown c)) w.2 (right_inside o w.0 w.1);
    accounts = λ t a there. let counted = h.counts t a there in record { count = counted.0; quota = counted.1 };
    holders = λ k o inside holds.
        let w = h.holders k o inside holds in
        (view_of w.0, shown_there c.table o w.0 w.1, holder_open w.0.walk.phase w.0 k w.2);
    quotas = h.quotas;
    written = written_inside;
    stamps = h.stamps;
  }

-- all that a state tells is right
pub right_state : (c : Core) (now : StateView) → shown c ≡ now → StateInvariant c → IsRightState now
right_state c now is h = subst IsRightState is (right_shown c h)
