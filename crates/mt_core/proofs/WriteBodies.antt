-- What the bodies of the steps that write tell: who is in the way of a lock, and what an operation is that has placed its change.
use Rattle.std.{proofs.Common.{◌≡◌, ℕ, Bool, true, false, Option, Some, None, inl, inr, refl, sym, ap, subst, ◌∙◌}, specs.Prelude.{if◌then◌else◌}}
use Rattle.mt_rows.specs.{declared.reply.Reply.Reply, declared.reply.Reply.TheVariants.{Full, New}}
use Rattle.mt_arena.specs.{Arena.ArenaView, Accesses.at}
use Rattle.mt_operation.specs.{declared.phase.Phase.Phase, declared.walk.Walk.Walk, declared.outcome.Outcome.Outcome, declared.prepared.Prepared.Prepared}
use Rattle.mt_operation.specs.{declared.operation.Operation.Operation, Operations.{splits_of, scan_of}}
use Rattle.mt_state.specs.Promises.{IsInTheWay}
use Rattle.mt_insert.specs.{Publish.{TellsPublished as Published}, SplitMove.{TellsSplitMoved as Parted}}
use Rattle.mt_core.specs.Writes.{Parts, MayLock, TellsPublished, TellsParted}

-- who holds the node that is to be locked
pub blocked_lock : (o : ℕ) (v : ArenaView) (op : Operation) (holder : ℕ) → MayLock o v op → (at v op.walk.place.node).holder ≡ Some holder
    → IsInTheWay v op.walk.phase op.walk (splits_of op.splits) op.removal (scan_of op.task op.scan) holder
blocked_lock o v op holder may held =
    subst (λ (p : Phase). IsInTheWay v p op.walk (splits_of op.splits) op.removal (scan_of op.task op.scan) holder) (sym may.phase)
    (op.walk.place.node, refl, may.kept.covers.remembered.there, held)

-- an operation that has placed its change, and has nothing ready any more
pub placed_is : (op : Operation) (w : Walk) (ready : Option Prepared) (told : Outcome) (reply : Reply) (step : ℕ) → ready ≡ None → told ≡ record { reply = reply; at = step }
    → ◌≡◌ {A = Operation} (record op { walk = w; prepared = ready; outcome = Some told }) (record op { walk = w; prepared = None; outcome = Some (record { reply = reply; at = step }) })
placed_is op w ready told reply step none says =
    ap (λ (r : Option Prepared). record op { walk = w; prepared = r; outcome = Some told }) none
    ∙ ap (λ (t : Outcome). record op { walk = w; prepared = None; outcome = Some t }) says

-- a put of a new key, whether there was room for it
pub published_by : (o step : ℕ) (from to : Parts) (op : Operation) (w : Walk) (ready : Option Prepared) (prepared : Prepared) (told : Outcome) (is_new : Bool) → op.prepared ≡ Some prepared → ready ≡ None
    → told ≡ record { reply = if is_new then New else Full; at = step }
    → Published is_new o step op.task prepared.row from.arena to.arena from.tape to.tape from.accounts to.accounts op.walk w
    → TellsPublished o step from to op (record op { walk = w; prepared = ready; outcome = Some told })
published_by o step from to op w ready prepared told true has none says e = inl (record { prepared = prepared; has = has; placed = e; others = placed_is op w ready told New step none says })
published_by o step from to op w ready prepared told false has none says e = inr (record { prepared = prepared; has = has; placed = e; others = placed_is op w ready told Full step none says })

pub parted_by : (o step : ℕ) (from to : Parts) (op : Operation) (w : Walk) (ready : Option Prepared) (prepared : Prepared) (told : Outcome) (is_new : Bool) → op.prepared ≡ Some prepared → ready ≡ None
    → told ≡ record { reply = if is_new then New else Full; at = step }
    → Parted is_new o step op.task prepared.row from.arena to.arena from.tape to.tape from.accounts to.accounts op.walk w op.splits
    → TellsParted o step from to op (record op { walk = w; prepared = ready; outcome = Some told })
parted_by o step from to op w ready prepared told true has none says e = inl (record { prepared = prepared; has = has; placed = e; others = placed_is op w ready told New step none says })
parted_by o step from to op w ready prepared told false has none says e = inr (record { prepared = prepared; has = has; placed = e; others = placed_is op w ready told Full step none says })
