-- Where the steps of an operation that holds nothing lead, and what a load shows: for `descend` and `load_row`.
use Rattle.std.proofs.Common.{◌≡◌, ◌<◌, ℕ, true, List, length, Option, Some, None, IsNone, IfNone, IfSome, inl, refl, sym, ap, subst, ◌∙◌}
use Rattle.std.proofs.lemmas.Option.{same_Some}
use Rattle.std.specs.Option.{option_map}
use Rattle.mt_rows.specs.{declared.reply.Reply.Reply, declared.reply.Reply.TheVariants.Found, Rows.Bytes, Stamps.{Stamped, as_shown}, Maps.is_get}
use Rattle.mt_arena.specs.{NodeView.NodeView, Forests.tree_at, Arena.{ArenaView, IsArena}, Accesses.at}
use Rattle.mt_operation.specs.{declared.phase.Phase.Phase, declared.phase.Phase.TheVariants.{Enter, Pick, Child, Verify, Forward}, declared.walk.Walk.Walk}
use Rattle.mt_operation.specs.{declared.outcome.Outcome.Outcome, declared.operation.Operation.Operation, Tasks.ask}
use Rattle.mt_operation.specs.{Operations.{SplitsView, ScanView, splits_of, scan_of}, declared.removal.Removal.Removal}
use Rattle.mt_descent.specs.{Pasts.Past, Seen.child_for, KeptWalks.{slice_in, KeptAt, IsKept}}
use Rattle.mt_descent.specs.WalkMoves.{IsBlocked, IsBlockedAt, AnswersAgain, Continues, Verifies, Loads, walk_here, after_enter, after_pick, after_child, after_forward}
use Rattle.mt_state.specs.{Notes.columns_asked, Promises.{needed_node, Blocks, IsInTheWay}, Phases.{ScanStep, GoesForward, LeadsTo}}
use Rattle.mt_state.specs.Ways.{Descends, ShowsTaken}
use Rattle.mt_state.proofs.{Descents.{Leads, descends, entered, verified, forwarded, stayed}, Replies.get_asks}
use Rattle.mt_core.specs.Looks.{led_to, MayLoad, MayConfirm, TellsLoaded}

-- a walk that enters a tree goes on so
pub enter_goes : (r : Option ℕ) (v : ArenaView) (before after : Walk) → before.phase ≡ Enter
    → IfNone r (after ≡ after_enter (tree_at v.trees before.place.tree).standing before (tree_at v.trees before.place.tree).root (at v (tree_at v.trees before.place.tree).root).version)
    → Continues before after → IfNone r (Descends before after)
enter_goes None v before after at_enter is same =
    let tree = tree_at v.trees before.place.tree in
    descends before after same (entered before.phase at_enter tree.standing before tree.root (at v tree.root).version after is)
enter_goes (Some holder) v before after at_enter is same = tt

-- a walk that compared the version of its interior node goes on so
pub verify_goes : (r : Option ℕ) (n : NodeView) (before after : Walk) → before.phase ≡ Verify → IfNone r (Verifies n before after)
    → Continues before after → IfNone r (Descends before after)
verify_goes None n before after at_verify v same = descends before after same (verified n before after at_verify v)
verify_goes (Some holder) n before after at_verify v same = tt

-- one that reads the next border node, if there is one, goes on there or stays
pub forward_goes : (r : Option ℕ) (slice : ℕ) (nodes : ℕ → NodeView) (before after : Walk) → before.phase ≡ Forward
    → (before.next ≡ None → IsNone r × (after ≡ walk_here before))
    → ((j : ℕ) → before.next ≡ Some j → IfNone r (after ≡ after_forward before slice j (nodes j))) → Continues before after → IfNone r (Descends before after)
forward_goes None slice nodes before after at_forward last is same =
    descends before after same (subst (λ (p : Phase). Leads p after.phase after.aim) (sym at_forward) (by before.next refl))
  where
    by : (next : Option ℕ) → before.next ≡ next → Leads Forward after.phase after.aim
    by None e = subst (λ (x : Walk). Leads Forward x.phase x.aim) (sym (last e).1) (stayed before)
    by (Some j) e = subst (λ (x : Walk). Leads Forward x.phase x.aim) (sym (is j e)) (forwarded before slice j (nodes j))
forward_goes (Some holder) slice nodes before after at_forward last is same = tt

-- the table of phases leads it there: from Enter
pub enter_leads : (r : Option ℕ) (v : ArenaView) (key : Bytes) (before after : Walk) → before.phase ≡ Enter
    → AnswersAgain (at v (tree_at v.trees before.place.tree).root) before after r
    → IfNone r (after ≡ after_enter (tree_at v.trees before.place.tree).standing before (tree_at v.trees before.place.tree).root (at v (tree_at v.trees before.place.tree).root).version)
    → (o step : ℕ) (told : Option Outcome) (s : SplitsView) (rem : Removal) (g : ScanStep) → IfNone r (LeadsTo before.phase v v o step key told s rem g before after)
enter_leads None v key before after at_enter again is o step told s rem g =
    subst (λ (p : Phase). LeadsTo p v v o step key told s rem g before after) (sym at_enter) (again, is)
enter_leads (Some holder) v key before after at_enter again is o step told s rem g = tt

-- from Pick
pub pick_leads : (v : ArenaView) (key : Bytes) (before after : Walk) → before.phase ≡ Pick
    → after ≡ after_pick before (child_for (at v before.place.node) (slice_in key before))
    → (o step : ℕ) (told : Option Outcome) (s : SplitsView) (rem : Removal) (g : ScanStep) → LeadsTo before.phase v v o step key told s rem g before after
pick_leads v key before after at_pick is o step told s rem g = subst (λ (p : Phase). LeadsTo p v v o step key told s rem g before after) (sym at_pick) is

-- from Child
pub child_leads : (r : Option ℕ) (v : ArenaView) (key : Bytes) (before after : Walk) → before.phase ≡ Child
    → AnswersAgain (at v before.child) before after r → IfNone r (after ≡ after_child before (at v before.child).version)
    → (o step : ℕ) (told : Option Outcome) (s : SplitsView) (rem : Removal) (g : ScanStep) → IfNone r (LeadsTo before.phase v v o step key told s rem g before after)
child_leads None v key before after at_child again is o step told s rem g =
    subst (λ (p : Phase). LeadsTo p v v o step key told s rem g before after) (sym at_child) (again, is)
child_leads (Some holder) v key before after at_child again is o step told s rem g = tt

-- from Verify
pub verify_leads : (r : Option ℕ) (v : ArenaView) (key : Bytes) (before after : Walk) → before.phase ≡ Verify
    → AnswersAgain (at v before.place.node) before after r → IfNone r (Verifies (at v before.place.node) before after)
    → (o step : ℕ) (told : Option Outcome) (s : SplitsView) (rem : Removal) (g : ScanStep) → IfNone r (LeadsTo before.phase v v o step key told s rem g before after)
verify_leads None v key before after at_verify again is o step told s rem g =
    subst (λ (p : Phase). LeadsTo p v v o step key told s rem g before after) (sym at_verify) (again, is)
verify_leads (Some holder) v key before after at_verify again is o step told s rem g = tt

-- and from Forward, by the next node
pub forward_leads : (r : Option ℕ) (v : ArenaView) (key : Bytes) (before after : Walk) → before.phase ≡ Forward
    → ((j : ℕ) → before.next ≡ Some j → AnswersAgain (at v j) before after r)
    → (before.next ≡ None → IsNone r × (after ≡ walk_here before))
    → ((j : ℕ) → before.next ≡ Some j → IfNone r (after ≡ after_forward before (slice_in key before) j (at v j)))
    → (o step : ℕ) (told : Option Outcome) (s : SplitsView) (rem : Removal) (g : ScanStep) → IfNone r (LeadsTo before.phase v v o step key told s rem g before after)
forward_leads None v key before after at_forward again last is o step told s rem g =
    subst (λ (p : Phase). LeadsTo p v v o step key told s rem g before after) (sym at_forward) (by before.next refl)
  where
    by : (next : Option ℕ) → before.next ≡ next → GoesForward next v key before after
    by None e = (last e).1
    by (Some j) e = (again j e, is j e)
forward_leads (Some holder) v key before after at_forward again last is o step told s rem g = tt

-- who is in the way of such a step is the holder of the node that it reads
pub read_way : (v : ArenaView) (p : Phase) (before after : Walk) (s : SplitsView) (rem : Removal) (g : ScanView) (k : ℕ) (r : Option ℕ) → before.phase ≡ p
    → needed_node p v before s rem ≡ Some k → k < length v.nodes → ((holder : ℕ) → IsBlocked (at v k) holder → Blocks p (at v k) before g holder)
    → AnswersAgain (at v k) before after r → IfSome r (λ holder. IsInTheWay v before.phase before s rem g holder × (after ≡ before))
read_way v p before after s rem g k None at_p needs within blocks again = tt
read_way v p before after s rem g k (Some holder) at_p needs within blocks again =
    (subst (λ (q : Phase). IsInTheWay v q before s rem g holder) (sym at_p) (k, needs, within, blocks holder again.1), again.0)

-- so at the root of its tree, at the child, at the interior node, and at the next border node
module _ (v : ArenaView) (arena : IsArena v.nodes v.trees) (past : Past) (key : Bytes) (w after : Walk) (kept : IsKept v past key None w) (s : SplitsView) (rem : Removal) (g : ScanView) (r : Option ℕ) where
  at_phase : (p : Phase) → w.phase ≡ p → KeptAt p v past key None w
  at_phase p at_p = subst (λ (q : Phase). KeptAt q v past key None w) at_p kept

  pub enter_way : w.phase ≡ Enter → AnswersAgain (at v (tree_at v.trees w.place.tree).root) w after r
      → IfSome r (λ holder. IsInTheWay v w.phase w s rem g holder × (after ≡ w))
  enter_way at_enter =
      read_way v Enter w after s rem g (tree_at v.trees w.place.tree).root r at_enter refl (arena.forest.each w.place.tree (at_phase Enter at_enter).there).root_there (λ holder blocked. blocked)

  pub child_way : w.phase ≡ Child → AnswersAgain (at v w.child) w after r → IfSome r (λ holder. IsInTheWay v w.phase w s rem g holder × (after ≡ w))
  child_way at_child = read_way v Child w after s rem g w.child r at_child refl (at_phase Child at_child).picked.there (λ holder blocked. blocked)

  pub verify_way : w.phase ≡ Verify → AnswersAgain (at v w.place.node) w after r → IfSome r (λ holder. IsInTheWay v w.phase w s rem g holder × (after ≡ w))
  verify_way at_verify =
      read_way v Verify w after s rem g w.place.node r at_verify refl (at_phase Verify at_verify).above.covers.remembered.there (λ holder blocked. blocked)

  no_way : IsNone r → IfSome r (λ holder. IsInTheWay v w.phase w s rem g holder × (after ≡ w))
  no_way none = by r none
    where
      by : (q : Option ℕ) → IsNone q → IfSome q (λ holder. IsInTheWay v w.phase w s rem g holder × (after ≡ w))
      by None is = tt
      by (Some holder) is = absurd (cc)

  pub forward_way : w.phase ≡ Forward → ((j : ℕ) → w.next ≡ Some j → AnswersAgain (at v j) w after r)
      → (w.next ≡ None → IsNone r × (after ≡ walk_here w)) → IfSome r (λ holder. IsInTheWay v w.phase w s rem g holder × (after ≡ w))
  forward_way at_forward again last = by w.next refl
    where
      by : (next : Option ℕ) → w.next ≡ next → IfSome r (λ holder. IsInTheWay v w.phase w s rem g holder × (after ≡ w))
      by None e = no_way (last e).0
      by (Some j) e = read_way v Forward w after s rem g j r at_forward e ((at_phase Forward at_forward).next.there j e) (λ holder blocked. blocked) (again j e)

-- the operation is as it was where its walk is
same_operation : (op : Operation) (w : Walk) → w ≡ op.walk → record op { walk = w } ≡ op
same_operation op w same = λ a. record op { walk = same a }

pub blocked_descent : (v : ArenaView) (op : Operation) (w : Walk) (holder : ℕ)
    → IsInTheWay v op.walk.phase op.walk (splits_of op.splits) op.removal (scan_of op.task op.scan) holder × (w ≡ op.walk)
    → IsInTheWay v op.walk.phase op.walk (splits_of op.splits) op.removal (scan_of op.task op.scan) holder × (record op { walk = w } ≡ op)
blocked_descent v op w holder way = (way.0, same_operation op w way.1)

-- who is in the way of a load, and of a confirmation
pub blocked_load : (v : ArenaView) (op : Operation) (w : Walk) (holder : ℕ) → MayLoad v op
    → (w ≡ op.walk) × IsBlockedAt (at v op.walk.place.node) op.walk.slot holder
    → IsInTheWay v op.walk.phase op.walk (splits_of op.splits) op.removal (scan_of op.task op.scan) holder × (record op { walk = w } ≡ op)
blocked_load v op w holder may again =
    (subst (λ (p : Phase). IsInTheWay v p op.walk (splits_of op.splits) op.removal (scan_of op.task op.scan) holder) (sym may.phase) (op.walk.place.node, refl, may.kept.1.at_border.covers.remembered.there, again.1), same_operation op w again.0)

pub blocked_confirm : (v : ArenaView) (op : Operation) (w : Walk) (holder : ℕ) → MayConfirm v op → (w ≡ op.walk) × IsBlocked (at v op.walk.place.node) holder
    → IsInTheWay v op.walk.phase op.walk (splits_of op.splits) op.removal (scan_of op.task op.scan) holder × (record op { walk = w } ≡ op)
blocked_confirm v op w holder may again =
    (subst (λ (p : Phase). IsInTheWay v p op.walk (splits_of op.splits) op.removal (scan_of op.task op.scan) holder) (sym may.phase) (op.walk.place.node, refl, may.kept.covers.remembered.there, again.1), same_operation op w again.0)

-- the outcome of a reply that is right at a number
abbrev placed_at : ℕ → Reply → Outcome
placed_at m reply = record { reply = reply; at = m }

-- the row that a get took is shown as it asks
shows_taken : {R : Type 0} (f : R → Stamped) (taken : Option R) (reply : Option Reply) (op : Operation) (after : Walk) → is_get (ask op.task) ≡ true
    → ((asked : List ℕ) → columns_asked (ask op.task) ≡ Some asked → reply ≡ option_map (λ r. Found (as_shown asked (f r))) taken)
    → ShowsTaken op (option_map f taken) after (option_map (placed_at after.right_at) reply)
shows_taken f None reply op after gets is = record {
  none = λ e. let asked = get_asks (ask op.task) gets in ap (option_map (placed_at after.right_at)) (is asked.0 asked.1);
  some = λ had asked e _. absurd (cc);
}
shows_taken f (Some r) reply op after gets is = record {
  none = λ e. absurd (cc);
  some =
      λ had asked e by. ap (option_map (placed_at after.right_at)) (is asked by) ∙ ap (λ (x : Stamped). Some (placed_at after.right_at (Found (as_shown asked x)))) (same_Some (f r) had e);
}

-- what a load tells that had memory for the row that it shows
pub tells_shown : {R : Type 0} (f : R → Stamped) (taken : Option R) (reply : Option Reply) (v : ArenaView) (op : Operation) (step : ℕ) (after : Walk) (told : Option Outcome)
    → is_get (ask op.task) ≡ true → Loads (at v op.walk.place.node) op.walk after (option_map f taken)
    → ((asked : List ℕ) → columns_asked (ask op.task) ≡ Some asked → reply ≡ option_map (λ r. Found (as_shown asked (f r))) taken)
    → told ≡ option_map (placed_at after.right_at) reply
    → TellsLoaded v step op (led_to op after told)
tells_shown f taken reply v op step after told gets loads is says = record {
  row = option_map f taken;
  walk = after;
  loads = loads;
  others = refl;
  told = inl (refl, subst (λ (x : Option Outcome). ShowsTaken op (option_map f taken) after x) (sym says) (shows_taken f taken reply op after gets is));
}
