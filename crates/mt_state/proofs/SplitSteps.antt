-- The steps of a split that move no pair: it starts or stops, its right halves climb, and all locks are given back: for a put whose node is full.
use Rattle.std.proofs.Common.{◌≡◌, ◌≢◌, ℕ, ◌+◌, ◌-◌, ◌<◌, ◌⊎◌, inl, inr, true, false, List, [], ◌∷◌, length, Option, Some, None, refl, sym, ap, subst, ◌∙◌, arith}
use Rattle.std.proofs.{lemmas.Bool.{cases_eq, both_ways}, lemmas.Option.same_Some}
use Rattle.std.specs.Prelude.{◌^◌}
use Rattle.mt_rows.specs.declared.reply.Reply.TheVariants.{NoMemory}
use Rattle.mt_tape.specs.Tapes.{Kept}
use Rattle.mt_arena.specs.{declared.tree.Tree.Tree, NodeView.NodeView, Edits.unlocked, Forests.tree_at, Contents.counts}
use Rattle.mt_arena.specs.{Arena.{ArenaView, content_of, Guarantee}, Accesses.{at, IsHeld, with_half_at, with_node}}
use Rattle.mt_operation.specs.{declared.walk.Aim.Aim, declared.phase.Phase.Phase}
use Rattle.mt_operation.specs.declared.phase.Phase.TheVariants.{Enter, SplitStart, SplitMove, SplitPrev, LockParent, InsertChild, InteriorSplit, Reparent, RootGrow, Unlock, Done}
use Rattle.mt_operation.specs.{declared.walk.Walk.Walk, declared.outcome.Outcome.Outcome, declared.splits.Halves.Halves, declared.splits.Splits.Splits}
use Rattle.mt_operation.specs.{declared.operation.Operation.Operation, Operations.{OperationView, view_of}}
use Rattle.mt_operation.specs.Phases.{is_done, MayFollow, IsOfKind, has_splits, IsClimb, FitsAim, IsClimbKind, Kind, change_at, holds_of, may_be_parts, row, is_unplaced, is_to_come}
use Rattle.mt_operation.specs.{Tasks.ask, Tables.{IsLeastBirth, op_at as operation_at}, declared.prepared.Prepared.Prepared}
use Rattle.mt_operation.proofs.Phases.{by_climb}
use Rattle.mt_remove.specs.Writes.{is_remove}
use Rattle.mt_held.specs.{Taping.released, Holds.HoldsOnly, Moves.walk_at}
use Rattle.mt_insert.specs.{KeptSplits.{IsAmong, IsAtSplitMove, IsAtUnlockAll, KeptSplit, HoldsSplits}, Unlock.{Returns, IsUnlockAll}}
use Rattle.mt_insert.specs.{SplitStart.{IsSplitStart, IsSplitStopped}, Climbs.IsClimbFrom, KeptPuts.IsAtSplitStart}
use Rattle.mt_state.specs.{Views.{StateView, Core, shown, map_of}, Steps.told_change, Notes.{Notes, Keeps}, Promises.IsAnswer, Touches.Touches}
use Rattle.mt_state.specs.KeptOperations.{IsOpenOperation, IsSplitStarting, IsSplitMoving, HasAnswer, MayUnlock, IsUnlocking, IsKeptAt, IsClimbing, IsKeptFor}
use Rattle.mt_state.specs.{Invariant.{IsCountedUpTo, HoldsLast, HoldsAt, StateInvariant, HoldsBy, DeletedAreEmpty}, Writes.splitting}
use Rattle.mt_state.specs.KeptBack.{ArenaFacts, IsWalkBack, IsBackAt, TakesLive}
use Rattle.mt_state.proofs.{Rely.answer_stays, Telling.Gives, Quiet.{LeavesPairs, HasPairsOf, same_slots}}
use Rattle.mt_state.proofs.{Moved.{went_with, first_same, first_begun, first_upto}, Still.{IsUnready, unready_none, IsUnreadyBy}, Reading.walk_same}
use Rattle.mt_state.proofs.OneNode.{same_counts, returning_by, returning_told, counted_unlocked, replaced_at, replaced_touches, replaced_leaves, quiet_grows, holds_here, quiet_gives_with}
use Rattle.mt_state.proofs.{Locking.{ready_one, room_for}, Growing.{makes_same, retires_same, changes_on}, Giving.{are_forgotten, changes_from, retires_given}, Climbing.{LeavesNodes, MovesNoPair, moves_by}}
use Rattle.mt_state.proofs.{ClimbingNodes.{climb_leaves, climb_makes, climb_follows, climb_some, begun_leaves}, Lawful.{lawful_more, stopped_free}, Touching.{AreTouched, climb_touched, half_touched}}
use Rattle.mt_descent.specs.WalkMoves.{Continues}
use Rattle.mt_walks.specs.Walked.{IsWithin}
use Rattle.mt_operation.specs.declared.walk.Aim.TheVariants as aims
use Rattle.mt_operation.specs.Phases as kinds

-- the right half of the full border node was made
pub record StartsSplit (c : Core) (o : ℕ) (op : Operation) (arena : ArenaView) (w : Walk) (s : Splits) : Type 0 where
  pub moves : MovesNoPair c o arena
  pub walk : w ≡ walk_at SplitMove op.walk
  pub same : Continues op.walk w
  pub kept : (prepared : Prepared) → op.prepared ≡ Some prepared → IsAtSplitMove arena o op.task prepared w s
  pub holds : HoldsSplits arena o s
  pub touches : Touches (view_of op) o c.arena arena

-- a right half came one step nearer to its place in its parent, or a root was made
pub record Climbs (c : Core) (o : ℕ) (op : Operation) (arena : ArenaView) (w : Walk) (s : Splits) : Type 0 where
  pub moves : MovesNoPair c o arena
  pub follows : MayFollow op.walk.phase w.phase
  pub same : Continues op.walk w
  pub kept : KeptSplit w.phase arena o s
  pub some : s.halves.items ≢ []
  pub holds : HoldsSplits arena o s
  pub touches : Touches (view_of op) o c.arena arena

-- a phase at which an operation holds halves whose keys are parted
abbrev pub HasHalvesBy : Kind → Type 0
HasHalvesBy kinds.Climbs = Unit {0}
HasHalvesBy kinds.Returns = Unit {0}
HasHalvesBy _ = ⊥

abbrev pub HasHalves : Phase → Type 0
HasHalves p = HasHalvesBy (row p).kind

-- where a right half comes nearer to its place, it goes on so, or all may be given back
climb_leads : (p q : Phase) → IsClimb p → MayFollow p q → HasHalves q
climb_leads SplitPrev LockParent i f = tt
climb_leads SplitPrev _ i f = absurd f
climb_leads LockParent InsertChild i f = tt
climb_leads LockParent InteriorSplit i f = tt
climb_leads LockParent RootGrow i f = tt
climb_leads LockParent _ i f = absurd f
climb_leads InsertChild Unlock i f = tt
climb_leads InsertChild _ i f = absurd f
climb_leads InteriorSplit Reparent i f = tt
climb_leads InteriorSplit _ i f = absurd f
climb_leads Reparent Reparent i f = tt
climb_leads Reparent LockParent i f = tt
climb_leads Reparent _ i f = absurd f
climb_leads RootGrow Unlock i f = tt
climb_leads RootGrow _ i f = absurd f
climb_leads _ q i f = absurd i

halves_of : (p : Phase) → IsClimb p → HasHalves p
halves_of p i = by (row p).kind i
  where
    by : (k : Kind) → IsClimbKind k → HasHalvesBy k
    by kinds.Climbs i = tt
    by _ i = absurd i

-- an operation at such a phase writes, has a step left and nothing made ready, and may have splits
halves_begun : (p : Phase) → HasHalves p → p ≢ Enter
halves_begun Enter i e = i
halves_begun _ i e = absurd (cc)

halves_write : (p : Phase) → HasHalves p → (aim : Aim) → IsOfKind p aim → aim ≡ aims.Write
halves_write p i aim kind = by (row p).kind i kind
  where
    by : (k : Kind) → HasHalvesBy k → FitsAim k aim → aim ≡ aims.Write
    by kinds.Climbs i kind = kind
    by kinds.Returns i kind = kind
    by _ i kind = absurd i

pub halves_kind : (p : Phase) → HasHalves p → (aim : Aim) → aim ≡ aims.Write → IsOfKind p aim
halves_kind p i aim is = by (row p).kind i
  where
    by : (k : Kind) → HasHalvesBy k → FitsAim k aim
    by kinds.Climbs i = is
    by kinds.Returns i = is
    by _ i = absurd i

pub halves_open : (p : Phase) → HasHalves p → is_done p ≡ false
halves_open Done i = absurd i
halves_open _ i = refl

pub halves_unready : (p : Phase) → HasHalves p → IsUnready p
halves_unready p i = by (row p).kind i
  where
    by : (k : Kind) → HasHalvesBy k → IsUnreadyBy (change_at k)
    by kinds.Climbs i = tt
    by kinds.Returns i = tt
    by _ i = absurd i

pub halves_split : (p : Phase) → HasHalves p → has_splits p ≡ true
halves_split p i = by (row p).kind i
  where
    by : (k : Kind) → HasHalvesBy k → may_be_parts (holds_of k) ≡ true
    by kinds.Climbs i = refl
    by kinds.Returns i = refl
    by _ i = absurd i

-- it holds nodes of its splits alone
holds_last : (l : List Halves) (op : Operation) (k : ℕ) → l ≢ [] → IsAmong op.splits k → HoldsLast l op k
holds_last [] op k some among = absurd (some refl)
holds_last (x ∷ l) op k some among = among

-- so its walk tells nothing of what it remembers
pub halves_back : (p : Phase) → HasHalves p → (v : ArenaView) (op : Operation) → IsBackAt p v op
halves_back p i v op = by (row p).kind i
  where
    by : (of : Kind) → HasHalvesBy of → IsWalkBack of p v op
    by kinds.Climbs i = tt
    by kinds.Returns i = tt
    by _ i = absurd i

pub climb_back : (p : Phase) → IsClimb p → (v : ArenaView) (op : Operation) → IsBackAt p v op
climb_back p i = halves_back p (halves_of p i)

pub halves_held : (p : Phase) → HasHalves p → (op : Operation) (k : ℕ) → op.splits.halves.items ≢ [] → IsAmong op.splits k → HoldsAt p op k
halves_held p i op k some among = by (row p).kind i
  where
    by : (of : Kind) → HasHalvesBy of → HoldsBy (holds_of of) op k
    by kinds.Climbs i = among
    by kinds.Returns i = holds_last op.splits.halves.items op k some among
    by _ i = absurd i

-- what is kept of an operation that climbs, by its phase
pub climbing_of : (p : Phase) → IsClimb p → (c : Core) (o : ℕ) (op : Operation) → IsKeptAt p c o op → IsClimbing c o op p
climbing_of p i c o op kept = by (row p).kind i kept
  where
    by : (k : Kind) → IsClimbKind k → IsKeptFor k p c o op → IsClimbing c o op p
    by kinds.Climbs i kept = kept
    by _ i kept = absurd i

pub kept_climbing : (p : Phase) → IsClimb p → (c : Core) (o : ℕ) (op : Operation) → IsClimbing c o op p → IsKeptAt p c o op
kept_climbing p i c o op climbing = by (row p).kind i
  where
    by : (k : Kind) → IsClimbKind k → IsKeptFor k p c o op
    by kinds.Climbs i = climbing
    by _ i = absurd i

-- and what is kept of it is what is kept of the splits, and its answer
may_unlock : (l : List Halves) (v : ArenaView) (o : ℕ) (op : Operation) → is_remove (ask op.task) ≡ false → l ≢ [] → IsAtUnlockAll v o op.splits
    → MayUnlock l v o op
may_unlock [] v o op stays some all = absurd (some refl)
may_unlock (x ∷ l) v o op stays some all = (all, stays)

may_unlock_all : (l : List Halves) (v : ArenaView) (o : ℕ) (op : Operation) → l ≢ [] → MayUnlock l v o op → IsAtUnlockAll v o op.splits
may_unlock_all [] v o op some may = absurd (some refl)
may_unlock_all (x ∷ l) v o op some may = may.0

pub halves_kept : (p : Phase) → HasHalves p → (c : Core) (o : ℕ) (op : Operation) → is_remove (ask op.task) ≡ false → op.splits.halves.items ≢ []
    → KeptSplit p c.arena o op.splits → HasAnswer c op → IsKeptAt p c o op
halves_kept Unlock i c o op stays some kept answer =
    returning_by op.outcome answer.outcome answer.told c o op (record { unlocks = may_unlock op.splits.halves.items c.arena o op stays some kept; answer = answer })
halves_kept p i c o op stays some kept answer = kept_climbing p i c o op (record { stays = stays; climbs = kept; answer = answer })

climb_answer : (p : Phase) → IsClimb p → (c : Core) (o : ℕ) (op : Operation) → IsKeptAt p c o op → HasAnswer c op
climb_answer p i c o op kept = (climbing_of p i c o op kept).answer

-- what it holds are nodes of its splits
pub climb_among : (p : Phase) → IsClimb p → (op : Operation) (k : ℕ) → HoldsAt p op k → IsAmong op.splits k
climb_among p i op k holds = by (row p).kind i holds
  where
    by : (of : Kind) → IsClimbKind of → HoldsBy (holds_of of) op k → IsAmong op.splits k
    by kinds.Climbs i holds = holds
    by _ i holds = absurd i

pub among_climb : (p : Phase) → IsClimb p → (op : Operation) (k : ℕ) → IsAmong op.splits k → HoldsAt p op k
among_climb p i op k among = by (row p).kind i
  where
    by : (of : Kind) → IsClimbKind of → HoldsBy (holds_of of) op k
    by kinds.Climbs i = among
    by _ i = absurd i

-- a step of it leaves the outcome
halves_settled : (p : Phase) → HasHalves p → (told : Option Outcome) → Keeps (is_unplaced p) told told
halves_settled p i told = by (row p).kind i
  where
    by : (of : Kind) → HasHalvesBy of → Keeps (is_to_come (change_at of)) told told
    by kinds.Climbs i = refl
    by kinds.Returns i = refl
    by _ i = absurd i

climb_notes : (p q : Phase) → IsClimb p → HasHalves q → (old : StateView) (op : OperationView) → Notes old op p q op.outcome
climb_notes p q i j old op = by_climb (λ p. Notes old op p q op.outcome) settled settled settled settled settled settled p i
  where
    settled : Keeps (is_unplaced q) op.outcome op.outcome
    settled = halves_settled q j op.outcome

-- whose node it is can be told
pub is_held_or_not : (x : Option ℕ) (o : ℕ) → (x ≡ Some o) ⊎ (x ≢ Some o)
is_held_or_not None o = inr (λ e. absurd (cc))
is_held_or_not (Some q) o = elim (cases_eq q o) [
  | inl same ↦ inl (ap Some same)
  | inr other ↦ inr (λ e. other (same_Some q o e))
]

module _ (c : Core) (o : ℕ) (h : StateInvariant c) (arena : ArenaView) where
  -- what moves no pair leaves all pairs
  moves_leave : MovesNoPair c o arena → LeavesPairs c o arena
  moves_leave m = record {
    changes = m.changes;
    contents = m.contents;
    stood = m.stood;
    versions = m.versions;
    deleted = m.deleted;
    taken_out = m.taken_out;
    takes = m.takes;
    makes = m.makes;
  }

  -- the locks of some nodes of the operation were given back
  module _ (count : length arena.nodes ≡ length c.arena.nodes) (trees : arena.trees ≡ c.arena.trees)
      (each : (k : ℕ) → k < length c.arena.nodes → (((at c.arena k).holder ≡ Some o) × (at arena k ≡ unlocked (at c.arena k))) ⊎ (at arena k ≡ at c.arena k)) where
    same : (k : ℕ) → k < length c.arena.nodes
        → ((at arena k).slots ≡ (at c.arena k).slots) × ((at arena k).tree ≡ (at c.arena k).tree) × ((at arena k).version.deleted ≡ (at c.arena k).version.deleted)
    same k inside = elim (each k inside) [
      | inl (held, is) ↦ (ap (λ (n : NodeView). n.slots) is, ap (λ (n : NodeView). n.tree) is, ap (λ (n : NodeView). n.version.deleted) is)
      | inr is ↦ (ap (λ (n : NodeView). n.slots) is, ap (λ (n : NodeView). n.tree) is, ap (λ (n : NodeView). n.version.deleted) is)
    ]

    stood : (k : ℕ) → k < length arena.nodes → counts arena.trees (at arena k) ≡ true → HasPairsOf c.arena arena k
    stood k inside counted =
        let was : k < length c.arena.nodes = omega (arith, inside, count) in
        let is = same k was in
        record {
          there = was;
          counted = ap (λ (t : List Tree). counts t (at c.arena k)) (sym trees) ∙ sym (same_counts arena.trees (at arena k) (at c.arena k) is.2 is.1) ∙ counted;
          prefix = ap (λ t. (tree_at arena.trees t).prefix) is.1 ∙ ap (λ (t : List Tree). (tree_at t (at c.arena k).tree).prefix) trees;
          slots = same_slots (at c.arena k) (at arena k) is.0;
        }

    returned_versions : (k : ℕ) → k < length arena.nodes → IsCountedUpTo (c.steps + 1) (at arena k)
    returned_versions k inside =
        let was = h.versions k (omega (arith, inside, count)) in
        elim (each k (omega (arith, inside, count))) [
          | inl (held, is) ↦ subst (IsCountedUpTo (c.steps + 1)) (sym is) (counted_unlocked (at c.arena k) c.steps was (unlocked (at c.arena k)) refl)
          | inr is ↦ subst (IsCountedUpTo (c.steps + 1)) (sym is) (record { inserts = omega (arith, was.inserts); splits = omega (arith, was.splits) })
        ]

    returned_deleted : DeletedAreEmpty arena
    returned_deleted k inside gone =
        let was : k < length c.arena.nodes = omega (arith, inside, count) in let is = same k was in is.0 ∙ h.deleted k was (sym is.2 ∙ gone)

    returned_takes : TakesLive o c.arena arena
    returned_takes k inside holds =
        let was : k < length c.arena.nodes = omega (arith, inside, count) in
        elim (each k was) [
          | inl (held, is) ↦ inl (was, inl held)
          | inr is ↦ inl (was, inl (ap (λ (n : NodeView). n.holder) (sym is) ∙ holds))
        ]

    pub returned_leaves : Guarantee o c.arena arena → content_of arena ≡ content_of c.arena → arena.retired ≡ c.arena.retired → LeavesPairs c o arena
    returned_leaves guarantee contents retired = record {
      changes = changes_on c o arena count (ap (λ (ts : List Tree). length ts) trees) guarantee (retires_same c arena h.late retired);
      contents = contents;
      stood = λ k inside counted. inl (stood k inside counted);
      versions = returned_versions;
      deleted = returned_deleted;
      taken_out = retires_same c arena h.late retired;
      takes = returned_takes;
      makes = makes_same c.arena arena count (ap (λ (ts : List Tree). length ts) trees);
    }

    pub returned_touches : (op : OperationView) → Touches op o c.arena arena
    returned_touches op k inside = elim (each k inside) [
      | inl (held, is) ↦ inr (inl (inl held))
      | inr is ↦ inl is
    ]

-- the operation holds each node of splits that it may give back
among_held : (v : ArenaView) (o : ℕ) (s : Splits) → IsAtUnlockAll v o s → (k : ℕ) → IsAmong s k → IsHeld v k o
among_held v o s all k among = elim among [
  | inl half ↦ let both = all.halves half.place half.in_range in elim half.is [
    | inl left ↦ subst (λ j. IsHeld v j o) left both.left.held
    | inr right ↦ subst (λ j. IsHeld v j o) right both.right.held
  ]
  | inr above ↦ (all.above k above).held
]

module _ (c : Core) (o : ℕ) (h : StateInvariant c) (few : c.steps < 2 ^ 59) (op : Operation) (there : operation_at c.table o ≡ Some op) where
  always : IsOpenOperation c op
  always = (h.ops o op there).always

  -- an answer that is there stays right
  answer_on : (arena : ArenaView) (w : Walk) (s : Splits) → content_of arena ≡ content_of c.arena → 0 < op.walk.first → HasAnswer c op
      → HasAnswer (splitting c arena c.tape c.accounts o op w op.outcome op.prepared s) (went_with op (c.steps + 1) w op.outcome op.prepared s)
  answer_on arena w s contents begun answer =
      let after = went_with op (c.steps + 1) w op.outcome op.prepared s in
      let new = splitting c arena c.tape c.accounts o op w op.outcome op.prepared s in
      let first = first_same c op always w begun in
      let stays : IsAnswer (shown new) (view_of op) answer.outcome = answer_stays (shown c) (shown new) (quiet_grows c o arena c.tape.reserved after contents) (view_of op) answer.outcome always.made answer.right in
      record {
        outcome = answer.outcome;
        told = answer.told;
        right = record {
          begun = first_begun c op always w;
          since = omega (arith, first, stays.since);
          upto = omega (arith, stays.upto, always.made);
          placed = stays.placed;
          lawful = lawful_more (map_of (shown new) op.task.tenant) (IsWithin op.walk.first op.last) (IsWithin after.walk.first after.last)
              (λ m between. (let since = between.0 in omega (arith, first, since), let upto = between.1 in omega (arith, upto, always.made))) (ask op.task) answer.outcome.reply stays.lawful;
        };
        unprepared = answer.unprepared;
      }

  -- a right half comes nearer to its place
  climbed_done : (arena : ArenaView) (w : Walk) (s : Splits) → IsClimb op.walk.phase → Climbs c o op arena w s
      → Gives (shown c) (splitting c arena c.tape c.accounts o op w op.outcome op.prepared s) o false
  climbed_done arena w s climb t =
      let was = halves_of op.walk.phase climb in
      let leads = climb_leads op.walk.phase w.phase climb t.follows in
      let after = went_with op (c.steps + 1) w op.outcome op.prepared s in
      let new = splitting c arena c.tape c.accounts o op w op.outcome op.prepared s in
      let answer = answer_on arena w s t.moves.contents (always.begun (halves_begun op.walk.phase was)) (climb_answer op.walk.phase climb c o op (h.ops o op there).kept) in
      quiet_gives_with c (shown c) o refl h few op there arena c.tape.reserved w op.outcome op.prepared s
      (moves_leave c o h arena t.moves) (halves_open op.walk.phase was) t.follows t.same.aim
      (halves_kind w.phase leads w.aim (t.same.aim ∙ halves_write op.walk.phase was op.walk.aim always.kind)) refl
      (climb_notes op.walk.phase w.phase climb leads (shown c) (view_of op))
      (λ k inside holds. halves_held w.phase leads after k t.some (t.holds k inside holds))
      (halves_kept w.phase leads new o after (climbing_of op.walk.phase climb c o op (h.ops o op there).kept).stays t.some t.kept answer)
      (λ facts. halves_back w.phase leads arena after)
      (λ none. absurd (both_ways _ none (halves_split w.phase leads)))
      (let none = unready_none op op.walk.phase refl (halves_unready op.walk.phase was) in let no = unready_none after w.phase refl (halves_unready w.phase leads) in omega (arith, none, no))
      t.touches false (sym (halves_open w.phase leads))

  -- what is kept of one that climbs, and that all that it holds are nodes of its splits
  climbing : IsClimb op.walk.phase → IsClimbing c o op op.walk.phase
  climbing climb = climbing_of op.walk.phase climb c o op (h.ops o op there).kept

  pub holds_among : IsClimb op.walk.phase → HoldsSplits c.arena o op.splits
  holds_among climb k within held =
      climb_among op.walk.phase climb op k (holds_here c (shown c) o refl h few op there op.walk.phase refl k within held)

  pub climb_done : (arena : ArenaView) (w : Walk) (s : Splits) (least : ℕ) → ArenaFacts c.arena → IsLeastBirth c.table c.steps least → IsClimb op.walk.phase
      → IsClimbFrom op.walk.phase least o c.arena arena op.walk w op.splits s
      → Gives (shown c) (splitting c arena c.tape c.accounts o op w op.outcome op.prepared s) o false
  climb_done arena w s least facts is_least climb t =
      let kept = (climbing climb).climbs in
      let on = climb_makes op.walk.phase climb least o c.arena arena op.walk w op.splits s t in
      let leaves = climb_leaves op.walk.phase climb least o c.arena arena op.walk w op.splits s facts.retired (are_forgotten c h facts least is_least.below) kept t in
      climbed_done arena w s climb (record {
        moves = moves_by c least o arena h leaves (changes_from c least o arena h.late is_least leaves.last on.steps (retires_given c.steps c.arena.retired arena.retired h.late leaves.retired)) on.contents;
        follows = climb_follows op.walk.phase climb least o c.arena arena op.walk w op.splits s t;
        same = on.same;
        kept = on.kept;
        some = climb_some op.walk.phase climb least o c.arena arena op.walk w op.splits s kept t;
        holds = on.holds (holds_among climb);
        touches = climb_touched least o op c.arena arena w s facts.retired (are_forgotten c h facts least is_least.below) op.walk.phase climb kept t;
      })

  module _ (at_start : op.walk.phase ≡ SplitStart) where
    starting : IsSplitStarting c o op
    starting = subst (λ (p : Phase). IsKeptAt p c o op) at_start (h.ops o op there).kept

    begun_start : 0 < op.walk.first
    begun_start = always.begun (λ enters. absurd (let no : SplitStart ≡ Enter = sym at_start ∙ enters in cc))

    starts_on : op.walk.aim ≡ aims.Write
    starts_on = subst (λ (p : Phase). IsOfKind p op.walk.aim) at_start always.kind

    -- the right half of the full node is made
    started_done : (arena : ArenaView) (w : Walk) (s : Splits) → StartsSplit c o op arena w s
        → Gives (shown c) (splitting c arena c.tape c.accounts o op w op.outcome op.prepared s) o false
    started_done arena w s t =
        let after = went_with op (c.steps + 1) w op.outcome op.prepared s in
        let new = splitting c arena c.tape c.accounts o op w op.outcome op.prepared s in
        let moves : w.phase ≡ SplitMove = ap (λ (x : Walk). x.phase) t.walk in
        let whole = walk_same c op always w begun_start t.same.first in
        let own : IsSplitMoving new o after = record {
          prepared = starting.prepared;
          has = starting.has;
          moves = subst (λ (x : Walk). IsAtSplitMove arena o op.task starting.prepared x s) (sym whole) (t.kept starting.prepared starting.has);
          put = starting.put;
          untold = starting.untold;
        } in
        quiet_gives_with c (shown c) o refl h few op there arena c.tape.reserved w op.outcome op.prepared s
        (moves_leave c o h arena t.moves) (ap is_done at_start)
        (subst (λ (p : Phase). MayFollow p w.phase) (sym at_start) (subst (MayFollow SplitStart) (sym moves) tt))
        t.same.aim (subst (λ (p : Phase). IsOfKind p w.aim) (sym moves) (t.same.aim ∙ starts_on)) refl
        (subst (λ (p : Phase). Notes (shown c) (view_of op) p w.phase op.outcome) (sym at_start) (subst (λ (p : Phase). Notes (shown c) (view_of op) SplitStart p op.outcome) (sym moves) (starting.untold, starting.untold)))
        (λ k inside holds. subst (λ (p : Phase). HoldsAt p after k) (sym moves) (t.holds k inside holds))
        (subst (λ (p : Phase). IsKeptAt p new o after) (sym moves) own)
        (λ facts. subst (λ (p : Phase). IsBackAt p arena after) (sym moves) tt)
        (λ none. absurd (both_ways _ none (ap has_splits moves)))
        (let one = ready_one op SplitStart at_start refl in let now = ready_one after SplitMove moves refl in omega (arith, one, now))
        t.touches false (sym (ap is_done moves))

    -- it holds its border node alone
    start_only : HoldsOnly c.arena o op.walk.place.node
    start_only j within holds = holds_here c (shown c) o refl h few op there SplitStart at_start j within holds

    pub start_done : (arena : ArenaView) (tape : Kept) (w : Walk) (s : Splits) (least : ℕ) → ArenaFacts c.arena → IsLeastBirth c.table c.steps least
        → IsSplitStart least o op.task.key c.arena arena c.tape tape op.walk w op.splits s
        → Gives (shown c) (splitting c arena tape c.accounts o op w op.outcome op.prepared s) o false
    start_done arena tape w s least facts is_least t =
        let leaves : LeavesNodes least o c.arena arena = subst (LeavesNodes least o c.arena) (sym t.is.is)
        (begun_leaves o c.arena op.walk.place.node t.is.low least starting.starts.holds.judged.held facts.retired (are_forgotten c h facts least is_least.below)) in
        let changes = changes_from c least o arena h.late is_least leaves.last t.steps (retires_given c.steps c.arena.retired arena.retired h.late leaves.retired) in
        subst (λ (tape : Kept). Gives (shown c) (splitting c arena tape c.accounts o op w op.outcome op.prepared s) o false) (sym t.tape_stays)
        (started_done arena w s (record {
          moves = moves_by c least o arena h leaves changes t.contents;
          walk = t.walk;
          same = t.same;
          kept =
              λ prepared has. t.kept op.task prepared refl (subst (λ (x : Prepared). IsAtSplitStart c.arena o op.task x op.walk) (same_Some starting.prepared prepared (sym starting.has ∙ has)) starting.starts);
          holds = t.holds start_only;
          touches = subst (Touches (view_of op) o c.arena) (sym t.is.is) (subst (λ (p : Phase). AreTouched p (view_of op) o c.arena (with_half_at c.arena op.walk.place.node t.is.low least o).nodes) (sym at_start)
              (half_touched (view_of op) o c.arena op.walk.place.node t.is.low least starting.starts.holds.judged.held facts.retired (are_forgotten c h facts least is_least.below)));
        }))

    -- there is no memory for it: the lock and the room on the tape are given back
    pub stop_done : (arena : ArenaView) (tape : Kept) (w : Walk) (s : Splits) → IsSplitStopped o c.arena arena c.tape tape op.walk w s
        → Gives (shown c) (splitting c arena tape c.accounts o op w (Some (record { reply = NoMemory; at = c.steps + 1 })) None s) o true
    stop_done arena tape w s t =
        let told : Option Outcome = Some (record { reply = NoMemory; at = c.steps + 1 }) in
        let k = op.walk.place.node in
        let n = at c.arena op.walk.place.node in
        let after = went_with op (c.steps + 1) w told None s in
        let new = splitting c arena (released c.tape) c.accounts o op w told None s in
        let g = t.unlocks in
        let within = starting.starts.holds.judged.held.there in
        let ends : w.phase ≡ Done = ap (λ (x : Walk). x.phase) g.walk in
        let own : HasAnswer new after = record {
          outcome = record { reply = NoMemory; at = c.steps + 1 };
          told = refl;
          right = record {
            begun = first_begun c op always w;
            since = first_upto c op always w;
            upto = omega arith;
            placed = λ real plain. absurd (cc);
            lawful = stopped_free (map_of (shown new) op.task.tenant) (IsWithin after.walk.first after.last) (ask op.task);
          };
          unprepared = refl;
        } in
        subst (λ (tape : Kept). Gives (shown c) (splitting c arena tape c.accounts o op w told None s) o true) (sym t.tape_is)
        (quiet_gives_with c (shown c) o refl h few op there arena (c.tape.reserved - 1) w told None s
        (subst (LeavesPairs c o) (sym g.is) (replaced_leaves c o h k within (unlocked n) refl refl refl (counted_unlocked n c.steps (h.versions k within) (unlocked n) refl) (λ e. absurd (cc))
        (subst (Guarantee o c.arena) g.is g.keeps.guarantee) (subst (λ (v : ArenaView). content_of v ≡ content_of c.arena) g.is g.keeps.contents)))
        (ap is_done at_start)
        (subst (λ (p : Phase). MayFollow p w.phase) (sym at_start) (subst (MayFollow SplitStart) (sym ends) tt))
        g.keeps.same.aim (subst (λ (p : Phase). IsOfKind p w.aim) (sym ends) tt) (sym (ap told_change starting.untold))
        (subst (λ (p : Phase). Notes (shown c) (view_of op) p w.phase told) (sym at_start) (subst (λ (p : Phase). Notes (shown c) (view_of op) SplitStart p told) (sym ends) refl))
        (λ j inside holds. absurd (free within j (subst (λ (v : ArenaView). j < length v.nodes) g.is inside) (subst (λ (v : ArenaView). (at v j).holder ≡ Some o) g.is holds)))
        (subst (λ (p : Phase). IsKeptAt p new o after) (sym ends) own)
        (λ facts. subst (λ (p : Phase). IsBackAt p arena after) (sym ends) tt)
        (λ none. t.unsplit)
        (let one = ready_one op SplitStart at_start refl in let no = unready_none after Done ends tt in let some = room_for c h o op SplitStart there at_start refl in omega (arith, one, no, some))
        (subst (Touches (view_of op) o c.arena) (sym g.is) (replaced_touches c.arena k within (unlocked n) (view_of op) o (inl starting.starts.holds.judged.held.holder)))
        true (sym (ap is_done ends)))
      where
        free : (within : op.walk.place.node < length c.arena.nodes) (j : ℕ)
            → j < length (with_node c.arena op.walk.place.node (unlocked (at c.arena op.walk.place.node))).nodes
            → (at (with_node c.arena op.walk.place.node (unlocked (at c.arena op.walk.place.node))) j).holder ≡ Some o → ⊥
        free within j inside holds = let r = replaced_at c.arena op.walk.place.node within (unlocked (at c.arena op.walk.place.node)) j inside in elim r.1 [
          | inl same ↦ let no = ap (λ (m : NodeView). m.holder) (sym same.1) ∙ holds in cc
          | inr other ↦ other.0 (holds_here c (shown c) o refl h few op there SplitStart at_start j r.0 (ap (λ (m : NodeView). m.holder) (sym other.1) ∙ holds))
        ]

  module _ (at_unlock : op.walk.phase ≡ Unlock) (told : op.outcome ≢ None) (some : op.splits.halves.items ≢ []) where
    unlocking : IsUnlocking c o op
    unlocking = returning_told op.outcome told c o op (subst (λ (p : Phase). IsKeptAt p c o op) at_unlock (h.ops o op there).kept)

    all : IsAtUnlockAll c.arena o op.splits
    all = may_unlock_all op.splits.halves.items c.arena o op some unlocking.unlocks

    begun_unlock : 0 < op.walk.first
    begun_unlock = always.begun (λ enters. absurd (let no : Unlock ≡ Enter = sym at_unlock ∙ enters in cc))

    last_among : (l : List Halves) (k : ℕ) → l ≢ [] → HoldsLast l op k → IsAmong op.splits k
    last_among [] k there holds = absurd (there refl)
    last_among (x ∷ l) k there holds = holds

    -- each node is one of the splits, whose lock was given back, or is as it was
    each_returned : (arena : ArenaView) → Returns c.arena arena op.splits → (k : ℕ) → k < length c.arena.nodes
        → (((at c.arena k).holder ≡ Some o) × (at arena k ≡ unlocked (at c.arena k))) ⊎ (at arena k ≡ at c.arena k)
    each_returned arena r k inside = elim (is_held_or_not (at c.arena k).holder o) [
      | inl held ↦ inl (held, r.given k (last_among op.splits.halves.items k some (holds_here c (shown c) o refl h few op there Unlock at_unlock k inside held)))
      | inr free ↦ inr (r.others k (λ among. free (among_held c.arena o op.splits all k among).holder))
    ]

    -- the locks of all nodes of the splits are given back
    pub return_done : (arena : ArenaView) (w : Walk) (s : Splits) → IsUnlockAll o c.arena arena op.walk w op.splits s
        → Gives (shown c) (splitting c arena c.tape c.accounts o op w op.outcome op.prepared s) o true
    return_done arena w s t =
        let after = went_with op (c.steps + 1) w op.outcome op.prepared s in
        let new = splitting c arena c.tape c.accounts o op w op.outcome op.prepared s in
        let ends : w.phase ≡ Done = ap (λ (x : Walk). x.phase) t.walk in
        let each = each_returned arena t.is in
        quiet_gives_with c (shown c) o refl h few op there arena c.tape.reserved w op.outcome op.prepared s
        (returned_leaves c o h arena t.is.count t.is.trees each t.keeps.guarantee t.keeps.contents t.is.retired)
        (ap is_done at_unlock)
        (subst (λ (p : Phase). MayFollow p w.phase) (sym at_unlock) (subst (MayFollow Unlock) (sym ends) tt))
        t.keeps.same.aim (subst (λ (p : Phase). IsOfKind p w.aim) (sym ends) tt) refl
        (subst (λ (p : Phase). Notes (shown c) (view_of op) p w.phase op.outcome) (sym at_unlock) (subst (λ (p : Phase). Notes (shown c) (view_of op) Unlock p op.outcome) (sym ends) refl))
        (λ k inside holds. absurd (t.nothing (λ j within held. last_among op.splits.halves.items j some (holds_here c (shown c) o refl h few op there Unlock at_unlock j within held)) k inside holds))
        (subst (λ (p : Phase). IsKeptAt p new o after) (sym ends) (answer_on arena w s t.keeps.contents begun_unlock unlocking.answer))
        (λ facts. subst (λ (p : Phase). IsBackAt p arena after) (sym ends) tt)
        (λ none. t.unsplit)
        (let none = unready_none op Unlock at_unlock tt in let no = unready_none after Done ends tt in omega (arith, none, no))
        (returned_touches c o h arena t.is.count t.is.trees each (view_of op))
        true (sym (ap is_done ends))
