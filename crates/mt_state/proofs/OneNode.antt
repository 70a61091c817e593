-- A node that is replaced in an arena, and a step of the operation that holds it which changes no pair: for the phases of a put.
use Rattle.std.proofs.Common.{◌≡◌, ◌≢◌, ℕ, ◌+◌, ◌<◌, ◌≤◌, ◌⊎◌, inl, inr, Bool, true, false, cond, List, length, set, Option, Some, None, refl, sym, ap, subst, ◌∙◌, arith, []}
use Rattle.std.proofs.{lemmas.Bool.cases_eq, lemmas.Option.same_Some, lemmas.List.length-set}
use Rattle.std.specs.Prelude.{◌^◌}
use Rattle.mt_version.specs.{Parts.Parts, Changes.{CanUnlock, unlocked_parts}}
use Rattle.mt_rows.specs.{Tenants.{Contents, tenant_map}, Accounts.Accounts}
use Rattle.mt_tape.specs.{Tapes.Kept, Histories.contents_at}
use Rattle.mt_arena.specs.{declared.tree.Tree.Tree, declared.tree.Standing.Standing, declared.tree.Standing.TheVariants.{Made, Live, Dead}}
use Rattle.mt_arena.specs.{NodeView.{NodeView, node_at}, Forests.tree_at, Contents.{counts, is_live}, Arena.{ArenaView, content_of, Guarantee}}
use Rattle.mt_arena.specs.Accesses.{at, with_node}
use Rattle.mt_arena.specs.Given.{IsTreeOutFrom}
use Rattle.mt_arena.proofs.Pairs.{here, there}
use Rattle.mt_operation.specs.{declared.phase.Phase.Phase, declared.walk.Walk.Walk, declared.outcome.Outcome.Outcome, declared.prepared.Prepared.Prepared}
use Rattle.mt_operation.specs.{declared.splits.Splits.Splits, declared.operation.Operation.Operation, Operations.{OperationView, view_of, IsUnsplit, no_removal}}
use Rattle.mt_operation.specs.{Phases.{is_done, MayFollow, IsOfKind, has_splits}, Tables.{op_at as operation_at}, declared.removal.Removal.Removal, Tasks.ask}
use Rattle.mt_state.specs.{Views.{StateView, Core, shown, KeepsPast}, Steps.change_in, Notes.Notes, Touches.{HoldsOrLocks, Touches}}
use Rattle.mt_state.specs.{KeptOperations.{IsUnlocking, IsReturning, IsKeptAt, IsKeptOf}, KeptBack.{ArenaFacts, IsBackAt, TakesLive}}
use Rattle.mt_state.specs.Invariant.{IsCountedUpTo, HoldsAt, StateInvariant, one_if_prepared, DeletedAreEmpty}
use Rattle.mt_state.proofs.{Quiet.{HasPairsOf, quiet, LeavesPairs, quiet_move, is_quiet, same_slots}, Telling.{Gives, gives}}
use Rattle.mt_state.proofs.{Moved.{went, went_with, went_on, open_moved_on, has_moved_on}, Still.floor_made, Growing.{makes_set, retires_same, changes_on}}
use Rattle.mt_remove.specs.{KeptRemovals.{IsAmong as IsOfRemoval}, Writes.is_remove}

-- what is left of a state by a step of operation o: another arena, tape, accounts, and the operation after it
abbrev pub stepped : Core → ArenaView → Kept → Accounts → ℕ → Operation → Core
stepped c arena tape accounts o after = record {
  steps = c.steps + 1;
  answers = c.answers;
  logs = c.logs;
  accounts = accounts;
  arena = arena;
  tape = tape;
  table = set c.table o (Some after);
}

-- a version whose lock may be given back after so many steps, and what it counts then
pub can_unlock : (n : NodeView) (steps : ℕ) → IsCountedUpTo steps n → steps ≤ 2 ^ 59 → CanUnlock n.version
can_unlock n steps counted few = (λ _. omega (arith, counted.splits, few), λ _ _. omega (arith, counted.inserts, few))

pub counted_unlocked : (n : NodeView) (steps : ℕ) → IsCountedUpTo steps n → (m : NodeView) → m.version ≡ unlocked_parts n.version → IsCountedUpTo (steps + 1) m
counted_unlocked n steps counted m is = record {
  inserts = subst (λ (p : Parts). p.inserts ≤ steps + 1) (sym is) (one_more_at_most n.version.splitting n.version.inserting n.version.inserts counted.inserts);
  splits = subst (λ (p : Parts). p.splits ≤ steps + 1) (sym is) (raised_at_most n.version.splitting n.version.splits counted.splits);
}
  where
    raised_at_most : (b : Bool) (count : ℕ) → count ≤ steps → cond b (count + 1) count ≤ steps + 1
    raised_at_most true count le = omega (arith, le)
    raised_at_most false count le = omega (arith, le)

    one_more_at_most : (b inserting : Bool) (count : ℕ) → count ≤ steps → cond b count (cond inserting (count + 1) count) ≤ steps + 1
    one_more_at_most true inserting count le = omega (arith, le)
    one_more_at_most false inserting count le = raised_at_most inserting count le

-- a node counts as another one of the same tree
pub same_counts : (trees : List Tree) (m n : NodeView) → m.version.deleted ≡ n.version.deleted → m.tree ≡ n.tree → counts trees m ≡ counts trees n
same_counts trees m n deleted tree =
    ap (λ d. cond d false (is_live (tree_at trees m.tree).standing)) deleted ∙ ap (λ t. cond n.version.deleted false (is_live (tree_at trees t).standing)) tree

-- and where it counts its tree is live
pub counted_live : (trees : List Tree) (n : NodeView) → counts trees n ≡ true → (tree_at trees n.tree).standing ≡ Live
counted_live trees n = by_parts n.version.deleted (tree_at trees n.tree).standing
  where
    by_parts : (deleted : Bool) (standing : Standing) → cond deleted false (is_live standing) ≡ true → standing ≡ Live
    by_parts true standing e = absurd (cc)
    by_parts false (Made by) e = absurd (cc)
    by_parts false Live e = refl
    by_parts false Dead e = absurd (cc)

-- what is kept of an operation that was placed is kept of it by its outcome, which is there
pub returning_by : (told : Option Outcome) (outcome : Outcome) → told ≡ Some outcome → (c : Core) (o : ℕ) (op : Operation) → IsUnlocking c o op
    → IsReturning told c o op
returning_by None outcome is c o op unlocks = absurd (cc)
returning_by (Some other) outcome is c o op unlocks = unlocks

-- and by an outcome that is there it is one that was placed
pub returning_told : (told : Option Outcome) → told ≢ None → (c : Core) (o : ℕ) (op : Operation) → IsReturning told c o op → IsUnlocking c o op
returning_told None some c o op returns = absurd (some refl)
returning_told (Some outcome) some c o op returns = returns

-- an operation that remembers no removal holds its border node alone
pub border_alone : (w : Walk) (r : Removal) (k : ℕ) → r ≡ no_removal → IsOfRemoval w r k → k ≡ w.place.node
border_alone w r k none holds = elim holds [
  | inl is ↦ is
  | inr (inl left) ↦ absurd (let no = ap (λ (x : Removal). x.left) (sym none) ∙ left in cc)
  | inr (inr (inl parent)) ↦ absurd (let no = ap (λ (x : Removal). x.parent) (sym none) ∙ parent in cc)
  | inr (inr (inr below)) ↦ absurd (let no = ap (λ (x : Removal). x.below) (sym none) ∙ below in cc)
]

-- one node of many is another
module _ (v : ArenaView) (k : ℕ) (within : k < length v.nodes) (n : NodeView) where
  -- each node is the one that was put in, or the one that it was
  pub replaced_at : (j : ℕ) → j < length (with_node v k n).nodes
      → (j < length v.nodes) × (((j ≡ k) × (at (with_node v k n) j ≡ n)) ⊎ ((j ≢ k) × (at (with_node v k n) j ≡ at v j)))
  replaced_at j inside =
      let is : j < length v.nodes = omega (arith, inside, length-set v.nodes k n) in (
        is,
        elim (cases_eq j k) [
          | inl same ↦ inl (same, ap (node_at (set v.nodes k n)) same ∙ here v.nodes k n within)
          | inr other ↦ inr (other, there v.nodes k j n other)
        ],
      )

  -- so what is said of that one and of each that was there holds of each
  pub replaced_all : (P : NodeView → Type 0) → P n → ((j : ℕ) → j < length v.nodes → P (at v j)) → (j : ℕ) → j < length (with_node v k n).nodes
      → P (at (with_node v k n) j)
  replaced_all P new old j inside = let r = replaced_at j inside in elim r.1 [
    | inl same ↦ subst P (sym same.1) new
    | inr other ↦ subst P (sym other.1) (old j r.0)
  ]

  -- a node that an operation holds is that one, or it held it
  pub replaced_holds : (o : ℕ) (j : ℕ) → j < length (with_node v k n).nodes → (at (with_node v k n) j).holder ≡ Some o
      → ((j ≡ k) × (n.holder ≡ Some o)) ⊎ ((j < length v.nodes) × ((at v j).holder ≡ Some o))
  replaced_holds o j inside holds = let r = replaced_at j inside in elim r.1 [
    | inl same ↦ inl (same.0, ap (λ (m : NodeView). m.holder) (sym same.1) ∙ holds)
    | inr other ↦ inr (r.0, ap (λ (m : NodeView). m.holder) (sym other.1) ∙ holds)
  ]

  -- so where it held that one, or takes it live
  pub replaced_takes : (o : ℕ) → (n.holder ≡ Some o → ((at v k).holder ≡ Some o) ⊎ ((at v k).version.deleted ≡ false)) → TakesLive o v (with_node v k n)
  replaced_takes o takes j inside holds = elim (replaced_holds o j inside holds) [
    | inl (same, held) ↦
        inl ((replaced_at j inside).0, subst (λ i. ((at v i).holder ≡ Some o) ⊎ ((at v i).version.deleted ≡ false)) (sym same) (takes held))
    | inr (was, held) ↦ inl (was, inl held)
  ]

  -- those that were taken out have no slots
  pub replaced_deleted : DeletedAreEmpty v → (n.version.deleted ≡ true → n.slots ≡ []) → DeletedAreEmpty (with_node v k n)
  replaced_deleted all empty = replaced_all (λ (m : NodeView). m.version.deleted ≡ true → m.slots ≡ []) empty all

  -- whoever held it, or takes its lock, touches nothing else
  pub replaced_touches : (op : OperationView) (o : ℕ) → HoldsOrLocks op.phase o (at v k) n → Touches op o v (with_node v k n)
  replaced_touches op o holds j inside = elim (cases_eq j k) [
    | inl same ↦
        let is : at (with_node v k n) j ≡ n = ap (node_at (set v.nodes k n)) same ∙ here v.nodes k n within in
        inr (inl (elim holds [
          | inl before ↦ inl (ap (λ i. (at v i).holder) same ∙ before)
          | inr (locks, now) ↦ inr (locks, ap (λ (m : NodeView). m.holder) is ∙ now)
        ]))
    | inr other ↦ inl (there v.nodes k j n other)
  ]

-- a count of so many steps is one of more
pub counted_later : (steps : ℕ) (n : NodeView) → IsCountedUpTo steps n → IsCountedUpTo (steps + 1) n
counted_later steps n was = record { inserts = omega (arith, was.inserts); splits = omega (arith, was.splits) }

-- another node of the same slots and tree, in the place of one
module _ (c : Core) (o : ℕ) (h : StateInvariant c) (k : ℕ) (within : k < length c.arena.nodes) (n : NodeView) where
  -- the versions count up to the next step
  pub replaced_versions : IsCountedUpTo (c.steps + 1) n → (j : ℕ) → j < length (with_node c.arena k n).nodes
      → IsCountedUpTo (c.steps + 1) (at (with_node c.arena k n) j)
  replaced_versions counted =
      replaced_all c.arena k within n (IsCountedUpTo (c.steps + 1)) counted (λ j inside. counted_later c.steps (at c.arena j) (h.versions j inside))

  pub replaced_leaves : n.slots ≡ (at c.arena k).slots → n.tree ≡ (at c.arena k).tree → n.version.deleted ≡ (at c.arena k).version.deleted
      → IsCountedUpTo (c.steps + 1) n
      → (n.holder ≡ Some o → ((at c.arena k).holder ≡ Some o) ⊎ ((at c.arena k).version.deleted ≡ false))
      → Guarantee o c.arena (with_node c.arena k n) → content_of (with_node c.arena k n) ≡ content_of c.arena → LeavesPairs c o (with_node c.arena k n)
  replaced_leaves slots tree deleted counted takes guarantee contents = record {
    changes = changes_on c o (with_node c.arena k n) (length-set c.arena.nodes k n) refl guarantee (retires_same c (with_node c.arena k n) h.late refl);
    contents = contents;
    stood = λ j inside is_counted. inl (stood j inside is_counted);
    versions = replaced_versions counted;
    deleted = replaced_deleted c.arena k within n h.deleted (λ gone. slots ∙ h.deleted k within (sym deleted ∙ gone));
    taken_out = retires_same c (with_node c.arena k n) h.late refl;
    takes = replaced_takes c.arena k within n o takes;
    makes = makes_set c.arena k n;
  }
    where
      stood : (j : ℕ) → j < length (with_node c.arena k n).nodes → counts c.arena.trees (at (with_node c.arena k n) j) ≡ true
          → HasPairsOf c.arena (with_node c.arena k n) j
      stood j inside is_counted =
          let r = replaced_at c.arena k within n j inside in
          elim r.1 [
            | inl is ↦
                let same = ap (λ i. at c.arena i) (sym is.0) in
                record {
                  there = r.0;
                  counted =
                      sym (same_counts c.arena.trees n (at c.arena j) (deleted ∙ ap (λ (m : NodeView). m.version.deleted) same) (tree ∙ ap (λ (m : NodeView). m.tree) same))
                      ∙ ap (counts c.arena.trees) (sym is.1) ∙ is_counted;
                  prefix =
                      ap (λ (m : NodeView). (tree_at c.arena.trees m.tree).prefix) is.1 ∙ ap (λ t. (tree_at c.arena.trees t).prefix) (tree ∙ ap (λ (m : NodeView). m.tree) same);
                  slots = same_slots (at c.arena j) (at (with_node c.arena k n) j) (ap (λ (m : NodeView). m.slots) is.1 ∙ slots ∙ ap (λ (m : NodeView). m.slots) same);
                }
            | inr other ↦ record {
              there = r.0;
              counted = ap (counts c.arena.trees) (sym other.1) ∙ is_counted;
              prefix = ap (λ (m : NodeView). (tree_at c.arena.trees m.tree).prefix) other.1;
              slots = same_slots (at c.arena j) (at (with_node c.arena k n) j) (ap (λ (m : NodeView). m.slots) other.1);
            }
          ]

module _ (c : Core) (o : ℕ) (arena : ArenaView) (reserved : ℕ) (after : Operation) (same : content_of arena ≡ content_of c.arena) where
  -- the past stays where the pairs do
  pub quiet_grows : KeepsPast (shown c) (shown (quiet c arena reserved o after))
  quiet_grows = record {
    steps = omega arith;
    quotas = λ t. refl;
    maps = λ t m le. ap (λ (all : Contents). tenant_map t (contents_at c.tape.entries all m)) same;
    changes = λ m le. refl;
  }

module _ (c : Core) (now : StateView) (o : ℕ) (is : shown c ≡ now) (h : StateInvariant c) (room : now.steps < 2 ^ 59) (op : Operation) (there : operation_at c.table o ≡ Some op) where
  -- fewer steps were made than may be
  pub few_steps : c.steps < 2 ^ 59
  few_steps = subst (λ (v : StateView). v.steps < 2 ^ 59) (sym is) room

  -- a node that it holds is one that it holds at its phase
  pub holds_here : (p : Phase) → op.walk.phase ≡ p → (j : ℕ) → j < length c.arena.nodes → (at c.arena j).holder ≡ Some o → HoldsAt p op j
  holds_here p at_p j inside holds =
      let f = h.holders j o inside holds in
      let it = same_Some f.0 op (sym f.1 ∙ there) in
      subst (λ (q : Phase). HoldsAt q op j) at_p (subst (λ (x : Operation). HoldsAt x.walk.phase x j) it f.2)

  -- a step that changes no pair, by what it leaves and what is kept of its operation, which has these splits and this of its removal then
  pub quiet_gives_on : (arena : ArenaView) (reserved : ℕ) (w : Walk) (told : Option Outcome) (prepared : Option Prepared) (s : Splits) (r : Removal)
      → LeavesPairs c o arena → (is_remove (ask op.task) ≡ false → r ≡ no_removal) → is_done op.walk.phase ≡ false → MayFollow op.walk.phase w.phase
      → w.aim ≡ op.walk.aim → IsOfKind w.phase w.aim → change_in (view_of (went_on op (c.steps + 1) w told prepared s r)) ≡ change_in (view_of op)
      → Notes (shown c) (view_of op) op.walk.phase w.phase told
      → ((k : ℕ) → k < length arena.nodes → (at arena k).holder ≡ Some o → HoldsAt w.phase (went_on op (c.steps + 1) w told prepared s r) k)
      → IsKeptAt w.phase (quiet c arena reserved o (went_on op (c.steps + 1) w told prepared s r)) o (went_on op (c.steps + 1) w told prepared s r)
      → (ArenaFacts c.arena → IsBackAt w.phase arena (went_on op (c.steps + 1) w told prepared s r))
      → (ArenaFacts c.arena → (t : ℕ) → r.cleans ≡ Some t → IsTreeOutFrom (op.birth + 1) c.arena.retired t)
      → (has_splits w.phase ≡ false → IsUnsplit s)
      → reserved + one_if_prepared (Some op) ≡ c.tape.reserved + one_if_prepared (Some (went_on op (c.steps + 1) w told prepared s r))
      → Touches (view_of op) o c.arena arena → (done : Bool) → done ≡ is_done w.phase
      → Gives now (quiet c arena reserved o (went_on op (c.steps + 1) w told prepared s r)) o done
  quiet_gives_on arena reserved w told prepared s r leaves light unfinished follows writes kind same notes held kept back cleans unsplit reserves touches done ends =
      let after = went_on op (c.steps + 1) w told prepared s r in
      let new = quiet c arena reserved o after in
      let k = h.ops o op there in
      let own : IsKeptOf new o after = record {
        always = open_moved_on c op k.always w new told prepared s r light refl refl (λ t some. some) (floor_made c h.tape) writes kind;
        kept = kept;
        unsplit = unsplit;
        placed = λ m placed. let once = k.placed m (sym same ∙ placed) in record {
          entry = once.entry;
          there = once.there;
          step_is = once.step_is;
          worker = once.worker;
          tenant = once.tenant;
          key_is = once.key_is;
          makes = once.makes;
          keeps = once.keeps;
          was = once.was;
          met = once.met;
        };
      } in
      gives now c new o op after is h few_steps
      (quiet_move c o op after arena reserved h leaves (record {
        there = there;
        unfinished = unfinished;
        asked = refl;
        scan = inl (refl, refl);
        held = held;
        kept = own;
        back = record { birth = refl; walk = back; cleans = cleans };
        reserved = reserves;
      }))
      (record {
        logs = refl;
        moves = has_moved_on c op k.always w told prepared s r follows;
        notes = notes;
        touches = touches;
        effect = inl (is_quiet c o op after arena reserved h leaves same);
        makes = leaves.makes;
      })
      done ends

  -- one that leaves what is remembered of a removal
  pub quiet_gives_with : (arena : ArenaView) (reserved : ℕ) (w : Walk) (told : Option Outcome) (prepared : Option Prepared) (s : Splits)
      → LeavesPairs c o arena → is_done op.walk.phase ≡ false → MayFollow op.walk.phase w.phase
      → w.aim ≡ op.walk.aim → IsOfKind w.phase w.aim → change_in (view_of (went_with op (c.steps + 1) w told prepared s)) ≡ change_in (view_of op)
      → Notes (shown c) (view_of op) op.walk.phase w.phase told
      → ((k : ℕ) → k < length arena.nodes → (at arena k).holder ≡ Some o → HoldsAt w.phase (went_with op (c.steps + 1) w told prepared s) k)
      → IsKeptAt w.phase (quiet c arena reserved o (went_with op (c.steps + 1) w told prepared s)) o (went_with op (c.steps + 1) w told prepared s)
      → (ArenaFacts c.arena → IsBackAt w.phase arena (went_with op (c.steps + 1) w told prepared s))
      → (has_splits w.phase ≡ false → IsUnsplit s)
      → reserved + one_if_prepared (Some op) ≡ c.tape.reserved + one_if_prepared (Some (went_with op (c.steps + 1) w told prepared s))
      → Touches (view_of op) o c.arena arena → (done : Bool) → done ≡ is_done w.phase
      → Gives now (quiet c arena reserved o (went_with op (c.steps + 1) w told prepared s)) o done
  quiet_gives_with arena reserved w told prepared s leaves unfinished follows writes kind same notes held kept back =
      quiet_gives_on arena reserved w told prepared s op.removal leaves (h.ops o op there).always.light unfinished follows writes kind same notes held kept back
      (λ facts. (h.remembered o op there).cleans)

  -- one that leaves the splits, of an operation that has none
  pub quiet_gives : (arena : ArenaView) (reserved : ℕ) (w : Walk) (told : Option Outcome) (prepared : Option Prepared) → LeavesPairs c o arena
      → is_done op.walk.phase ≡ false → MayFollow op.walk.phase w.phase
      → w.aim ≡ op.walk.aim → IsOfKind w.phase w.aim → change_in (view_of (went op (c.steps + 1) w told prepared)) ≡ change_in (view_of op)
      → Notes (shown c) (view_of op) op.walk.phase w.phase told
      → ((k : ℕ) → k < length arena.nodes → (at arena k).holder ≡ Some o → HoldsAt w.phase (went op (c.steps + 1) w told prepared) k)
      → IsKeptAt w.phase (quiet c arena reserved o (went op (c.steps + 1) w told prepared)) o (went op (c.steps + 1) w told prepared)
      → (ArenaFacts c.arena → IsBackAt w.phase arena (went op (c.steps + 1) w told prepared))
      → IsUnsplit op.splits
      → reserved + one_if_prepared (Some op) ≡ c.tape.reserved + one_if_prepared (Some (went op (c.steps + 1) w told prepared))
      → Touches (view_of op) o c.arena arena → (done : Bool) → done ≡ is_done w.phase → Gives now (quiet c arena reserved o (went op (c.steps + 1) w told prepared)) o done
  quiet_gives arena reserved w told prepared leaves unfinished follows writes kind same notes held kept back unsplit =
      quiet_gives_with arena reserved w told prepared op.splits leaves unfinished follows writes kind same notes held kept back (λ none. unsplit)
