-- A step that changes no pair: what it leaves to others, and that the invariant stays: for all phases but Store and Publish.
use Rattle.std.proofs.Common.{◌≡◌, ℕ, ◌+◌, ◌<◌, ◌≤◌, ◌⊎◌, inl, inr, true, false, List, [], length, set, Some, refl, sym, ap, subst, arith}
use Rattle.std.proofs.lemmas.List.Elements.{All-from_get_or}
use Rattle.std.specs.FinMap.{len}
use Rattle.mt_rows.specs.{Rows.Bytes, Tenants.{Contents, tenant_map}}
use Rattle.mt_border.{specs.{Contents.{AllStamped, IsStamped}, declared.entry.Entry.Entry}, proofs.{ContentsStamps.stamped_weaker, Edits.any_entry}}
use Rattle.mt_tape.specs.Histories.{contents_at, IsLegalTape}
use Rattle.mt_arena.specs.{Arena.{ArenaView, content_of}, Contents.counts, Accesses.{at, tree_of}, NodeView.NodeView, Layers.slot_at}
use Rattle.mt_operation.specs.{declared.operation.Operation.Operation, Operations.view_of, Phases.is_done, Tables.{op_at as operation_at}}
use Rattle.mt_state.specs.{Views.{Core, shown, KeepsPast}, Steps.change_in, Promises.IsQuiet, KeptOperations.IsKeptOf, KeptBack.{Retires, TakesLive}, Given.ChangesArena}
use Rattle.mt_state.specs.Invariant.{IsTape, AreStamps, IsStampOf, IsCountedUpTo, HoldsAt, DeletedAreEmpty, StateInvariant, StateGuarantee, one_if_prepared}
use Rattle.mt_state.specs.{Moves.{IsMove, IsStillAsked, BringsScan}, Growth.MakesFew}
use Rattle.mt_state.proofs.{Telling.logs_later, KeptBack.{BringsBack, own_back}}

-- each slot of the second node is one of the first
abbrev pub AreSlotsOf : NodeView → NodeView → Type 0
AreSlotsOf n m = (i : ℕ) → i < length m.slots → (j : ℕ) × (j < length n.slots) × (slot_at m i ≡ slot_at n j)

pub same_slots : (n m : NodeView) → m.slots ≡ n.slots → AreSlotsOf n m
same_slots n m same i within =
    (i, subst (λ (s : List Entry). i < length s) same within, ap (λ (s : List Entry). slot_at (record n { slots = s }) i) same)

-- a node whose pairs count had these pairs, and they counted
pub record HasPairsOf (old new : ArenaView) (k : ℕ) : Type 0 where
  pub there : k < length old.nodes
  pub counted : counts old.trees (at old k) ≡ true
  pub prefix : (tree_of new k).prefix ≡ (tree_of old k).prefix
  pub slots : AreSlotsOf (at old k) (at new k)

-- what a step leaves that changes no pair
abbrev pub quiet : Core → ArenaView → ℕ → ℕ → Operation → Core
quiet c arena reserved o after = record {
  steps = c.steps + 1;
  answers = c.answers;
  logs = c.logs;
  accounts = c.accounts;
  arena = arena;
  tape = record c.tape { reserved = reserved };
  table = set c.table o (Some after);
}

-- what it makes of the arena: the pairs stand as they did, each where it stood, and what is new has none
pub record LeavesPairs (c : Core) (o : ℕ) (arena : ArenaView) : Type 0 where
  pub changes : ChangesArena (shown c) o arena
  pub contents : content_of arena ≡ content_of c.arena
  pub stood : (k : ℕ) → k < length arena.nodes → counts arena.trees (at arena k) ≡ true → HasPairsOf c.arena arena k ⊎ ((at arena k).slots ≡ [])
  pub versions : (k : ℕ) → k < length arena.nodes → IsCountedUpTo (c.steps + 1) (at arena k)
  pub deleted : DeletedAreEmpty arena
  pub taken_out : Retires c.steps c.arena.retired arena.retired
  pub takes : TakesLive o c.arena arena
  pub makes : MakesFew c.arena arena

-- what it brings of its own operation
pub record IsOwn (c new : Core) (o : ℕ) (before after : Operation) : Type 0 where
  pub there : operation_at c.table o ≡ Some before
  pub unfinished : is_done before.walk.phase ≡ false
  pub asked : IsStillAsked before after
  pub scan : BringsScan new before after
  pub held : (k : ℕ) → k < length new.arena.nodes → (at new.arena k).holder ≡ Some o → HoldsAt after.walk.phase after k
  pub kept : IsKeptOf new o after
  pub back : BringsBack c new.arena before after
  pub reserved : new.tape.reserved + one_if_prepared (Some before) ≡ c.tape.reserved + one_if_prepared (Some after)

module _ (c : Core) (o : ℕ) (before after : Operation) (arena : ArenaView) (reserved : ℕ) (h : StateInvariant c) (leaves : LeavesPairs c o arena) where
  grows : KeepsPast (shown c) (shown (quiet c arena reserved o after))
  grows = record {
    steps = omega arith;
    quotas = λ t. refl;
    maps = λ t m le. ap (λ (all : Contents). tenant_map t (contents_at c.tape.entries all m)) leaves.contents;
    changes = λ m le. refl;
  }

  guarantee : StateGuarantee c (quiet c arena reserved o after) o
  guarantee = record {
    arena = leaves.changes;
    grows = grows;
    past = record { steps = omega arith; same = λ n from upto. ap (λ (all : Contents). contents_at c.tape.entries all n) leaves.contents };
    writes = λ e there. there;
    accounts = λ t there. there;
    floor = refl;
  }

  tape : IsTape (quiet c arena reserved o after)
  tape = record {
    rises = h.tape.rises;
    made = omega (arith, h.tape.made);
    legal = subst (λ (all : Contents). IsLegalTape c.tape.entries all) (sym leaves.contents) h.tape.legal;
    keys = h.tape.keys;
    logs = logs_later c.logs c.tape.floor c.steps h.tape.logs;
  }

  stamps : AreStamps (quiet c arena reserved o after)
  stamps k within counted = elim (leaves.stood k within counted) [
    | inl was ↦
        subst (λ (prefix : Bytes). AllStamped (IsStampOf (c.steps + 1) (record c.tape { reserved = reserved })) prefix (at arena k).slots) (sym was.prefix)
        (All-from_get_or (IsStamped (IsStampOf (c.steps + 1) (record c.tape { reserved = reserved })) (tree_of c.arena k).prefix) (at arena k).slots any_entry (λ i inside.
        let s = was.slots i inside in
        subst (IsStamped (IsStampOf (c.steps + 1) (record c.tape { reserved = reserved })) (tree_of c.arena k).prefix) (sym s.2)
        (stamped_weaker (IsStampOf c.steps c.tape) (IsStampOf (c.steps + 1) (record c.tape { reserved = reserved })) (tree_of c.arena k).prefix (at c.arena k).slots
        (λ q s w. (omega (arith, w.0), w.1, w.2)) (h.stamps k was.there was.counted) s.0 any_entry s.1)))
    | inr none ↦ subst (λ (slots : List Entry). AllStamped (IsStampOf (c.steps + 1) (record c.tape { reserved = reserved })) (tree_of arena k).prefix slots) (sym none) (λ i default within. absurd (omega arith))
  ]

  pub quiet_move : IsOwn c (quiet c arena reserved o after) o before after → IsMove c (quiet c arena reserved o after) o before after
  quiet_move own = record {
    there = own.there;
    unfinished = own.unfinished;
    asked = own.asked;
    scan = own.scan;
    table = refl;
    number = refl;
    answers = refl;
    leaves = guarantee;
    tape = tape;
    stamps = stamps;
    versions = leaves.versions;
    held = own.held;
    counts = λ t a is. subst (λ (all : Contents). (a.count ≡ len (tenant_map t all)) × (a.count ≤ a.quota)) (sym leaves.contents) (h.counts t a is);
    kept = own.kept;
    reserved = own.reserved;
    deleted = leaves.deleted;
    late = leaves.taken_out.upto;
    remembered = own_back c o before h own.there arena leaves.changes leaves.taken_out leaves.takes after own.back;
  }

  pub is_quiet : change_in (view_of after) ≡ change_in (view_of before)
      → IsQuiet (shown c) (shown (quiet c arena reserved o after)) (view_of before) (view_of after)
  is_quiet same = record { contents = leaves.contents; entries = refl; change = same }
