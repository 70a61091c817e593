-- The step of a split that parts the keys of a full node and its right half, with the new pair or, at a full quota, without it.
use Rattle.std.proofs.Common.{◌≡◌, ◌≢◌, ℕ, ◌+◌, ◌-◌, ◌<◌, ◌≤◌, inl, inr, true, false, List, [], ◌++◌, length, set, Option, Some, None, refl, sym, ap, subst, ◌∙◌, arith}
use Rattle.std.proofs.{lemmas.Bool.{cases_eq, both_ways}, lemmas.Option.same_Some, lemmas.List.length-set}
use Rattle.std.specs.{Prelude.{◌^◌}, FinMap.{get, len, insert}}
use Rattle.mt_slices.specs.Slices.{suffix_of}
use Rattle.mt_rows.specs.{declared.reply.Reply.TheVariants.{New, Full}, Rows.{Bytes, Columns}, Stamps.{Stamped, stamp_in}, Commands.key_of, Maps.reply_of}
use Rattle.mt_rows.specs.{Accounts.{Accounts, account_of, HasRoom}, Tenants.{Contents, tenant_map}}
use Rattle.mt_rows.proofs.ContentLaws.{get-tenant_map}
use Rattle.mt_border.specs.{declared.entry.Entry.Entry, Entries.with_entry, Contents.{owned, AreKeys, IsStamped, AllStamped}}
use Rattle.mt_border.proofs.{Parts.{All-left, All-right}, ContentsStamps.{stamped_weaker, stamped_publish}}
use Rattle.mt_tape.specs.{Tapes.Kept, Histories.{contents_at, IsLegalTape}}
use Rattle.mt_arena.specs.{declared.tree.Tree.Tree, NodeView.{NodeView, node_at}, Forests.{tree_at, layer_of}, Contents.counts, Splits.{left_half, right_half}}
use Rattle.mt_arena.specs.{Several.{IsHalf, AreHalved}, Arena.{ArenaView, IsArena, content_of}, Accesses.{at, tree_of}}
use Rattle.mt_arena.proofs.{Pairs.{here, there}, Steps.keys_of}
use Rattle.mt_operation.specs.{declared.phase.Phase.Phase, declared.phase.Phase.TheVariants.SplitMove, declared.walk.Walk.Walk}
use Rattle.mt_operation.specs.{declared.outcome.Outcome.Outcome, declared.operation.Operation.Operation, Tasks.ask, Operations.view_of}
use Rattle.mt_operation.specs.{Phases.{is_done, MayFollow, IsOfKind}, Tables.{op_at as operation_at}}
use Rattle.mt_remove.specs.Writes.{is_remove}
use Rattle.mt_insert.specs.{Puts.{IsPut, MeetsStamp}, Placing.entry_of, KeptSplits.{last_of, HoldsSplits}}
use Rattle.mt_insert.specs.SplitMove.{after_parting, PartsKeys, IsSplitMove, IsSplitMoveFull}
use Rattle.mt_insert.proofs.PartingKeys.{may_place}
use Rattle.mt_held.specs.Taping.{pushed, released}
use Rattle.mt_state.specs.{Views.{Core, shown, map_of, quota_of}, Steps.told_change, Notes.{IsJudged, Notes}, Touches.Touches, Given.ChangesArena}
use Rattle.mt_state.specs.KeptOperations.{IsOpenOperation, IsSplitMoving, HasAnswer, IsKeptAt, IsPlacedOnce, IsKeptOf}
use Rattle.mt_state.specs.{Invariant.{IsStampOf, IsCountedUpTo, StateInvariant, DeletedAreEmpty}, Moves.IsMove, Writes.splitting, Growth.MakesFew}
use Rattle.mt_state.proofs.{Replies.{put_full, put_new}, Growing.{makes_same, retires_same, changes_on}, Telling.{Gives, gives, logs_later, map_now}}
use Rattle.mt_state.proofs.{Moved.{went_with, first_begun, first_upto, open_moved_with, has_moved}, Still.{floor_made, unready_none}}
use Rattle.mt_state.proofs.{OneNode.{same_counts, quiet_grows, holds_here}, Locking.{ready_one, room_for, no_room_left}}
use Rattle.mt_state.proofs.Placing.{Counts, next_write, put_over, placed, PlacesPair, untouched_beside, untouched_now, placed_move, placed_right, is_placing, placed_once}
use Rattle.mt_state.proofs.{Putting.{stamped_apart, room_left, beside_missing, counted_new}, Bound.put_no_remove}
use Rattle.mt_state.proofs.SplitSteps.{HasHalves, halves_back, halves_kind, halves_open, halves_unready, halves_split, halves_held, halves_kept}
use Rattle.mt_state.proofs.Lawful.{scan_free, put_no_scan}
use Rattle.mt_state.{specs.KeptBack.{IsBackAt, Retires, TakesLive}, proofs.KeptBack.{BringsBack, own_back}}
use Rattle.mt_operation.specs.declared.removal.Removal.{Removal}
use Rattle.mt_walks.specs.Walked.{IsWithin}

-- once the keys are parted the halves are there, and the quota was judged
parting_leads : (next : Option ℕ) → HasHalves (after_parting next)
parting_leads None = tt
parting_leads (Some behind) = tt

parting_follows : (next : Option ℕ) → MayFollow SplitMove (after_parting next)
parting_follows None = tt
parting_follows (Some behind) = tt

parting_notes : (next : Option ℕ) (c : Core) (op : Operation) (told : Option Outcome) → IsJudged (shown c) told
    → Notes (shown c) (view_of op) SplitMove (after_parting next) told
parting_notes None c op told judged = judged
parting_notes (Some behind) c op told judged = judged

-- a node has the version, the tree and the holder of another
record IsLike (n m : NodeView) : Type 0 where
  version : m.version ≡ n.version
  tree : m.tree ≡ n.tree
  holder : m.holder ≡ n.holder

module _ (c : Core) (o : ℕ) (h : StateInvariant c) (few : c.steps < 2 ^ 59) (op : Operation) (at_op : operation_at c.table o ≡ Some op) (at_move : op.walk.phase ≡ SplitMove)
    (arena : ArenaView) (w : Walk) (p : PartsKeys o op.task c.arena arena op.walk w op.splits) (all : List Entry) (is : AreHalved all c.arena.nodes arena.nodes op.walk.place.node (last_of op.splits).right) where
  abbrev l : ℕ
  l = op.walk.place.node

  abbrev q : ℕ
  q = (last_of op.splits).right

  abbrev x : NodeView
  x = at c.arena op.walk.place.node

  abbrev r : NodeView
  r = at c.arena (last_of op.splits).right

  abbrev y : NodeView
  y = left_half x is.kept is.kept_cells r.low q

  abbrev z : NodeView
  z = right_half x r is.moved is.moved_cells l

  always : IsOpenOperation c op
  always = (h.ops o op at_op).always

  moving : IsSplitMoving c o op
  moving = subst (λ (p : Phase). IsKeptAt p c o op) at_move (h.ops o op at_op).kept

  half : IsHalf c.arena l q o
  half = subst (λ k. IsHalf c.arena k q o) moving.moves.border moving.moves.may.half

  size : length arena.nodes ≡ length c.arena.nodes
  size = ap (λ (xs : List NodeView). length xs) is.is ∙ length-set (set c.arena.nodes l y) q z ∙ length-set c.arena.nodes l y

  trees : arena.trees ≡ c.arena.trees
  trees = ap (λ (v : ArenaView). v.trees) p.nodes_alone

  at_l : at arena l ≡ y
  at_l = ap (λ (xs : List NodeView). node_at xs l) is.is ∙ there (set c.arena.nodes l y) q l z half.differ ∙ here c.arena.nodes l y half.held.there

  at_q : at arena q ≡ z
  at_q =
      ap (λ (xs : List NodeView). node_at xs q) is.is ∙ here (set c.arena.nodes l y) q z (let same = length-set c.arena.nodes l y in let inside = half.right_held.there in omega (arith, same, inside))

  at_other : (k : ℕ) → k ≢ l → k ≢ q → at arena k ≡ at c.arena k
  at_other k nl nq = ap (λ (xs : List NodeView). node_at xs k) is.is ∙ there (set c.arena.nodes l y) q k z nq ∙ there c.arena.nodes l k y nl

  like : (k : ℕ) → IsLike (at c.arena k) (at arena k)
  like k = elim (cases_eq k l) [
    | inl e ↦ subst (λ i. IsLike (at c.arena i) (at arena i)) (sym e) (subst (IsLike x) (sym at_l) (record { version = refl; tree = refl; holder = refl }))
    | inr nl ↦ elim (cases_eq k q) [
      | inl e ↦ subst (λ i. IsLike (at c.arena i) (at arena i)) (sym e) (subst (IsLike r) (sym at_q) (record { version = refl; tree = refl; holder = refl }))
      | inr nq ↦ subst (IsLike (at c.arena k)) (sym (at_other k nl nq)) (record { version = refl; tree = refl; holder = refl })
    ]
  ]

  parted_versions : (k : ℕ) → k < length arena.nodes → IsCountedUpTo (c.steps + 1) (at arena k)
  parted_versions k inside =
      let was = h.versions k (omega (arith, inside, size)) in
      let same = (like k).version in
      record { inserts = omega (arith, was.inserts, ap (λ v. v.inserts) same); splits = omega (arith, was.splits, ap (λ v. v.splits) same) }

  parted_deleted : DeletedAreEmpty arena
  parted_deleted k inside gone =
      let was = sym (ap (λ v. v.deleted) (like k).version) ∙ gone in
      elim (cases_eq k l) [
        | inl e ↦ absurd (both_ways _ half.live (ap (λ i. (at c.arena i).version.deleted) (sym e) ∙ was))
        | inr nl ↦ elim (cases_eq k q) [
          | inl e ↦ absurd (both_ways _ half.right_live (ap (λ i. (at c.arena i).version.deleted) (sym e) ∙ was))
          | inr nq ↦ ap (λ (n : NodeView). n.slots) (at_other k nl nq) ∙ h.deleted k (omega (arith, inside, size)) was
        ]
      ]

  parted_lists : Retires c.steps c.arena.retired arena.retired
  parted_lists = retires_same c arena h.late (ap (λ (v : ArenaView). v.retired) p.nodes_alone)

  parted_changes : ChangesArena (shown c) o arena
  parted_changes = changes_on c o arena size (ap (λ (ts : List Tree). length ts) trees) p.guarantee parted_lists

  -- no lock is taken
  parted_takes : TakesLive o c.arena arena
  parted_takes k inside holds = inl (omega (arith, inside, size), inl (sym (like k).holder ∙ holds))

  parted_touches : Touches (view_of op) o c.arena arena
  parted_touches k inside = elim (cases_eq k l) [
    | inl e ↦ inr (inl (inl (subst (λ i. (at c.arena i).holder ≡ Some o) (sym e) half.held.holder)))
    | inr nl ↦ elim (cases_eq k q) [
      | inl e ↦ inr (inl (inl (subst (λ i. (at c.arena i).holder ≡ Some o) (sym e) half.right_held.holder)))
      | inr nq ↦ inl (at_other k nl nq)
    ]
  ]

  -- no node is made
  parted_makes : MakesFew c.arena arena
  parted_makes = makes_same c.arena arena size (ap (λ (ts : List Tree). length ts) trees)

  -- what counts now counted before
  was_counted : (k : ℕ) → counts arena.trees (at arena k) ≡ true → counts c.arena.trees (at c.arena k) ≡ true
  was_counted k counted =
      ap (λ (t : List Tree). counts t (at c.arena k)) (sym trees) ∙ sym (same_counts arena.trees (at arena k) (at c.arena k) (ap (λ v. v.deleted) (like k).version) (like k).tree) ∙ counted

  same_prefix : (k : ℕ) → (tree_of arena k).prefix ≡ (tree_of c.arena k).prefix
  same_prefix k = ap (λ t. (tree_at arena.trees t).prefix) (like k).tree ∙ ap (λ (t : List Tree). (tree_at t (at c.arena k).tree).prefix) trees

  -- what holds of all parted entries' keys and stamps, and of those of the other nodes, holds of each node's
  module _ (Q : ℕ × Bytes → ℕ → Type 0) (whole : counts c.arena.trees x ≡ true → AllStamped Q (tree_of c.arena l).prefix all)
      (others : (k : ℕ) → k < length c.arena.nodes → counts c.arena.trees (at c.arena k) ≡ true → AllStamped Q (tree_of c.arena k).prefix (at c.arena k).slots) where
    both : counts c.arena.trees x ≡ true → AllStamped Q (tree_of c.arena l).prefix (is.kept ++ is.moved)
    both counted = subst (AllStamped Q (tree_of c.arena l).prefix) (sym is.parted.joined) (whole counted)

    right_counted : counts c.arena.trees r ≡ true → counts c.arena.trees x ≡ true
    right_counted counted = sym (same_counts c.arena.trees r x (half.right_live ∙ sym half.live) half.right_tree) ∙ counted

    parted_stamps : (k : ℕ) → k < length arena.nodes → counts arena.trees (at arena k) ≡ true → AllStamped Q (tree_of arena k).prefix (at arena k).slots
    parted_stamps k inside counted = subst (λ (prefix : Bytes). AllStamped Q prefix (at arena k).slots) (sym (same_prefix k)) (elim (cases_eq k l) [
      | inl e ↦ subst (λ i. AllStamped Q (tree_of c.arena i).prefix (at arena i).slots) (sym e)
          (subst (λ (n : NodeView). AllStamped Q (tree_of c.arena l).prefix n.slots) (sym at_l)
          (All-left (IsStamped Q (tree_of c.arena l).prefix) is.kept is.moved (both (subst (λ i. counts c.arena.trees (at c.arena i) ≡ true) e (was_counted k counted)))))
      | inr nl ↦ elim (cases_eq k q) [
        | inl e ↦ subst (λ i. AllStamped Q (tree_of c.arena i).prefix (at arena i).slots) (sym e)
            (subst (λ (n : NodeView). AllStamped Q (tree_of c.arena q).prefix n.slots) (sym at_q)
            (subst (λ t. AllStamped Q (tree_at c.arena.trees t).prefix is.moved) (sym half.right_tree)
            (All-right (IsStamped Q (tree_of c.arena l).prefix) is.kept is.moved (both (right_counted (subst (λ i. counts c.arena.trees (at c.arena i) ≡ true) e (was_counted k counted)))))))
        | inr nq ↦ subst (λ (n : NodeView). AllStamped Q (tree_of c.arena k).prefix n.slots) (sym (at_other k nl nq)) (others k (omega (arith, inside, size)) (was_counted k counted))
      ]
    ])

  -- it holds the halves alone
  held_alone : HoldsSplits c.arena o op.splits
  held_alone j inside holds = holds_here c (shown c) o refl h few op at_op SplitMove at_move j inside holds

  -- where it goes on
  phase : w.phase ≡ after_parting x.next
  phase = ap (λ (v : Walk). v.phase) p.walk

  leads : HasHalves w.phase
  leads = subst HasHalves (sym phase) (parting_leads x.next)

  follows : MayFollow op.walk.phase w.phase
  follows = subst (λ (p : Phase). MayFollow p w.phase) (sym at_move) (subst (MayFollow SplitMove) (sym phase) (parting_follows x.next))

  notes : (told : Option Outcome) → IsJudged (shown c) told → Notes (shown c) (view_of op) op.walk.phase w.phase told
  notes told judged =
      subst (λ (p : Phase). Notes (shown c) (view_of op) p w.phase told) (sym at_move) (subst (λ (p : Phase). Notes (shown c) (view_of op) SplitMove p told) (sym phase) (parting_notes x.next c op told judged))

  some : op.splits.halves.items ≢ []
  some none = let no = ap (λ hs. length hs) none in let one = moving.moves.one in absurd (omega (arith, no, one))

  stays_put : is_remove (ask op.task) ≡ false
  stays_put = put_no_remove (ask op.task) moving.put

  kind : IsOfKind w.phase w.aim
  kind = halves_kind w.phase leads w.aim (p.same.aim ∙ subst (λ (p : Phase). IsOfKind p op.walk.aim) at_move always.kind)

  -- what it remembers then
  parted_back : (after : Operation) → after.birth ≡ op.birth → after.walk.phase ≡ w.phase → after.removal ≡ op.removal → BringsBack c arena op after
  parted_back after birth at_phase removal = record {
    birth = birth;
    walk = λ facts. subst (λ (q : Phase). IsBackAt q arena after) (sym at_phase) (halves_back w.phase leads arena after);
    cleans = λ facts t is. (h.remembered o op at_op).cleans t (ap (λ (x : Removal). x.cleans) (sym removal) ∙ is);
  }

  -- its tenant's map misses the key
  missing_there : IsPut op.task → get (tenant_map op.task.tenant (content_of c.arena)) (key_of (ask op.task)) ≡ None
  missing_there put = get-tenant_map op.task.tenant (content_of c.arena) (key_of (ask op.task)) ∙ ap (get (content_of c.arena)) (sym put.owner) ∙ p.missing

  -- without the new pair: its quota is full
  module _ (put : IsPut op.task) (without : content_of arena ≡ content_of c.arena) (full : ¬ HasRoom (account_of c.accounts op.task.tenant)) (stays : all ≡ x.slots) where
    abbrev told_full : Option Outcome
    told_full = Some (record { reply = Full; at = c.steps + 1 })

    abbrev after_full : Operation
    after_full = went_with op (c.steps + 1) w told_full None op.splits

    abbrev new_full : Core
    new_full = splitting c arena (released c.tape) c.accounts o op w told_full None op.splits

    later : (prefix : Bytes) (entries : List Entry) → AllStamped (IsStampOf c.steps c.tape) prefix entries
        → AllStamped (IsStampOf (c.steps + 1) (released c.tape)) prefix entries
    later prefix entries =
        stamped_weaker (IsStampOf c.steps c.tape) (IsStampOf (c.steps + 1) (released c.tape)) prefix entries (λ q s w. (omega (arith, w.0), w.1, w.2))

    answer_full : HasAnswer new_full after_full
    answer_full =
        let is_full = put_full (quota_of (shown c) op.task.tenant) op.task.request (tenant_map op.task.tenant (content_of c.arena)) put.put_is p.met (missing_there put)
        (no_room_left c (shown c) o refl h few op at_op op.task.tenant (account_of c.accounts op.task.tenant) refl full) in
        let map_is : map_of (shown new_full) op.task.tenant (c.steps + 1) ≡ tenant_map op.task.tenant (content_of c.arena) =
        ap (λ (every : Contents). tenant_map op.task.tenant (contents_at c.tape.entries every (c.steps + 1))) without ∙ map_now c h.tape op.task.tenant (c.steps + 1) (omega arith) in
        record {
          outcome = record { reply = Full; at = c.steps + 1 };
          told = refl;
          right = record {
            begun = first_begun c op always w;
            since = first_upto c op always w;
            upto = omega arith;
            lawful = scan_free (map_of (shown new_full) op.task.tenant) (IsWithin after_full.walk.first after_full.last) (ask op.task) Full (put_no_scan (ask op.task) put.put_is);
            placed = λ real plain. record {
              changes = λ e. absurd (cc);
              looks = λ e. is_full ∙ ap (reply_of (quota_of (shown c) op.task.tenant) (ask op.task)) (sym map_is);
            };
          };
          unprepared = refl;
        }

    kept_full : IsKeptOf new_full o after_full
    kept_full = record {
      always = open_moved_with c op always w new_full told_full None op.splits refl refl (λ t some. some) (floor_made c h.tape) p.same.aim kind;
      kept = halves_kept w.phase leads new_full o after_full stays_put some p.kept answer_full;
      unsplit = λ none. absurd (both_ways _ none (halves_split w.phase leads));
      placed = λ m placed. absurd (cc);
    }

    move_full : IsMove c new_full o op after_full
    move_full = record {
      there = at_op;
      unfinished = ap is_done at_move;
      asked = refl;
      scan = inl (refl, refl);
      table = refl;
      number = refl;
      answers = refl;
      leaves = record {
        arena = parted_changes;
        grows = quiet_grows c o arena (c.tape.reserved - 1) after_full without;
        past = record { steps = omega arith; same = λ n from upto. ap (λ (every : Contents). contents_at c.tape.entries every n) without };
        writes = λ e there. there;
        accounts = λ t there. there;
        floor = refl;
      };
      tape = record {
        rises = h.tape.rises;
        made = omega (arith, h.tape.made);
        legal = subst (λ (every : Contents). IsLegalTape c.tape.entries every) (sym without) h.tape.legal;
        keys = h.tape.keys;
        logs = logs_later c.logs c.tape.floor c.steps h.tape.logs;
      };
      stamps = parted_stamps (IsStampOf (c.steps + 1) (released c.tape))
          (λ counted. later (tree_of c.arena l).prefix all (subst (AllStamped (IsStampOf c.steps c.tape) (tree_of c.arena l).prefix) (sym stays) (h.stamps l half.held.there counted)))
          (λ k inside counted. later (tree_of c.arena k).prefix (at c.arena k).slots (h.stamps k inside counted));
      versions = parted_versions;
      held = λ k inside holds. halves_held w.phase leads after_full k some (p.holds held_alone k inside holds);
      counts = λ t a e. subst (λ (every : Contents). (a.count ≡ len (tenant_map t every)) × (a.count ≤ a.quota)) (sym without) (h.counts t a e);
      kept = kept_full;
      reserved =
          let one = ready_one op SplitMove at_move refl in let no = unready_none after_full w.phase refl (halves_unready w.phase leads) in let room = room_for c h o op SplitMove at_op at_move refl in omega (arith, one, no, room);
      deleted = parted_deleted;
      late = parted_lists.upto;
      remembered = own_back c o op h at_op arena parted_changes parted_lists parted_takes after_full (parted_back after_full refl refl refl);
    }

    parted_full : Gives (shown c) new_full o false
    parted_full = gives (shown c) c new_full o op after_full refl h few move_full (record {
      logs = refl;
      moves = has_moved c op always w told_full None follows;
      notes = notes told_full (inr refl);
      touches = parted_touches;
      effect = inl (record { contents = without; entries = refl; change = sym (ap told_change moving.untold) });
      makes = parted_makes;
    }) false (sym (halves_open w.phase leads))

  -- with the new pair
  module _ (put : IsPut op.task) (arena_is : IsArena c.arena.nodes c.arena.trees) (accounts : Accounts) (row : Columns)
      (with : all ≡ with_entry x.slots (entry_of op.task.key op.walk.layer row (c.steps + 1)))
      (contents : content_of arena ≡ insert (content_of c.arena) (op.task.tenant, key_of (ask op.task)) (put_over c op (get (content_of c.arena) (owned op.task.key))))
      (has_room : HasRoom (account_of c.accounts op.task.tenant)) (counted : Counts c accounts (content_of arena)) where
    abbrev told_new : Option Outcome
    told_new = Some (record { reply = New; at = c.steps + 1 })

    abbrev after_new : Operation
    after_new = went_with op (c.steps + 1) w told_new None op.splits

    abbrev new_core : Core
    new_core = placed c arena accounts o op after_new

    abbrev P : ℕ × Bytes → ℕ → Type 0
    P = IsStampOf c.steps c.tape

    abbrev Q : ℕ × Bytes → ℕ → Type 0
    Q = IsStampOf (c.steps + 1) (pushed c.tape (next_write c op))

    abbrev added : Entry
    added = entry_of op.task.key op.walk.layer row (c.steps + 1)

    keys_here : AreKeys (tree_of c.arena (last_of op.splits).left).prefix (layer_of (tree_of c.arena (last_of op.splits).left).prefix) (at c.arena (last_of op.splits).left).slots
    keys_here = (keys_of c.arena.nodes c.arena.trees (last_of op.splits).left moving.moves.may.half.held.there arena_is.forest).keys

    whole_left : AllStamped P (tree_of c.arena (last_of op.splits).left).prefix (at c.arena (last_of op.splits).left).slots
        → AllStamped Q (tree_of c.arena (last_of op.splits).left).prefix (with_entry (at c.arena (last_of op.splits).left).slots added)
    whole_left =
        stamped_publish P Q (tree_of c.arena (last_of op.splits).left).prefix (layer_of (tree_of c.arena (last_of op.splits).left).prefix) (at c.arena (last_of op.splits).left).slots added op.task.key
        (record { suffix = suffix_of op.task.key op.walk.layer; row = row; stamp = c.steps + 1 })
        keys_here (may_place c.arena o op.task moving.prepared op.walk op.splits arena_is moving.moves row (c.steps + 1)).has moving.moves.may.missing refl (untouched_beside c op h put) (untouched_now c op h put)

    whole_new : counts c.arena.trees x ≡ true → AllStamped Q (tree_of c.arena l).prefix all
    whole_new counts = subst (AllStamped Q (tree_of c.arena l).prefix) (sym with)
        (subst (λ i. AllStamped P (tree_of c.arena i).prefix (at c.arena i).slots → AllStamped Q (tree_of c.arena i).prefix (with_entry (at c.arena i).slots added)) moving.moves.border whole_left (h.stamps l half.held.there counts))

    pair : PlacesPair c o op after_new arena accounts
    pair = record {
      changes = parted_changes;
      contents = contents;
      stamps = parted_stamps Q whole_new
          (λ k inside counts. stamped_apart P Q (tree_of c.arena k).prefix (owned op.task.key) (at c.arena k).slots (untouched_beside c op h put)
          (beside_missing c (shown c) o refl h few op at_op put arena_is p.missing k inside counts) (h.stamps k inside counts));
      versions = parted_versions;
      deleted = parted_deleted;
      taken_out = parted_lists;
      takes = parted_takes;
      counts = counted;
    }

    parted_new : Gives (shown c) new_core o false
    parted_new =
        let less : len (tenant_map op.task.tenant (content_of c.arena)) < quota_of (shown c) op.task.tenant =
        room_left (account_of c.accounts op.task.tenant) (len (tenant_map op.task.tenant (content_of c.arena))) has_room (λ a e. (h.counts op.task.tenant a e).0) in
        let replies = put_new (quota_of (shown c) op.task.tenant) (c.steps + 1) op.task.request (tenant_map op.task.tenant (content_of c.arena)) put.put_is p.met (missing_there put) less in
        let makes = replies.1 ∙ ap (λ (b : Option Stamped). insert (tenant_map op.task.tenant (content_of c.arena)) (key_of (ask op.task)) (put_over c op b)) (sym p.missing) in
        let met = subst (λ (b : Option Stamped). MeetsStamp (ask op.task) (stamp_in b)) (sym p.missing) p.met in
        let answer : HasAnswer new_core after_new = record {
          outcome = record { reply = New; at = c.steps + 1 };
          told = refl;
          right =
              placed_right c o op after_new arena accounts h put pair New refl replies.0 makes (first_begun c op always w) (first_upto c op always w) refl refl;
          unprepared = refl;
        } in
        let own : IsKeptOf new_core o after_new = record {
          always = open_moved_with c op always w new_core told_new None op.splits refl refl counted.there (floor_made c h.tape) p.same.aim kind;
          kept = halves_kept w.phase leads new_core o after_new stays_put some p.kept answer;
          unsplit = λ none. absurd (both_ways _ none (halves_split w.phase leads));
          placed =
              λ m placed_at. subst (IsPlacedOnce new_core after_new) (same_Some (c.steps + 1) m placed_at) (placed_once c o op after_new arena accounts h put pair met refl);
        } in
        gives (shown c) c new_core o op after_new refl h few
        (placed_move c o op after_new arena accounts h put pair (record {
          there = at_op;
          unfinished = ap is_done at_move;
          task = refl;
          scan = refl;
          held = λ k inside holds. halves_held w.phase leads after_new k some (p.holds held_alone k inside holds);
          kept = own;
          back = parted_back after_new refl refl refl;
          reserved =
              let one = ready_one op SplitMove at_move refl in let no = unready_none after_new w.phase refl (halves_unready w.phase leads) in let room = room_for c h o op SplitMove at_op at_move refl in omega (arith, one, no, room);
        }))
        (record {
          logs = refl;
          moves = has_moved c op always w told_new None follows;
          notes = notes told_new (inl refl);
          touches = parted_touches;
          effect = inr (is_placing c o op after_new arena accounts h put pair New refl replies.0 makes refl);
          makes = parted_makes;
        })
        false (sym (halves_open w.phase leads))

module _ (c : Core) (o : ℕ) (h : StateInvariant c) (few : c.steps < 2 ^ 59) (op : Operation) (at_op : operation_at c.table o ≡ Some op) (put : IsPut op.task) (at_move : op.walk.phase ≡ SplitMove) where
  -- the keys are parted without the new pair, for which the quota has no room
  pub fill_done : (arena : ArenaView) (tape : Kept) (accounts : Accounts) (w : Walk)
      → IsSplitMoveFull o op.task c.arena arena c.tape tape c.accounts accounts op.walk w op.splits
      → Gives (shown c) (splitting c arena tape accounts o op w (Some (record { reply = Full; at = c.steps + 1 })) None op.splits) o false
  fill_done arena tape accounts w t =
      subst (λ (a : Accounts). Gives (shown c) (splitting c arena tape a o op w (Some (record { reply = Full; at = c.steps + 1 })) None op.splits) o false) (sym t.uncounted)
      (subst (λ (tape : Kept). Gives (shown c) (splitting c arena tape c.accounts o op w (Some (record { reply = Full; at = c.steps + 1 })) None op.splits) o false) (sym t.tape_is)
      (parted_full c o h few op at_op at_move arena w t.parts (at c.arena op.walk.place.node).slots t.is put t.contents t.full refl))

  -- they are parted with it
  pub part_done : (arena : ArenaView) (tape : Kept) (accounts : Accounts) (w : Walk) (row : Columns) → IsArena c.arena.nodes c.arena.trees
      → IsSplitMove o (c.steps + 1) op.task row c.arena arena c.tape tape c.accounts accounts op.walk w op.splits
      → Gives (shown c) (splitting c arena tape accounts o op w (Some (record { reply = New; at = c.steps + 1 })) None op.splits) o false
  part_done arena tape accounts w row arena_is t =
      subst (λ (tape : Kept). Gives (shown c) (splitting c arena tape accounts o op w (Some (record { reply = New; at = c.steps + 1 })) None op.splits) o false) (sym t.places.tape)
      (parted_new c o h few op at_op at_move arena w t.parts (with_entry (at c.arena op.walk.place.node).slots (entry_of op.task.key op.walk.layer row (c.steps + 1))) t.is put arena_is accounts row refl t.places.contents t.room
      (counted_new c (shown c) o refl h few op at_op put accounts (content_of arena) (put_over c op (get (content_of c.arena) (owned op.task.key))) t.places.contents t.parts.missing t.room t.more t.others))
