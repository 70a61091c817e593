-- A step of a put whose right halves come to their parents, by what it tells: for `Inner::write`.
use Rattle.std.proofs.Common.{List, None, Some, [], ap, arith, false, inl, inr, is_some, length, refl, set, subst, suc, sym, zero, ℕ, ◌+◌, ◌-◌, ◌<◌, ◌∙◌, ◌∷◌, ◌≡◌, ◌≤◌}
use Rattle.std.proofs.{lemmas.Bool.{cases_eq, both_ways}, lemmas.Option.same_Some}
use Rattle.std.specs.Prelude.{◌^◌, ◌⊎◌}
use Rattle.mt_arena.specs.{Arena.ArenaView, Accesses.at}
use Rattle.mt_operation.specs.{declared.phase.Phase.Phase, declared.phase.Phase.TheVariants.{InteriorSplit, RootGrow}, declared.walk.Walk.Walk}
use Rattle.mt_operation.specs.{declared.splits.Halves.Halves, declared.splits.Splits.Splits, declared.operation.Operation.Operation}
use Rattle.mt_operation.specs.{Operations.{OperationView, moved, view_of, with_splits}, Phases.{IsClimb, IsToGrow}, Tables.{Table, IsLeastBirth, op_at as operation_at}}
use Rattle.mt_operation.proofs.Tables.{set_is, set_there}
use Rattle.mt_insert.specs.KeptSplits.{AreParted, AreReturnable, HasSplits, HasSplitsNamed, HoldsSplits, IsAmong, IsParent, KeptSplit, NothingLags, halves_at, last_of}
use Rattle.mt_insert.specs.Climbs.{AreSame, IsClimbFrom}
use Rattle.mt_state.specs.{declared.moves.Move.TheVariants.{Moved, NoMemory}, Views.{Core, Shown, shown}, Promises.IsAnswer}
use Rattle.mt_state.specs.{KeptOperations.{IsClimbing, IsKeptOf, IsScanKept}, KeptBack.{ArenaFacts, IsKeptBack}, Invariant.{HoldsAt, StateInvariant, made_count, one_if_prepared, prepared_count}}
use Rattle.mt_state.proofs.{Shown.{shown_set, shown_table, shown_there}, Telling.Gives}
use Rattle.mt_state.proofs.{SplitSteps.{climb_among, climb_back, climb_done, climbing_of, among_climb, kept_climbing}, ClimbingNodes.{climb_makes, climb_leads}, Giving.are_forgotten}
use Rattle.mt_core.specs.{Budgets.above, Points.StepsOn}
use Rattle.mt_core.proofs.{Climbing.{climb_none, climb_writes}, Points.{free_from, nears_by, point_first}, Following.{IsOver, IsSound, made, set_back, write_no_scan}}
use Rattle.mt_core.proofs.{Leading.{no_step, leads_over}, Retained.{own_tape, retained, scan_retained}, ClimbingNears.climb_nears}

-- as many operations have all ready where the one that is written has as it had
count_back : (table : Table) (o : ℕ) (x y : Operation) → operation_at table o ≡ Some x → one_if_prepared (Some y) ≡ one_if_prepared (Some x)
    → prepared_count (set table o (Some y)) ≡ prepared_count table
count_back [] o x y is same = refl
count_back (z ∷ table) zero x y is same = let was = ap one_if_prepared is in omega (arith, was, same)
count_back (z ∷ table) (suc o) x y is same = let rest = count_back table o x y is same in omega (arith, rest)

-- a phase at which a node is to be made is one of these
grow_climbs : (p : Phase) → IsToGrow p → IsClimb p
grow_climbs InteriorSplit i = tt
grow_climbs RootGrow i = tt
grow_climbs _ i = absurd i

-- what is said of splits is said of the same ones
module _ (s t : Splits) (same : AreSame s t) where
  among_same : (k : ℕ) → IsAmong s k → IsAmong t k
  among_same k among = elim among [
    | inl half ↦ inl (record {
      place = half.place;
      in_range = subst (λ (hs : List Halves). half.place < length hs) (sym same.halves) half.in_range;
      is = subst (λ (hs : List Halves). ((halves_at hs half.place).left ≡ k) ⊎ ((halves_at hs half.place).right ≡ k)) (sym same.halves) half.is;
    })
    | inr above ↦ inr (same.above ∙ above)
  ]

  last_is : last_of s ≡ last_of t
  last_is = ap (λ (hs : List Halves). halves_at hs (length hs - 1)) (sym same.halves)

  splits_same : (v : ArenaView) (o : ℕ) → HasSplits v o s → HasSplits v o t
  splits_same v o h = record {
    some = subst (λ (hs : List Halves). 0 < length hs) (sym same.halves) h.some;
    lower = subst (λ (hs : List Halves). AreReturnable v o hs (length hs - 1)) (sym same.halves) h.lower;
    parted =
        subst (λ (hs : List Halves). AreParted v o (length hs - 1) (halves_at hs (length hs - 1)).left (halves_at hs (length hs - 1)).right) (sym same.halves) h.parted;
  }

  named_same : (v : ArenaView) (o : ℕ) → HasSplitsNamed v o s → HasSplitsNamed v o t
  named_same v o h = record {
    splits = splits_same v o h.splits;
    left = subst (λ (b : Halves). NothingLags v.nodes b.left) last_is h.left;
    right = subst (λ (b : Halves). NothingLags v.nodes b.right) last_is h.right;
  }

  grow_same : (p : Phase) → IsToGrow p → (v : ArenaView) (o : ℕ) → KeptSplit p v o s → KeptSplit p v o t
  grow_same InteriorSplit i v o h = record {
    p = h.p;
    at_parent = record {
      named = named_same v o h.at_parent.named;
      above = same.above ∙ h.at_parent.above;
      moved = same.moved ∙ h.at_parent.moved;
      parent =
          subst (λ (hs : List Halves). IsParent v o (length hs) (halves_at hs (length hs - 1)).left (halves_at hs (length hs - 1)).right h.p) (sym same.halves) h.at_parent.parent;
    };
    full = h.full;
  }
  grow_same RootGrow i v o h = record {
    at_root = record {
      named = named_same v o h.at_root.named;
      above = same.above ∙ h.at_root.above;
      moved = same.moved ∙ h.at_root.moved;
      orphan = subst (λ (b : Halves). (at v b.right).parent ≡ None) last_is h.at_root.orphan;
    };
    parentless = subst (λ (b : Halves). (at v b.left).parent ≡ None) last_is h.parentless;
  }
  grow_same _ i v o h = absurd i

-- a state in which an operation has other splits
abbrev with_same : Core → ℕ → Operation → Splits → Core
with_same c o op t = record c { table = set c.table o (Some (with_splits op t)) }

module _ (c : Core) (o : ℕ) (op : Operation) (h : StateInvariant c) (there : operation_at c.table o ≡ Some op) (t : Splits) where
  -- where they are the same, as far as anything is said of them, it shows what it showed
  same_view : AreSame op.splits t → view_of (with_splits op t) ≡ view_of op
  same_view same = λ a. record (view_of op) { splits = record { halves = same.halves a; above = same.above a; moved = same.moved a } }

  same_shown : AreSame op.splits t → shown (with_same c o op t) ≡ shown c
  same_shown same = ap (λ (all : Shown). record (shown c) { table = all }) (shown_set c.table o (Some (with_splits op t))
      ∙ ap (λ (x : OperationView). set (shown_table c.table) o (Some x)) (same_view same) ∙ set_back (shown_table c.table) o (view_of op) (shown_there c.table o op there))

  -- and the invariant stays
  module _ (grows : IsToGrow op.walk.phase) (same : AreSame op.splits t) where
    abbrev y : Operation
    y = with_splits op t

    abbrev new : Core
    new = with_same c o op t

    here : operation_at new.table o ≡ Some y
    here = set_is c.table o y op there

    climbs : IsClimb op.walk.phase
    climbs = grow_climbs op.walk.phase grows

    was : IsKeptOf new o op
    was = let k = h.ops o op there in retained c c.answers c.logs c.tape new.table o op (own_tape c op k.always) k.always k

    own : IsKeptOf new o y
    own =
        let k = was in
        let a = k.always in
        let climbing = climbing_of op.walk.phase climbs new o op k.kept in
        let right = climbing.answer.right in
        record {
          always = record {
            stored = a.stored;
            tenant_is = a.tenant_is;
            owner = a.owner;
            columns = a.columns;
            tenant = a.tenant;
            aim = a.aim;
            kind = a.kind;
            order = a.order;
            made = a.made;
            born = a.born;
            birth = a.birth;
            floor = a.floor;
            begun = a.begun;
            short = a.short;
            counts = a.counts;
            light = a.light;
          };
          kept = kept_climbing op.walk.phase climbs new o y (record {
            stays = climbing.stays;
            climbs = grow_same op.splits t same op.walk.phase grows c.arena o climbing.climbs;
            answer = record { outcome = climbing.answer.outcome; told = climbing.answer.told; right = subst (λ (x : OperationView). IsAnswer (shown new) x climbing.answer.outcome) (sym (same_view same)) right; unprepared = climbing.answer.unprepared };
          });
          unsplit = λ none. let u = k.unsplit none in record { halves = same.halves ∙ u.halves; above = same.above ∙ u.above; moved = same.moved ∙ u.moved };
          placed = λ m is. let once = k.placed m is in record {
            entry = once.entry;
            there = once.there;
            step_is = once.step_is;
            worker = once.worker;
            tenant = once.tenant;
            key_is = once.key_is;
            makes = once.makes;
            keeps = once.keeps;
            was = once.was;
            met = once.met;
          };
        }

    own_scan : IsScanKept new y
    own_scan =
        let always = (h.ops o op there).always in
        let s = scan_retained c c.answers c.logs c.tape new.table o op (own_tape c op always) always (h.scans o op there) in
        record { fresh = s.fresh; walked = s.walked }

    own_back : IsKeptBack c.arena o y
    own_back = let b = h.remembered o op there in record { walk = climb_back op.walk.phase climbs c.arena y; held = b.held; cleans = b.cleans }

    same_sound : StateInvariant new
    same_sound = record {
      tape = record { rises = h.tape.rises; made = h.tape.made; legal = h.tape.legal; keys = h.tape.keys; logs = h.tape.logs };
      stamps = h.stamps;
      versions = h.versions;
      holders = λ k q within held. let f = h.holders k q within held in elim (cases_eq q o) [
        | inl is ↦
            let it : f.0 ≡ op = same_Some f.0 op (sym f.1 ∙ ap (operation_at c.table) is ∙ there) in
            let holds : HoldsAt op.walk.phase op k = subst (λ (x : Operation). HoldsAt x.walk.phase x k) it f.2 in
            (y, ap (operation_at new.table) is ∙ here, among_climb op.walk.phase climbs y k (among_same op.splits t same k (climb_among op.walk.phase climbs op k holds)))
        | inr other ↦ (f.0, set_there c.table o q (Some y) other ∙ f.1, f.2)
      ];
      counts = h.counts;
      ops = λ q x at_q. elim (cases_eq q o) [
        | inl is ↦ subst (λ n. IsKeptOf new n x) (sym is) (subst (IsKeptOf new o) (same_Some y x (sym here ∙ ap (operation_at new.table) (sym is) ∙ at_q)) own)
        | inr other ↦ let k = h.ops q x (sym (set_there c.table o q (Some y) other) ∙ at_q) in retained c c.answers c.logs c.tape new.table q x (own_tape c x k.always) k.always k
      ];
      scans = λ q x at_q. elim (cases_eq q o) [
        | inl is ↦ subst (IsScanKept new) (same_Some y x (sym here ∙ ap (operation_at new.table) (sym is) ∙ at_q)) own_scan
        | inr other ↦
            let here_q = sym (set_there c.table o q (Some y) other) ∙ at_q in
            let k = h.ops q x here_q in scan_retained c c.answers c.logs c.tape new.table q x (own_tape c x k.always) k.always (h.scans q x here_q)
      ];
      reserved = h.reserved ∙ sym (count_back c.table o op y there refl);
      answered = subst (λ (all : Shown). c.answers + made_count all ≤ c.steps) (sym (ap (λ v. v.table) (same_shown same))) h.answered;
      deleted = h.deleted;
      late = h.late;
      remembered = λ q x at_q. elim (cases_eq q o) [
        | inl is ↦ subst (λ n. IsKeptBack c.arena n x) (sym is) (subst (IsKeptBack c.arena o) (same_Some y x (sym here ∙ ap (operation_at new.table) (sym is) ∙ at_q)) own_back)
        | inr other ↦ h.remembered q x (sym (set_there c.table o q (Some y) other) ∙ at_q)
      ];
      few = h.few;
      quotas = h.quotas;
      written = h.written;
    }

module _ (c now : Core) (o : ℕ) (is : c ≡ now) (h : StateInvariant c) (few : now.steps < 2 ^ 59) (op : Operation) (there : operation_at c.table o ≡ Some op) (at_climb : IsClimb op.walk.phase) where
  climbing : IsClimbing c o op op.walk.phase
  climbing = climbing_of op.walk.phase at_climb c o op (h.ops o op there).kept

  -- what `climb_on` asks
  pub climb_kept : KeptSplit op.walk.phase c.arena o op.splits
  climb_kept = climbing.climbs

  -- all that it holds are nodes of its splits
  pub climb_holds : HoldsSplits c.arena o op.splits
  climb_holds k within held =
      let f = h.holders k o within held in
      climb_among op.walk.phase at_climb op k (subst (λ (x : Operation). HoldsAt x.walk.phase x k) (same_Some f.0 op (sym f.1 ∙ there)) f.2)

  -- the step was made
  pub climb_made : ArenaFacts c.arena → (arena : ArenaView) (w : Walk) (t : Splits) (table : Table) (least : ℕ) → IsLeastBirth c.table c.steps least
      → IsClimbFrom op.walk.phase least o c.arena arena op.walk w op.splits t → IsOver c.table table o (moved (with_splits op t) (c.steps + 1) w)
      → IsSound c.arena (made c arena c.tape c.accounts table) × StepsOn now (made c arena c.tape c.accounts table) o Moved
  climb_made facts arena w t table least is_least told over =
      let after = moved (with_splits op t) (c.steps + 1) w in
      let new = made c arena c.tape c.accounts table in
      let gives : Gives (shown c) new o false = subst (λ (u : Table). Gives (shown c) (made c arena c.tape c.accounts u) o false) (sym over.is)
      (climb_done c o h (subst (λ (v : Core). v.steps < 2 ^ 59) (sym is) few) op there arena w t least facts is_least at_climb told) in (
        gives.0,
        subst (λ (v : Core). StepsOn v new o Moved) is (record {
          tells = gives.1;
          nears =
              nears_by c new o op after there over.there (free_from least o c.arena arena (climb_makes op.walk.phase at_climb least o c.arena arena op.walk w op.splits t told).steps) refl
              (λ height n p. point_first height (n + 1) arena w t after.walk.first
              (climb_nears op.walk.phase at_climb least o c.arena arena op.walk w op.splits t refl facts (are_forgotten c h facts least is_least.below) climb_kept told height n p))
              (λ removes height n r. absurd (climb_none op.walk.phase at_climb height r.round n c.arena op.walk r.few))
              (λ scans. absurd (both_ways _ (write_no_scan c o h op there op.walk.phase refl (climb_writes op.walk.phase at_climb)) scans));
          leads =
              leads_over c o h op there op.walk.phase refl c refl arena c.tape c.accounts table after over w (climb_leads op.walk.phase at_climb least o c.arena arena op.walk w op.splits t told (c.steps + 1) op.task.key op.outcome op.removal (no_step op)) refl refl;
        }),
      )

  -- it was not made, since there is no memory for a node: all is as it was, but for what the splits have grown
  pub climb_refused : IsToGrow op.walk.phase → (t : Splits) → AreSame op.splits t → StateInvariant (with_same c o op t) × StepsOn now (with_same c o op t) o NoMemory
  climb_refused grows t same = (
    same_sound c o op h there t grows same,
    subst (λ (v : Core). StepsOn v (with_same c o op t) o NoMemory) is (record {
      tells = (same_shown c o op h there t same, record { op = view_of op; there = shown_there c.table o op there; grows = grows; told = ap is_some climbing.answer.told });
      nears = tt;
      leads = tt;
    }),
  )
