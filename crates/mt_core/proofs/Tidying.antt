-- A trim to the floor that a tape needs keeps the invariant, and all that a tidying promises: for `Inner::tidy`.
use Rattle.std.proofs.{Common.{◌≡◌, ℕ, ◌<◌, ◌≤◌, inl, inr, List, [], ◌∷◌, Some, sym, refl, ap, subst, ◌∙◌, arith}, lemmas.Bool.cases_lt}
use Rattle.std.proofs.lemmas.List.Elements.{All-filter, All-weaker, Contains-push, Contains-push_cases, Contains-append_cases, Contains-append_left, Contains-append_right}
use Rattle.std.specs.{Prelude.{nat_lt, ◌-◌, vec_len, vec_capacity}, List.{All, Contains}, FinMap.len}
use Rattle.mt_rows.specs.Commands.{IsKey}
use Rattle.mt_border.proofs.ContentsStamps.{stamped_weaker}
use Rattle.mt_tape.specs.{declared.entry.Entry.{Entry as TapeEntry}, Tapes.{Kept, later_entries, HandsOut}}
use Rattle.mt_tape.proofs.EntryLaws.{floor_upto_last, later_entries-kept, later_entries-dropped, rises-later_entries, last_step_over-later_entries, is_changed-later_entries}
use Rattle.mt_tape.proofs.TapeLaws.{contents_at-trim, map_at-trim, legal-trim, untouched-trim}
use Rattle.mt_arena.specs.{Arena.content_of, Accesses.{at, tree_of}}
use Rattle.mt_operation.specs.{declared.operation.Operation.Operation, Operations.{OperationView, view_of}}
use Rattle.mt_operation.specs.Tables.{IsBeforeFirsts, IsFloorNeeded, op_at as operation_at}
use Rattle.mt_state.specs.{Views.{Core, StateView, shown}, Written.IsMadeByChange, Invariant.{IsStampOf, StateInvariant}}
use Rattle.mt_state.proofs.Shown.{shown_there, inside_of}
use Rattle.mt_core.specs.{declared.displaced.Displaced.Displaced, Drains.IsLeastOf}
use Rattle.mt_core.specs.Tidies.{Leaves, Tidies, TidiesInto, IsBeforeFirsts as IsBeforeAll, IsFloorNeeded as IsNeeded}
use Rattle.mt_core.proofs.Retained.{TellsOf, retained, scan_retained}

-- an entry of a step after a floor is one of those that are kept
later_has : (floor : ℕ) (entries : List TapeEntry) (e : TapeEntry) → Contains entries e → floor < e.step → Contains (later_entries floor entries) e
later_has floor [] e has lt = has
later_has floor (x ∷ entries) e has lt = elim (Contains-append_cases (x ∷ []) entries e has) [
  | inl here ↦
      let is : x ≡ e = only here in
      subst (λ es. Contains es e) (sym (later_entries-kept floor x entries (omega (arith, lt, ap (λ (w : TapeEntry). w.step) is))))
      (subst (λ w. Contains (w ∷ later_entries floor entries) e) (sym is) (Contains-append_left (e ∷ []) (later_entries floor entries) e (Contains-push [] e)))
  | inr there ↦ elim (cases_lt floor x.step) [
    | inl kept ↦ subst (λ es. Contains es e) (sym (later_entries-kept floor x entries kept)) (Contains-append_right (x ∷ []) (later_entries floor entries) e (later_has floor entries e there lt))
    | inr dropped ↦ subst (λ es. Contains es e) (sym (later_entries-dropped floor x entries dropped)) (later_has floor entries e there lt)
  ]
]
  where
    only : Contains (x ∷ []) e → x ≡ e
    only here = elim (Contains-push_cases [] x e here) [
      | inl none ↦ absurd (omega (arith, none.1))
      | inr is ↦ is
    ]

-- no first step is later than the last step of all
pub firsts_made : (c : Core) → StateInvariant c → (q : ℕ) (op : Operation) → operation_at c.table q ≡ Some op → op.walk.first ≤ c.steps
firsts_made c h q op there = let k = (h.ops q op there).always in omega (arith, k.order, k.made)

-- the tape that begins at a later floor
abbrev trimmed : Core → ℕ → Kept
trimmed c floor = record c.tape { entries = later_entries floor c.tape.entries; floor = floor }

module _ (c : Core) (floor : ℕ) (h : StateInvariant c) (rises : c.tape.floor ≤ floor) (made : floor ≤ c.steps) (before : IsBeforeFirsts c.table floor) (given : All (λ m. floor ≤ m) c.logs) where
  abbrev new : Core
  new = record c { tape = trimmed c floor }

  tells : (o : ℕ) (op : Operation) → operation_at c.table o ≡ Some op → TellsOf c (trimmed c floor) op
  tells o op there = record {
    floor = before o op there;
    contents = λ begun n from. contents_at-trim floor n c.tape.entries (content_of c.arena) (omega (arith, before o op there begun, from));
    changes = λ begun n from. is_changed-later_entries floor n c.tape.entries (omega (arith, before o op there begun, from));
    writes = λ begun e from has. later_has floor c.tape.entries e has (omega (arith, before o op there begun, from));
  }

  -- a trim to a floor before the first step of each operation leaves the invariant
  trimmed_sound : StateInvariant new
  trimmed_sound = record {
    tape = record {
      rises = rises-later_entries c.tape.floor floor c.tape.entries h.tape.rises rises;
      made = omega (arith, made, last_step_over-later_entries c.tape.floor floor c.tape.entries h.tape.rises rises, h.tape.made);
      legal = legal-trim floor c.tape.entries (content_of c.arena) h.tape.legal;
      keys = All-filter (λ e. nat_lt floor e.step) (λ e. IsKey e.key) c.tape.entries h.tape.keys;
      logs = record { few = h.tape.logs.few; made = h.tape.logs.made; reached = given };
    };
    stamps = λ k within counted. stamped_weaker (IsStampOf c.steps c.tape) (IsStampOf c.steps (trimmed c floor)) (tree_of c.arena k).prefix (at c.arena k).slots
        (λ q s w. (
          w.0,
          untouched-trim floor c.tape.entries q s w.1,
          λ lt.
              let wrote = w.2 (omega (arith, rises, lt)) in
              (wrote.0, later_has floor c.tape.entries wrote.0 wrote.1 (omega (arith, lt, wrote.2)), wrote.2, wrote.3),
        ))
        (h.stamps k within counted);
    versions = h.versions;
    holders = h.holders;
    counts = h.counts;
    ops = λ o op there. let k = h.ops o op there in retained c c.answers c.logs (trimmed c floor) c.table o op (tells o op there) k.always k;
    scans = λ o op there. let k = h.ops o op there in scan_retained c c.answers c.logs (trimmed c floor) c.table o op (tells o op there) k.always (h.scans o op there);
    reserved = h.reserved;
    answered = h.answered;
    deleted = h.deleted;
    late = h.late;
    remembered = h.remembered;
    few = h.few;
    quotas =
        λ t m a there from upto. subst (λ all. len all ≤ a.quota) (sym (map_at-trim floor m c.tape.entries (content_of c.arena) t from)) (h.quotas t m a there (omega (arith, rises, from)) upto);
    written = All-filter (λ e. nat_lt floor e.step) IsMadeByChange c.tape.entries h.written;
  }

-- the floor of before is at most the one that is needed, by the operations and by the logs
pub floor_rises : (c : Core) (bound floor : ℕ) → StateInvariant c → IsFloorNeeded c.table c.steps bound → IsLeastOf c.logs bound floor → c.tape.floor ≤ floor
floor_rises c bound floor h needed least = least.greatest c.tape.floor
    (needed.greatest c.tape.floor (omega (arith, floor_upto_last c.tape.floor c.tape.entries h.tape.rises, h.tape.made)) (λ o op there begun. (h.ops o op there).always.floor begun))
    h.tape.logs.reached

-- a floor that is before the first steps of all operations inside is so by what is shown, and the other way round
before_shown : (c : Core) (floor : ℕ) → IsBeforeFirsts c.table floor → IsBeforeAll (shown c).table floor
before_shown c floor before o view there begun =
    let w = inside_of c.table o view there in
    let same = ap (λ (x : OperationView). x.first) w.2 in
    subst (λ n. floor < n) same (before o w.0 w.1 (subst (λ n. 0 < n) (sym same) begun))

before_inside : (c : Core) (floor : ℕ) → IsBeforeAll (shown c).table floor → IsBeforeFirsts c.table floor
before_inside c floor before o op there begun = before o (view_of op) (shown_there c.table o op there) begun

-- a floor that is before them all stays so when it is lower
before_lower : (c : Core) (bound floor : ℕ) → floor ≤ bound → IsBeforeFirsts c.table bound → IsBeforeFirsts c.table floor
before_lower c bound floor le before o op there begun = omega (arith, le, before o op there begun)

needed_shown : (c : Core) (bound floor : ℕ) → IsFloorNeeded c.table c.steps bound → IsLeastOf c.logs bound floor → IsNeeded (shown c).table c.logs c.steps floor
needed_shown c bound floor needed least = record {
  floors = record {
    made = omega (arith, least.within, needed.made);
    before = before_shown c floor (before_lower c bound floor least.within needed.before);
    given = least.each;
  };
  greatest = λ n floors. least.greatest n (needed.greatest n floors.made (before_inside c n floors.before)) floors.given;
}

-- what a tape that begins at a later floor leaves
leaves_trimmed : (c : Core) (floor : ℕ) → c.tape.floor ≤ floor → Leaves (shown c) (shown (record c { tape = trimmed c floor }))
leaves_trimmed c floor up = record {
  steps = refl;
  answers = refl;
  logs = refl;
  accounts = refl;
  arena = refl;
  table = refl;
  reserved = refl;
  rises = up;
  entries = refl;
  maps = λ t m le. map_at-trim floor m c.tape.entries (content_of c.arena) t le;
  changes = λ m lt. is_changed-later_entries floor m c.tape.entries lt;
}

-- what the code has after the trim: the invariant, and what the tidying tells
pub tidied : (c : Core) (now : StateView) (bound floor : ℕ) (tape : Kept) → shown c ≡ now → StateInvariant c → IsFloorNeeded c.table c.steps bound
    → IsLeastOf c.logs bound floor → tape ≡ trimmed c floor
    → StateInvariant (record c { tape = tape }) × Tidies now (shown (record c { tape = tape }))
tidied c now bound floor tape is h needed least trims =
    let up = floor_rises c bound floor h needed least in
    subst (λ (v : StateView). StateInvariant (record c { tape = tape }) × Tidies v (shown (record c { tape = tape }))) is
    (subst (λ (x : Kept). StateInvariant (record c { tape = x }) × Tidies (shown c) (shown (record c { tape = x }))) (sym trims) (
      trimmed_sound c floor h up (omega (arith, least.within, needed.made)) (before_lower c bound floor least.within needed.before) least.each,
      record { leaves = leaves_trimmed c floor up; needed = needed_shown c bound floor needed least },
    ))

-- and after one that hands out
pub handed : (c : Core) (now : StateView) (bound floor : ℕ) (tape : Kept) (before after : Displaced) → shown c ≡ now → StateInvariant c
    → IsFloorNeeded c.table c.steps bound → IsLeastOf c.logs bound floor
    → HandsOut floor c.tape tape before.writes.items after.writes.items (vec_capacity before.writes - vec_len before.writes) → after.rest ≡ before.rest
    → StateInvariant (record c { tape = tape }) × TidiesInto now (shown (record c { tape = tape })) before after
handed c now bound floor tape before after is h needed least g rest =
    let low = g.upto in
    let same : tape ≡ trimmed c tape.floor = ap (λ (r : ℕ). record tape { reserved = r }) g.reserved ∙ ap (λ (es : List TapeEntry). record { entries = es; floor = tape.floor; reserved = c.tape.reserved }) g.later in
    subst (λ (v : StateView). StateInvariant (record c { tape = tape }) × TidiesInto v (shown (record c { tape = tape })) before after) is (
      subst (λ (x : Kept). StateInvariant (record c { tape = x })) (sym same)
          (trimmed_sound c tape.floor h g.rises (omega (arith, low, least.within, needed.made)) (before_lower c bound tape.floor (omega (arith, low, least.within)) needed.before)
          (All-weaker (λ m. floor ≤ m) (λ m. tape.floor ≤ m) (λ m le. omega (arith, low, le)) c.logs least.each)),
      record {
        leaves = subst (λ (x : Kept). Leaves (shown c) (shown (record c { tape = x }))) (sym same) (leaves_trimmed c tape.floor g.rises);
        floor = floor;
        needed = needed_shown c bound floor needed least;
        hands_out = g;
        rest = rest;
      },
    )
