-- The invariant of a state with another table: one operation more, or one that holds nothing less: for `Inner::admit`, `take` and `cancel`.
use Rattle.std.proofs.Common.{◌≡◌, ◌≢◌, ℕ, suc, ◌+◌, ◌<◌, ◌≤◌, inl, inr, false, [], ◌∷◌, length, set, zero, Some, None, refl, sym, ap, subst, ◌∙◌, arith}
use Rattle.std.proofs.{lemmas.Bool.cases_eq, lemmas.Option.{same_Some, none-some}}
use Rattle.std.specs.{Prelude.{if◌then◌else◌}, Option.option_map}
use Rattle.mt_arena.specs.Accesses.{at}
use Rattle.mt_operation.specs.{declared.operation.Operation.Operation, Operations.view_of, Tables.{Table, op_at as operation_at}, Phases.is_prepared}
use Rattle.mt_operation.proofs.Tables.{set_there, set_none}
use Rattle.mt_state.specs.{Views.{Core, Shown}, KeptOperations.{IsKeptOf, IsScanKept}, KeptBack.IsKeptBack}
use Rattle.mt_state.specs.Invariant.{HoldsAt, StateInvariant, one_if_prepared, prepared_count, made_count}
use Rattle.mt_state.proofs.{Shown.{shown_table, shown_at, shown_there, shown_set}, Answered.answered_begun}
use Rattle.mt_core.proofs.Retained.{retained, scan_retained, own_tape}

-- the same state with another count of answers and another table
abbrev pub with_table : Core → ℕ → Table → Core
with_table c answers table = record c { answers = answers; table = table }

-- two tables have as many operations that are ready where each id has as many
pub same_count : (t u : Table) → ((q : ℕ) → one_if_prepared (operation_at t q) ≡ one_if_prepared (operation_at u q)) → prepared_count t ≡ prepared_count u
same_count [] [] h = refl
same_count [] (y ∷ u) h = let rest = same_count [] u (λ q. h (suc q)) in let here = h 0 in omega (arith, rest, here)
same_count (x ∷ t) [] h = let rest = same_count t [] (λ q. h (suc q)) in let here = h 0 in omega (arith, rest, here)
same_count (x ∷ t) (y ∷ u) h = let rest = same_count t u (λ q. h (suc q)) in let here = h 0 in omega (arith, rest, here)

module _ (c : Core) (o answers : ℕ) (table : Table) (h : StateInvariant c) (others : (q : ℕ) → q ≢ o → operation_at table q ≡ operation_at c.table q) where
  -- the invariant stays where it holds of that one operation
  table_sound : ((k : ℕ) → k < length c.arena.nodes → (at c.arena k).holder ≡ Some o → ⊥)
      → ((op : Operation) → operation_at table o ≡ Some op → IsKeptOf (with_table c answers table) o op)
      → ((op : Operation) → operation_at table o ≡ Some op → IsScanKept (with_table c answers table) op)
      → ((op : Operation) → operation_at table o ≡ Some op → IsKeptBack c.arena o op)
      → one_if_prepared (operation_at table o) ≡ one_if_prepared (operation_at c.table o) → answers + made_count (shown_table table) ≤ c.steps
      → StateInvariant (with_table c answers table)
  table_sound free own scans back weight bound = record {
    tape = record { rises = h.tape.rises; made = h.tape.made; legal = h.tape.legal; keys = h.tape.keys; logs = h.tape.logs };
    stamps = h.stamps;
    versions = h.versions;
    holders = λ k q within held.
        let w = h.holders k q within held in
        (w.0, others q (λ is. free k within (held ∙ ap Some is)) ∙ w.1, w.2);
    counts = h.counts;
    ops = λ q op there. elim (cases_eq q o) [
      | inl is ↦ subst (λ n. IsKeptOf (with_table c answers table) n op) (sym is) (own op (ap (operation_at table) (sym is) ∙ there))
      | inr other ↦ let was = h.ops q op (sym (others q other) ∙ there) in retained c answers c.logs c.tape table q op (own_tape c op was.always) was.always was
    ];
    scans = λ q op there. elim (cases_eq q o) [
      | inl is ↦ scans op (ap (operation_at table) (sym is) ∙ there)
      | inr other ↦
          let here : operation_at c.table q ≡ Some op = sym (others q other) ∙ there in
          let was = h.ops q op here in scan_retained c answers c.logs c.tape table q op (own_tape c op was.always) was.always (h.scans q op here)
    ];
    reserved = h.reserved ∙ sym (same_count table c.table (λ q. elim (cases_eq q o) [
      | inl is ↦ ap (λ n. one_if_prepared (operation_at table n)) is ∙ weight ∙ ap (λ n. one_if_prepared (operation_at c.table n)) (sym is)
      | inr other ↦ ap one_if_prepared (others q other)
    ]));
    answered = bound;
    deleted = h.deleted;
    late = h.late;
    remembered = λ q op there. elim (cases_eq q o) [
      | inl is ↦ subst (λ n. IsKeptBack c.arena n op) (sym is) (back op (ap (operation_at table) (sym is) ∙ there))
      | inr other ↦ h.remembered q op (sym (others q other) ∙ there)
    ];
    few = h.few;
    quotas = h.quotas;
    written = h.written;
  }

-- taking an operation out, no operation more has made a step
made_without : (table : Shown) (o : ℕ) → made_count (set table o None) ≤ made_count table
made_without [] o = omega arith
made_without (x ∷ table) zero = omega arith
made_without (x ∷ table) (suc o) = let rest = made_without table o in omega (arith, rest)

pub made_inside : (table : Table) (o : ℕ) → made_count (shown_table (set table o None)) ≤ made_count (shown_table table)
made_inside table o = let is = ap made_count (shown_set table o None) in let less = made_without (shown_table table) o in omega (arith, is, less)

-- an operation less, which held nothing and had nothing ready
pub removed_sound : (c : Core) (o answers : ℕ) (op : Operation) → StateInvariant c → operation_at c.table o ≡ Some op
    → ((k : ℕ) → HoldsAt op.walk.phase op k → ⊥) → is_prepared op.walk.phase ≡ false
    → answers + made_count (shown_table (set c.table o None)) ≤ c.steps → StateInvariant (with_table c answers (set c.table o None))
removed_sound c o answers op h there free unready bound =
    table_sound c o answers (set c.table o None) h (λ q ne. set_there c.table o q None ne)
    (λ k within held.
    let w = h.holders k o within held in
    let same = same_Some w.0 op (sym w.1 ∙ there) in
    free k (subst (λ (x : Operation). HoldsAt x.walk.phase x k) same w.2))
    (λ x is. absurd (none-some x (sym (set_none c.table o) ∙ is)))
    (λ x is. absurd (none-some x (sym (set_none c.table o) ∙ is)))
    (λ x is. absurd (none-some x (sym (set_none c.table o) ∙ is)))
    (ap one_if_prepared (set_none c.table o) ∙ sym (ap one_if_prepared there ∙ ap (λ b. if b then 1 else 0) unready))
    bound

-- an operation more
module _ (c : Core) (o : ℕ) (op : Operation) (table : Table) (h : StateInvariant c) (vacant : operation_at c.table o ≡ None) (there : operation_at table o ≡ Some op) (others : (q : ℕ) → q ≢ o → operation_at table q ≡ operation_at c.table q) where
  -- the invariant with an operation more
  pub begun_sound : op.walk.first ≡ 0 → one_if_prepared (Some op) ≡ 0 → IsKeptOf (with_table c c.answers table) o op → IsScanKept (with_table c c.answers table) op
      → IsKeptBack c.arena o op → StateInvariant (with_table c c.answers table)
  begun_sound still unready kept scan back = table_sound c o c.answers table h others
      (λ k within held. let w = h.holders k o within held in none-some w.0 (sym vacant ∙ w.1))
      (λ x is. subst (IsKeptOf (with_table c c.answers table) o) (same_Some op x (sym there ∙ is)) kept)
      (λ x is. subst (IsScanKept (with_table c c.answers table)) (same_Some op x (sym there ∙ is)) scan)
      (λ x is. subst (IsKeptBack c.arena o) (same_Some op x (sym there ∙ is)) back)
      (ap one_if_prepared there ∙ unready ∙ sym (ap one_if_prepared vacant))
      (answered_begun c.answers c.steps (shown_table c.table) (shown_table table) o (view_of op) (shown_at c.table o ∙ ap (option_map view_of) vacant) (shown_there table o op there) still
      (λ q other. shown_at table q ∙ ap (option_map view_of) (others q other) ∙ sym (shown_at c.table q)) h.answered)
