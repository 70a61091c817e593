-- A state whose counting begins anew keeps the invariant, where no operation is open: for `Inner::renumber`.
use Rattle.std.proofs.{Common.{◌≡◌, ℕ, ◌^◌, ◌<◌, ◌≤◌, List, [], None, length, replicate, true, sym, refl, ap, subst, ◌∙◌, arith}, lemmas.List.length-replicate}
use Rattle.std.proofs.{lemmas.List.Elements.All-replicate, lemmas.Option.none-some}
use Rattle.mt_rows.specs.Rows.{Bytes}
use Rattle.mt_border.{specs.{Contents.AllStamped, Restamps.all_restamped}, proofs.Restamping.all-restamped}
use Rattle.mt_tape.specs.Tapes.{Kept}
use Rattle.mt_arena.specs.{NodeView.NodeView, Arena.{ArenaView, IsArena, content_of}, Contents.counts, Forests.tree_at, Accesses.at, Renumbers.{renumbered, arena_renumbered, AreRestamped}}
use Rattle.mt_arena.proofs.{Renumbering.{at-renumbered, size-renumbered, content-renumbered}, Out.upto_anew}
use Rattle.mt_operation.specs.Tables.{Table, op_at as operation_at}
use Rattle.mt_state.specs.{Views.Core, Invariant.{StateInvariant, AreStamps, AreVersions, AreHolders, AreCounted, DeletedAreEmpty, IsStampOf, IsCountedUpTo}}
use Rattle.mt_core.{specs.Renumbers.{AreGivenUpto, core_renumbered}, proofs.OtherStamps.{len-restamped, stamped_slots}}

never : {P : Type 0} (k : ℕ) → k < 0 → P
never k lt = absurd (omega (arith, lt))

-- the tape of a state that begins at a number
abbrev tape_from : ℕ → Kept
tape_from steps = record { entries = []; floor = steps; reserved = 0 }

module _ (steps : ℕ) (f : ℕ → ℕ) (c : Core) (sound : StateInvariant c) (arena : IsArena c.arena.nodes c.arena.trees) (idle : (o : ℕ) → operation_at c.table o ≡ None) (few : steps ≤ 2 ^ 59)
    (upto : AreGivenUpto steps f (content_of c.arena)) where
  -- each number of a node stands for the same node
  was : (k : ℕ) → k < length (arena_renumbered steps f c.arena).nodes → k < length c.arena.nodes
  was k lt = omega (arith, lt, size-renumbered f c.arena.nodes)

  is : (k : ℕ) → at (arena_renumbered steps f c.arena) k ≡ renumbered f (at c.arena k)
  is k = at-renumbered f c.arena.nodes k

  -- a stamp up to the last step is right, since nothing was written after that
  is_stamp : (q : ℕ × Bytes) (s : ℕ) → s ≤ steps → IsStampOf steps (tape_from steps) q s
  is_stamp q s le = (le, (λ k d lt. never k lt), (λ lt. absurd (omega (arith, le, lt))))

  counted_before : (k : ℕ) → counts c.arena.trees (at (arena_renumbered steps f c.arena) k) ≡ true → counts c.arena.trees (at c.arena k) ≡ true
  counted_before k counted = sym (ap (counts c.arena.trees) (is k)) ∙ counted

  stamps : AreStamps (core_renumbered steps f c)
  stamps k within counted =
      subst (λ (n : NodeView). AllStamped (IsStampOf steps (tape_from steps)) (tree_at c.arena.trees n.tree).prefix n.slots) (sym (is k))
      (all-restamped (λ q s. f s ≤ steps) (IsStampOf steps (tape_from steps)) f (tree_at c.arena.trees (at c.arena k).tree).prefix (at c.arena k).slots (λ q s le. is_stamp q (f s) le)
      (stamped_slots c.arena arena k (was k within) (counted_before k counted) (λ q s. f s ≤ steps) upto))

  versions : AreVersions (core_renumbered steps f c)
  versions k within = subst (IsCountedUpTo steps) (sym (is k)) (record { inserts = omega arith; splits = omega arith })

  holders : AreHolders (core_renumbered steps f c)
  holders k o within held =
      let h = sound.holders k o (was k within) (sym (ap (λ (n : NodeView). n.holder) (is k)) ∙ held) in
      absurd (none-some h.0 (sym (idle o) ∙ h.1))

  -- the contents stand but for their stamps
  same : AreRestamped f (content_of c.arena) (content_of (arena_renumbered steps f c.arena))
  same = content-renumbered f c.arena.trees c.arena.nodes

  counted : AreCounted (core_renumbered steps f c)
  counted t a there =
      let h = sound.counts t a there in
      (h.0 ∙ sym (len-restamped f (content_of c.arena) (content_of (arena_renumbered steps f c.arena)) same t), h.1)

  deleted : DeletedAreEmpty (arena_renumbered steps f c.arena)
  deleted k within gone =
      ap (λ (n : NodeView). n.slots) (is k) ∙ ap (all_restamped f) (sound.deleted k (was k within) (sym (ap (λ (n : NodeView). n.version.deleted) (is k)) ∙ gone))

  -- the invariant
  pub renumber_keeps : StateInvariant (core_renumbered steps f c)
  renumber_keeps = record {
    tape = record {
      rises = tt;
      made = omega arith;
      legal = λ k d lt. never k lt;
      keys = λ k d lt. never k lt;
      logs = record {
        few = let count = length-replicate {A = ℕ} (length c.logs) steps in let old = sound.tape.logs.few in omega (arith, count, old);
        made = All-replicate (λ m. m ≤ steps) (length c.logs) steps (omega arith);
        reached = All-replicate (λ m. steps ≤ m) (length c.logs) steps (omega arith);
      };
    };
    stamps = stamps;
    versions = versions;
    holders = holders;
    counts = counted;
    ops = λ o op there. absurd (cc);
    scans = λ o op there. absurd (cc);
    reserved = refl;
    answered = omega arith;
    deleted = deleted;
    late = upto_anew steps c.arena.retired;
    remembered = λ o op there. absurd (cc);
    few = few;
    quotas = λ t m a there from below. let h = counted t a there in omega (arith, h.0, h.1);
    written = λ k d lt. never k lt;
  }

-- the same of the values that the code has
pub renumber_state : (steps : ℕ) (f : ℕ → ℕ) (c : Core) (logs : List ℕ) (arena : ArenaView) (tape : Kept) (table : Table) → StateInvariant c → IsArena c.arena.nodes c.arena.trees
    → ((o : ℕ) → operation_at c.table o ≡ None) → steps ≤ 2 ^ 59 → AreGivenUpto steps f (content_of c.arena)
    → logs ≡ replicate (length c.logs) steps → arena ≡ arena_renumbered steps f c.arena → tape ≡ tape_from steps → table ≡ []
    → StateInvariant (record (core_renumbered steps f c) { logs = logs; arena = arena; tape = tape; table = table })
renumber_state steps f c logs arena tape table sound right idle few upto l a t e =
    let P : Core → Type 0 = λ c. StateInvariant c in
    subst (λ w. P (record (core_renumbered steps f c) { logs = w; arena = arena; tape = tape; table = table })) (sym l)
    (subst (λ x. P (record (core_renumbered steps f c) { arena = x; tape = tape; table = table })) (sym a)
    (subst (λ y. P (record (core_renumbered steps f c) { tape = y; table = table })) (sym t)
    (subst (λ z. P (record (core_renumbered steps f c) { table = z })) (sym e) (renumber_keeps steps f c sound right idle few upto))))
