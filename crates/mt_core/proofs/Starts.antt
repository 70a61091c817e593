-- A state in which nothing has happened keeps the invariant: for `Inner::new`.
use Rattle.std.proofs.{Common.{◌≡◌, ℕ, zero, suc, ◌<◌, ◌≤◌, List, [], replicate, sym, refl, ap, subst, ◌∙◌, arith}, lemmas.List.length-replicate}
use Rattle.std.proofs.lemmas.List.Elements.{All-replicate}
use Rattle.std.specs.{FinMap.{len, len-empty}, Ordering.nat_cmp, Cmp.Lexicographic.slice_cmp}
use Rattle.mt_rows.specs.{Stamps.Stamped, Accounts.Accounts, Tenants.tenant_map}
use Rattle.mt_tape.specs.Tapes.{Kept}
use Rattle.mt_arena.{specs.{Arena.{ArenaView, content_of}, Accesses.new_arena}, proofs.Out.upto_none}
use Rattle.mt_operation.specs.Tables.{Table}
use Rattle.mt_state.specs.{Views.Core, Invariant.{DeletedAreEmpty, StateInvariant, AreStamps, AreVersions, AreHolders}, Begins.HaveNoPairs}
use Rattle.mt_state.proofs.HistoryStart.{content-new, tenant_map-empty}

-- the tape of a new state
abbrev no_tape : Kept
no_tape = record { entries = []; floor = 0; reserved = 0 }

-- what is inside a new state
abbrev start : ℕ → Accounts → Core
start logs accounts = record { steps = 0; answers = 0; logs = replicate logs 0; accounts = accounts; arena = new_arena; tape = no_tape; table = [] }

-- no tenant has a pair in a new arena
no_len : (t : ℕ) → len (tenant_map t (content_of new_arena)) ≡ 0
no_len t = ap (λ x. len (tenant_map t x)) content-new ∙ ap len (tenant_map-empty t) ∙ len-empty (slice_cmp nat_cmp) Stamped

never : {P : Type 0} (k : ℕ) → k < 0 → P
never k lt = absurd (omega (arith, lt))

-- the invariant of a new state
start_sound : (logs : ℕ) (accounts : Accounts) → logs ≤ 64 → HaveNoPairs accounts → StateInvariant (start logs accounts)
start_sound logs accounts few none = record {
  tape = record {
    rises = tt;
    made = omega arith;
    legal = λ k d lt. never k lt;
    keys = λ k d lt. never k lt;
    logs = record {
      few = let count = length-replicate {A = ℕ} logs 0 in omega (arith, count, few);
      made = All-replicate (λ m. m ≤ 0) logs 0 (omega arith);
      reached = All-replicate (λ m. 0 ≤ m) logs 0 (omega arith);
    };
  };
  stamps = stamps;
  versions = versions;
  holders = holders;
  counts = λ t a there. (none t a there ∙ sym (no_len t), omega (arith, none t a there));
  ops = λ o op there. absurd (cc);
  scans = λ o op there. absurd (cc);
  reserved = refl;
  answered = omega arith;
  deleted = deleted;
  late = upto_none 0;
  remembered = λ o op there. absurd (cc);
  few = omega arith;
  quotas = λ t m a there from upto. subst (λ n. n ≤ a.quota) (sym (no_len t)) (omega arith);
  written = λ k d lt. never k lt;
}
  where
    stamps : AreStamps (start logs accounts)
    stamps zero within counted = λ i d lt. never i lt
    stamps (suc k) within counted = absurd (omega (arith, within))

    versions : AreVersions (start logs accounts)
    versions zero within = record { inserts = omega arith; splits = omega arith }
    versions (suc k) within = absurd (omega (arith, within))

    deleted : DeletedAreEmpty (start logs accounts).arena
    deleted zero within gone = refl
    deleted (suc k) within gone = absurd (omega (arith, within))

    holders : AreHolders (start logs accounts)
    holders zero o within held = absurd (cc)
    holders (suc k) o within held = absurd (omega (arith, within))

-- the same of the values that the code has
pub start_state : (logs : ℕ) (accounts : Accounts) (given : List ℕ) (arena : ArenaView) (tape : Kept) (table : Table) → logs ≤ 64 → HaveNoPairs accounts
    → given ≡ replicate logs 0 → arena ≡ new_arena → tape ≡ no_tape → table ≡ []
    → StateInvariant (record (start logs accounts) { logs = given; arena = arena; tape = tape; table = table })
start_state logs accounts given arena tape table few none g a t e =
    let P : Core → Type 0 = λ c. StateInvariant c in
    subst (λ w. P (record (start logs accounts) { logs = w; arena = arena; tape = tape; table = table })) (sym g)
    (subst (λ x. P (record (start logs accounts) { arena = x; tape = tape; table = table })) (sym a)
    (subst (λ y. P (record (start logs accounts) { tape = y; table = table })) (sym t)
    (subst (λ z. P (record (start logs accounts) { table = z })) (sym e) (start_sound logs accounts few none))))
