-- Two tests make a choice, and plain files may stay unread.
use Rattle.std.proofs.Common.{◌≡◌, ◌⊎◌, inl, inr, ⊎_elim, ℕ, zero, suc, ◌+◌, ◌<◌, false, ◌==◌, List, [], ◌∷◌, map, refl, sym, ◌∙◌, ap, subst, arith, None}
use Rattle.std.proofs.lemmas.Bool.{ne_eqb, cond-false}
use Rattle.std.specs.{List.AllZip, Option.option_map}
use Rattle.mt_log.specs.Contents.{contents_of}
use Rattle.mt_crashes.{specs.{Bases.Slots}, proofs.Members.no_some}
use Rattle.mt_generations.specs.Chains.{Chain, HasUse}
use Rattle.mt_generations.specs.Standings.{Standing, AreFrom, AllHave, IsLast, CanBegin, IsChosen, HaveNoChoice, AgreeFrom}
use Rattle.mt_generations.proofs.{Deciding.{have_all, same_from}, Choices.{none_begins, older_unread}}
use Rattle.mt_chains.specs.{declared.worker_logs.WorkerLogs.WorkerLogs, Files.{standing_of, numbered_log, SameNumbered}}

-- no base may be used over the chains from a generation on, so a recovery can't begin there
pub no_beginning : (g : ℕ) (files : List Standing) (slots : Slots) (chains : List Chain) → AreFrom g files chains → ¬ HasUse chains slots → ¬ CanBegin g files slots
no_beginning g files slots chains are lacks can = lacks (subst (λ (cs : List Chain). HasUse cs slots) (same_from g files can.0 chains can.1 are) can.2)

pub before_chosen : (g : ℕ) (files : List Standing) (slots : Slots) (chains later : List Chain) → IsLast (g + 1) files → AreFrom (g + 1) files later → ¬ HasUse later slots
    → AreFrom g files chains → HasUse chains slots → IsChosen files slots g chains
before_chosen g files slots chains later last are_later lacks are has = (are, has, inr (last, no_beginning (g + 1) files slots later are_later lacks))

pub neither_chosen : (g : ℕ) (files : List Standing) (slots : Slots) (later : List Chain) → IsLast (g + 1) files → AreFrom (g + 1) files later → ¬ HasUse later slots
    → ((chains : List Chain) → AreFrom g files chains → ¬ HasUse chains slots) → HaveNoChoice files slots
neither_chosen g files slots later last are_later lacks none =
    none_begins files slots (g + 1) last (no_beginning (g + 1) files slots later are_later lacks)
    (λ h same can. none can.0 (subst (λ (n : ℕ). AreFrom n files can.0) (omega (arith, same)) can.1) can.2)

pub first_not_chosen : (files : List Standing) (slots : Slots) (chains : List Chain) → IsLast 0 files → AreFrom 0 files chains → ¬ HasUse chains slots
    → HaveNoChoice files slots
first_not_chosen files slots chains last are lacks =
    none_begins files slots 0 last (no_beginning 0 files slots chains are lacks) (λ h same can. omega (arith, same))

-- a recovery can begin at the last generation, or only at the one before it
pub last_chosen : (g : ℕ) (files : List Standing) (slots : Slots) → IsLast g files → CanBegin g files slots → (chains : List Chain) → AreFrom g files chains
    → IsChosen files slots g chains
last_chosen g files slots last can chains are =
    (are, subst (λ (cs : List Chain). HasUse cs slots) (same_from g files can.0 chains can.1 are) can.2, inl last)

pub earlier_chosen : (g h : ℕ) (files : List Standing) (slots : Slots) → h + 1 ≡ g → IsLast g files → ¬ CanBegin g files slots → CanBegin h files slots
    → (chains : List Chain) → AreFrom h files chains → IsChosen files slots h chains
earlier_chosen g h files slots next last lacks can chains are = (
  are,
  subst (λ (cs : List Chain). HasUse cs slots) (same_from h files can.0 chains can.1 are) can.2,
  inr (
    subst (λ (n : ℕ). IsLast n files) (sym next) last,
    subst (λ (n : ℕ). ¬ CanBegin n files slots) (sym next) lacks,
  ),
)

-- ---- plain files

same_later : (logs others : WorkerLogs) (h : ℕ) → 0 < h → SameNumbered logs others → standing_of others h ≡ standing_of logs h
same_later logs others h over same =
    let later : (h == 0) ≡ false = ne_eqb h 0 (λ zero. omega (arith, zero, over)) in
    cond-false (h == 0) (option_map contents_of others.plain) (numbered_log h others.numbered) later
    ∙ ap (numbered_log h) (sym same)
    ∙ sym (cond-false (h == 0) (option_map contents_of logs.plain) (numbered_log h logs.numbered) later)

agree : (g : ℕ) (logs others : List WorkerLogs) → 0 < g → AllZip SameNumbered logs others → AgreeFrom g (map standing_of logs) (map standing_of others)
agree g [] [] over all = tt
agree g [] (x ∷ others) over all = absurd all
agree g (w ∷ logs) [] over all = absurd all
agree g (w ∷ logs) (x ∷ others) over all = (λ h le. same_later w x h (omega (arith, over, le)) all.0, agree g logs others over all.1)

back : (logs others : List WorkerLogs) → AllZip SameNumbered logs others → AllZip SameNumbered others logs
back [] [] all = tt
back [] (x ∷ others) all = absurd all
back (w ∷ logs) [] all = absurd all
back (w ∷ logs) (x ∷ others) all = (sym all.0, back logs others all.1)

pub still_chosen : (g : ℕ) (logs others : List WorkerLogs) (slots : Slots) (chains : List Chain) → 0 < g → AllZip SameNumbered logs others
    → IsChosen (map standing_of logs) slots g chains → IsChosen (map standing_of others) slots g chains
still_chosen g logs others slots chains over all chosen =
    older_unread g (map standing_of logs) (map standing_of others) slots chains (agree g logs others over all) chosen

-- the last generation is one that all have, and no later one is
pub still_last : (g : ℕ) (logs others : List WorkerLogs) → 0 < g → AllZip SameNumbered logs others → IsLast g (map standing_of logs) → IsLast g (map standing_of others)
still_last g logs others over all last = (
  had g logs others over all last.0,
  λ h have. ⊎_elim (λ zero. omega (arith, zero)) (λ later. last.1 h (had h others logs later (back logs others all) have)) (zero_or_over h),
)
  where
    zero_or_over : (h : ℕ) → (h ≡ 0) ⊎ (0 < h)
    zero_or_over zero = inl refl
    zero_or_over (suc h) = inr (omega arith)

    had : (h : ℕ) (logs others : List WorkerLogs) → 0 < h → AllZip SameNumbered logs others → AllHave h (map standing_of logs) → AllHave h (map standing_of others)
    had h [] [] over all have f at = absurd at
    had h [] (x ∷ others) over all have f at = absurd all
    had h (w ∷ logs) [] over all have f at = absurd all
    had h (w ∷ logs) (x ∷ others) over all have f (inl e) =
        let c = have (standing_of w) (inl refl) in (c.0, ap (λ (y : Standing). y h) e ∙ same_later w x h over all.0 ∙ c.1)
    had h (w ∷ logs) (x ∷ others) over all have f (inr at) = had h logs others over all.1 (λ y there. have y (inr there)) f at

-- if the last one is over 1, no choice begins at 0, whatever the plain files have
pub still_none : (g : ℕ) (logs others : List WorkerLogs) (slots : Slots) → 1 < g → AllZip SameNumbered logs others → IsLast g (map standing_of logs)
    → HaveNoChoice (map standing_of logs) slots → HaveNoChoice (map standing_of others) slots
still_none g logs others slots over all last none h chains chosen =
    let here = still_last g logs others (omega (arith, over)) all last in
    none h chains (still_chosen h others logs slots chains (later here chosen.2) (back logs others all) chosen)
  where
    later : IsLast g (map standing_of others)
        → IsLast h (map standing_of others) ⊎ (IsLast (h + 1) (map standing_of others) × (¬ CanBegin (h + 1) (map standing_of others) slots)) → 0 < h
    later here (inl own) = omega (arith, own.1 g here.0, over)
    later here (inr next) = omega (arith, next.0.1 g here.0, over)

-- without plain files a choice is of a numbered generation
pub is_numbered : (g : ℕ) (worker : WorkerLogs) (others : List WorkerLogs) (slots : Slots) (chains : List Chain) → worker.plain ≡ None
    → IsChosen (map standing_of (worker ∷ others)) slots g chains → 0 < g
is_numbered zero worker others slots chains unread chosen =
    let c = have_all 0 (map standing_of (worker ∷ others)) chains chosen.0 (standing_of worker) (inl refl) in
    absurd (no_some c.0 (sym (ap (option_map contents_of) unread) ∙ c.1))
is_numbered (suc g) worker others slots chains unread chosen = omega arith
