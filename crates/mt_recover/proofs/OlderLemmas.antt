-- The last number from which a store has served, and the least worker whose log lacks the resume batch up to it: for `first_older`.
use Rattle.std.proofs.Common.{◌≡◌, ◌⊎◌, inl, inr, ⊎_elim, ℕ, ◌<◌, ◌≤◌, min, max, Bool, true, false, cond, not, ◌&&◌, ltb, List, [], ◌∷◌, map, refl, sym, ◌∙◌, ap, subst, arith, Option, Some, None}
use Rattle.std.proofs.{lemmas.Bool.{ltb-true, ltb-false, eqb-true, eq-eqb, and_parts, not-true, or_left, or_right, or_cases, true≢false}, lemmas.Option.same_Some}
use Rattle.mt_log.specs.{declared.batch.LogBatch.LogBatch, declared.batch.LogBatch.TheVariants.{Records, OldRecords, Resume}, Contents.{Contents, JoinsAndRises, mark_of}}
use Rattle.mt_crashes.specs.{Fronts.{In, HoldResume, HoldRecords, RecordsFollow, ServedFrom, AnyServed, IsLastServed}, Recoveries.NoneOlder}
use Rattle.mt_crashes.proofs.{Members.{in_map, map_in, no_some}, FrontLaws.{below_greatest, greatest_in}, Invariant.resume_upto_mark}
use Rattle.mt_generations.{specs.Chains.{BeginBy, NoneOlderOver}, proofs.Parts.end_from}
use Rattle.mt_recover.specs.Older.{Lacks, IsFirstOlder, served_in, last_served, holds_resume, lacks_resume, lower, least_without}

-- ---- the last number

records_follow : (resumed : ℕ) (bs : List LogBatch) → HoldRecords bs → resumed ≤ served_in resumed bs
records_follow resumed [] h = absurd h
records_follow resumed (Records b ∷ bs) h = omega arith
records_follow resumed (OldRecords b ∷ bs) h = omega arith
records_follow resumed (Resume from to kept ∷ bs) h = omega (arith, records_follow (max resumed to) bs h)

served_upto : (n resumed : ℕ) (bs : List LogBatch) → RecordsFollow n bs → n ≤ served_in resumed bs
served_upto n resumed [] h = absurd h
served_upto n resumed (Records b ∷ bs) (inl two) = absurd two.0
served_upto n resumed (Records b ∷ bs) (inr h) = omega (arith, served_upto n resumed bs h)
served_upto n resumed (OldRecords b ∷ bs) (inl two) = absurd two.0
served_upto n resumed (OldRecords b ∷ bs) (inr h) = omega (arith, served_upto n resumed bs h)
served_upto n resumed (Resume from to kept ∷ bs) (inl two) = omega (arith, two.0, records_follow (max resumed to) bs two.1)
served_upto n resumed (Resume from to kept ∷ bs) (inr h) = served_upto n (max resumed to) bs h

-- it is none, or goes as far as what stood before, or was served from
served_is : (resumed : ℕ) (bs : List LogBatch) → (served_in resumed bs ≡ 0) ⊎ (((served_in resumed bs ≡ resumed) × HoldRecords bs) ⊎ RecordsFollow (served_in resumed bs) bs)
served_is resumed [] = inl refl
served_is resumed (Records b ∷ bs) = by (ltb resumed (served_in resumed bs)) refl (served_is resumed bs)
  where
    by : (t : Bool) → ltb resumed (served_in resumed bs) ≡ t → (served_in resumed bs ≡ 0) ⊎ (((served_in resumed bs ≡ resumed) × HoldRecords bs) ⊎ RecordsFollow (served_in resumed bs) bs)
        → (max resumed (served_in resumed bs) ≡ 0) ⊎ (((max resumed (served_in resumed bs) ≡ resumed) × Unit {0}) ⊎ RecordsFollow (max resumed (served_in resumed bs)) (Records b ∷ bs))
    by false is rest = inr (inl (omega (arith, ltb-false resumed (served_in resumed bs) is), tt))
    by true is (inl zero_is) = absurd (omega (arith, ltb-true resumed (served_in resumed bs) is, zero_is))
    by true is (inr (inl same)) = absurd (omega (arith, ltb-true resumed (served_in resumed bs) is, same.0))
    by true is (inr (inr h)) = inr (inr (inr (subst (λ (n : ℕ). RecordsFollow n bs) (omega (arith, ltb-true resumed (served_in resumed bs) is)) h)))
served_is resumed (OldRecords b ∷ bs) = by (ltb resumed (served_in resumed bs)) refl (served_is resumed bs)
  where
    by : (t : Bool) → ltb resumed (served_in resumed bs) ≡ t → (served_in resumed bs ≡ 0) ⊎ (((served_in resumed bs ≡ resumed) × HoldRecords bs) ⊎ RecordsFollow (served_in resumed bs) bs)
        → (max resumed (served_in resumed bs) ≡ 0) ⊎ (((max resumed (served_in resumed bs) ≡ resumed) × Unit {0}) ⊎ RecordsFollow (max resumed (served_in resumed bs)) (OldRecords b ∷ bs))
    by false is rest = inr (inl (omega (arith, ltb-false resumed (served_in resumed bs) is), tt))
    by true is (inl zero_is) = absurd (omega (arith, ltb-true resumed (served_in resumed bs) is, zero_is))
    by true is (inr (inl same)) = absurd (omega (arith, ltb-true resumed (served_in resumed bs) is, same.0))
    by true is (inr (inr h)) = inr (inr (inr (subst (λ (n : ℕ). RecordsFollow n bs) (omega (arith, ltb-true resumed (served_in resumed bs) is)) h)))
served_is resumed (Resume from to kept ∷ bs) = by (ltb resumed to) refl (served_is (max resumed to) bs)
  where
    by : (t : Bool) → ltb resumed to ≡ t
        → (served_in (max resumed to) bs ≡ 0) ⊎ (((served_in (max resumed to) bs ≡ max resumed to) × HoldRecords bs) ⊎ RecordsFollow (served_in (max resumed to) bs) bs)
        → (served_in (max resumed to) bs ≡ 0) ⊎ (((served_in (max resumed to) bs ≡ resumed) × HoldRecords bs) ⊎ RecordsFollow (served_in (max resumed to) bs) (Resume from to kept ∷ bs))
    by t is (inl none) = inl none
    by false is (inr (inl two)) = inr (inl (omega (arith, two.0, ltb-false resumed to is), two.1))
    by true is (inr (inl two)) = inr (inr (inl (omega (arith, two.0, ltb-true resumed to is), two.1)))
    by t is (inr (inr h)) = inr (inr (inr h))

-- no log tells of a later one
pub last_is : (fronts : List Contents) (n : ℕ) → AnyServed fronts n → n ≤ last_served fronts
last_is fronts n any =
    omega (
      arith,
      served_upto n 0 any.0.batches any.2,
      below_greatest (served_in 0 any.0.batches) (map (λ (f : Contents). served_in 0 f.batches) fronts) (in_map (λ (f : Contents). served_in 0 f.batches) any.0 fronts any.1),
    )

-- and one tells of it, if it isn't 0
pub is_served : (fronts : List Contents) → 0 < last_served fronts → AnyServed fronts (last_served fronts)
is_served [] some = absurd (omega (arith, some))
is_served (c ∷ cs) some =
    let at = map_in (λ (f : Contents). served_in 0 f.batches) (last_served (c ∷ cs)) (c ∷ cs) (greatest_in (served_in 0 c.batches) (map (λ (f : Contents). served_in 0 f.batches) cs)) in
    (at.0, at.1, subst (λ (n : ℕ). RecordsFollow n at.0.batches) (sym at.2) (by at.0 (omega (arith, some, at.2)) (served_is 0 at.0.batches)))
  where
    by : (f : Contents) → 0 < served_in 0 f.batches
        → (served_in 0 f.batches ≡ 0) ⊎ (((served_in 0 f.batches ≡ 0) × HoldRecords f.batches) ⊎ RecordsFollow (served_in 0 f.batches) f.batches)
        → RecordsFollow (served_in 0 f.batches) f.batches
    by f over (inl none) = absurd (omega (arith, over, none))
    by f over (inr (inl two)) = absurd (omega (arith, over, two.0))
    by f over (inr (inr h)) = h

-- so it is the last, if it isn't 0
is_last : (fronts : List Contents) → 0 < last_served fronts → IsLastServed fronts (last_served fronts)
is_last fronts some = (is_served fronts some, λ n any. last_is fronts n any)

last_is_it : (fronts : List Contents) (n : ℕ) → 0 < n → IsLastServed fronts n → last_served fronts ≡ n
last_is_it fronts n over last =
    let upto = last_is fronts n last.0 in
    omega (arith, upto, last.1 (last_served fronts) (is_served fronts (omega (arith, over, upto))))

-- ---- a resume batch

told_held : (n : ℕ) (bs : List LogBatch) → holds_resume n bs ≡ true → HoldResume n bs
told_held n [] e = absurd (true≢false (sym e))
told_held n (Records b ∷ bs) e = inr (told_held n bs e)
told_held n (OldRecords b ∷ bs) e = inr (told_held n bs e)
told_held n (Resume from to kept ∷ bs) e = ⊎_elim (λ l. inl (eqb-true to n l)) (λ r. inr (told_held n bs r)) (or_cases _ _ e)

held_told : (n : ℕ) (bs : List LogBatch) → HoldResume n bs → holds_resume n bs ≡ true
held_told n [] h = absurd h
held_told n (Records b ∷ bs) (inl none) = absurd none
held_told n (Records b ∷ bs) (inr h) = held_told n bs h
held_told n (OldRecords b ∷ bs) (inl none) = absurd none
held_told n (OldRecords b ∷ bs) (inr h) = held_told n bs h
held_told n (Resume from to kept ∷ bs) (inl e) = or_left _ _ (eq-eqb to n e)
held_told n (Resume from to kept ∷ bs) (inr h) = or_right _ _ (held_told n bs h)

held_not : (n : ℕ) (bs : List LogBatch) → holds_resume n bs ≡ false → ¬ HoldResume n bs
held_not n bs e h = true≢false (sym (held_told n bs h) ∙ e)

-- a log lacks it just if the test tells so
told_lacks : (n : ℕ) (c : Contents) → lacks_resume n c ≡ true → Lacks n c
told_lacks n c e =
    let parts = and_parts _ _ e in
    (ltb-true c.start n parts.0, held_not n c.batches (not-true _ parts.1))

told_has : (n : ℕ) (c : Contents) → lacks_resume n c ≡ false → HoldResume n c.batches ⊎ (n ≤ c.start)
told_has n c e = by (ltb c.start n) (holds_resume n c.batches) refl refl e
  where
    by : (t h : Bool) → ltb c.start n ≡ t → holds_resume n c.batches ≡ h → t && not h ≡ false → HoldResume n c.batches ⊎ (n ≤ c.start)
    by false h is holds e = inr (ltb-false c.start n is)
    by true true is holds e = inl (told_held n c.batches holds)
    by true false is holds e = absurd (true≢false e)

pub has_not : (n : ℕ) (c : Contents) → HoldResume n c.batches ⊎ (n ≤ c.start) → ¬ Lacks n c
has_not n c (inl held) lacks = lacks.1 held
has_not n c (inr later) lacks = omega (arith, later, lacks.0)

-- ---- the least worker

-- nothing was found before, and no log lacks the resume batch up to the number
none_without : (number : ℕ) (found : Option ℕ) (fronts : List Contents) → least_without number found fronts ≡ None
    → (found ≡ None) × ((f : Contents) → In f fronts → HoldResume number f.batches ⊎ (number ≤ f.start))
none_without number found [] h = (h, λ f at. absurd at)
none_without number found (c ∷ cs) h =
    by (lacks_resume number c) refl (none_without number (cond (lacks_resume number c) (lower found c.worker) found) cs h)
  where
    some_lower : (o : Option ℕ) (worker : ℕ) → lower o worker ≡ None → ⊥
    some_lower None worker e = no_some worker (sym e)
    some_lower (Some other) worker e = no_some (min other worker) (sym e)

    by : (t : Bool) → lacks_resume number c ≡ t
        → (cond t (lower found c.worker) found ≡ None) × ((f : Contents) → In f cs → HoldResume number f.batches ⊎ (number ≤ f.start))
        → (found ≡ None) × ((f : Contents) → In f (c ∷ cs) → HoldResume number f.batches ⊎ (number ≤ f.start))
    by true is rest = absurd (some_lower found c.worker rest.0)
    by false is rest = (
      rest.0,
      λ f at. ⊎_elim
          (λ e. subst (λ (x : Contents). HoldResume number x.batches ⊎ (number ≤ x.start)) (sym e) (told_has number c is))
          (λ more. rest.1 f more)
          at,
    )

-- a worker that is found was so before, or its log lacks the resume batch up to the number
abbrev Found : ℕ → Option ℕ → List Contents → ℕ → Type 0
Found number found fronts worker = (found ≡ Some worker) ⊎ ((f : Contents) × In f fronts × (f.worker ≡ worker) × Lacks number f)

-- and it is the least
abbrev IsLeast : ℕ → Option ℕ → List Contents → ℕ → Type 0
IsLeast number found fronts worker =
    ((other : ℕ) → found ≡ Some other → worker ≤ other) × ((f : Contents) → In f fronts → Lacks number f → worker ≤ f.worker)

one_without : (number : ℕ) (found : Option ℕ) (fronts : List Contents) (worker : ℕ) → least_without number found fronts ≡ Some worker
    → Found number found fronts worker × IsLeast number found fronts worker
one_without number found [] worker h = (inl h, (λ other e. omega (arith, same_Some worker other (sym h ∙ e)), λ f at. absurd at))
one_without number found (c ∷ cs) worker h =
    by (lacks_resume number c) refl (one_without number (cond (lacks_resume number c) (lower found c.worker) found) cs worker h)
  where
    lowered : (o : Option ℕ) → lower o c.worker ≡ Some worker → (o ≡ Some worker) ⊎ (c.worker ≡ worker)
    lowered None e = inr (same_Some c.worker worker e)
    lowered (Some other) e = either (ltb other c.worker) refl
      where
        either : (t : Bool) → ltb other c.worker ≡ t → (Some other ≡ Some worker) ⊎ (c.worker ≡ worker)
        either true is = inl (ap (λ (n : ℕ). Some n) (omega (arith, ltb-true other c.worker is, same_Some (min other c.worker) worker e)))
        either false is = inr (omega (arith, ltb-false other c.worker is, same_Some (min other c.worker) worker e))

    below : (o : Option ℕ) → ((other : ℕ) → lower o c.worker ≡ Some other → worker ≤ other) → ((other : ℕ) → o ≡ Some other → worker ≤ other) × (worker ≤ c.worker)
    below None h = (λ other e. absurd (no_some other e), h c.worker refl)
    below (Some x) h = (λ other e. omega (arith, h (min x c.worker) refl, same_Some x other e), omega (arith, h (min x c.worker) refl))

    by : (t : Bool) → lacks_resume number c ≡ t
        → Found number (cond t (lower found c.worker) found) cs worker × IsLeast number (cond t (lower found c.worker) found) cs worker
        → Found number found (c ∷ cs) worker × IsLeast number found (c ∷ cs) worker
    by true is rest =
        let under = below found rest.1.0 in (
          ⊎_elim
              (λ e. ⊎_elim (λ l. inl l) (λ r. inr (c, inl refl, r, told_lacks number c is)) (lowered found e))
              (λ at. inr (at.0, inr at.1, at.2, at.3))
              rest.0,
          (under.0, λ f at lacks. ⊎_elim (λ e. omega (arith, under.1, ap (λ (x : Contents). x.worker) e)) (λ more. rest.1.1 f more lacks) at),
        )
    by false is rest = (
      ⊎_elim (λ e. inl e) (λ at. inr (at.0, inr at.1, at.2, at.3)) rest.0,
      (
        rest.1.0,
        λ f at lacks. ⊎_elim
            (λ e. absurd (has_not number c (told_has number c is) (subst (Lacks number) e lacks)))
            (λ more. rest.1.1 f more lacks)
            at,
      ),
    )

-- ---- both

pub none_is_older : (fronts : List Contents) → least_without (last_served fronts) None fronts ≡ None → NoneOlderOver fronts
none_is_older fronts h n g over last in_g =
    subst (λ (k : ℕ). HoldResume k g.batches ⊎ (k ≤ g.start)) (last_is_it fronts n over last) ((none_without (last_served fronts) None fronts h).1 g in_g)

pub one_is_older : (fronts : List Contents) (worker : ℕ) → least_without (last_served fronts) None fronts ≡ Some worker
    → IsFirstOlder fronts worker (last_served fronts)
one_is_older fronts worker h =
    let two = one_without (last_served fronts) None fronts worker h in
    by two.0 two.1
  where
    by : Found (last_served fronts) None fronts worker → IsLeast (last_served fronts) None fronts worker → IsFirstOlder fronts worker (last_served fronts)
    by (inl none) least = absurd (no_some worker none)
    by (inr at) least =
        let over : 0 < last_served fronts = omega (arith, at.3.0) in
        record {
          some = over;
          served = is_last fronts over;
          log = at.0;
          given = at.1;
          owner = at.2;
          lacks = at.3;
          least = λ other in_other lacks. least.1 other in_other lacks;
        }

-- ---- laws

-- a log that lacks such a batch, and none that does, are never both there
pub not_both : (fronts : List Contents) (worker stamp : ℕ) → NoneOlderOver fronts → IsFirstOlder fronts worker stamp → ⊥
not_both fronts worker stamp none one = has_not stamp one.log (none stamp one.log one.some one.served one.given) one.lacks

-- if none is older, and each joins, each goes up to every number from which any tells that the store has served
pub reaches_served : (n : ℕ) (fronts : List Contents) (f g : Contents) → NoneOlderOver fronts → In f fronts → ServedFrom n f → In g fronts → JoinsAndRises g
    → n ≤ mark_of g
reaches_served n fronts f g none in_f served in_g joins = by (ltb 0 (last_served fronts)) refl
  where
    upto : n ≤ last_served fronts
    upto = last_is fronts n (f, in_f, served)

    by : (t : Bool) → ltb 0 (last_served fronts) ≡ t → n ≤ mark_of g
    by false is = omega (arith, upto, ltb-false 0 (last_served fronts) is)
    by true is =
        let over = ltb-true 0 (last_served fronts) is in
        ⊎_elim
        (λ held. omega (arith, upto, resume_upto_mark (last_served fronts) g.start g.batches joins held))
        (λ later. omega (arith, upto, later, end_from g.start g.batches joins))
        (none (last_served fronts) g over (is_last fronts over) in_g)

-- of logs that begin at step 0 this says what it says of whole ones
pub level_whole : (fronts : List Contents) → BeginBy 0 fronts → NoneOlderOver fronts → NoneOlder fronts
level_whole fronts begin none n g over last in_g = ⊎_elim (λ held. held) (λ later. absurd (omega (arith, over, later, begin g in_g))) (none n g over last in_g)

pub whole_level : (fronts : List Contents) → NoneOlder fronts → NoneOlderOver fronts
whole_level fronts none n g over last in_g = inl (none n g over last in_g)
