-- How a walk goes on: it begins, takes a page more, and stays over later changes.
use Rattle.std.proofs.Common.{◌≡◌, ℕ, zero, suc, ◌+◌, ◌<◌, ◌≤◌, Bool, true, false, List, [], ◌∷◌, ◌++◌, map, length, take, Option, Some, None, refl, sym, ap, subst, ◌∙◌, arith}
use Rattle.std.proofs.lemmas.{List.{append_assoc, append-nil, map-append}, List.Elements.recursion_from_All, Option.same_Some}
use Rattle.std.specs.List.{slice_get, AllByRecursion, Contains}
use Rattle.std.specs.FinMap.{get, empty, get-empty}
use Rattle.mt_rows.{specs.{Rows.Bytes, Stamps.{Stamped, stamp_in, as_shown}, Maps.is_walked, Tenants.owned_cmp, declared.record.TenantPair.TenantPair}, proofs.ContentLaws.get-tenant_map}
use Rattle.mt_runs.specs.Scans.{IsLawful}
use Rattle.mt_checkpoint.specs.Checkpoints.{IsPair}
use Rattle.mt_crashes.specs.{Histories.{Placed, upto, changes_of, pairs_upto}, Walks.{Page, IsFromTo, Walks, joined}}
use Rattle.mt_crashes.proofs.{Members.no_some, Bases.{stamps_upto, each_upto}, Walking.{walks_more, walks_end, walks_wider, walked_wider}}
use Rattle.mt_pages.specs.{declared.walk.PageWalk.PageWalk, Scans.pair_of, Pages.{GoesOn, TakesPageOf}}
use Rattle.mt_pages.specs.Walked.{Rise, maps_of, paged, AreWhole, AreBegun, IsPassed, Ascend, HasStampUpto, HasFound, Finds, KeepsMaps}
use Rattle.mt_pages.proofs.Ascending.{all_append, all_weaker, all_here, next_above, ascend_append, ascend_page, passed_all, upto_last, passed_page, passed_on, passed_tenant, passed_own}

-- ---- lists

take_next : {X : Type 0} (xs : List X) (k : ℕ) (x : X) → slice_get xs k ≡ Some x → take (suc k) xs ≡ take k xs ++ x ∷ []
take_next [] k x at = absurd (no_some x at)
take_next (y ∷ xs) zero x at = ap (λ z. z ∷ []) (same_Some y x at)
take_next (y ∷ xs) (suc k) x at = ap (λ ys. y ∷ ys) (take_next xs k x at)

short : {X : Type 0} (xs : List X) (k : ℕ) → slice_get xs k ≡ None → length xs ≤ k
short [] k none = omega arith
short (x ∷ xs) zero none = absurd (no_some x (sym none))
short (x ∷ xs) (suc k) none = let rest = short xs k none in omega (arith, rest)

key_there : (page : Page) (k : ℕ) (last : Bytes × Stamped) → slice_get page k ≡ Some last → Contains (map (λ p. p.0) page) last.0
key_there [] k last at = absurd (no_some last at)
key_there (p ∷ page) zero last at = (0, omega arith, ap (λ (x : Bytes × Stamped). x.0) (same_Some p last at))
key_there (p ∷ page) (suc k) last at = let rest = key_there page k last at in (suc rest.0, omega (arith, rest.1), rest.2)

joined_more : (pages : List Page) (page : Page) → joined (pages ++ page ∷ []) ≡ joined pages ++ page
joined_more [] page = append-nil page
joined_more (p ∷ pages) page = ap (λ ps. p ++ ps) (joined_more pages page) ∙ sym (append_assoc p (joined pages) page)

paged_more : (t : ℕ) (pages : List Page) (page : Page) → paged t (pages ++ page ∷ []) ≡ paged t pages ++ map (pair_of t) page
paged_more t pages page = ap (map (pair_of t)) (joined_more pages page) ∙ map-append (pair_of t) (joined pages) page

-- ---- the beginning

begun_none : (history : List Placed) (first now : ℕ) (at : Option ℕ) → AreBegun history first now at [] false []
begun_none history first now None = refl
begun_none history first now (Some t) = ([], (refl, refl), refl)

begins : (history : List Placed) (first : ℕ) (tenants : List ℕ) → Rise tenants → HasFound history first first tenants 0 [] false []
begins history first tenants rise = record {
  rise = rise;
  made = omega arith;
  whole = [];
  begun = [];
  parts = refl;
  before = none tenants;
  here = begun_none history first first (slice_get tenants 0);
  each = tt;
  stamps = tt;
  ascend = tt;
  passed = tt;
}
  where
    none : (ts : List ℕ) → AreWhole history first first (take 0 ts) []
    none [] = refl
    none (t ∷ ts) = refl

pub begins_at : (history : List Placed) (first : ℕ) (walk : PageWalk) → Rise walk.tenants.items → walk.place ≡ 0 → walk.from ≡ [] → walk.after ≡ false → Finds history first first walk []
begins_at history first walk rise place from after =
    subst (λ b. HasFound history first first walk.tenants.items walk.place walk.from b []) (sym after)
    (subst (λ k. HasFound history first first walk.tenants.items walk.place k false []) (sym from)
    (subst (λ n. HasFound history first first walk.tenants.items n [] false []) (sym place) (begins history first walk.tenants.items rise)))

-- ---- a page more

-- what a scan shows stood at one of its steps
abbrev IsReal : List Placed → ℕ → ℕ → ℕ → Bytes × Stamped → Type 0
IsReal history first now t p = (m : ℕ) × IsFromTo first now m × ((row : Stamped) × (get (maps_of history t m) p.0 ≡ Some row) × (p.1 ≡ as_shown [] row))

-- so it has the stamp of a change up to there
page_upto : (history : List Placed) (first now t : ℕ) (page : Page) → AllByRecursion (IsReal history first now t) page → AllByRecursion (HasStampUpto now) (map (pair_of t) page)
page_upto history first now t [] real = tt
page_upto history first now t (p ∷ page) real =
    let m = real.0.0 in
    let row = real.0.2.0 in
    let there : get (pairs_upto m history) (t, p.0) ≡ Some row = sym (get-tenant_map t (pairs_upto m history) p.0) ∙ real.0.2.1 in
    let most = stamps_upto m (changes_of (upto m history)) empty (t, p.0) (omega (arith, ap stamp_in (get-empty owned_cmp (t, p.0)))) (each_upto m history) in
    (omega (arith, real.0.1.1, most, ap stamp_in there, ap (λ (s : Stamped). s.stamp) real.0.2.2), page_upto history first now t page real.1)

-- a tenant more, whole
whole_more : (history : List Placed) (first now : ℕ) (tenants : List ℕ) (t : ℕ) (pages : List Page) (pairs : List TenantPair) → AreWhole history first now tenants pairs
    → Walks (maps_of history t) first now 64 [] false pages → AreWhole history first now (tenants ++ t ∷ []) (pairs ++ paged t pages)
whole_more history first now [] t pages pairs none walks =
    (pages, [], walks, ap (λ ps. ps ++ paged t pages) none ∙ sym (append-nil (paged t pages)), refl)
whole_more history first now (u ∷ tenants) t pages pairs (own, rest, own_walks, is, more) walks = (
  own,
  rest ++ paged t pages,
  own_walks,
  ap (λ ps. ps ++ paged t pages) is ∙ append_assoc (paged u own) rest (paged t pages),
  whole_more history first now tenants t pages rest more walks,
)

module _ (history : List Placed) (first now : ℕ) (tenants : List ℕ) (place : ℕ) (from : Bytes) (after : Bool) (pairs : List TenantPair)
    (found : HasFound history first now tenants place from after pairs) (t : ℕ) (there : slice_get tenants place ≡ Some t) (page : Page)
    (lawful : IsLawful (maps_of history t) (IsFromTo first now) from after 64 [] page) (limits : AllByRecursion IsPair (map (pair_of t) page)) where
  abbrev taken : List TenantPair
  taken = map (pair_of t) page

  own : AreBegun history first now (Some t) from after found.begun
  own = subst (λ o. AreBegun history first now o from after found.begun) there found.here

  passed_here : AllByRecursion (IsPassed (Some t) from after) pairs
  passed_here = subst (λ o. AllByRecursion (IsPassed o from after) pairs) there found.passed

  walked : AllByRecursion (λ (q : Bytes × Stamped). is_walked from after q.0 ≡ true) page
  walked = recursion_from_All (λ (q : Bytes × Stamped). is_walked from after q.0 ≡ true) page lawful.walked

  stamped : AllByRecursion (HasStampUpto now) (pairs ++ taken)
  stamped = all_append (HasStampUpto now) pairs taken found.stamps (page_upto history first now t page (recursion_from_All (IsReal history first now t) page lawful.real))

  each : AllByRecursion IsPair (pairs ++ taken)
  each = all_append IsPair pairs taken found.each limits

  ascend : Ascend (pairs ++ taken)
  ascend = ascend_append pairs taken found.ascend (ascend_page t page lawful.rises) (passed_all t from after pairs page passed_here walked)

  parts : pairs ++ taken ≡ found.whole ++ (found.begun ++ taken)
  parts = ap (λ ps. ps ++ taken) found.parts ∙ append_assoc found.whole found.begun taken

  begun_is : (o : AreBegun history first now (Some t) from after found.begun) → found.begun ++ taken ≡ paged t (o.0 ++ page ∷ [])
  begun_is o = ap (λ ps. ps ++ taken) o.2 ∙ sym (paged_more t o.0 page)

  -- a full one: the walk goes on behind its last key
  full : (last : Bytes × Stamped) → slice_get page 63 ≡ Some last → HasFound history first now tenants place last.0 true (pairs ++ taken)
  full last at =
      let few = lawful.few in
      let upto = upto_last page 63 last lawful.rises at (omega (arith, few)) in
      let behind = all_here (λ (q : Bytes × Stamped). is_walked from after q.0 ≡ true) page 63 last at walked in
      record {
        rise = found.rise;
        made = found.made;
        whole = found.whole;
        begun = found.begun ++ taken;
        parts = parts;
        before = found.before;
        here = subst (λ o. AreBegun history first now o last.0 true (found.begun ++ taken)) (sym there) (
          own.0 ++ page ∷ [],
          walks_more (maps_of history t) first now 64 [] false own.0 from after page last.0 own.1 lawful (key_there page 63 last at),
          begun_is own,
        );
        each = each;
        stamps = stamped;
        ascend = ascend;
        passed = subst (λ o. AllByRecursion (IsPassed o last.0 true) (pairs ++ taken)) (sym there)
            (all_append (IsPassed (Some t) last.0 true) pairs taken (passed_on t from last.0 after pairs behind passed_here) (passed_page t last.0 page upto));
      }

  -- one that isn't: it goes on at the next tenant
  next_place : place + 1 ≡ suc place
  next_place = omega arith

  over : slice_get page 63 ≡ None → HasFound history first now tenants (suc place) [] false (pairs ++ taken)
  over none =
      let few = short page 63 none in
      let next = slice_get tenants (suc place) in
      let later : (u : ℕ) → next ≡ Some u → t < u = λ u at. next_above tenants place t u found.rise there at in
      let ends = walks_end (maps_of history t) first now 64 [] false own.0 from after page own.1 lawful (omega (arith, few)) in
      record {
        rise = found.rise;
        made = found.made;
        whole = found.whole ++ (found.begun ++ taken);
        begun = [];
        parts = parts ∙ sym (append-nil (found.whole ++ (found.begun ++ taken)));
        before =
            subst (λ ts. AreWhole history first now ts (found.whole ++ (found.begun ++ taken))) (sym (take_next tenants place t there))
            (subst (λ ps. AreWhole history first now (take place tenants ++ t ∷ []) (found.whole ++ ps)) (sym (begun_is own))
            (whole_more history first now (take place tenants) t (own.0 ++ page ∷ []) found.whole found.before ends));
        here = begun_none history first now next;
        each = each;
        stamps = stamped;
        ascend = ascend;
        passed = all_append (IsPassed next [] false) pairs taken (passed_tenant t from after next pairs later passed_here) (passed_own t from page next later);
      }

-- a walk takes the page of its tenant
pub takes : (history : List Placed) (first now : ℕ) (old new : PageWalk) (pairs more : List TenantPair) (t : ℕ) (page : Page) → Finds history first now old pairs
    → slice_get old.tenants.items old.place ≡ Some t → IsLawful (maps_of history t) (IsFromTo first now) old.from old.after 64 [] page → AllByRecursion IsPair more
    → TakesPageOf t page old new more → Finds history first now new (pairs ++ more)
takes history first now old new pairs more t page found there lawful limits is = by (slice_get page 63) refl is.goes_on
  where
    limits_so : AllByRecursion IsPair (map (pair_of t) page)
    limits_so = subst (AllByRecursion IsPair) is.pairs_are limits

    same : old.tenants.items ≡ new.tenants.items
    same = ap (λ (v : Rattle.std.specs.Prelude.Vec ℕ Rattle.std.specs.declared.alloc.Global.Global). v.items) (sym is.same)

    by : (o : Option (Bytes × Stamped)) → slice_get page 63 ≡ o → GoesOn o old new → Finds history first now new (pairs ++ more)
    by (Some last) at goes =
        subst (λ ps. HasFound history first now new.tenants.items new.place new.from new.after (pairs ++ ps)) (sym is.pairs_are)
        (subst (λ b. HasFound history first now new.tenants.items new.place new.from b (pairs ++ map (pair_of t) page)) (sym goes.2)
        (subst (λ k. HasFound history first now new.tenants.items new.place k true (pairs ++ map (pair_of t) page)) (sym goes.1)
        (subst (λ n. HasFound history first now new.tenants.items n last.0 true (pairs ++ map (pair_of t) page)) (sym goes.0)
        (subst (λ ts. HasFound history first now ts old.place last.0 true (pairs ++ map (pair_of t) page)) same
        (full history first now old.tenants.items old.place old.from old.after pairs found t there page lawful limits_so last at)))))
    by None at goes =
        subst (λ ps. HasFound history first now new.tenants.items new.place new.from new.after (pairs ++ ps)) (sym is.pairs_are)
        (subst (λ b. HasFound history first now new.tenants.items new.place new.from b (pairs ++ map (pair_of t) page)) (sym goes.2)
        (subst (λ k. HasFound history first now new.tenants.items new.place k false (pairs ++ map (pair_of t) page)) (sym goes.1)
        (subst (λ n. HasFound history first now new.tenants.items n [] false (pairs ++ map (pair_of t) page)) (sym (goes.0 ∙ omega arith))
        (subst (λ ts. HasFound history first now ts (suc old.place) [] false (pairs ++ map (pair_of t) page)) same
        (over history first now old.tenants.items old.place old.from old.after pairs found t there page lawful limits_so at)))))

-- ---- later steps and changes

module _ (old new : List Placed) (first now later : ℕ) (le : now ≤ later) (keeps : KeepsMaps now old new) where
  whole_stays : (tenants : List ℕ) (pairs : List TenantPair) → AreWhole old first now tenants pairs → AreWhole new first later tenants pairs
  whole_stays [] pairs none = none
  whole_stays (t ∷ tenants) pairs (pages, rest, walks, is, more) = (
    pages,
    rest,
    walked_wider (maps_of old t) (maps_of new t) first now later 64 [] false pages le (λ m at. keeps t m at) walks,
    is,
    whole_stays tenants rest more,
  )

  begun_stays : (at : Option ℕ) (from : Bytes) (after : Bool) (pairs : List TenantPair) → AreBegun old first now at from after pairs → AreBegun new first later at from after pairs
  begun_stays None from after pairs none = none
  begun_stays (Some t) from after pairs (pages, walks, is) =
      (pages, walks_wider (maps_of old t) (maps_of new t) first now later 64 [] false pages from after le (λ m at. keeps t m at) walks, is)

  pub stays : (tenants : List ℕ) (place : ℕ) (from : Bytes) (after : Bool) (pairs : List TenantPair) → HasFound old first now tenants place from after pairs
      → HasFound new first later tenants place from after pairs
  stays tenants place from after pairs found = record {
    rise = found.rise;
    made = omega (arith, found.made, le);
    whole = found.whole;
    begun = found.begun;
    parts = found.parts;
    before = whole_stays (take place tenants) found.whole found.before;
    here = begun_stays (slice_get tenants place) from after found.begun found.here;
    each = found.each;
    stamps = all_weaker (HasStampUpto now) (HasStampUpto later) (λ p upto. omega (arith, upto, le)) pairs found.stamps;
    ascend = found.ascend;
    passed = found.passed;
  }
