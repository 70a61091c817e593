-- Who precedes whom in a run, and where they stand in a placing that fits: for the laws of real-time order and of an answer's place, and for OwnWrites.
use Rattle.std.proofs.Common.{◌≡◌, ◌≢◌, ℕ, zero, suc, ◌<◌, ◌≤◌, ◌⊎◌, Bool, true, false, cond, eqb, List, [], ◌∷◌, ◌++◌, length, Some, sym, refl, ap, subst, ◌∙◌, inl, inr, arith}
use Rattle.std.proofs.{lemmas.Bool.{eqb-true, eq-eqb, cases_lt}, lemmas.List.Elements.filter_map-append}
use Rattle.std.specs.{List.{Contains, filter}, Option.option_map}
use Rattle.mt_runs.specs.declared.event.Answer.{Answer}
use Rattle.mt_runs.specs.Runs.{Run, Story, Made, numbered, steps_of, story_of, last_step, step_at, step_of, owner, Finished, IsSinceFirst, IsUpToLast}
use Rattle.mt_runs.specs.Placings.{Placing, Quotas, Maps, is_placed, maps_after_one, Along, MayStand, count_of, Fits, HasOneOrder}
use Rattle.mt_runs.specs.Orders.{Precedes, StandsIn, StandsBefore}
use Rattle.mt_runs.proofs.Steps.{step_in, step_at-before_more}

-- a placing contains its head
contains_here : (p : ℕ × ℕ) (ps : Placing) (o : ℕ) → p.0 ≡ o → Contains (p ∷ ps) (o, p.1)
contains_here p ps o is = (0, omega arith, ap (λ q. (q, p.1)) is)

-- and what stands behind it
contains_behind : (p x : ℕ × ℕ) (ps : Placing) → Contains ps x → Contains (p ∷ ps) x
contains_behind p x ps (k, lt, e) = (suc k, omega arith, e)

stands_here : (p : ℕ × ℕ) (ps : Placing) (o : ℕ) → p.0 ≡ o → StandsIn (p ∷ ps) o
stands_here p ps o is = (p.1, contains_here p ps o is)

stands_behind : (p : ℕ × ℕ) (ps : Placing) (o : ℕ) → StandsIn ps o → StandsIn (p ∷ ps) o
stands_behind p ps o (m, at) = (m, contains_behind p (o, m) ps at)

-- what stands in a placing is its head or stands behind it
pub here_or_behind : (p : ℕ × ℕ) (ps : Placing) (o : ℕ) → StandsIn (p ∷ ps) o → (p.0 ≡ o) ⊎ StandsIn ps o
here_or_behind p ps o (m, (zero, lt, e)) = inl (ap (λ (q : ℕ × ℕ). q.0) e)
here_or_behind p ps o (m, (suc k, lt, e)) = inr (m, (k, omega arith, e))

-- nothing stands in an empty placing
pub none_stands : (o : ℕ) → StandsIn [] o → ⊥
none_stands o (m, (k, lt, e)) = absurd (omega arith)

-- an operation is counted once more where it is the head
pub count_here : (p : ℕ × ℕ) (ps : Placing) (o : ℕ) → p.0 ≡ o → count_of o (p ∷ ps) ≡ suc (count_of o ps)
count_here p ps o is = ap (λ b. length (cond b (p ∷ filter (λ q. eqb q.0 o) ps) (filter (λ q. eqb q.0 o) ps))) (eq-eqb p.0 o is) ∙ omega arith

-- and not at a head that is another
pub count_behind : (p : ℕ × ℕ) (ps : Placing) (o : ℕ) → eqb p.0 o ≡ false → count_of o (p ∷ ps) ≡ count_of o ps
count_behind p ps o other = ap (λ b. length (cond b (p ∷ filter (λ q. eqb q.0 o) ps) (filter (λ q. eqb q.0 o) ps))) other

-- what is counted stands there
pub stands_of_count : (ps : Placing) (o : ℕ) → 0 < count_of o ps → StandsIn ps o
stands_of_count [] o h = absurd (omega arith)
stands_of_count (p ∷ ps) o h = by (eqb p.0 o) refl (stands_of_count ps o)
  where
    by : (b : Bool) → eqb p.0 o ≡ b → (0 < count_of o ps → StandsIn ps o) → StandsIn (p ∷ ps) o
    by true is rest = stands_here p ps o (eqb-true p.0 o is)
    by false other rest = stands_behind p ps o (rest (omega (arith, h, count_behind p ps o other)))

module _ (quotas : Quotas) (story : Story) where
  -- what stands in the rest of a placing stands at a number that is not below the one before, since its operation's first step, and
  -- where that is finished up to its last one
  pub stands_at : (maps : Maps) (before : ℕ) (ps : Placing) (o : ℕ) → Along (MayStand quotas story) quotas story maps before ps → StandsIn ps o
      → (m : ℕ) × (before ≤ m) × IsSinceFirst story o m × ((answer : Answer) → Finished story o answer → IsUpToLast story o m)
  stands_at maps before [] o h s = absurd (none_stands o s)
  stands_at maps before (p ∷ ps) o h s = elim (here_or_behind p ps o s) [
    | inl is ↦ (p.1, h.0.rises, subst (λ q. IsSinceFirst story q p.1) is h.0.since, λ answer done. subst (λ q. IsUpToLast story q p.1) is (h.0.finished answer (subst (λ q. Finished story q answer) (sym is) done)).2)
    | inr later ↦ let w = stands_at (maps_after_one quotas p.1 (story.asked p.0) maps) p.1 ps o h.1 later in (w.0, omega (arith, w.1, h.0.rises), w.2, w.3)
  ]

  -- an operation that precedes another does not stand behind it
  pub not_behind : (maps : Maps) (before : ℕ) (p : ℕ × ℕ) (ps : Placing) (o : ℕ) (answer : Answer) → Finished story o answer → Precedes story o p.0
      → Along (MayStand quotas story) quotas story maps before (p ∷ ps) → StandsIn (p ∷ ps) o → ⊥
  not_behind maps before p ps o answer done precedes h s = elim (here_or_behind p ps o s) [
    | inl is ↦ let since = h.0.since in let lt = precedes since.0 since.0 (since.2 ∙ ap (λ q. Some q) is) since.2 in absurd (omega arith)
    | inr later ↦
        let since = h.0.since in
        let at = stands_at (maps_after_one quotas p.1 (story.asked p.0) maps) p.1 ps o h.1 later in
        let upto = at.3 answer done in
        absurd (omega (arith, since.1, at.1, upto.1, precedes upto.0 since.0 upto.2 since.2))
  ]

  -- so of two that stand in a placing the one that precedes stands before the other
  before_in : (maps : Maps) (before : ℕ) (ps : Placing) (o p : ℕ) (answer : Answer) → Finished story o answer → Precedes story o p
      → Along (MayStand quotas story) quotas story maps before ps → StandsIn ps o → StandsIn ps p → StandsBefore ps o p
  before_in maps before [] o p answer done precedes h so sp = absurd (none_stands o so)
  before_in maps before (x ∷ ps) o p answer done precedes h so sp = elim (here_or_behind x ps p sp) [
    | inl is ↦ absurd (not_behind maps before x ps o answer done (subst (Precedes story o) (sym is) precedes) h so)
    | inr behind ↦ elim (here_or_behind x ps o so) [
      | inl is ↦ (x ∷ [], ps, refl, stands_here x [] o is, behind)
      | inr later ↦
          let w = before_in (maps_after_one quotas x.1 (story.asked x.0) maps) x.1 ps o p answer done precedes h.1 later behind in
          (x ∷ w.0, w.1, ap (λ qs. x ∷ qs) w.2, stands_behind x w.0 o w.3, w.4)
    ]
  ]

-- a finished operation that is placed stands in a placing that fits
pub placed_stands : (quotas : Quotas) (first : Maps) (story : Story) (placing : Placing) (o : ℕ) (answer : Answer) → Fits quotas first story placing → Finished story o answer
    → is_placed answer ≡ true → StandsIn placing o
placed_stands quotas first story placing o answer f done placed = stands_of_count placing o (omega (arith, f.finished o answer done placed))

-- an operation that finished before another's first step stands before it
pub real_time_order : (quotas : Quotas) (first : Maps) (story : Story) (placing : Placing) (o p : ℕ) (answer : Answer) → Fits quotas first story placing → Finished story o answer
    → is_placed answer ≡ true → Precedes story o p → StandsIn placing p → StandsBefore placing o p
real_time_order quotas first story placing o p answer f done placed precedes stands =
    before_in quotas story first story.base placing o p answer done precedes f.stands (placed_stands quotas first story placing o answer f done placed) stands

-- what may stand at each place of a placing
may_stand : (quotas : Quotas) (story : Story) (maps : Maps) (before : ℕ) (ps : Placing) (o : ℕ) → Along (MayStand quotas story) quotas story maps before ps → StandsIn ps o
    → (m : ℕ) × Contains ps (o, m) × ((there : Maps) × (b : ℕ) × MayStand quotas story there b o m)
may_stand quotas story maps before [] o h s = absurd (none_stands o s)
may_stand quotas story maps before (p ∷ ps) o h s = elim (here_or_behind p ps o s) [
  | inl is ↦ (p.1, contains_here p ps o is, (maps, before, subst (λ q. MayStand quotas story maps before q p.1) is h.0))
  | inr later ↦ let w = may_stand quotas story (maps_after_one quotas p.1 (story.asked p.0) maps) p.1 ps o h.1 later in (w.0, contains_behind p (o, w.0) ps w.1, w.2)
]

-- a placed answer names the number at which its operation stands, between that one's first and last step
pub place_of_answer : (quotas : Quotas) (first : Maps) (story : Story) (placing : Placing) (o : ℕ) (answer : Answer) → Fits quotas first story placing → Finished story o answer
    → is_placed answer ≡ true → Contains placing (o, answer.at) × (answer.first ≤ answer.at) × (answer.at ≤ answer.last)
place_of_answer quotas first story placing o answer f done placed =
    let w = may_stand quotas story first story.base placing o f.stands (placed_stands quotas first story placing o answer f done placed) in
    let may = w.2.2 in
    let since = may.since in
    let ends = may.finished answer done in
    let numbers = f.numbers o answer done in
    (subst (λ k. Contains placing (o, k)) ends.1 w.1, omega (arith, since.1, numbers.0.1 since.0 since.2, ends.1), omega (arith, ends.1, ends.2.1, numbers.1.1 ends.2.0 ends.2.2))

-- a step of a run's first part stays, with its owner
owner_in_front : (base : ℕ) (front back : Run) (m : ℕ) → m ≤ last_step (story_of base front) → owner (story_of base (front ++ back)) m ≡ owner (story_of base front) m
owner_in_front base front back m le =
    ap (λ (steps : List Made). option_map (λ (s : Made). s.op) (step_at base steps m)) (filter_map-append numbered front back)
    ∙ ap (option_map (λ (s : Made). s.op)) (step_at-before_more base (steps_of front) (steps_of back) m le)

-- what was answered in a run's first part precedes what made no step there
pub precedes_by_events : (quotas : Quotas) (first : Maps) (base : ℕ) (front back : Run) (o p : ℕ) (answer : Answer) → HasOneOrder quotas first (story_of base (front ++ back))
    → Finished (story_of base front) o answer → ((m : ℕ) → owner (story_of base front) m ≢ Some p) → Precedes (story_of base (front ++ back)) o p
precedes_by_events quotas first base front back o p answer order done unmoved m n own owns =
    let inside = (step_in base (steps_of front) done.0 _ done.1).1 in
    let ended : step_of (story_of base (front ++ back)) done.0 ≡ Some (record { op = o; answer = Some answer }) =
    ap (λ (steps : List Made). step_at base steps done.0) (filter_map-append numbered front back)
    ∙ step_at-before_more base (steps_of front) (steps_of back) done.0 inside ∙ done.1 in
    let upto : m ≤ done.0 = order.1.ends done.0 m o answer ended own in
    elim (cases_lt (last_step (story_of base front)) n) [
      | inl behind ↦ omega (arith, upto, inside)
      | inr le ↦ absurd (unmoved n (sym (owner_in_front base front back n le) ∙ owns))
    ]
