-- There is one choice at most, and logs of older generations count for nothing in it.
use Rattle.std.proofs.Common.{◌≡◌, ◌⊎◌, inl, inr, ⊎_elim, ℕ, ◌+◌, ◌≤◌, List, [], ◌∷◌, sym, ◌∙◌, subst, arith}
use Rattle.std.proofs.lemmas.{Bool.{cases_lt}}
use Rattle.mt_crashes.specs.{Bases.{Slots}}
use Rattle.mt_generations.specs.Chains.{Chain}
use Rattle.mt_generations.specs.Standings.{Standing, joined, AreFrom, AllHave, IsLast, CanBegin, IsChosen, HaveNoChoice, AgreeFrom}
use Rattle.mt_generations.proofs.Deciding.{have_all, all_from, same_from}

pub one_choice : (files : List Standing) (slots : Slots) (g h : ℕ) (chains others : List Chain) → IsChosen files slots g chains → IsChosen files slots h others
    → (g ≡ h) × (chains ≡ others)
one_choice files slots g h chains others a b =
    let same = generation a.2 b.2 in
    (same, same_from h files chains others (subst (λ (n : ℕ). AreFrom n files chains) same a.0) b.0)
  where
    generation : IsLast g files ⊎ (IsLast (g + 1) files × (¬ CanBegin (g + 1) files slots)) → IsLast h files ⊎ (IsLast (h + 1) files × (¬ CanBegin (h + 1) files slots))
        → g ≡ h
    generation (inl p) (inl q) = omega (arith, p.1 h q.0, q.1 g p.0)
    generation (inl p) (inr q) =
        let same : g ≡ h + 1 = omega (arith, p.1 (h + 1) q.0.0, q.0.1 g p.0) in
        absurd (q.1 (subst (λ (n : ℕ). CanBegin n files slots) same (chains, a.0, a.1)))
    generation (inr p) (inl q) =
        let same : h ≡ g + 1 = omega (arith, q.1 (g + 1) p.0.0, p.0.1 h q.0) in
        absurd (p.1 (subst (λ (n : ℕ). CanBegin n files slots) same (others, b.0, b.1)))
    generation (inr p) (inr q) = omega (arith, p.0.1 (h + 1) q.0.0, q.0.1 (g + 1) p.0.0)

-- there is one, or neither the last generation can be begun at nor the one before it
pub none_begins : (files : List Standing) (slots : Slots) (g : ℕ) → IsLast g files → ¬ CanBegin g files slots → ((h : ℕ) → h + 1 ≡ g → ¬ CanBegin h files slots)
    → HaveNoChoice files slots
none_begins files slots g last lacks before h chains chosen = ⊎_elim
    (λ own. (
    let same : h ≡ g = omega (arith, last.1 h own.0, own.1 g last.0) in
    lacks (subst (λ (n : ℕ). CanBegin n files slots) same (chains, chosen.0, chosen.1))
    ))
    (λ next. (
    let same : h + 1 ≡ g = omega (arith, last.1 (h + 1) next.0.0, next.0.1 g last.0) in
    before h same (chains, chosen.0, chosen.1)
    ))
    chosen.2

pub begins_none : (files : List Standing) (slots : Slots) (g : ℕ) → IsLast g files → HaveNoChoice files slots
    → (¬ CanBegin g files slots) × ((h : ℕ) → h + 1 ≡ g → ¬ CanBegin h files slots)
begins_none files slots g last none = (
  here,
  λ h same can. none h can.0 (
    can.1,
    can.2,
    inr (
      subst (λ (n : ℕ). IsLast n files) (sym same) last,
      subst (λ (n : ℕ). ¬ CanBegin n files slots) (sym same) here,
    ),
  ),
)
  where
    here : ¬ CanBegin g files slots
    here can = none g can.0 (can.1, can.2, inl last)

-- and logs of older generations count for nothing in it
module _ (g : ℕ) where
  agree_from : (h : ℕ) (files others : List Standing) (chains : List Chain) → g ≤ h → AgreeFrom g files others → AreFrom h files chains → AreFrom h others chains
  agree_from h [] [] chains le all are = are
  agree_from h [] (o ∷ others) chains le all are = absurd all
  agree_from h (f ∷ files) [] chains le all are = absurd all
  agree_from h (f ∷ files) (o ∷ others) [] le all are = absurd are
  agree_from h (f ∷ files) (o ∷ others) (c ∷ chains) le all are =
      let here = all.0 h le in
      let next = all.0 (h + 1) (omega (arith, le)) in
      ((λ i. joined (here i) (next i)) ∙ are.0, agree_from h files others chains le all.1 are.1)

  agree_back : (files others : List Standing) → AgreeFrom g files others → AgreeFrom g others files
  agree_back [] [] all = tt
  agree_back [] (o ∷ others) all = absurd all
  agree_back (f ∷ files) [] all = absurd all
  agree_back (f ∷ files) (o ∷ others) all = (λ h le. sym (all.0 h le), agree_back files others all.1)

  agree_have : (h : ℕ) (files others : List Standing) → g ≤ h → AgreeFrom g files others → AllHave h files → AllHave h others
  agree_have h files others le all have =
      let from = all_from h files have in have_all h others from.0 (agree_from h files others from.0 le all from.1)

  agree_last : (h : ℕ) (files others : List Standing) → g ≤ h → AgreeFrom g files others → IsLast h files → IsLast h others
  agree_last h files others le all last = (
    agree_have h files others le all last.0,
    λ m have. ⊎_elim
        (λ under. omega (arith, under, le))
        (λ over. last.1 m (agree_have m others files over (agree_back files others all) have))
        (cases_lt m g),
  )

  pub older_unread : (files others : List Standing) (slots : Slots) (chains : List Chain) → AgreeFrom g files others → IsChosen files slots g chains
      → IsChosen others slots g chains
  older_unread files others slots chains all chosen = (
    agree_from g files others chains (omega arith) all chosen.0,
    chosen.1,
    ⊎_elim
        (λ last. inl (agree_last g files others (omega arith) all last))
        (λ h. inr (
          agree_last (g + 1) files others (omega arith) all h.0,
          λ can. h.1 (can.0, agree_from (g + 1) others files can.0 (omega arith) (agree_back files others all) can.1, can.2),
        ))
        chosen.2,
  )
