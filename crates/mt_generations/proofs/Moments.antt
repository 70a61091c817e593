-- What stands of a worker's log at each moment of a turn.
use Rattle.std.proofs.Common.{◌≡◌, ◌⊎◌, inl, inr, ⊎_elim, ℕ, ◌+◌, Bool, cond, List, [], ◌∷◌, ◌++◌, map, refl, sym, ◌∙◌, ap, subst, arith, append_assoc, Some, None}
use Rattle.std.proofs.lemmas.{Bool.{eq-eqb, ne_eqb, cases_eq}, List.append-nil, Option.same_Some}
use Rattle.std.specs.List.{AllZip}
use Rattle.mt_log.specs.{declared.batch.LogBatch.LogBatch, Contents.{Contents, with_batch}}
use Rattle.mt_crashes.specs.{Stores.Store}
use Rattle.mt_crashes.proofs.Members.{no_some}
use Rattle.mt_generations.specs.Chains.{Chain, BeginBy}
use Rattle.mt_generations.specs.Standings.{Standing, IsPart, StandsFor}
use Rattle.mt_generations.specs.Turns.{with_log, without, only_first, longer, AllBegunBy, StandsWhole, KeepsLog}

-- ---- a worker's logs with one more or one less

with_same : (g : ℕ) (c : Chain) (f : Standing) → with_log g c f g ≡ Some c
with_same g c f = ap (λ (b : Bool). cond b (Some c) (f g)) (eq-eqb g g refl)

with_other : (g h : ℕ) (c : Chain) (f : Standing) → ¬ (h ≡ g) → with_log g c f h ≡ f h
with_other g h c f other = ap (λ (b : Bool). cond b (Some c) (f h)) (ne_eqb h g other)

pub without_same : (g : ℕ) (f : Standing) → without g f g ≡ None
without_same g f = ap (λ (b : Bool). cond b None (f g)) (eq-eqb g g refl)

pub without_other : (g h : ℕ) (f : Standing) → ¬ (h ≡ g) → without g f h ≡ f h
without_other g h f other = ap (λ (b : Bool). cond b None (f h)) (ne_eqb h g other)

-- it is this log that was put there
is_this : (g : ℕ) (c d : Chain) (f : Standing) → with_log g c f g ≡ Some d → c ≡ d
is_this g c d f e = same_Some c d (sym (with_same g c f) ∙ e)

-- a generation with a log had one, or is that of this log
was_there : (g h : ℕ) (c d : Chain) (f : Standing) → with_log g c f h ≡ Some d → (h ≡ g) ⊎ (f h ≡ Some d)
was_there g h c d f e = ⊎_elim (λ same. inl same) (λ other. inr (sym (with_other g h c f other) ∙ e)) (cases_eq h g)

still_there : (g h : ℕ) (c : Chain) (f : Standing) → without g f h ≡ Some c → f h ≡ Some c
still_there g h c f e = ⊎_elim
    (λ same. absurd (no_some c (sym (without_same g f) ∙ ap (without g f) (sym same) ∙ e)))
    (λ other. sym (without_other g h f other) ∙ e)
    (cases_eq h g)

-- ---- the moments

-- a worker's first log
pub first_stands : (log : Contents) → StandsFor 0 log (only_first log)
first_stands log = record {
  given = [];
  first = log.batches;
  next = [];
  parts = sym (append-nil log.batches);
  has_first = λ c e. subst (IsPart log [] log.batches) (same_Some log c e) (record { start = refl; batches_are = refl; owner = (refl, refl) });
  has_next = λ c e. absurd (no_some c e);
  not_begun = λ e. refl;
  no_other = λ h c e. ⊎_elim (λ same. inl same) (λ gone. absurd (no_some c gone)) (was_there 0 h log c (λ n. None) e);
}

module _ (g : ℕ) (log : Contents) (f : Standing) (stands : StandsFor g log f) where
  no_next : f (g + 1) ≡ None → log.batches ≡ stands.given ++ stands.first
  no_next none =
      stands.parts ∙ ap (λ (bs : List LogBatch). stands.given ++ (stands.first ++ bs)) (stands.not_begun none) ∙ ap (λ (bs : List LogBatch). stands.given ++ bs) (append-nil stands.first)

  -- the next log is begun, or is being begun
  pub begun_stands : (c : Chain) → f (g + 1) ≡ None → IsPart log log.batches [] c → StandsFor g log (with_log (g + 1) c f)
  begun_stands c none begun = record {
    given = stands.given;
    first = stands.first;
    next = [];
    parts = no_next none ∙ ap (λ (bs : List LogBatch). stands.given ++ bs) (sym (append-nil stands.first));
    has_first = λ d e. stands.has_first d (sym (with_other (g + 1) g c f (λ (same : g ≡ g + 1). omega (arith, same))) ∙ e);
    has_next = λ d e. subst (IsPart log (stands.given ++ stands.first) []) (is_this (g + 1) c d f e)
        (subst (λ (bs : List LogBatch). IsPart log bs [] c) (no_next none) begun);
    not_begun = λ e. refl;
    no_other = λ h d e. ⊎_elim (λ same. inr same) (λ was. stands.no_other h d was) (was_there (g + 1) h c d f e);
  }

  -- a batch is appended to the next log, or is being appended
  pub longer_next : (b : LogBatch) (c : Chain) → f (g + 1) ≡ Some c → StandsFor g (with_batch b log) (with_log (g + 1) (longer b c) f)
  longer_next b c has =
      let p = stands.has_next c has in
      record {
        given = stands.given;
        first = stands.first;
        next = stands.next ++ b ∷ [];
        parts = ap (λ (bs : List LogBatch). bs ++ b ∷ []) stands.parts ∙ append_assoc stands.given (stands.first ++ stands.next) (b ∷ [])
            ∙ ap (λ (bs : List LogBatch). stands.given ++ bs) (append_assoc stands.first stands.next (b ∷ []));
        has_first = λ d e. as_before d (stands.has_first d (sym (with_other (g + 1) g (longer b c) f (λ (same : g ≡ g + 1). omega (arith, same))) ∙ e));
        has_next = λ d e. subst (IsPart (with_batch b log) (stands.given ++ stands.first) (stands.next ++ b ∷ [])) (is_this (g + 1) (longer b c) d f e)
            (record { start = p.start; batches_are = ap (λ (bs : List LogBatch). bs ++ b ∷ []) p.batches_are; owner = p.owner });
        not_begun = λ e. absurd (no_some (longer b c) (sym e ∙ with_same (g + 1) (longer b c) f));
        no_other = λ h d e. ⊎_elim (λ same. inr same) (λ was. stands.no_other h d was) (was_there (g + 1) h (longer b c) d f e);
      }
    where
      as_before : (d : Chain) → IsPart log stands.given stands.first d → IsPart (with_batch b log) stands.given stands.first d
      as_before d p = record { start = p.start; batches_are = p.batches_are; owner = p.owner }

  -- or to the first one, if there is no next one
  pub longer_first : (b : LogBatch) (c : Chain) → f (g + 1) ≡ None → f g ≡ Some c → StandsFor g (with_batch b log) (with_log g (longer b c) f)
  longer_first b c none has =
      let p = stands.has_first c has in
      let still : with_log g (longer b c) f (g + 1) ≡ None = with_other g (g + 1) (longer b c) f (λ (same : g + 1 ≡ g). omega (arith, same)) ∙ none in
      record {
        given = stands.given;
        first = stands.first ++ b ∷ [];
        next = [];
        parts = ap (λ (bs : List LogBatch). bs ++ b ∷ []) (no_next none) ∙ append_assoc stands.given stands.first (b ∷ [])
            ∙ ap (λ (bs : List LogBatch). stands.given ++ bs) (sym (append-nil (stands.first ++ b ∷ [])));
        has_first = λ d e. subst (IsPart (with_batch b log) stands.given (stands.first ++ b ∷ [])) (is_this g (longer b c) d f e)
            (record { start = p.start; batches_are = ap (λ (bs : List LogBatch). bs ++ b ∷ []) p.batches_are; owner = p.owner });
        has_next = λ d e. absurd (no_some d (sym still ∙ e));
        not_begun = λ e. refl;
        no_other = λ h d e. ⊎_elim (λ same. inl same) (λ was. stands.no_other h d was) (was_there g h (longer b c) d f e);
      }

  -- the older log is given up, or is being given up
  pub without_stands : StandsFor g log (without g f)
  without_stands = record {
    given = stands.given;
    first = stands.first;
    next = stands.next;
    parts = stands.parts;
    has_first = λ c e. stands.has_first c (still_there g g c f e);
    has_next = λ c e. stands.has_next c (still_there g (g + 1) c f e);
    not_begun = λ e. stands.not_begun (sym (without_other g (g + 1) f (λ (same : g + 1 ≡ g). omega (arith, same))) ∙ e);
    no_other = λ h c e. stands.no_other h c (still_there g h c f e);
  }

  -- it was given up for good: the next generation is the first one now
  pub turned_stands : f g ≡ None → StandsFor (g + 1) log f
  turned_stands gone = record {
    given = stands.given ++ stands.first;
    first = stands.next;
    next = [];
    parts = stands.parts ∙ sym (append_assoc stands.given stands.first stands.next)
        ∙ ap (λ (bs : List LogBatch). (stands.given ++ stands.first) ++ bs) (sym (append-nil stands.next));
    has_first = λ c e. stands.has_next c e;
    has_next = λ c e. absurd (⊎_elim (λ (h : g + 1 + 1 ≡ g). omega (arith, h)) (λ h. omega (arith, h)) (stands.no_other (g + 1 + 1) c e));
    not_begun = λ e. refl;
    no_other = λ h c e. ⊎_elim (λ same. absurd (no_some c (sym gone ∙ ap f (sym same) ∙ e))) (λ same. inl same) (stands.no_other h c e);
  }

-- ---- a generation that stands whole goes on standing

pub kept_whole : (g : ℕ) (s : Store) (files others : List Standing) → AllZip (KeepsLog g) files others → StandsWhole g s files → StandsWhole g s others
kept_whole g s files others all w = (w.0, kept files others all w.1, w.2)
  where
    kept : (files others : List Standing) → AllZip (KeepsLog g) files others → AllBegunBy g w.0 files → AllBegunBy g w.0 others
    kept files [] all begun o at = absurd at
    kept [] (x ∷ others) all begun o at = absurd all
    kept (f ∷ files) (x ∷ others) all begun o (inl e) =
        let a = begun f (inl refl) in
        let d = all.0 a.0 a.1 in
        (d.0, ap (λ (y : Standing). y g) e ∙ d.1, omega (arith, a.2, d.2))
    kept (f ∷ files) (x ∷ others) all begun o (inr at) = kept files others all.1 (λ y there. begun y (inr there)) o at

-- a log that is begun, or has one batch more, keeps those of each generation
pub keeps_with : (g h : ℕ) (c : Chain) (f : Standing) → ((d : Chain) → f h ≡ Some d → c.start ≡ d.start) → KeepsLog g f (with_log h c f)
keeps_with g h c f start d has = ⊎_elim
    (λ same. (
      c,
      ap (with_log h c f) same ∙ with_same h c f,
      start d (ap f (sym same) ∙ has),
    ))
    (λ other. (d, with_other h g c f other ∙ has, refl))
    (cases_eq g h)

pub keeps_without : (g h : ℕ) (f : Standing) → ¬ (g ≡ h) → KeepsLog g f (without h f)
keeps_without g h f other d has = (d, without_other h g f other ∙ has, refl)

-- so while the older logs are given up, the next generation stands whole
pub whole_without : (g : ℕ) (s : Store) (files : List Standing) → StandsWhole (g + 1) s files → StandsWhole (g + 1) s (map (without g) files)
whole_without g s files w = kept_whole (g + 1) s files (map (without g) files) (each files) w
  where
    each : (fs : List Standing) → AllZip (KeepsLog (g + 1)) fs (map (without g) fs)
    each [] = tt
    each (f ∷ fs) = (keeps_without (g + 1) g f (λ (same : g + 1 ≡ g). omega (arith, same)), each fs)

-- and the first logs of a store do
pub first_whole : (s : Store) (fronts : List Contents) → BeginBy 0 fronts → StandsWhole 0 s (map only_first fronts)
first_whole s fronts begin = (0, begun fronts begin, inl refl)
  where
    begun : (fs : List Contents) → BeginBy 0 fs → AllBegunBy 0 0 (map only_first fs)
    begun [] begin f at = absurd at
    begun (x ∷ fs) begin f (inl e) = (x, ap (λ (y : Standing). y 0) e, begin x (inl refl))
    begun (x ∷ fs) begin f (inr at) = begun fs (λ c there. begin c (inr there)) f at
