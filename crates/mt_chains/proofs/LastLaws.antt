-- The last generation of which each worker has a log is one of those that the first worker's files have.
use Rattle.std.proofs.Common.{◌≡◌, ◌⊎◌, inl, inr, ⊎_elim, ℕ, ◌<◌, ◌≤◌, Bool, true, false, cond, ◌&&◌, ◌==◌, List, [], ◌∷◌, length, get_or, map, refl, sym, ◌∙◌, ap, subst, arith, Option, Some, None}
use Rattle.std.proofs.lemmas.Bool.{true≢false, false≢true, ltb-true, ltb-false, eqb-true, ne_eqb, and_parts, and_from, cases_eq, cond-false}
use Rattle.std.specs.{Option.{option_map, MatchOption}}
use Rattle.mt_log.specs.{declared.batch.Front.Front, Contents.contents_of}
use Rattle.mt_crashes.{specs.Fronts.In, proofs.Members.no_some}
use Rattle.mt_generations.specs.{Chains.Chain, Standings.{Standing, AllHave, IsLast}}
use Rattle.mt_chains.specs.{declared.worker_logs.WorkerLogs.WorkerLogs, Files.{standing_of, numbered_log}}
use Rattle.mt_chains.specs.Testing.{is_there, all_have, is_over, later, later_among}

-- ---- whether each worker has a log of a generation

there_tells : (x : Option Chain) → is_there x ≡ true → (c : Chain) × (x ≡ Some c)
there_tells None h = absurd (false≢true h)
there_tells (Some c) h = (c, refl)

there_passes : (x : Option Chain) (c : Chain) → x ≡ Some c → is_there x ≡ true
there_passes x c e = ap is_there e

pub have_tells : (g : ℕ) (files : List Standing) → all_have g files ≡ true → AllHave g files
have_tells g [] h f at = absurd at
have_tells g (x ∷ files) h f (inl e) = let c = there_tells (x g) (and_parts _ _ h).0 in (c.0, ap (λ (y : Standing). y g) e ∙ c.1)
have_tells g (x ∷ files) h f (inr at) = have_tells g files (and_parts _ _ h).1 f at

pub have_passes : (g : ℕ) (files : List Standing) → AllHave g files → all_have g files ≡ true
have_passes g [] all = refl
have_passes g (x ∷ files) all =
    let c = all x (inl refl) in and_from _ _ (there_passes (x g) c.0 c.1) (have_passes g files (λ f at. all f (inr at)))

-- ---- the last of some generations

module _ (files : List Standing) where
  -- it is the last one of which each worker has a log, of some generations
  abbrev IsLastIn : (ℕ → Type 0) → Option ℕ → Type 0
  IsLastIn Tried None = (h : ℕ) → Tried h → ¬ AllHave h files
  IsLastIn Tried (Some g) = AllHave g files × ((h : ℕ) → Tried h → AllHave h files → h ≤ g)

  of_fewer : (Tried Fewer : ℕ → Type 0) (last : Option ℕ) → ((h : ℕ) → Fewer h → Tried h) → IsLastIn Tried last → IsLastIn Fewer last
  of_fewer Tried Fewer None more is = λ h at have. is h (more h at) have
  of_fewer Tried Fewer (Some g) more is = (is.0, λ h at have. is.1 h (more h at) have)

  later_one : (g : ℕ) (Tried : ℕ → Type 0) (last : Option ℕ) → is_over g last ≡ true → AllHave g files → IsLastIn Tried last
      → IsLastIn (λ h. (h ≡ g) ⊎ Tried h) (Some g)
  later_one g Tried None over all is = (all, λ h at have. ⊎_elim (λ (e : h ≡ g). omega (arith, e)) (λ at. absurd (is h at have)) at)
  later_one g Tried (Some l) over all is =
      let more : l < g = ltb-true l g over in
      (all, λ h at have. ⊎_elim (λ (e : h ≡ g). omega (arith, e)) (λ at. omega (arith, is.1 h at have, more)) at)

  not_over : (g : ℕ) (Tried : ℕ → Type 0) (last : Option ℕ) → is_over g last ≡ false → IsLastIn Tried last → IsLastIn (λ h. (h ≡ g) ⊎ Tried h) last
  not_over g Tried None over is = absurd (true≢false over)
  not_over g Tried (Some l) over is =
      let le : g ≤ l = ltb-false l g over in
      (is.0, λ h at have. ⊎_elim (λ (e : h ≡ g). omega (arith, e, le)) (λ at. is.1 h at have) at)

  not_had : (g : ℕ) (Tried : ℕ → Type 0) (last : Option ℕ) → ¬ AllHave g files → IsLastIn Tried last → IsLastIn (λ h. (h ≡ g) ⊎ Tried h) last
  not_had g Tried None lacks is = λ h at have. ⊎_elim (λ (e : h ≡ g). lacks (subst (λ (n : ℕ). AllHave n files) e have)) (λ at. is h at have) at
  not_had g Tried (Some l) lacks is =
      (is.0, λ h at have. ⊎_elim (λ (e : h ≡ g). absurd (lacks (subst (λ (n : ℕ). AllHave n files) e have))) (λ at. is.1 h at have) at)

  one_later : (g : ℕ) (Tried : ℕ → Type 0) (last : Option ℕ) → IsLastIn Tried last → IsLastIn (λ h. (h ≡ g) ⊎ Tried h) (later g files last)
  one_later g Tried last is = by (is_over g last) (all_have g files) refl refl
    where
      by : (over have : Bool) → is_over g last ≡ over → all_have g files ≡ have
          → IsLastIn (λ h. (h ≡ g) ⊎ Tried h) (cond (over && have) (Some g) last)
      by true true over have = later_one g Tried last over (have_tells g files have) is
      by true false over have = not_had g Tried last (λ all. true≢false (sym (have_passes g files all) ∙ have)) is
      by false have over had = not_over g Tried last over is

  among_later : (logs : List (Option Front)) (Tried : ℕ → Type 0) (last : Option ℕ) → IsLastIn Tried last
      → IsLastIn (λ h. Tried h ⊎ ((c : Chain) × (numbered_log h logs ≡ Some c))) (later_among logs files last)
  among_later [] Tried last is =
      of_fewer Tried (λ h. Tried h ⊎ ((c : Chain) × (numbered_log h [] ≡ Some c))) last
      (λ h at. ⊎_elim (λ tried. tried) (λ (x : (c : Chain) × (numbered_log h [] ≡ Some c)). absurd (no_some x.0 x.1)) at)
      is
  among_later (None ∷ logs) Tried last is = among_later logs Tried last is
  among_later (Some front ∷ logs) Tried last is =
      of_fewer
      (λ h. ((h ≡ front.generation) ⊎ Tried h) ⊎ ((c : Chain) × (numbered_log h logs ≡ Some c)))
      (λ h. Tried h ⊎ ((c : Chain) × (numbered_log h (Some front ∷ logs) ≡ Some c)))
      (later_among logs files (later front.generation files last))
      (λ h at. ⊎_elim (λ tried. inl (inr tried)) (λ (x : (c : Chain) × (numbered_log h (Some front ∷ logs) ≡ Some c)). here h x.0 (front.generation == h) refl x.1) at)
      (among_later logs (λ h. (h ≡ front.generation) ⊎ Tried h) (later front.generation files last) (one_later front.generation Tried last is))
    where
      here : (h : ℕ) (c : Chain) (same : Bool) → (front.generation == h) ≡ same → cond (front.generation == h) (Some (contents_of front)) (numbered_log h logs) ≡ Some c
          → ((h ≡ front.generation) ⊎ Tried h) ⊎ ((c : Chain) × (numbered_log h logs ≡ Some c))
      here h c true same e = inl (inl (sym (eqb-true front.generation h same)))
      here h c false same e = inr (c, sym (cond-false (front.generation == h) (Some (contents_of front)) (numbered_log h logs) same) ∙ e)

-- the first worker is one of all
pub first_in : (logs : List WorkerLogs) (worker : WorkerLogs) → 0 < length logs → worker ≡ get_or logs 0 worker → In (standing_of worker) (map standing_of logs)
first_in [] worker some is = absurd (omega (arith, some))
first_in (x ∷ logs) worker some is = inl (ap standing_of is)

-- A generation of which each worker has a log is 0, or one of the first worker's numbered files. So the last of these is the last of all.
pub last_of_first : (worker : WorkerLogs) (files : List Standing) (last : Option ℕ) → In (standing_of worker) files
    → last ≡ later_among worker.numbered files (later 0 files None)
    → MatchOption last ((g : ℕ) → ¬ AllHave g files) (λ g. IsLast g files)
last_of_first worker files last first e =
    subst (λ (o : Option ℕ). MatchOption o ((g : ℕ) → ¬ AllHave g files) (λ g. IsLast g files)) (sym e)
    (of_all (later_among worker.numbered files (later 0 files None))
    (among_later files worker.numbered (λ h. (h ≡ 0) ⊎ ⊥) (later 0 files None) (one_later files 0 (λ h. ⊥) None (λ h at have. at))))
  where
    tried : (h : ℕ) → AllHave h files → ((h ≡ 0) ⊎ ⊥) ⊎ ((c : Chain) × (numbered_log h worker.numbered ≡ Some c))
    tried h have =
        let c = have (standing_of worker) first in
        ⊎_elim
        (λ (zero : h ≡ 0). inl (inl zero))
        (λ later. inr (c.0, sym (cond-false (h == 0) (option_map contents_of worker.plain) (numbered_log h worker.numbered) (ne_eqb h 0 later)) ∙ c.1))
        (cases_eq h 0)

    of_all : (o : Option ℕ) → IsLastIn files (λ h. ((h ≡ 0) ⊎ ⊥) ⊎ ((c : Chain) × (numbered_log h worker.numbered ≡ Some c))) o
        → MatchOption o ((g : ℕ) → ¬ AllHave g files) (λ g. IsLast g files)
    of_all None is = λ h have. is h (tried h have) have
    of_all (Some g) is = (is.0, λ h have. is.1 h (tried h have) have)
