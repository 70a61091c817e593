-- What all logs told so far, and to which generation the next turn goes by that.
use Rattle.std.proofs.Common.{◌≡◌, ◌≢◌, ◌∙◌, ◌⊎◌, inl, inr, ⊎_elim, ℕ, ◌+◌, ◌-◌, ◌^◌, ◌<◌, ◌≤◌, max, Bool, true, false, IsTrue, ◌↔◌, List, [], ◌∷◌, ◌++◌, length, Result, Ok, Err, refl, sym, ap, subst, arith}
use Rattle.std.proofs.{Math.Nat.{le-max_left, le-max_right, max-eq_left, max-eq_right}, lemmas.List.length-append, lemmas.Bool.{cases_eq, cases_lt}}
use Rattle.std.proofs.lemmas.List.Elements.{All-cons, All-nil, All-head, All-tail, All-push, All-weaker, All-contains, Contains-append_left, Contains-push}
use Rattle.std.specs.{List.{All, Contains}, Prelude.{IfOk, IfErr}}
use Rattle.mt_rows.specs.{declared.refusal.Refusal.Refusal, declared.refusal.Refusal.TheVariants.Spent}
use Rattle.mt_store_logs.specs.declared.standing.Generations.{Generations}
use Rattle.mt_settle.specs.{Turns.{Turn, Told}, Next.{AreOf, IsGreatest, IsNextOf, Tell, TellAll, TellsNext}}

clash : true ≡ false → ⊥
clash e = absurd cc

abbrev OfIt : ℕ → Generations → Type 0
OfIt m t = (t.last ≡ m) × (t.has_older ≡ false)

abbrev UpTo : ℕ → Generations → Type 0
UpTo m t = t.last ≤ m

-- what some logs told, put together
pub record Sums (all : Generations) (told : List Generations) : Type 0 where
  pub greatest : IsGreatest all.last told
  pub whole : all.has_older ≡ false → AreOf all.last told
  pub half : all.has_older ≡ true → (m : ℕ) → AreOf m told → ⊥

one_sums : (t : Generations) → Sums t (t ∷ [])
one_sums t = record {
  greatest = record { log = t; among = (0, omega arith, refl); last = refl; all = All-cons (UpTo t.last) t [] (omega arith) (All-nil (UpTo t.last)) };
  whole = λ none. All-cons (OfIt t.last) t [] (refl, none) (All-nil (OfIt t.last));
  half = λ some m are. clash (sym some ∙ (All-head (OfIt m) t [] are).1);
}

-- all of some logs and of one more are of one generation, so the first ones are, and the last one is
firsts : (m : ℕ) (told : List Generations) (t : Generations) → AreOf m (told ++ t ∷ []) → AreOf m told
firsts m [] t are = All-nil (OfIt m)
firsts m (u ∷ told) t are = All-cons (OfIt m) u told (All-head (OfIt m) u (told ++ t ∷ []) are) (firsts m told t (tail are))
  where
    tail : AreOf m (u ∷ told ++ t ∷ []) → AreOf m (told ++ t ∷ [])
    tail all = All-tail (OfIt m) u (told ++ t ∷ []) all

last_one : (m : ℕ) (told : List Generations) (t : Generations) → AreOf m (told ++ t ∷ []) → OfIt m t
last_one m told t are = All-contains (OfIt m) (told ++ t ∷ []) t are (Contains-push told t)

abbrev Mixed : Generations → Generations → Type 0
Mixed all one = (all.has_older ≡ true) ⊎ ((one.has_older ≡ true) ⊎ (all.last ≢ one.last))

module _ (all one new : Generations) (last : new.last ≡ max all.last one.last) (older : IsTrue new.has_older ↔ Mixed all one) (told : List Generations) (s : Sums all told) where
  greatest_of : (all.last < one.last) ⊎ (one.last ≤ all.last) → IsGreatest new.last (told ++ one ∷ [])
  greatest_of (inl less) =
      let is : new.last ≡ one.last = last ∙ max-eq_right (omega (arith, less)) in
      record {
        log = one;
        among = Contains-push told one;
        last = sym is;
        all = All-push (UpTo new.last) told one (All-weaker (UpTo all.last) (UpTo new.last) (λ t e. omega (arith, e, is, less)) told s.greatest.all) (omega (arith, is));
      }
  greatest_of (inr less) =
      let is : new.last ≡ all.last = last ∙ max-eq_left less in
      record {
        log = s.greatest.log;
        among = Contains-append_left told (one ∷ []) s.greatest.log s.greatest.among;
        last = s.greatest.last ∙ sym is;
        all = All-push (UpTo new.last) told one (All-weaker (UpTo all.last) (UpTo new.last) (λ t e. omega (arith, e, is)) told s.greatest.all) (omega (arith, is, less));
      }

  none_mixed : new.has_older ≡ false → Mixed all one → ⊥
  none_mixed none mixed = clash (sym (older.1 mixed) ∙ none)

  flag_none : (flag : Bool) → (flag ≡ true → ⊥) → flag ≡ false
  flag_none true never = absurd (never refl)
  flag_none false never = refl

  whole_of : new.has_older ≡ false → AreOf new.last (told ++ one ∷ [])
  whole_of none =
      let same : all.last ≡ one.last = ⊎_elim (λ e. e) (λ other. absurd (none_mixed none (inr (inr other)))) (cases_eq all.last one.last) in
      let is : new.last ≡ all.last = last ∙ max-eq_left (omega (arith, same)) in
      let before : AreOf all.last told = s.whole (flag_none all.has_older (λ e. none_mixed none (inl e))) in
      let older_none = flag_none one.has_older (λ e. none_mixed none (inr (inl e))) in
      All-push (OfIt new.last) told one (subst (λ m. AreOf m told) (sym is) before) (sym (is ∙ same), older_none)

  half_of : Mixed all one → (m : ℕ) → AreOf m (told ++ one ∷ []) → ⊥
  half_of (inl some) m are = s.half some m (firsts m told one are)
  half_of (inr (inl some)) m are = clash (sym some ∙ (last_one m told one are).1)
  half_of (inr (inr other)) m are =
      let among = All-contains (OfIt m) told s.greatest.log (firsts m told one are) s.greatest.among in
      other (sym s.greatest.last ∙ among.0 ∙ sym (last_one m told one are).0)

  pub more_sums : Sums new (told ++ one ∷ [])
  more_sums = record { greatest = greatest_of (cases_lt all.last one.last); whole = whole_of; half = λ some. half_of (older.0 some) }

-- to which generation the next turn goes
pub next_half : (all : Generations) (told : List Generations) → Sums all told → all.has_older ≡ true → IsNextOf told all.last
next_half all told s some = record { whole = λ m are. absurd (s.half some m are); half = λ never. s.greatest }

pub next_whole : (all : Generations) (told : List Generations) → Sums all told → all.has_older ≡ false → IsNextOf told (all.last + 1)
next_whole all told s none = record {
  whole = λ m are. (
      let among = All-contains (OfIt m) told s.greatest.log are s.greatest.among in
      ap (λ n. n + 1) (sym s.greatest.last ∙ among.0)
      );
  half = λ never. absurd (never all.last (s.whole none));
}

module _ {S : Type 0} (does : S → Turn → S → Type 0) (s : S) where
  tell_more : (log : ℕ) (told : List Generations) (t : Generations) → Tell does log told s → does s (Told (log + length told) (Ok t)) s → Tell does log (told ++ t ∷ []) s
  tell_more log [] t tell d = (subst (λ (k : ℕ). does s (Told k (Ok t)) s) (omega arith) d, tt)
  tell_more log (u ∷ told) t tell d = (tell.0, tell_more (log + 1) told t tell.1 (subst (λ (k : ℕ). does s (Told k (Ok t)) s) (omega arith) d))

  -- so many logs told this, put together
  pub record SoFar (count : ℕ) (all : Generations) : Type 0 where
    pub told : List Generations
    pub tell : TellAll does count told s
    pub sums : Sums all told

  pub first_told : (t : Generations) → does s (Told 0 (Ok t)) s → SoFar 1 t
  first_told t d = record { told = t ∷ []; tell = record { all = refl; tell = (d, tt) }; sums = one_sums t }

  pub one_more_told : (log : ℕ) (all one new : Generations) → new.last ≡ max all.last one.last → IsTrue new.has_older ↔ Mixed all one
      → does s (Told log (Ok one)) s → SoFar log all → SoFar (log + 1) new
  one_more_told log all one new last older d before =
      let count = before.tell.all in
      record {
        told = before.told ++ one ∷ [];
        tell = record {
          all = length-append before.told (one ∷ []) ∙ omega (arith, count);
          tell = tell_more 0 before.told one before.tell.tell (subst (λ (k : ℕ). does s (Told k (Ok one)) s) (omega (arith, count)) d);
        };
        sums = more_sums all one new last older before.told before.sums;
      }

  -- what is told of all logs
  pub tells_next : (count log : ℕ) (all : Generations) (told : Result ℕ Refusal) → log ≡ count → SoFar log all → (all.has_older ≡ true → IfOk told (λ next. next ≡ all.last))
      → (all.has_older ≡ false → IfOk told (λ next. next ≡ all.last + 1)) → IfErr told (λ e. (e ≡ Spent) × (all.has_older ≡ false) × (all.last ≡ 2 ^ 64 - 1)) → TellsNext does count s told
  tells_next count log all (Ok next) same so_far half whole err =
      let tell = subst (λ (n : ℕ). TellAll does n so_far.told s) same so_far.tell in
      (so_far.told, tell, by all.has_older refl)
    where
      by : (flag : Bool) → all.has_older ≡ flag → IsNextOf so_far.told next
      by true some = subst (IsNextOf so_far.told) (sym (half some)) (next_half all so_far.told so_far.sums some)
      by false none = subst (IsNextOf so_far.told) (sym (whole none)) (next_whole all so_far.told so_far.sums none)
  tells_next count log all (Err e) same so_far half whole err =
      inr (inr (err.0, so_far.told, subst (λ (n : ℕ). TellAll does n so_far.told s) same so_far.tell, subst (λ (m : ℕ). AreOf m so_far.told) err.2 (so_far.sums.whole err.1)))
