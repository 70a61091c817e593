-- The least first stamp of logs and the highest worker with a stamp, one log after the other: for `least` and `highest_with`.
use Rattle.std.proofs.Common.{◌≡◌, ◌≢◌, ◌⊎◌, inl, inr, ⊎_elim, ℕ, zero, suc, ◌<◌, ◌≤◌, ◌==◌, max, Bool, true, false, cond, nat_lt, List, [], ◌∷◌, ◌++◌, length, get_or, refl, sym, ◌∙◌, ap, subst, arith, Option, Some, None}
use Rattle.std.proofs.lemmas.{Bool.{true≢false, ltb-true, ltb-false, eqb-true, eqb-false, cases_lt}, Option.{same_Some}}
use Rattle.std.specs.Prelude.{slice_get}
use Rattle.mt_rows.specs.declared.record.Record.{Record}
use Rattle.mt_log.specs.Contents.{Contents}
use Rattle.mt_crashes.proofs.Members.{no_some}
use Rattle.mt_recover.specs.{Merges.{first_of, first_at, AreAtEnd, IsNext, lesser, IsLeast, IsHighest}, declared.lanes.Lane.{Lane}, declared.records.Next.{Next}}

first_cases : (ls : List Lane) (lane : Lane) (k : ℕ) → ((k ≢ length ls) × (first_at (ls ++ lane ∷ []) k ≡ first_at ls k)) ⊎ ((k ≡ length ls) × (first_at (ls ++ lane ∷ []) k ≡ first_of lane.left.items))
first_cases [] lane zero = inr (refl, refl)
first_cases [] lane (suc k) = inl (λ e. omega (arith, e), refl)
first_cases (l ∷ ls) lane zero = inl (λ e. omega (arith, e), refl)
first_cases (l ∷ ls) lane (suc k) = ⊎_elim (λ old. inl (λ e. old.0 (omega (arith, e)), old.1)) (λ new. inr (ap suc new.0, new.1)) (first_cases ls lane k)

-- the first of records that are there, or none of none
pub first_some : (rs : List Record) (x : Record) → 0 < length rs → x ≡ get_or rs 0 x → first_of rs ≡ Some x.stamp
first_some [] x some is = absurd (omega (arith, some))
first_some (r ∷ rs) x some is = ap (λ (y : Record). Some y.stamp) (sym is)

pub first_none : (rs : List Record) → length rs ≤ 0 → first_of rs ≡ None
first_none [] none = refl
first_none (r ∷ rs) none = absurd (omega (arith, none))

past : (ls : List Lane) → first_at ls (length ls) ≡ None
past [] = refl
past (l ∷ ls) = past ls

within : (ls : List Lane) (k stamp : ℕ) → first_at ls k ≡ Some stamp → k ≢ length ls
within ls k stamp is e = no_some stamp (sym (past ls) ∙ ap (first_at ls) (sym e) ∙ is)

module _ (ls : List Lane) (lane : Lane) where
  -- what a log with a first stamp had it has still
  kept : (k stamp : ℕ) → first_at ls k ≡ Some stamp → first_at (ls ++ lane ∷ []) k ≡ Some stamp
  kept k stamp is = ⊎_elim (λ old. old.1 ∙ is) (λ new. absurd (within ls k stamp is new.0)) (first_cases ls lane k)

  -- a log without records changes nothing
  pub least_on : (o : Option Next) → IsLeast ls o → first_of lane.left.items ≡ None → IsLeast (ls ++ lane ∷ []) o
  least_on None is none = λ k. ⊎_elim (λ old. old.1 ∙ is k) (λ new. new.1 ∙ none) (first_cases ls lane k)
  least_on (Some n) is none = record {
    first = kept n.log n.stamp is.first;
    least = λ k stamp at. is.least k stamp (before k stamp at);
    alone = λ one k at. is.alone one k (before k n.stamp at);
    other = λ two. (let o = is.other two in (o.0, o.1, kept o.0 n.stamp o.2));
  }
    where
      before : (k stamp : ℕ) → first_at (ls ++ lane ∷ []) k ≡ Some stamp → first_at ls k ≡ Some stamp
      before k stamp at = ⊎_elim (λ old. sym old.1 ∙ at) (λ new. absurd (no_some stamp (sym none ∙ sym new.1 ∙ at))) (first_cases ls lane k)

  module _ (stamp : ℕ) (first : first_of lane.left.items ≡ Some stamp) where
    here : first_at (ls ++ lane ∷ []) (length ls) ≡ Some stamp
    here = ⊎_elim (λ old. absurd (old.0 refl)) (λ new. new.1 ∙ first) (first_cases ls lane (length ls))

    -- a first stamp is an earlier log's, or this one's
    either : (k other : ℕ) → first_at (ls ++ lane ∷ []) k ≡ Some other → (first_at ls k ≡ Some other) ⊎ ((k ≡ length ls) × (stamp ≡ other))
    either k other at = ⊎_elim (λ old. inl (sym old.1 ∙ at)) (λ new. inr (new.0, same_Some stamp other (sym first ∙ sym new.1 ∙ at))) (first_cases ls lane k)

    new_least : ((k other : ℕ) → first_at ls k ≡ Some other → stamp < other) → IsNext (ls ++ lane ∷ []) (record { log = length ls; stamp = stamp; twice = false })
    new_least over = record {
      first = here;
      least = λ k other at. ⊎_elim (λ old. omega (arith, over k other old)) (λ new. omega (arith, new.1)) (either k other at);
      alone = λ one k at. ⊎_elim (λ old. (let never = over k stamp old in absurd (omega (arith, never)))) (λ new. new.0) (either k stamp at);
      other = λ two. absurd (true≢false (sym two));
    }

    -- the lesser of the least so far and this one
    pub least_more : (o : Option Next) → IsLeast ls o → IsLeast (ls ++ lane ∷ []) (Some (lesser o (length ls) stamp))
    least_more None is = new_least (λ k other at. absurd (no_some other (sym (is k) ∙ at)))
    least_more (Some n) is = by (nat_lt n.stamp stamp) refl
      where
        by : (b : Bool) → nat_lt n.stamp stamp ≡ b
            → IsNext (ls ++ lane ∷ []) (cond b n (cond (n.stamp == stamp) (record n { twice = true }) (record { log = length ls; stamp = stamp; twice = false })))
        by true less = record {
          first = kept n.log n.stamp is.first;
          least = λ k other at. ⊎_elim (λ old. is.least k other old) (λ new. omega (arith, new.1, ltb-true n.stamp stamp less)) (either k other at);
          alone = λ one k at. ⊎_elim (λ old. is.alone one k old) (λ new. absurd (omega (arith, new.1, ltb-true n.stamp stamp less))) (either k n.stamp at);
          other = λ two. (let o = is.other two in (o.0, o.1, kept o.0 n.stamp o.2));
        }
        by false not = then (n.stamp == stamp) refl
          where
            then : (b : Bool) → (n.stamp == stamp) ≡ b → IsNext (ls ++ lane ∷ []) (cond b (record n { twice = true }) (record { log = length ls; stamp = stamp; twice = false }))
            then true same = record {
              first = kept n.log n.stamp is.first;
              least = λ k other at. ⊎_elim (λ old. is.least k other old) (λ new. omega (arith, new.1, eqb-true n.stamp stamp same)) (either k other at);
              alone = λ one k at. absurd (true≢false one);
              other = λ two. (length ls, λ e. within ls n.log n.stamp is.first (sym e), here ∙ ap (λ (m : ℕ). Some m) (sym (eqb-true n.stamp stamp same)));
            }
            then false apart = new_least (λ k other at. (let low = is.least k other at in omega (arith, low, ltb-false n.stamp stamp not, eqb-false n.stamp stamp apart)))

  -- ---- the highest worker

  module _ (logs : List Contents) (stamp worker : ℕ) (is : IsHighest logs ls stamp worker) (log : Contents) (at : slice_get logs (length ls) ≡ Some log) where
    -- this log has the stamp
    pub highest_more : first_of lane.left.items ≡ Some stamp → IsHighest logs (ls ++ lane ∷ []) stamp (max worker log.worker)
    highest_more first = record {
      upto = λ k c at_c at_k. ⊎_elim
          (λ old. omega (arith, is.upto k c at_c old))
          (λ new. omega (arith, ap (λ (x : Contents). x.worker) (same_Some log c (sym at ∙ ap (slice_get logs) (sym new.0) ∙ at_c))))
          (either stamp first k stamp at_k);
      there = λ some. ⊎_elim
          (λ less. (length ls, log, at, here stamp first, omega (arith, less)))
          (λ most. (let t = is.there (omega (arith, some, most)) in (t.0, t.1, t.2, kept t.0 stamp t.3, omega (arith, t.4, most))))
          (cases_lt worker log.worker);
    }

    -- or it has not
    pub highest_on : (first_of lane.left.items ≡ Some stamp → ⊥) → IsHighest logs (ls ++ lane ∷ []) stamp worker
    highest_on other = record {
      upto = λ k c at_c at_k. ⊎_elim
          (λ old. is.upto k c at_c (sym old.1 ∙ at_k))
          (λ new. absurd (other (sym new.1 ∙ at_k)))
          (first_cases ls lane k);
      there = λ some. (let t = is.there some in (t.0, t.1, t.2, kept t.0 stamp t.3, t.4));
    }
