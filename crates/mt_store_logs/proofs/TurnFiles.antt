-- The files of a worker's log in a turn, as it is appended to and comes to rest, whatever the older file shows.
use Rattle.std.proofs.Common.{◌≡◌, ⊎_elim, inl, inr, ℕ, ◌+◌, Bool, true, false, cond, List, ◌++◌, Option, Some, None, refl, sym, ◌∙◌, ap, subst, arith, append_assoc}
use Rattle.std.proofs.lemmas.{Bool.{eq-eqb, ne_eqb, cases_eq}, Option.same_Some, List.append-nil}
use Rattle.mt_log.specs.{declared.batch.LogBatch.LogBatch, Contents.{Contents, mark_of, with_batch}}
use Rattle.mt_crashes.{specs.Stores.{LogNow, at_rest, MayLeaveFront}, proofs.{Members.no_some, FrontLaws.mark_more}}
use Rattle.mt_generations.specs.{Chains.{Chain, EndsLog}, Standings.{Standing, StandsFor}, Turns.with_log}
use Rattle.mt_generations.proofs.{Moments.{longer_next, longer_first}, Parts.same_end}
use Rattle.mt_log_files.specs.{Files.{FileNow, Spare, Has, MayHave}, Workers.{nothing_stands, with_found, standing_of, AreFilesOf}}
use Rattle.mt_log_files.proofs.WorkerLaws.{doubted_next, doubted_first, giving_up_files, given_up_files}
use Rattle.mt_store_logs.specs.Ends.{IsEndOf, IsPast, start_in, KeepsStart}

-- ---- standings

-- who has the same logs, has them for the same whole log
same_stands : (g : ℕ) (log : Contents) (f e : Standing) → ((h : ℕ) → e h ≡ f h) → StandsFor g log f → StandsFor g log e
same_stands g log f e same s = record {
  given = s.given;
  first = s.first;
  next = s.next;
  parts = s.parts;
  has_first = λ c at. s.has_first c (sym (same g) ∙ at);
  has_next = λ c at. s.has_next c (sym (same (g + 1)) ∙ at);
  not_begun = λ none. s.not_begun (sym (same (g + 1)) ∙ none);
  no_other = λ h c at. s.no_other h c (sym (same h) ∙ at);
}

pub at_log : (g : ℕ) (c : Chain) (f : Standing) → with_log g c f g ≡ Some c
at_log g c f = ap (λ (b : Bool). cond b (Some c) (f g)) (eq-eqb g g refl)

pub past_log : (g h : ℕ) (c : Chain) (f : Standing) → (h ≡ g → ⊥) → with_log g c f h ≡ f h
past_log g h c f other = ap (λ (b : Bool). cond b (Some c) (f h)) (ne_eqb h g other)

-- what was found of a generation is not there of the next one
no_next : (g : ℕ) (c : Contents) → standing_of g (Some c) None (g + 1) ≡ None
no_next g c = past_log g (g + 1) c nothing_stands (λ same. omega (arith, same))

-- the log put last counts
put_again : (g : ℕ) (c d : Chain) (f : Standing) (h : ℕ) → with_log g d f h ≡ with_log g d (with_log g c f) h
put_again g c d f h = ⊎_elim
    (λ same. ap (with_log g d f) same ∙ at_log g d f ∙ sym (at_log g d (with_log g c f)) ∙ ap (with_log g d (with_log g c f)) (sym same))
    (λ other. past_log g h d f other ∙ sym (past_log g h c f other) ∙ sym (past_log g h d (with_log g c f) other))
    (cases_eq h g)

-- ---- a log found in one of the files is the end of the whole one

pub next_ends : (g : ℕ) (log front : Contents) (x : Option Contents) → StandsFor g log (standing_of g x (Some front)) → EndsLog log front
next_ends g log front x s =
    let part = s.has_next front (at_log (g + 1) front (with_found g x nothing_stands)) in
    record {
      given = s.given ++ s.first;
      parts = s.parts ∙ sym (append_assoc s.given s.first s.next) ∙ ap (λ (bs : List LogBatch). (s.given ++ s.first) ++ bs) (sym part.batches_are);
      start = part.start;
      owner = part.owner;
    }

first_ends : (g : ℕ) (log front : Contents) → StandsFor g log (standing_of g (Some front) None) → EndsLog log front
first_ends g log front s =
    let part = s.has_first front (at_log g front nothing_stands) in
    let none = s.not_begun (no_next g front) in
    record {
      given = s.given;
      parts = s.parts ∙ ap (λ (bs : List LogBatch). s.given ++ bs) (ap (λ (bs : List LogBatch). s.first ++ bs) none ∙ append-nil s.first ∙ sym part.batches_are);
      start = part.start;
      owner = part.owner;
    }

-- ---- what is left of a log

-- what rests is left alone
pub rest_is : (c front : Contents) → MayLeaveFront (at_rest c) front → front ≡ c
rest_is c front (inl same) = same
rest_is c front (inr more) = absurd (no_some more.0 more.1)

pub at_rest_is : (now : LogNow) → now.doubt ≡ None → now ≡ at_rest now.had
at_rest_is now rests = λ i. record { had = now.had; doubt = rests i }

-- a whole log that a crash left is told by where it ends
one_left : (now : LogNow) (a b : Contents) → IsPast now → MayLeaveFront now a → MayLeaveFront now b → mark_of a ≡ mark_of b → a ≡ b
one_left now a b past (inl e) (inl f) same = e ∙ sym f
one_left now a b past (inl e) (inr (d, told, f)) same =
    absurd (past d told (sym (mark_more d now.had) ∙ ap mark_of (sym f) ∙ sym same ∙ ap mark_of e))
one_left now a b past (inr (d, told, f)) (inl e) same =
    absurd (past d told (sym (mark_more d now.had) ∙ ap mark_of (sym f) ∙ same ∙ ap mark_of e))
one_left now a b past (inr (d, told, e)) (inr (c, also, f)) same =
    e ∙ ap (λ (x : LogBatch). with_batch x now.had) (same_Some d c (sym told ∙ also)) ∙ sym f

-- ---- the files, if the last log is that of the first generation, or of the next one

abbrev pub AreWith : Bool → ℕ → LogNow → FileNow → FileNow → Type 0
AreWith false g now older last = AreFilesOf g now last Spare
AreWith true g now older last = AreFilesOf g now older last

-- a batch is in doubt
pub doubted : (at : Bool) (g : ℕ) (log last : Contents) (older : FileNow) (b : LogBatch) → AreWith at g (at_rest log) older (Has (at_rest last))
    → AreWith at g (record { had = log; doubt = Some b }) older (Has (record { had = last; doubt = Some b }))
doubted false g log last older b are = doubted_first g log last b are
doubted true g log last older b are = doubted_next g log last older b are

-- it was appended
pub added : (at : Bool) (g : ℕ) (log last : Contents) (older : FileNow) (b : LogBatch) → AreWith at g (at_rest log) older (Has (at_rest last))
    → AreWith at g (at_rest (with_batch b log)) older (Has (at_rest (with_batch b last)))
added false g log last older b are = λ x y found none.
    let old = are (Some last) None (last, inl refl, refl) refl in
    let there : x ≡ Some (with_batch b last) = found.2 ∙ ap Some (rest_is (with_batch b last) found.0 found.1) in (
      with_batch b old.0,
      inl (ap (with_batch b) (rest_is log old.0 old.1)),
      subst (λ (w : Option Contents). StandsFor g (with_batch b old.0) (standing_of g w y)) (sym there)
          (subst (λ (z : Option Contents). StandsFor g (with_batch b old.0) (standing_of g (Some (with_batch b last)) z)) (sym none)
          (same_stands g (with_batch b old.0) (with_log g (with_batch b last) (standing_of g (Some last) None)) (standing_of g (Some (with_batch b last)) None)
          (put_again g last (with_batch b last) nothing_stands)
          (longer_first g old.0 (standing_of g (Some last) None) old.2 b last (no_next g last) (at_log g last nothing_stands)))),
    )
added true g log last older b are = λ x y left_older found.
    let old = are x (Some last) left_older (last, inl refl, refl) in
    let there : y ≡ Some (with_batch b last) = found.2 ∙ ap Some (rest_is (with_batch b last) found.0 found.1) in (
      with_batch b old.0,
      inl (ap (with_batch b) (rest_is log old.0 old.1)),
      subst (λ (z : Option Contents). StandsFor g (with_batch b old.0) (standing_of g x z)) (sym there)
          (same_stands g (with_batch b old.0) (with_log (g + 1) (with_batch b last) (standing_of g x (Some last))) (standing_of g x (Some (with_batch b last)))
          (put_again (g + 1) last (with_batch b last) (with_found g x nothing_stands))
          (longer_next g old.0 (standing_of g x (Some last)) old.2 b last (at_log (g + 1) last (with_found g x nothing_stands)))),
    )

-- The last log comes to rest with this front. The whole log of which it is the end is at rest then, whatever the older file shows.
pub rested : (at : Bool) (g : ℕ) (now last : LogNow) (older : FileNow) (front whole : Contents) → IsPast now → MayLeaveFront last front
    → MayLeaveFront now whole → EndsLog whole front → AreWith at g now older (Has last) → AreWith at g (at_rest whole) older (Has (at_rest front))
rested false g now last older front whole past left left_whole is_end are = λ x y found none.
    let old = are (Some front) None (front, left, refl) refl in
    let ends = first_ends g old.0 front old.2 in
    let same : old.0 ≡ whole = one_left now old.0 whole past old.1 left_whole (sym (same_end old.0 front ends) ∙ same_end whole front is_end) in
    let there : x ≡ Some front = found.2 ∙ ap Some (rest_is front found.0 found.1) in (
      whole,
      inl refl,
      subst (λ (w : Option Contents). StandsFor g whole (standing_of g w y)) (sym there)
          (subst (λ (z : Option Contents). StandsFor g whole (standing_of g (Some front) z)) (sym none)
          (subst (λ (l : Contents). StandsFor g l (standing_of g (Some front) None)) same old.2)),
    )
rested true g now last older front whole past left left_whole is_end are = λ x y left_older found.
    let old = are x (Some front) left_older (front, left, refl) in
    let ends = next_ends g old.0 front x old.2 in
    let same : old.0 ≡ whole = one_left now old.0 whole past old.1 left_whole (sym (same_end old.0 front ends) ∙ same_end whole front is_end) in
    let there : y ≡ Some front = found.2 ∙ ap Some (rest_is front found.0 found.1) in (
      whole,
      inl refl,
      subst (λ (z : Option Contents). StandsFor g whole (standing_of g x z)) (sym there) (subst (λ (l : Contents). StandsFor g l (standing_of g x (Some front))) same old.2),
    )

-- ---- the next log is in doubt

-- it is not there
pub no_next_files : (g : ℕ) (now : LogNow) (first : FileNow) (c : Contents) → AreFilesOf g now first (MayHave c) → AreFilesOf g now first Spare
no_next_files g now first c are x y left none = are x y left (inl none)

-- it is there: it is the end of the whole log
pub next_is_end : (g : ℕ) (now last : LogNow) (c : Contents) → now.doubt ≡ None → AreFilesOf g now (Has last) (MayHave c) → IsEndOf now (at_rest c)
next_is_end g now last c rests are =
    let old = are (Some last.had) (Some c) (last.had, inl refl, refl) (inr refl) in
    let same : old.0 ≡ now.had = rest_is now.had old.0 (subst (λ (n : LogNow). MayLeaveFront n old.0) (at_rest_is now rests) old.1) in
    record {
      ends = subst (λ (l : Contents). EndsLog l c) same (next_ends g old.0 c (Some last.had) old.2);
      doubt = sym rests;
    }

-- ---- the older log is given up

at_rest_files : (g : ℕ) (now n : LogNow) (next : FileNow) → AreFilesOf g now (Has n) next → AreFilesOf g now (Has (at_rest n.had)) next
at_rest_files g now n next are x y (f, rest, is) left = are x y (f, inl (rest_is n.had f rest), is) left

pub may_have_older : (g : ℕ) (now n : LogNow) (next : FileNow) → AreFilesOf g now (Has n) next → AreFilesOf g now (MayHave n.had) next
may_have_older g now n next are = giving_up_files g now n.had next (at_rest_files g now n next are)

pub no_older : (g : ℕ) (now : LogNow) (older next : FileNow) → AreFilesOf g now older next → AreFilesOf g now Spare next
no_older g now Spare next are = are
no_older g now (Has n) next are = given_up_files g now n.had next (may_have_older g now n next are)
no_older g now (MayHave c) next are = given_up_files g now c next are

-- ---- where logs begin

pub left_start : (now : LogNow) (front : Contents) → MayLeaveFront now front → front.start ≡ now.had.start
left_start now front (inl same) = ap (λ (c : Contents). c.start) same
left_start now front (inr (b, told, more)) = ap (λ (c : Contents). c.start) more

pub keeps_start : (old new : LogNow) → new.had.start ≡ old.had.start → KeepsStart (Has old) (Has new)
keeps_start old new same found (front, left, is) =
    (Some old.had, (old.had, inl refl, refl), ap Some (sym same) ∙ ap Some (sym (left_start new front left)) ∙ sym (ap (λ (x : Option Contents). start_in x) is))

pub keeps_found : (c : Contents) → KeepsStart (MayHave c) (Has (at_rest c))
keeps_found c found (front, left, is) = (found, inr (is ∙ ap Some (rest_is c front left)), refl)

pub keeps_none : (c : Contents) → KeepsStart (MayHave c) Spare
keeps_none c found none = (found, inl none, refl)
