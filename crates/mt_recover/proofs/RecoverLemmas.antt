-- What is gathered from logs that were read again is a recovery, and why none is: for `gathered_of` and `recover`.
use Rattle.std.proofs.Common.{◌≡◌, ◌⊎◌, inl, inr, ⊎_elim, ℕ, max, Bool, true, false, not, ◌&&◌, cond, List, [], ◌∷◌, map, refl, sym, ◌∙◌, ap, subst, Option, Some, None, IsPermutation}
use Rattle.std.{proofs.lemmas.Bool.true≢false, specs.{Prelude.nat_lt, List.filter, Option.option_map}}
use Rattle.mt_rows.specs.{Tenants.{Contents as Pairs}, declared.refusal.Refusal.Refusal}
use Rattle.mt_log.specs.{declared.batch.LogBatch.LogBatch, Contents.Contents}
use Rattle.mt_checkpoint.specs.declared.checkpoint.Checkpoint.{Checkpoint}
use Rattle.mt_crashes.specs.{Fronts.{is_void, all_voids, all_records, is_replayed, cutoff_of, last_end, greatest}, Bases.CheckpointView, Recoveries.{AreSet, checkpoint_ends, resume_of}}
use Rattle.mt_generations.specs.Chains.{HasUse, IsRecoveredOver, NoneOlderOver}
use Rattle.mt_recover.specs.{Bases.{greatest_start, covers, usable, has_base, latest}, Pairs.view_of, Falls.first_fall, Outlines.{outline_of, AreAgain}, Sources.{AreLeft, AreHeld}, Twice.IsFirstTwice, Takes.StopsTaking}
use Rattle.mt_recover.specs.{Loads.{views, IsLoaded, with_loaded, used_of, IsUsable, IsBase}, Replays.{IsReplayOf, IsReplayed}, Refusals.{AreSound, GoTogether, IsRefusal, StopsRecovery}}
use Rattle.mt_recover.proofs.{Covering.{two, base_test}, Loading.{loaded_serves, are_loaded, as_seen, resume_stays}, Outlines.{same_cutoff, same_end, same_start, same_voids, set_again, level_again}}
use Rattle.mt_rows.specs.declared.refusal.Refusal.TheVariants as refusals

usable_same : (fs now : List Contents) (start cutoff : ℕ) (o : Option Checkpoint) → all_voids now ≡ all_voids fs → usable now start cutoff o ≡ usable fs start cutoff o
usable_same fs now start cutoff None same = refl
usable_same fs now start cutoff (Some c) same =
    ap (λ (vs : List (ℕ × ℕ)). cond (covers start c && not (nat_lt cutoff c.last) && not (is_void vs c.last)) (Some c) None) same

module _ (fs now : List Contents) (same : map outline_of now ≡ map outline_of fs) where
  -- the same checkpoint is chosen over logs that were read again
  choice_stays : (cutoff : ℕ) (first second : Option Checkpoint) → cutoff ≡ cutoff_of fs
      → (latest (usable fs (greatest_start fs) cutoff first) (usable fs (greatest_start fs) cutoff second)).0
      ≡ (latest (usable now (greatest_start now) (cutoff_of now) first) (usable now (greatest_start now) (cutoff_of now) second)).0
  choice_stays cutoff first second cut =
      let by : (o : Option Checkpoint) → usable fs (greatest_start fs) cutoff o ≡ usable now (greatest_start now) (cutoff_of now) o =
      λ o. sym (usable_same fs now (greatest_start fs) cutoff o (same_voids fs now same))
      ∙ ap (λ (n : ℕ). usable now n cutoff o) (sym (same_start fs now same)) ∙ ap (λ (n : ℕ). usable now (greatest_start now) n o) (cut ∙ sym (same_cutoff fs now same)) in
      λ i. (latest (by first i) (by second i)).0

  module _ (holds : ℕ → Option CheckpointView → Type 0) (first second : Option Checkpoint) (cutoff resume : ℕ) (used : Option ℕ) (from : ℕ) (base found : Pairs) (b : IsBase holds used first second from base)
      (cut : cutoff ≡ cutoff_of fs) (is_resume : resume ≡ resume_of fs (two first second)) (usable_one : IsUsable used first second)
      (is_used : used ≡ (latest (usable fs (greatest_start fs) cutoff first) (usable fs (greatest_start fs) cutoff second)).0)
      (replayed : IsReplayed now from cutoff base found) (has : has_base now first second ≡ true) where
    abbrev pub slots : List (Option Checkpoint)
    slots = with_loaded used b.loaded first second

    pub loaded : IsLoaded holds (first ∷ second ∷ []) slots
    loaded = are_loaded holds first second used from base usable_one b

    cut_now : cutoff ≡ cutoff_of now
    cut_now = cut ∙ sym (same_cutoff fs now same)

    pub is_recovered : IsRecoveredOver now (views slots) cutoff resume used found
    is_recovered =
        let serves = loaded_serves now first second b.loaded used (is_used ∙ choice_stays cutoff first second cut) b.numbers has in
        record {
          cutoff_is = cut_now;
          resume_is = is_resume ∙ ap (λ (n : ℕ). max n (greatest (checkpoint_ends (two first second)))) (sym (same_end fs now same))
              ∙ sym (resume_stays now (two first second) (views slots) loaded.numbers);
          used_is = serves.0;
          from = from;
          base = base;
          base_is = serves.1 from base b.begun;
          replayed = replayed.0;
          replay = record {
            same = subst (λ (n : ℕ). IsPermutation (filter (is_replayed (all_voids now) from n) (all_records now)) replayed.0) cut_now replayed.1.same;
            rises = replayed.1.rises;
          };
          pairs_are = replayed.2;
        }

  -- logs that go together do so when they are read again
  pub together_again : first_fall now ≡ None → GoTogether fs → GoTogether now
  together_again rise go = (set_again fs now same go.0, rise, level_again fs now same go.2)

  pub sound_again : (from cutoff : ℕ) (base found : Pairs) → first_fall now ≡ None → GoTogether fs → IsReplayed now from cutoff base found → AreSound now
  sound_again from cutoff base found rise go r =
      let now_go = together_again rise go in
      record { set = now_go.0; rise = rise; level = now_go.2; apart = r.1.apart }

-- ---- why nothing is recovered

module _ {S : Type 0} (refused : S → Refusal → Type 0) (holds : ℕ → Option CheckpointView → Type 0) (has : Type 0) (first second : Option Checkpoint) (t : S) (now : List Contents) (quota : ℕ → Option ℕ) where
  abbrev seen : List (Option Checkpoint)
  seen = first ∷ second ∷ []

  abbrev Stops : Refusal → Type 0
  Stops e = StopsRecovery refused holds has seen t now quota e

  own : (e : Refusal) → IsRefusal now (views seen) quota e → Stops e
  own e why = inr (inr (seen, as_seen holds first second seen, why))

  -- the slot was not loaded
  pub stops_loading : (e : Refusal) → refused t e ⊎ ((e ≡ refusals.Device) × ¬ AreHeld holds (views seen)) → Stops e
  stops_loading e (inl by) = inl by
  stops_loading e (inr changed) = inr (inl (changed.0, λ h. changed.1 h.1))

  -- the logs were not replayed
  pub stops_replaying : (logs : S → ℕ) (follows : S → S → Type 0) (left : S → ℕ → List LogBatch → Type 0) (left_then : Type 0) (e : Refusal) → (has → left_then) → GoTogether now
      → (e ≡ refusals.Memory) ⊎ StopsTaking logs follows left refused left_then t now e → Stops e
  stops_replaying logs follows left left_then e gives go (inl memory) = subst Stops (sym memory) (own refusals.Memory go)
  stops_replaying logs follows left left_then e gives go (inr (inl by)) = inl by
  stops_replaying logs follows left left_then e gives go (inr (inr (inl changed))) = inr (inl (changed.0, λ h. changed.1 (gives h.0)))
  stops_replaying logs follows left left_then e gives go (inr (inr (inr twice))) =
      subst Stops (sym twice.2) (own (refusals.StampsFall twice.0 twice.1) (go.0, inr (inr (go.1, go.2, twice.3))))

  -- no base may be used
  pub stops_without_base : AreSound now → has_base now first second ≡ false → Stops refusals.LogCount
  stops_without_base sound none = own refusals.LogCount (inr (sound, λ some. true≢false (sym (base_test now first second some) ∙ none)))
