-- A replay of the records that are taken of all logs, one after the other: for `changed`.
use Rattle.std.proofs.Common.{◌≡◌, ◌⊎◌, inl, inr, ⊎_elim, ℕ, ◌≤◌, Bool, true, false, cond, List, [], ◌∷◌, ◌++◌, map, length, take, refl, sym, ◌∙◌, ap, subst, arith, Option, Some, None, IsPermutation}
use Rattle.std.{proofs.{lemmas.{List.Elements.filter-append, List.Sorted.IsPermutation-sym}, Math.Seq.take-append_seam}, specs.List.{filter}}
use Rattle.mt_rows.specs.{declared.record.Record.Record, declared.refusal.Refusal.{Refusal}, Tenants.{Contents as Pairs}}
use Rattle.mt_log.specs.{declared.batch.LogBatch.LogBatch, Contents.Contents}
use Rattle.mt_rows.proofs.ContentLaws.{same_contents}
use Rattle.mt_crashes.{specs.Fronts.{Numbers, all_voids, all_records, is_replayed, with_replayed, after_replay, Rise}, proofs.Bases.replay_append}
use Rattle.mt_recover.specs.{Sources.{AreLeft, Goes}, Outlines.AreAgain, Changes.{Changes, AreAfter}, Merges.{Taken, all_taken, last_stamp, AreMerging, AreAtEnd}}
use Rattle.mt_recover.specs.{Takes.{HaveLeft, ReadAgain, StopsTaking, Takes}, Replays.{Knows, replayed_of, HaveReplayed, IsReplayOf, AreReplayed, IsReplayed}, declared.{lanes.Lane.Lane, voids.Walk.Walk}}
use Rattle.mt_recover.proofs.{ChangeMaps.none_after, LaneLemmas.goes_on, Orders.filter_moved, Outlines.same_voids, Rising.{all_more, last_more, rise_last, replay_rises}, Spreads.all_were_taken, TakeLemmas.{are_apart, all_at_end}, Walks.{knows_all, knows_over, same_replayed}}

-- what stands in a vector whose slice was lent
pub whole : {X : Type 0} (n : ℕ) (new rest : List X) → n ≡ length new → take n (new ++ rest) ≡ new
whole n new rest e = ap (λ (k : ℕ). take k (new ++ rest)) e ∙ take-append_seam new rest

-- pairs that changes make of others are those after what was replayed
pub merged_replayed : (fronts : List Contents) (base cutoff : ℕ) (old new : Pairs) (changes : Changes) → AreReplayed fronts base cutoff old changes → AreAfter changes old new → IsReplayed fronts base cutoff old new
merged_replayed fronts base cutoff old new changes r after = (r.0, r.1, same_contents new (after_replay old r.0) (λ q. after.at q ∙ sym (r.2.at q)))

module _ {S : Type 0} (logs : S → ℕ) (follows : S → S → Type 0) (left : S → ℕ → List LogBatch → Type 0) where
  -- logs that were read on were read on from the start
  pub read_further : (s : S) (first : List Contents) (has : Type 0) (t : S) (fs : List Contents) (then_has : Type 0) (u : S) (now : List Contents) → (has → then_has)
      → ReadAgain logs follows left s first has t fs → ReadAgain logs follows left t fs then_has u now → ReadAgain logs follows left s first has u now
  read_further s first has t fs then_has u now gives a b = record {
    goes = goes_on logs follows left s t u a.goes b.goes;
    again = record { same = b.again.same ∙ a.again.same; rise = b.again.rise };
    format = λ all. b.format (a.format all);
    same = λ h. b.same (gives h) ∙ a.same h;
  }

  pub stops_further : (refused : S → Refusal → Type 0) (has then_has : Type 0) (u : S) (now : List Contents) (e : Refusal) → (has → then_has)
      → StopsTaking logs follows left refused then_has u now e → StopsTaking logs follows left refused has u now e
  stops_further refused has then_has u now e gives (inl by) = inl by
  stops_further refused has then_has u now e gives (inr (inl changed)) = inr (inl (changed.0, λ h. changed.1 (gives h)))
  stops_further refused has then_has u now e gives (inr (inr twice)) = inr (inr twice)

  module _ (s : S) (first : List Contents) (voids : List Numbers) (base cutoff : ℕ) (old : Pairs) where
    -- so far these records were taken, and those of them that count were replayed
    pub record Replaying (t : S) (fs : List Contents) (lanes : List Lane) (walk : Walk) (changes : Changes) : Type 0 where
      pub taken : List Taken
      pub read : ReadAgain logs follows left s first (AreLeft (left s) first) t fs
      pub merging : AreMerging taken fs lanes
      pub has : AreLeft (left s) first → HaveLeft logs follows left t fs lanes
      pub knows : Knows voids (last_stamp 0 (all_taken taken)) walk
      pub after : HaveReplayed voids base cutoff taken old changes

    pub none_replayed : (t : S) (fs : List Contents) (lanes : List Lane) (walk : Walk) (changes : Changes) → walk ≡ record { next = 0; reach = 0 } → changes.entries ≡ []
        → ReadAgain logs follows left s first (AreLeft (left s) first) t fs → AreMerging [] fs lanes → (AreLeft (left s) first → HaveLeft logs follows left t fs lanes) → Replaying t fs lanes walk changes
    none_replayed t fs lanes walk changes begun none read merging has = record {
      taken = [];
      read = read;
      merging = merging;
      has = has;
      knows = subst (Knows voids 0) (sym begun) (knows_all voids 0);
      after = none_after changes old none;
    }

    module _ (t : S) (fs : List Contents) (lanes : List Lane) (walk : Walk) (changes : Changes) (sofar : Replaying t fs lanes walk changes)
        (u : S) (now : List Contents) (further : List Lane) (read : ReadAgain logs follows left t fs (HaveLeft logs follows left t fs lanes) u now) where
      -- what was read up to here
      pub read_here : ReadAgain logs follows left s first (AreLeft (left s) first) u now
      read_here = read_further s first (AreLeft (left s) first) t fs (HaveLeft logs follows left t fs lanes) u now sofar.has sofar.read read

      module _ (r : Record) (takes : (taken : List Taken) → AreMerging taken fs lanes → Takes taken (Some r) now further) where
        one : (place : ℕ) × AreMerging (sofar.taken ++ (place, r) ∷ []) now further
        one = takes sofar.taken sofar.merging

        over : last_stamp 0 (all_taken sofar.taken) ≤ r.stamp
        over = let less = rise_last 0 (all_taken sofar.taken) r (subst (Rise 0) (all_more sofar.taken one.0 r) one.1.order) in omega (arith, less)

        -- the walk tells whether its stamp is void
        pub knows_it : Knows voids r.stamp walk
        knows_it = knows_over voids walk (last_stamp 0 (all_taken sofar.taken)) r.stamp over sofar.knows

        made : (m : Pairs) (b : Bool) → cond b (with_replayed m r) m ≡ after_replay m (cond b (r ∷ []) [])
        made m true = refl
        made m false = refl

        -- one more is replayed
        pub one_replayed : (next : Walk) (more : Changes) → (HaveLeft logs follows left t fs lanes → HaveLeft logs follows left u now further) → Knows voids r.stamp next
            → ((m : Pairs) → AreAfter changes old m → AreAfter more old (cond (is_replayed voids base cutoff r) (with_replayed m r) m)) → Replaying u now further next more
        one_replayed next more has knows adds = record {
          taken = sofar.taken ++ (one.0, r) ∷ [];
          read = read_here;
          merging = one.1;
          has = λ h. has (sofar.has h);
          knows = subst (λ (n : ℕ). Knows voids n next) (sym (ap (last_stamp 0) (all_more sofar.taken one.0 r) ∙ last_more 0 (all_taken sofar.taken) r)) knows;
          after = subst (AreAfter more old)
              (made (after_replay old (replayed_of voids base cutoff sofar.taken)) (is_replayed voids base cutoff r)
              ∙ sym (replay_append old (replayed_of voids base cutoff sofar.taken) (cond (is_replayed voids base cutoff r) (r ∷ []) []))
              ∙ ap (after_replay old) (sym (ap (filter (is_replayed voids base cutoff)) (all_more sofar.taken one.0 r) ∙ filter-append (is_replayed voids base cutoff) (all_taken sofar.taken) (r ∷ []))))
              (adds (after_replay old (replayed_of voids base cutoff sofar.taken)) sofar.after);
        }

      -- all are replayed
      pub all_replayed : ((taken : List Taken) → AreMerging taken fs lanes → Takes taken None now further) → IsPermutation (all_voids first) voids → AreReplayed now base cutoff old changes
      all_replayed takes ranges =
          let end = takes sofar.taken sofar.merging in
          let rs = all_taken sofar.taken in
          let same = same_voids first now read_here.again.same in
          let void : filter (is_replayed (all_voids now) base cutoff) rs ≡ replayed_of voids base cutoff sofar.taken =
          ap (λ (vs : List Numbers). filter (is_replayed vs base cutoff) rs) same ∙ sym (same_replayed (all_voids first) voids base cutoff rs ranges) in (
            replayed_of voids base cutoff sofar.taken,
            record {
              same = subst (IsPermutation (filter (is_replayed (all_voids now) base cutoff) (all_records now))) void
                  (filter_moved (is_replayed (all_voids now) base cutoff) (all_records now) rs
                  (all_were_taken now sofar.taken (all_at_end sofar.taken now further end.0 end.1) end.0.known));
              rises = replay_rises voids base cutoff rs end.0.order;
              apart = are_apart sofar.taken now further end.0 end.1;
            },
            sofar.after,
          )
