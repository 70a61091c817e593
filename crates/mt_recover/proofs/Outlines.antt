-- What logs that have the same outlines have in common: ends, void ranges, starts, being a set, and none being older.
use Rattle.std.proofs.Common.{◌≡◌, ℕ, ◌==◌, Bool, not, ◌&&◌, ◌||◌, cond, List, [], ◌∷◌, ◌++◌, length, map, max, refl, sym, ◌∙◌, ap, Option, Some, None}
use Rattle.std.{proofs.lemmas.List.length-map, specs.{Prelude.nat_lt, List.{filter_map, flat_map, list_any}}}
use Rattle.mt_log.specs.{declared.batch.LogBatch.LogBatch, declared.batch.LogBatch.TheVariants.{Records, OldRecords, Resume}, Contents.{Contents, end_of, mark_of}}
use Rattle.mt_crashes.specs.{Fronts.{least, greatest, cutoff_of, last_end, voids_in, voids_of, all_voids}, Recoveries.AreSet}
use Rattle.mt_generations.specs.Chains.{NoneOlderOver}
use Rattle.mt_recover.specs.{Bases.greatest_start, Sets.{are_of, has_worker, are_distinct, is_set}, Outlines.{outline, outline_of}}
use Rattle.mt_recover.specs.Older.{served_in, last_served, is_resume_to, holds_resume, lacks_resume, lower, least_without}
use Rattle.mt_recover.proofs.{SetLemmas.{set_of, passes}, OlderLemmas.{none_is_older, one_is_older, not_both}}

-- ---- batches

end_outline : (mark : ℕ) (bs : List LogBatch) → end_of mark bs ≡ end_of mark (map outline bs)
end_outline mark [] = refl
end_outline mark (Records b ∷ bs) = end_outline b.to bs
end_outline mark (OldRecords b ∷ bs) = end_outline b.to bs
end_outline mark (Resume from to kept ∷ bs) = end_outline to bs

voids_outline : (bs : List LogBatch) → filter_map voids_in bs ≡ filter_map voids_in (map outline bs)
voids_outline [] = refl
voids_outline (Records b ∷ bs) = voids_outline bs
voids_outline (OldRecords b ∷ bs) = voids_outline bs
voids_outline (Resume from to kept ∷ bs) = ap (λ (vs : List (ℕ × ℕ)). (kept, to) ∷ vs) (voids_outline bs)

served_outline : (resumed : ℕ) (bs : List LogBatch) → served_in resumed bs ≡ served_in resumed (map outline bs)
served_outline resumed [] = refl
served_outline resumed (Records b ∷ bs) = ap (max resumed) (served_outline resumed bs)
served_outline resumed (OldRecords b ∷ bs) = ap (max resumed) (served_outline resumed bs)
served_outline resumed (Resume from to kept ∷ bs) = served_outline (max resumed to) bs

holds_outline : (n : ℕ) (bs : List LogBatch) → holds_resume n bs ≡ holds_resume n (map outline bs)
holds_outline n [] = refl
holds_outline n (Records b ∷ bs) = holds_outline n bs
holds_outline n (OldRecords b ∷ bs) = holds_outline n bs
holds_outline n (Resume from to kept ∷ bs) = ap (λ (b : Bool). (to == n) || b) (holds_outline n bs)

-- ---- words of logs

-- a word of each log that its outline tells
by_outline : {X : Type 0} (word : Contents → X) → ((c : Contents) → word c ≡ word (outline_of c)) → (cs : List Contents) → map word cs ≡ map word (map outline_of cs)
by_outline word tells [] = refl
by_outline word tells (c ∷ cs) = λ i. tells c i ∷ by_outline word tells cs i

flat_is : {X Y : Type 0} (f : X → List Y) (xs : List X) → flat_map f xs ≡ flat_map (λ (l : List Y). l) (map f xs)
flat_is f [] = refl
flat_is {X} {Y} f (x ∷ xs) = ap (λ (l : List Y). f x ++ l) (flat_is f xs)

of_outline : (count : ℕ) (cs : List Contents) → are_of count cs ≡ are_of count (map outline_of cs)
of_outline count [] = refl
of_outline count (c ∷ cs) = ap (λ (b : Bool). (c.logs == count) && b) (of_outline count cs)

worker_outline : (worker : ℕ) (cs : List Contents) → has_worker worker cs ≡ has_worker worker (map outline_of cs)
worker_outline worker [] = refl
worker_outline worker (c ∷ cs) = ap (λ (b : Bool). (c.worker == worker) || b) (worker_outline worker cs)

distinct_outline : (cs : List Contents) → are_distinct cs ≡ are_distinct (map outline_of cs)
distinct_outline [] = refl
distinct_outline (c ∷ cs) = λ i. not (worker_outline c.worker cs i) && distinct_outline cs i

set_outline : (cs : List Contents) → is_set cs ≡ is_set (map outline_of cs)
set_outline cs =
    (λ i. not (length cs == 0) && of_outline (length cs) cs i && distinct_outline cs i)
    ∙ ap (λ (n : ℕ). not (n == 0) && are_of n (map outline_of cs) && are_distinct (map outline_of cs)) (sym (length-map cs outline_of))

lacks_outline : (n : ℕ) (c : Contents) → lacks_resume n c ≡ lacks_resume n (outline_of c)
lacks_outline n c = ap (λ (b : Bool). nat_lt c.start n && not b) (holds_outline n c.batches)

without_outline : (n : ℕ) (found : Option ℕ) (cs : List Contents) → least_without n found cs ≡ least_without n found (map outline_of cs)
without_outline n found [] = refl
without_outline n found (c ∷ cs) =
    ap (λ (b : Bool). least_without n (cond b (lower found c.worker) found) cs) (lacks_outline n c)
    ∙ without_outline n (cond (lacks_resume n (outline_of c)) (lower found c.worker) found) cs

-- ---- logs with the same outlines

module _ (first second : List Contents) (same : map outline_of second ≡ map outline_of first) where
  words : {X : Type 0} (word : Contents → X) → ((c : Contents) → word c ≡ word (outline_of c)) → map word second ≡ map word first
  words word tells = by_outline word tells second ∙ ap (map word) same ∙ sym (by_outline word tells first)

  marks : map mark_of second ≡ map mark_of first
  marks = words mark_of (λ c. end_outline c.start c.batches)

  pub same_cutoff : cutoff_of second ≡ cutoff_of first
  same_cutoff = ap least marks

  pub same_end : last_end second ≡ last_end first
  same_end = ap greatest marks

  pub same_start : greatest_start second ≡ greatest_start first
  same_start = ap greatest (words (λ c. c.start) (λ c. refl))

  pub same_voids : all_voids second ≡ all_voids first
  same_voids = flat_is voids_of second ∙ ap (flat_map (λ (l : List (ℕ × ℕ)). l)) (words voids_of (λ c. voids_outline c.batches)) ∙ sym (flat_is voids_of first)

  pub same_count : length second ≡ length first
  same_count = sym (length-map second outline_of) ∙ ap length same ∙ length-map first outline_of

  pub set_again : AreSet first → AreSet second
  set_again is = set_of second (set_outline second ∙ ap is_set same ∙ sym (set_outline first) ∙ passes first is)

  same_served : last_served second ≡ last_served first
  same_served = ap greatest (words (λ c. served_in 0 c.batches) (λ c. served_outline 0 c.batches))

  same_without : least_without (last_served second) None second ≡ least_without (last_served first) None first
  same_without =
      ap (λ (n : ℕ). least_without n None second) same_served ∙ without_outline (last_served first) None second
      ∙ ap (least_without (last_served first) None) same ∙ sym (without_outline (last_served first) None first)

  pub level_again : NoneOlderOver first → NoneOlderOver second
  level_again level = none_is_older second (same_without ∙ by (least_without (last_served first) None first) refl)
    where
      by : (o : Option ℕ) → least_without (last_served first) None first ≡ o → o ≡ None
      by None is = refl
      by (Some worker) is = absurd (not_both first worker (last_served first) level (one_is_older first worker is))
