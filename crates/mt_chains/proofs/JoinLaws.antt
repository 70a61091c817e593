-- Where batches end, and the chains of one worker more.
use Rattle.std.proofs.Common.{◌≡◌, inl, ℕ, suc, ◌+◌, ◌-◌, List, [], ◌∷◌, ◌++◌, ◌||◌, length, map, refl, sym, ◌∙◌, ap, subst, arith, Option, Some, None}
use Rattle.std.proofs.lemmas.{List.{append-nil, map-append, Elements.filter_map-append, Folds.list_any-append}, Option.same_Some}
use Rattle.std.specs.{List.{AllZip, filter_map}, Prelude.slice_get}
use Rattle.mt_log.specs.{declared.batch.{LogBatch.LogBatch, Front.Front}, Contents.{contents_of, to_of, end_of}, Voids.{Numbers, voids_in, is_void}}
use Rattle.mt_crashes.{proofs.Members.{no_some, in_left, in_right}}
use Rattle.mt_generations.specs.{Chains.Chain, Standings.{Standing, joined, chain_from, AreFrom, AllHave}}
use Rattle.mt_chains.specs.{declared.worker_logs.WorkerLogs.WorkerLogs, Files.standing_of, Testing.batches_in}

-- batches end where the last one does
pub end_last : (mark : ℕ) (bs : List LogBatch) (b : LogBatch) → slice_get bs (length bs - 1) ≡ Some b → end_of mark bs ≡ to_of b
end_last mark [] b e = absurd (no_some b e)
end_last mark (x ∷ []) b e = ap to_of (same_Some x b e)
end_last mark (x ∷ y ∷ bs) b e =
    let two : length (x ∷ y ∷ bs) - 1 ≡ suc (length bs) = omega arith in
    let one : length bs ≡ length (y ∷ bs) - 1 = omega arith in
    end_last (to_of x) (y ∷ bs) b (ap (slice_get (y ∷ bs)) (sym one) ∙ ap (slice_get (x ∷ y ∷ bs)) (sym two) ∙ e)

-- a number is void by both lists of batches if it is by one
pub void_joined : (n : ℕ) (bs more : List LogBatch) → is_void (filter_map voids_in (bs ++ more)) n ≡ (is_void (filter_map voids_in bs) n || is_void (filter_map voids_in more) n)
void_joined n bs more =
    ap (λ (vs : List Numbers). is_void vs n) (filter_map-append voids_in bs more) ∙ list_any-append _ (filter_map voids_in bs) (filter_map voids_in more)

-- a log with the batches of the next one, if there is a next one
pub with_batches : (first : Chain) (next : Option Chain) → joined (Some first) next ≡ Some (record first { batches = first.batches ++ batches_in next })
with_batches first None = ap (λ (bs : List LogBatch). Some (record first { batches = bs })) (sym (append-nil first.batches))
with_batches first (Some next) = refl

-- one more pair
zip_more : {A B : Type 0} (R : A → B → Type 0) (xs : List A) (ys : List B) (x : A) (y : B) → AllZip R xs ys → R x y → AllZip R (xs ++ x ∷ []) (ys ++ y ∷ [])
zip_more R [] [] x y all one = (one, tt)
zip_more R [] (b ∷ ys) x y all one = absurd all
zip_more R (a ∷ xs) [] x y all one = absurd all
zip_more R (a ∷ xs) (b ∷ ys) x y all one = (all.0, zip_more R xs ys x y all.1 one)

-- the chains of one worker more
pub one_more : (g : ℕ) (logs : List WorkerLogs) (worker : WorkerLogs) (old new : List Front)
    → (AllHave g (map standing_of logs) → AreFrom g (map standing_of logs) (map contents_of old))
    → ((c : Chain) → chain_from g (standing_of worker) ≡ Some c → map contents_of new ≡ map contents_of old ++ c ∷ [])
    → AllHave g (map standing_of (logs ++ worker ∷ [])) → AreFrom g (map standing_of (logs ++ worker ∷ [])) (map contents_of new)
one_more g logs worker old new so_far more all =
    let files = map standing_of logs in
    let own = standing_of worker in
    let split = map-append standing_of logs (worker ∷ []) in
    let each : AllHave g (files ++ own ∷ []) = subst (AllHave g) split all in
    let log = each own (in_right own files (own ∷ []) (inl refl)) in
    let chain : Chain = record log.0 { batches = log.0.batches ++ batches_in (own (g + 1)) } in
    let is : chain_from g own ≡ Some chain = ap (λ (x : Option Chain). joined x (own (g + 1))) log.1 ∙ with_batches log.0 (own (g + 1)) in
    let before = so_far (λ f at. each f (in_left f files (own ∷ []) at)) in
    let both = zip_more (λ (f : Standing) (c : Chain). chain_from g f ≡ Some c) files (map contents_of old) own chain before is in
    subst (λ (fs : List Standing). AreFrom g fs (map contents_of new)) (sym split)
    (subst (λ (cs : List Chain). AreFrom g (files ++ own ∷ []) cs) (sym (more chain is)) both)
