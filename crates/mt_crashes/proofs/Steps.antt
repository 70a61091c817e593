-- A store keeps its invariant in a step, whether that places a change or none.
use Rattle.std.proofs.Common.{◌≡◌, inl, inr, ⊎_elim, ℕ, ◌+◌, ◌<◌, ◌≤◌, Bool, true, false, not, cond, List, [], ◌∷◌, ◌++◌, length, refl, sym, ◌∙◌, ap, subst, arith}
use Rattle.std.proofs.{lemmas.Bool.not_from_false, lemmas.List.Elements.filter-append}
use Rattle.std.specs.List.{filter}
use Rattle.mt_crashes.specs.{Fronts.{Numbers, is_void, In}, Histories.Placed, Bases.{CheckpointView, IsCheckpointOf}, Stores.{Store, StepsOn, Places}}
use Rattle.mt_crashes.specs.Invariants.{by_worker, IsStore}
use Rattle.mt_crashes.proofs.{Members.{in_left, in_either}, Bases.base_push, Invariant.rise_push}

later_slot : (old steps : ℕ) (voids : List Numbers) (history : List Placed) (c : CheckpointView) → old ≤ steps → IsCheckpointOf old voids history c
    → IsCheckpointOf steps voids history c
later_slot old steps voids history c le is = record { order = is.order; made = omega (arith, le, is.made); base = is.base }

pub steps_on : (old new : Store) → IsStore old → StepsOn old new → IsStore new
steps_on old new is h = subst IsStore (sym h.stands) (record {
  rises = is.rises;
  made = λ p at. omega (arith, is.made p at);
  workers = is.workers;
  left = is.left;
  gone = is.gone;
  beyond = omega (arith, is.beyond);
  logs = λ worker log there left may. let f = is.logs worker log there left may in
      record { contents = f.contents; joins = f.joins; owner = f.owner; whole = f.whole; has = f.has; only = f.only; voids = f.voids; made = omega (arith, f.made); resumed = f.resumed };
  guards = is.guards;
  some = is.some;
  top = is.top;
  slots = λ k slot there c at. later_slot old.steps (old.steps + 1) old.voids old.history c (omega arith) (is.slots k slot there c at);
  low = is.low;
  whole = is.whole;
  held = is.held;
  level = is.level;
})

live_beyond : (s : Store) (n : ℕ) → IsStore s → s.reached < n → is_void s.voids n ≡ false
live_beyond s n is over = by (is_void s.voids n) refl
  where
    by : (b : Bool) → is_void s.voids n ≡ b → b ≡ false
    by true h = absurd (omega (arith, over, is.gone n h))
    by false h = refl

pub places : (old new : Store) → IsStore old → Places old new → IsStore new
places old new is h = subst IsStore (sym h.stands) (record {
  rises = rise_push 0 old.steps old.placed h.p is.rises (omega arith) is.made (omega (arith, h.number));
  made = λ q at. ⊎_elim (λ l. omega (arith, is.made q l)) (λ r. omega (arith, h.number, ap (λ (x : Placed). x.change.stamp) (only_one q r)))
      (in_either q old.placed (h.p ∷ []) at);
  workers = λ q at. ⊎_elim (λ l. is.workers q l) (λ r. subst (λ (x : Placed). x.worker < length old.logs) (sym (only_one q r)) h.worker)
      (in_either q old.placed (h.p ∷ []) at);
  left = ap (λ (l : List Placed). l ++ h.p ∷ []) is.left
      ∙ sym (filter-append live old.placed (h.p ∷ []) ∙ ap (λ (b : Bool). filter live old.placed ++ cond b (h.p ∷ []) []) (not_from_false _ alive));
  gone = is.gone;
  beyond = omega (arith, is.beyond);
  logs = λ worker log there left may. let f = is.logs worker log there left may in record {
    contents = f.contents;
    joins = f.joins;
    owner = f.owner;
    whole = f.whole;
    has = λ r at upto not_void. ⊎_elim (λ l. f.has r l upto not_void)
        (λ m. absurd (omega (arith, f.made, upto, h.number, ap (λ (x : Placed). x.change.stamp) (only_one (by_worker worker r) m))))
        (in_either (by_worker worker r) old.placed (h.p ∷ []) at);
    only = λ r at. in_left (by_worker worker r) old.placed (h.p ∷ []) (f.only r at);
    voids = f.voids;
    made = omega (arith, f.made);
    resumed = f.resumed;
  };
  guards = is.guards;
  some = is.some;
  top = is.top;
  slots = λ k slot there c at. let was = is.slots k slot there c at in
      record {
        order = was.order;
        made = omega (arith, was.made);
        base = ⊎_elim (λ v. inl v) (λ b.
            inr (base_push c.from c.to old.history h.p c.pairs was.order (omega (arith, was.made, h.number)) b)) was.base;
      };
  low = is.low;
  whole = is.whole;
  held = is.held;
  level = is.level;
})
  where
    live : Placed → Bool
    live p = not (is_void old.voids p.change.stamp)

    alive : is_void old.voids h.p.change.stamp ≡ false
    alive = live_beyond old h.p.change.stamp is (omega (arith, h.number, is.beyond))

    only_one : (q : Placed) → In q (h.p ∷ []) → q ≡ h.p
    only_one q (inl e) = e
    only_one q (inr none) = absurd none
