-- What one log of a store may become so that the store keeps its invariant.
use Rattle.std.{proofs.{Common.{◌≡◌, inl, inr, ⊎_elim, ℕ, ◌<◌, true, sym, ◌∙◌, subst, arith}, lemmas.List.length-set}, specs.Prelude.slice_set}
use Rattle.mt_log.specs.Contents.{Contents}
use Rattle.mt_crashes.specs.{Fronts.{is_void, ServedFrom}, Stores.{Store, LogNow, MayLeaveFront, Reaches, ReachesAt, AllReach}}
use Rattle.mt_crashes.specs.Invariants.{IsFrontOf, Guards, HasLog, Holds, AllHold, IsLevel, HasTopLog, IsStore}
use Rattle.mt_crashes.proofs.Invariant.{after_set, before_set, one_there}

-- what a store needs to keep where one log becomes another
pub record Replaces (s : Store) (worker : ℕ) (was now : LogNow) : Type 0 where
  pub there : HasLog s worker was
  pub fronts : (left : Contents) → MayLeaveFront now left → IsFrontOf s worker left
  pub guards : (n : ℕ) → is_void s.voids n ≡ true → Guards n was → Guards n now
  pub reaches : (n : ℕ) → Reaches n was → Reaches n now
  pub holds : (n : ℕ) → Holds n was → Holds n now
  pub served : (left : Contents) → MayLeaveFront now left → (n : ℕ) → 0 < n → ServedFrom n left → IsLevel n left s

unfoldable pub with_log : Store → ℕ → LogNow → Store
with_log s worker now = record s { logs = slice_set s.logs worker now }

longer : (s : Store) (worker w : ℕ) (now : LogNow) (left : Contents) → IsFrontOf s w left → IsFrontOf (with_log s worker now) w left
unfolding with_log
longer s worker w now left f =
    record {
      contents = f.contents;
      joins = f.joins;
      owner = (f.owner.0, f.owner.1 ∙ sym (length-set s.logs worker now));
      whole = f.whole;
      has = f.has;
      only = f.only;
      voids = f.voids;
      made = f.made;
      resumed = f.resumed;
    }

pub one_reach : (s : Store) (worker : ℕ) (was now : LogNow) → Replaces s worker was now → (n w : ℕ) → ReachesAt n s w
    → ReachesAt n (with_log s worker now) w
unfolding with_log
one_reach s worker was now h n w before log there =
    ⊎_elim
    (λ l. subst (Reaches n) (sym l.1) (h.reaches n (before was (subst (λ (k : ℕ). HasLog s k was) (sym l.0) h.there))))
    (λ r. before log r)
    (after_set s.logs worker w now log there)

all_reach : (s : Store) (worker : ℕ) (was now : LogNow) → Replaces s worker was now → (n : ℕ) → AllReach n s → AllReach n (with_log s worker now)
all_reach s worker was now h n all w = one_reach s worker was now h n w (all w)

all_hold : (s : Store) (worker : ℕ) (was now : LogNow) → Replaces s worker was now → (n : ℕ) → AllHold n s → AllHold n (with_log s worker now)
unfolding with_log
all_hold s worker was now h n all w log there =
    ⊎_elim
    (λ l. subst (Holds n) (sym l.1) (h.holds n (all worker was h.there)))
    (λ r. all w log r)
    (after_set s.logs worker w now log there)

pub replaces : (s : Store) (worker : ℕ) (was now : LogNow) → IsStore s → Replaces s worker was now → IsStore (with_log s worker now)
unfolding with_log
replaces s worker was now is h = record {
  rises = is.rises;
  made = is.made;
  workers = λ p at. omega (arith, is.workers p at, length-set s.logs worker now);
  left = is.left;
  gone = is.gone;
  beyond = is.beyond;
  logs = λ w log there left may. longer s worker w now left (⊎_elim
      (λ l. subst (λ (k : ℕ). IsFrontOf s k left) (sym l.0) (h.fronts left (subst (λ (x : LogNow). MayLeaveFront x left) l.1 may)))
      (λ r. is.logs w log r left may)
      (after_set s.logs worker w now log there));
  guards = λ n void. let g = is.guards n void in ⊎_elim
      (λ l. (
        g.0,
        now,
        l.1,
        h.guards n void
            (subst (Guards n) (one_there s.logs worker g.1 was (subst (λ (k : ℕ). HasLog s k g.1) l.0 g.2) h.there) g.3),
      ))
      (λ r. (g.0, g.1, r, g.3))
      (before_set s.logs worker g.0 now g.1 g.2);
  some = omega (arith, is.some, length-set s.logs worker now);
  top = ⊎_elim (λ g. inl (top_log g)) (λ g. inr g) is.top;
  slots = is.slots;
  low = λ off kept before e. all_reach s worker was now h kept (is.low off kept before e);
  whole = λ on. all_reach s worker was now h s.reached (is.whole on);
  held = λ on over. all_hold s worker was now h s.reached (is.held on over);
  level = λ w log there left may n over served. still n left (⊎_elim
      (λ l. h.served left (subst (λ (x : LogNow). MayLeaveFront x left) l.1 may) n over served)
      (λ r. is.level w log r left may n over served)
      (after_set s.logs worker w now log there));
}
  where
    still : (n : ℕ) (left : Contents) → IsLevel n left s → IsLevel n left (record s { logs = slice_set s.logs worker now })
    still n left m = (m.0, m.1, m.2, all_hold s worker was now h m.0 m.3)

    top_log : HasTopLog s → HasTopLog (record s { logs = slice_set s.logs worker now })
    top_log g = ⊎_elim
        (λ l. (
          g.0,
          now,
          l.1,
          h.reaches s.reached
              (subst (Reaches s.reached) (one_there s.logs worker g.1 was (subst (λ (k : ℕ). HasLog s k g.1) l.0 g.2) h.there) g.3),
        ))
        (λ r. (g.0, g.1, r, g.3))
        (before_set s.logs worker g.0 now g.1 g.2)
