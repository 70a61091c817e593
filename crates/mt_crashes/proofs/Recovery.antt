-- A store keeps its invariant in a recovery, and as it serves again.
use Rattle.std.proofs.Common.{◌≡◌, ◌⊎◌, inl, inr, ⊎_elim, ℕ, ◌<◌, ◌≤◌, Bool, true, false, not, ◌&&◌, ◌||◌, ltb, List, [], ◌∷◌, map, length, refl, sym, ◌∙◌, ap, subst, arith, Option, Some, None}
use Rattle.std.proofs.lemmas.Bool.{ltb-true, ltb-false, le-ltb, not-true, not_from_false, cases_lt, or_parts, true≢false}
use Rattle.std.proofs.{lemmas.List.Elements.recursion_from_All, lemmas.Option.{same_Some, slice_get_within}}
use Rattle.std.specs.Prelude.{slice_get}
use Rattle.mt_log.specs.Contents.{Contents, mark_of}
use Rattle.mt_crashes.specs.{Fronts.{Numbers, greatest, cutoff_of, last_end, is_void, In, HoldResume}, Histories.{Placed, upto}}
use Rattle.mt_crashes.specs.{Bases.{CheckpointView, Slots, IsCheckpointOf}, Recoveries.{resume_of, checkpoint_ends}}
use Rattle.mt_crashes.specs.Stores.{Store, LogNow, SlotNow, at_rest, only_this, MayLeaveFront, Recovers, Serves, Reaches}
use Rattle.mt_crashes.specs.Invariants.{by_worker, IsFrontOf, Guards, HasLog, Holds, HasTopLog, HasTopSlot, IsStore}
use Rattle.mt_crashes.proofs.Members.{in_filter, filter_in, filter_filter, filter_same, in_place, place_in, no_some, all_at}
use Rattle.mt_crashes.proofs.FrontLaws.{from_cutoff, upto_last, cutoff_upto_last, ends_last, ends_cutoff, below_greatest, greatest_in, void_from, void_later, void_cases}
use Rattle.mt_crashes.proofs.{Bases.base_upto, Invariant.{within_place, map_place, place_map, rise_filter, stamp_upto_mark, resume_upto_mark, left_at_rest}}

-- ---- a recovery

-- what stands in a log that is at rest with the fronts of a store
front_there : (s : Store) (fronts : List Contents) (worker : ℕ) (log : LogNow) → s.logs ≡ map at_rest fronts → HasLog s worker log
    → (f : Contents) × (slice_get fronts worker ≡ Some f) × (log ≡ at_rest f)
front_there s fronts worker log rest there =
    map_place at_rest fronts worker log (subst (λ (ls : List LogNow). slice_get ls worker ≡ Some log) rest there)

log_there : (s : Store) (fronts : List Contents) (worker : ℕ) (f : Contents) → s.logs ≡ map at_rest fronts → slice_get fronts worker ≡ Some f
    → HasLog s worker (at_rest f)
log_there s fronts worker f rest there =
    subst (λ (ls : List LogNow). slice_get ls worker ≡ Some (at_rest f)) (sym rest) (place_map at_rest fronts worker f there)

-- that history is what is left, by one number
left_of : (low high n : ℕ) (voids : List Numbers) → low ≤ high →
    (not (is_void voids n) && not (ltb low n)) ≡ (not (ltb high n) && not (is_void ((low, high) ∷ voids) n))
left_of low high n voids le = by (ltb low n) (ltb high n) (is_void voids n) refl refl
  where
    by : (a b v : Bool) → ltb low n ≡ a → ltb high n ≡ b → (not v && not a) ≡ (not b && not ((a && not b) || v))
    by false false true p q = refl
    by false false false p q = refl
    by false true v p q = absurd (omega (arith, ltb-false low n p, ltb-true high n q, le))
    by true false true p q = refl
    by true false false p q = refl
    by true true true p q = refl
    by true true false p q = refl

live_before : (low high n : ℕ) (voids : List Numbers) → is_void ((low, high) ∷ voids) n ≡ false → is_void voids n ≡ false
live_before low high n voids live = (or_parts _ _ live).1

abbrev low_of : List Numbers → ℕ
low_of [] = 0
low_of (v ∷ vs) = v.0

-- the number from which a store goes on is at least each that a file tells, and one of them
pub upto_resume : (f : Contents) (fronts : List Contents) (read : Slots) → In f fronts → mark_of f ≤ resume_of fronts read
upto_resume f fronts read at = omega (arith, upto_last f fronts at)

walked_in : (c : CheckpointView) (read : Slots) → In (Some c) read → In c.to (checkpoint_ends read)
walked_in c [] at = absurd at
walked_in c (None ∷ read) (inl e) = absurd (no_some c (sym e))
walked_in c (None ∷ read) (inr at) = walked_in c read at
walked_in c (Some d ∷ read) (inl e) = inl (ap (λ (x : CheckpointView). x.to) (same_Some c d e))
walked_in c (Some d ∷ read) (inr at) = inr (walked_in c read at)

in_walked : (n : ℕ) (read : Slots) → In n (checkpoint_ends read) → (c : CheckpointView) × In (Some c) read × (n ≡ c.to)
in_walked n [] at = absurd at
in_walked n (None ∷ read) at = let rest = in_walked n read at in (rest.0, inr rest.1, rest.2)
in_walked n (Some d ∷ read) (inl e) = (d, inl refl, e)
in_walked n (Some d ∷ read) (inr at) = let rest = in_walked n read at in (rest.0, inr rest.1, rest.2)

pub walked_upto : (c : CheckpointView) (fronts : List Contents) (read : Slots) → In (Some c) read → c.to ≤ resume_of fronts read
walked_upto c fronts read at = omega (arith, below_greatest c.to (checkpoint_ends read) (walked_in c read at))

-- what a slot that was read has
slot_there : (s : Store) (read : Slots) (k : ℕ) (slot : SlotNow) → s.slots ≡ map only_this read → slice_get s.slots k ≡ Some slot
    → (x : Option CheckpointView) × (slice_get read k ≡ Some x) × (slot ≡ only_this x)
slot_there s read k slot rest there = map_place only_this read k slot (subst (λ (ls : List SlotNow). slice_get ls k ≡ Some slot) rest there)

there_slot : (s : Store) (read : Slots) (k : ℕ) (x : Option CheckpointView) → s.slots ≡ map only_this read → slice_get read k ≡ Some x
    → slice_get s.slots k ≡ Some (only_this x)
there_slot s read k x rest there = subst (λ (ls : List SlotNow). slice_get ls k ≡ Some (only_this x)) (sym rest) (place_map only_this read k x there)

in_only : (x y : Option CheckpointView) → In x (only_this y) → x ≡ y
in_only x y (inl e) = e
in_only x y (inr none) = absurd none

pub recovers : (old new : Store) → IsStore old → Recovers old new → IsStore new
recovers old new is h = subst IsStore (sym h.stands) (record {
  rises = rise_filter (λ p. not (ltb last p.change.stamp)) 0 old.placed is.rises;
  made = λ p at. ltb-false last p.change.stamp (not-true _ (in_filter (λ (q : Placed). not (ltb last q.change.stamp)) p old.placed at).1);
  workers = λ p at. is.workers p (in_filter (λ (q : Placed). not (ltb last q.change.stamp)) p old.placed at).0;
  left = ap (upto cutoff) is.left ∙ filter_filter (λ p. not (ltb cutoff p.change.stamp)) (λ p. not (is_void old.voids p.change.stamp)) old.placed
      ∙ filter_same _ _ old.placed (λ p at. left_of cutoff last p.change.stamp old.voids in_order)
      ∙ sym (filter_filter (λ p. not (is_void ((cutoff, last) ∷ old.voids) p.change.stamp)) (λ p. not (ltb last p.change.stamp)) old.placed);
  gone = λ n void. ⊎_elim (λ two. two.1) (λ before. omega (arith, is.gone n before, goes_on)) (void_cases cutoff last n old.voids void);
  beyond = omega arith;
  logs = λ worker log there left may.
      let f = front_there old h.fronts worker log h.rest there in
      let e = left_at_rest f.0 left (subst (λ (l : LogNow). MayLeaveFront l left) f.2 may) in
      subst (λ (x : Contents). IsFrontOf after worker x) (sym e) (front worker f.0 f.1);
  guards = λ n void. ⊎_elim (λ two. least_guards n two.0) (λ before. is.guards n before) (void_cases cutoff last n old.voids void);
  some = is.some;
  top = top;
  slots = λ k slot there c at. slot_kept k slot there c at;
  low = λ off kept before e worker log there left may.
      let f = front_there old h.fronts worker log h.rest there in
      let same = left_at_rest f.0 left (subst (λ (l : LogNow). MayLeaveFront l left) f.2 may) in
      omega (arith, ap (λ (vs : List Numbers). low_of vs) e, from_cutoff f.0 h.fronts (place_in f.0 worker h.fronts f.1), ap mark_of same);
  whole = λ on. absurd (true≢false (sym on));
  held = λ on. absurd (true≢false (sym on));
  level = is.level;
})
  where
    cutoff : ℕ
    cutoff = cutoff_of h.fronts

    last : ℕ
    last = resume_of h.fronts h.read

    after : Store
    after = record {
      steps = resume_of h.fronts h.read;
      history = upto (cutoff_of h.fronts) old.history;
      logs = old.logs;
      slots = old.slots;
      serving = false;
      placed = upto (resume_of h.fronts h.read) old.placed;
      voids = (cutoff_of h.fronts, resume_of h.fronts h.read) ∷ old.voids;
      reached = resume_of h.fronts h.read;
    }

    in_order : cutoff_of h.fronts ≤ resume_of h.fronts h.read
    in_order = omega (arith, cutoff_upto_last h.fronts)

    some : 0 < length h.fronts
    some = let l = within_place old.logs 0 is.some in let f = front_there old h.fronts 0 l.0 h.rest l.1 in
        omega (arith, slice_get_within h.fronts 0 f.0 f.1)

    goes_on : old.reached ≤ resume_of h.fronts h.read
    goes_on = ⊎_elim
        (λ g. let f = front_there old h.fronts g.0 g.1 h.rest g.2 in
        omega (
          arith,
          g.3 f.0 (subst (λ (l : LogNow). MayLeaveFront l f.0) (sym f.2) (inl refl)),
          upto_resume f.0 h.fronts h.read (place_in f.0 g.0 h.fronts f.1),
        ))
        (λ g. let x = slot_there old h.read g.1 g.2 h.rest_slots g.3 in
        let c = g.4 x.0 (subst (In x.0) (sym x.2) (inl refl)) in
        omega (arith, c.2, walked_upto c.0 h.fronts h.read (subst (λ (y : Option CheckpointView). In y h.read) c.1 (place_in x.0 g.1 h.read x.1))))
        is.top

    front : (worker : ℕ) (f : Contents) → slice_get h.fronts worker ≡ Some f → IsFrontOf after worker f
    front worker f there =
        let was = is.logs worker (at_rest f) (log_there old h.fronts worker f h.rest there) f (inl refl) in
        let within = upto_resume f h.fronts h.read (place_in f worker h.fronts there) in
        record {
          contents = was.contents;
          joins = was.joins;
          owner = was.owner;
          whole = was.whole;
          has = λ r at upto live. was.has r
              (in_filter (λ (q : Placed). not (ltb (resume_of h.fronts h.read) q.change.stamp)) (by_worker worker r) old.placed at).0 upto
              (live_before (cutoff_of h.fronts) (resume_of h.fronts h.read) r.stamp old.voids live);
          only =
              λ r at. filter_in (λ (q : Placed). not (ltb (resume_of h.fronts h.read) q.change.stamp)) (by_worker worker r) old.placed (was.only r at)
              (not_from_false _ (le-ltb (resume_of h.fronts h.read) r.stamp (omega (arith, within, stamp_upto_mark f.start f.batches r was.joins at))));
          voids = λ n void. void_later (cutoff_of h.fronts, resume_of h.fronts h.read) n old.voids (was.voids n void);
          made = within;
          resumed = λ n at. omega (arith, was.resumed n at, goes_on);
        }

    least_guards : (n : ℕ) → cutoff_of h.fronts < n → (worker : ℕ) × (log : LogNow) × HasLog after worker log × Guards n log
    least_guards n over =
        let f = ends_cutoff h.fronts some in
        let k = in_place f.0 h.fronts f.1 in (
          k.0,
          at_rest f.0,
          log_there old h.fronts k.0 f.0 h.rest k.1,
          λ left may. inl (omega (arith, over, f.2, ap mark_of (left_at_rest f.0 left may))),
        )

    top : HasTopLog after ⊎ HasTopSlot after
    top = by (checkpoint_ends h.read) refl (ltb (last_end h.fronts) (resume_of h.fronts h.read)) refl
      where
        by : (ns : List ℕ) → checkpoint_ends h.read ≡ ns → (b : Bool) → ltb (last_end h.fronts) (resume_of h.fronts h.read) ≡ b
            → HasTopLog after ⊎ HasTopSlot after
        by ns is_ns false no_later =
            let f = ends_last h.fronts some in
            let k = in_place f.0 h.fronts f.1 in
            inl (
              k.0,
              at_rest f.0,
              log_there old h.fronts k.0 f.0 h.rest k.1,
              λ left may. omega (
                arith,
                f.2,
                ap mark_of (left_at_rest f.0 left may),
                ltb-false (last_end h.fronts) (resume_of h.fronts h.read) no_later,
              ),
            )
        by [] is_ns true later = absurd (omega (arith, ltb-true (last_end h.fronts) (resume_of h.fronts h.read) later, ap greatest is_ns))
        by (n ∷ ns) is_ns true later =
            let c = in_walked (greatest (checkpoint_ends h.read)) h.read (subst (λ (l : List ℕ). In (greatest l) l) (sym is_ns) (greatest_in n ns)) in
            let k = in_place (Some c.0) h.read c.1 in
            inr (
              refl,
              k.0,
              only_this (Some c.0),
              there_slot old h.read k.0 (Some c.0) h.rest_slots k.1,
              λ x at. (c.0, in_only x (Some c.0) at, omega (arith, c.2, ltb-true (last_end h.fronts) (resume_of h.fronts h.read) later)),
            )

    slot_kept : (k : ℕ) (slot : SlotNow) → slice_get old.slots k ≡ Some slot → (c : CheckpointView) → In (Some c) slot
        → IsCheckpointOf (resume_of h.fronts h.read) ((cutoff_of h.fronts, resume_of h.fronts h.read) ∷ old.voids)
        (upto (cutoff_of h.fronts) old.history) c
    slot_kept k slot there c at =
        let was = is.slots k slot there c at in
        let x = slot_there old h.read k slot h.rest_slots there in
        let same = in_only (Some c) x.0 (subst (In (Some c)) x.2 at) in
        let upto_last = walked_upto c h.fronts h.read (subst (λ (y : Option CheckpointView). In y h.read) (sym same) (place_in x.0 k h.read x.1)) in
        record {
          order = was.order;
          made = upto_last;
          base = ⊎_elim
              (λ void. inl (void_later (cutoff_of h.fronts, resume_of h.fronts h.read) c.to old.voids void))
              (λ base. ⊎_elim
              (λ over. inl (void_from (cutoff_of h.fronts) (resume_of h.fronts h.read) c.to old.voids over upto_last))
              (λ within. inr (base_upto c.from c.to (cutoff_of h.fronts) old.history c.pairs was.order within base))
              (cases_lt (cutoff_of h.fronts) c.to))
              was.base;
        }

-- ---- the store serves again

pub serves : (old new : Store) → IsStore old → Serves old new → IsStore new
serves old new is h = subst IsStore (sym h.stands) (record {
  rises = is.rises;
  made = is.made;
  workers = is.workers;
  left = is.left;
  gone = is.gone;
  beyond = is.beyond;
  logs = λ worker log there left may. let f = is.logs worker log there left may in
      record { contents = f.contents; joins = f.joins; owner = f.owner; whole = f.whole; has = f.has; only = f.only; voids = f.voids; made = f.made; resumed = f.resumed };
  guards = is.guards;
  some = is.some;
  top = inl first;
  slots = is.slots;
  low = λ off. absurd (true≢false off);
  whole = λ on. all;
  held = λ on over. all_held;
  level = is.level;
})
  where
    all_held : (worker : ℕ) (log : LogNow) → HasLog old worker log → Holds old.reached log
    all_held worker log there left may =
        let f = front_there old h.fronts worker log h.rest there in
        let e = left_at_rest f.0 left (subst (λ (l : LogNow). MayLeaveFront l left) f.2 may) in
        subst (λ (x : Contents). HoldResume old.reached x.batches) (sym e)
        (all_at (λ (x : Contents). HoldResume old.reached x.batches) f.0 h.fronts
        (recursion_from_All (λ (x : Contents). HoldResume old.reached x.batches) h.fronts h.resumed) (place_in f.0 worker h.fronts f.1))

    all : (worker : ℕ) (log : LogNow) → HasLog old worker log → Reaches old.reached log
    all worker log there left may =
        resume_upto_mark old.reached left.start left.batches (is.logs worker log there left may).joins (all_held worker log there left may)

    first : HasTopLog (record old { serving = true })
    first = let l = within_place old.logs 0 is.some in (0, l.0, l.1, all 0 l.0 l.1)
