-- What a window gives after what was taken before it.
use Rattle.std.proofs.Common.{◌≡◌, ◌⊎◌, inl, inr, ℕ, ◌+◌, ◌-◌, ◌^◌, ◌<◌, ◌≤◌, min, Bool, true, eqb, IsTrue, IfOk, List, ◌∷◌, ◌++◌, length, take, drop, Option, Some, None, Result, Ok, Err, refl, ◌∙◌, subst, arith}
use Rattle.std.proofs.{Math.Nat.{min-le_right, min-eq_left, min-eq_right}, lemmas.{Bool.{eqb-true, eq-eqb, cases_lt}, List.length-drop}}
use Rattle.mt_rows.specs.{Rows.Bytes, declared.record.TenantPair.TenantPair}
use Rattle.mt_disk.specs.Disk.{DiskState}
use Rattle.mt_checkpoint.specs.{declared.reader.Head.Head, declared.reader.Stop.Stop, declared.seen.SeenPairs.SeenPairs, declared.fault.ReadFault.ReadFault, Checkpoints.{Rise, Has}, Seen.HasSeen}
use Rattle.mt_checkpoint.specs.{Reading.Takes, Windows.{OfImage, IsHeadIn, StandBefore, StandsAfter, AreEntries, walk_from, TakesWindow, IsReadOpen, IsReadAfter}}
use Rattle.mt_checkpoint.proofs.{Takings.{each_joined, stands_on, stands_after, of_same}, Walks.{no_head, no_rise, this, not_this}, Rising.seen_walk}
use Rattle.mt_checkpoint.specs.declared.reader.Stop.TheVariants as stops

module _ {D : Type 0} (is_honest : D → Bool) (state : D → DiskState) (disk : D) (len place : ℕ) (here : place ≤ len) (head : Head) (window : Bytes)
    (size : length window ≡ min 262144 (len - place)) (told : OfImage is_honest state disk len (λ image. window ≡ take 262144 (drop place image)))
    (count : ℕ) (count_is : count ≡ length window) (pairs : List TenantPair) (used : ℕ) (stop : Stop) (taken : Takes head window (eqb count (len - place)) pairs used stop)
    (before : List TenantPair) (seen : SeenPairs) (are : AreEntries head before seen) where
  within : place + used ≤ len
  within =
      let few = taken.within in
      omega (arith, here, few, size, min-le_right 262144 (len - place))

  -- a window that isn't the last one is full
  some : stop ≡ stops.More → 1 ≤ used
  some e =
      let more = taken.some e in
      by more.0 more.1 (cases_lt (len - place) 262145)
    where
      by : (eqb count (len - place) ≡ true → ⊥) → length window < used + 16683 → (len - place < 262145) ⊎ (262145 ≤ len - place) → 1 ≤ used
      by not_whole few (inl lt) = absurd (not_whole (eq-eqb count (len - place) (count_is ∙ size ∙ min-eq_right (omega (arith, lt)))))
      by not_whole few (inr le) =
          let full : min 262144 (len - place) ≡ 262144 = min-eq_left (omega (arith, le)) in
          omega (arith, few, size, full)

  whole_ends : (image : Bytes) → len ≡ length image → eqb count (len - place) ≡ true → length window ≡ length (drop place image)
  whole_ends image has e = omega (arith, eqb-true count (len - place) e, count_is, has, length-drop place image)

  -- entries that rise after those before
  pub takes_rising : (new : List TenantPair) (next : SeenPairs) → new ≡ before ++ pairs → HasSeen new next → TakesWindow is_honest state disk len head place before new next used stop
  takes_rising new next is has_seen = rw is (record {
    within = within;
    some = some;
    entries = λ e. record { each = each_joined head before pairs are.each taken.each; has_seen = rw is at has_seen };
    told = λ honest has stand. stands_after head (state disk).image place 262144 window before (told honest has) stand (eqb count (len - place)) (whole_ends (state disk).image has) pairs used stop taken
        are.each;
  })

  -- and others
  pub takes_falling : (new : List TenantPair) (next : SeenPairs) → (Rise (before ++ pairs) → ⊥) → TakesWindow is_honest state disk len head place before new next used stops.Bad
  takes_falling new next wrong = record {
    within = within;
    some = λ e. absurd cc;
    entries = λ e. absurd (e refl);
    told = λ honest has stand at. no_rise (state disk).image head at (before ++ pairs) (each_joined head before pairs are.each taken.each) (drop (place + used) (state disk).image)
        (stands_on head (state disk).image place 262144 window before (told honest has) stand (eqb count (len - place)) (whole_ends (state disk).image has) pairs used stop taken).parts wrong;
  }

-- ---- what follows the entries so far

module _ {D : Type 0} (is_honest : D → Bool) (state : D → DiskState) (old now : D) (len place : ℕ) (same : IsTrue (is_honest old) → state now ≡ state old) (kept : is_honest now ≡ is_honest old)
    (head : Head) (before new : List TenantPair) (stand : OfImage is_honest state old len (λ image. StandBefore head place image before)) (seen : SeenPairs) (used : ℕ) (stop : Stop)
    (takes : TakesWindow is_honest state now len head place before new seen used stop) where
  told_of : (s : Stop) → stop ≡ s → OfImage is_honest state old len (λ image. StandsAfter head (place + used) image new s)
  told_of s e honest has = subst (StandsAfter head (place + used) (state old).image new) e
      (of_same is_honest state old len now same kept (λ image. StandBefore head place image before → StandsAfter head (place + used) image new stop) takes.told honest has (stand honest has))

  pub goes_on : stop ≡ stops.More → OfImage is_honest state old len (λ image. StandBefore head (place + used) image new)
  goes_on e = told_of stops.More e

  pub entries_on : stop ≡ stops.More → AreEntries head new seen
  entries_on e = takes.entries (λ bad. absurd cc)

  pub read_bad : stop ≡ stops.Bad → IsReadAfter is_honest state old len head None
  read_bad e = record { format = tt; told = λ honest has at behind opened. told_of stops.Bad e honest has at }

  module _ (last : ℕ) (e : stop ≡ stops.Last last) where
    are : AreEntries head new seen
    are = takes.entries (λ bad. absurd cc)

    abbrev May : Type 0
    May = (head.first ≤ last) × (last ≤ 2 ^ 59) × (seen.greatest ≤ last)

    -- a walk that may end so
    pub read_whole : May → IsReadAfter is_honest state old len head (Some (record { first = head.first; last = last; pairs = new }))
    read_whole may =
        let walk = seen_walk head.first last new seen are.has_seen may.0 may.1 may.2 in
        record { format = walk; told = λ honest has at behind opened. this (state old).image head at new are.each last (told_of (stops.Last last) e honest has) behind opened walk }

    -- and one that may not
    pub read_wrong : (May → ⊥) → IsReadAfter is_honest state old len head None
    read_wrong wrong = record { format = tt; told = λ honest has at behind opened. not_this (state old).image head at new are.each last (told_of (stops.Last last) e honest has) seen are wrong }

-- ---- after an open gate

module _ {D : Type 0} (is_honest : D → Bool) (state : D → DiskState) (old : D) (len : ℕ) (x : Option Head) (at : OfImage is_honest state old len (λ image. IsHeadIn image x)) where
  pub no_open : x ≡ None → IsReadOpen is_honest state old len None
  no_open e = record { format = tt; told = λ honest has behind opened. no_head (state old).image (subst (IsHeadIn (state old).image) e (at honest has)) }

  pub open_after : (head : Head) → x ≡ Some head → (mid : D) → (IsTrue (is_honest old) → state mid ≡ state old) → is_honest mid ≡ is_honest old → (pairs : List TenantPair) (r : Result (Option (ℕ × ℕ)) ReadFault)
      → IfOk r (λ steps. IsReadAfter is_honest state mid len head (walk_from pairs steps)) → IfOk r (λ steps. IsReadOpen is_honest state old len (walk_from pairs steps))
  open_after head e mid same kept pairs (Ok steps) is = record {
    format = is.format;
    told = λ honest has. of_same is_honest state old len mid same kept
        (λ image. IsHeadIn image (Some head) → (behind : Bytes) → image ≡ 1 ∷ behind → Has (walk_from pairs steps) image) is.told honest has (subst (IsHeadIn (state old).image) e (at honest has));
  }
  open_after head e mid same kept pairs (Err f) is = tt
