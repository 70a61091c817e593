-- What the beginning, a turn and the end of a Settle make of all that holds of a store, and what is noted of them.
use Rattle.std.proofs.Common.{◌≡◌, ◌≢◌, ◌⊎◌, ℕ, ◌+◌, ◌<◌, ◌≤◌, min, max, true, false, cond, List, length, Option, Some, None, is_some, Less, Equal, Greater, Ordering, refl, sym, ap, subst, ◌∙◌, arith, inl, inr, ⊎_elim}
use Rattle.std.proofs.lemmas.Bool.{cases_eq, eq-eqb, ne_eqb}
use Rattle.std.specs.{Ordering.{nat_cmp, is_eq}, FinMap.nat_cmp-IsAntisymmetric, BTreeMap.{BTreeMap, get, Updates}}
use Rattle.mt_rows.specs.Accounts.{Accounts}
use Rattle.mt_disk.specs.declared.mem.MemDisk.{MemDisk}
use Rattle.mt_lives.specs.declared.live_slots.LiveSlots.{LiveSlots}
use Rattle.mt_core.specs.Tickets.{named}
use Rattle.mt_state.specs.Histories.{AreById}
use Rattle.mt_crashes.specs.Stores.{Store, ReachesAt, AllReach}
use Rattle.mt_store_logs.specs.declared.store_log.StoreLog.{StoreLog}
use Rattle.mt_lives.specs.{declared.events.StoreEvent.TheVariants.{SettleBegin, SettleNext}, declared.events.StoreNote.TheVariants.{Begun, Turned, Settled}}
use Rattle.mt_lives.specs.{declared.serving.Serving.Serving, declared.serving.Settle.Settle}
use Rattle.mt_lives.specs.Lives.{Life, Past, Standing, with_settle, settling, settled_by, steps_in, IsNoted}
use Rattle.mt_lives.specs.{Holds.{quotas_of, Serves, IsSettle, IsSettleIn, AreSettles, HoldsServing, HoldsNow, Holds}, Steps.one_turn_more}
use Rattle.mt_lives.proofs.{Served.last, Flushing.within, Logged.EachAt, Noting.{life_served, lives_so, held}}

-- ---- the map of the Settles

other_key : (o q : ℕ) → q ≢ o → is_eq (nat_cmp o q) ≡ false
other_key o q ne = by (nat_cmp o q) refl
  where
    by : (w : Ordering) → nat_cmp o q ≡ w → is_eq w ≡ false
    by Less e = refl
    by Equal e = absurd (ne (sym (nat_cmp-IsAntisymmetric o q e)))
    by Greater e = refl

-- one of them has changed
one_changed : (s : Store) (begun now_begun : ℕ → Option ℕ) (old new : BTreeMap ℕ Settle) (id : ℕ) (at : Option ℕ) (settle : Option Settle) → AreSettles s begun old
    → Updates nat_cmp old new id settle → IsSettleIn s at settle → now_begun id ≡ at → ((q : ℕ) → q ≢ id → now_begun q ≡ begun q) → AreSettles s now_begun new
one_changed s begun now_begun old new id at settle all u is here others q = by (cases_eq q id)
  where
    by : (q ≡ id) ⊎ (q ≢ id) → IsSettleIn s (now_begun q) (get nat_cmp new q)
    by (inl same) =
        subst (λ o. IsSettleIn s o (get nat_cmp new q)) (sym (ap now_begun same ∙ here))
        (subst (IsSettleIn s at) (sym (ap (get nat_cmp new) same ∙ u.1)) is)
    by (inr other) =
        subst (λ o. IsSettleIn s o (get nat_cmp new q)) (sym (others q other))
        (subst (IsSettleIn s (begun q)) (sym (u.2 q (other_key id q other))) (all q))

changed_to : (s : Store) (begun : ℕ → Option ℕ) (old new : BTreeMap ℕ Settle) (id : ℕ) (at : Option ℕ) (settle : Option Settle) → AreSettles s begun old
    → Updates nat_cmp old new id settle → IsSettleIn s at settle → AreSettles s (with_settle id at begun) new
changed_to s begun old new id at settle all u is =
    one_changed s begun (with_settle id at begun) old new id at settle all u is
    (ap (λ t. cond t at (begun id)) (eq-eqb id id refl))
    (λ q other. ap (λ t. cond t at (begun q)) (ne_eqb q id other))

pub an_entry : (settle : Option Settle) → is_some settle ≡ true → (s : Settle) × (settle ≡ Some s)
an_entry (Some s) some = (s, refl)
an_entry None some = absurd cc

pub no_entry : (settle : Option Settle) → is_some settle ≡ false → settle ≡ None
no_entry None none = refl
no_entry (Some settle) none = absurd cc

-- one that is open has begun
begun_in : (s : Store) (begun : Option ℕ) (settle : Settle) → IsSettleIn s begun (Some settle) → (number : ℕ) × (begun ≡ Some number) × IsSettle s number settle
begun_in s (Some number) settle is = (number, refl, is)
begun_in s None settle is = absurd is

none_in : (s : Store) (begun : Option ℕ) → IsSettleIn s begun None → begun ≡ None
none_in s None is = refl
none_in s (Some number) is = absurd is

-- ---- numbers

reaches_less : (m n worker : ℕ) (s : Store) → m ≤ n → ReachesAt n s worker → ReachesAt m s worker
reaches_less m n worker s le reach log there front left = let r = reach log there front left in omega (arith, le, r)

-- one log more goes up to a step, and so all of them up to the least one
more_reach : (s : Store) (settle : Settle) (number mark : ℕ) → IsSettle s number settle → ReachesAt mark s settle.next → (worker : ℕ) → worker < settle.next + 1
    → ReachesAt (min settle.least mark) s worker
more_reach s settle number mark is reach worker lt = ⊎_elim
    (λ same. subst (λ w. ReachesAt (min settle.least mark) s w) (sym same) (reaches_less (min settle.least mark) mark settle.next s (omega arith) reach))
    (λ other. reaches_less (min settle.least mark) settle.least worker s (omega arith) (is.before worker (omega (arith, lt, other))))
    (cases_eq worker settle.next)

pub reaches_both : (m n worker : ℕ) (s : Store) → ReachesAt m s worker → ReachesAt n s worker → ReachesAt (max m n) s worker
reaches_both m n worker s a b log there front left = let r = a log there front left in let q = b log there front left in omega (arith, r, q)

-- ---- the store

module _ (accounts : Accounts) (slots : LiveSlots) (standing : Standing) (logs : List (StoreLog MemDisk)) (serving : Serving) (h : Holds accounts slots standing logs (Some serving))
    (now : Serving) (state : now.state ≡ serving.state) (roster : now.roster ≡ serving.roster) (generation : now.generation ≡ serving.generation) (id : ℕ) where
  life : Life
  life = life_served accounts slots standing logs serving h

  was : HoldsServing h.from h.turning accounts standing.begun life h.s logs serving
  unfolding life
  was = held accounts slots standing logs serving h

  steps_so : steps_in life ≡ h.s.steps
  steps_so = last accounts life h.s serving.state (named serving.roster.tickets) was.serves ∙ was.serves.steps

  lives : standing.now ≡ Rattle.std.proofs.Common.Ok life
  unfolding life
  lives = lives_so accounts slots standing logs serving h

  -- all of it holds with other Settles
  pub resettled : (begun : ℕ → Option ℕ) (number : ℕ) → AllReach number h.s → AreSettles h.s begun now.settles
      → Holds accounts slots (record { begun = begun; settled = number; check = standing.check; now = standing.now }) logs (Some now)
  resettled begun number reach settles = record {
    s = h.s;
    from = h.from;
    turning = h.turning;
    some = h.some;
    few = h.few;
    come = h.come;
    count = h.count;
    stand = h.stand;
    base = h.base;
    settled = reach;
    keeps = h.keeps;
    now =
        subst (λ (n : Rattle.std.proofs.Common.Result Life Past). HoldsNow h.from h.turning accounts begun n h.s logs (Some now)) (sym lives)
        (record {
          serves =
              subst (λ r. Serves accounts life h.s now.state (named r.tickets)) (sym roster)
              (subst (λ v. Serves accounts life h.s v (named serving.roster.tickets)) (sym state) was.serves);
          by_id = subst (λ r. AreById r.names (named r.tickets)) (sym roster) was.by_id;
          each = subst (λ v. EachAt h.from h.turning h.s v.logs logs) (sym state) was.each;
          turns_to = generation ∙ was.turns_to;
          settles = settles;
        });
  }

  -- none of this name is open
  pub not_open : get nat_cmp serving.settles id ≡ None → standing.begun id ≡ None
  not_open none = none_in h.s (standing.begun id) (subst (IsSettleIn h.s (standing.begun id)) none (was.settles id))

  -- a Settle has begun
  pub begins : (settle : Settle) → get nat_cmp serving.settles id ≡ None → settle.begun ≡ serving.state.steps → settle.next ≡ 0 → settle.begun ≤ settle.least
      → Updates nat_cmp serving.settles now.settles id (Some settle)
      → (next : Standing) × IsNoted (quotas_of accounts) standing (SettleBegin id) (Begun settle.begun) next × Holds accounts slots next logs (Some now)
  begins settle none begun first least u =
      let number : settle.begun ≡ h.s.steps = begun ∙ was.serves.steps in
      let is : IsSettle h.s settle.begun settle = record {
        same = refl;
        made = omega (arith, number);
        least = least;
        next = let some = h.some in let count = h.count in omega (arith, first, some, count);
        before = λ worker lt. absurd (omega (arith, lt, first));
      } in (
        settling id (Some settle.begun) standing,
        (life, lives, number ∙ sym steps_so, not_open none, refl),
        resettled (with_settle id (Some settle.begun) standing.begun) standing.settled h.settled
            (changed_to h.s standing.begun serving.settles now.settles id (Some settle.begun) (Some settle) was.settles u is),
      )

  module _ (settle : Settle) (there : get nat_cmp serving.settles id ≡ Some settle) where
    open_one : (number : ℕ) × (standing.begun id ≡ Some number) × IsSettle h.s number settle
    open_one = begun_in h.s (standing.begun id) settle (subst (IsSettleIn h.s (standing.begun id)) there (was.settles id))

    pub next_within : settle.next < length logs
    next_within = let lt = open_one.2.next in let count = h.count in omega (arith, lt, count)

    pub is_open : standing.begun id ≢ None
    is_open none = Rattle.mt_crashes.proofs.Members.no_some open_one.0 (sym none ∙ open_one.1)

    -- it has ended, without a number
    pub ends : Updates nat_cmp serving.settles now.settles id None → Holds accounts slots (settling id None standing) logs (Some now)
    ends u = resettled (with_settle id None standing.begun) standing.settled h.settled
        (changed_to h.s standing.begun serving.settles now.settles id None None was.settles u tt)

    -- its next log goes up to the last step
    module _ (mark : ℕ) (reach : ReachesAt mark h.s settle.next) (at_last : mark ≡ steps_in (life_served accounts slots standing logs serving h)) where
      upto : mark ≡ h.s.steps
      unfolding life
      upto = at_last ∙ steps_so

      pub turns : settle.next + 1 ≢ length logs → Updates nat_cmp serving.settles now.settles id (Some (one_turn_more settle mark))
          → (next : Standing) × IsNoted (quotas_of accounts) standing (SettleNext id) Turned next × Holds accounts slots next logs (Some now)
      turns more u =
          let is = open_one.2 in
          let new : IsSettle h.s open_one.0 (one_turn_more settle mark) = record {
            same = is.same;
            made = is.made;
            least = let made = is.made in let least = is.least in omega (arith, made, least, upto);
            next = let lt = is.next in let count = h.count in omega (arith, lt, count, more);
            before = more_reach h.s settle open_one.0 mark is reach;
          } in (
            standing,
            ((life, lives), is_open, refl),
            resettled standing.begun standing.settled h.settled
                (one_changed h.s standing.begun standing.begun serving.settles now.settles id (Some open_one.0) (Some (one_turn_more settle mark)) was.settles u new open_one.1 (λ q other. refl)),
          )

      pub settles : settle.next + 1 ≡ length logs → Updates nat_cmp serving.settles now.settles id None
          → (next : Standing) × IsNoted (quotas_of accounts) standing (SettleNext id) (Settled (min settle.least mark)) next × Holds accounts slots next logs (Some now)
      unfolding life
      settles end u =
          let is = open_one.2 in
          let number = min settle.least mark in
          let all : AllReach number h.s = λ worker log is_log.
          more_reach h.s settle open_one.0 mark is reach worker (let lt = within h.s.logs worker log is_log in let count = h.count in omega (arith, lt, count, end)) log is_log in (
            settled_by id number standing,
            (
              life,
              open_one.0,
              lives,
              open_one.1,
              (let made = is.made in let least = is.least in omega (arith, made, least, upto)),
              omega (arith, at_last),
              refl,
            ),
            resettled (with_settle id None standing.begun) (max standing.settled number) (λ worker. reaches_both standing.settled number worker h.s (h.settled worker) (all worker))
                (changed_to h.s standing.begun serving.settles now.settles id None None was.settles u tt),
          )
