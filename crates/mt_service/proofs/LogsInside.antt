-- Logs that had turns held to something all the time, if they do in the end and did before each turn after which they do.
use Rattle.std.proofs.Common.{◌+◌, ◌++◌, inl, inr, ℕ, zero, suc, List, [], ◌∷◌, length, Result, Ok, Err, subst}
use Rattle.mt_rows.specs.declared.refusal.Refusal.{Refusal}
use Rattle.mt_options.specs.declared.tenants.TenantQuota.{TenantQuota}
use Rattle.mt_store_logs.specs.declared.standing.Generations.{Generations}
use Rattle.mt_settle.specs.{Turns.{Turn, BroughtUp, BegunNext, GivenUp, Chain}, Settles.{turns_from, Settles}}
use Rattle.mt_settle.specs.{Next.{Tell, TellAll, TellsNext}, Parts.{EachOf, StopsAt, BeginsOne, BeginsNone, TellsBegun, GivesUpOne, GivesUpNone, TellsGivenUp}}
use Rattle.mt_stored.specs.{Digests.DigestCall, TurnParts.{Begins, StopsAtLogs, StopsAtDigests, StopsBeginning, ClearsAndGivesUp, TellsOlder, SettlesNotAll, TellsEnd}}
use Rattle.mt_stored.specs.{declared.turns.TurnStop.TurnStop, declared.turns.TurnStop.TheVariants.{Checkpoint, Digest, Logs}, declared.digests.Digested.TheVariants.{OfLogs, OfSlot}}
use Rattle.mt_service.specs.{Sessions.Within, Turning.{SettlesOwed, TellsReady}}

module _ {K : Type 0} (does : K → Turn → K → Type 0) (Front : K → Type 0) (before : (old : K) (turn : Turn) (new : K) → does old turn new → Front new → Front old) where
  abbrev Inside : K → Turn → K → Type 0
  Inside = Within Front does

  chain_inside : (old : K) (turns : List Turn) (new : K) → Chain does old turns new → Front new → Chain Inside old turns new × Front old
  chain_inside old [] new c front = (c, subst Front c front)
  chain_inside old (turn ∷ turns) new c front =
      let later = chain_inside c.0 turns new c.2 front in
      ((c.0, (c.1, later.1), later.0), before old turn c.0 c.1 later.1)

  pub settles_inside : (count : ℕ) (old new : K) (told : Result ℕ Refusal) → Settles does count old new told → Front new → Settles Inside count old new told × Front old
  settles_inside count old new (Ok n) s front =
      let chain = chain_inside old (turns_from 0 s.marks) new s.turns front in
      (record { marks = s.marks; all = s.all; turns = chain.0; least = s.least }, chain.1)
  settles_inside count old new (Err refusal) (inl none) front = (inl none, subst Front none.2 front)
  settles_inside count old new (Err refusal) (inr s) front =
      let chain = chain_inside old (turns_from 0 s.marks ++ BroughtUp (length s.marks) (Err refusal) ∷ []) new s.turns front in
      (inr (record { marks = s.marks; before = s.before; turns = chain.0 }), chain.1)

  -- ---- what the logs tell of their generations

  tell_inside : (log : ℕ) (told : List Generations) (logs : K) → Tell does log told logs → Front logs → Tell Inside log told logs
  tell_inside log [] logs t front = tt
  tell_inside log (g ∷ told) logs t front = ((t.0, front), tell_inside (log + 1) told logs t.1 front)

  all_inside : (count : ℕ) (told : List Generations) (logs : K) → TellAll does count told logs → Front logs → TellAll Inside count told logs
  all_inside count told logs t front = record { all = t.all; tell = tell_inside 0 told logs t.tell front }

  next_inside : (count : ℕ) (logs : K) (result : Result ℕ Refusal) → TellsNext does count logs result → Front logs → TellsNext Inside count logs result
  next_inside count logs (Ok next) (told, all, is) front = (told, all_inside count told logs all front, is)
  next_inside count logs (Err refusal) (inl none) front = inl none
  next_inside count logs (Err refusal) (inr (inl stops)) front = inr (inl (record { log = stops.log; there = stops.there; refuses = (stops.refuses, front) }))
  next_inside count logs (Err refusal) (inr (inr (spent, told, all, last))) front = inr (inr (spent, told, all_inside count told logs all front, last))

  -- ---- what was done to each log

  each_inside : (Does DoesInside : ℕ → K → K → Type 0) → ((log : ℕ) (old new : K) → Does log old new → Front new → DoesInside log old new × Front old)
      → (count : ℕ) (old new : K) → EachOf Does count old new → Front new → EachOf DoesInside count old new × Front old
  each_inside Does DoesInside one zero old new e front = (e, subst Front e front)
  each_inside Does DoesInside one (suc log) old new e front =
      let here = one log e.0 new e.2 front in
      let earlier = each_inside Does DoesInside one log old e.0 e.1 here.1 in
      ((e.0, earlier.0, here.0), earlier.1)

  stops_inside : (Does DoesInside Refuses RefusesInside : ℕ → K → K → Type 0)
      → ((log : ℕ) (old new : K) → Does log old new → Front new → DoesInside log old new × Front old)
      → ((log : ℕ) (old new : K) → Refuses log old new → Front new → RefusesInside log old new × Front old)
      → (count : ℕ) (old new : K) → StopsAt Does Refuses count old new → Front new → StopsAt DoesInside RefusesInside count old new × Front old
  stops_inside Does DoesInside Refuses RefusesInside one none count old new s front =
      let here = none s.log s.mid new s.refuses front in
      let earlier = each_inside Does DoesInside one s.log old s.mid s.before here.1 in
      (record { log = s.log; there = s.there; mid = s.mid; before = earlier.0; refuses = here.0 }, earlier.1)

  begins_one : (generation log : ℕ) (old new : K) → BeginsOne does generation log old new → Front new → BeginsOne Inside generation log old new × Front old
  begins_one generation log old new (mark, d) front = ((mark, (d, front)), before old (BegunNext log generation (Ok mark)) new d front)

  begins_none : (generation : ℕ) (refusal : Refusal) (log : ℕ) (old new : K) → BeginsNone does generation refusal log old new → Front new
      → BeginsNone Inside generation refusal log old new × Front old
  begins_none generation refusal log old new d front = ((d, front), before old (BegunNext log generation (Err refusal)) new d front)

  begun_inside : (generation count : ℕ) (old new : K) (told : Result (Unit {0}) Refusal) → TellsBegun does generation count old new told → Front new
      → TellsBegun Inside generation count old new told × Front old
  begun_inside generation count old new (Ok u) e front =
      each_inside (BeginsOne does generation) (BeginsOne Inside generation) (begins_one generation) count old new e front
  begun_inside generation count old new (Err refusal) s front =
      stops_inside (BeginsOne does generation) (BeginsOne Inside generation) (BeginsNone does generation refusal) (BeginsNone Inside generation refusal)
      (begins_one generation) (begins_none generation refusal) count old new s front

  gives_up_one : (log : ℕ) (old new : K) → GivesUpOne does log old new → Front new → GivesUpOne Inside log old new × Front old
  gives_up_one log old new d front = ((d, front), before old (GivenUp log (Ok tt)) new d front)

  gives_up_none : (refusal : Refusal) (log : ℕ) (old new : K) → GivesUpNone does refusal log old new → Front new → GivesUpNone Inside refusal log old new × Front old
  gives_up_none refusal log old new d front = ((d, front), before old (GivenUp log (Err refusal)) new d front)

  given_up_inside : (count : ℕ) (old new : K) (told : Result (Unit {0}) Refusal) → TellsGivenUp does count old new told → Front new
      → TellsGivenUp Inside count old new told × Front old
  given_up_inside count old new (Ok u) e front = each_inside (GivesUpOne does) (GivesUpOne Inside) gives_up_one count old new e front
  given_up_inside count old new (Err refusal) s front =
      stops_inside (GivesUpOne does) (GivesUpOne Inside) (GivesUpNone does refusal) (GivesUpNone Inside refusal) gives_up_one (gives_up_none refusal) count old new s front

  -- ---- what is settled before a turn

  pub owed_inside : (count : K → ℕ) (settled owed : ℕ) (old : K) (told : Result ℕ Refusal) (new : K) → SettlesOwed does count settled owed old told new → Front new
      → SettlesOwed Inside count settled owed old told new × Front old
  owed_inside count settled owed old told new (inl known) front = (inl known, subst Front known.2 front)
  owed_inside count settled owed old told new (inr (less, settles)) front =
      let here = settles_inside (count old) old new told settles front in
      (inr (less, here.0), here.1)

  pub unready_inside : (count : K → ℕ) (tenants : List TenantQuota) (settled owed : ℕ) (old : K) (refusal : Refusal) (new : K)
      → TellsReady does count tenants settled owed old (Err refusal) new → Front new → TellsReady Inside count tenants settled owed old (Err refusal) new × Front old
  unready_inside count tenants settled owed old refusal new (told, settles, way) front =
      let here = owed_inside count settled owed old told new settles front in
      ((told, here.0, way), here.1)

  -- ---- the parts of a turn

  module _ {G : Type 0} (calls : G → DigestCall → G → Type 0) (count generation : ℕ) where
    pub begins_inside : (closed : ℕ) (old : K) (was : G) (new : K) (is : G) → Begins does calls count generation closed old was new is → Front new
        → Begins Inside calls count generation closed old was new is × Front old
    begins_inside closed old was new is b front =
        let begun = begun_inside generation count old new (Ok tt) b.then.0 front in (
          record {
            next = next_inside count old (Ok generation) b.next begun.1;
            cleared = b.cleared;
            clears = b.clears;
            then = (begun.0, b.then.1, b.then.2);
          },
          begun.1,
        )

    at_logs_inside : (refusal : Refusal) (old : K) (was : G) (new : K) (is : G) → StopsAtLogs does calls count generation refusal old was new is → Front new
        → StopsAtLogs Inside calls count generation refusal old was new is × Front old
    at_logs_inside refusal old was new is (inl (inl next, same, kept)) front =
        let there = subst Front same front in
        (inl (inl (next_inside count old (Err refusal) next there), same, kept), there)
    at_logs_inside refusal old was new is (inl (inr (which, other, next, differs), same, kept)) front =
        let there = subst Front same front in
        (inl (inr (which, other, next_inside count old (Ok other) next there, differs), same, kept), there)
    at_logs_inside refusal old was new is (inr b) front =
        let begun = begun_inside generation count old new (Err refusal) b.then.0 front in (
          inr (record {
            next = next_inside count old (Ok generation) b.next begun.1;
            cleared = b.cleared;
            clears = b.clears;
            then = (begun.0, b.then.1);
          }),
          begun.1,
        )

    at_digests_inside : (g : ℕ) (refusal : Refusal) (old : K) (was : G) (new : K) (is : G) → StopsAtDigests does calls count generation g refusal old was new is → Front new
        → StopsAtDigests Inside calls count generation g refusal old was new is × Front old
    at_digests_inside g refusal old was new is (inl (which, next, clears, same)) front =
        let there = subst Front same front in
        (inl (which, next_inside count old (Ok generation) next there, clears, same), there)
    at_digests_inside g refusal old was new is (inr b) front =
        let begun = begun_inside generation count old new (Ok tt) b.then.0 front in (
          inr (record {
            next = next_inside count old (Ok generation) b.next begun.1;
            cleared = b.cleared;
            clears = b.clears;
            then = (begun.0, b.then.1, b.then.2);
          }),
          begun.1,
        )

    pub stops_beginning_inside : (stop : TurnStop) (old : K) (was : G) (new : K) (is : G) → StopsBeginning does calls count generation stop old was new is → Front new
        → StopsBeginning Inside calls count generation stop old was new is × Front old
    stops_beginning_inside (Logs refusal) old was new is s front = at_logs_inside refusal old was new is s front
    stops_beginning_inside (Digest (OfLogs g) refusal) old was new is s front = at_digests_inside g refusal old was new is s front
    stops_beginning_inside (Digest (OfSlot slot) refusal) old was new is s front = absurd s
    stops_beginning_inside (Checkpoint stop) old was new is s front = absurd s

    module _ (owed closed : ℕ) where
      gives_inside : (told : Result (Unit {0}) Refusal) (old : K) (was : G) (new : K) (is : G) → ClearsAndGivesUp does calls count owed closed told old was new is → Front new
          → ClearsAndGivesUp Inside calls count owed closed told old was new is × Front old
      gives_inside told old was new is c front =
          let gives = given_up_inside count old new told c.gives front in
          (record { clears = c.clears; gives = gives.0 }, gives.1)

      older_inside : (number : ℕ) (old : K) (was : G) (new : K) (is : G) (told : Result (Unit {0}) TurnStop) → TellsOlder does calls count owed closed number old was new is told → Front new
          → TellsOlder Inside calls count owed closed number old was new is told × Front old
      older_inside number old was new is (Ok u) (enough, gives) front =
          let here = gives_inside (Ok tt) old was new is gives front in
          ((enough, here.0), here.1)
      older_inside number old was new is (Err (Logs refusal)) (inl few) front = (inl few, subst Front few.2 front)
      older_inside number old was new is (Err (Logs refusal)) (inr (enough, gives)) front =
          let here = gives_inside (Err refusal) old was new is gives front in
          (inr (enough, here.0), here.1)
      older_inside number old was new is (Err (Digest (OfLogs g) refusal)) t front = (t, subst Front t.3 front)
      older_inside number old was new is (Err (Digest (OfSlot slot) refusal)) t front = absurd t
      older_inside number old was new is (Err (Checkpoint stop)) t front = absurd t

      not_all_inside : (told : Result (Unit {0}) TurnStop) (old : K) (was : G) (new : K) (is : G) → SettlesNotAll does calls count owed closed told old was new is → Front new
          → SettlesNotAll Inside calls count owed closed told old was new is × Front old
      not_all_inside (Err (Logs refusal)) old was new is (settles, same) front =
          let here = settles_inside count old new (Err refusal) settles front in
          ((here.0, same), here.1)
      not_all_inside (Err (Digest what refusal)) old was new is t front = absurd t
      not_all_inside (Err (Checkpoint stop)) old was new is t front = absurd t
      not_all_inside (Ok u) old was new is t front = absurd t

      pub ends_inside : (old : K) (was : G) (new : K) (is : G) (told : Result (Unit {0}) TurnStop) → TellsEnd does calls count owed closed old was new is told → Front new
          → TellsEnd Inside calls count owed closed old was new is told × Front old
      ends_inside old was new is told (inl none) front =
          let here = not_all_inside told old was new is none front in
          (inl here.0, here.1)
      ends_inside old was new is told (inr s) front =
          let older = older_inside s.number s.settled was new is told s.older front in
          let settles = settles_inside count old s.settled (Ok s.number) s.settles older.1 in
          (inr (record { settled = s.settled; number = s.number; settles = settles.0; older = older.0 }), settles.1)
