-- What a put leaves that runs alone in a state without other operations, and what counting anew leaves then: for `restored`.
use Rattle.std.proofs.Common.{◌≡◌, ◌≢◌, ℕ, zero, suc, ◌<◌, ◌≤◌, ◌⊎◌, inl, inr, Bool, true, false, cond, eqb, List, [], ◌∷◌, map, length, Option, Some, None, sym, refl, ap, subst, ◌∙◌, arith}
use Rattle.std.proofs.{lemmas.Bool.{cases_eq, eqb-true, eqb-false}, lemmas.List.{get_or-set_other, length-replicate}, lemmas.Option.{same_Some, none-some}}
use Rattle.std.specs.{Prelude.{replicate, slice_set}, Option.option_map, Ordering.eq_by_cmp, BTreeMap.BTreeMap}
use Rattle.mt_rows.specs.{declared.command.Command.TheVariants.Put, declared.record.TenantPair.TenantPair, declared.reply.Reply.Reply}
use Rattle.mt_rows.specs.{declared.reply.Reply.TheVariants.{New, NoMemory}, declared.tenants.Account.Account, Accounts.{Accounts, account_of}}
use Rattle.mt_rows.specs.{Changes.{Named, indexed}, Maps.{Map, reply_of, map_after, map_after_put, told_of_put}, Rows.{Bytes, Columns}, Stamps.{Stamped, restamped_row, written}}
use Rattle.mt_rows.specs.{Tenants.{owned_cmp, Contents, tenant_map}, TenantPairs.{owner_of, entry_of, pairs_of, AreStampedUpto}}
use Rattle.mt_rows.proofs.{Indexed.changed_indexed, ContentLaws.{owned_total, same_contents, get-tenant_map, tenant_map-insert, tenant_map-insert_other}}
use Rattle.mt_border.{specs.{Contents.AllStamped, Restamps.new_stamp}, proofs.Restamping.all-restamped}
use Rattle.mt_runs.specs.declared.event.Answer.{Answer}
use Rattle.mt_arena.specs.{NodeView.NodeView, Accesses.at, Arena.{IsArena, content_of}, Contents.counts, Forests.tree_at, Renumbers.AreRestamped}
use Rattle.mt_arena.proofs.Renumbering.{at-renumbered, size-renumbered, content-renumbered}
use Rattle.mt_operation.specs.{declared.operation.Operation.Operation, declared.outcome.Outcome.Outcome, declared.phase.Phase.Phase}
use Rattle.mt_operation.specs.{Operations.{OperationView, view_of}, Tables.{Table, op_at as operation_at}}
use Rattle.mt_state.specs.{declared.moves.Move.Move, declared.moves.Move.TheVariants.{NoMemory as NoMemoryMove, Done as DoneMove, Spent}}
use Rattle.mt_state.specs.Views.{Core, StateView, Shown, shown, contents_of, op_at, granted, granted_in, quota_in as quota_of_account, quota_of}
use Rattle.mt_state.specs.{Promises.IsStep, Begins.{Begins, Takes, begun, new_state}, Invariant.{StateInvariant, HoldsAt}}
use Rattle.mt_state.proofs.Shown.{shown_table, shown_at, shown_there}
use Rattle.mt_core.specs.{Alone.{IsChain, Runs, IsAlone, EndsAlone, EndsAt, IsRun}, Renumbers.{AreGivenUpto, with_logs, core_renumbered}, Tidies.Tidies}
use Rattle.mt_core.specs.Restores.{IsIdle, MayPut, HasOneMore, HasPut, put_of, row_put, with_put, counting, IsUncounted, IsStampIn, IsRestored}
use Rattle.mt_core.proofs.OtherStamps.{len-restamped, stamped_slots}
use Rattle.std.specs.FinMap as pairs

-- no operation is shown where none is inside
none_inside : (x : Option Operation) → option_map view_of x ≡ None → x ≡ None
none_inside None e = refl
none_inside (Some op) e = absurd (none-some (view_of op) (sym e))

pub idle_inside : (table : Table) → ((o : ℕ) → op_at (shown_table table) o ≡ None) → (o : ℕ) → operation_at table o ≡ None
idle_inside table idle o = none_inside (operation_at table o) (sym (shown_at table o) ∙ idle o)

-- ---- the stamps

-- no pair of a list has a stamp over a number over which none is
pair_upto : (n : ℕ) (ps : List TenantPair) (q : ℕ × Bytes) (row : Stamped) → AreStampedUpto n ps → pairs.find owned_cmp q (map entry_of ps) ≡ Some row → row.stamp ≤ n
pair_upto n [] q row upto is = absurd (none-some row is)
pair_upto n (p ∷ ps) q row upto is = by (eq_by_cmp owned_cmp q (owner_of p)) (λ more. pair_upto n ps q row (λ i x at. upto (suc i) x at) more) is
  where
    by : (b : Bool) → (pairs.find owned_cmp q (map entry_of ps) ≡ Some row → row.stamp ≤ n) → cond b (Some p.row) (pairs.find owned_cmp q (map entry_of ps)) ≡ Some row → row.stamp ≤ n
    by true rest is = omega (arith, upto 0 p refl, ap (λ (s : Stamped). s.stamp) (same_Some p.row row is))
    by false rest is = rest is

-- so contents that are a list's pairs once they have other stamps have none of those over it
pub given_upto : (steps : ℕ) (f : ℕ → ℕ) (contents : Contents) (ps : List TenantPair) → AreStampedUpto steps ps → AreRestamped f contents (pairs_of ps) → AreGivenUpto steps f contents
given_upto steps f contents ps upto are q r there =
    pair_upto steps ps q (restamped_row f r) upto (sym (pairs.get-from_entries owned_total (map entry_of ps) q) ∙ are q ∙ ap (option_map (restamped_row f)) there)

-- ---- the run

-- an operation that ran alone is done, or there was no memory
pub ends_so : (answer : Move) (last most : ℕ) (phase : Phase) → EndsAt answer last most phase → (answer ≡ DoneMove → ⊥) → (answer ≡ NoMemoryMove → ⊥) → (answer ≡ Spent → ⊥) → ⊥
ends_so DoneMove last most phase ends other none spent = other refl
ends_so NoMemoryMove last most phase ends other none spent = none refl
ends_so Spent last most phase ends other none spent = spent refl
ends_so _ last most phase ends other none spent = absurd ends

-- what steps of one operation leave
record Along (old new : StateView) (o : ℕ) : Type 0 where
  pub logs : new.logs ≡ old.logs
  pub granted_so : (t : ℕ) → granted new t ≡ granted old t
  pub others : (q : ℕ) → q ≢ o → op_at new.table q ≡ op_at old.table q

along_none : (v : StateView) (o : ℕ) → Along v v o
along_none v o = record { logs = refl; granted_so = λ t. refl; others = λ q differ. refl }

along_more : (u v w : StateView) (o : ℕ) → Along u v o → Along v w o → Along u w o
along_more u v w o a b = record { logs = b.logs ∙ a.logs; granted_so = λ t. b.granted_so t ∙ a.granted_so t; others = λ q differ. b.others q differ ∙ a.others q differ }

along_step : (old new : StateView) (o : ℕ) (done : Bool) → IsStep old new o done → Along old new o
along_step old new o done s = record {
  logs = s.logs;
  granted_so = s.grows.quotas;
  others = λ q differ. ap (λ t. op_at t q) s.table ∙ get_or-set_other old.table o q (Some s.after) None differ;
}

along_chain : (made : ℕ) (old new : StateView) (o : ℕ) → IsChain made old new o → Along old new o
along_chain zero old new o same = subst (λ v. Along old v o) (sym same) (along_none old o)
along_chain (suc made) old new o c = along_more old c.0 new o (along_chain made old c.0 o c.1) (along_step c.0 new o false c.2)

along_runs : (old new : StateView) (o : ℕ) → Runs old new o DoneMove → Along old new o
along_runs old new o r = along_more old r.mid new o (along_chain r.made old r.mid o r.chain) (along_step r.mid new o true r.tells)

-- a put of a missing key with room in its quota makes its pair, and is told so
after_put : (quota number : ℕ) (key : _) (change : Named) (m : Map) → pairs.get m key ≡ None → pairs.len m < quota
    → map_after quota number (Put key change) m ≡ pairs.insert m key (written number change None)
unfolding map_after
after_put quota number key change m missing room =
    let some : map_after_put quota number key change m None ≡ pairs.insert m key (written number change None) = grind (arith, room) in
    ap (map_after_put quota number key change m) missing ∙ some

told_put : (quota : ℕ) (key : _) (change : Named) (m : Map) → pairs.get m key ≡ None → pairs.len m < quota → reply_of quota (Put key change) m ≡ New
unfolding reply_of
told_put quota key change m missing room = ap (told_of_put quota (pairs.len m)) missing ∙ grind (arith, room)

-- a row with this stamp and these columns
abbrev row_with : ℕ → Columns → Stamped
row_with stamp row = record { stamp = stamp; row = row }

-- contents in which each tenant has the same map are one
by_tenants : (a b : Contents) → ((t : ℕ) → tenant_map t a ≡ tenant_map t b) → a ≡ b
by_tenants a b same = same_contents a b (λ q. sym (get-tenant_map q.0 a q.1) ∙ ap (λ m. pairs.get m q.1) (same q.0) ∙ get-tenant_map q.0 b q.1)

-- the quota of a pair that may be put has room
quota_is : (v : StateView) (p : TenantPair) (may : MayPut v p) → quota_of v p.tenant ≡ may.most
quota_is v p may = by (account_of v.accounts p.tenant) may.there
  where
    by : (x : Option Account) → granted_in x ≡ Some may.most → quota_of_account x ≡ may.most
    by None e = absurd (none-some may.most e)
    by (Some a) e = same_Some a.quota may.most e

-- a put of a pair that was begun where no other operation is
module _ (v0 : StateView) (p : TenantPair) (idle : IsIdle v0) (may : MayPut v0 p) (v1 : StateView) (o : ℕ) (begins : Begins v0 v1 o 0 p.tenant (put_of p)) where
  maps_begun : (t : ℕ) → tenant_map t (contents_of v1) ≡ tenant_map t (contents_of v0)
  maps_begun t = ap (λ (v : StateView). tenant_map t (contents_of v)) begins.stands

  quotas_begun : (t : ℕ) → quota_of v1 t ≡ quota_of v0 t
  quotas_begun t = ap (λ (v : StateView). quota_of v t) begins.stands

  missing_now : pairs.get (tenant_map p.tenant (contents_of v1)) p.key ≡ None
  missing_now = ap (λ m. pairs.get m p.key) (maps_begun p.tenant) ∙ get-tenant_map p.tenant (contents_of v0) p.key ∙ may.missing

  room_now : pairs.len (tenant_map p.tenant (contents_of v1)) < quota_of v1 p.tenant
  room_now =
      let maps = ap pairs.len (maps_begun p.tenant) in
      let quotas = quotas_begun p.tenant in
      let most = quota_is v0 p may in
      omega (arith, maps, quotas, most, may.room)

  -- it is alone, so that it runs to its end
  pub is_alone : (c : Core) → shown c ≡ v1 → StateInvariant c → IsAlone v1 o (begun 0 p.tenant (put_of p) v0.steps)
  is_alone c is sound = record {
    there = begins.there;
    first = refl;
    enters = refl;
    free = λ k within. by k (subst (λ (v : StateView). k < length v.arena.nodes) (sym is) within) ((at v1.arena k).holder) refl;
  }
    where
      held_by_none : (k q : ℕ) → k < length c.arena.nodes → (at c.arena k).holder ≡ Some q → ⊥
      held_by_none k q within held =
          let h = sound.holders k q within held in
          let here : op_at v1.table q ≡ Some (view_of h.0) = ap (λ (v : StateView). op_at v.table q) (sym is) ∙ shown_there c.table q h.0 h.1 in
          elim (cases_eq q o) [
            | inl same ↦
                let only = same_Some _ _ (sym here ∙ ap (op_at v1.table) same ∙ begins.there) in
                subst (λ phase. HoldsAt phase h.0 k) (ap (λ (x : OperationView). x.phase) only) h.2
            | inr other ↦ none-some (view_of h.0) (sym (begins.others q other ∙ idle q) ∙ here)
          ]

      by : (k : ℕ) → k < length c.arena.nodes → (x : Option ℕ) → (at v1.arena k).holder ≡ x → (at v1.arena k).holder ≡ None
      by k within None e = e
      by k within (Some q) e = absurd (held_by_none k q within (ap (λ (v : StateView). (at v.arena k).holder) is ∙ e))

  -- once it has run to its end, and was told something else than that there was no memory
  module _ (v2 v3 : StateView) (answer : Answer) (runs : Runs v1 v2 o DoneMove) (ends : EndsAlone v1 v2 o (begun 0 p.tenant (put_of p) v0.steps) DoneMove) (takes : Takes v2 v3 o answer) where
    said : ends.makes.told ≡ record { reply = answer.reply; at = answer.at }
    said =
        let same : takes.op ≡ ends.after = same_Some _ _ (sym takes.there ∙ ends.there) in
        same_Some ends.makes.told (record { reply = answer.reply; at = answer.at }) (sym ends.makes.has ∙ sym (ap (λ (op : OperationView). op.outcome) same) ∙ takes.told.told)

    told : answer.reply ≡ ends.makes.told.reply
    told = sym (ap (λ (t : Outcome). t.reply) said)

    -- by the number of its answer
    number : answer.at ≡ ends.makes.told.at
    number = sym (ap (λ (t : Outcome). t.at) said)

    -- it was told that its pair is new
    pub told_new : (answer.reply ≡ NoMemory) ⊎ (answer.reply ≡ New)
    told_new = elim ends.makes.outcome [
      | inl none ↦ inl (told ∙ none.0)
      | inr run ↦ inr (told ∙ run.told ∙ told_put (quota_of v1 p.tenant) p.key (indexed 0 p.row.row) (tenant_map p.tenant (contents_of v1)) missing_now room_now)
    ]

    -- the maps have the pair then
    made : IsRun v1 v2 (begun 0 p.tenant (put_of p) v0.steps) ends.makes.told.at ends.makes.told.reply → (t : ℕ) → tenant_map t (contents_of v2) ≡ tenant_map t (with_put p answer.at (contents_of v0))
    made run t = run.makes t ∙ here (eqb t p.tenant) refl
      where
        here : (b : Bool) → eqb t p.tenant ≡ b
            → cond b (map_after (quota_of v1 t) ends.makes.told.at (put_of p) (tenant_map t (contents_of v1))) (tenant_map t (contents_of v1)) ≡ tenant_map t (with_put p answer.at (contents_of v0))
        here true e = subst (λ u. map_after (quota_of v1 u) ends.makes.told.at (put_of p) (tenant_map u (contents_of v1)) ≡ tenant_map u (with_put p answer.at (contents_of v0))) (sym (eqb-true t p.tenant e))
            (after_put (quota_of v1 p.tenant) ends.makes.told.at p.key (indexed 0 p.row.row) (tenant_map p.tenant (contents_of v1)) missing_now room_now
            ∙ ap (λ row. pairs.insert (tenant_map p.tenant (contents_of v1)) p.key (row_with ends.makes.told.at row)) (changed_indexed p.row.row may.limits.1)
            ∙ ap (λ n. pairs.insert (tenant_map p.tenant (contents_of v1)) p.key (row_put p n)) (sym number)
            ∙ ap (λ m. pairs.insert m p.key (row_put p answer.at)) (maps_begun p.tenant)
            ∙ sym (tenant_map-insert p.tenant (contents_of v0) p.key (row_put p answer.at)))
        here false e = maps_begun t ∙ sym (tenant_map-insert_other t p.tenant (contents_of v0) p.key (row_put p answer.at) (λ is. eqb-false t p.tenant e (sym is)))

    -- all is as it was but for the pair, which has the answer's number
    pub has_one_more : answer.reply ≡ New → HasOneMore v0 v3 p answer.at
    has_one_more new = elim ends.makes.outcome [
      | inl none ↦ absurd (other (sym new ∙ told ∙ none.0))
      | inr run ↦
          let along = along_runs v1 v2 o runs in
          record {
            idle = gone;
            logs = ap (λ (v : StateView). length v.logs) takes.gone ∙ ap length along.logs ∙ ap (λ (v : StateView). length v.logs) begins.stands;
            granted_so = λ t. ap (λ (v : StateView). granted v t) takes.gone ∙ along.granted_so t ∙ ap (λ (v : StateView). granted v t) begins.stands;
            contents = ap contents_of takes.gone ∙ by_tenants (contents_of v2) (with_put p answer.at (contents_of v0)) (made run);
            since = let before = ap (λ (v : StateView). v.steps) begins.stands in omega (arith, before, number, run.since);
            upto = let ended = ap (λ (v : StateView). v.steps) takes.gone in omega (arith, ended, number, run.upto);
          }
    ]
      where
        other : ◌≡◌ {A = Reply} New NoMemory → ⊥
        other e = cc

        gone : IsIdle v3
        gone q = elim (cases_eq q o) [
          | inl is ↦ ap (λ (v : StateView). op_at v.table q) takes.gone ∙ ap (λ r. op_at (slice_set v2.table o None) r) is ∙ none_there v2.table o
          | inr differ ↦ ap (λ (v : StateView). op_at v.table q) takes.gone ∙ get_or-set_other v2.table o q None None differ ∙ (along_runs v1 v2 o runs).others q differ ∙ begins.others q differ ∙ idle q
        ]
          where
            none_there : (table : Shown) (r : ℕ) → op_at (slice_set table r None) r ≡ None
            none_there [] r = refl
            none_there (x ∷ table) zero = refl
            none_there (x ∷ table) (suc r) = none_there table r

-- a tidying leaves it so
pub tidied : (old mid new : StateView) (p : TenantPair) (number : ℕ) → HasOneMore old mid p number → Tidies mid new → HasOneMore old new p number
tidied old mid new p number more tidy =
    let leaves = tidy.leaves in
    record {
      idle = λ o. ap (λ table. op_at table o) leaves.table ∙ more.idle o;
      logs = ap length leaves.logs ∙ more.logs;
      granted_so = λ t. ap (λ accounts. granted_in (account_of accounts t)) leaves.accounts ∙ more.granted_so t;
      contents = ap content_of leaves.arena ∙ more.contents;
      since = more.since;
      upto = subst (λ n. number ≤ n) (sym leaves.steps) more.upto;
    }

-- ---- the whole

-- an account with the same quota is one that counts what it counts
counts_so : (n : ℕ) (x y : Option Account) → granted_in x ≡ granted_in y → ((a : Account) → x ≡ Some a → a.count ≡ n) → x ≡ option_map (counting n) y
counts_so n None None same count = refl
counts_so n (Some a) (Some b) same count = λ i. Some (record { quota = same_Some a.quota b.quota same i; count = count a refl i })
counts_so n None (Some b) same count = absurd (none-some b.quota same)
counts_so n (Some a) None same count = absurd (none-some a.quota (sym same))

-- a new state that was put the pairs is restored once it keeps the logs and counts anew
module _ (steps logs : ℕ) (accounts : Accounts) (ps : List TenantPair) (stamps : BTreeMap ℕ ℕ) (start : StateView) (b : Core) (new : start ≡ new_state 0 accounts)
    (put : HasPut start (shown b) stamps (pairs_of ps)) (sound : StateInvariant (with_logs logs b)) (arena : IsArena b.arena.nodes b.arena.trees) where
  abbrev c : Core
  c = with_logs logs b

  abbrev f : ℕ → ℕ
  f = new_stamp stamps

  -- each slot that counts has the stamp of its pair in the list
  stamped : (k : ℕ) → k < length c.arena.nodes → counts c.arena.trees (at c.arena k) ≡ true
      → AllStamped (λ q s. IsStampIn (pairs_of ps) q (f s)) (tree_at c.arena.trees (at c.arena k).tree).prefix (at c.arena k).slots
  stamped k within counted = stamped_slots c.arena arena k within counted (λ q s. IsStampIn (pairs_of ps) q (f s))
      (λ q r there. ap (option_map (λ (x : Stamped). x.stamp)) (put.contents q ∙ ap (option_map (restamped_row f)) there))

  restored : IsRestored steps logs accounts ps (shown (core_renumbered steps f c))
  restored = record {
    steps_are = refl;
    answers_are = refl;
    logs_are = ap (λ n. replicate n steps) (length-replicate logs b.steps);
    tape_is = refl;
    table_is = refl;
    contents_are = same_contents (contents_of (shown (core_renumbered steps f c))) (pairs_of ps) (λ q. content-renumbered f c.arena.trees c.arena.nodes q ∙ sym (put.contents q));
    accounts_are = λ t. counts_so (pairs.len (tenant_map t (pairs_of ps))) (account_of c.accounts t) (account_of accounts t) (put.granted_so t ∙ ap (λ (v : StateView). granted v t) new)
        (λ a there. (sound.counts t a there).0 ∙ sym (len-restamped f (contents_of (shown c)) (pairs_of ps) put.contents t));
    stamps = λ k within counted.
        subst (λ (n : NodeView). AllStamped (IsStampIn (pairs_of ps)) (tree_at c.arena.trees n.tree).prefix n.slots) (sym (at-renumbered f c.arena.nodes k))
        (all-restamped (λ q s. IsStampIn (pairs_of ps) q (f s)) (IsStampIn (pairs_of ps)) f (tree_at c.arena.trees (at c.arena k).tree).prefix (at c.arena k).slots (λ q s has. has)
        (stamped k (omega (arith, within, size-renumbered f c.arena.nodes)) (sym (ap (counts c.arena.trees) (at-renumbered f c.arena.nodes k)) ∙ counted)));
    versions = λ k within. subst IsUncounted (sym (at-renumbered f c.arena.nodes k)) (record { inserts = refl; splits = refl });
  }

  pub is_restored : (d : Core) → d ≡ core_renumbered steps f c → IsRestored steps logs accounts ps (shown d)
  is_restored d is = subst (λ e. IsRestored steps logs accounts ps (shown e)) (sym is) restored
