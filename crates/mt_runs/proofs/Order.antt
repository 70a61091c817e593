-- The one order of a run that is right (by number, a step's change and then what was looked at there): for the law that there is one order.
use Rattle.std.proofs.Common.{◌≡◌, ℕ, zero, suc, ◌<◌, ◌≤◌, Bool, true, false, cond, not, eqb, List, [], ◌∷◌, ◌++◌, Some, sym, refl, ap, subst, ◌∙◌, inl, inr, arith}
use Rattle.std.proofs.{lemmas.Option.same_Some, lemmas.Bool.{and_parts, not-true, eqb-true, eq-eqb, both_ways, and_from, not_from_false, cases_lt}}
use Rattle.std.specs.List.{AllByRecursion}
use Rattle.mt_rows.specs.{declared.reply.Reply.Reply, declared.reply.Reply.TheVariants.{New, NoMemory}}
use Rattle.mt_rows.specs.Maps.{Map, is_change, is_scan, is_no_memory, reply_of, map_after}
use Rattle.mt_rows.proofs.CommandLaws.{same_map_after}
use Rattle.mt_runs.specs.{declared.event.Answer.Answer, Runs.{Story, Asked, last_step, Finished, IsSinceFirst, IsUpToLast, IsBetween}}
use Rattle.mt_runs.specs.Placings.{Quotas, Maps, is_placed, reply_in, maps_after_one, maps_after, Placing, Along, MayStand, Fits, HasReply, IsLegal, AreScansLawful, map_upto, HasOneOrder}
use Rattle.mt_runs.specs.Right.{maps_at, IsChangeAfter, Right}
use Rattle.mt_runs.proofs.Walks.{last_number, last_number-append, maps_after-append, Along-append, LeavesMaps, maps_after-leaves, last_number-leaves, Along-leaves}
use Rattle.mt_runs.proofs.Steps.{owner_in}
use Rattle.mt_runs.proofs.Standing.{is_look, looks_here, change_here, here, placed_upto, looks_all, look_parts, change_here-true, change_here-false, change_here-before, part_upto}
use Rattle.mt_runs.proofs.{Once.{StandsAt, one_answer, count_small, count_of_stands}, Lawful.lawful_by}
use mathlib.Core.Path.{fun_ext}

-- a command whose reply is of no change leaves all maps
leaves_one : (quotas : Quotas) (m : ℕ) (what : Asked) (maps : Maps) → is_change (reply_in quotas what maps) ≡ false → maps_after_one quotas m (Some what) maps ≡ maps
leaves_one quotas m what maps e = fun_ext (λ t. by t (eqb t what.tenant) refl)
  where
    by : (t : ℕ) (b : Bool) → eqb t what.tenant ≡ b → cond b (map_after (quotas t) m what.command (maps t)) (maps t) ≡ maps t
    by t true same = let is : t ≡ what.tenant = eqb-true _ _ same in same_map_after (quotas t) m what.command (maps t) (subst (λ u. is_change (reply_of (quotas u) what.command (maps u)) ≡ false) (sym is) e)
    by t false other = refl

-- a list of nothing is empty
none_of : {X : Type 0} (xs : List X) → AllByRecursion (λ x. ⊥) xs → xs ≡ []
none_of [] h = refl
none_of (x ∷ xs) h = absurd h.0

-- a reply that tells of a change is not the one of a refused growth
pub change_remembered : (r : Reply) → is_change r ≡ true → is_no_memory r ≡ false
change_remembered New e = refl
change_remembered NoMemory e = absurd (cc)
change_remembered _ e = refl

module _ (quotas : Quotas) (first : Maps) (story : Story) (map_at : ℕ → ℕ → Map) (changed : ℕ → Bool) (r : Right quotas first story map_at changed) where
  -- a placed answer stands at a number of the run
  answer_in_run : (o : ℕ) (answer : Answer) → Finished story o answer → is_placed answer ≡ true → (story.base < answer.at) × (answer.at ≤ last_step story)
  answer_in_run o answer done placed =
      let a = r.answers o answer done in
      let s = a.since placed in
      let u = a.upto placed in
      let lower = owner_in story s.0 o s.2 in
      let upper = owner_in story u.0 o u.2 in
      (omega arith, omega arith)

  -- a look leaves the maps of its number
  looks_leave : (m : ℕ) → AllByRecursion (LeavesMaps quotas story (maps_at map_at m) m) (looks_here story m)
  looks_leave m = looks_all story m (LeavesMaps quotas story (maps_at map_at m) m) (λ o answer done look.
      let parts = look_parts m answer look in
      let a = r.answers o answer done in
      let same : answer.reply ≡ reply_in quotas a.what (maps_at map_at m) = subst (λ k. answer.reply ≡ reply_in quotas a.what (maps_at map_at k)) parts.2 (a.looked parts.0 parts.1) in
      record {
        number = refl;
        leaves = ap (λ w. maps_after_one quotas m w (maps_at map_at m)) a.asked_so ∙ leaves_one quotas m a.what (maps_at map_at m) (ap is_change (sym same) ∙ parts.1);
      })

  -- no answer was looked at in the maps of a number from before the run
  no_look : (m : ℕ) → m ≤ story.base → (o : ℕ) (answer : Answer) → Finished story o answer → is_look m answer ≡ true → ⊥
  no_look m le o answer done look =
      let parts = look_parts m answer look in
      let inside = answer_in_run o answer done parts.0 in
      absurd (omega (arith, parts.2))

  -- so nothing stands there
  nothing_here : (m : ℕ) → m ≤ story.base → here story changed m ≡ []
  nothing_here m le =
      ap (λ ps. ps ++ looks_here story m) (change_here-before story changed m le)
      ∙ none_of (looks_here story m) (looks_all story m (λ p. ⊥) (no_look m le))

  nothing_upto : (n : ℕ) → n ≤ story.base → placed_upto story changed n ≡ []
  unfolding placed_upto
  nothing_upto zero le = refl
  nothing_upto (suc n) le = ap (λ ps. ps ++ here story changed (suc n)) (nothing_upto n (omega arith)) ∙ nothing_here (suc n) le

  -- the change of a step makes the maps of its number
  change_maps : (n : ℕ) → story.base ≤ n → suc n ≤ last_step story → maps_after quotas story (maps_at map_at n) (change_here story changed (suc n)) ≡ maps_at map_at (suc n)
  change_maps n from le = by (changed (suc n)) refl
    where
      by : (b : Bool) → changed (suc n) ≡ b → maps_after quotas story (maps_at map_at n) (change_here story changed (suc n)) ≡ maps_at map_at (suc n)
      by true e = let c = r.changes n from le e in
          ap (maps_after quotas story (maps_at map_at n)) (change_here-true story changed (suc n) c.op e c.own)
          ∙ ap (λ w. maps_after_one quotas (suc n) w (maps_at map_at n)) c.asked_so ∙ fun_ext (λ t. sym (c.makes t))
      by false e = ap (maps_after quotas story (maps_at map_at n)) (change_here-false story changed (suc n) e) ∙ fun_ext (λ t. sym (r.stays n t from le e))

  -- so at the run's beginning the maps are the first ones
  first_maps : (n : ℕ) → n ≡ story.base → maps_after quotas story first (placed_upto story changed n) ≡ maps_at map_at n
  first_maps n e =
      ap (maps_after quotas story first) (nothing_upto n (omega arith))
      ∙ fun_ext (λ t. sym (subst (λ k. map_at t k ≡ first t) (sym e) (r.start t)))

  -- the maps after what stands up to n are those that the run had after step n
  upto_maps : (n : ℕ) → story.base ≤ n → n ≤ last_step story → maps_after quotas story first (placed_upto story changed n) ≡ maps_at map_at n
  unfolding placed_upto
  upto_maps zero from le = first_maps zero (omega arith)
  upto_maps (suc n) from le = elim (cases_lt n story.base) [
    | inl before ↦ first_maps (suc n) (omega arith)
    | inr behind ↦
        maps_after-append quotas story first (placed_upto story changed n) (here story changed (suc n))
        ∙ ap (λ w. maps_after quotas story w (here story changed (suc n))) (upto_maps n behind (omega arith))
        ∙ maps_after-append quotas story (maps_at map_at n) (change_here story changed (suc n)) (looks_here story (suc n))
        ∙ ap (λ w. maps_after quotas story w (looks_here story (suc n))) (change_maps n behind le)
        ∙ maps_after-leaves quotas story (maps_at map_at (suc n)) (suc n) (looks_here story (suc n)) (looks_leave (suc n))
  ]

  -- P of each pair of the order, from P of each change and of each look
  upto_along : (P : Maps → ℕ → ℕ → ℕ → Type 0)
      → ((n b : ℕ) → suc n ≤ last_step story → b ≤ n → (c : IsChangeAfter quotas story map_at n) → changed (suc n) ≡ true → P (maps_at map_at n) b c.op (suc n))
      → ((m b o : ℕ) (answer : Answer) → m ≤ last_step story → b ≤ m → Finished story o answer → is_look m answer ≡ true → P (maps_at map_at m) b o m)
      → (n : ℕ) → story.base ≤ n → n ≤ last_step story
      → Along P quotas story first story.base (placed_upto story changed n) × (last_number story.base (placed_upto story changed n) ≤ n)
  unfolding placed_upto
  upto_along P hc hl zero from le = (tt, from)
  upto_along P hc hl (suc n) from le = elim (cases_lt n story.base) [
    | inl before ↦ subst (λ ps. Along P quotas story first story.base ps × (last_number story.base ps ≤ suc n)) (sym (nothing_upto (suc n) (omega arith))) (tt, from)
    | inr behind ↦ step behind (upto_along P hc hl n behind (omega arith))
  ]
    where
      change_along : (t : Bool) → changed (suc n) ≡ t → story.base ≤ n → (b : ℕ) → b ≤ n
          → Along P quotas story (maps_at map_at n) b (change_here story changed (suc n)) × (last_number b (change_here story changed (suc n)) ≤ suc n)
      change_along true e behind b small = let c = r.changes n behind le e in
          subst (λ ps. Along P quotas story (maps_at map_at n) b ps × (last_number b ps ≤ suc n)) (sym (change_here-true story changed (suc n) c.op e c.own)) ((hc n b le small c e, tt), omega arith)
      change_along false e behind b small =
          subst (λ ps. Along P quotas story (maps_at map_at n) b ps × (last_number b ps ≤ suc n)) (sym (change_here-false story changed (suc n) e)) (tt, omega arith)

      step : story.base ≤ n → Along P quotas story first story.base (placed_upto story changed n) × (last_number story.base (placed_upto story changed n) ≤ n)
          → Along P quotas story first story.base (placed_upto story changed n ++ here story changed (suc n)) × (last_number story.base (placed_upto story changed n ++ here story changed (suc n)) ≤ suc n)
      step behind before =
          let b = last_number story.base (placed_upto story changed n) in
          let m = suc n in
          let change = change_along (changed m) refl behind b before.1 in
          let looks = looks_here story m in
          let leave = looks_leave m in
          let looks_so = looks_all story m (λ p. (b : ℕ) → b ≤ m → P (maps_at map_at m) b p.0 p.1) (λ o answer done look b small. hl m b o answer le small done look) in
          let b_after = last_number b (change_here story changed m) in
          let looked = Along-leaves P quotas story (maps_at map_at m) m b_after change.1 looks leave looks_so in
          let at_m = Along-append P quotas story (maps_at map_at n) b (change_here story changed m) looks change.0
          (subst (λ w. Along P quotas story w b_after looks) (sym (change_maps n behind le)) looked) in
          let all = Along-append P quotas story first story.base (placed_upto story changed n) (here story changed m) before.0
          (subst (λ w. Along P quotas story w b (here story changed m)) (sym (upto_maps n behind (omega arith))) at_m) in
          let last = last_number-leaves quotas story (maps_at map_at m) m b_after change.1 looks leave in
          (all, subst (λ k. k ≤ m) (sym (last_number-append story.base (placed_upto story changed n) (here story changed m) ∙ last_number-append b (change_here story changed m) looks)) last)

  -- a change may stand at its step, and has its reply there
  change_may_stand : (n b : ℕ) → suc n ≤ last_step story → b ≤ n → (c : IsChangeAfter quotas story map_at n) → changed (suc n) ≡ true → MayStand quotas story (maps_at map_at n) b c.op (suc n)
  change_may_stand n b le small c e = record {
    rises = omega arith;
    command = (c.what, c.asked_so, c.not_scan, λ _. (omega arith, c.own));
    since = (suc n, omega arith, c.own);
    made = le;
    finished = λ answer done.
        let told = c.told answer done in
        let no_scan : is_scan answer.command ≡ false = ap is_scan told.0 ∙ c.not_scan in
        let remembered : is_no_memory answer.reply ≡ false = change_remembered answer.reply (ap is_change told.1 ∙ c.changes) in
        (and_from _ _ (not_from_false _ no_scan) (not_from_false _ remembered), sym told.2, (suc n, omega arith, c.own));
  }

  change_has_reply : (n b : ℕ) → suc n ≤ last_step story → b ≤ n → (c : IsChangeAfter quotas story map_at n) → changed (suc n) ≡ true → HasReply quotas story (maps_at map_at n) b c.op (suc n)
  change_has_reply n b le small c e answer a done asked_a =
      let told = c.told answer done in
      let same : c.what ≡ a = same_Some c.what a (sym c.asked_so ∙ asked_a) in
      subst (λ (w : Asked). (answer.command ≡ w.command) × (answer.reply ≡ reply_in quotas w (maps_at map_at n))) same (told.0, told.1)

  -- a look may stand at its number, and has its reply there
  look_may_stand : (m b o : ℕ) (answer : Answer) → m ≤ last_step story → b ≤ m → Finished story o answer → is_look m answer ≡ true → MayStand quotas story (maps_at map_at m) b o m
  look_may_stand m b o answer le small done look =
      let parts = look_parts m answer look in
      let a = r.answers o answer done in
      let same : answer.reply ≡ reply_in quotas a.what (maps_at map_at m) = subst (λ k. answer.reply ≡ reply_in quotas a.what (maps_at map_at k)) parts.2 (a.looked parts.0 parts.1) in
      let no_scan : is_scan a.what.command ≡ false = ap is_scan (sym a.command) ∙ not-true _ (and_parts (not (is_scan answer.command)) _ parts.0).0 in
      record {
        rises = small;
        command = (a.what, a.asked_so, no_scan, λ h. absurd (both_ways (is_change answer.reply) parts.1 (ap is_change same ∙ h)));
        since = subst (IsSinceFirst story o) parts.2 (a.since parts.0);
        made = le;
        finished = λ other ended.
            let one : answer ≡ other = one_answer quotas first story map_at changed r o answer other done ended in
            (ap is_placed (sym one) ∙ parts.0, sym parts.2 ∙ ap (λ (x : Answer). x.at) one, subst (IsUpToLast story o) parts.2 (a.upto parts.0));
      }

  look_has_reply : (m b o : ℕ) (answer : Answer) → m ≤ last_step story → b ≤ m → Finished story o answer → is_look m answer ≡ true → HasReply quotas story (maps_at map_at m) b o m
  look_has_reply m b o answer le small done look other w ended asked_w =
      let parts = look_parts m answer look in
      let a = r.answers o other ended in
      let one : answer ≡ other = one_answer quotas first story map_at changed r o answer other done ended in
      let at : other.at ≡ m = ap (λ (x : Answer). x.at) (sym one) ∙ parts.2 in
      let reply = a.looked (ap is_placed (sym one) ∙ parts.0) (ap (λ (x : Answer). is_change x.reply) (sym one) ∙ parts.1) in
      let same : a.what ≡ w = same_Some a.what w (sym a.asked_so ∙ asked_w) in
      let at_m : other.reply ≡ reply_in quotas a.what (maps_at map_at m) = subst (λ k. other.reply ≡ reply_in quotas a.what (maps_at map_at k)) at reply in
      subst (λ (v : Asked). (other.command ≡ v.command) × (other.reply ≡ reply_in quotas v (maps_at map_at m))) same (a.command, at_m)

  -- a placed answer stands at its number, as a change or as a look
  answer_stands : (o : ℕ) (answer : Answer) → Finished story o answer → is_placed answer ≡ true → StandsAt story changed o answer.at
  answer_stands o answer done placed = by (is_change answer.reply) refl
    where
      by : (b : Bool) → is_change answer.reply ≡ b → StandsAt story changed o answer.at
      by true e = inl ((r.answers o answer done).changed_so placed e)
      by false e = inr (answer, done, and_from _ _ placed (and_from _ _ (not_from_false _ e) (eq-eqb _ _ refl)))

-- one order explains a run that is right; each map that the run went through is the one after the order's changes up to its number
pub order_with_maps : (quotas : Quotas) (first : Maps) (story : Story) (map_at : ℕ → ℕ → Map) (changed : ℕ → Bool) → Right quotas first story map_at changed
    → (placing : Placing) × Fits quotas first story placing × IsLegal quotas first story placing × AreScansLawful quotas first story placing
    × ((t m : ℕ) → story.base ≤ m → m ≤ last_step story → map_at t m ≡ map_upto quotas first story placing t m)
order_with_maps quotas first story map_at changed r =
    let n = last_step story in
    let placing = placed_upto story changed n in
    let from : story.base ≤ n = omega arith in
    let fits : Fits quotas first story placing = record {
      commands = λ o answer done. let a = r.answers o answer done in (a.what, a.asked_so, a.command);
      numbers = λ o answer done. let a = r.answers o answer done in (a.first, a.last);
      stands = (upto_along quotas first story map_at changed r (MayStand quotas story) (change_may_stand quotas first story map_at changed r) (look_may_stand quotas first story map_at changed r) n from (omega arith)).0;
      finished = λ o answer done placed.
          let inside = answer_in_run quotas first story map_at changed r o answer done placed in
          count_of_stands quotas first story map_at changed r o answer.at n (omega arith) inside.1 (answer_stands quotas first story map_at changed r o answer done placed);
      others = λ o. count_small quotas first story map_at changed r o n;
      ends = r.last_end;
    } in
    let legal = (upto_along quotas first story map_at changed r (HasReply quotas story) (change_has_reply quotas first story map_at changed r) (look_has_reply quotas first story map_at changed r) n from (omega arith)).0 in
    let maps : (t m : ℕ) → story.base ≤ m → m ≤ last_step story → map_at t m ≡ map_upto quotas first story placing t m = λ t m above le.
    sym (ap (λ ps. maps_after quotas story first ps t) (part_upto story changed m n le) ∙ ap (λ w. w t) (upto_maps quotas first story map_at changed r m above le)) in
    let scans = λ (o : ℕ) (answer : Answer) (a : Asked) (done : Finished story o answer) (asked_a : story.asked o ≡ Some a).
    lawful_by (map_at a.tenant) (map_upto quotas first story placing a.tenant) (IsBetween story o) (IsBetween story o) (λ m between.
    let k = between.0 in
    let l = between.1 in
    let since = (owner_in story k.0 o k.2).0 in
    let le : m ≤ n = omega (arith, l.1, (owner_in story l.0 o l.2).1) in
    maps a.tenant m (omega (arith, k.1, since)) le)
    (λ m between. between) (λ m between. between) a.command answer.reply (r.scans o answer a done asked_a) in
    (placing, fits, legal, scans, maps)

pub one_order : (quotas : Quotas) (first : Maps) (story : Story) (map_at : ℕ → ℕ → Map) (changed : ℕ → Bool) → Right quotas first story map_at changed → HasOneOrder quotas first story
one_order quotas first story map_at changed r =
    let order = order_with_maps quotas first story map_at changed r in
    (order.0, order.1, order.2, order.3)
