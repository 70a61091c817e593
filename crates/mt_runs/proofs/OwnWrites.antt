-- What a get is told behind a put or a remove of its key that precedes it: for the two laws of reading one's own writes.
use Rattle.std.proofs.Common.{◌≡◌, ◌≢◌, ℕ, ◌≤◌, ◌⊎◌, Bool, true, false, cond, eqb, List, [], ◌∷◌, Option, Some, None, sym, refl, ap, subst, ◌∙◌, inl, inr, arith}
use Rattle.std.proofs.{lemmas.Option.same_Some, lemmas.Bool.{eqb-true, eq-eqb, and_from, not_from_false}}
use Rattle.mt_rows.specs.{declared.command.Command.Command, declared.command.Command.TheVariants.{Get, Put, Remove, Scan, PutIf}, declared.reply.Reply.Reply}
use Rattle.mt_rows.specs.{declared.reply.Reply.TheVariants.{Absent, Found}, Rows.Bytes, Changes.Named}
use Rattle.mt_rows.specs.{Maps.{Map, reply_of, map_after, is_change, is_scan, is_no_memory, told_of_row}, Stamps.{Stamped, as_shown, written}}
use Rattle.mt_rows.proofs.CommandLaws.{same_map_after, get_after_put, get_beside_put, get_after_remove, get_beside_remove, get_beside_put_if}
use Rattle.mt_runs.specs.{declared.event.Answer.Answer, Runs.{Story, Asked, owner, Finished}}
use Rattle.mt_runs.specs.Placings.{Placing, Quotas, Maps, is_placed, reply_in, maps_after_one, Along, MayStand, HasReply, count_of, HasOneOrder}
use Rattle.mt_runs.specs.Orders.{Precedes, StandsIn, WasTold, IsWriteOf, NoWriteBetween}
use Rattle.mt_runs.proofs.{Order.change_remembered, Precedence.{here_or_behind, none_stands, count_here, count_behind, stands_of_count, stands_at, not_behind}}
use Rattle.std.specs.FinMap as pairs

-- the row that a reply shows
row_in : Reply → Stamped
row_in (Found row) = row
row_in _ = record { stamp = 0; row = [] }

-- a get of all columns tells the row
row_told : (w : Option Stamped) (row : Stamped) → told_of_row [] w ≡ Found row → w ≡ Some row
unfolding row_in
row_told None row e = absurd (cc)
row_told (Some r) row e = ap (λ q. Some (row_in q)) e

none_told : (w : Option Stamped) → told_of_row [] w ≡ Absent → w ≡ None
none_told None e = refl
none_told (Some r) e = absurd (cc)

same_told : (w v : Option Stamped) → told_of_row [] w ≡ told_of_row [] v → w ≡ v
same_told w None e = none_told w e
same_told w (Some row) e = row_told w row e

-- the key's row behind a put that changed the map, and behind a remove
pub row_after_put : (quota number : ℕ) (key : Bytes) (change : Named) (m : Map) → is_change (reply_of quota (Put key change) m) ≡ true
    → pairs.get (map_after quota number (Put key change) m) key ≡ Some (written number change (pairs.get m key))
unfolding reply_of
row_after_put quota number key change m e = row_told _ _ (get_after_put quota number key change m e)

row_after_remove : (quota number : ℕ) (key : Bytes) (m : Map) → pairs.get (map_after quota number (Remove key) m) key ≡ None
unfolding reply_of
row_after_remove quota number key m = none_told _ (get_after_remove quota number key [] m)

-- a command that is no write of the key leaves its row
row_beside : (quota number : ℕ) (key : Bytes) (c : Command) (m : Map) → (IsWriteOf key c → ⊥) → pairs.get (map_after quota number c m) key ≡ pairs.get m key
unfolding reply_of map_after
row_beside quota number key (Get k columns) m beside = refl
row_beside quota number key (Put k change) m beside = same_told _ _ (get_beside_put quota number k key change [] m (λ e. beside (sym e)))
row_beside quota number key (PutIf k stamp change) m beside = same_told _ _ (get_beside_put_if quota number k key stamp change [] m (λ e. beside (sym e)))
row_beside quota number key (Remove k) m beside = same_told _ _ (get_beside_remove quota number k key [] m (λ e. beside (sym e)))
row_beside quota number key (Scan from after count columns) m beside = refl

-- and so does a command that changes nothing
row_kept : (quota number : ℕ) (key : Bytes) (c : Command) (m : Map) → (is_change (reply_of quota c m) ≡ true → IsWriteOf key c → ⊥) → pairs.get (map_after quota number c m) key ≡ pairs.get m key
row_kept quota number key c m beside = by (is_change (reply_of quota c m)) refl
  where
    by : (b : Bool) → is_change (reply_of quota c m) ≡ b → pairs.get (map_after quota number c m) key ≡ pairs.get m key
    by true e = row_beside quota number key c m (beside e)
    by false e = ap (λ n. pairs.get n key) (same_map_after quota number c m e)

-- an operation leaves the row of a tenant's key where it is no changing write of it
row_stays : (quotas : Quotas) (m : ℕ) (what : Asked) (maps : Maps) (t : ℕ) (key : Bytes) → (what.tenant ≡ t → is_change (reply_in quotas what maps) ≡ true → IsWriteOf key what.command → ⊥)
    → pairs.get (maps_after_one quotas m (Some what) maps t) key ≡ pairs.get (maps t) key
row_stays quotas m what maps t key beside = by (eqb t what.tenant) refl
  where
    by : (b : Bool) → eqb t what.tenant ≡ b → pairs.get (cond b (map_after (quotas t) m what.command (maps t)) (maps t)) key ≡ pairs.get (maps t) key
    by true same =
        let is : t ≡ what.tenant = eqb-true t what.tenant same in
        row_kept (quotas t) m key what.command (maps t) (λ e. beside (sym is) (subst (λ u. is_change (reply_of (quotas u) what.command (maps u)) ≡ true) is e))
    by false other = refl

-- a tenant's map after a command of its own
pub own_map : (quotas : Quotas) (m : ℕ) (what : Asked) (maps : Maps) → maps_after_one quotas m (Some what) maps what.tenant ≡ map_after (quotas what.tenant) m what.command (maps what.tenant)
own_map quotas m what maps = ap (λ b. cond b (map_after (quotas what.tenant) m what.command (maps what.tenant)) (maps what.tenant)) (eq-eqb what.tenant what.tenant refl)

-- a get is told of the row at its key
get_reply : (quota : ℕ) (key : Bytes) (columns : List ℕ) (m : Map) → reply_of quota (Get key columns) m ≡ told_of_row columns (pairs.get m key)
unfolding reply_of
get_reply quota key columns m = refl

module _ (quotas : Quotas) (story : Story) (o g tenant : ℕ) (key : Bytes) (columns : List ℕ) (answer : Answer)
    (begun : story.asked g ≡ Some (record { tenant = tenant; command = Get key columns })) (done : Finished story g answer) (none : NoWriteBetween story o g tenant key) where
  -- behind a step of o, and with no o left, the get is told of the row that its key has there
  behind_write : (w : Option Stamped) (at : ℕ) → owner story at ≡ Some o → (maps : Maps) (before : ℕ) (ps : Placing) → at ≤ before
      → Along (MayStand quotas story) quotas story maps before ps → Along (HasReply quotas story) quotas story maps before ps
      → count_of o ps ≡ 0 → pairs.get (maps tenant) key ≡ w → StandsIn ps g → answer.reply ≡ told_of_row columns w
  behind_write w at own maps before [] le may legal left row s = absurd (none_stands g s)
  behind_write w at own maps before (p ∷ ps) le may legal left row s = elim (here_or_behind p ps g s) [
    | inl is ↦
        let what : Asked = record { tenant = tenant; command = Get key columns } in
        let told = legal.0 answer what (subst (λ q. Finished story q answer) (sym is) done) (ap story.asked is ∙ begun) in
        told.1 ∙ get_reply (quotas tenant) key columns (maps tenant) ∙ ap (told_of_row columns) row
    | inr later ↦ by (eqb p.0 o) refl later (λ up none_left same. behind_write w at own (maps_after_one quotas p.1 (story.asked p.0) maps) p.1 ps up may.1 legal.1 none_left same later)
  ]
    where
      by : (b : Bool) → eqb p.0 o ≡ b → StandsIn ps g
          → (at ≤ p.1 → count_of o ps ≡ 0 → pairs.get (maps_after_one quotas p.1 (story.asked p.0) maps tenant) key ≡ w → answer.reply ≡ told_of_row columns w) → answer.reply ≡ told_of_row columns w
      by true is later rest = absurd (omega (arith, left, count_here p ps o (eqb-true p.0 o is)))
      by false other later rest =
          let c = may.0.command in
          let at_g = stands_at quotas story (maps_after_one quotas p.1 (story.asked p.0) maps) p.1 ps g may.1 later in
          let end_g = at_g.3 answer done in
          let apart : p.0 ≢ o = λ is. let yes = eq-eqb p.0 o is in absurd (cc) in
          let beside : c.0.tenant ≡ tenant → is_change (reply_in quotas c.0 maps) ≡ true → IsWriteOf key c.0.command → ⊥ = λ same change write.
          let owns = (c.3 change).1 in
          elim (none p.0 c.0 apart c.1 same write) [
            | inl precedes ↦ let lt = precedes p.1 at owns own in absurd (omega (arith, le, may.0.rises))
            | inr follows ↦ let lt = follows end_g.0 p.1 end_g.2 owns in absurd (omega (arith, at_g.1, end_g.1))
          ] in
          rest (omega (arith, le, may.0.rises)) (sym (count_behind p ps o other) ∙ left)
          (ap (λ x. pairs.get (maps_after_one quotas p.1 x maps tenant) key) c.1 ∙ row_stays quotas p.1 c.0 maps tenant key beside ∙ row)

  module _ (write : Command) (ended_as : Answer) (wrote : story.asked o ≡ Some (record { tenant = tenant; command = write })) (ended : Finished story o ended_as)
      (change : is_change ended_as.reply ≡ true) (precedes : Precedes story o g) (P : Option Stamped → Type 0)
      (leaves : (m : Map) → is_change (reply_of (quotas tenant) write m) ≡ true → P (pairs.get (map_after (quotas tenant) ended_as.at write m) key)) where
    -- a get that a write of its key precedes is told of a row that the write left
    pub reads_write : (maps : Maps) (before : ℕ) (ps : Placing) → Along (MayStand quotas story) quotas story maps before ps → Along (HasReply quotas story) quotas story maps before ps
        → count_of o ps ≡ 1 → StandsIn ps g → (w : Option Stamped) × P w × (answer.reply ≡ told_of_row columns w)
    reads_write maps before [] may legal once s = absurd (none_stands g s)
    reads_write maps before (p ∷ ps) may legal once s = by (eqb p.0 o) refl (here_or_behind p ps g s) (reads_write (maps_after_one quotas p.1 (story.asked p.0) maps) p.1 ps may.1 legal.1)
      where
        by : (b : Bool) → eqb p.0 o ≡ b → (p.0 ≡ g) ⊎ StandsIn ps g → (count_of o ps ≡ 1 → StandsIn ps g → (w : Option Stamped) × P w × (answer.reply ≡ told_of_row columns w))
            → (w : Option Stamped) × P w × (answer.reply ≡ told_of_row columns w)
        by true same here rest =
            let is : p.0 ≡ o = eqb-true p.0 o same in
            let what : Asked = record { tenant = tenant; command = write } in
            let asked_so : story.asked p.0 ≡ Some what = ap story.asked is ∙ wrote in
            let told = legal.0 ended_as what (subst (λ q. Finished story q ended_as) (sym is) ended) asked_so in
            let changes : is_change (reply_of (quotas tenant) write (maps tenant)) ≡ true = ap is_change (sym told.1) ∙ change in
            let c = may.0.command in
            let mine : what ≡ c.0 = same_Some what c.0 (sym asked_so ∙ c.1) in
            let owns : owner story p.1 ≡ Some o = (c.3 (ap (λ (x : Asked). is_change (reply_in quotas x maps)) (sym mine) ∙ changes)).1 ∙ ap (λ q. Some q) is in
            let named : p.1 ≡ ended_as.at = (may.0.finished ended_as (subst (λ q. Finished story q ended_as) (sym is) ended)).1 in
            let row = ap (λ x. pairs.get (maps_after_one quotas p.1 x maps tenant) key) asked_so ∙ ap (λ m. pairs.get m key) (own_map quotas p.1 what maps)
            ∙ ap (λ n. pairs.get (map_after (quotas tenant) n write (maps tenant)) key) named in
            let left : count_of o ps ≡ 0 = omega (arith, once, count_here p ps o is) in
            let later : StandsIn ps g = elim here [
              | inl also ↦ let lt = precedes p.1 p.1 owns (owns ∙ ap (λ q. Some q) (sym is ∙ also)) in absurd (omega arith)
              | inr later ↦ later
            ] in (
              pairs.get (map_after (quotas tenant) ended_as.at write (maps tenant)) key,
              leaves (maps tenant) changes,
              behind_write _ p.1 owns (maps_after_one quotas p.1 (story.asked p.0) maps) p.1 ps (omega arith) may.1 legal.1 left row later,
            )
        by false other (inl is) rest =
            absurd (not_behind quotas story maps before p ps o ended_as ended (subst (Precedes story o) (sym is) precedes) may (stands_of_count (p ∷ ps) o (omega (arith, once))))
        by false other (inr later) rest = rest (sym (count_behind p ps o other) ∙ once) later

-- an answer to a get, put or remove that memory did not stop is a placed one
placed_answer : (story : Story) (o : ℕ) (answer : Answer) (what c : Asked) → story.asked o ≡ Some what → story.asked o ≡ Some c → answer.command ≡ c.command → is_scan what.command ≡ false
    → is_no_memory answer.reply ≡ false → is_placed answer ≡ true
placed_answer story o answer what c begun asked_so command no_scan remembered =
    let same : c ≡ what = same_Some c what (sym asked_so ∙ begun) in
    and_from _ _ (not_from_false _ (ap is_scan command ∙ ap (λ (x : Asked). is_scan x.command) same ∙ no_scan)) (not_from_false _ remembered)

module _ (quotas : Quotas) (first : Maps) (story : Story) (order : HasOneOrder quotas first story) where
  -- an operation that was told a reply, and no scan, is counted once
  pub once_told : (o tenant : ℕ) (command : Command) (reply : Reply) → is_scan command ≡ false → is_no_memory reply ≡ false → WasTold story o tenant command reply → count_of o order.0 ≡ 1
  once_told o tenant command reply no_scan remembered was =
      let c = order.1.commands o was.answer was.finished in
      order.1.finished o was.answer was.finished
      (placed_answer story o was.answer (record { tenant = tenant; command = command }) c.0 was.begun c.1 c.2 no_scan (ap is_no_memory was.told ∙ remembered))

  -- a get that a write of its key precedes is told of a row that the write left
  get_behind : (o g tenant : ℕ) (key : Bytes) (columns : List ℕ) (write : Command) (told reply : Reply) → is_scan write ≡ false → (put : WasTold story o tenant write told) → is_change told ≡ true
      → WasTold story g tenant (Get key columns) reply → is_no_memory reply ≡ false → Precedes story o g → NoWriteBetween story o g tenant key → (P : Option Stamped → Type 0)
      → ((m : Map) → is_change (reply_of (quotas tenant) write m) ≡ true → P (pairs.get (map_after (quotas tenant) put.answer.at write m) key)) → (w : Option Stamped) × P w × (reply ≡ told_of_row columns w)
  get_behind o g tenant key columns write told reply no_scan put change get remembered precedes none P leaves =
      let once = once_told o tenant write told no_scan (change_remembered told change) put in
      let got = once_told g tenant (Get key columns) reply refl remembered get in
      let w = reads_write quotas story o g tenant key columns get.answer get.begun get.finished none write put.answer put.begun put.finished (ap is_change put.told ∙ change) precedes P leaves
      first story.base order.0 order.1.stands order.2 once (stands_of_count order.0 g (omega (arith, got))) in
      (w.0, w.1, sym get.told ∙ w.2)

-- a get that a put of its key precedes is told of a row that the put made
pub reads_put : (quotas : Quotas) (first : Maps) (story : Story) (o g tenant : ℕ) (key : Bytes) (change : Named) (columns : List ℕ) (told reply : Reply) → HasOneOrder quotas first story
    → (put : WasTold story o tenant (Put key change) told) → is_change told ≡ true → WasTold story g tenant (Get key columns) reply → is_no_memory reply ≡ false → Precedes story o g
    → NoWriteBetween story o g tenant key → (old : Option Stamped) × (reply ≡ Found (as_shown columns (written put.answer.at change old)))
reads_put quotas first story o g tenant key change columns told reply order put changes get remembered precedes none =
    let w = get_behind quotas first story order o g tenant key columns (Put key change) told reply refl put changes get remembered precedes none
    (λ w. (old : Option Stamped) × (w ≡ Some (written put.answer.at change old))) (λ m e. (pairs.get m key, row_after_put (quotas tenant) put.answer.at key change m e)) in
    (w.1.0, w.2 ∙ ap (told_of_row columns) w.1.1)

-- and one that a remove of its key precedes is told Absent
pub reads_remove : (quotas : Quotas) (first : Maps) (story : Story) (o g tenant : ℕ) (key : Bytes) (columns : List ℕ) (told reply : Reply) → HasOneOrder quotas first story
    → WasTold story o tenant (Remove key) told → is_change told ≡ true → WasTold story g tenant (Get key columns) reply → is_no_memory reply ≡ false → Precedes story o g
    → NoWriteBetween story o g tenant key → reply ≡ Absent
reads_remove quotas first story o g tenant key columns told reply order remove changes get remembered precedes none =
    let w = get_behind quotas first story order o g tenant key columns (Remove key) told reply refl remove changes get remembered precedes none
    (λ w. w ≡ None) (λ m e. row_after_remove (quotas tenant) remove.answer.at key m) in
    w.2 ∙ ap (told_of_row columns) w.1
