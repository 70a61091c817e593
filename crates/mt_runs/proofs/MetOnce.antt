-- At most one put that asks for a row's stamp changes the row: for the law of puts on condition.
use Rattle.mt_rows.proofs.CommandLaws.{get_after_put_if, put_if_met, row_after, same_map_after}
use Rattle.mt_rows.specs.{Changes.Named, Maps.{is_change, map_after, reply_of}, Rows.Bytes, Stamps.{IsRowAfter, Stamped, stamp_in}}
use Rattle.mt_rows.specs.{declared.command.Command.TheVariants.PutIf, declared.reply.Reply.Reply}
use Rattle.mt_runs.proofs.{Order.change_remembered, OwnWrites.{once_told, own_map}, Precedence.{here_or_behind, none_stands, stands_of_count}}
use Rattle.mt_runs.specs.{Orders.{StandsIn, WasTold}, Placings.{Along, HasOneOrder, HasReply, Maps, MayStand, Placing, Quotas, maps_after_one, reply_in}}
use Rattle.mt_runs.specs.{Runs.{Asked, Finished, Story}, declared.event.Answer.Answer}
use Rattle.std.proofs.Common.{Bool, Option, Some, [], ap, arith, cond, eqb, false, inl, inr, refl, subst, sym, true, ℕ, ◌<◌, ◌∙◌, ◌∷◌, ◌≡◌, ◌≢◌, ◌≤◌, ◌⊎◌}
use Rattle.std.proofs.{lemmas.Bool.eqb-true, lemmas.Option.same_Some}
use Rattle.std.specs.FinMap as pairs

-- the stamp at a tenant's key
abbrev stamp_at : ℕ → Bytes → Maps → ℕ
stamp_at tenant key maps = stamp_in (pairs.get (maps tenant) key)

-- a stamp after the command of a number: as it was; or, if the numbers rose, none or that number
abbrev Follows : ℕ → ℕ → ℕ → ℕ → Type 0
Follows before m old new = (new ≡ old) ⊎ ((before < m) × ((new ≡ 0) ⊎ (new ≡ m)))

follows_row : (before m : ℕ) (old new : Option Stamped) → before < m → IsRowAfter m old new → Follows before m (stamp_in old) (stamp_in new)
follows_row before m old new lt (inl same) = inl (ap stamp_in same)
follows_row before m old new lt (inr (inl gone)) = inr (lt, inl (ap stamp_in gone))
follows_row before m old new lt (inr (inr (change, is))) = inr (lt, inr (ap stamp_in is))

module _ (quotas : Quotas) (story : Story) (tenant : ℕ) (key : Bytes) where
  -- by a command that may stand there
  follows : (maps : Maps) (before : ℕ) (x : ℕ × ℕ) → MayStand quotas story maps before x.0 x.1
      → Follows before x.1 (stamp_at tenant key maps) (stamp_at tenant key (maps_after_one quotas x.1 (story.asked x.0) maps))
  follows maps before x may =
      let c = may.command in
      subst (λ a. Follows before x.1 (stamp_at tenant key maps) (stamp_at tenant key (maps_after_one quotas x.1 a maps))) (sym c.1)
      (by c.0 (λ e. (c.3 e).0) (eqb tenant c.0.tenant) refl (is_change (reply_of (quotas tenant) c.0.command (maps tenant))) refl)
    where
      by : (a : Asked) → (is_change (reply_in quotas a maps) ≡ true → before < x.1) → (b : Bool) → eqb tenant a.tenant ≡ b → (d : Bool) → is_change (reply_of (quotas tenant) a.command (maps tenant)) ≡ d
          → Follows before x.1 (stamp_at tenant key maps) (stamp_in (pairs.get (cond b (map_after (quotas tenant) x.1 a.command (maps tenant)) (maps tenant)) key))
      by a rises false other d e = inl refl
      by a rises true same false e = inl (ap (λ m. stamp_in (pairs.get m key)) (same_map_after (quotas tenant) x.1 a.command (maps tenant) e))
      by a rises true same true e =
          let is : tenant ≡ a.tenant = eqb-true tenant a.tenant same in
          let lt : before < x.1 = rises (subst (λ u. is_change (reply_of (quotas u) a.command (maps u)) ≡ true) is e) in
          follows_row before x.1 (pairs.get (maps tenant) key) _ lt (row_after (quotas tenant) x.1 a.command (maps tenant) key)

  module _ (stamp : ℕ) (some : 0 < stamp) where
    -- a put that asked for the stamp, and was told of a change
    record Met (o : ℕ) : Type 0 where
      change : Named
      answer : Answer
      begun : story.asked o ≡ Some (record { tenant = tenant; command = PutIf key stamp change })
      done : Finished story o answer
      told : is_change answer.reply ≡ true

    -- when it stands, the stamp is at the key, and after it another one is
    here : (o : ℕ) → Met o → (maps : Maps) (before : ℕ) (x : ℕ × ℕ) → x.0 ≡ o → MayStand quotas story maps before x.0 x.1 → HasReply quotas story maps before x.0 x.1
        → (stamp_at tenant key maps ≡ stamp) × (before < x.1) × (stamp_at tenant key (maps_after_one quotas x.1 (story.asked x.0) maps) ≡ x.1)
    here o met maps before x is may has =
        let what : Asked = record { tenant = tenant; command = PutIf key stamp met.change } in
        let asked_so : story.asked x.0 ≡ Some what = ap story.asked is ∙ met.begun in
        let told = has met.answer what (subst (λ q. Finished story q met.answer) (sym is) met.done) asked_so in
        let changes : is_change (reply_of (quotas tenant) (PutIf key stamp met.change) (maps tenant)) ≡ true = ap is_change (sym told.1) ∙ met.told in
        let c = may.command in
        let mine : what ≡ c.0 = same_Some what c.0 (sym asked_so ∙ c.1) in
        let lt : before < x.1 = (c.3 (ap (λ (y : Asked). is_change (reply_in quotas y maps)) (sym mine) ∙ changes)).0 in
        let row = ap (λ y. pairs.get (maps_after_one quotas x.1 y maps tenant) key) asked_so ∙ ap (λ m. pairs.get m key) (own_map quotas x.1 what maps)
        ∙ get_after_put_if (quotas tenant) x.1 key stamp met.change (maps tenant) changes in
        (put_if_met (quotas tenant) key stamp met.change (maps tenant) changes, lt, ap stamp_in row)

    -- when the stamp was there and is no more, no such put stands
    never_again : (p : ℕ) → Met p → (maps : Maps) (before : ℕ) (ps : Placing) → Along (MayStand quotas story) quotas story maps before ps → Along (HasReply quotas story) quotas story maps before ps
        → stamp ≤ before → stamp_at tenant key maps ≢ stamp → StandsIn ps p → ⊥
    never_again p met maps before [] may legal le apart s = none_stands p s
    never_again p met maps before (x ∷ ps) may legal le apart s = elim (here_or_behind x ps p s) [
      | inl is ↦ apart (here p met maps before x is may.0 legal.0).0
      | inr later ↦
          never_again p met (maps_after_one quotas x.1 (story.asked x.0) maps) x.1 ps may.1 legal.1 (omega (arith, le, may.0.rises))
          (λ e. elim (follows maps before x may.0) [
            | inl same ↦ apart (sym same ∙ e)
            | inr (lt, inl none) ↦ absurd (omega (arith, none, e, some))
            | inr (lt, inr now) ↦ absurd (omega (arith, now, e, lt, le))
          ])
          later
    ]

    -- so two of them don't both stand
    not_both : (o p : ℕ) → Met o → Met p → o ≢ p → (maps : Maps) (before : ℕ) (ps : Placing) → Along (MayStand quotas story) quotas story maps before ps
        → Along (HasReply quotas story) quotas story maps before ps → stamp_at tenant key maps ≤ before → StandsIn ps o → StandsIn ps p → ⊥
    not_both o p met_o met_p apart maps before [] may legal le so sp = none_stands o so
    not_both o p met_o met_p apart maps before (x ∷ ps) may legal le so sp = elim (here_or_behind x ps o so) [
      | inl is ↦ first o p met_o met_p apart is sp
      | inr later_o ↦ elim (here_or_behind x ps p sp) [
        | inl is ↦ first p o met_p met_o (λ e. apart (sym e)) is so
        | inr later_p ↦
            not_both o p met_o met_p apart (maps_after_one quotas x.1 (story.asked x.0) maps) x.1 ps may.1 legal.1 (elim (follows maps before x may.0) [
              | inl same ↦ omega (arith, same, le, may.0.rises)
              | inr (lt, inl none) ↦ omega (arith, none)
              | inr (lt, inr now) ↦ omega (arith, now)
            ]) later_o later_p
      ]
    ]
      where
        first : (q r : ℕ) → Met q → Met r → q ≢ r → x.0 ≡ q → StandsIn (x ∷ ps) r → ⊥
        first q r met_q met_r other is sr = elim (here_or_behind x ps r sr) [
          | inl also ↦ other (sym is ∙ also)
          | inr later ↦
              let h = here q met_q maps before x is may.0 legal.0 in
              never_again r met_r (maps_after_one quotas x.1 (story.asked x.0) maps) x.1 ps may.1 legal.1 (omega (arith, h.0, h.1, le))
              (λ e. absurd (omega (arith, h.0, h.1, h.2, e, le))) later
        ]

-- two puts that asked for one stamp of a key's row are not both told of a change
pub met_once : (quotas : Quotas) (first : Maps) (story : Story) (o p tenant : ℕ) (key : Bytes) (stamp : ℕ) (change other : Named) (told reply : Reply) → HasOneOrder quotas first story
    → stamp_in (pairs.get (first tenant) key) ≤ story.base → 0 < stamp → o ≢ p
    → WasTold story o tenant (PutIf key stamp change) told → is_change told ≡ true → WasTold story p tenant (PutIf key stamp other) reply → is_change reply ≡ true → ⊥
met_once quotas first story o p tenant key stamp change other told reply order le some apart was_o changed_o was_p changed_p =
    let once_o = once_told quotas first story order o tenant (PutIf key stamp change) told refl (change_remembered told changed_o) was_o in
    let once_p = once_told quotas first story order p tenant (PutIf key stamp other) reply refl (change_remembered reply changed_p) was_p in
    let met_o : Met quotas story tenant key stamp some o = record { change = change; answer = was_o.answer; begun = was_o.begun; done = was_o.finished; told = ap is_change was_o.told ∙ changed_o } in
    let met_p : Met quotas story tenant key stamp some p = record { change = other; answer = was_p.answer; begun = was_p.begun; done = was_p.finished; told = ap is_change was_p.told ∙ changed_p } in
    not_both quotas story tenant key stamp some o p met_o met_p apart first story.base order.0 order.1.stands order.2 le
    (stands_of_count order.0 o (omega (arith, once_o))) (stands_of_count order.0 p (omega (arith, once_p)))
