-- Commands one after the other, as a loop asks them.
use Rattle.std.proofs.Common.{◌≡◌, List, [], ◌∷◌, ◌++◌, length, take, drop, refl, sym, ap, ◌∙◌, append_assoc, append-nil}
use Rattle.std.proofs.lemmas.List.{take-append-drop, take_at}
use Rattle.std.proofs.lemmas.List.Concat.{flat_map-cons}
use Rattle.std.specs.List.{flat_map}
use Rattle.mt_rows.specs.{Rows.Bytes, declared.command.Command.Command, declared.reply.Reply.Reply}
use Rattle.mt_caller.specs.Exchanges.{CallerRelation}
use Rattle.mt_resp.specs.{Replies.told_text, declared.told.Told.Told}
use Rattle.mt_resp_commands.specs.{declared.link.Link.Link, Links.IsTold, Lists.{AreTold, folded}}

module _ {S : Type 0} (exchanges : CallerRelation S) (shown : Reply → Told) where
  -- Whatever is told of the commands that are left, all together are told so, and they fold to what those that are left fold to.
  abbrev pub Continues : (Told → Told → Told) → Told → Link → S → List Command → Told → Link → S → List Command → Type 0
  Continues f first link old commands so_far between mid rest =
      (ones : List Told) (next : Link) (new : S) → AreTold exchanges between mid rest shown ones next new
      → (all : List Told) × AreTold exchanges link old commands shown all next new × (folded f first all ≡ folded f so_far ones)

  pub begins : (f : Told → Told → Told) (first : Told) (link : Link) (old : S) (commands : List Command) → Continues f first link old commands first link old commands
  begins f first link old commands ones next new told = (ones, told, refl)

  pub goes_on : (f : Told → Told → Told) (first so_far one : Told) (link between after : Link) (old mid next : S) (commands left rest : List Command) (command : Command)
      → left ≡ command ∷ rest → IsTold exchanges between mid command shown one after next
      → Continues f first link old commands so_far between mid left → Continues f first link old commands (f so_far one) after next rest
  goes_on f first so_far one link between after old mid next commands left rest command e told cont ones last new more =
      let c : Continues f first link old commands so_far between mid (command ∷ rest) = rw e at cont in
      c (one ∷ ones) last new (after, next, told, more)

  pub ends : (f : Told → Told → Told) (first so_far : Told) (link between : Link) (old mid : S) (commands left : List Command)
      → left ≡ [] → Continues f first link old commands so_far between mid left
      → (all : List Told) × AreTold exchanges link old commands shown all between mid × (so_far ≡ folded f first all)
  ends f first so_far link between old mid commands left e cont =
      let c : Continues f first link old commands so_far between mid [] = rw e at cont in
      let all = c [] between mid (refl, refl) in (all.0, all.1, sym all.2)

  -- the same of texts that are written
  abbrev pub WritesOn : Bytes → Link → S → List Command → Bytes → Link → S → List Command → Type 0
  WritesOn held link old commands put between mid rest =
      (ones : List Told) (next : Link) (new : S) → AreTold exchanges between mid rest shown ones next new
      → (all : List Told) × AreTold exchanges link old commands shown all next new × (held ++ flat_map told_text all ≡ put ++ flat_map told_text ones)

  pub write_begins : (held : Bytes) (link : Link) (old : S) (commands : List Command) → WritesOn held link old commands held link old commands
  write_begins held link old commands ones next new told = (ones, told, refl)

  pub write_goes_on : (held put next_put : Bytes) (one : Told) (link between after : Link) (old mid next : S) (commands left rest : List Command) (command : Command)
      → left ≡ command ∷ rest → IsTold exchanges between mid command shown one after next → next_put ≡ put ++ told_text one
      → WritesOn held link old commands put between mid left → WritesOn held link old commands next_put after next rest
  write_goes_on held put next_put one link between after old mid next commands left rest command e told g cont ones last new more =
      let c : WritesOn held link old commands put between mid (command ∷ rest) = rw e at cont in
      let all = c (one ∷ ones) last new (after, next, told, more) in (
        all.0,
        all.1,
        all.2 ∙ ap (λ (x : Bytes). put ++ x) (flat_map-cons told_text one ones) ∙ sym (append_assoc put (told_text one) (flat_map told_text ones)) ∙ ap (λ (x : Bytes). x ++ flat_map told_text ones) (sym g),
      )

  pub write_ends : (held put : Bytes) (link between : Link) (old mid : S) (commands left : List Command)
      → left ≡ [] → WritesOn held link old commands put between mid left
      → (all : List Told) × AreTold exchanges link old commands shown all between mid × (put ≡ held ++ flat_map told_text all)
  write_ends held put link between old mid commands left e cont =
      let c : WritesOn held link old commands put between mid [] = rw e at cont in
      let all = c [] between mid (refl, refl) in (all.0, all.1, sym (append-nil put) ∙ sym all.2)

-- what stands at the front of the middle stands at the front of the new
pub front_then : (old mid new more : Bytes) → mid ≡ old ++ more → take (length mid) new ≡ mid → take (length old) new ≡ old
front_then old mid new more e f =
    let whole : new ≡ old ++ (more ++ drop (length mid) new) = sym (take-append-drop (length mid) new) ∙ ap (λ x. x ++ drop (length mid) new) (f ∙ e) ∙ append_assoc old more (drop (length mid) new) in
    ap (take (length old)) whole ∙ take_at old (more ++ drop (length mid) new) (length old) refl

pub front_of : (old new more : Bytes) → new ≡ old ++ more → take (length old) new ≡ old
front_of old new more e = ap (take (length old)) e ∙ take_at old more (length old) refl
