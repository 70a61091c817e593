-- What the stamp of a pair that stands tells: for loads, and for what an operation keeps that remembers a slot.
use Rattle.std.proofs.Common.{◌≡◌, ℕ, ◌<◌, ◌≤◌, Bool, true, false, cond, length, Some, refl, sym, ap, subst, ◌∙◌, arith}
use Rattle.std.{proofs.lemmas.List.Elements.All-contains, specs.{List.Contains, FinMap.get}}
use Rattle.mt_rows.specs.Rows.{Bytes}
use Rattle.mt_border.{specs.{Held.Pair, Contents.{owned, row_of}}, proofs.{Edits.any_entry, ContentsKeys.owned_at}}
use Rattle.mt_tape.{specs.{declared.entry.Entry.{Entry as Write}, Histories.{contents_at, written_key, after_of}}, proofs.TapeLaws.get-contents_at}
use Rattle.mt_arena.specs.{Layers.slot_at, declared.tree.Standing.Standing, declared.tree.Standing.TheVariants.Live, Contents.is_live, Arena.{IsArena, content_of}, Accesses.{at, tree_of}, Ways.StandsFor}
use Rattle.mt_arena.proofs.Owners.{found}
use Rattle.mt_descent.specs.Pasts.{Past, AreStamped}
use Rattle.mt_state.specs.{Views.{Core, past_of}, Invariant.{IsStampOf, IsTape, AreStamps}}
use Rattle.mt_arena.proofs.Homes as homes

-- the pairs of live nodes of live trees count
counts_live : (deleted : Bool) (s : Standing) → deleted ≡ false → s ≡ Live → cond deleted false (is_live s) ≡ true
counts_live true s live tree = absurd (cc)
counts_live false s live tree = ap is_live tree

module _ (c : Core) (stamps : AreStamps c) (arena : IsArena c.arena.nodes c.arena.trees) where
  -- what is known of the stamp of a pair that stands
  pub stamp_of : (key : Bytes) (layer k i : ℕ) (pair : Pair) → StandsFor c.arena.nodes c.arena.trees key layer k i pair
      → IsStampOf c.steps c.tape (owned key) pair.stamp
  stamp_of key layer k i pair s =
      let n = at c.arena k in
      subst (λ q. IsStampOf c.steps c.tape q pair.stamp) (owned_at (tree_of c.arena k).prefix layer (slot_at n i) key pair s.has s.pair_is)
      (stamps k s.there (counts_live n.version.deleted (tree_of c.arena k).standing s.live s.tree_live) i any_entry s.in_range pair s.pair_is)

  -- and the contents have its row with its stamp
  pub row_stands : (key : Bytes) (layer k i : ℕ) (pair : Pair) → StandsFor c.arena.nodes c.arena.trees key layer k i pair
      → get (content_of c.arena) (owned key) ≡ Some (row_of pair)
  row_stands key layer k i pair s = found c.arena.nodes c.arena.trees arena (homes.begun c.arena.nodes c.arena.trees arena.forest) key layer k i pair s

  -- each pair has stood since the step of its stamp
  pub stamped : (past : Past) → c.steps ≤ past.steps → ((n : ℕ) → past.contents n ≡ contents_at c.tape.entries (content_of c.arena) n) → AreStamped past c.arena
  stamped past steps same key layer k i pair s =
      let stamp = stamp_of key layer k i pair s in
      record {
        made = omega (arith, stamp.0, steps);
        stood =
            λ n since upto. ap (λ m. get m (owned key)) (same n) ∙ get-contents_at c.tape.entries (content_of c.arena) (owned key) pair.stamp n stamp.1 since ∙ row_stands key layer k i pair s;
      }

  -- so in the state's own past
  pub stamped_now : AreStamped (past_of c) c.arena
  stamped_now = stamped (past_of c) (omega arith) (λ n. refl)

  -- the write of a row that stands since its step left that row
  pub row_written : (key : Bytes) (layer k i : ℕ) (pair : Pair) (e : Write) → StandsFor c.arena.nodes c.arena.trees key layer k i pair
      → IsTape c → Contains c.tape.entries e → e.step ≡ pair.stamp → written_key e ≡ owned key → after_of e ≡ Some (row_of pair)
  row_written key layer k i pair e s tape has step is =
      let stamp = stamp_of key layer k i pair s in
      sym (All-contains (λ x. get (contents_at c.tape.entries (content_of c.arena) x.step) (written_key x) ≡ after_of x) c.tape.entries e tape.legal has)
      ∙ ap (get (contents_at c.tape.entries (content_of c.arena) e.step)) is
      ∙ get-contents_at c.tape.entries (content_of c.arena) (owned key) pair.stamp e.step stamp.1 (omega (arith, step))
      ∙ row_stands key layer k i pair s
