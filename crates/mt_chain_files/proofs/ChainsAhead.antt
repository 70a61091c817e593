-- Each chain of an opening can be read again whole, over disks that keep the rules.
use Rattle.std.proofs.Common.{◌≡◌, ℕ, zero, suc, ◌+◌, Bool, IsTrue, List, ◌++◌, refl, sym, ◌∙◌, ap, subst, arith, Option, Some, None}
use Rattle.std.proofs.lemmas.{Bool.ne_eqb, Option.same_Some}
use Rattle.std.specs.Prelude.{slice_get, if◌then◌else◌}
use Rattle.mt_disk.specs.Disk.{DiskState}
use Rattle.mt_log.specs.{declared.batch.{Front.Front}, declared.reader.FileKind.TheVariants.{Plain, Numbered}, Contents.{Contents, contents_of}, Fronts.IsOfKind}
use Rattle.mt_log_generations.specs.Headers.{parity_of}
use Rattle.mt_crashes.{specs.Bases.Slots, proofs.Members.no_some}
use Rattle.mt_generations.specs.{Chains.Chain, Standings.{Standing, joined, chain_from}}
use Rattle.mt_recover.specs.{declared.resuming.LogSlot.LogSlot, declared.resuming.LogSlot.TheVariants.{Open, Failed, Closed, Away}}
use Rattle.mt_chains.specs.{Files.standing_of, Testing.is_there}
use Rattle.mt_log_files.specs.{declared.worker.WorkerFiles.WorkerFiles, Slots.{disk_in, file_of}}
use Rattle.mt_chain_files.specs.{declared.opening.Chains.Chains, Chosen.OpensChains, Rereads.{kind_of, next_of, reader_from, AreHonest, LogIsAhead, LogsAreAhead, ChainIsAhead}}
use Rattle.mt_chain_files.proofs.Lasts.{StandsIn, each_open, open_all, chain_at}

of_kind : (h : ℕ) → IsOfKind (kind_of h) h
of_kind zero = refl
of_kind (suc n) =
    let later : IsOfKind (Numbered (parity_of (suc n))) (suc n) = (omega arith, refl) in
    subst (λ (b : Bool). IsOfKind (if b then Plain else Numbered (parity_of (suc n))) (suc n)) (sym (ne_eqb (suc n) 0 (λ e. omega (arith, e)))) later

module _ {D : Type 0} (is_honest : D → Bool) (state : D → DiskState) where
  -- a log that stands has all its batches to give
  log_ahead : (h : ℕ) (c : Contents) (slot : LogSlot D) → ((disk : D) → disk_in slot ≡ Some disk → IsTrue (is_honest disk)) → c.generation ≡ h → StandsIn is_honest state c slot
      → LogIsAhead is_honest state (kind_of h) c.batches slot None
  log_ahead h c (Open log) honest of stands =
      let so = honest log.disk refl in
      record { log = log; there = refl; honest = so; ahead = (c, stands.1 so, subst (IsOfKind (kind_of h)) (sym of) (of_kind h), refl) }
  log_ahead h c (Failed log) honest of stands = absurd stands
  log_ahead h c (Closed disk) honest of stands = absurd stands
  log_ahead h c Away honest of stands = absurd stands

  -- so has a chain
  chain_ahead : (g : ℕ) (f : Standing) (files : WorkerFiles D) (c : Chain) → ((h : ℕ) (d : Contents) → f h ≡ Some d → LogIsAhead is_honest state (kind_of h) d.batches (file_of h files) None)
      → chain_from g f ≡ Some c → LogsAreAhead is_honest state g (next_of g (Some (is_there (f (g + 1))))) c.batches files None
  chain_ahead g f files c each from = by (f g) refl (f (g + 1)) refl from
    where
      by : (x : Option Chain) → f g ≡ x → (y : Option Chain) → f (g + 1) ≡ y → joined x y ≡ Some c → LogsAreAhead is_honest state g (next_of g (Some (is_there y))) c.batches files None
      by None first y next e = absurd (no_some c e)
      by (Some a) first None next e = each g c (first ∙ e)
      by (Some a) first (Some b) next e =
          (a.batches, b.batches, sym (ap (λ (d : Chain). d.batches) (same_Some (record a { batches = a.batches ++ b.batches }) c e)), refl, each g a first, each (g + 1) b next)

  module _ (failures : D → ℕ) (slots : Slots) (old new : List (WorkerFiles D)) (chains : Chains) (opens : OpensChains is_honest state failures slots old new chains) where
    pub ahead_of : (k : ℕ) (front : Front) (files : WorkerFiles D) → slice_get chains.fronts.items k ≡ Some front → slice_get new k ≡ Some files → AreHonest is_honest files
        → (begun : Bool) → slice_get chains.begun.items k ≡ Some begun → ChainIsAhead is_honest state (contents_of front).batches files (reader_from chains.generation (Some begun))
    ahead_of k front files there stands honest begun told =
        let r = opens.reads in
        let n = r.numbered.counting in
        let c = chain_at is_honest state failures slots old new chains opens k front there in
        let all = open_all is_honest state failures slots n.from r.numbered.told n.before r.between new r.first r.logs n.opens r.plain k c.one files c.there stands in
        subst (λ (b : Bool). ChainIsAhead is_honest state (contents_of front).batches files (reader_from chains.generation (Some b)))
        (same_Some (is_there (standing_of c.one (chains.generation + 1))) begun (sym c.begun ∙ told))
        (chain_ahead chains.generation (standing_of c.one) files (contents_of front)
        (λ h d is. let o = each_open is_honest state c.one files all h d is in log_ahead h d (file_of h files) (honest h) o.1 o.0)
        c.from)
