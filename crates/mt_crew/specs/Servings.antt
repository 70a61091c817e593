-- What a worker has become when its crew is done.
use Rattle.std.specs.{Prelude.{◌≡◌, ℕ, Bool, not, List, length, take, count_by}, List.FoldsTo}
use Rattle.mt_crew.specs.declared.crew.Served.{Served}

-- how many sessions of a worker are counted at most
abbrev pub most_counted : ℕ
most_counted = 4294967295

-- Sessions with these ends, one after the other, led a worker to what came back. The first of them are counted, and of these, those that ended
-- otherwise than they should.
pub record IsServed {W : Type 0} (serves : W → Bool → W → Type 0) (worker : W) (served : Served W) : Type 0 where
  pub ends : List Bool
  pub led : FoldsTo serves worker ends served.worker
  pub sessions : served.sessions ≡ length (take most_counted ends)
  pub others : served.others ≡ count_by not (take most_counted ends)
