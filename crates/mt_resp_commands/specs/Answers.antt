-- What each thing that is asked asks of the store, and how it is told: one table.
use Rattle.std.specs.{Prelude.{◌≡◌, ℕ, Bool, true, false, List, [], ◌++◌, length, Option, Some, None, Result, Ok, Err, ◌⊎◌}, List.flat_map}
use Rattle.mt_rows.specs.{Rows.Bytes, declared.refusal.Refusal.Refusal}
use Rattle.mt_caller.specs.Exchanges.{Opens, Settles, CallerRelation}
use Rattle.mt_resp.specs.{Replies.told_text, Numbers.number_line, Shapes.{told_of, picked_of}, declared.{asked.Asked.Asked, told.Told.Told}}
use Rattle.mt_resp.specs.declared.asked.Asked.TheVariants as asks
use Rattle.mt_resp.specs.declared.told.Told.TheVariants as told
use Rattle.mt_resp_commands.specs.{declared.link.Link.Link, Knowing.{Reports, KnowledgeRelation}, Links.{ButSettles, IsTold, refused}}
use Rattle.mt_resp_commands.specs.Links as links
use Rattle.mt_resp_commands.specs.{Lists.{AreTold, IsFolded, plus, both}, Changes.{IsChanged, IsTaken}, Scans.{IsScanned, IsRanged}, Clears.IsAllCleared}

-- a connection at its beginning
abbrev pub fresh : Link
fresh = record { tenant = 0; is_open = false }

-- what is told of an opening
abbrev pub select_told : Option Refusal → Told
select_told None = told.Fine
select_told (Some refusal) = refused refusal

-- The link after a SELECT. If it was refused the tenant is the one before, which has to be opened again.
abbrev pub select_after : Link → ℕ → Option Refusal → Link
select_after link number None = record { tenant = number; is_open = true }
select_after link number (Some refusal) = record link { is_open = false }

-- what is told of a Settle
abbrev pub settle_told : Result ℕ Refusal → Told
settle_told (Ok number) = told.Settled
settle_told (Err refusal) = refused refusal

-- whether a list is told
abbrev pub is_list : Asked → Bool
is_list (asks.Each commands shape) = true
is_list asked = false

-- what the caller was asked for it: a Settle for a Settle alone
abbrev pub AskedFor : {S : Type 0} → CallerRelation S → Asked → S → S → Type 0
AskedFor exchanges asks.Settle old new = links.Asked exchanges old new
AskedFor exchanges asked old new = links.Asked (ButSettles exchanges) old new

module _ {S : Type 0} (exchanges : CallerRelation S) (knows : KnowledgeRelation S) where
  -- What is told, if it is one thing.
  abbrev pub IsOne : Link → S → Asked → Told → Link → S → Type 0
  IsOne link old (asks.Told one) shown next new = (shown ≡ one) × (next ≡ link) × (new ≡ old)
  IsOne link old (asks.Select number) one next new =
      (refusal : Option Refusal) × exchanges old (Opens number refusal) new × (one ≡ select_told refusal) × (next ≡ select_after link number refusal)
  IsOne link old asks.Reset one next new = (one ≡ told.Reset) × (next ≡ fresh) × (new ≡ old)
  IsOne link old asks.Quit one next new = (one ≡ told.Fine) × (next ≡ link) × (new ≡ old)
  IsOne link old asks.Close one next new = (one ≡ told.Nothing) × (next ≡ link) × (new ≡ old)
  IsOne link old (asks.Call command shape) one next new = IsTold exchanges link old command (told_of shape) one next new
  IsOne link old (asks.Pick command indexes) one next new = IsTold exchanges link old command (λ reply. picked_of reply indexes) one next new
  IsOne link old (asks.Each commands shape) one next new = ⊥
  IsOne link old (asks.Sum commands shape) one next new = IsFolded exchanges link old commands (told_of shape) plus (told.Number 0) one next new
  IsOne link old (asks.All commands shape) one next new = IsFolded exchanges link old commands (told_of shape) both told.Fine one next new
  IsOne link old (asks.Change key edit) one next new = IsChanged exchanges link old key edit one next new
  IsOne link old (asks.Take key) one next new = IsTaken exchanges link old key one next new
  IsOne link old (asks.Scan cursor pattern count) one next new = IsScanned exchanges knows link old cursor pattern count one next new
  IsOne link old (asks.Range from way count stamps) one next new = IsRanged exchanges link old from way count stamps one next new
  IsOne link old (asks.Clear counted) one next new = IsAllCleared exchanges link old counted one next new
  IsOne link old asks.Settle one next new = (answer : Result ℕ Refusal) × exchanges old (Settles answer) new × (one ≡ settle_told answer) × (next ≡ link)
  IsOne link old (asks.Status status) one next new = knows old (Reports link.tenant status one) × (next ≡ link) × (new ≡ old)

  -- the text of a list, if it is one
  abbrev pub IsListed : Link → S → Asked → Bytes → Link → S → Type 0
  IsListed link old (asks.Each commands shape) text next new =
      (ones : List Told) × AreTold exchanges link old commands (told_of shape) ones next new × (text ≡ number_line 42 (length commands) ++ flat_map told_text ones)
  IsListed link old asked text next new = ⊥

  -- The text that answers what was asked, of a connection with this link and over a caller in the state old. Of several commands that are
  -- shown each, the text is a list.
  abbrev pub IsAnswer : Link → S → Asked → Bytes → Link → S → Type 0
  IsAnswer link old asked text next new =
      ((one : Told) × IsOne link old asked one next new × (text ≡ told_text one)) ⊎ IsListed link old asked text next new
