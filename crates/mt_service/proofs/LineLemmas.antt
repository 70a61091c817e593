-- Parts of a server's output, and why it is none; for `run_server`.
use Rattle.std.{proofs.Common.{ℕ, [], ◌++◌, Option, Result, Ok, Err, OnErr, refl, ap, sym, ◌∙◌, append_assoc}, specs.Io.KnownBytes.Appends}
use Rattle.mt_rows.specs.Rows.{Bytes}
use Rattle.mt_streams.{specs.Failures.{NoFewer, Failed}, proofs.{FailureLemmas.then-Failed, StreamLemmas.{Appends-nil, Appends-trans}}}
use Rattle.mt_service.specs.{declared.faults.ServerFault.ServerFault, declared.faults.ServerFault.TheVariants.{Memory, Output}, Faults.{IsOfWriting, HasCause}}
use Rattle.mt_service.specs.Lines.{first_line, last_line, Begins, SaysAll, SaysPart}

-- what holds in any case holds if there is an error
pub on_any : {T E P : Type 0} (r : Result T E) → P → OnErr r P
on_any (Ok x) p = tt
on_any (Err e) p = p

-- nothing
pub says_nothing : (held : Option Bytes) (sessions : ℕ) → SaysPart held held sessions
says_nothing held sessions = (0, 0, ([], (first_line 0 ++ last_line sessions 0, refl), Appends-nil held))

-- a beginning of the first line
pub says_less : (held holds : Option Bytes) (port sessions : ℕ) → Begins held holds (first_line port) → SaysPart held holds sessions
says_less held holds port sessions (written, (lost, parts), appended) =
    (port, 0, (written, (lost ++ last_line sessions 0, sym (append_assoc written lost (last_line sessions 0)) ∙ ap (λ (text : Bytes). text ++ last_line sessions 0) parts), appended))

-- the first line
pub says_first : (held holds : Option Bytes) (port sessions : ℕ) → Appends held holds (first_line port) → SaysPart held holds sessions
says_first held holds port sessions appended = (port, 0, (first_line port, (last_line sessions 0, refl), appended))

-- the first line and a beginning of the last one
pub says_more : (held mid holds : Option Bytes) (port sessions answers : ℕ) → Appends held mid (first_line port) → Begins mid holds (last_line sessions answers) → SaysPart held holds sessions
says_more held mid holds port sessions answers first (written, (lost, parts), appended) =
    let whole = append_assoc (first_line port) written lost ∙ ap (λ (text : Bytes). first_line port ++ text) parts in
    (port, answers, (first_line port ++ written, (lost, whole), Appends-trans held mid holds (first_line port) written first appended))

-- both lines
pub says_all : (held mid holds : Option Bytes) (port sessions answers : ℕ) → Appends held mid (first_line port) → Appends mid holds (last_line sessions answers) → SaysAll held holds sessions
says_all held mid holds port sessions answers first last = (port, answers, Appends-trans held mid holds (first_line port) (last_line sessions answers) first last)

-- why a line after others isn't whole
pub cause_of : (before mid after : Option ℕ) (e : ServerFault) → NoFewer before mid → IsOfWriting (Failed mid after) e → HasCause (Failed before after) e
cause_of before mid after Memory none h = tt
cause_of before mid after (Output error) none h = then-Failed before mid after none h
cause_of before mid after e none h = absurd h

-- and why the first one isn't
pub cause_at : (before after : Option ℕ) (e : ServerFault) → IsOfWriting (Failed before after) e → HasCause (Failed before after) e
cause_at before after Memory h = tt
cause_at before after (Output error) h = h
cause_at before after e h = absurd h
