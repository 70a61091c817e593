use Rattle.std.{proofs.Common.{◌≡◌, ◌∙◌, arith, codes, subst, ℕ}, specs.Str.Parse.{ParsesUnsigned, ExplainsUnsignedError, HasUnsignedDigitsIfOk}}
use Rattle.clap.specs.Words.{found_of}
use Rattle.mt_command_line.{specs.{CommandLine.found_in, Given.IsGiven}, proofs.MatchLemmas.number_is}
use Rattle.mt_command_line.proofs.reading.connections_of.Goals.{else-connections-eq1-via-then-connections-eq1+else-idle-ne0, else-connections-eq1-via-else-connections-eq1}
use Rattle.mt_command_line.proofs.reading.connections_of.Goals as goal

pub returns-then-idle-ne0-clause-asked : goal.returns-then-idle-ne0-clause-asked
returns-then-idle-ne0-clause-asked c = λ words are.
    let found = found_of c.args.matches.now in
    let connections = number_is _ (λ bs r. ParsesUnsigned 32 10 bs r × ExplainsUnsignedError 10 bs r × HasUnsignedDigitsIfOk bs r) 32 1 65536 1
    found (codes "connections") (found_in words) c.get_one.result (λ t x g. g.0) (omega arith) c.get_one.ensures.value are.connections are.rows in
    let idle = number_is _ (λ bs r. ParsesUnsigned 32 10 bs r × ExplainsUnsignedError 10 bs r × HasUnsignedDigitsIfOk bs r) 32 0 4294967 0
    found (codes "idle") (found_in words) c.get_one-2.result (λ t x g. g.0) (omega arith) c.get_one-2.ensures.value are.idle are.rows in
    let given : IsGiven (codes "connections") 1 65536 (found_in words) c.unwrap_or.result = rw c.unwrap_or.ensures connections in
    let seconds : IsGiven (codes "idle") 0 4294967 (found_in words) c.unwrap_or-idle.result = rw c.unwrap_or-idle.ensures idle in
    let one : c.unwrap_or.result ≡ 1 = omega (arith, c.clamp-connections.ensures, given.4, given.5, c.if-connections-eq1.true) in
    let single = subst (λ (n : ℕ). IsGiven (codes "connections") 1 65536 (found_in words) n) one given in
    (are.faultless, (single, c.unwrap_or-idle.result, seconds, omega (arith, c.if-idle-ne0.true)))

pub returns-clause-asked : goal.returns-clause-asked
returns-clause-asked c = λ words are.
    let found = found_of c.args.matches.now in
    let connections = number_is _ (λ bs r. ParsesUnsigned 32 10 bs r × ExplainsUnsignedError 10 bs r × HasUnsignedDigitsIfOk bs r) 32 1 65536 1
    found (codes "connections") (found_in words) c.get_one.result (λ t x g. g.0) (omega arith) c.get_one.ensures.value are.connections are.rows in
    let idle = number_is _ (λ bs r. ParsesUnsigned 32 10 bs r × ExplainsUnsignedError 10 bs r × HasUnsignedDigitsIfOk bs r) 32 0 4294967 0
    found (codes "idle") (found_in words) c.get_one-2.result (λ t x g. g.0) (omega arith) c.get_one-2.ensures.value are.idle are.rows in
    let given : IsGiven (codes "connections") 1 65536 (found_in words) c.unwrap_or.result = rw c.unwrap_or.ensures connections in
    let same : c.clamp-connections.result ≡ c.unwrap_or.result = c.clamp-connections.ensures ∙ omega (arith, given.4, given.5) in (
      rw same given,
      (
        rw c.unwrap_or-idle.ensures idle,
        λ one. elim c.else-connections-eq1.branch [
          | else-connections-eq1-via-then-connections-eq1+else-idle-ne0 w ↦ omega (arith, w.if-idle-ne0.false)
          | else-connections-eq1-via-else-connections-eq1 w ↦ absurd (omega (arith, one, w.if-connections-eq1.false))
        ],
      ),
    )
