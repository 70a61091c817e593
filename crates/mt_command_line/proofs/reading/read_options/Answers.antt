use Rattle.std.proofs.Common.{◌≡◌, ◌∙◌, refl, sym, true, false, inl, inr, subst, arith, codes}
use Rattle.clap.specs.Words.{app_of, IsAmong, kind_of}
use Rattle.mt_command_line.{specs.CommandLine.server, proofs.{CommandLemmas.{simple, free, found, faults}, MatchLemmas.parted, RuleLemmas.{large_number_if_any, number_found, number_if_any}}}
use Rattle.mt_command_line.proofs.reading.read_options.Goals as goal

pub returns-in-Ok : goal.returns-in-Ok
returns-in-Ok c =
    let command = c.in_ok-command.command in
    let is : app_of command ≡ server = c.in_ok-command.ensures in
    let number = number_found command is c.in-Ok.matches c.in-Ok.ensures.parsed in
    let end = parted c.options_of.result _ _ (c.options_of.ensures _ (record {
      faultless = sym (faults _ _ is) ∙ c.in-Ok.ensures.kinds (free _ is);
      rows = (c.in-Ok.ensures.matches (simple _ is)).0 ∙ found _ _ is;
      port = number 0 0 65535 (codes "port") (codes "7411") (omega arith) refl (refl, refl, refl);
      workers = number 1 1 64 (codes "workers") (codes "4") (omega arith) refl (refl, refl, refl);
      sessions = number 2 0 4294967295 (codes "sessions") (codes "0") (omega arith) refl (refl, refl, refl);
      connections = number 9 1 65536 (codes "connections") (codes "1") (omega arith) refl (refl, refl, refl);
      idle = number 10 0 4294967 (codes "idle") (codes "0") (omega arith) refl (refl, refl, refl);
      may = record {
        checkpoint = number_if_any command is c.in-Ok.matches c.in-Ok.ensures.parsed 5 0 4294967295 (codes "checkpoint") (omega arith) refl (refl, refl, refl);
        bytes =
            large_number_if_any command is c.in-Ok.matches c.in-Ok.ensures.parsed 6 0 18446744073709551615 (codes "checkpoint-bytes") (omega arith) refl (refl, refl, refl);
        settle = number_if_any command is c.in-Ok.matches c.in-Ok.ensures.parsed 7 0 4294967295 (codes "settle-every") (omega arith) refl (refl, refl, refl);
      };
    })) in
    record { ok = end.0; err = end.1 }

pub returns-else-eq-clause-err : goal.returns-else-eq-clause-err
returns-else-eq-clause-err c =
    let is : app_of c.in_ok-command.command ≡ server = c.in_ok-command.ensures in
    elim (c.in-Err.ensures.kinds (free _ is)) [
      | inl memory ↦
          let same : c.eq.result ≡ true = rw (c.kind.ensures, memory) at c.eq.ensures in
          let bad : true ≡ false = sym same ∙ c.if-eq.false in
          cc
      | inr among ↦ subst (IsAmong (kind_of c.in-Err.error)) (faults _ _ is) among
    ]
