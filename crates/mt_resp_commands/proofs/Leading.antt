-- What was asked for one thing, as exchanges.
use Rattle.std.proofs.Common.{◌≢◌, refl}
use Rattle.mt_caller.specs.Exchanges.{CallerRelation}
use Rattle.mt_resp.specs.declared.asked.Asked.{Asked}
use Rattle.mt_resp.specs.declared.asked.Asked.TheVariants as asks
use Rattle.mt_resp_commands.specs.{Links.ButSettles, Answers.AskedFor}
use Rattle.mt_resp_commands.specs.Links as links
use Rattle.mt_resp_commands.proofs.Asking.{asked_of_all}

module _ {S : Type 0} (exchanges : CallerRelation S) where
  pub led_for : (asked : Asked) (s t : S) → AskedFor exchanges asked s t → links.Asked exchanges s t × (asked ≢ asks.Settle → links.Asked (ButSettles exchanges) s t)
  led_for asks.Settle s t a = (a, λ other. absurd (other refl))
  led_for (asks.Told one) s t a = (asked_of_all exchanges s t a, λ _. a)
  led_for (asks.Select number) s t a = (asked_of_all exchanges s t a, λ _. a)
  led_for asks.Reset s t a = (asked_of_all exchanges s t a, λ _. a)
  led_for asks.Quit s t a = (asked_of_all exchanges s t a, λ _. a)
  led_for asks.Close s t a = (asked_of_all exchanges s t a, λ _. a)
  led_for (asks.Call command shape) s t a = (asked_of_all exchanges s t a, λ _. a)
  led_for (asks.Pick command indexes) s t a = (asked_of_all exchanges s t a, λ _. a)
  led_for (asks.Each commands shape) s t a = (asked_of_all exchanges s t a, λ _. a)
  led_for (asks.Sum commands shape) s t a = (asked_of_all exchanges s t a, λ _. a)
  led_for (asks.All commands shape) s t a = (asked_of_all exchanges s t a, λ _. a)
  led_for (asks.Change key edit) s t a = (asked_of_all exchanges s t a, λ _. a)
  led_for (asks.Take key) s t a = (asked_of_all exchanges s t a, λ _. a)
  led_for (asks.Scan cursor pattern count) s t a = (asked_of_all exchanges s t a, λ _. a)
  led_for (asks.Range from way count stamps) s t a = (asked_of_all exchanges s t a, λ _. a)
  led_for (asks.Clear counted) s t a = (asked_of_all exchanges s t a, λ _. a)
  led_for (asks.Status status) s t a = (asked_of_all exchanges s t a, λ _. a)
