use Rattle.mt_arena.proofs.NextBegins.{next_begins, ends_at_key}
use Rattle.mt_arena.proofs.laws.a_next_node_begins_at_a_key.Goals as goal

pub returns-clause-next : goal.returns-clause-next
returns-clause-next c = λ nodes trees k x arena there live border is. next_begins nodes trees k arena there live border x is

pub returns-clause-high : goal.returns-clause-high
returns-clause-high c = λ nodes trees k high arena there live border range some. ends_at_key nodes trees k arena there live border high range some
