-- What was lawful between two steps is so over later ones, since no later change changes an earlier map.
use Rattle.std.proofs.Common.{arith}
use Rattle.mt_crashes.{specs.Histories.map_upto, proofs.Walking.{walks_more, walks_wider, walks_end, walked_wider, map_before}}
use Rattle.mt_crashes.proofs.laws.a_walk_goes_on.Goals as goal

pub returns-clause-page : goal.returns-clause-page
returns-clause-page c maps from to count start next last after next_after pages page w lawful has =
    walks_more maps from to count start after pages next next_after page last w lawful has

pub returns-clause-later : goal.returns-clause-later
returns-clause-later c from to later count t history p start next after next_after pages le over w =
    walks_wider (λ m. map_upto m history t) _ from to later count start after pages next next_after le (λ m b. map_before m t history p (omega (arith, b, over))) w

pub returns-clause-end : goal.returns-clause-end
returns-clause-end c maps from to count start next after next_after pages page w lawful short =
    walks_end maps from to count start after pages next next_after page w lawful short

pub returns-clause-whole : goal.returns-clause-whole
returns-clause-whole c from to later count t history p start after pages le over w =
    walked_wider (λ m. map_upto m history t) _ from to later count start after pages le (λ m b. map_before m t history p (omega (arith, b, over))) w
