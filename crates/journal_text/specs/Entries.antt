-- How the code reads; no part of a promise. The line of an entry.
use Rattle.std.specs.Prelude.{ℕ, Bool, true, false, List, Option, Some, None, nat_le, codes, if◌then◌else◌}
use Rattle.std.specs.Str.{bytes_eq}
use Rattle.base.specs.Options.{◌>>=◌, guard, pick}
use Rattle.mutations.specs.declared.mutation.Draw.{Draw}
use Rattle.mutations.specs.declared.mutation.Draw.TheVariants.{One, Two}
use Rattle.mutations.specs.declared.mutation.Mutation.{Mutation}
use Rattle.mutations.specs.declared.mutation.Mutation.TheVariants.{Move, Template, Swap, Load, Chain}
use Rattle.journal_rules.specs.declared.journal.Entry.{Entry}
use Rattle.journal_text.specs.declared.limits.TheConstants.{MAX_COST, MAX_LANE, MAX_TURN, MAX_SEEN, MAX_SLOT}
use Rattle.journal_text.specs.declared.limits.TheConstants.{MAX_TEMPLATE, MAX_CHAIN}
use Rattle.journal_text.specs.Fields.{after, number_to}

-- a slot, and a number that is at most `max`
unfoldable pub pair_to : ℕ → List ℕ → Option (ℕ × ℕ × List ℕ)
pair_to max text = number_to 32 MAX_SLOT text
    >>= (λ slot. number_to 32 max slot.1 >>= (λ number. Some (slot.0, number.0, number.1)))

unfoldable pub move_at : List ℕ → Option (Mutation × List ℕ)
move_at text = pair_to MAX_SLOT text >>= (λ p. Some (Move p.0 p.1, p.2))

unfoldable pub template_at : List ℕ → Option (Mutation × List ℕ)
template_at text = pair_to MAX_TEMPLATE text >>= (λ p. Some (Template p.0 p.1, p.2))

unfoldable pub swap_at : List ℕ → Option (Mutation × List ℕ)
swap_at text = number_to 32 MAX_SLOT text >>= (λ p. Some (Swap p.0, p.1))

unfoldable pub load_at : List ℕ → Option (Mutation × List ℕ)
load_at text = number_to 32 MAX_SLOT text >>= (λ p. Some (Load p.0, p.1))

abbrev pub has_chains : Draw → Bool
has_chains One = false
has_chains Two = true

unfoldable pub chain_at : Draw → List ℕ → Option (Mutation × List ℕ)
chain_at draw text = if has_chains draw then
    pair_to MAX_CHAIN text >>= (λ p. guard (nat_le 1 p.1) (Chain p.0 p.1, p.2))
    else None

-- a mutation, and what stands behind its last space
unfoldable pub mutation_at : Draw → List ℕ → Option (Mutation × List ℕ)
mutation_at draw text =
    pick (after (codes "move ") text) move_at
    (pick (after (codes "template ") text) template_at
    (pick (after (codes "swap ") text) swap_at
    (pick (after (codes "load ") text) load_at
    (after (codes "chain ") text >>= chain_at draw))))

unfoldable pub mark_of : List ℕ → Option Bool
mark_of text = if bytes_eq text (codes "plain\n") then Some true else guard (bytes_eq text (codes "fast\n")) false

-- the lane, the turn and what was seen, and what stands behind them
unfoldable pub place_at : List ℕ → Option (ℕ × ℕ × ℕ × List ℕ)
place_at line = after (codes "entry ") line
    >>= (λ rest. number_to 32 MAX_LANE rest
    >>= (λ lane. number_to 32 MAX_TURN lane.1
    >>= (λ turn. number_to 32 MAX_SEEN turn.1
    >>= (λ seen. Some (lane.0, turn.0, seen.0, seen.1)))))

unfoldable pub entry_of : Draw → List ℕ → Option Entry
entry_of draw line = place_at line
    >>= (λ place. mutation_at draw place.3
    >>= (λ mutation. number_to 32 MAX_COST mutation.1
    >>= (λ cost. mark_of cost.1
    >>= (λ plain. Some (record {
      lane = place.0;
      turn = place.1;
      seen = place.2;
      mutation = mutation.0;
      cost = cost.0;
      plain = plain;
    })))))
