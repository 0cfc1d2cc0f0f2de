-- That the states of a run follow one another by steps.
use Rattle.std.proofs.Common.{subst, slice_get, Some, ◌≡◌, suc, ◌+◌, arith}
use Rattle.x86_meaning.specs.Runs.{states_of}
use Rattle.x86_meaning.proofs.RunStates.{first_of_states, last_of_states, states_follow}
use Rattle.x86_meaning.proofs.run_laws.states_follow_by_steps.Goals as goal

pub returns-clause-first : goal.returns-clause-first
returns-clause-first c = first_of_states

pub returns-clause-last : goal.returns-clause-last
returns-clause-last c = last_of_states

pub returns-clause-between : goal.returns-clause-between
returns-clause-between c = λ lines s n t e.
    let next : n + 1 ≡ suc n = omega arith in
    states_follow lines s n t (subst (λ k. slice_get (states_of lines s) k ≡ Some t) next e)
