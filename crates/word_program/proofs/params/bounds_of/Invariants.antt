-- The words so far have bounds, and those that are left decide.
use Rattle.std.proofs.Common.{◌≡◌, ◌-◌, ◌++◌, map}
use Rattle.std.specs.Prelude.{is_some, unwrap_or}
use Rattle.std.specs.List.{list_all, range_with_len}
use Rattle.word_program.specs.Program.{full}
use Rattle.word_program.specs.Rules.{bound_at}
use Rattle.word_program.proofs.params.bounds_of.Given as goal

abbrev pub invariant-loop-number : goal.invariant-loop-number
invariant-loop-number l = record {
  test : list_all (λ n. is_some (bound_at l.datatype l.param n)) (range_with_len 0 l.datatype.words) ≡ list_all
      (λ n. is_some (bound_at l.datatype l.param n)) (range_with_len l.number (l.datatype.words - l.number));
  bounds : map (λ n. unwrap_or (bound_at l.datatype l.param n) full) (range_with_len 0 l.datatype.words) ≡ l.bounds
      ++ map (λ n. unwrap_or (bound_at l.datatype l.param n) full)
      (range_with_len l.number (l.datatype.words - l.number));
}
