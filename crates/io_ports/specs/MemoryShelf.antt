-- What a `MemoryShelf` has: its files by name, its output, its two counts, and the numbers of the calls that are to
-- fail. The words are this project's own.
use Rattle.std.specs.Prelude.{ℕ, List, Contains, option_map}
use Rattle.std.specs.declared.option.Option.{Option}
use Rattle.std.specs.BTreeMap.{get_by_text}
use Rattle.io_ports.specs.declared.memory.MemoryShelf.{MemoryShelf}

-- the bytes of the file of that name, if it is there
abbrev pub file_of : MemoryShelf → List ℕ → Option (List ℕ)
file_of s name = option_map (λ v. v.items) (get_by_text s.files name)

-- all that was said
abbrev pub output_of : MemoryShelf → List ℕ
output_of s = s.output.items

-- how many calls of `load`, `store` and `say` there were, which is the number of the next one
abbrev pub call_of : MemoryShelf → ℕ
call_of s = s.counts.calls

-- how many of them failed
abbrev pub fault_count_of : MemoryShelf → ℕ
fault_count_of s = s.counts.faults

-- the numbers of the calls that are to fail
abbrev pub failing_calls_of : MemoryShelf → List ℕ
failing_calls_of s = s.fails.items

-- the next call is to fail
abbrev pub IsToFail : MemoryShelf → Type 0
IsToFail s = Contains (failing_calls_of s) (call_of s)
