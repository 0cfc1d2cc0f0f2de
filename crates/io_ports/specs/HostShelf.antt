-- The two counts of a `HostShelf`, which are all that it tells.
use Rattle.std.specs.Prelude.{ℕ}
use Rattle.io_ports.specs.declared.host.HostShelf.{HostShelf}

-- how many calls of `load`, `store` and `say` there were
abbrev pub call_count_of : {R S T : Type 0} → HostShelf R S T → ℕ
call_count_of s = s.counts.calls

-- how many of them failed
abbrev pub fault_count_of : {R S T : Type 0} → HostShelf R S T → ℕ
fault_count_of s = s.counts.faults
